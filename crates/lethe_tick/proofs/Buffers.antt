-- Both buffers are flushed.
use Rattle.std.proofs.Common.{◌≡◌, ◌≢◌, ◌<◌, ◌≤◌, inl, inr, ℕ, List, [], ◌∷◌, length, Result, Ok, Err, None, refl, sym, ap, subst, arith}
use Rattle.std.specs.Prelude.{IfErr, OnOk, sum_by}
use Rattle.lethe_base.specs.declared.refused.Refused.{Refused}
use Rattle.lethe_base.specs.declared.refused.Refused.TheVariants.{Fault, Stopped, Backwards, Pinned, NothingDue, Cancelled, Exhausted, ReadFault, NoMemory, Damaged}
use Rattle.lethe_build.specs.Drafts.{AreDraftsOf}
use Rattle.lethe_build.specs.declared.draft.Draft.{Draft}
use Rattle.lethe_build.specs.Built.{most_numbers}
use Rattle.lethe_build.specs.Drafts.{numbers_for}
use Rattle.lethe_manifest.specs.declared.manifest.Manifest.{Manifest}
use Rattle.lethe_merge.specs.Merge.{merged}
use Rattle.lethe_segment.specs.declared.record.Record.{Record}
use Rattle.lethe_state.specs.Records.{IsLike}
use Rattle.lethe_state.specs.Room.{AreDrafted, IsShortToFlush, IsShortToFreeze, buffered, frozen_len}
use Rattle.lethe_state.specs.declared.state.State.{State}
use Rattle.lethe_core.specs.Asked.{failure_of}
use Rattle.lethe_core.specs.Keeps.{Keeps}
use Rattle.lethe_core.specs.Reasons.{HasReason}
use Rattle.lethe_core.specs.View.{View}
use Rattle.lethe_core.proofs.Behind.{reason_behind}

-- Numbers that are short in a state are short in one that is like it

pub like_drafted : (old new : State) → IsLike old new → (drafts : List Draft) → AreDrafted old drafts → AreDrafted new drafts
like_drafted old new like drafts is = record {
  alone = is.alone;
  are = subst (λ (m : Manifest). AreDraftsOf m.config (merged (buffered new.frozen) new.pending is.alone) drafts) (sym like.manifest)
      (subst (λ erases. AreDraftsOf old.manifest.config (merged (buffered new.frozen) erases is.alone) drafts) (sym like.pending)
      (subst (λ frozen. AreDraftsOf old.manifest.config (merged (buffered frozen) old.pending is.alone) drafts) (sym like.frozen) is.are));
  few = subst (λ frozen. sum_by numbers_for drafts ≤ most_numbers (frozen_len frozen)) (sym like.frozen) is.few;
}

pub like_short_flush : (old new : State) → IsLike old new → IsShortToFlush old → IsShortToFlush new
like_short_flush old new like short =
    let next = like.next in
    let is = short.short in
    record { drafts = short.drafts; drafted = like_drafted old new like short.drafts short.drafted; short = omega (arith, next, is) }

pub like_short_freeze : (old new : State) → IsLike old new → IsShortToFreeze old → IsShortToFreeze new
like_short_freeze old new like short = let next = like.next in omega (arith, next, short)

-- a refusal that is told with another shortness, which is looked at only where the disk has not failed
pub reason_told : (Short Other : Type 0) (state : State) (before now : ℕ) (why : Refused) → (failure_of why ≡ None → Short → Other) → HasReason Short state before now why → HasReason Other state before now why
reason_told Short Other state before now (Exhausted last) wider is = (is.0, is.1, elim is.2 [ inl full ↦ inl full | inr short ↦ inr (wider refl short) ])
reason_told Short Other state before now (Fault place b a) wider is = is
reason_told Short Other state before now (Stopped at) wider is = is
reason_told Short Other state before now NoMemory wider is = is
reason_told Short Other state before now (Backwards clock) wider is = is
reason_told Short Other state before now (Pinned pin limit) wider is = is
reason_told Short Other state before now NothingDue wider is = is
reason_told Short Other state before now (Cancelled begun other) wider is = is
reason_told Short Other state before now (ReadFault b a) wider is = is
reason_told Short Other state before now (Damaged name) wider is = is

-- behind a step that was done it is a reason of the whole
pub reason_then : (Tells Short : Type 0) (old mid : View) (before now : ℕ) → Keeps Tells old mid None → (why : Refused) → HasReason Short mid.state before now why → HasReason Short old.state before now why
reason_then Tells Short old mid before now keeps = reason_behind Short Short old.state mid.state before now keeps.stopped keeps.count (λ short. short)

-- The active segment has a record or none

pub none_of : (records : List Record) → length records ≡ 0 → records ≡ []
none_of [] none = refl
none_of (first ∷ records) none = absurd (omega (arith, none))

pub some_of : (records : List Record) → 0 < length records → records ≢ []
some_of records some none = let few : length records ≡ 0 = ap length none in absurd (omega (arith, few, some))

-- what is so anyway
pub if_ok : {T E : Type 0} (result : Result T E) (P : Type 0) → P → OnOk result P
if_ok (Ok x) P is = is
if_ok (Err why) P is = tt

-- two facts of a refusal together
pub if_both : {T E : Type 0} (result : Result T E) (P Q R : E → Type 0) → ((why : E) → P why → Q why → R why) → IfErr result P → IfErr result Q → IfErr result R
if_both (Ok x) P Q R both p q = tt
if_both (Err why) P Q R both p q = both why p q
