-- A store that was opened.
use Rattle.std.proofs.Common.{◌≡◌, ◌≤◌, ◌+◌, ◌⊎◌, inl, inr, ℕ, List, [], ◌++◌, length, Option, refl, sym, ap, ◌∙◌, subst, arith}
use Rattle.std.specs.Prelude.{◌≢◌, All, IsTrue, false, true}
use Rattle.std.proofs.lemmas.List.Elements.{All-nil}
use Rattle.lethe_base.specs.History.{History, Change}
use Rattle.lethe_base.specs.declared.config.Fields.{Fields}
use Rattle.lethe_base.specs.declared.name.Kind.TheVariants.{Page}
use Rattle.lethe_base.specs.declared.name.Name.{Name}
use Rattle.lethe_disk.specs.Disk.{Seen}
use Rattle.lethe_disk.specs.Quiet.{IsQuiet}
use Rattle.lethe_commit.specs.Append.{EndsAt}
use Rattle.lethe_load.specs.Refused.{HasReason}
use Rattle.lethe_load.specs.declared.refused.RecoverRefused.{RecoverRefused}
use Rattle.lethe_load.specs.declared.refused.RecoverRefused.TheVariants as load
use Rattle.lethe_recover.specs.Opening.{MayNotOpen}
use Rattle.lethe_recover.specs.declared.opening.OpenWhy.{OpenWhy}
use Rattle.lethe_recover.specs.declared.opening.OpenWhy.TheVariants.{Damaged, OtherConfig, Fault, Exhausted, NoMemory}
use Rattle.lethe_stored.specs.Files.{Parts}
use Rattle.lethe_stored.specs.Kept.{IsFor, IsKept}
use Rattle.lethe_stored.specs.Left.{IsHistoryOr}
use Rattle.lethe_stored.specs.Levels.{AreRising}
use Rattle.lethe_stored.specs.Numbers.{IsNextNumber}
use Rattle.lethe_stored.specs.Stored.{Stored, IsCited, segment_name}
use Rattle.lethe_tile.proofs.Orders.{pairs_nil}
use Rattle.lethe_advance.specs.Settled.{AreDrawn, AreUncited, IsSettled, HasOnly, names_in}
use Rattle.lethe_advance.specs.Untorn.{IsUntorn}
use Rattle.lethe_follows.specs.Young.{AreLaterRecorded}
use Rattle.lethe_manifest.specs.declared.manifest.Manifest.{Manifest}
use Rattle.lethe_state.specs.Remembered.{IsCurrent, IsFresh, Remembers}
use Rattle.lethe_state.specs.Room.{frozen_len}
use Rattle.lethe_state.specs.Writable.{IsWritable}
use Rattle.lethe_state.specs.declared.state.State.{State}
use Rattle.lethe_engine.specs.Opening.{IsResumed, IsUntold}
use Rattle.lethe_pins.specs.Held.{AreHeld, Ascend, ComesBefore, Held, IsGiven, is_named}
use Rattle.lethe_pins.specs.declared.pin.Pin.{Pin}
use Rattle.lethe_core.specs.Pinned.{AreTimely}
use Rattle.lethe_core.specs.Running.{IsCopiedFrom, IsRunning, IsSmall, IsTasked}
use Rattle.lethe_core.specs.StandsNow.{IsCounted}
use Rattle.lethe_core.specs.View.{Flying, View, beside_at, loose_in}
use Rattle.lethe_engine.proofs.Onward.{opened_for}
use Rattle.lethe_core.proofs.Beside.{none_drawn}
use Rattle.lethe_core.proofs.Standing.{open_stands}
use Rattle.lethe_core.proofs.Timely.{timely_none}

-- no pin is held, and none was made
abbrev pub unpinned : Held
unpinned = record { pins = []; made = 0 }

-- so what is held is in order
pub held_none : (held : Held) → held ≡ unpinned → AreHeld held
held_none held none = subst AreHeld (sym none) (record {
  made = omega arith;
  given = All-nil (IsGiven 0);
  once = pairs_nil (λ (pin other : Pin). pin.number ≢ other.number);
  ordered = pairs_nil ComesBefore;
  names = All-nil (λ (pin : Pin). Ascend pin.names);
})

-- and names pages alone
pub pages_none : (held : Held) → held ≡ unpinned → All (λ (pin : Pin). All (λ name. name.kind ≡ Page) pin.names) held.pins
pages_none held none = subst (λ (held : Held). All (λ (pin : Pin). All (λ name. name.kind ≡ Page) pin.names) held.pins) (sym none) (All-nil (λ (pin : Pin). All (λ name. name.kind ≡ Page) pin.names))

-- no job is in flight
abbrev pub fresh_view : Seen → ℕ → List Name → List Flying → Held → ℕ → ℕ → State → List (List Parts) → View
fresh_view disk faults retired flights held begun rounds state levels = record { disk = disk; faults = faults; state = state; levels = levels; retired = retired; flights = flights; begun = begun; rounds = rounds; pins = held }

pub opened_running : (disk : Seen) (faults : ℕ) (retired : List Name) → retired ≡ [] → (flights : List Flying) → flights ≡ [] → (held : Held) → held ≡ unpinned → (begun rounds : ℕ) (s : Stored) (state : State) (levels : List (List Parts))
    → IsSettled disk s → HasOnly s [] disk.directory → IsUntorn s disk.directory → AreRising s.files → s.active.records ≡ []
    → EndsAt disk (segment_name s.active.no) s.active.no [] 11 → state.end ≡ 11 → IsCurrent s state → IsRunning (fresh_view disk faults retired flights held begun rounds state levels) s
opened_running disk faults retired empty flights free held unheld begun rounds s state levels settled only untorn rising none ends end_is current = subst (λ (flights : List Flying). IsRunning (fresh_view disk faults retired flights held begun rounds state levels) s) (sym free) (record {
  settled = settled;
  only = subst (λ retired. HasOnly s (beside_at disk.directory retired []) disk.directory) (sym empty) only;
  uncited = subst (λ retired. AreUncited s (beside_at disk.directory retired [])) (sym empty) (All-nil (λ (named : Name × List ℕ). IsCited s named.0 → ⊥));
  untorn = untorn;
  copied = All-nil IsCopiedFrom;
  kept = λ name named. absurd (let none : false ≡ true = subst (λ (held : Held). IsTrue (is_named held.pins name)) unheld named in cc);
  rising = rising;
  ends = subst (EndsAt disk (segment_name s.active.no) s.active.no s.active.records) (sym end_is) (subst (λ records. EndsAt disk (segment_name s.active.no) s.active.no records 11) (sym none) ends);
  current = current;
  tasked = All-nil (IsTasked s);
})

pub resumed : (config : Fields) (h g : History) (change : Option Change) (start finish : Seen) (faults : ℕ) (retired : List Name) → retired ≡ [] → (flights : List Flying) → flights ≡ [] → (held : Held) → held ≡ unpinned → (begun rounds : ℕ) (s : Stored) (state : State) (levels : List (List Parts))
    → IsHistoryOr h change g → IsKept config start.directory g → IsWritable state
    → IsRunning (fresh_view finish faults retired flights held begun rounds state levels) s → Remembers s state levels → s.manifest.config ≡ config → IsFor g s → AreLaterRecorded s
    → ((next : ℕ) → IsNextNumber start.directory next → state.next + start.moment ≤ next + finish.moment) → IsResumed config h change start (fresh_view finish faults retired flights held begun rounds state levels)
resumed config h g change start finish faults retired empty flights free held unheld begun rounds s state levels either was writable running remembers config_is stands recorded numbers =
    let view : View = fresh_view finish faults retired flights held begun rounds state levels in
    let counted = subst (All (λ (flying : Flying). IsCounted flying.task)) (sym free) (All-nil (λ (flying : Flying). IsCounted flying.task)) in
    let timely = subst (λ (names : List Name). AreTimely config.threshold g held.pins names finish.directory) (sym empty)
    (subst (λ (held : Held). AreTimely config.threshold g held.pins [] finish.directory) (sym unheld) (timely_none config.threshold g finish.directory)) in
    record {
      history = g;
      either = either;
      was = was;
      stands = λ next is. opened_for config g start next view
          (open_stands config g view s stands.legal stands.done (running.current.count ∙ stands.count) config_is stands (record { remembers = remembers; running = running }) counted recorded timely) empty running.current.runs writable (numbers next is);
    }

-- damage, another configuration and numbers that ran out leave the disk as it was
pub untouched_by : (Tells : Type 0) (config : Fields) (old new : Seen) (before now : ℕ) (why : OpenWhy) → Tells → MayNotOpen Tells config old.directory before now why
    → ((reason : RecoverRefused) → HasReason config old.directory reason → IsQuiet old new) → ((last : ℕ) → why ≡ Exhausted last → IsQuiet old new) → IsUntold why ⊎ IsQuiet old new
untouched_by Tells config old new before now (Damaged name) told may quiet full = inr (quiet (load.Damaged name) (may told))
untouched_by Tells config old new before now (OtherConfig kept) told may quiet full = inr (quiet (load.OtherConfig kept) (may told))
untouched_by Tells config old new before now (Fault told_before told_now) told may quiet full = inl tt
untouched_by Tells config old new before now (Exhausted last) told may quiet full = inr (full last refl)
untouched_by Tells config old new before now NoMemory told may quiet full = inl tt

-- a state without entries is small
pub small_fresh : (manifest : Manifest) (state : State) → IsFresh manifest state → IsSmall state
small_fresh manifest state is = record {
  active = let none : length state.active.entries ≡ 0 = ap length is.active in omega (arith, none);
  records = let none = is.records in omega (arith, none);
  frozen = let none : frozen_len state.frozen ≡ 0 = ap frozen_len is.frozen in omega (arith, none);
}

-- no number was drawn for what lies beside, where nothing does
pub drawn_none : (next : ℕ) (retired : List Name) (flights : List Flying) → retired ≡ [] → flights ≡ [] → AreDrawn next (retired ++ names_in (loose_in flights))
drawn_none next retired flights empty free =
    subst (λ retired. AreDrawn next (retired ++ names_in (loose_in flights))) (sym empty) (subst (λ flights. AreDrawn next (names_in (loose_in flights))) (sym free) (none_drawn next))
