-- What slots hold, as a line tells it and as a script sees it.
use Rattle.std.proofs.Common.{◌≡◌, ◌<◌, ℕ, zero, suc, ◌+◌, Bool, true, false, cond, List, [], ◌∷◌, ◌++◌, length, get_or, Option, Some, None, Result, Ok, Err, refl, sym, ap, ◌∙◌, subst, arith}
use Rattle.std.specs.Prelude.{All, IfSome, IsSome, OnOk, is_some, option_map, replicate, slice_set}
use Rattle.std.proofs.Math.ListN.{get_or-map}
use Rattle.std.proofs.lemmas.List.{length-append, length-set, map-set, replicate_more, take-append-le, take_all}
use Rattle.std.proofs.lemmas.List.Elements.{All-replicate, All-set, All-weaker}
use Rattle.lethe_base.specs.History.{History}
use Rattle.lethe_disk.specs.declared.disk.Disk.{Ghosts}
use Rattle.lethe_snapshot.specs.Points.{IsOf}
use Rattle.lethe_snapshot.specs.declared.snapshot.Snapshot.{Snapshot}
use Rattle.lethe_stored.specs.Left.{without_failed}
use Rattle.lethe_script.specs.Slots.{is_held, none_held}
use Rattle.lethe_run.specs.Holding.{AreShown, AreTen, IsShown, held_at, held_for, held_in, pin_of, slots_for, slots_of}
use Rattle.lethe_run.specs.Slots.{no_slots, pin_in}

module _ {D Page Port : Type 0} {kind : Ghosts D Page Port} (held : List (Option (Snapshot D Page Port kind))) where
  -- One slot

  pub pin_at : (slot : ℕ) (snapshot : Option (Snapshot D Page Port kind)) → get_or held slot None ≡ snapshot → pin_in (slots_of held) slot ≡ option_map pin_of snapshot
  pin_at slot snapshot is = get_or-map (option_map pin_of) held slot None ∙ ap (option_map pin_of) is

  pub one_held : (slot : ℕ) (snapshot : Option (Snapshot D Page Port kind)) → get_or held slot None ≡ snapshot → is_held (held_in held) slot ≡ is_some snapshot
  one_held slot snapshot is = get_or-map is_some held slot None ∙ ap is_some is

  -- What they show

  pub shown_later : (h more : History) → AreShown h held → AreShown (h ++ more) held
  shown_later h more = All-weaker (λ snapshot. IfSome snapshot (IsShown h)) (λ snapshot. IfSome snapshot (IsShown (h ++ more))) each held
    where
      each : (snapshot : Option (Snapshot D Page Port kind)) → IfSome snapshot (IsShown h) → IfSome snapshot (IsShown (h ++ more))
      each None is = tt
      each (Some snapshot) is = record {
        within = let within = is.within in omega (arith, within, length-append h more);
        shows = subst (λ (l : History). IsOf (without_failed l) snapshot) (sym (take-append-le snapshot.point h more is.within)) is.shows;
      }

  pub shown_at : (h : History) (slot : ℕ) → slot < length held → (snapshot : Snapshot D Page Port kind) → get_or held slot None ≡ Some snapshot → AreShown h held → IsShown h snapshot
  shown_at h slot within snapshot is shown = subst (λ snapshot. IfSome snapshot (IsShown h)) is (shown slot None within)

  pub shown_set : (h : History) (slot : ℕ) (snapshot : Option (Snapshot D Page Port kind)) → IfSome snapshot (IsShown h) → AreShown h held → AreShown h (slice_set held slot snapshot)
  shown_set h slot snapshot = All-set (λ snapshot. IfSome snapshot (IsShown h)) held slot snapshot

  module _ (left : List (Option (Snapshot D Page Port kind))) (slot : ℕ) (snapshot : Option (Snapshot D Page Port kind)) (set : left ≡ slice_set held slot snapshot) where
    -- A pin is made, or let go

    pub held_set : held_in left ≡ slice_set (held_in held) slot (is_some snapshot)
    held_set = ap held_in set ∙ map-set is_some held slot snapshot

    pub slots_set : slots_of left ≡ slice_set (slots_of held) slot (option_map pin_of snapshot)
    slots_set = ap slots_of set ∙ map-set (option_map pin_of) held slot snapshot

    pub ten_set : length held ≡ 10 → length left ≡ 10
    ten_set ten = ap length set ∙ length-set held slot snapshot ∙ ten

-- one of now does
pub shown_now : {D Page Port : Type 0} {kind : Ghosts D Page Port} (h : History) (snapshot : Snapshot D Page Port kind) → snapshot.point ≡ length h → IsOf (without_failed h) snapshot → IsShown h snapshot
shown_now h snapshot at is = record {
  within = omega (arith, at);
  shows = subst (λ (l : History). IsOf (without_failed l) snapshot) (sym (take_all snapshot.point h (omega (arith, at)))) is;
}

-- At first no slot holds one

get_or-replicate : {X : Type 0} (n : ℕ) (x : X) (index : ℕ) → get_or (replicate n x) index x ≡ x
get_or-replicate zero x index = refl
get_or-replicate (suc n) x zero = refl
get_or-replicate (suc n) x (suc index) = get_or-replicate n x index

module _ {D Page Port : Type 0} {kind : Ghosts D Page Port} (held : List (List (Option (Snapshot D Page Port kind)))) (none : held ≡ replicate 8 (replicate 10 None)) where
  pub none_shown : (h : History) → All (AreShown h) held
  none_shown h = subst (All (AreShown h)) (sym none) (All-replicate (AreShown h) 8 (replicate 10 None) (All-replicate (λ snapshot. IfSome snapshot (IsShown h)) 10 None tt))

  pub none_ten : AreTen held
  none_ten = record { eight = ap length none; ten = subst (All (λ own. length own ≡ 10)) (sym none) (All-replicate (λ own. length own ≡ 10) 8 (replicate 10 None) refl) }

  none_at : (index : ℕ) → held_at held index ≡ replicate 10 None
  none_at index = ap (λ held. held_at held index) none ∙ get_or-replicate 8 (replicate 10 None) index

  pub no_slots_for : (caller : ℕ) → slots_for caller held ≡ no_slots
  no_slots_for zero = refl
  no_slots_for (suc index) = ap slots_of (none_at index)

  pub none_for : (caller : ℕ) → held_for caller held ≡ none_held
  none_for zero = refl
  none_for (suc index) = ap held_in (none_at index)

-- A slot is as an act needs it

held_if : {X : Type 0} (b : Bool) (x : X) → IsSome (cond b (Some x) None) → b ≡ true
held_if true x is = refl
held_if false x is = is

free_if : {X : Type 0} (b : Bool) (x : X) → IsSome (cond b None (Some x)) → b ≡ false
free_if true x is = absurd (let clash : false ≡ true = is in cc)
free_if false x is = refl

pub none_if : {X : Type 0} (o : Option X) → is_some o ≡ false → o ≡ None
none_if None is = refl
none_if (Some x) is = absurd (let clash : true ≡ false = is in cc)

pub on_ok : {T E P : Type 0} (r : Result T E) → P → OnOk r P
on_ok (Ok x) p = p
on_ok (Err e) p = tt

module _ {D Page Port : Type 0} {kind : Ghosts D Page Port} (held : List (Option (Snapshot D Page Port kind))) (slot : ℕ) (next : List Bool) where
  pub finds_free : IsSome (cond (is_held (held_in held) slot) None (Some next)) → get_or held slot None ≡ None
  finds_free is = none_if (get_or held slot None) (sym (one_held held slot (get_or held slot None) refl) ∙ free_if (is_held (held_in held) slot) next is)

  pub finds_held : IsSome (cond (is_held (held_in held) slot) (Some next) None) → is_some (get_or held slot None) ≡ true
  finds_held is = sym (one_held held slot (get_or held slot None) refl) ∙ held_if (is_held (held_in held) slot) next is

  pub behind_free : get_or held slot None ≡ None → cond (is_held (held_in held) slot) None (Some next) ≡ Some next
  behind_free free = ap (λ b. cond b None (Some next)) (one_held held slot None free)

  pub behind_held : is_some (get_or held slot None) ≡ true → cond (is_held (held_in held) slot) (Some next) None ≡ Some next
  behind_held there = ap (λ b. cond b (Some next) None) (one_held held slot (get_or held slot None) refl ∙ there)

-- one more slot that holds none
pub free_more : {X : Type 0} (held left : List (Option X)) (n : ℕ) → left ≡ held ++ None ∷ [] → held ≡ replicate n None → left ≡ replicate (n + 1) None
free_more held left n pushed none = pushed ∙ ap (λ l. l ++ None ∷ []) none ∙ replicate_more n None
