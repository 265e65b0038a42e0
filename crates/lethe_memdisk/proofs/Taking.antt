-- Each call of a disk in memory is a device call.
use Rattle.std.proofs.Common.{◌≡◌, ◌+◌, ◌-◌, ◌≤◌, ◌^◌, ℕ, suc, Bool, true, false, cond, List, ◌∷◌, drop, refl, sym, ap, subst, ◌∙◌, arith}
use Rattle.std.specs.Prelude.{Result, Ok, Err, OnOk, IsErrOf, nat_lt, min, Option}
use Rattle.lethe_base.specs.Counts.{Rose}
use Rattle.lethe_disk.specs.Directory.{Directory}
use Rattle.lethe_disk.specs.Disk.{Image, IsSynced, Takes}
use Rattle.lethe_disk.specs.declared.disk.DiskRefused.{DiskRefused}
use Rattle.lethe_disk.specs.declared.disk.DiskRefused.TheVariants.{Failed, NoMemory}
use Rattle.lethe_memdisk.specs.Effects.{Effect, Created, Written, Removed, Synced, Nothing, after, Step, Images}
use Rattle.lethe_memdisk.specs.Past.{Kept, with_effect}
use Rattle.lethe_memdisk.specs.Images.{step_same, directory_image}
use Rattle.lethe_memdisk.specs.Held.{Held, calls_of, effects_at, seen_of, fails, taken, failed, Answers}

dropped : (effect : Effect) (effects : List Effect) (more less : ℕ) → more ≡ suc less → drop more (effect ∷ effects) ≡ drop less effects
dropped effect effects more less is = ap (λ n. drop n (effect ∷ effects)) is

-- the images now are those after all effects
to_now : (held : Held) (c : Directory) → Images held.start held.effects c → Image (seen_of held) c
to_now held c left = let none : 0 ≡ calls_of held - calls_of held = omega arith in subst (λ n. Images held.start (drop n held.effects) c) none left

from_now : (held : Held) (c : Directory) → Image (seen_of held) c → Images held.start held.effects c
from_now held c left = let none : calls_of held - calls_of held ≡ 0 = omega arith in subst (λ n. Images held.start (drop n held.effects) c) none left

stepped : (effect : Effect) (held : Held) (c : Directory) → Images held.start (effect ∷ held.effects) c → (d : Directory) × Image (seen_of held) d × Step effect d c
stepped (Created name bytes) held c left = (left.0, to_now held left.0 left.1, left.2)
stepped (Written name at bytes) held c left = (left.0, to_now held left.0 left.1, left.2)
stepped (Removed name) held c left = (left.0, to_now held left.0 left.1, left.2)
stepped Synced held c left = (after held.start held.effects, directory_image held, left)
stepped Nothing held c left = (left.0, to_now held left.0 left.1, left.2)

-- with one effect more
takes_one : {T : Type 0} (step : Directory → Directory → Type 0) (effect : Effect) (held : Held) (result : Result T DiskRefused) → ((d c : Directory) → Step effect d c → step d c) → (IsErrOf result NoMemory → ⊥)
    → Takes step result (seen_of held) (seen_of (taken effect held))
takes_one step effect held result weaker memory = record {
  later = omega arith;
  soon = omega arith;
  counted = one result;
  past = λ m c le.
      let same : effects_at (taken effect held) m ≡ effects_at held m = dropped effect held.effects _ _ (omega arith) in
      (λ left. subst (λ es. Images held.start es c) same left, λ left. subst (λ es. Images held.start es c) (sym same) left);
  images = λ c left.
      let d = stepped effect held c (from_now (taken effect held) c left) in
      (d.0, d.1, weaker d.0 c d.2);
  no_memory = λ refused. absurd (memory refused);
}
  where
    one : {T : Type 0} (r : Result T DiskRefused) → OnOk r (calls_of (taken effect held) ≡ calls_of held + 1)
    one (Ok x) = omega arith
    one (Err e) = tt

-- with nothing changed
takes_none : {T : Type 0} (effect : Effect) (held : Held) (e : DiskRefused) → Takes {T = T} (Step effect) (Err e) (seen_of held) (seen_of held)
takes_none effect held e = record {
  later = omega arith;
  soon = omega arith;
  counted = tt;
  past = λ m c le. (λ left. left, λ left. left);
  images = λ c left. (c, left, step_same effect c);
  no_memory = λ refused. (refl, refl);
}

-- where it was done
pub takes_taken : {T : Type 0} (effect : Effect) (old new : Held) (value : T) → new ≡ taken effect old → Takes (Step effect) (Ok value) (seen_of old) (seen_of new)
takes_taken effect old new value is = subst (λ held. Takes (Step effect) (Ok value) (seen_of old) (seen_of held)) (sym is) (takes_one (Step effect) effect old (Ok value) (λ d c step. step) (λ refused. cc))

-- where it failed
failed_takes : {T : Type 0} (effect : Effect) (held : Held) (b : Bool) (faults : ℕ) → Takes {T = T} (Step effect) (Err Failed) (seen_of held) (seen_of (record held { effects = cond b (Nothing ∷ held.effects) held.effects; faults = faults }))
failed_takes effect held true faults = takes_one (Step effect) Nothing held (Err Failed) (λ d c same. subst (Step effect d) (sym same) (step_same effect d)) (λ refused. cc)
failed_takes effect held false faults = takes_none effect held Failed

pub takes_failed : {T : Type 0} (effect : Effect) (old new : Held) → new ≡ failed old → Takes {T = T} (Step effect) (Err Failed) (seen_of old) (seen_of new)
takes_failed {T = T} effect old new is = subst (λ held. Takes {T = T} (Step effect) (Err Failed) (seen_of old) (seen_of held)) (sym is) (failed_takes {T = T} effect old (nat_lt (calls_of old) old.room) (min (old.faults + 1) (2 ^ 64 - 1)))

-- where there was no memory
pub takes_refused : {T : Type 0} (effect : Effect) (old new : Held) → new ≡ old → Takes {T = T} (Step effect) (Err NoMemory) (seen_of old) (seen_of new)
takes_refused {T = T} effect old new is = subst (λ held. Takes {T = T} (Step effect) (Err NoMemory) (seen_of old) (seen_of held)) (sym is) (takes_none {T = T} effect old NoMemory)

-- A disk by its parts

abbrev pub held_of : Kept → ℕ → ℕ → List ℕ → Option ℕ → ℕ → Held
held_of past earlier room failing fuse faults = record { start = past.start; earlier = earlier; effects = past.effects; room = room; failing = failing; fuse = fuse; faults = faults }

pub held_taken : (effect : Effect) (old : Held) (past new : Kept) (earlier room : ℕ) (failing : List ℕ) (fuse : Option ℕ) (faults : ℕ) → new ≡ with_effect effect past → held_of past earlier room failing fuse faults ≡ old
    → held_of new earlier room failing fuse faults ≡ taken effect old
held_taken effect old past new earlier room failing fuse faults is view = ap (λ p. held_of p earlier room failing fuse faults) is ∙ ap (taken effect) view

pub held_same : (old : Held) (past new : Kept) (earlier room : ℕ) (failing : List ℕ) (fuse : Option ℕ) (faults : ℕ) → new ≡ past → held_of past earlier room failing fuse faults ≡ old
    → held_of new earlier room failing fuse faults ≡ old
held_same old past new earlier room failing fuse faults is view = ap (λ p. held_of p earlier room failing fuse faults) is ∙ view

-- The three ways that a call goes

pub answers_ok : {T : Type 0} (effect : Effect) (old new : Held) (value : T) → new ≡ taken effect old → fails old ≡ false → Answers effect (Ok value) old new
answers_ok effect old new value is passes = record {
  answer = is;
  failing = (λ refused. absurd cc, λ fail. absurd (let both : true ≡ false = sym fail ∙ passes in cc));
  takes = takes_taken effect old new value is;
  cause = record { later = subst (λ held. old.faults ≤ held.faults) (sym is) (omega arith); failed = λ refused. absurd cc };
}

pub answers_failed : {T : Type 0} (effect : Effect) (refusal : DiskRefused) (old new : Held) → refusal ≡ Failed → new ≡ failed old → fails old ≡ true → old.faults ≤ new.faults → Answers {T = T} effect (Err refusal) old new
answers_failed {T = T} effect refusal old new refused is fail later = subst (λ r. Answers {T = T} effect (Err r) old new) (sym refused) (record {
  answer = is;
  failing = (λ refused. fail, λ f. refl);
  takes = takes_failed {T = T} effect old new is;
  cause = record { later = later; failed = λ refused. subst (λ held. Rose old.faults held.faults) (sym is) (omega arith) };
})

pub answers_refused : {T : Type 0} (effect : Effect) (result : Result T DiskRefused) (old new : Held) → result ≡ Err NoMemory → new ≡ old → fails old ≡ false → Answers effect result old new
answers_refused {T = T} effect result old new refusal is passes = subst (λ r. Answers effect r old new) (sym refusal) (record {
  answer = is;
  failing = (λ refused. absurd cc, λ fail. absurd (let both : true ≡ false = sym fail ∙ passes in cc));
  takes = takes_refused {T = T} effect old new is;
  cause = record { later = subst (λ held. old.faults ≤ held.faults) (sym is) (omega arith); failed = λ refused. absurd cc };
})

-- after a sync there is one image
pub synced_taken : (old new : Held) → new ≡ taken Synced old → IsSynced (seen_of new)
synced_taken old new is = subst (λ held. IsSynced (seen_of held)) (sym is) (λ c left. from_now (taken Synced old) c left)
