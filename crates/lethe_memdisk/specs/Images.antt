-- What a disk in memory is seen to hold is one of its images, and so is what a crash leaves of it.
use Rattle.std.specs.Prelude.{◌≡◌, ◌-◌, ℕ, Bool, true, false, cond, List, [], ◌∷◌, length, drop, replicate, Option, Some, None, nat_le, refl}
use Rattle.std.proofs.Common.{sym, subst, arith, inl, inr}
use Rattle.std.proofs.lemmas.Bool.{cases_Bool, leb-true}
use Rattle.std.proofs.lemmas.List.{length-replicate}
use Rattle.lethe_base.specs.declared.name.Name.{Name}
use Rattle.lethe_disk.specs.Directory.{Directory, object, write_in, Torn, IsWritten}
use Rattle.lethe_disk.specs.Disk.{Image}
use Rattle.lethe_disk.proofs.Objects.{insert_created, write_written, remove_removed}
use Rattle.lethe_memdisk.specs.Objects.{write_to}
use Rattle.lethe_memdisk.specs.Effects.{Effect, Created, Written, Removed, Synced, Nothing, apply, after, Step, Images, torn, crashed}
use Rattle.lethe_memdisk.specs.Held.{Held, seen_of, calls_of, effects_at, left_by_crash}

-- Each step may leave a directory as it was

torn_same : (at n : ℕ) (bytes : List ℕ) → Torn at n bytes bytes
torn_same at n bytes = record { before = refl; after = refl; no_shorter = omega arith; no_longer = omega arith }

pub step_same : (effect : Effect) (d : Directory) → Step effect d d
step_same (Created name bytes) d = record { others = λ other ne. refl }
step_same (Written name at bytes) d = record { others = λ other ne. refl; absent = λ none. none; torn = λ held is. (held, is, torn_same at (length bytes) held) }
step_same (Removed name) d = record { others = λ other ne. refl; either = inr refl }
step_same Synced d = refl
step_same Nothing d = refl

-- and as the call made it

write_step : (now : Directory) (name : Name) (at : ℕ) (bytes : List ℕ) (o : Option (List ℕ)) → object now name ≡ o → IsWritten name at (length bytes) now (write_to o now name at bytes)
write_step now name at bytes None is = step_same (Written name at bytes) now
write_step now name at bytes (Some held) is = elim (cases_Bool (nat_le at (length held))) [
  | inl fits ↦ subst (λ b. IsWritten name at (length bytes) now (cond b (write_in now name at bytes) now)) (sym fits) (write_written now name at bytes held is (leb-true at (length held) fits))
  | inr past ↦ subst (λ b. IsWritten name at (length bytes) now (cond b (write_in now name at bytes) now)) (sym past) (step_same (Written name at bytes) now)
]

pub step_apply : (effect : Effect) (d : Directory) → Step effect d (apply effect d)
step_apply (Created name bytes) d = insert_created d name bytes
step_apply (Written name at bytes) d = write_step d name at bytes (object d name) refl
step_apply (Removed name) d = remove_removed d name
step_apply Synced d = refl
step_apply Nothing d = refl

-- and as a crash makes it

step_torn : (fill : ℕ) (keep : Bool) (effect : Effect) (d : Directory) → Step effect d (apply (torn fill keep effect) d)
step_torn fill true (Created name bytes) d = insert_created d name (replicate (length bytes) fill)
step_torn fill false (Created name bytes) d = step_same (Created name bytes) d
step_torn fill keep (Written name at bytes) d =
    subst (λ n. IsWritten name at n d (write_to (object d name) d name at (replicate (length bytes) fill))) (length-replicate (length bytes) fill) (write_step d name at (replicate (length bytes) fill) (object d name) refl)
step_torn fill true (Removed name) d = remove_removed d name
step_torn fill false (Removed name) d = step_same (Removed name) d
step_torn fill keep Synced d = refl
step_torn fill keep Nothing d = refl

-- Images

after_image : (start : Directory) (effects : List Effect) → Images start effects (after start effects)
after_image start [] = refl
after_image start (Created name bytes ∷ earlier) = (after start earlier, after_image start earlier, step_apply (Created name bytes) (after start earlier))
after_image start (Written name at bytes ∷ earlier) = (after start earlier, after_image start earlier, step_apply (Written name at bytes) (after start earlier))
after_image start (Removed name ∷ earlier) = (after start earlier, after_image start earlier, step_apply (Removed name) (after start earlier))
after_image start (Synced ∷ earlier) = refl
after_image start (Nothing ∷ earlier) = (after start earlier, after_image start earlier, refl)

-- what a read gives is an image
pub directory_image : (held : Held) → Image (seen_of held) (seen_of held).directory
directory_image held = subst (λ n. Images held.start (drop n held.effects) (after held.start held.effects)) none (after_image held.start held.effects)
  where
    none : 0 ≡ calls_of held - calls_of held
    none = omega arith

crashed_image : (fill : ℕ) (keep : Bool) (start : Directory) (effects : List Effect) → Images start effects (crashed fill keep start effects)
crashed_image fill keep start [] = refl
crashed_image fill keep start (Created name bytes ∷ earlier) = (crashed fill keep start earlier, crashed_image fill keep start earlier, step_torn fill keep (Created name bytes) (crashed fill keep start earlier))
crashed_image fill keep start (Written name at bytes ∷ earlier) = (crashed fill keep start earlier, crashed_image fill keep start earlier, step_torn fill keep (Written name at bytes) (crashed fill keep start earlier))
crashed_image fill keep start (Removed name ∷ earlier) = (crashed fill keep start earlier, crashed_image fill keep start earlier, step_torn fill keep (Removed name) (crashed fill keep start earlier))
crashed_image fill keep start (Synced ∷ earlier) = refl
crashed_image fill keep start (Nothing ∷ earlier) = (crashed fill keep start earlier, crashed_image fill keep start earlier, step_torn fill keep Nothing (crashed fill keep start earlier))

-- what a crash at a moment leaves is one of the images of that moment
pub crash_image : (moment fill : ℕ) (keep : Bool) (held : Held) → (seen_of held).left moment (left_by_crash moment fill keep held)
crash_image moment fill keep held = crashed_image fill keep held.start (effects_at held moment)
