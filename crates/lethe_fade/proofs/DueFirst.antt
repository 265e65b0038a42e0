-- What is due is the first candidate where no claim stands.
use Rattle.std.proofs.Common.{◌≡◌, ℕ, ◌+◌, ◌-◌, Bool, true, false, cond, List, [], ◌∷◌, ◌++◌, Option, Some, None, refl, sym, ap, ◌∙◌}
use Rattle.std.specs.Prelude.{nat_le, slice_get, IsSome}
use Rattle.std.specs.List.{find}
use Rattle.std.specs.Option.{option_map, is_some}
use Rattle.lethe_base.specs.Configuration.{IsConfig}
use Rattle.lethe_base.specs.declared.config.Fields.{Fields}
use Rattle.lethe_base.specs.declared.pending.Pending.{Pending}
use Rattle.lethe_base.specs.declared.shape.Shape.{Shape}
use Rattle.lethe_fade.specs.declared.plan.Plan.{Plan}
use Rattle.lethe_fade.specs.LevelTimes.{level_deadline}
use Rattle.lethe_fade.specs.Candidates.{Candidate, is_free}
use Rattle.lethe_fade.specs.Expired.{expired, is_passed}
use Rattle.lethe_fade.specs.Sweeps.{sweeps}
use Rattle.lethe_fade.specs.Due.{due, is_overdue, overdue_sweeps}
use Rattle.lethe_fade.specs.Choice.{DueIsFirst, candidates}
use Rattle.lethe_fade.proofs.Chosen.{found_first, found_later}
use Rattle.lethe_fade.proofs.Powers.{deadlines_rise}
use Rattle.lethe_fade.proofs.Expiring.{first_free}

abbrev plan_in : Option Candidate → Option Plan
plan_in job = option_map (λ (c : Candidate). c.plan) job

abbrev first_plan : List Candidate → Option Plan
first_plan jobs = plan_in (slice_get jobs 0)

pub due_is_first : DueIsFirst
due_is_first fields shape clock some = by_merges (expired fields clock shape) some
  where
    by_sweeps : (jobs : List Candidate) (b : Bool) → IsSome (first_plan (cond b jobs []))
        → plan_in (find (is_free []) (jobs ++ candidates fields shape)) ≡ first_plan (cond b jobs [])
    by_sweeps jobs false some = absurd (let clash : false ≡ true = some in cc)
    by_sweeps [] true some = absurd (let clash : false ≡ true = some in cc)
    by_sweeps (job ∷ others) true some = refl

    by_merges : (jobs : List Candidate) → IsSome (first_plan (jobs ++ overdue_sweeps fields clock shape))
        → plan_in (find (is_free []) (jobs ++ (sweeps shape ++ candidates fields shape))) ≡ first_plan (jobs ++ overdue_sweeps fields clock shape)
    by_merges [] some = by_sweeps (sweeps shape) (is_overdue fields clock shape.erases) some
    by_merges (job ∷ others) some = refl

-- the plan of the first expired file
module _ (fields : Fields) (shape : Shape) (to : ℕ) (plan : Option Plan) (e : plan ≡ plan_in (find (is_free []) (expired fields to shape))) where
  pub due_expired : is_some plan ≡ true → plan ≡ due fields shape to
  due_expired some =
      found_first (is_free []) (expired fields to shape) (overdue_sweeps fields to shape) plan e some
      ∙ ap plan_in (first_free (expired fields to shape ++ overdue_sweeps fields to shape))

  due_swept : is_some plan ≡ false → due fields shape to ≡ plan_in (find (is_free []) (overdue_sweeps fields to shape))
  due_swept none =
      ap plan_in (sym (first_free (expired fields to shape ++ overdue_sweeps fields to shape))
      ∙ found_later (is_free []) (expired fields to shape) (overdue_sweeps fields to shape) plan e none)

  pub due_overdue : is_some plan ≡ false → is_overdue fields to shape.erases ≡ true → due fields shape to ≡ plan_in (find (is_free []) (sweeps shape))
  due_overdue none over = due_swept none ∙ ap (λ b. plan_in (find (is_free []) (cond b (sweeps shape) []))) over

  pub due_none : is_some plan ≡ false → is_overdue fields to shape.erases ≡ false → due fields shape to ≡ None
  due_none none early = due_swept none ∙ ap (λ b. plan_in (find (is_free []) (cond b (sweeps shape) []))) early

pub none_overdue : (fields : Fields) (to : ℕ) (erases : List Pending) → None ≡ slice_get erases 0 → is_overdue fields to erases ≡ false
none_overdue fields to [] e = refl
none_overdue fields to (erase ∷ later) e = absurd cc

-- the level above the last has the threshold's time
pub first_overdue : (fields : Fields) (threshold to : ℕ) (erases : List Pending) (erase : Pending) (over : Bool) → IsConfig fields
    → threshold ≡ fields.threshold → Some erase ≡ slice_get erases 0 → ((level : ℕ) → threshold ≡ level_deadline fields level → over ≡ is_passed fields to level (Some erase.time)) → is_overdue fields to erases ≡ over
first_overdue fields threshold to [] erase over limits is e tested = absurd cc
first_overdue fields threshold to (first ∷ later) erase over limits is e tested =
    let same : first ≡ erase = cc in
    let whole : fields.threshold ≡ level_deadline fields (fields.levels - 1) = sym (deadlines_rise fields limits).whole in
    ap (λ (first : Pending). nat_le (first.time + fields.threshold) to) same ∙ ap (λ time. nat_le (erase.time + time) to) whole ∙ sym (tested (fields.levels - 1) (is ∙ whole))
