-- The pages of a job: the next one is written, or none is left.
use Rattle.std.proofs.Common.{◌≡◌, ◌↔◌, ◌<◌, ℕ, ◌+◌, true, false, List, [], ◌∷◌, length, Option, Some, None, refl, sym, ap, ◌∙◌, subst, arith}
use Rattle.std.specs.Prelude.{IfSome, IsSome, is_some, option_map}
use Rattle.lethe_base.specs.declared.name.Name.{Name}
use Rattle.lethe_disk.specs.declared.disk.Disk.{Ghosts}
use Rattle.lethe_advance.specs.Settled.{names_in}
use Rattle.lethe_job.specs.Jobs.{IsJob}
use Rattle.lethe_job.specs.MadeOf.{pages_of, written_of}
use Rattle.lethe_job.specs.Tasks.{AreSound}
use Rattle.lethe_job.specs.Works.{AreOutputs, PlainTask, inputs_in, plain_task}
use Rattle.lethe_job.specs.declared.job.Job.{Job}
use Rattle.lethe_job.specs.declared.made.Made.{Made}
use Rattle.lethe_core.specs.Flights.{flying_by}
use Rattle.lethe_core.specs.Jobs.{IsAtWork}
use Rattle.lethe_core.specs.View.{View}
use Rattle.lethe_drive.specs.Answers.{AreOutputsFor}
use Rattle.lethe_drive.specs.Driving.{pages_left, pages_left_of}
use Rattle.lethe_drive.specs.Moments.{going_of}
use Rattle.lethe_drive.proofs.Outputs.{few_pages, told_outputs}

pub nothing_in : false ≡ true → ⊥
nothing_in e = cc

pub some_of : {A : Type 0} (o : Option A) → IsSome o → (x : A) × (o ≡ Some x)
some_of (Some x) is = (x, refl)
some_of None is = absurd (nothing_in is)

-- What is made stays

none_written : (written : List (Name × List ℕ)) (made : Made) → length written ≡ 0 → written ≡ written_of (names_in written) made
none_written [] made e = refl
none_written (page ∷ more) made e = absurd (omega arith)

pages_stay : (written : List (Name × List ℕ)) (old mid : Option Made) → (old ≡ None → length written ≡ 0) → (IsSome old → mid ≡ old)
    → IfSome old (λ made. written ≡ written_of (names_in written) made) → IfSome mid (λ made. written ≡ written_of (names_in written) made)
pages_stay written (Some made) mid none kept is = subst (λ (o : Option Made). IfSome o (λ made. written ≡ written_of (names_in written) made)) (sym (kept refl)) is
pages_stay written None None none kept is = tt
pages_stay written None (Some made) none kept is = none_written written made (none refl)

few_left : (Tells : Type 0) (task : PlainTask) (old mid : Option Made) (written : ℕ) → IsSome mid → (IsSome old → mid ≡ old) → IfSome mid (AreOutputs Tells task)
    → IfSome mid (λ made. written < length (pages_of made)) → pages_left_of (option_map (λ made. length (pages_of made)) mid) (written + 1) < pages_left_of (option_map (λ made. length (pages_of made)) old) written
few_left Tells task old None written some kept outputs left = absurd (nothing_in some)
few_left Tells task None (Some made) written some kept outputs left = let all = few_pages Tells task made outputs in omega arith
few_left Tells task (Some was) (Some made) written some kept outputs left =
    let both : Some made ≡ Some was = kept refl in
    let same : made ≡ was = cc in
    let count = ap (λ (made : Made). length (pages_of made)) same in
    omega arith

-- whether there is a next page, by the answer of the job

pub left_of : {P : Type 0} (mid : Option Made) (next : Option P) (piece : P) (written : ℕ) → next ≡ Some piece → IfSome mid (λ made. IsSome next ↔ (written < length (pages_of made)))
    → IfSome mid (λ made. written < length (pages_of made))
left_of None next piece written is left = tt
left_of (Some made) next piece written is left = left.0 (ap is_some is)

pub none_left : {P : Type 0} (mid : Option Made) (next : Option P) (written : ℕ) → next ≡ None → IfSome mid (λ made. IsSome next ↔ (written < length (pages_of made)))
    → IfSome mid (λ made. written < length (pages_of made) → ⊥)
none_left None next written is left = tt
none_left (Some made) next written is left = λ more. nothing_in (sym (ap is_some is) ∙ left.1 more)

module _ {D Page Port : Type 0} {kind : Ghosts D Page Port} (Tells PortsFail : Type 0) (job mid : Job D Page Port kind) (task : mid.task.value ≡ job.task.value) where
  -- it has the same outputs
  pub outputs_for : Tells → AreSound (inputs_in (plain_task job.task.value)) → IsJob Tells mid → (made : Made) → mid.made ≡ Some made → AreOutputsFor (plain_task job.task.value) made
  outputs_for told sound is made made_is =
      let its : AreOutputs Tells (plain_task mid.task.value) made = subst (λ (o : Option Made). IfSome o (AreOutputs Tells (plain_task mid.task.value))) made_is is.made in
      let same : plain_task mid.task.value ≡ plain_task job.task.value = ap plain_task task in
      told_outputs Tells (plain_task job.task.value) made (subst (λ (task : PlainTask). AreOutputs Tells task made) same its) told sound

  -- a job that was refused something
  pub spoilt : (number : ℕ) → mid.number ≡ job.number → mid.round ≡ job.round → mid.refused ≡ true → Some (going_of number mid) ≡ Some (record (going_of number job) { refused = true; written = mid.written; port_faults = kind.port_faults mid.port })
  spoilt number own round refused = λ i. Some (record { number = number; own = own i; round = round i; refused = refused i; task = plain_task (task i); written = mid.written; port_faults = kind.port_faults mid.port })

  -- one that goes on, with so many pages
  pub goes_on : (number written : ℕ) → mid.number ≡ job.number → mid.round ≡ job.round → job.refused ≡ false → mid.refused ≡ false → mid.written ≡ written → Some (going_of number mid) ≡ Some (record (going_of number job) { written = written; port_faults = kind.port_faults mid.port })
  goes_on number written own round was asked pages = λ i. Some (record { number = number; own = own i; round = round i; refused = (asked ∙ sym was) i; task = plain_task (task i); written = pages i; port_faults = kind.port_faults mid.port })

  module _ (number : mid.number ≡ job.number) (written : mid.written ≡ job.written) (kept : IsSome job.made → mid.made ≡ job.made) (is : IsJob Tells mid) where
    pub still_works : (view : View) → mid.round ≡ job.round → IsAtWork Tells view job → mid.refused ≡ false → IsAtWork Tells view mid
    still_works view round works asked = record {
      flies = record { flying = works.flies.flying; is = (λ i. flying_by (number i) view.flights) ∙ works.flies.is; task = ap plain_task task ∙ works.flies.task; round = round ∙ works.flies.round };
      asked = asked;
      job_is = is;
      count = works.count ∙ sym written;
      pages = pages_stay works.flies.flying.written job.made mid.made (λ none. works.count ∙ works.job_is.unmade none) kept works.pages;
    }

    -- one page more is written
    pub fewer_left : (new : Job D Page Port kind) → IsSome mid.made → IfSome mid.made (λ made. job.written < length (pages_of made)) → new.made ≡ mid.made → new.written ≡ mid.written + 1
        → pages_left new < pages_left job
    fewer_left new some left same more =
        subst (λ (n : ℕ). pages_left_of (option_map (λ made. length (pages_of made)) new.made) n < pages_left job) (sym (more ∙ ap (λ n. n + 1) written))
        (subst (λ (o : Option Made). pages_left_of (option_map (λ made. length (pages_of made)) o) (job.written + 1) < pages_left job) (sym same)
        (few_left Tells (plain_task mid.task.value) job.made mid.made job.written some kept is.made left))
