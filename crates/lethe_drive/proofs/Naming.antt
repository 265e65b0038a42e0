-- Whether a run has a job of a number.
use Rattle.std.proofs.Common.{◌≡◌, ℕ, true, false, List, Some, None, refl, sym, ap, ◌∙◌}
use Rattle.std.specs.Prelude.{option_map}
use Rattle.std.proofs.lemmas.Option.{none-some, same_Some}
use Rattle.lethe_base.specs.History.{History}
use Rattle.lethe_disk.specs.declared.disk.Disk.{Ghosts}
use Rattle.lethe_stored.specs.Stored.{Stored}
use Rattle.lethe_core.specs.View.{View}
use Rattle.lethe_drive.specs.Moments.{Going, Moment, going_of, moment_of, there_of}
use Rattle.lethe_drive.specs.Steps.{IsAsked, IsNoSuch, IsThere}
use Rattle.lethe_drive.specs.declared.event.Reply.TheVariants.{NoSuch}
use Rattle.lethe_drive.specs.declared.jobs.Jobs.{Jobs}
use Rattle.lethe_drive.specs.declared.jobs.Numbered.{Numbered}

module _ {D Page Port : Type 0} {kind : Ghosts D Page Port} (jobs : Jobs D Page Port kind) where
  pub there_is : (numbered : Numbered D Page Port kind) → jobs.there ≡ Some numbered → there_of jobs ≡ Some (going_of numbered.number numbered.job)
  there_is numbered is = λ i. option_map (λ (numbered : Numbered D Page Port kind). going_of numbered.number numbered.job) (is i)

  pub there_none : jobs.there ≡ None → there_of jobs ≡ None
  there_none is = λ i. option_map (λ (numbered : Numbered D Page Port kind). going_of numbered.number numbered.job) (is i)

  -- the job is put back
  pub put_back : (numbered : Numbered D Page Port kind) → jobs.there ≡ Some numbered → record jobs { there = Some numbered } ≡ jobs
  put_back numbered is = λ i. record jobs { there = sym is i }

  module _ (h : History) (view : View) (s : Stored) (fetches faults number : ℕ) (snapshots : List ℕ) where
    abbrev now : Moment
    now = moment_of view s fetches faults jobs.begun (there_of jobs) snapshots

    the_going : (numbered : Numbered D Page Port kind) → jobs.there ≡ Some numbered → (going : Going) → IsThere number now going → going_of numbered.number numbered.job ≡ going
    the_going numbered is going there = same_Some (going_of numbered.number numbered.job) going (sym (there_is numbered is) ∙ there.0)

    -- there is none
    pub none_there : jobs.there ≡ None → (going : Going) → IsThere number now going → ⊥
    none_there is going there = none-some going (sym (there_none is) ∙ there.0)

    -- there is another
    pub other_there : (numbered : Numbered D Page Port kind) → jobs.there ≡ Some numbered → (numbered.number ≡ number → ⊥) → (going : Going) → IsThere number now going → ⊥
    other_there numbered is other going there = other (ap (λ going. going.number) (the_going numbered is going there) ∙ there.1)

    -- a call of it was refused
    pub refused_there : (numbered : Numbered D Page Port kind) → jobs.there ≡ Some numbered → numbered.job.refused ≡ true → (going : Going) → IsAsked number now going → ⊥
    refused_there numbered is refused going asked =
        let both : true ≡ false = sym refused ∙ ap (λ going. going.refused) (the_going numbered is going asked.0) ∙ asked.1 in cc

    -- nothing is done
    pub no_such : (There : Going → Type 0) → ((going : Going) → There going → ⊥) → (new : Jobs D Page Port kind) → new ≡ jobs
        → IsNoSuch There h now NoSuch h (moment_of view s fetches faults new.begun (there_of new) snapshots)
    no_such There none new same = record {
      none = none;
      is = refl;
      history = refl;
      same = ap (λ (jobs : Jobs D Page Port kind). moment_of view s fetches faults jobs.begun (there_of jobs) snapshots) same;
    }
