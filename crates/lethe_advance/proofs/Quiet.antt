-- A switch behind calls that change nothing.
use Rattle.std.proofs.Common.{◌≡◌, ℕ, List, Option, Some, inl, sym, ◌∙◌, subst, arith}
use Rattle.std.specs.Prelude.{IfSome, IsSome}
use Rattle.lethe_disk.specs.Directory.{Directory, IsSame, object}
use Rattle.lethe_disk.specs.Disk.{Seen, Image}
use Rattle.lethe_disk.specs.Quiet.{IsQuiet}
use Rattle.lethe_disk.specs.Runs.{Leads}
use Rattle.lethe_disk.proofs.Moments.{leads_leads, leads_weaker}
use Rattle.lethe_commit.specs.Switch.{IsFree, IsSwitched, IsUnswitched, IsTakenBack, manifest_name}
use Rattle.lethe_commit.proofs.Exchange.{itself}

-- the older manifest is there as before
pub older_still : (older k : ℕ) (d c : Directory) → c ≡ d → Some older ≡ Some k → IsSome (object d (manifest_name older)) → IsSome (object c (manifest_name k))
older_still older k d c same is there = subst (λ x. IsSome (object x (manifest_name k))) (sym same) (subst (λ (o : Option ℕ). IfSome o (λ n. IsSome (object d (manifest_name n)))) is there)

module _ (old mid : Seen) (quiet : IsQuiet old mid) where
  pub image_back : (c : Directory) → Image mid c → Image old c
  image_back c here =
      let d = quiet.any_moment.each mid.moment c quiet.any_moment.later (omega arith) here in
      subst (Image old) (sym d.2) d.1

  pub quiet_back : IsTakenBack old mid
  quiet_back = record { directory = quiet.directory; images = image_back }

  pub back_then : (new : Seen) → IsTakenBack mid new → IsTakenBack old new
  back_then new back = record { directory = back.directory ∙ quiet.directory; images = λ c here. image_back c (back.images c here) }

  module _ (number : ℕ) (greatest : Option ℕ) (free : IsFree old number greatest) where
    pub free_still : IsFree mid number greatest
    free_still = record {
      no_manifest = λ d here. free.no_manifest d (image_back d here);
      no_gate = λ d here. free.no_gate d (image_back d here);
      greatest_gate = λ d here. free.greatest_gate d (image_back d here);
    }

    module _ (bytes : List ℕ) where
      abbrev IsStill : Directory → Directory → Type 0
      IsStill d c = IsSame d c × IsUnswitched number d c

      still_run : Leads IsStill old mid
      still_run = leads_weaker IsSame IsStill old mid quiet.any_moment (λ d c here same. (same, subst (IsUnswitched number d) (sym same) (itself number bytes greatest old free d here)))

      pub quiet_switched : Leads (IsSwitched number bytes greatest) old mid
      quiet_switched = leads_weaker IsStill (IsSwitched number bytes greatest) old mid still_run (λ d c here still. inl still.1)

      -- where the gate never came
      pub quiet_unswitched : Leads (IsUnswitched number) old mid
      quiet_unswitched = leads_weaker IsStill (IsUnswitched number) old mid still_run (λ d c here still. still.1)

      pub unswitched_then : (new : Seen) → Leads (IsUnswitched number) mid new → Leads (IsUnswitched number) old new
      unswitched_then new more = leads_leads IsStill (IsUnswitched number) (IsUnswitched number) old mid new still_run more (λ d c still. still.1)
          (λ d e c here still left. subst (λ x. IsUnswitched number x c) still.0 left)

      pub switched_then : (new : Seen) → Leads (IsSwitched number bytes greatest) mid new → Leads (IsSwitched number bytes greatest) old new
      switched_then new switching = leads_leads IsStill (IsSwitched number bytes greatest) (IsSwitched number bytes greatest) old mid new still_run switching (λ d c still. inl still.1)
          (λ d e c here still left. subst (λ x. IsSwitched number bytes greatest x c) still.0 left)
