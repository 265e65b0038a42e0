-- Calls that change nothing, one after the other.
use Rattle.std.proofs.Common.{◌≡◌, refl, ◌∙◌, Result, Ok, Err}
use Rattle.std.specs.Prelude.{OnOk}
use Rattle.lethe_disk.specs.declared.disk.DiskRefused.{DiskRefused}
use Rattle.lethe_disk.specs.Directory.{IsSame}
use Rattle.lethe_disk.specs.Disk.{Seen, Takes}
use Rattle.lethe_disk.proofs.Moments.{leads_start, leads_leads, after_start, after_same}
use Rattle.lethe_disk.specs.Quiet.{IsQuiet}

pub quiet_itself : (old : Seen) → IsQuiet old old
quiet_itself old = record { directory = refl; any_moment = leads_start IsSame old (λ d here. refl) }

pub quiet_call : {T : Type 0} (result : Result T DiskRefused) (old new : Seen) → Takes IsSame result old new → new.directory ≡ old.directory → IsQuiet old new
quiet_call result old new call same = record {
  directory = same;
  any_moment = (after_same IsSame IsSame result old old new (after_start IsSame IsSame old (λ d here. refl) (λ d c here so. so)) call (λ d c here so. so)).each;
}

pub quiet_then : (old mid new : Seen) → IsQuiet old mid → IsQuiet mid new → IsQuiet old new
quiet_then old mid new first second = record {
  directory = second.directory ∙ first.directory;
  any_moment = leads_leads IsSame IsSame IsSame old mid new first.any_moment second.any_moment (λ d c so. so) (λ d e c here so then. then ∙ so);
}

-- what is known of a result

pub on_ok : {T E : Type 0} (result : Result T E) (P Q : Type 0) → OnOk result P → (P → Q) → OnOk result Q
on_ok (Ok x) P Q p goes = goes p
on_ok (Err e) P Q p goes = tt

pub on_ok_both : {T E : Type 0} (result : Result T E) (P Q R : Type 0) → OnOk result P → OnOk result Q → (P → Q → R) → OnOk result R
on_ok_both (Ok x) P Q R p q goes = goes p q
on_ok_both (Err e) P Q R p q goes = tt
