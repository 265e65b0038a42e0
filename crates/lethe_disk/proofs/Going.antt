-- Runs at whose each moment something holds of all that a crash may leave.
use Rattle.std.proofs.Common.{inl, inr, sym, subst, arith}
use Rattle.std.proofs.lemmas.Bool.{cases_lt}
use Rattle.lethe_disk.specs.Directory.{Directory, IsSame}
use Rattle.lethe_disk.specs.Disk.{Seen, Image}
use Rattle.lethe_disk.specs.Runs.{Leads}
use Rattle.lethe_disk.specs.Goes.{Goes}
use Rattle.lethe_disk.specs.Quiet.{IsQuiet}

pub goes_leads : (P : Directory → Type 0) (R : Directory → Directory → Type 0) (old new : Seen) → Leads R old new → ((d c : Directory) → Image old d → R d c → P c) → Goes P old new
goes_leads P R old new run goes = record {
  later = run.later;
  past = run.past;
  each = λ m c low high left. let d = run.each m c low high left in goes d.0 c d.1 d.2;
}

pub goes_quiet : (P : Directory → Type 0) (old new : Seen) → IsQuiet old new → ((d : Directory) → Image old d → P d) → Goes P old new
goes_quiet P old new quiet all = goes_leads P IsSame old new quiet.any_moment (λ d c here same. subst P (sym same) (all d here))

pub goes_then : (P : Directory → Type 0) (old mid new : Seen) → Goes P old mid → Goes P mid new → Goes P old new
goes_then P old mid new first second = record {
  later = let a = first.later in let b = second.later in omega (arith, a, b);
  past = λ m c le.
      let low = first.later in
      let here = second.past m c (omega (arith, low)) in
      let before = first.past m c le in
      (λ left. before.0 (here.0 left), λ left. here.1 (before.1 left));
  each = λ m c low high left. elim (cases_lt mid.moment m) [
    | inr early ↦ first.each m c low early ((second.past m c early).0 left)
    | inl late ↦ second.each m c (omega arith) high left
  ];
}

pub goes_weaker : (P Q : Directory → Type 0) (old new : Seen) → ((c : Directory) → P c → Q c) → Goes P old new → Goes Q old new
goes_weaker P Q old new weaker run = record { later = run.later; past = run.past; each = λ m c low high left. weaker c (run.each m c low high left) }
