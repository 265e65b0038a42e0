-- Device calls one behind another.
use Rattle.std.proofs.Common.{arith}
use Rattle.lethe_disk.specs.Disk.{Seen}
use Rattle.lethe_disk.specs.Runs.{Continues}

pub continues_itself : (disk : Seen) → Continues disk disk
continues_itself disk = record { later = omega arith; past = λ m c le. (λ left. left, λ left. left) }

pub continues_then : (old mid new : Seen) → Continues old mid → Continues mid new → Continues old new
continues_then old mid new first second = record {
  later = let a = first.later in let b = second.later in omega (arith, a, b);
  past = λ m c le.
      let low = first.later in
      let here = second.past m c (omega (arith, low)) in
      let before = first.past m c le in
      (λ left. before.0 (here.0 left), λ left. here.1 (before.1 left));
}
