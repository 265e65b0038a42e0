use Rattle.std.proofs.Common.{◌-◌, ◌≡◌, ◌≤◌, [], ◌∷◌, ◌++◌, length, take, drop}
use Rattle.lethe_dirdisk.specs.FileNames.{letter, digits}
use Rattle.lethe_dirdisk.proofs.file_name.spell_file_name.Given as goal

abbrev pub invariant-loop-at : goal.invariant-loop-at
invariant-loop-at l = record {
  behind_dash : 2 ≤ l.at;
  within : l.at ≤ 22;
  long : length l.text ≡ 22;
  head : take 2 l.text ≡ letter l.fn.name.kind ∷ 45 ∷ [];
  digits_told : digits (l.at - 2) l.rest ++ drop l.at l.text ≡ digits 20 l.fn.name.no;
}

abbrev pub decreases-loop-at : goal.decreases-loop-at
decreases-loop-at l = l.at
