use Rattle.std.proofs.Common.{◌≡◌, ◌<◌, ◌^◌, take}
use Rattle.lethe_dirdisk.specs.FileNames.{digits}
use Rattle.lethe_dirdisk.proofs.file_name.read_number.Given as goal

abbrev pub invariant-loop-digit : goal.invariant-loop-digit
invariant-loop-digit l = record {
  told : take l.digit-index l.text ≡ digits l.digit-index l.no;
  small : l.no < 10 ^ l.digit-index;
}
