use Rattle.std.proofs.Common.{Err, ap}
use Rattle.lethe_script.proofs.Digits.{key_refused}
use Rattle.lethe_script.proofs.field.key.Goals as goal

pub returns-in-Err : goal.returns-in-Err
returns-in-Err c = key_refused c.args.field.now c.in_ok-bytes.bytes.items c.in-Err.field-0 c.in_ok-bytes.ensures (λ is. c.in-Err.ensures.empty.0 (ap Err is)) (λ is. c.in-Err.ensures.long.0 (ap Err is))
