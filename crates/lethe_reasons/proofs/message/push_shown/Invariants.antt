use Rattle.std.proofs.Common.{◌≡◌, ◌++◌, take, map}
use Rattle.lethe_reasons.specs.Messages.{shown_byte}
use Rattle.lethe_reasons.proofs.message.push_shown.Given as goal

-- the front of the piece was added
abbrev pub invariant-loop-byte : goal.invariant-loop-byte
invariant-loop-byte l = l.bytes.items ≡ l.fn.bytes.items ++ map shown_byte (take l.byte-index l.piece)
