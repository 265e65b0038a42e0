use Rattle.std.proofs.Common.{length, inl, inr, ap, rules, arith}
use Rattle.lethe_wire.proofs.memory.MemSinkSink.write.Goals as goal
use Rattle.lethe_wire.proofs.memory.MemSinkSink.write.Goals.{then-contains-via-then-contains, then-contains-via-else-contains+then-is_full}

pub returns-then-contains-clause-counted : goal.returns-then-contains-clause-counted
returns-then-contains-clause-counted c = record {
  failing = search rules;
  calls = search rules;
  fails = (
    λ _. elim c.then-contains.branch [
      | then-contains-via-then-contains w ↦ inl (search rules)
      | then-contains-via-else-contains+then-is_full w ↦ inr (let full = w.is_full.ensures.0 w.if-is_full.true in (full.0, omega (arith, full.1, w.len.ensures, ap (λ s. length s.bytes) c.self.view_is)))
    ],
    λ _. search rules,
  );
  faults = search rules;
  fault = search rules;
}
