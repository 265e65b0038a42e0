use Rattle.std.proofs.Common.{◌≡◌, true, is_ok, arith, ap}
use Rattle.lethe_mem.specs.Buffered.{Buffered}
use Rattle.lethe_mem.proofs.Places.{inserts_at, inserts_gap}
use Rattle.lethe_mem.proofs.vec_buffer.VecBufferBuffer.insert.Goals as goal
use Rattle.lethe_mem.proofs.vec_buffer.VecBufferBuffer.insert.Goals.{in-Put-1, in-Tomb-1}

pub invariant_of-self-inside : goal.invariant_of-self-inside
invariant_of-self-inside c =
    let stands = rw c.deref.ensures.value at c.in-Ok.ensures.found in
    ((inserts_at c.args.entry c.self.inside.sorted.items c.in-Ok.place c.self.inside.ascending stands).ascending, tt)

pub invariant_of-self-inside-in-Err : goal.invariant_of-self-inside-in-Err
invariant_of-self-inside-in-Err c =
    let gap = rw c.deref.ensures.value at c.in-Err.ensures.absent in
    let spare = ap (λ (b : Buffered). b.spare) c.self.view_is in
    let ok : is_ok c.insert.result ≡ true = c.insert.ensures.succeeds (omega (arith, spare, c.requires)) in
    (rw (c.insert.ensures.items, ok) (inserts_gap c.args.entry c.self.inside.sorted.items c.in-Err.place c.self.inside.ascending gap).ascending, tt)

pub returns-in-Ok-clause-entries : goal.returns-in-Ok-clause-entries
returns-in-Ok-clause-entries c =
    let stands = rw c.deref.ensures.value at c.in-Ok.ensures.found in
    let made = inserts_at c.args.entry c.self.inside.sorted.items c.in-Ok.place c.self.inside.ascending stands in
    let old = ap (λ (b : Buffered). b.entries) c.self.view_is in
    elim c.match-index_mut-entry.branch [ in-Put-1 w ↦ rw (w.self-is, ← old) made | in-Tomb-1 w ↦ rw (w.self-is, ← old) made ]

pub returns-in-Err-clause-entries : goal.returns-in-Err-clause-entries
returns-in-Err-clause-entries c =
    let gap = rw c.deref.ensures.value at c.in-Err.ensures.absent in
    let spare = ap (λ (b : Buffered). b.spare) c.self.view_is in
    let ok : is_ok c.insert.result ≡ true = c.insert.ensures.succeeds (omega (arith, spare, c.requires)) in
    let made = inserts_gap c.args.entry c.self.inside.sorted.items c.in-Err.place c.self.inside.ascending gap in
    let old = ap (λ (b : Buffered). b.entries) c.self.view_is in
    rw (c.insert.ensures.items, ok, ← old) made
