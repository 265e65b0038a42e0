use Rattle.std.proofs.Common.{◌≡◌, ◌<◌, ◌++◌, ◌∷◌, [], length, Ok, subst, arith, rules}
use Rattle.lethe_page.specs.Reading.{last_key, entry_above}
use Rattle.lethe_page.proofs.Loop.{one_more}
use Rattle.lethe_page.proofs.entries.read_entries.Goals as goal

pub entries-preserved : goal.entries-preserved
entries-preserved c =
    let fewer : length c.entries.entries.items < c.args.count = omega (arith, c.entries-test.true, c.len.ensures) in
    let pushed : c.push.new.self.items ≡ c.entries.entries.items ++ c.in_ok-entry.entry ∷ [] = search rules in
    let read = subst (λ es. entry_above c.args.class (last_key es) c.args.bytes.now c.entries.at ≡ Ok (c.in_ok-entry.entry, c.in_ok-entry.end)) c.deref.ensures.value c.in_ok-entry.ensures in
    rw pushed (one_more c.args.class c.args.count c.args.bytes.now c.entries.entries.items c.entries.at c.entries.invariant c.in_ok-entry.entry c.in_ok-entry.end fewer read)
