use Rattle.std.proofs.Common.{arith}
use Rattle.lethe_moves.specs.Flushes.{span_of}
use Rattle.lethe_flush.specs.Made.{headers_of}
use Rattle.lethe_recover.proofs.Drafted.{clear_then}
use Rattle.lethe_recover.proofs.flushing.flush_journal.Goals as goal

pub returns-clause-made : goal.returns-clause-made
returns-clause-made c = λ fields journal erases headers are.
    let older = are.older.for in
    let newer = are.newer.for in
    let made_older = c.in_ok-older.ensures.made fields older.entries erases older.alone older.are in
    let made_newer = c.in_ok-newer.ensures.made fields newer.entries erases newer.alone newer.are in
    let there = clear_then (span_of newer.entries) headers c.args.drafts.older.items (headers_of c.in_ok-older.older) (c.in_ok-older.ensures.clear (span_of newer.entries)) in
    record {
      older = record { entries = older.entries; ascending = older.ascending; newest = older.newest; alone = older.alone; clear = are.older.clear; files = made_older.0; is = made_older.1 };
      newer = record {
        entries = newer.entries;
        ascending = newer.ascending;
        newest = newer.newest;
        alone = newer.alone;
        clear = (
          (λ alone. let both = are.newer.clear.0 alone in (both.0, there.0 both.1)),
          (λ both. are.newer.clear.1 (both.0, there.1 both.1)),
        );
        files = made_newer.0;
        is = made_newer.1;
      };
    }

pub returns-clause-older : goal.returns-clause-older
returns-clause-older c = record { headers = c.in_ok-older.ensures.headers; levels = c.in_ok-older.ensures.levels; cited = c.in_ok-older.ensures.cited; level = c.in_ok-older.ensures.level; next = let next = c.in_ok-older.ensures.next in let objects = c.in_ok-older.ensures.objects in omega (arith, next, objects) }

pub returns-clause-newer : goal.returns-clause-newer
returns-clause-newer c = record { headers = c.in_ok-newer.ensures.headers; levels = c.in_ok-newer.ensures.levels; cited = c.in_ok-newer.ensures.cited; level = c.in_ok-newer.ensures.level; next = let next = c.in_ok-newer.ensures.next in let objects = c.in_ok-newer.ensures.objects in omega (arith, next, objects) }
