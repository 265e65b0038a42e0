use Rattle.std.proofs.Common.{◌∙◌, sym, subst}
use Rattle.std.specs.Prelude.{All}
use Rattle.lethe_segment.specs.Segments.{Ascends}
use Rattle.lethe_recover.proofs.Journals.{two_are, took_ascends}
use Rattle.lethe_recover.proofs.journal.Journal.of.Goals as goal

pub returns-clause-is : goal.returns-clause-is
returns-clause-is c = λ s is.
    let both = two_are s c.into_vec-segments.result.items c.last_of-newer.new.segments.items c.last_of-older.new.segments.items c.last_of-newer.result c.last_of-older.result (c.into_vec-segments.ensures ∙ is) c.last_of-newer.ensures c.last_of-older.ensures in
    record { older = both.0; newer = both.1 }

pub returns-clause-ascends : goal.returns-clause-ascends
returns-clause-ascends c = λ all.
    let first = took_ascends c.into_vec-segments.result.items c.last_of-newer.new.segments.items c.last_of-newer.result c.last_of-newer.ensures (subst (All (Ascends 0)) (sym c.into_vec-segments.ensures) all) in
    let second = took_ascends c.last_of-newer.new.segments.items c.last_of-older.new.segments.items c.last_of-older.result c.last_of-older.ensures first.0 in
    (second.1, first.1)
