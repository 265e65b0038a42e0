use Rattle.std.proofs.Common.{subst, sym, ap, length, ◌∷◌, [], ◌++◌, arith, length-append}
use Rattle.lethe_base.specs.Entries.{Inserts}
use Rattle.lethe_stored.specs.Replayed.{AreNewestOf}
use Rattle.lethe_flush.proofs.Newest.{newest_none, newest_entered, newest_still, inserts_few}
use Rattle.lethe_flush.proofs.replaying.entered.Goals as goal

pub loop-record-init : goal.loop-record-init
loop-record-init c = record { newest = newest_none c.new-buffer.result.entries c.new-buffer.ensures.entries; few = omega (arith, ap length c.new-buffer.ensures.entries) }

pub loop-record-preserved-in-Entry : goal.loop-record-preserved-in-Entry
loop-record-preserved-in-Entry c =
    let inserts = subst (λ es. Inserts c.in-Entry.entry es c.insert.new.self.entries) c.in_ok-reserve.ensures.entries c.insert.ensures.entries in
    record {
      newest = subst (λ r. AreNewestOf (c.loop-record.yielded ++ r ∷ []) c.insert.new.self.entries) (sym c.in-Entry.is)
          (newest_entered c.loop-record.yielded c.in-Entry.entry c.loop-record.buffer.entries c.insert.new.self.entries c.loop-record.invariant.newest inserts);
      few = omega (arith, c.loop-record.invariant.few, inserts_few c.in-Entry.entry c.loop-record.buffer.entries c.insert.new.self.entries c.loop-record.buffer.ascending inserts, length-append c.loop-record.yielded (c.in-Some.record ∷ []));
    }

pub loop-record-preserved : goal.loop-record-preserved
loop-record-preserved c = record {
  newest = newest_still c.loop-record.yielded c.in-Some.record c.loop-record.buffer.entries c.in_default.not-Entry c.loop-record.invariant.newest;
  few = omega (arith, c.loop-record.invariant.few, length-append c.loop-record.yielded (c.in-Some.record ∷ []));
}
