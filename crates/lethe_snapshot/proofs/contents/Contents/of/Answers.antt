use Rattle.std.proofs.Common.{rules, ◌≡◌, Option, ap, sym, ◌∙◌, subst}
use Rattle.std.specs.Prelude.{option_map}
use Rattle.lethe_mem.specs.Buffered.{Buffered}
use Rattle.lethe_state.specs.Remembered.{IsFrozenIn}
use Rattle.lethe_stored.specs.Replayed.{AreNewestOf}
use Rattle.lethe_snapshot.proofs.contents.Contents.of.Goals as goal

pub returns-clause-of : goal.returns-clause-of
returns-clause-of g c = λ s h remembers stands pin.
    let same : c.of.result ≡ c.args.state.now.pending = search rules in
    record {
      stored = s;
      shows = record {
        coherent = remembers.coherent;
        pending = same ∙ remembers.pending;
        active = subst (AreNewestOf s.active.records) (sym (c.in_ok-copy.ensures ∙ ap (λ (b : Buffered). b.entries) c.active.ensures)) remembers.active;
        frozen = c.in_ok-copy_of.ensures.frozen s.frozen (subst (IsFrozenIn s.frozen) (sym c.frozen.ensures) remembers.frozen);
        files = c.in_ok-share.ensures.files s remembers.files;
      };
      stands = stands;
    }

pub returns-clause-taken : goal.returns-clause-taken
returns-clause-taken g c = λ pin. record {
  active = c.in_ok-copy.ensures ∙ ap (λ (b : Buffered). b.entries) c.active.ensures;
  frozen = c.in_ok-copy_of.ensures.same ∙ ap (λ (o : Option Buffered). option_map (λ (b : Buffered). b.entries) o) c.frozen.ensures;
  pending = (let same : c.of.result ≡ c.args.state.now.pending = search rules in same);
  files = c.in_ok-share.ensures.same;
}
