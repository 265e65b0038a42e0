use Rattle.std.proofs.Common.{◌≡◌, ◌++◌, ◌∷◌, [], ℕ, List, sym, ap, ◌∙◌, refl, append-nil, append_assoc, arith, rules}
use Rattle.std.proofs.lemmas.List.{nil_from_length}
use Rattle.lethe_drive.specs.Moments.{numbers_of}
use Rattle.lethe_pins.specs.Held.{without}
use Rattle.lethe_drive.specs.Pins.{released}
use Rattle.lethe_drive.proofs.Certificates.{stands_call}
use Rattle.lethe_drive.proofs.Pins.{pushed_numbers}
use Rattle.lethe_drive.proofs.pinning.release_all.Goals as goal

pub loop-snapshot-init : goal.loop-snapshot-init
loop-snapshot-init g c = record {
  sound = c.requires.sound;
  stands = λ told config opened h answered stands. stands;
  held = λ told s holds. holds;
  gone = ([], sym (append-nil (numbers_of c.args.snapshots.items)), refl);
}

pub loop-snapshot-preserved : goal.loop-snapshot-preserved
loop-snapshot-preserved g c =
    let so_far = c.loop-snapshot.invariant in
    let snapshot = c.in-Some.snapshot in
    let popped : c.loop-snapshot.snapshots.items ≡ c.pop.new.self.items ++ snapshot ∷ [] = search rules in
    let is = c.release.ensures in
    let taken = so_far.gone.0 in
    record {
      sound = is.answers.sound;
      stands = λ told config opened h answered stands. stands_call is.answers told config opened h answered (so_far.stands told config opened h answered stands);
      held = λ told s holds. is.held told s (so_far.held told s holds);
      gone = (
        snapshot.pin.number ∷ taken,
        so_far.gone.1 ∙ ap (λ (l : List ℕ). l ++ taken) (ap numbers_of popped ∙ pushed_numbers c.pop.new.self.items snapshot) ∙ append_assoc (numbers_of c.pop.new.self.items) (snapshot.pin.number ∷ []) taken,
        is.same ∙ (λ i. let engine = so_far.gone.2 i in record engine { core = record engine.core { pins = record engine.core.pins { pins = without snapshot.pin.number engine.core.pins.pins } } }),
      );
    }

pub returns-clause-pins : goal.returns-clause-pins
returns-clause-pins g c =
    let so_far = c.loop-snapshot.invariant in
    let left = c.loop-snapshot.snapshots in
    let none : left.items ≡ [] = nil_from_length left.items (omega (arith, c.in_default.ensures.cases, left.ok.0)) in
    let all : numbers_of c.args.snapshots.items ≡ so_far.gone.0 = so_far.gone.1 ∙ ap (λ items. numbers_of items ++ so_far.gone.0) none in
    let engine = c.args.engine.now in
    so_far.gone.2 ∙ (λ i. record engine { core = record engine.core { pins = record engine.core.pins { pins = released (sym all i) engine.core.pins.pins } } })
