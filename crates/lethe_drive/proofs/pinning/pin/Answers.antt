use Rattle.std.proofs.Common.{◌≡◌, ◌↔◌, ◌∷◌, ◌++◌, [], Ok, Err, refl, sym, ap, ◌∙◌, subst, rules}
use Rattle.lethe_base.specs.Limits.{max_place}
use Rattle.lethe_base.specs.declared.refused.Refused.TheVariants.{Exhausted}
use Rattle.lethe_core.specs.View.{View, view_of}
use Rattle.lethe_engine.specs.StandsFor.{StandsFor}
use Rattle.lethe_drive.specs.Moments.{IsKnown, numbers_of}
use Rattle.lethe_drive.specs.declared.event.Reply.TheVariants as reply
use Rattle.lethe_drive.proofs.Certificates.{stands_call}
use Rattle.lethe_drive.proofs.Knowing.{ok_or_err}
use Rattle.lethe_drive.proofs.Pins.{has_pinned, known_pinned, not_pinned, pushed_numbers}
use Rattle.lethe_drive.proofs.pinning.pin.Goals as goal

pub returns-in-Ok-clause-step : goal.returns-in-Ok-clause-step
returns-in-Ok-clause-step g c = λ told config opened h answered stands s known fetches faults begun there.
    let old = view_of c.args.engine.now.core in
    let new = view_of c.pin.new.self.core in
    let snapshot = c.in-Ok.snapshot in
    let snapshots = c.args.snapshots.now.items in
    let is = c.in-Ok.ensures in
    let same : new ≡ record old { pins = new.pins } = λ i. view_of (is.same i).core in
    let pushed : c.push.new.self.items ≡ snapshots ++ snapshot ∷ [] = search rules in
    let few : old.pins.made ≡ max_place → ⊥ = λ full. ok_or_err snapshot (Exhausted max_place) (sym c.in-Ok.is ∙ c.pin.ensures.exhausted.1 full) in (
      h,
      s,
      known_pinned config h old new s new.pins same (is.held told s) known,
      stands_call is.answers told config opened h answered stands,
      (
        Ok snapshot.pin.number,
        ap reply.Pinned c.number-number.ensures,
        has_pinned h old new s fetches faults begun there (numbers_of snapshots) snapshot.pin.number snapshot.pin.limit is.number known.remembers (is.limit s known.remembers) is.pinned same few
            (numbers_of c.push.new.self.items) (ap numbers_of pushed ∙ pushed_numbers snapshots snapshot),
      ),
    )

pub returns-in-Err-clause-step : goal.returns-in-Err-clause-step
returns-in-Err-clause-step g c = λ told config opened h answered stands s known fetches faults begun there.
    let old = view_of c.args.engine.now.core in
    let new = view_of c.pin.new.self.core in
    let why = c.in-Err.why in
    let is = c.in-Err.ensures in
    let same : new ≡ old = λ i. view_of (is.unchanged i).core in
    let but : new ≡ record old { pins = new.pins } = λ i. view_of (is.same i).core in
    let full : ◌↔◌ (why ≡ Exhausted max_place) (old.pins.made ≡ max_place) = (
      λ e. c.pin.ensures.exhausted.0 (c.in-Err.is ∙ (λ i. Err (e i))),
      λ made. (let both = sym c.in-Err.is ∙ c.pin.ensures.exhausted.1 made in cc),
    ) in (
      h,
      s,
      subst (λ (view : View). IsKnown config h view s) (sym same) known,
      subst (λ (view : View). StandsFor config opened h view answered) (sym same) stands,
      (Err why, refl, not_pinned h old new s fetches faults begun there (numbers_of c.args.snapshots.now.items) why is.why same but full),
    )
