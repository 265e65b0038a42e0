use Rattle.std.proofs.Common.{◌++◌, sym, ap, ◌∙◌}
use Rattle.std.specs.Option.{option_map}
use Rattle.lethe_fade.specs.Candidates.{Candidate, is_free}
use Rattle.lethe_fade.specs.Expired.{expired}
use Rattle.lethe_fade.specs.Sweeps.{sweeps}
use Rattle.lethe_fade.specs.Choice.{candidates}
use Rattle.lethe_fade.proofs.Chosen.{found_first, found_later}
use Rattle.lethe_fade.proofs.choice.pick.Goals as goal

pub returns-then-is_some : goal.returns-then-is_some
returns-then-is_some c =
    let shape = c.args.shape.now in
    found_first (is_free c.args.claims.now) (expired c.args.config.now c.args.clock shape) (sweeps shape ++ candidates c.args.config.now shape) c.first_expired-expired.result
    c.first_expired-expired.ensures (sym c.is_some.ensures ∙ c.if-is_some.true)

pub returns-then-is_some-2 : goal.returns-then-is_some-2
returns-then-is_some-2 c =
    let shape = c.args.shape.now in
    let behind =
    found_later (is_free c.args.claims.now) (expired c.args.config.now c.args.clock shape) (sweeps shape ++ candidates c.args.config.now shape) c.first_expired-expired.result
    c.first_expired-expired.ensures (sym c.is_some.ensures ∙ c.if-is_some.false)
    in
    found_first (is_free c.args.claims.now) (sweeps shape) (candidates c.args.config.now shape) c.first_sweep-sweep.result c.first_sweep-sweep.ensures
    (sym c.is_some-2.ensures ∙ c.if-is_some-2.true)
    ∙ sym (ap (option_map (λ (candidate : Candidate). candidate.plan)) behind)

pub returns : goal.returns
returns c =
    let shape = c.args.shape.now in
    let behind =
    found_later (is_free c.args.claims.now) (expired c.args.config.now c.args.clock shape) (sweeps shape ++ candidates c.args.config.now shape) c.first_expired-expired.result
    c.first_expired-expired.ensures (sym c.is_some.ensures ∙ c.if-is_some.false)
    ∙ found_later (is_free c.args.claims.now) (sweeps shape) (candidates c.args.config.now shape) c.first_sweep-sweep.result c.first_sweep-sweep.ensures
    (sym c.is_some-2.ensures ∙ c.if-is_some-2.false)
    in
    c.first_saturated.ensures ∙ sym (ap (option_map (λ (candidate : Candidate). candidate.plan)) behind)
