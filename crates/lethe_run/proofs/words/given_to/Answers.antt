use Rattle.std.proofs.Common.{◌∙◌, sym, ap}
use Rattle.std.specs.String.{string_bytes}
use Rattle.lethe_run.specs.Asked.{given_to}
use Rattle.lethe_run.proofs.Options.{no_two}
use Rattle.lethe_run.proofs.words.given_to.Goals as goal

pub returns : goal.returns
returns c = sym (c.loop-rest.invariant ∙ ap (given_to c.args.option.now) (no_two string_bytes c.loop-rest.rest.now c.in_default.len_below))
