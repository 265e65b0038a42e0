use Rattle.std.proofs.Common.{◌∙◌, sym, ap}
use Rattle.std.specs.String.{string_bytes}
use Rattle.lethe_run.specs.Asked.{are_options}
use Rattle.lethe_run.proofs.Options.{no_two}
use Rattle.lethe_run.proofs.words.are_options.Goals as goal

pub returns : goal.returns
returns c = sym (c.loop-rest.invariant ∙ ap are_options (no_two string_bytes c.loop-rest.rest.now c.in_default.len_below))
