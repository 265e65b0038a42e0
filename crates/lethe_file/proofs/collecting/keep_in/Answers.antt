use Rattle.std.proofs.Common.{rules}
use Rattle.std.proofs.lemmas.Fn.{filter_same}
use Rattle.lethe_base.specs.declared.entry.Entry.{Entry}
use Rattle.lethe_file.specs.Between.{is_in}
use Rattle.lethe_file.proofs.collecting.keep_in.Goals as goal

pub returns : goal.returns
returns c = filter_same _ (λ (entry : Entry). is_in c.args.range.now.lo c.args.range.now.hi entry.key) _ (λ x b f called. search rules) _ _ c.retain.ensures.filtered
