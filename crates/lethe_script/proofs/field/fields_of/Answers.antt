use Rattle.std.proofs.Common.{rules}
use Rattle.std.proofs.lemmas.Iterator.{YieldsList-from_take}
use Rattle.std.proofs.lemmas.Iterator.Consumers.{map_from_collect, YieldsList-at, YieldsList-from_filter}
use Rattle.std.proofs.lemmas.Iterator.Splits.{YieldsList-from_slice_split}
use Rattle.lethe_script.specs.Fields.{is_field}
use Rattle.lethe_script.proofs.field.fields_of.Goals as goal

pub returns : goal.returns
returns c = map_from_collect _ c.collect.ensures.ran
    (YieldsList-from_take 6
    (YieldsList-at c.take.ensures.source
    (YieldsList-from_filter _ is_field
    (YieldsList-at c.filter.ensures.source
    (YieldsList-from_slice_split _ _ c.args.line.now c.split.ensures.rest c.split.ensures.done c.split.ensures.closure (λ x b q called. search rules)))
    c.filter.ensures.closure (λ x b q called. search rules)))
    c.take.ensures.count)
