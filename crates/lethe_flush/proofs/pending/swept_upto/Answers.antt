use Rattle.std.proofs.Common.{map, rules, sym, ◌∙◌}
use Rattle.std.proofs.lemmas.Iterator.{YieldsList-from_map, YieldsList-from_slice}
use Rattle.std.proofs.lemmas.Iterator.Adapters.{option_map_id}
use Rattle.std.proofs.lemmas.Iterator.Consumers.{min_from_yields_List}
use Rattle.lethe_manifest.specs.declared.manifest.Cited.{Cited}
use Rattle.lethe_flush.proofs.Leasts.{reduce_is_least}
use Rattle.lethe_flush.proofs.pending.swept_upto.Goals as goal

pub returns : goal.returns
returns c =
    let place = λ (file : Cited). file.swept in
    let yields = YieldsList-from_map _ place (YieldsList-from_slice c.args.files.now (search rules)) (search rules) (λ x r q k. search rules) in
    sym (option_map_id c.min.result) ∙ min_from_yields_List _ _ c.min.ensures.ran yields ∙ reduce_is_least (map place c.args.files.now)
