use Rattle.std.proofs.Common.{◌≡◌, map, All, sym, ap, ◌∙◌, subst}
use Rattle.std.specs.List.{flat_map}
use Rattle.std.specs.Prelude.{Any, sum_by}
use Rattle.std.proofs.lemmas.List.{map-id}
use Rattle.std.proofs.lemmas.Iterator.Adapters.{YieldsList-from_vec}
use Rattle.std.proofs.lemmas.Iterator.Consumers.{YieldsList-end}
use Rattle.lethe_merge.specs.Merge.{merged}
use Rattle.lethe_merge.specs.Sources.{GivesMerged, IsSound, awaits_in, left_in}
use Rattle.lethe_merge.specs.declared.source.Source.{Source}
use Rattle.lethe_merge.proofs.Awaits.{begins-awaits, begins-damages}
use Rattle.lethe_merge.proofs.Begins.{unasked, begins-again, begins-sound, begins-left}
use Rattle.lethe_merge.proofs.Gives.{begins-gives}
use Rattle.lethe_merge.proofs.Merges.{merged_ascends}
use Rattle.lethe_merge.proofs.merger.Merger.new.Goals as goal
use Rattle.lethe_merge.proofs.merger.Merger.new.Goals.{After-drop-cursor-iterator-2}

all_made : (g : _) (c : After-drop-cursor-iterator-2 g) → c.loop-cursor.sources.items ≡ map unasked c.args.cursors.items
all_made g c =
    let into = c.into_iter-cursor-iterator.ensures.into_iter_gives in
    let all = YieldsList-end (YieldsList-from_vec {s = c.into_iter-cursor-iterator.result} c.args.cursors.items into.0 (into.1 ∙ c.args.cursors.ok.0)) c.loop-cursor.yielded c.loop-cursor.cursor-iterator c.loop-cursor.yielded_by c.next.result c.next.new.self c.in-None.is c.next.ensures.steps in
    c.loop-cursor.invariant ∙ ap (map unasked) (sym (map-id c.loop-cursor.yielded) ∙ all.0)

pub returns-clause-again : goal.returns-clause-again
returns-clause-again g c =
    subst (All (λ (source : Source g.row.C.Denot). g.C.Cursor.may_ask source.cursor)) (sym (all_made g c))
    (begins-again g.D.Disk.tells g.C.Cursor.may_ask g.C.Cursor.sound g.C.Cursor.left c.args.cursors.items c.requires)

pub returns-clause-sound : goal.returns-clause-sound
returns-clause-sound g c = λ sounds. record {
  each = subst (All (IsSound g.D.Disk.tells g.C.Cursor.sound g.C.Cursor.left)) (sym (all_made g c))
      (begins-sound g.D.Disk.tells g.C.Cursor.may_ask g.C.Cursor.sound g.C.Cursor.left c.args.cursors.items g.met.C.Cursor.ascends c.requires sounds);
  ascending = merged_ascends (flat_map (left_in g.C.Cursor.left) c.loop-cursor.sources.items) c.args.erases.items c.args.alone;
}

pub returns-clause-left : goal.returns-clause-left
returns-clause-left g c =
    ap (λ sources. merged (flat_map (left_in g.C.Cursor.left) sources) c.args.erases.items c.args.alone) (all_made g c)
    ∙ ap (λ entries. merged entries c.args.erases.items c.args.alone) (begins-left g.C.Cursor.left c.args.cursors.items)

pub returns-clause-awaits : goal.returns-clause-awaits
returns-clause-awaits g c = ap (sum_by (awaits_in g.C.Cursor.awaits)) (all_made g c) ∙ begins-awaits g.C.Cursor.awaits g.C.Cursor.damages c.args.cursors.items

pub returns-clause-damages : goal.returns-clause-damages
returns-clause-damages g c = λ name any.
    begins-damages g.C.Cursor.awaits g.C.Cursor.damages c.args.cursors.items name
    (subst (λ sources. Any (λ (source : Source g.row.C.Denot). g.C.Cursor.damages source.cursor name) sources) (all_made g c) any)

pub returns-clause-gives : goal.returns-clause-gives
returns-clause-gives g c = λ entry may.
    begins-gives g.C.Cursor.gives c.args.cursors.items entry (subst (λ sources. GivesMerged g.C.Cursor.gives sources entry) (all_made g c) may)
