use Rattle.std.proofs.Common.{◌≡◌, ◌<◌, length, take, sym, ap, ◌∙◌, subst, arith}
use Rattle.std.specs.Prelude.{flat_map}
use Rattle.std.proofs.lemmas.List.{take_all}
use Rattle.std.proofs.lemmas.List.Filters.{dedup_is}
use Rattle.lethe_base.specs.Names.{name_eq}
use Rattle.lethe_file.specs.declared.view.FileView.{FileView}
use Rattle.lethe_header.specs.Facts.{lines_of}
use Rattle.lethe_pins.specs.Held.{Ascend}
use Rattle.lethe_advance.specs.Shown.{parts_in}
use Rattle.lethe_version.specs.Versions.{levels_of}
use Rattle.lethe_version.specs.declared.shared.Shared.{Shared}
use Rattle.lethe_core.proofs.Pinned.{names_at, names_more, once_ascends, once_each, once_pages}
use Rattle.lethe_core.proofs.pinning.page_names.Goals as goal

pub loop-level-preserved : goal.loop-level-preserved
loop-level-preserved g c =
    let within : c.loop-level.level < length (levels_of c.args.version.now) = omega arith in
    names_more (λ (shared : Shared _ _ _ _). shared.file.value) (λ (file : FileView _ _ _ _). names_at (lines_of file.header.tiles)) (levels_of c.args.version.now) c.loop-level.level c.loop-level.names.items c.add_files.new.names.items c.files.result.now
    within (c.files.ensures _) c.loop-level.invariant c.in_ok-add_files.ensures

pub returns-clause-ascend : goal.returns-clause-ascend
returns-clause-ascend g c =
    let is = dedup_is name_eq c.sort.new.self.items c.dedup.new.self.items c.dedup.ensures.filtered in
    subst Ascend (sym is) (once_ascends c.sort.new.self.items c.in_ok-sort.ensures.sorted)

pub returns-clause-pages : goal.returns-clause-pages
returns-clause-pages g c =
    let levels = levels_of c.args.version.now in
    let is = dedup_is name_eq c.sort.new.self.items c.dedup.new.self.items c.dedup.ensures.filtered in
    let whole : take c.loop-level.level levels ≡ levels = take_all c.loop-level.level levels (omega arith) in
    once_pages parts_in levels c.loop-level.names.items c.sort.new.self.items c.dedup.new.self.items
    (c.loop-level.invariant ∙ ap (λ levels. flat_map (λ (file : FileView _ _ _ _). names_at (lines_of file.header.tiles)) (flat_map (λ files. files) levels)) whole) c.sort.ensures.permutation is

pub returns-clause-each : goal.returns-clause-each
returns-clause-each g c =
    let levels = levels_of c.args.version.now in
    let is = dedup_is name_eq c.sort.new.self.items c.dedup.new.self.items c.dedup.ensures.filtered in
    let whole : take c.loop-level.level levels ≡ levels = take_all c.loop-level.level levels (omega arith) in
    once_each parts_in levels c.loop-level.names.items c.sort.new.self.items c.dedup.new.self.items
    (c.loop-level.invariant ∙ ap (λ levels. flat_map (λ (file : FileView _ _ _ _). names_at (lines_of file.header.tiles)) (flat_map (λ files. files) levels)) whole) c.sort.ensures.permutation is
