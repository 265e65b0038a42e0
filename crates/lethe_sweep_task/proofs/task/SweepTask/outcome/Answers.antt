use Rattle.std.proofs.Common.{rules, ◌≡◌, ◌<◌, map, ap, sym, subst, ◌∙◌}
use Rattle.lethe_file.specs.Agreement.{FileAgrees, entries_in}
use Rattle.lethe_file.specs.declared.view.FileView.{FileView}
use Rattle.lethe_header.specs.declared.header.Header.{Header}
use Rattle.lethe_sweep.specs.Damage.{IsDamagedFor}
use Rattle.lethe_sweep.specs.Sweeping.{IsBehind, IsSweptBy}
use Rattle.lethe_swept.specs.Fits.{Fits}
use Rattle.lethe_version.specs.Versions.{bytes_of}
use Rattle.lethe_sweep_task.proofs.Made.{handed_damaged, handed_on, made_bounded, made_each, made_few, made_left, unnumbered}
use Rattle.lethe_sweep_task.proofs.task.SweepTask.outcome.Goals as goal

pub sweep_tiles-requires : goal.sweep_tiles-requires
sweep_tiles-requires g c =
    let behind : IsBehind c.args.self.now.erase c.file-file.result.now.header.tiles =
    subst (λ (f : FileView g.row.D.Denot g.row.D-Page.Denot g.row.D-Port.Denot g.D.Disk). IsBehind c.args.self.now.erase f.header.tiles) (sym c.file-file.ensures) c.args.self.now.behind in
    (search rules, (search rules, (search rules, (search rules, behind))))

pub draft_of-requires-clause-spelled : goal.draft_of-requires-clause-spelled
draft_of-requires-clause-spelled g c =
    let view = c.file-file.result.now in
    unnumbered view.header c.items.result.now (c.items.ensures ∙ ap (λ (h : Header). h.tiles) c.header.ensures) view.spelled

pub draft_of-requires-clause-fits : goal.draft_of-requires-clause-fits
draft_of-requires-clause-fits g c =
    let tiles : c.items.result.now ≡ c.file-file.result.now.header.tiles = c.items.ensures ∙ ap (λ (h : Header). h.tiles) c.header.ensures in
    subst (λ ts. Fits ts c.in_ok-swept.swept) (sym tiles) (c.in_ok-swept.ensures.fits c.requires)

pub returns-in_err-swept-clause-cause : goal.returns-in_err-swept-clause-cause
returns-in_err-swept-clause-cause g c =
    handed_on (g.D.Disk.port_faults c.args.port.now) (g.D.Disk.port_faults c.sweep_tiles.new.port) c.from_residual.result c.in_err-swept.field-0.0 c.from_residual.ensures.1 c.in_err-swept.ensures.cause

pub returns-in_err-swept-clause-damaged : goal.returns-in_err-swept-clause-damaged
returns-in_err-swept-clause-damaged g c = λ name told.
    let erase = c.args.self.now.erase in
    subst (λ (f : FileView g.row.D.Denot g.row.D-Page.Denot g.row.D-Port.Denot g.D.Disk). IsDamagedFor g.D.Disk.tells c.args.self.now.alone erase.range f.header.tiles (bytes_of f) name
    × (g.D.Disk.fetches c.args.port.now < g.D.Disk.fetches c.sweep_tiles.new.port)) c.file-file.ensures
    (c.in_err-swept.ensures.damaged name (handed_damaged c.from_residual.result c.in_err-swept.field-0.0 name c.from_residual.ensures.1 told))

pub returns-clause-left : goal.returns-clause-left
returns-clause-left g c = λ tells agrees.
    let view = c.args.self.now.file.file.value in
    let erase = c.args.self.now.erase in
    let alone = c.args.self.now.alone in
    let swept = c.in_ok-swept.swept in
    let tiles : c.items.result.now ≡ view.header.tiles =
    c.items.ensures ∙ ap (λ (h : Header). h.tiles) c.header.ensures
    ∙ ap (λ (f : FileView g.row.D.Denot g.row.D-Page.Denot g.row.D-Port.Denot g.D.Disk). f.header.tiles) c.file-file.ensures in
    let is : FileAgrees view.header.tiles (bytes_of view) → IsSweptBy alone erase view.header.tiles (map entries_in (bytes_of view)) swept =
    subst (λ (f : FileView g.row.D.Denot g.row.D-Page.Denot g.row.D-Port.Denot g.D.Disk). FileAgrees f.header.tiles (bytes_of f) → IsSweptBy alone erase f.header.tiles (map entries_in (bytes_of f)) swept)
    c.file-file.ensures (c.in_ok-swept.ensures.swept tells) in
    made_left view.header c.items.result.now tiles swept c.in_ok-draft_of.field-0 c.in_ok-draft_of.ensures.draft alone erase (map entries_in (bytes_of view)) (is agrees) c.in_ok-draft_of.ensures.none

pub returns-clause-each : goal.returns-clause-each
returns-clause-each g c =
    let view = c.file-file.result.now in
    let tiles : c.items.result.now ≡ view.header.tiles = c.items.ensures ∙ ap (λ (h : Header). h.tiles) c.header.ensures in
    made_each view.header c.items.result.now tiles c.in_ok-swept.swept c.in_ok-draft_of.field-0 c.in_ok-draft_of.ensures.draft

pub returns-clause-bounded : goal.returns-clause-bounded
returns-clause-bounded g c =
    let view = c.args.self.now.file.file.value in
    let own = ap (λ (f : FileView g.row.D.Denot g.row.D-Page.Denot g.row.D-Port.Denot g.D.Disk). f.header.tiles) c.file-file.ensures in
    let tiles : c.items.result.now ≡ view.header.tiles = c.items.ensures ∙ ap (λ (h : Header). h.tiles) c.header.ensures ∙ own in
    made_bounded view.header c.items.result.now tiles c.in_ok-swept.swept c.in_ok-draft_of.field-0 c.in_ok-draft_of.ensures.draft view.spelled
    (subst (λ ts. Fits ts c.in_ok-swept.swept) own (c.in_ok-swept.ensures.fits c.requires))

pub returns-clause-few : goal.returns-clause-few
returns-clause-few g c =
    let view = c.file-file.result.now in
    let tiles : c.items.result.now ≡ view.header.tiles = c.items.ensures ∙ ap (λ (h : Header). h.tiles) c.header.ensures in
    made_few view.header c.items.result.now tiles c.in_ok-swept.swept c.in_ok-draft_of.field-0 c.in_ok-draft_of.ensures.draft view.spelled (c.in_ok-swept.ensures.fits c.requires)
