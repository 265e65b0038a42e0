use Rattle.std.proofs.Common.{◌≡◌, ◌≤◌, ◌<◌, ◌+◌, ◌++◌, false, All, arith, ap, sym, ◌∙◌, subst}
use Rattle.std.specs.Prelude.{IsTrue}
use Rattle.std.proofs.lemmas.List.Elements.{All-weaker}
use Rattle.lethe_advance.specs.Object.{Object}
use Rattle.lethe_base.specs.declared.name.Kind.TheVariants.{Page}
use Rattle.lethe_base.specs.declared.name.Name.{Name}
use Rattle.lethe_manifest.specs.declared.manifest.Manifest.{Manifest}
use Rattle.lethe_flush.proofs.Results.{ok_both, ok_weaker}
use Rattle.lethe_advance.specs.Settled.{AreDrawn}
use Rattle.lethe_advance.specs.Shown.{parts_by_level}
use Rattle.lethe_advance.specs.declared.new_header.NewHeader.{NewHeader}
use Rattle.lethe_job.specs.Tasks.{plain_merge}
use Rattle.lethe_pins.specs.Held.{is_named}
use Rattle.lethe_install.proofs.InstallStep.{install_steps}
use Rattle.lethe_install.proofs.Between.{install_from}
use Rattle.lethe_install.proofs.Parted.{gone_unneeded, left_are, left_needed}
use Rattle.lethe_install.proofs.steps.install.Goals as goal

-- it names a page
abbrev IsPage : Name → Type 0
IsPage name = name.kind ≡ Page

pub make_files-requires-clause-written : goal.make_files-requires-clause-written
make_files-requires-clause-written g c = subst (λ next. AreDrawn next c.args.pages.written.now) (sym c.next.ensures) c.requires.drawn

pub returns-clause-step : goal.returns-clause-step
returns-clause-step g c =
    let state = c.args.state.now in
    let low = c.requires.level in
    let next = c.in_ok-made.ensures.next in
    let objects = c.in_ok-made.ensures.objects in
    let number = c.requires.number in
    let free = c.requires.free in
    let first = c.next.ensures in
    ok_weaker c.step_of.result _ _ c.step_of.ensures (λ made is. install_from state (c.args.task.now.level + 1) c.in_ok-inputs.inputs c.in_ok-made.made c.args.pages.retired.now (is_named c.args.pages.pins.now.pins) made c.requires.writable
    (omega (arith, low)) (omega (arith, next, number, free, first)) (omega (arith, next, objects, first)) (c.in_ok-made.ensures.cited state.manifest.config.levels (omega (arith, low))) c.in_ok-made.ensures.level
    c.in_ok-made.ensures.levels is)

pub returns-clause-level : goal.returns-clause-level
returns-clause-level g c = ok_weaker c.step_of.result _ _ c.step_of.ensures (λ made is. subst (All (λ (new : NewHeader). new.level ≡ c.args.task.now.level + 1)) (sym is.headers_are) c.in_ok-made.ensures.levels)

pub returns-clause-fresh : goal.returns-clause-fresh
returns-clause-fresh g c =
    let files = rw c.next.ensures at c.in_ok-made.ensures.made in
    let next = c.args.state.now.next in
    ok_weaker c.step_of.result _ _ c.step_of.ensures (λ made is. subst (All (λ (object : Object). next ≤ object.name.no)) (sym is.objects)
    (All-weaker (λ (object : Object). (next ≤ object.name.no) × (object.name.no < c.in_ok-made.made.next)) (λ (object : Object). next ≤ object.name.no) (λ object drawn. drawn.0) c.in_ok-made.made.objects.items files.1.drawn))

pub returns-clause-named : goal.returns-clause-named
returns-clause-named g c = ok_weaker c.step_of.result _ _ c.step_of.ensures (λ made is.
    subst (All (λ (name : Name). IsTrue (is_named c.args.pages.pins.now.pins name))) (sym is.left)
    (left_needed (is_named c.args.pages.pins.now.pins) (c.in_ok-inputs.inputs.names.items ++ c.args.pages.retired.now)))

pub returns-clause-gone : goal.returns-clause-gone
returns-clause-gone g c = ok_weaker c.step_of.result _ _ c.step_of.ensures (λ made is.
    subst (All (λ (name : Name). is_named c.args.pages.pins.now.pins name ≡ false)) (sym is.gone)
    (gone_unneeded (is_named c.args.pages.pins.now.pins) (c.in_ok-inputs.inputs.names.items ++ c.args.pages.retired.now)))

pub returns-clause-pages : goal.returns-clause-pages
returns-clause-pages g c = ok_weaker c.step_of.result _ _ c.step_of.ensures (λ made is.
    subst (All IsPage) (sym is.left) (left_are IsPage c.args.pages.pins.now.pins c.requires.pages (c.in_ok-inputs.inputs.names.items ++ c.args.pages.retired.now)))

pub returns-clause-installs : goal.returns-clause-installs
returns-clause-installs g c = λ s m beside is current rising begun named uncited drawn of.
    let files = rw c.next.ensures at c.in_ok-made.ensures.made in
    let next = c.in_ok-made.ensures.next in
    let found = c.in_ok-inputs.ensures.stored s is.coherent (sym (ap (λ (m : Manifest). m.files) is.manifest) ∙ sym (c.items-cited.ensures ∙ ap (λ (m : Manifest). m.files) c.manifest.ensures)) is.files in
    let pages = left_are IsPage c.args.pages.pins.now.pins c.requires.pages (c.in_ok-inputs.inputs.names.items ++ c.args.pages.retired.now) in
    ok_both c.step_of.result _ _ _ c.step_of.ensures (returns-clause-step g c) (λ made stepped from.
    install_steps c.args.company s m c.args.state.now (parts_by_level c.args.version.now) (plain_merge c.args.task.now) is current c.requires.writable begun c.args.pages.retired.now c.args.pages.written.now c.args.drafts.items
    drawn c.requires.some beside named uncited of c.in_ok-made.made (omega (arith, next, c.next.ensures)) files.0 files.1 c.in_ok-inputs.inputs c.in_ok-inputs.ensures.numbers found (is_named c.args.pages.pins.now.pins) made stepped from.spelled (subst (All IsPage) (sym stepped.left) pages))
