use Rattle.std.proofs.Common.{◌≡◌, ◌++◌, ◌≤◌, ◌<◌, length, false, All, arith, rules, ap, sym, ◌∙◌, subst}
use Rattle.std.specs.Prelude.{IsTrue}
use Rattle.std.proofs.lemmas.List.Elements.{All-weaker}
use Rattle.lethe_advance.specs.Object.{Object}
use Rattle.lethe_advance.specs.declared.new_header.NewHeader.{NewHeader}
use Rattle.lethe_base.specs.Limits.{max_place}
use Rattle.lethe_base.specs.declared.name.Kind.TheVariants.{Page}
use Rattle.lethe_base.specs.declared.name.Name.{Name}
use Rattle.lethe_flush.proofs.Results.{ok_both, ok_weaker}
use Rattle.lethe_header.specs.Headers as headers
use Rattle.lethe_manifest.specs.declared.manifest.Manifest.{Manifest}
use Rattle.lethe_pins.specs.Held.{is_named}
use Rattle.lethe_sweep_task.specs.Outcome.{plain_sweep}
use Rattle.lethe_install.proofs.Between.{install_from}
use Rattle.lethe_install.proofs.Parted.{gone_unneeded, left_are, left_needed}
use Rattle.lethe_install.proofs.SweepInstall.{replaced_is, sweep_installs}
use Rattle.lethe_install.proofs.SweepParts.{cited_level, cited_spelled, parts_count, parts_fresh, parts_level, parts_next, parts_spelled}
use Rattle.lethe_install.proofs.sweeping.install.Goals as goal

-- it names a page
abbrev IsPage : Name → Type 0
IsPage name = name.kind ≡ Page

pub make_swept-requires-clause-written : goal.make_swept-requires-clause-written
make_swept-requires-clause-written g c =
    let last = c.requires.writable.last in
    All-weaker (λ (name : Name). (name.kind ≡ Page) × (name.no < c.args.state.now.next)) (λ (name : Name). name.no ≤ max_place)
    (λ name own. let low = own.1 in omega (arith, low, last)) c.args.pages.written.now c.requires.drawn.each

pub step_of-requires-clause-number : goal.step_of-requires-clause-number
step_of-requires-clause-number g c =
    let next = parts_next c.args.task.now.level c.args.task.now.erase.seq c.args.pages.written.now c.next.result c.args.draft c.in_ok-made.made c.requires.some c.in_ok-made.ensures in
    omega (arith, next, c.requires.number, c.next.ensures)

pub returns-clause-headers : goal.returns-clause-headers
returns-clause-headers g c = ok_weaker c.step_of.result _ _ c.step_of.ensures (λ made is. subst (All (λ (new : NewHeader). headers.HasSpelling new.header)) (sym is.headers_are)
    (parts_spelled c.args.task.now.level c.args.task.now.erase.seq c.args.pages.written.now c.next.result c.args.draft c.in_ok-made.made c.in_ok-made.ensures))

pub returns-clause-step : goal.returns-clause-step
returns-clause-step g c =
    let state = c.args.state.now in
    let level = c.args.task.now.level in
    let upto = c.args.task.now.erase.seq in
    let written = c.args.pages.written.now in
    let low = c.requires.level in
    let parts = c.in_ok-made.made in
    let are = c.in_ok-made.ensures in
    let next = parts_next level upto written c.next.result c.args.draft parts c.requires.some are in
    let objects = parts_count level upto written c.next.result c.args.draft parts c.requires.some are in
    let number = c.requires.number in
    let free = c.requires.free in
    let first = c.next.ensures in
    ok_weaker c.step_of.result _ _ c.step_of.ensures (λ made is. install_from state level c.in_ok-inputs.inputs parts c.args.pages.retired.now (is_named c.args.pages.pins.now.pins) made
    c.requires.writable low (omega (arith, next, number, free, first)) (omega (arith, next, objects, first))
    (cited_spelled level upto written c.next.result c.requires.place state.manifest.config.levels low c.args.draft parts are)
    (cited_level level upto written c.next.result c.args.draft parts are) (parts_level level upto written c.next.result c.args.draft parts are) is)

pub returns-clause-level : goal.returns-clause-level
returns-clause-level g c = ok_weaker c.step_of.result _ _ c.step_of.ensures (λ made is. subst (All (λ (new : NewHeader). new.level ≡ c.args.task.now.level)) (sym is.headers_are)
    (parts_level c.args.task.now.level c.args.task.now.erase.seq c.args.pages.written.now c.next.result c.args.draft c.in_ok-made.made c.in_ok-made.ensures))

pub returns-clause-objects : goal.returns-clause-objects
returns-clause-objects g c = ok_weaker c.step_of.result _ _ c.step_of.ensures (λ made is. ap length is.objects
    ∙ parts_count c.args.task.now.level c.args.task.now.erase.seq c.args.pages.written.now c.next.result c.args.draft c.in_ok-made.made c.requires.some c.in_ok-made.ensures)

pub returns-clause-fresh : goal.returns-clause-fresh
returns-clause-fresh g c =
    let next = c.args.state.now.next in
    ok_weaker c.step_of.result _ _ c.step_of.ensures (λ made is. subst (All (λ (object : Object). next ≤ object.name.no)) (sym is.objects)
    (parts_fresh c.args.task.now.level c.args.task.now.erase.seq c.args.pages.written.now next c.args.draft c.in_ok-made.made (rw c.next.ensures at c.in_ok-made.ensures)))

pub returns-clause-named : goal.returns-clause-named
returns-clause-named g c = ok_weaker c.step_of.result _ _ c.step_of.ensures (λ made is.
    subst (All (λ (name : Name). IsTrue (is_named c.args.pages.pins.now.pins name))) (sym is.left)
    (left_needed (is_named c.args.pages.pins.now.pins) (c.in_ok-inputs.inputs.names.items ++ c.args.pages.retired.now)))

pub returns-clause-gone : goal.returns-clause-gone
returns-clause-gone g c = ok_weaker c.step_of.result _ _ c.step_of.ensures (λ made is.
    subst (All (λ (name : Name). is_named c.args.pages.pins.now.pins name ≡ false)) (sym is.gone)
    (gone_unneeded (is_named c.args.pages.pins.now.pins) (c.in_ok-inputs.inputs.names.items ++ c.args.pages.retired.now)))

pub returns-clause-pages : goal.returns-clause-pages
returns-clause-pages g c = ok_weaker c.step_of.result _ _ c.step_of.ensures (λ made is.
    subst (All IsPage) (sym is.left) (left_are IsPage c.args.pages.pins.now.pins c.requires.pages (c.in_ok-inputs.inputs.names.items ++ c.args.pages.retired.now)))

pub returns-clause-installs : goal.returns-clause-installs
returns-clause-installs g c = λ s w levels beside is current rising begun named uncited drawn of.
    let state = c.args.state.now in
    let task = plain_sweep c.args.task.now in
    let are = rw c.next.ensures at c.in_ok-made.ensures in
    let replaced = replaced_is task.file c.header-header.result.now c.deref.result.now c.in_ok-made.made.headers.items c.items-cited.result.now
    state.manifest.files c.in_ok-inputs.inputs (search rules) c.deref.ensures.value (c.items-cited.ensures ∙ ap (λ (m : Manifest). m.files) c.manifest.ensures) (c.in_ok-inputs.ensures task.file.level task.file.swept task.file.pages) in
    let pages = left_are IsPage c.args.pages.pins.now.pins c.requires.pages (c.in_ok-inputs.inputs.names.items ++ c.args.pages.retired.now) in
    ok_both c.step_of.result _ _ _ c.step_of.ensures (returns-clause-step g c) (λ made stepped from.
    sweep_installs c.a_draft_is_left.ensures c.nothing_is_left.ensures c.args.company s state levels is current c.requires.writable w task begun c.args.task.now.behind
    c.args.pages.retired.now c.args.pages.written.now c.args.draft drawn c.requires.some beside named uncited of c.in_ok-made.made c.in_ok-inputs.inputs are replaced
    (is_named c.args.pages.pins.now.pins) made stepped from.spelled (subst (All IsPage) (sym stepped.left) pages))
