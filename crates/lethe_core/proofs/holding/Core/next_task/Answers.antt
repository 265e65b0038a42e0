use Rattle.std.proofs.Common.{◌≡◌, ◌≤◌, ◌∙◌, List, None, Some, ap, arith, map, rules, subst, sym}
use Rattle.std.specs.Prelude.{All, Contains, IsTrue}
use Rattle.std.specs.List.{AllZip}
use Rattle.lethe_fade.specs.declared.plan.Plan.{Plan}
use Rattle.lethe_manifest.specs.declared.manifest.Cited.{Cited}
use Rattle.lethe_manifest.specs.declared.manifest.Manifest.{Manifest}
use Rattle.lethe_stored.specs.Files.{StoredFile}
use Rattle.lethe_job.specs.Tasks.{IsCitedAs, counted_in, plain_file}
use Rattle.lethe_job.specs.Works.{IsInLevels, inputs_in, plain_task}
use Rattle.lethe_core.specs.Merges.{IsPickedIn, chosen_by}
use Rattle.lethe_core.specs.View.{view_of}
use Rattle.lethe_core.proofs.Chosen.{all_placed, all_timed, cited_low, picked_chosen, picked_here, picked_in_store, plan_named, stored_in}
use Rattle.lethe_core.proofs.holding.Core.next_task.Goals as goal

pub returns-in_default-clause-none : goal.returns-in_default-clause-none
returns-in_default-clause-none g c = λ s holds ended.
    let cited = ap (λ (m : Manifest). m.files) (sym (c.manifest-manifest.ensures ∙ holds.remembers.manifest)) ∙ sym c.items.ensures in
    let files = c.in_ok-files.ensures.stored s holds.remembers.coherent cited holds.remembers.files in
    let left = c.left_erases.ensures.left s (view_of c.args.self.now).levels holds.remembers in
    sym (c.in_default.ensures ∙ picked_chosen c.args.choice c.manifest-manifest.result.now c.left_erases.result.now c.fields.result.now c.fields.ensures.fields c.in_ok-files.files.items c.deref.result.now
    c.deref.ensures.value c.in_ok-shape.shape c.in_ok-shape.ensures.shape (view_of c.args.self.now) c.manifest-manifest.ensures s holds files left)

pub returns-in_default-clause-unpicked : goal.returns-in_default-clause-unpicked
returns-in_default-clause-unpicked g c = λ ended.
    let view = view_of c.args.self.now in
    let same = c.items.ensures ∙ ap (λ (m : Manifest). m.files) c.manifest-manifest.ensures in
    let cited = subst (λ (cited : List Cited). AllZip (IsCitedAs view.levels) cited (map plain_file c.in_ok-files.files.items)) same c.in_ok-files.ensures.each in
    picked_here c.args.choice c.manifest-manifest.result.now c.left_erases.result.now c.fields.result.now c.fields.ensures.fields c.in_ok-files.files.items c.deref.result.now
    c.deref.ensures.value c.in_ok-shape.shape c.in_ok-shape.ensures.shape view c.manifest-manifest.ensures cited c.left_erases.ensures.is None c.in_default.ensures

pub task_of-requires-clause-named : goal.task_of-requires-clause-named
task_of-requires-clause-named g c κs within =
    let view = view_of c.args.self.now in
    let manifest = c.manifest-manifest.result.now in
    let files = map plain_file c.in_ok-files.files.items in
    let known : IsTrue c.is_pending.result = search rules in
    let same = c.items.ensures ∙ ap (λ (m : Manifest). m.files) c.manifest-manifest.ensures in
    let cited = subst (λ (cited : List Cited). AllZip (IsCitedAs view.levels) cited files) same c.in_ok-files.ensures.each in
    let low = cited_low view.levels view.state.manifest.next view.state.manifest.config.levels view.state.manifest.files files cited c.requires.manifest.files.each in
    plan_named c.args.choice manifest c.left_erases.result.now c.fields.result.now c.fields.ensures.fields c.in_ok-files.files.items c.deref.result.now c.deref.ensures.value
    c.in_ok-shape.shape c.in_ok-shape.ensures.shape c.fields.ensures.limits
    (subst (λ (m : Manifest). All (λ (file : StoredFile). file.level ≤ m.config.levels) files) (sym c.manifest-manifest.ensures) low)
    c.in-Some.plan c.in-Some.ensures c.deref-2.result.now c.deref-2.ensures.value c.pending-erases.result.now (c.is_pending.ensures known)

pub returns-clause-some : goal.returns-clause-some
returns-clause-some g c = λ s holds.
    let cited = ap (λ (m : Manifest). m.files) (sym (c.manifest-manifest.ensures ∙ holds.remembers.manifest)) ∙ sym c.items.ensures in
    let files = c.in_ok-files.ensures.stored s holds.remembers.coherent cited holds.remembers.files in
    let left = c.left_erases.ensures.left s (view_of c.args.self.now).levels holds.remembers in
    let chosen = picked_chosen c.args.choice c.manifest-manifest.result.now c.left_erases.result.now c.fields.result.now c.fields.ensures.fields c.in_ok-files.files.items c.deref.result.now
    c.deref.ensures.value c.in_ok-shape.shape c.in_ok-shape.ensures.shape (view_of c.args.self.now) c.manifest-manifest.ensures s holds files left in
    let plan : chosen_by c.args.choice s ≡ Some c.in-Some.plan = sym (c.in-Some.ensures ∙ chosen) in
    let store = stored_in c.args.choice c.manifest-manifest.result.now c.left_erases.result.now c.fields.result.now c.fields.ensures.fields c.in_ok-files.files.items c.deref.result.now
    c.deref.ensures.value c.in_ok-shape.shape c.in_ok-shape.ensures.shape (view_of c.args.self.now) c.manifest-manifest.ensures s holds files c.deref-2.result.now c.deref-2.ensures.value
    c.pending-erases.result.now c.pending-erases.ensures c.count.result c.count.ensures in
    record {
      is_chosen = plan ∙ ap Some (sym c.in_ok-task.ensures.plan);
      planned = c.in_ok-task.ensures.planned s store (picked_in_store c.args.choice s holds.remembers.coherent c.in-Some.plan plan);
    }

pub returns-clause-picked : goal.returns-clause-picked
returns-clause-picked g c =
    let view = view_of c.args.self.now in
    let same = c.items.ensures ∙ ap (λ (m : Manifest). m.files) c.manifest-manifest.ensures in
    let cited = subst (λ (cited : List Cited). AllZip (IsCitedAs view.levels) cited (map plain_file c.in_ok-files.files.items)) same c.in_ok-files.ensures.each in
    subst (λ (plan : Plan). IsPickedIn c.args.choice view (Some plan)) (sym c.in_ok-task.ensures.plan)
    (picked_here c.args.choice c.manifest-manifest.result.now c.left_erases.result.now c.fields.result.now c.fields.ensures.fields c.in_ok-files.files.items c.deref.result.now
    c.deref.ensures.value c.in_ok-shape.shape c.in_ok-shape.ensures.shape view c.manifest-manifest.ensures cited c.left_erases.ensures.is (Some c.in-Some.plan) c.in-Some.ensures)

pub returns-clause-levels : goal.returns-clause-levels
returns-clause-levels g c = subst (λ (m : Manifest). IsInLevels m.config.levels (plain_task c.in_ok-task.task)) c.manifest-manifest.ensures c.in_ok-task.ensures.levels

pub returns-clause-upto : goal.returns-clause-upto
returns-clause-upto g c =
    let few = c.requires.count in
    let count = c.count.ensures in
    c.in_ok-task.ensures.upto (omega (arith, few, count)) (all_placed c.args.self.now.state c.requires c.pending-erases.result.now c.pending-erases.ensures)

pub returns-clause-times : goal.returns-clause-times
returns-clause-times g c = c.in_ok-task.ensures.times (all_timed c.args.self.now.state c.requires c.pending-erases.result.now c.pending-erases.ensures)

pub returns-clause-of : goal.returns-clause-of
returns-clause-of g c =
    let view = view_of c.args.self.now in
    let files = map plain_file c.in_ok-files.files.items in
    let same = c.items.ensures ∙ ap (λ (m : Manifest). m.files) c.manifest-manifest.ensures in
    let cited = subst (λ (cited : List Cited). AllZip (IsCitedAs view.levels) cited files) same c.in_ok-files.ensures.each in
    let some = subst (λ files. counted_in (inputs_in (plain_task c.in_ok-task.task)) ≤ counted_in (map plain_file files)) c.deref-2.ensures.value c.in_ok-task.ensures.some_of in
    let inputs = subst (λ files. All (Contains (map plain_file files)) (inputs_in (plain_task c.in_ok-task.task))) c.deref-2.ensures.value c.in_ok-task.ensures.inputs in
    record { files = files; cited = cited; inputs = inputs; some = some }
