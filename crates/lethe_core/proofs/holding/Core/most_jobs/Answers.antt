use Rattle.std.proofs.Common.{◌≡◌, ◌≤◌, inl, inr, map, List, All, sym, ap, ◌∙◌, subst, arith}
use Rattle.lethe_base.specs.declared.config.Fields.{Fields}
use Rattle.lethe_base.specs.declared.pending.Pending.{Pending}
use Rattle.lethe_manifest.specs.declared.manifest.Manifest.{Manifest}
use Rattle.lethe_stored.specs.Stored.{Stored, count_of, pending_of}
use Rattle.lethe_job.specs.Tasks.{plain_file}
use Rattle.lethe_core.specs.Descent.{HasCountedErases, steps_down, unswept_pairs}
use Rattle.lethe_core.specs.Running.{Holds}
use Rattle.lethe_core.specs.View.{view_of}
use Rattle.lethe_core.proofs.Descending.{few_steps}
use Rattle.lethe_core.proofs.Outcomes.{few_pending}
use Rattle.lethe_core.proofs.Roomed.{clash}
use Rattle.lethe_core.proofs.Unswept.{files_few, pairs_few}
use Rattle.lethe_core.proofs.holding.Core.most_jobs.Goals as goal
use Rattle.lethe_core.proofs.holding.Core.most_jobs.Goals.{After-unswept_pairs-pairs}

-- what the headers tell
told : (g : _) (c : After-unswept_pairs-pairs g) (s : Stored) → Holds (view_of c.args.self.now) s
    → (c.steps_down-steps.result ≡ steps_down s.manifest.config.levels s.files) × (c.unswept_pairs-pairs.result ≡ unswept_pairs s.files (pending_of s))
told g c s holds =
    let remembers = holds.remembers in
    let coherent = remembers.coherent in
    let told = c.manifest-manifest.ensures ∙ remembers.manifest in
    let cited = sym (ap (λ (m : Manifest). m.files) told) ∙ sym c.items.ensures in
    let files = c.in-Ok.ensures.stored s coherent cited remembers.files in
    let first : map plain_file c.deref.result.now ≡ s.files = ap (map plain_file) c.deref.ensures.value ∙ files in
    let second : map plain_file c.deref-in-Ok.result.now ≡ s.files = ap (map plain_file) c.deref-in-Ok.ensures.value ∙ files in
    let erases : c.pending-erases.result.now ≡ pending_of s = c.pending-erases.ensures ∙ remembers.pending in
    let deepest : c.fields.result.now.levels ≡ s.manifest.config.levels = ap (λ (f : Fields). f.levels) c.fields.ensures.fields ∙ ap (λ (m : Manifest). m.config.levels) told in
    let steps : steps_down c.fields.result.now.levels (map plain_file c.deref.result.now) ≡ steps_down s.manifest.config.levels s.files =
    ap (steps_down c.fields.result.now.levels) first ∙ ap (λ levels. steps_down levels s.files) deepest in
    let pairs : unswept_pairs (map plain_file c.deref-in-Ok.result.now) c.pending-erases.result.now ≡ unswept_pairs s.files (pending_of s) =
    ap (λ files. unswept_pairs files c.pending-erases.result.now) second ∙ ap (unswept_pairs s.files) erases in
    let few = few_steps s coherent in
    let fewer = pairs_few s.files (pending_of s) (files_few s coherent) (few_pending g.D.Disk.tells (view_of c.args.self.now) s c.requires holds) in
    (omega (arith, c.steps_down-steps.ensures, steps, few), omega (arith, c.unswept_pairs-pairs.ensures, pairs, fewer))

pub returns-then-are_counted-clause-most : goal.returns-then-are_counted-clause-most
returns-then-are_counted-clause-most g c = λ s holds.
    let are = told g (goal.at.returns-then-are_counted-clause-most g c).After-unswept_pairs-pairs s holds in
    let count : c.count.result ≡ count_of s = c.count.ensures ∙ holds.running.current.count in
    let erases : c.pending-erases.result.now ≡ pending_of s = c.pending-erases.ensures ∙ holds.remembers.pending in
    let low : All (λ (erase : Pending). erase.seq ≤ c.count.result) c.pending-erases.result.now = c.are_counted.ensures.0 c.if-are_counted.true in
    let counted : HasCountedErases s = subst (λ n. All (λ (erase : Pending). erase.seq ≤ n) (pending_of s)) count (subst (λ (erases : List Pending). All (λ (erase : Pending). erase.seq ≤ c.count.result) erases) erases low) in
    inl (counted, omega (arith, are.0, are.1))

pub returns-in-Ok-clause-most : goal.returns-in-Ok-clause-most
returns-in-Ok-clause-most g c = λ s holds.
    let are = told g (goal.at.returns-in-Ok-clause-most g c).After-unswept_pairs-pairs s holds in
    let count : c.count.result ≡ count_of s = c.count.ensures ∙ holds.running.current.count in
    let erases : c.pending-erases.result.now ≡ pending_of s = c.pending-erases.ensures ∙ holds.remembers.pending in
    let uncounted : HasCountedErases s → ⊥ = λ counted.
    let low : All (λ (erase : Pending). erase.seq ≤ c.count.result) (pending_of s) = subst (λ n. All (λ (erase : Pending). erase.seq ≤ n) (pending_of s)) (sym count) counted in
    clash c.are_counted.result (c.are_counted.ensures.1 (subst (λ (erases : List Pending). All (λ (erase : Pending). erase.seq ≤ c.count.result) erases) (sym erases) low)) c.if-are_counted.false in
    inr (uncounted, omega (arith, are.0, are.1))
