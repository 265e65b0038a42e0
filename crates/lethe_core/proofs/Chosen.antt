-- What a choice picks in what is stored.
use Rattle.std.proofs.Common.{◌≡◌, ◌≤◌, ℕ, List, [], ◌∷◌, map, Option, Some, None, sym, ap, ◌∙◌, subst, arith}
use Rattle.std.specs.Prelude.{All, Any, IfSome}
use Rattle.std.specs.List.{AllZip}
use Rattle.std.proofs.lemmas.List.Elements.{All-cons, All-head, All-nil, All-tail, All-weaker}
use Rattle.lethe_base.specs.Configuration.{IsConfig}
use Rattle.lethe_base.specs.Erases.{IsErase}
use Rattle.lethe_base.specs.Limits.{max_place, max_time}
use Rattle.lethe_base.specs.Spent.{left_erases}
use Rattle.lethe_base.specs.declared.config.Fields.{Fields}
use Rattle.lethe_base.specs.declared.pending.Pending.{Pending}
use Rattle.lethe_base.specs.declared.shape.Shape.{Shape}
use Rattle.lethe_disk.specs.declared.disk.Disk.{Ghosts}
use Rattle.lethe_fade.specs.declared.plan.Plan.{Plan}
use Rattle.lethe_manifest.specs.Manifests as manifests
use Rattle.lethe_manifest.specs.declared.manifest.Cited.{Cited}
use Rattle.lethe_manifest.specs.declared.manifest.Manifest.{Manifest}
use Rattle.lethe_state.specs.Left.{left_with}
use Rattle.lethe_state.specs.Writable.{IsWritable}
use Rattle.lethe_state.specs.declared.state.State.{State}
use Rattle.lethe_stored.specs.Files.{Parts, StoredFile}
use Rattle.lethe_stored.specs.Stored.{IsCoherent, Stored, layout_of}
use Rattle.lethe_job.specs.Shapes.{shape_of}
use Rattle.lethe_job.specs.Tasks.{IsCitedAs, IsStore, plain_file}
use Rattle.lethe_job.specs.Works.{IsBegunIn, IsNamedBy, IsPlanIn, PlainTask}
use Rattle.lethe_job.specs.declared.filed.Filed.{Filed}
use Rattle.lethe_job.proofs.Named.{chosen_in_store, chosen_is_named, due_in_store, due_is_named}
use Rattle.lethe_job.proofs.Shaped.{shape_same}
use Rattle.lethe_core.specs.Merges.{IsBegunBy, IsPickedIn, chosen_by, picked, room_choice}
use Rattle.lethe_core.specs.Running.{Holds}
use Rattle.lethe_core.specs.View.{View}
use Rattle.lethe_core.specs.declared.choosing.Choice.{Choice}
use Rattle.lethe_core.specs.declared.choosing.Choice.TheVariants.{Room, DueAt}

-- files that a manifest cites stand in its levels
pub cited_low : (levels : List (List Parts)) (next deepest : ℕ) (cited : List Cited) (files : List StoredFile) → AllZip (IsCitedAs levels) cited files
    → All (manifests.IsFile next deepest) cited → All (λ file. file.level ≤ deepest) files
cited_low levels next deepest [] [] zipped each = All-nil (λ (file : StoredFile). file.level ≤ deepest)
cited_low levels next deepest [] (file ∷ files) zipped each = absurd zipped
cited_low levels next deepest (one ∷ cited) [] zipped each = absurd zipped
cited_low levels next deepest (one ∷ cited) (file ∷ files) zipped each =
    let low = (All-head (manifests.IsFile next deepest) one cited each).level in
    let same = zipped.0.level in
    let rest = cited_low levels next deepest cited files zipped.1 (All-tail (manifests.IsFile next deepest) one cited each) in
    All-cons (λ (file : StoredFile). file.level ≤ deepest) file files (omega (arith, low, same)) rest

-- the plan names one of the files, and for a sweep one of the erases
picked_named : (by : Choice) (config : Fields) (files : List StoredFile) → All (λ file. file.level ≤ config.levels) files → (erases : List Pending) (clock : ℕ) (plan : Plan)
    → IsConfig config → picked by config (shape_of config.levels files erases) clock ≡ Some plan → IsNamedBy config.levels files erases plan.file plan.erase
picked_named Room config files low erases clock plan limits is =
    let some = limits.levels in
    chosen_is_named config (omega (arith, some)) files low erases clock plan is
picked_named (DueAt to) config files low erases clock plan limits is = due_is_named config files low erases to plan is

-- of others it names one where they have its place
named_among : (levels : ℕ) (files : List StoredFile) (erases others : List Pending) (number : ℕ) (place : Option ℕ)
    → IfSome place (λ place. Any (λ erase. erase.seq ≡ place) others) → IsNamedBy levels files erases number place → IsNamedBy levels files others number place
named_among levels files erases others number None known is = is
named_among levels files erases others number (Some place) known is = (is.0, known)

-- where it names a sweep that is one of what is stored
pub picked_in_store : (by : Choice) (s : Stored) → IsCoherent s → (plan : Plan) → chosen_by by s ≡ Some plan → IsPlanIn s plan.file plan.erase
picked_in_store Room s coherent plan is = chosen_in_store s coherent plan is
picked_in_store (DueAt to) s coherent plan is = due_in_store s coherent plan to is

-- the places and the times of the erases that a state remembers are within their limits
module _ (state : State) (writable : IsWritable state) (erases : List Pending) (same : erases ≡ state.pending) where
  pub all_placed : All (λ (erase : Pending). erase.seq ≤ max_place) erases
  all_placed = subst (All (λ (erase : Pending). erase.seq ≤ max_place)) (sym same)
      (All-weaker IsErase (λ (erase : Pending). erase.seq ≤ max_place) (λ erase is. is.place.1) state.pending writable.pending.each)

  pub all_timed : All (λ (erase : Pending). erase.time ≤ max_time) erases
  all_timed = subst (All (λ (erase : Pending). erase.time ≤ max_time)) (sym same)
      (All-weaker IsErase (λ (erase : Pending). erase.time ≤ max_time) (λ erase is. is.time) state.pending writable.pending.each)

-- the shape is that of the files of a store, as they are told
module _ {D Page Port : Type 0} {disk : Ghosts D Page Port} (by : Choice) (m : Manifest) (erases : List Pending) (fields : Fields) (fields_is : fields ≡ m.config)
    (files seen : List (Filed D Page Port disk)) (seen_is : seen ≡ files) (shape : Shape) (shape_is : shape ≡ shape_of fields.levels (map plain_file seen) erases) where
  picked_in : picked by m.config shape m.clock ≡ picked by m.config (shape_of m.config.levels (map plain_file files) erases) m.clock
  picked_in = ap (λ shape. picked by m.config shape m.clock) (shape_is ∙ (λ i. shape_of (fields_is i).levels (map plain_file (seen_is i)) erases))

  pub plan_named : IsConfig m.config → All (λ file. file.level ≤ m.config.levels) (map plain_file files) → (plan : Plan) → Some plan ≡ picked by m.config shape m.clock
      → (again : List (Filed D Page Port disk)) → again ≡ files → (others : List Pending) → IfSome plan.erase (λ place. Any (λ erase. erase.seq ≡ place) others)
      → IsNamedBy m.config.levels (map plain_file again) others plan.file plan.erase
  plan_named limits low plan is again same others known =
      let named = picked_named by m.config (map plain_file files) low erases m.clock plan limits (sym (is ∙ picked_in)) in
      named_among m.config.levels (map plain_file again) erases others plan.file plan.erase known
      (subst (λ l. IsNamedBy m.config.levels (map plain_file l) erases plan.file plan.erase) (sym same) named)

  -- on any disk
  pub picked_here : (view : View) → m ≡ view.state.manifest → AllZip (IsCitedAs view.levels) view.state.manifest.files (map plain_file files) → erases ≡ left_with view.state
      → (plan : Option Plan) → plan ≡ picked by m.config shape m.clock → IsPickedIn by view plan
  picked_here view m_is cited left plan is = record {
    shape = shape;
    of = record { files = map plain_file files; cited = cited; is = shape_is ∙ (λ i. shape_of (fields_is i).levels (map plain_file (seen_is i)) (left i)) ∙ ap (λ (m : Manifest). shape_of m.config.levels (map plain_file files) (left_with view.state)) m_is };
    is = sym (is ∙ ap (λ (m : Manifest). picked by m.config shape m.clock) m_is);
  }

  module _ (view : View) (m_is : m ≡ view.state.manifest) (s : Stored) (holds : Holds view s) (files_are : map plain_file files ≡ s.files) where
    manifest_is : m ≡ s.manifest
    manifest_is = m_is ∙ holds.remembers.manifest

    -- and its erases are those that are still to be done
    pub picked_chosen : erases ≡ left_erases (layout_of s) → picked by m.config shape m.clock ≡ chosen_by by s
    picked_chosen left =
        picked_in
        ∙ (λ i. picked by (manifest_is i).config (shape_of (manifest_is i).config.levels (files_are i) (left i)) (manifest_is i).clock)
        ∙ ap (λ (shape : Shape). picked by s.manifest.config (record shape { erases = left_erases (layout_of s) }) s.manifest.clock) (shape_same s holds.remembers.coherent)

    pub stored_in : (again : List (Filed D Page Port disk)) → again ≡ files → (pending : List Pending) → pending ≡ view.state.pending → (count : ℕ) → count ≡ view.state.count
        → IsStore s again m.config pending count
    stored_in again same pending pending_is count count_is = record {
      coherent = holds.remembers.coherent;
      rising = holds.running.rising;
      files_are = ap (map plain_file) same ∙ files_are;
      config_is = ap (λ (m : Manifest). m.config) (sym manifest_is);
      erases_are = pending_is ∙ holds.remembers.pending;
      count_is = count_is ∙ holds.running.current.count;
    }

-- where it makes room a job would begin with it
pub begun_in : (s : Stored) (task : PlainTask) → IsBegunBy room_choice s task → IsBegunIn s task
begun_in s task is = record { chosen = is.is_chosen; planned = is.planned }
