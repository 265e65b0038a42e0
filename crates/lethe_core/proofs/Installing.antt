-- From what a job made to the step that installs it.
use Rattle.std.proofs.Common.{◌≡◌, ◌≢◌, ◌≤◌, ◌<◌, ◌⊎◌, inl, inr, ℕ, false, List, [], ◌∷◌, ◌++◌, append_assoc, map, Contains, Some, None, refl, sym, ap, ◌∙◌, subst, arith}
use Rattle.std.specs.Prelude.{All, IsPermutation}
use Rattle.std.proofs.lemmas.List.{map-append}
use Rattle.std.proofs.lemmas.List.Elements.{All-append, All-contains, All-nil, All-weaker, Contains-append_cases, Contains-append_left, Contains-append_right}
use Rattle.std.proofs.lemmas.List.Sorted.{All-permutation, Contains-permutation, IsPermutation-append_comm, IsPermutation-append_right, IsPermutation-refl, IsPermutation-sym, IsPermutation-trans}
use Rattle.lethe_base.specs.History.{History}
use Rattle.lethe_base.specs.Layout.{entries_of}
use Rattle.lethe_base.specs.declared.config.Fields.{Fields}
use Rattle.lethe_base.specs.declared.entry.Entry.{Entry}
use Rattle.lethe_base.specs.declared.name.Kind.TheVariants as kinds
use Rattle.lethe_base.specs.declared.name.Name.{Name}
use Rattle.lethe_build.specs.Built.{most_numbers}
use Rattle.lethe_commit.specs.declared.objects.Object.{Object}
use Rattle.lethe_cover.proofs.Common.{first_is, none_in}
use Rattle.lethe_cover.proofs.Lists.{all_from, flat_from, flat_in, only_in}
use Rattle.lethe_fade.specs.Claims.{meets}
use Rattle.lethe_file.specs.Agreement.{FileAgrees}
use Rattle.lethe_file.proofs.Unique.{pairs_join}
use Rattle.lethe_follows.specs.Merged.{Company, Last, entries_in}
use Rattle.lethe_follows.proofs.Merging.{all_counted}
use Rattle.lethe_install.specs.Outcomes.{AreFirst, IsInstalledWith}
use Rattle.lethe_install.specs.declared.steps.Installation.{Installation}
use Rattle.lethe_install.proofs.Beside.{input_in}
use Rattle.lethe_install.proofs.Named.{drawn_behind}
use Rattle.lethe_install.proofs.TaskStays.{stays_beside}
use Rattle.lethe_job.specs.Claims.{claim_of_task}
use Rattle.lethe_job.specs.MadeOf.{numbers_in, written_of}
use Rattle.lethe_job.specs.SweepTasks.{IsSweepTask}
use Rattle.lethe_job.specs.Tasks.{AreSound, counted_in, merge_inputs}
use Rattle.lethe_job.specs.Works.{AreOutputs, IsBegunIn, IsPlanned, IsTaskFor, Merges, PlainTask, Sweeps, inputs_in}
use Rattle.lethe_job.specs.declared.made.Made.{Made}
use Rattle.lethe_job.specs.declared.made.Made.TheVariants.{Files, Left}
use Rattle.lethe_stored.specs.Files.{IsFile, Parts, StoredFile, file_of, objects_of}
use Rattle.lethe_stored.specs.Kept.{IsFor}
use Rattle.lethe_stored.specs.Levels.{AreRising}
use Rattle.lethe_stored.specs.Stored.{IsCited, IsCoherent, Stored, count_of, part_names, segment_name, segment_numbers}
use Rattle.lethe_stored.proofs.Lists.{all_left, all_right, from_map, in_map}
use Rattle.lethe_stored.proofs.Parts.{object_part}
use Rattle.lethe_tile.proofs.Orders.{pairs_append}
use Rattle.lethe_job.specs.Outcome.{PlainSweep}
use Rattle.lethe_job.specs.Swept.{StoredSweep}
use Rattle.lethe_advance.specs.Settled.{AreDrawn, AreUncited, names_in}
use Rattle.lethe_advance.specs.Steps.{IsObjectFrom, IsSettledBy, IsStep, IsUncited, WasThere}
use Rattle.lethe_advance.specs.declared.new_header.NewHeader.{NewHeader}
use Rattle.lethe_advance.specs.declared.step.Step.{Step}
use Rattle.lethe_state.specs.Remembered.{IsCurrent, Remembers}
use Rattle.lethe_state.specs.declared.state.State.{State}
use Rattle.lethe_core.specs.Flights.{AreFlights, company_of, flying_by, without}
use Rattle.lethe_core.specs.Jobs.{AreOutputsOf}
use Rattle.lethe_pins.specs.Held.{is_named}
use Rattle.lethe_core.specs.Merges.{MayMerge}
use Rattle.lethe_core.specs.Pinned.{AreNamed}
use Rattle.lethe_core.specs.Running.{Holds, IsTasked}
use Rattle.lethe_core.specs.StandsNow.{IsCounted, StandsNow}
use Rattle.lethe_core.specs.View.{Flying, View, beside_in, loose_in, named_in, names_beside}
use Rattle.lethe_core.proofs.Beside.{drawn_front, drawn_permuted, names_beside_at, names_named, names_permuted, uncited_permuted}
use Rattle.lethe_core.proofs.Flying.{apart_without, flying_there, loose_parts, without_from}
use Rattle.lethe_core.proofs.Hindered.{drawn_on}
use Rattle.lethe_core.proofs.Merged.{drawn_apart, inputs_same}
use Rattle.lethe_core.proofs.Standing.{stands_for, stands_holds}

-- The inputs of a task are files that are stored

pub swept_in : (s : Stored) (w : StoredSweep) (task : PlainSweep) → IsSweepTask s w task → Contains s.files task.file
swept_in s w task is =
    let there = Contains-append_right w.front (w.file ∷ w.back) w.file (first_is w.file w.back w.file refl) in
    let file : Contains s.files w.file = subst (λ files. Contains files w.file) (sym is.sweep.files) there in
    subst (Contains s.files) is.file file

pub input_stored : (s : Stored) → IsCoherent s → (task : PlainTask) → IsTaskFor s task → (file : StoredFile) → Contains (inputs_in task) file → Contains s.files file
input_stored s coherent (Merges task) is file there = input_in s coherent is.0 is.1.merge file (subst (λ files. Contains files file) (inputs_same s is.0 task is.1) there)
input_stored s coherent (Sweeps task) is file there = subst (Contains s.files) (only_in task.file file there) (swept_in s is.0 task is.1)

-- so their pages agree with their headers
pub sound_inputs : (s : Stored) → IsCoherent s → (task : PlainTask) → IsTaskFor s task → AreSound (inputs_in task)
sound_inputs s coherent task is = all_from (λ (file : StoredFile). FileAgrees file.header.tiles file.pages) (inputs_in task)
    (λ file there. (All-contains (IsFile s.manifest.next) s.files file coherent.each (input_stored s coherent task is file there)).agrees)

-- the task of a plan is one of what is stored
pub planned_for : (s : Stored) (task : PlainTask) → IsPlanned s task → IsTaskFor s task
planned_for s (Merges task) is = (is.m, is.is)
planned_for s (Sweeps task) is = (is.w, is.is)

-- and the places of all entries that it merges are counted
pub planned_counted : (h : History) (s : Stored) (task : PlainTask) → IsCoherent s → IsFor h s → IsPlanned s task → IsCounted task
planned_counted h s (Merges task) coherent stands is = all_from (λ (entry : Entry). entry.seq ≤ task.upto) (entries_in (merge_inputs task)) (λ entry there.
    let entries : StoredFile → List Entry = λ file. entries_of (file_of file) in
    let found = flat_from entries (merge_inputs task) entry there in
    let stored = flat_in entries s.files found.0 entry (input_stored s coherent (Merges task) (is.m, is.is) found.0 found.1) found.2 in
    let low = All-contains (λ (entry : Entry). entry.seq ≤ count_of s) (entries_in s.files) entry (all_counted h s coherent stands) stored in
    let counted = is.counted in
    omega (arith, low, counted))
planned_counted h s (Sweeps task) coherent stands is = tt

-- What a task makes takes no more numbers than as many entries take as its inputs' headers count

pub outputs_bounded : (Tells : Type 0) (task : PlainTask) (made : Made) → AreOutputs Tells task made → numbers_in made ≤ most_numbers (counted_in (inputs_in task))
outputs_bounded Tells (Merges task) (Files drafts) are = are.bounded
outputs_bounded Tells (Merges task) (Left made) are = absurd are
outputs_bounded Tells (Sweeps task) (Files drafts) are = absurd are
outputs_bounded Tells (Sweeps task) (Left made) are = are.bounded

-- Pages of other jobs

-- names that were drawn, and others
drawn_joined : (next : ℕ) (names others : List Name) → AreDrawn next names → AreDrawn next others → ((name : Name) → Contains names name → Contains others name → ⊥) → AreDrawn next (names ++ others)
drawn_joined next names others one two apart = record {
  each = All-append (λ (name : Name). (name.kind ≡ kinds.Page) × (name.no < next)) names others one.each two.each;
  once = pairs_join (λ (a b : Name). a ≢ b) names others one.once two.once
      (all_from (λ a. All (λ b. a ≢ b) others) names (λ a left. all_from (λ b. a ≢ b) others (λ b right same. apart b (subst (Contains names) same left) right)));
}

-- Pages that a step has nothing to do with lie beside what is stored before it and behind it.
module _ (s t : Stored) (loose left : List (Name × List ℕ)) (headers : List NewHeader) (step : Step) (is : IsStep s loose t left headers step)
    (others whole : List (Name × List ℕ)) (moved : IsPermutation (loose ++ others) whole) (pages : All (λ named. named.0.kind ≡ kinds.Page) others) (uncited : AreUncited s others)
    (apart : (name : Name) → Contains (names_in loose) name → Contains (names_in others) name → ⊥)
    (next : ℕ) (below : All (λ named. named.0.no < next) others) (fresh : All (λ object. next ≤ object.name.no) step.objects.items) where
  in_names : (named : Name × List ℕ) → Contains others named → Contains (names_in others) named.0
  in_names named there = in_map (λ (named : Name × List ℕ). named.0) others named there

  all_whole : (P : Name × List ℕ → Type 0) → All P loose → All P others → All P whole
  all_whole P one two = All-permutation P (loose ++ others) whole moved (All-append P loose others one two)

  from_loose : (named : Name × List ℕ) → Contains loose named → Contains whole named
  from_loose named there = Contains-permutation (loose ++ others) whole named moved (Contains-append_left loose others named there)

  from_others : (named : Name × List ℕ) → Contains others named → Contains whole named
  from_others named there = Contains-permutation (loose ++ others) whole named moved (Contains-append_right loose others named there)

  names_of_whole : (name : Name) → Contains (names_in whole) name → Contains (names_in loose) name ⊎ Contains (names_in others) name
  names_of_whole name there = Contains-append_cases (names_in loose) (names_in others) name (subst (λ names. Contains names name) (map-append (λ (named : Name × List ℕ). named.0) loose others)
      (Contains-permutation (names_in whole) (names_in (loose ++ others)) name (names_permuted whole (loose ++ others) (IsPermutation-sym (loose ++ others) whole moved)) there))

  loose_name : (name : Name) → Contains (names_in loose) name → Contains (names_in whole) name
  loose_name name there =
      let named = from_map (λ (named : Name × List ℕ). named.0) loose name there in
      subst (Contains (names_in whole)) named.2 (in_map (λ (named : Name × List ℕ). named.0) whole named.0 (from_loose named.0 named.1))

  -- none of them is written
  unwritten : (made : Object) → Contains step.objects.items made → Contains (names_in others) made.name → ⊥
  unwritten made written there =
      let named = from_map (λ (named : Name × List ℕ). named.0) others made.name there in
      let low = All-contains (λ (named : Name × List ℕ). named.0.no < next) others named.0 below named.1 in
      let high = All-contains (λ (object : Object). next ≤ object.name.no) step.objects.items made fresh written in
      let number = ap (λ (name : Name). name.no) named.2 in
      omega (arith, low, high, number)

  -- so none is cited next
  unplaced : (object : Name × List ℕ) → IsObjectFrom s loose step object → Contains (names_in others) object.0 → ⊥
  unplaced object (inl stored) there =
      let named = from_map (λ (named : Name × List ℕ). named.0) others object.0 there in
      All-contains (λ (named : Name × List ℕ). IsCited s named.0 → ⊥) others named.0 uncited named.1 (inr (inr (subst (Contains (part_names s)) (sym named.2) (object_part s object stored))))
  unplaced object (inr (inl lay)) there = apart object.0 (in_map (λ (named : Name × List ℕ). named.0) loose object lay) there
  unplaced object (inr (inr written)) there =
      let made = from_map (λ (made : Object). (made.name, made.bytes)) step.objects.items object written in
      unwritten made.0 made.1 (subst (Contains (names_in others)) (sym (ap (λ (named : Name × List ℕ). named.0) made.2)) there)

  uncited_next : (named : Name × List ℕ) → Contains others named → IsCited t named.0 → ⊥
  uncited_next named there cited = by cited
    where
      page : named.0.kind ≡ kinds.Page
      page = All-contains (λ (named : Name × List ℕ). named.0.kind ≡ kinds.Page) others named pages there

      by : IsCited t named.0 → ⊥
      by (inl gate) = let clash : kinds.Gate ≡ kinds.Page = ap (λ (name : Name). name.kind) (sym gate) ∙ page in cc
      by (inr (inl manifest)) = let clash : kinds.Manifest ≡ kinds.Page = ap (λ (name : Name). name.kind) (sym manifest) ∙ page in cc
      by (inr (inr part)) = elim (Contains-append_cases (map segment_name (segment_numbers t)) (map (λ (object : Name × List ℕ). object.0) (objects_of t.files)) named.0 part) [
        | inl segment ↦
            let found = from_map segment_name (segment_numbers t) named.0 segment in
            let clash : kinds.Segment ≡ kinds.Page = ap (λ (name : Name). name.kind) found.2 ∙ page in cc
        | inr object ↦
            let found = from_map (λ (object : Name × List ℕ). object.0) (objects_of t.files) named.0 object in
            unplaced found.0 (All-contains (IsObjectFrom s loose step) (objects_of t.files) found.0 is.objects found.1) (subst (Contains (names_in others)) (sym found.2) (in_names named there))
      ]

  -- nor does one go
  stays_there : (named : Name × List ℕ) → Contains others named → Contains step.gone.items named.0 → ⊥
  stays_there named there gone = elim (All-contains (IsUncited s loose t) step.gone.items named.0 is.gone gone).0 [
    | inl cited ↦ All-contains (λ (named : Name × List ℕ). IsCited s named.0 → ⊥) others named uncited there (inr (inr cited))
    | inr lay ↦ apart named.0 lay (in_names named there)
  ]

  from_whole : (object : Name × List ℕ) → IsObjectFrom s loose step object → IsObjectFrom s whole step object
  from_whole object (inl stored) = inl stored
  from_whole object (inr (inl lay)) = inr (inl (from_loose object lay))
  from_whole object (inr (inr written)) = inr (inr written)

  settled : (name : Name) → IsSettledBy step t left name → IsSettledBy step t (left ++ others) name
  settled name (inl cited) = inl cited
  settled name (inr (inl gone)) = inr (inl gone)
  settled name (inr (inr there)) = inr (inr (subst (λ names. Contains names name) (sym (map-append (λ (named : Name × List ℕ). named.0) left others))
      (Contains-append_left (names_in left) (names_in others) name there)))

  other_settled : (named : Name × List ℕ) → Contains others named → IsSettledBy step t (left ++ others) named.0
  other_settled named there = inr (inr (in_map (λ (named : Name × List ℕ). named.0) (left ++ others) named (Contains-append_right left others named there)))

  was_uncited : (name : Name) → IsUncited s loose t name → IsUncited s whole t name
  was_uncited name is = (elim is.0 as (λ _. Contains (part_names s) name ⊎ Contains (names_in whole) name) [ inl cited ↦ inl cited | inr lay ↦ inr (loose_name name lay) ], is.1)

  was_there : (named : Name × List ℕ) → WasThere s loose named → WasThere s whole named
  was_there named (inl lay) = inl (from_loose named lay)
  was_there named (inr stored) = inr stored

  pub step_framed : IsStep s whole t (left ++ others) headers step
  step_framed = record {
    coherent = is.coherent;
    config = is.config;
    older = is.older;
    manifest = is.manifest;
    later = is.later;
    fresh = is.fresh;
    once = is.once;
    loose_pages = all_whole (λ named. named.0.kind ≡ kinds.Page) is.loose_pages pages;
    loose_uncited = all_whole (λ named. IsCited s named.0 → ⊥) is.loose_uncited uncited;
    beside = all_from (λ (made : Object). Contains (names_in whole) made.name → ⊥) step.objects.items (λ made written there. elim (names_of_whole made.name there) [
      | inl lay ↦ All-contains (λ (made : Object). Contains (names_in loose) made.name → ⊥) step.objects.items made is.beside written lay
      | inr other ↦ unwritten made written other
    ]);
    segments = is.segments;
    objects = All-weaker (IsObjectFrom s loose step) (IsObjectFrom s whole step) from_whole (objects_of t.files) is.objects;
    cited = is.cited;
    stays = All-weaker (IsSettledBy step t left) (IsSettledBy step t (left ++ others)) settled (part_names s) is.stays;
    taken = all_whole (λ named. IsSettledBy step t (left ++ others) named.0)
        (All-weaker (λ (named : Name × List ℕ). IsSettledBy step t left named.0) (λ (named : Name × List ℕ). IsSettledBy step t (left ++ others) named.0) (λ named. settled named.0) loose is.taken)
        (all_from (λ (named : Name × List ℕ). IsSettledBy step t (left ++ others) named.0) others other_settled);
    gone = All-weaker (IsUncited s loose t) (IsUncited s whole t) was_uncited step.gone.items is.gone;
    gone_once = is.gone_once;
    left_there = All-append (WasThere s whole) left others (All-weaker (WasThere s loose) (WasThere s whole) was_there left is.left_there)
        (all_from (WasThere s whole) others (λ named there. inl (from_others named there)));
    left_stays = All-append (λ (named : Name × List ℕ). Contains step.gone.items named.0 → ⊥) left others is.left_stays
        (all_from (λ (named : Name × List ℕ). Contains step.gone.items named.0 → ⊥) others stays_there);
    left_uncited = All-append (λ (named : Name × List ℕ). IsCited t named.0 → ⊥) left others is.left_uncited
        (all_from (λ (named : Name × List ℕ). IsCited t named.0 → ⊥) others uncited_next);
    added = is.added;
    headers_are = is.headers_are;
    files = is.files;
  }

  -- what is left has other names
  left_apart : (name : Name) → Contains (names_in left) name → Contains (names_in others) name → ⊥
  left_apart name there = by found.0 found.2 (All-contains (WasThere s loose) left found.0 is.left_there found.1)
    where
      found : (named : Name × List ℕ) × Contains left named × (named.0 ≡ name)
      found = from_map (λ (named : Name × List ℕ). named.0) left name there

      by : (named : Name × List ℕ) → named.0 ≡ name → WasThere s loose named → Contains (names_in others) name → ⊥
      by named same (inl lay) other = apart name (subst (Contains (names_in loose)) same (in_map (λ (named : Name × List ℕ). named.0) loose named lay)) other
      by named same (inr stored) other = unplaced named (inl stored) (subst (Contains (names_in others)) (sym same) other)

  -- so where their numbers were drawn, they stand with those once
  pub drawn_framed : (last : ℕ) → next ≤ last → AreDrawn last (names_in left) → AreDrawn next (names_in others) → AreDrawn last (names_in left ++ names_in others)
  drawn_framed last later one two = drawn_joined last (names_in left) (names_in others) one (drawn_on next last (names_in others) later two) left_apart

-- Installing

-- what the installing of what a job made promises, the first of whose pages were written under these names, where these pages are retired
abbrev pub Installs : Type 0 → Company → State → List (List Parts) → PlainTask → Made → List Name → List Name → Installation → Type 0
Installs Tells company state levels task made written retired installation = Tells → (s : Stored) (beside : List (Name × List ℕ)) → Remembers s state levels → IsCurrent s state
    → AreRising s.files → IsTaskFor s task → names_in beside ≡ retired → AreUncited s (beside ++ written_of written made) → AreDrawn state.next (retired ++ written)
    → (t : Stored) × IsInstalledWith company s task t
    × ((left : List (Name × List ℕ)) × IsStep s (beside ++ written_of written made) t left installation.headers.items installation.step × (installation.left.items ≡ names_in left)
    × AreDrawn installation.step.manifest.next installation.left.items)
    × AreFirst written s t

-- Of what isn't cited any more just what a held pin names is left. What is written has numbers that weren't drawn.
pub record IsParted (view : View) (installation : Installation) : Type 0 where
  pub named : AreNamed view.pins.pins installation.left.items
  pub gone : All (λ name. is_named view.pins.pins name ≡ false) installation.step.gone.items
  pub fresh : All (λ object. view.state.next ≤ object.name.no) installation.step.objects.items
  pub later : view.state.next ≤ installation.step.manifest.next

-- the tasks of the others stay, whose claims don't meet its own
others_tasked : (rest : List Flying) (s t : Stored) (task : PlainTask) → IsCoherent s → AreRising s.files → All (IsTasked s) rest
    → All (λ other. meets (claim_of_task task) (claim_of_task other.task) ≡ false) rest → IsInstalledWith (company_of rest) s task t → IsCoherent t → All (IsTasked t) rest
others_tasked [] s t task coherent rising are apart installed after = All-nil (IsTasked t)
others_tasked (flying ∷ more) s t task coherent rising are apart installed after = all_from (IsTasked t) (flying ∷ more) (λ other there.
    stays_beside s t other.task task coherent rising (All-contains (IsTasked s) (flying ∷ more) other are there)
    (All-contains (λ (other : Flying). meets (claim_of_task task) (claim_of_task other.task) ≡ false) (flying ∷ more) other apart there) installed after)

-- Where these pages are the job's own, those of the others stay beside what is stored, and the retired ones are those of the store, it is a step that may be carried out.
module _ (Tells : Type 0) (view : View) (drawn : Tells → AreDrawn view.state.next (names_beside view)) (rest : List Flying) (own : List (Name × List ℕ))
    (moved : IsPermutation (loose_in rest ++ own) (loose_in view.flights)) (there : (flying : Flying) → Contains rest flying → Contains view.flights flying) (task : PlainTask)
    (apart : All (λ other. meets (claim_of_task task) (claim_of_task other.task) ≡ false) rest) (made : Made) (written retired : List Name) (installation : Installation) where
  abbrev here : List (Name × List ℕ)
  here = named_in view.disk.directory view.retired

  abbrev others : List (Name × List ℕ)
  others = loose_in rest

  parts : IsPermutation ((here ++ own) ++ others) (beside_in view)
  parts = subst (λ l. IsPermutation l (beside_in view)) (sym (append_assoc here own others)) (IsPermutation-append_right here (own ++ others) (loose_in view.flights)
      (IsPermutation-trans (own ++ others) (others ++ own) (loose_in view.flights) (IsPermutation-append_comm own others) moved))

  whole : IsPermutation (beside_in view) ((here ++ own) ++ others)
  whole = IsPermutation-sym ((here ++ own) ++ others) (beside_in view) parts

  drawn_parts : Tells → AreDrawn view.state.next (names_in (here ++ own) ++ names_in others)
  drawn_parts told = subst (AreDrawn view.state.next) (map-append (λ (named : Name × List ℕ). named.0) (here ++ own) others)
      (drawn_permuted view.state.next (names_in (beside_in view)) (names_in ((here ++ own) ++ others)) (names_permuted (beside_in view) ((here ++ own) ++ others) whole)
      (subst (AreDrawn view.state.next) (sym (names_beside_at view.disk.directory view.retired view.flights)) (drawn told)))

  drawn_others : Tells → AreDrawn view.state.next (names_in others)
  drawn_others told = drawn_behind view.state.next (names_in (here ++ own)) (names_in others) (drawn_parts told)

  each_other : Tells → (named : Name × List ℕ) → Contains others named → (named.0.kind ≡ kinds.Page) × (named.0.no < view.state.next)
  each_other told named inside = All-contains (λ (name : Name). (name.kind ≡ kinds.Page) × (name.no < view.state.next)) (names_in others) named.0 (drawn_others told).each
      (in_map (λ (named : Name × List ℕ). named.0) others named inside)

  names_apart : Tells → (name : Name) → Contains (names_in (here ++ own)) name → Contains (names_in others) name → ⊥
  names_apart told name left right =
      let across = (pairs_append (λ (a b : Name). a ≢ b) (names_in (here ++ own)) (names_in others) (drawn_parts told).once).2 in
      All-contains (λ other. name ≢ other) (names_in others) name (All-contains (λ one. All (λ other. one ≢ other) (names_in others)) (names_in (here ++ own)) name across left) right refl

  uncited_parts : (s : Stored) → Holds view s → AreUncited s ((here ++ own) ++ others)
  uncited_parts s holds = uncited_permuted s (beside_in view) ((here ++ own) ++ others) whole holds.running.uncited

  pub next_installed : Installs Tells (company_of rest) view.state view.levels task made written retired installation → IsParted view installation → view.retired ≡ retired
      → own ≡ written_of written made → names_in own ≡ written → Tells → (s : Stored) → Holds view s → IsTaskFor s task → (t : Stored) × MayMerge view rest s task t installation × AreFirst written s t
  next_installed installs parted retired_is loose names told s holds is =
      let uncited = uncited_parts s holds in
      let mine = all_left (λ (named : Name × List ℕ). IsCited s named.0 → ⊥) (here ++ own) others uncited in
      let free = all_right (λ (named : Name × List ℕ). IsCited s named.0 → ⊥) (here ++ own) others uncited in
      let named = names_named view.disk.directory view.retired ∙ retired_is in
      let numbers = subst (AreDrawn view.state.next) (map-append (λ (named : Name × List ℕ). named.0) here own ∙ λ i. named i ++ names i)
      (drawn_front view.state.next (names_in (here ++ own)) (names_in others) (drawn_parts told)) in
      let next = installs told s here holds.remembers holds.running.current holds.running.rising is named (subst (λ pages. AreUncited s (here ++ pages)) loose mine) numbers in
      let t = next.0 in
      let left = next.2.0 in
      let step : IsStep s (here ++ own) t left installation.headers.items installation.step = subst (λ pages. IsStep s (here ++ pages) t left installation.headers.items installation.step) (sym loose) next.2.1 in
      let page = all_from (λ (named : Name × List ℕ). named.0.kind ≡ kinds.Page) others (λ named inside. (each_other told named inside).0) in
      let below = all_from (λ (named : Name × List ℕ). named.0.no < view.state.next) others (λ named inside. (each_other told named inside).1) in
      let last = installation.step.manifest.next in (
        t,
        record {
          installed = next.1;
          left = left;
          step_is = step_framed s t (here ++ own) left installation.headers.items installation.step step others (beside_in view) parts page free (names_apart told) view.state.next below parted.fresh;
          left_is = next.2.2;
          drawn = subst (λ names. AreDrawn last (names ++ names_in others)) (sym next.2.2)
              (drawn_framed s t (here ++ own) left installation.headers.items installation.step step others (beside_in view) parts page free (names_apart told) view.state.next below parted.fresh
              last parted.later (subst (AreDrawn last) next.2.2 next.2.3) (drawn_others told));
          tasked = others_tasked rest s t task holds.remembers.coherent holds.running.rising
              (all_from (IsTasked s) rest (λ flying inside. All-contains (IsTasked s) view.flights flying holds.running.tasked (there flying inside))) apart next.1 step.coherent;
          named = parted.named;
          gone = parted.gone;
        },
        next.3,
      )

-- the pages of a job in flight have numbers that were drawn
pub own_drawn : (next number : ℕ) (flights : List Flying) (flying : Flying) → AreFlights flights → flying_by number flights ≡ Some flying → AreDrawn next (names_in (loose_in flights)) → AreDrawn next (names_in flying.written)
own_drawn next number flights flying are is drawn =
    drawn_behind next (names_in (loose_in (without number flights))) (names_in flying.written) (drawn_apart next number flights flying are is drawn)

-- for a job in flight
module _ (Tells : Type 0) (view : View) (drawn : Tells → AreDrawn view.state.next (names_beside view)) (are : AreFlights view.flights) (number : ℕ) (flying : Flying)
    (flies : flying_by number view.flights ≡ Some flying) (made : Made) (outputs : AreOutputsOf Tells flying made) (installation : Installation) where
  abbrev rest_of : List Flying
  rest_of = without number view.flights

  pub next_install : (company : Company) (task : PlainTask) (written retired : List Name) → Installs Tells company view.state view.levels task made written retired installation
      → company ≡ company_of rest_of → task ≡ flying.task → written ≡ names_in flying.written → IsParted view installation → view.retired ≡ retired
      → Tells → (s : Stored) → Holds view s → (t : Stored) × MayMerge view rest_of s flying.task t installation × AreFirst (names_in flying.written) s t
  next_install company task written retired installs beside same names parted retired_is told s holds =
      let tasked = All-contains (IsTasked s) view.flights flying holds.running.tasked (flying_there number view.flights flying flies).0 in
      let its = subst (λ names. Installs Tells (company_of rest_of) view.state view.levels flying.task made names retired installation) names
      (subst (λ task. Installs Tells (company_of rest_of) view.state view.levels task made written retired installation) same
      (subst (λ company. Installs Tells company view.state view.levels task made written retired installation) beside installs)) in
      next_installed Tells view drawn rest_of flying.written (loose_parts number view.flights flying are flies) (λ other inside. (without_from number view.flights other inside).0) flying.task
      (apart_without number view.flights flying are flies) made (names_in flying.written) retired installation its parted retired_is outputs.pages refl told s holds tasked

-- for the job that is chosen, where none is in flight
module _ (view : View) (task : PlainTask) (plans : (s : Stored) → Holds view s → IsPlanned s task) where
  pub chosen_sound : (s : Stored) → Holds view s → AreSound (inputs_in task)
  chosen_sound s holds = sound_inputs s holds.remembers.coherent task (planned_for s task (plans s holds))

  pub chosen_counted : view.state.stopped ≡ None → (config : Fields) (h : History) → StandsNow config h view → IsCounted task
  chosen_counted runs config h stands =
      let holds = stands_holds config h view stands runs in
      planned_counted h stands.stored task holds.remembers.coherent (stands_for config h view stands runs) (plans stands.stored holds)

  pub next_outcome : view.flights ≡ [] → (Tells : Type 0) → (Tells → AreDrawn view.state.next (names_beside view)) → (made : Made) (retired : List Name) (installation : Installation)
      → Installs Tells Last view.state view.levels task made [] retired installation → IsParted view installation → view.retired ≡ retired
      → Tells → (s : Stored) → Holds view s → (t : Stored) × MayMerge view view.flights s task t installation
  next_outcome free Tells drawn made retired installation installs parted there told s holds =
      let next = next_installed Tells view drawn [] [] (subst (λ flights. IsPermutation [] (loose_in flights)) (sym free) (IsPermutation-refl [])) (λ flying inside. absurd (none_in flying inside)) task
      (All-nil (λ (other : Flying). meets (claim_of_task task) (claim_of_task other.task) ≡ false)) made [] retired installation installs parted there refl refl told s holds (planned_for s task (plans s holds)) in
      (next.0, subst (λ rest. MayMerge view rest s task next.0 installation) (sym free) next.1)

-- for the job that is begun
pub begun_sound : (view : View) (task : PlainTask) → ((s : Stored) → Holds view s → IsBegunIn s task) → (s : Stored) → Holds view s → AreSound (inputs_in task)
begun_sound view task begins = chosen_sound view task (λ s holds. (begins s holds).planned)
