-- What a step leaves as it was, whatever became of it.
use Rattle.std.proofs.Common.{◌≡◌, ◌≢◌, ◌⊎◌, inl, inr, ℕ, List, map, None, Some, true, false, sym, ap, ◌∙◌, subst, arith}
use Rattle.std.specs.Prelude.{Contains, IsSome, is_some}
use Rattle.std.proofs.lemmas.List.Elements.{All-contains}
use Rattle.lethe_base.specs.declared.name.Kind.TheVariants as kinds
use Rattle.lethe_base.specs.declared.name.Name.{Name}
use Rattle.lethe_disk.specs.Directory.{Directory, IsNoneOf, SameBeside, object}
use Rattle.lethe_disk.specs.Disk.{Image, IsSynced, Seen}
use Rattle.lethe_disk.specs.Runs.{Leads}
use Rattle.lethe_manifest.specs.Manifests.{manifest_bytes}
use Rattle.lethe_commit.specs.declared.objects.Object.{Object}
use Rattle.lethe_commit.specs.Clear.{IsCleared}
use Rattle.lethe_commit.specs.Gates.{gate_name}
use Rattle.lethe_commit.specs.Place.{name_of}
use Rattle.lethe_commit.specs.Switch.{IsSwitched, manifest_name}
use Rattle.lethe_stored.specs.Stored.{Stored, part_names}
use Rattle.lethe_stored.proofs.Frame.{none_of}
use Rattle.lethe_stored.proofs.Lists.{from_map}
use Rattle.lethe_stored.proofs.Parts.{object_part, part_kind}
use Rattle.lethe_advance.specs.declared.new_header.NewHeader.{NewHeader}
use Rattle.lethe_advance.specs.declared.step.Step.{Step}
use Rattle.lethe_advance.specs.Settled.{names_in}
use Rattle.lethe_advance.specs.Steps.{IsUncited, MayAdvance, WasThere}
use Rattle.lethe_advance.proofs.Placed.{written_absent}

-- where a crash left what a read gave and nothing else, what a read gives behind a run came by it from that
pub came_now : (R : Directory → Directory → Type 0) (a b : Seen) → IsSynced a → Leads R a b → Image b b.directory → R a.directory b.directory
came_now R a b synced run here =
    let from = run.each b.moment b.directory run.later (omega arith) here in
    subst (λ d. R d b.directory) (synced from.0 from.1) from.2

-- what every image has under a name stays so through calls that leave it
through : (R : Directory → Directory → Type 0) (name : Name) → ((d c : Directory) → R d c → object c name ≡ object d name) → (a b : Seen) → Leads R a b → (x : Directory)
    → ((d : Directory) → Image a d → object d name ≡ object x name) → (c : Directory) → Image b c → object c name ≡ object x name
through R name stays a b run x had c here =
    let from = run.each b.moment c run.later (omega arith) here in
    stays from.0 c from.2 ∙ had from.0 from.1

abbrev IsOther : Name → Type 0
IsOther name = (name.kind ≢ kinds.Gate) × (name.kind ≢ kinds.Manifest)

module _ (s t : Stored) (loose left : List (Name × List ℕ)) (headers : List NewHeader) (step : Step) (s0 : Seen) (may : MayAdvance s0 s loose t left headers step)
    (name : Name) (stays : Contains (part_names t) name ⊎ Contains (names_in left) name) (there : IsSome (object s0.directory name)) where
  abbrev HadIn : Seen → Type 0
  HadIn disk = (c : Directory) → Image disk c → object c name ≡ object s0.directory name

  pub had_first : HadIn s0
  had_first c here = ap (λ x. object x name) (may.settled.synced c here)

  -- It is of no object that is written or goes, and no gate or manifest.

  not_written : IsNoneOf (map name_of step.objects.items) name
  not_written = none_of (map name_of step.objects.items) name (λ among.
      let found = from_map name_of step.objects.items name among in
      let absent = written_absent s t loose left headers step may.settled.coherent may.step_is s0.directory may.only in
      let none = All-contains (λ (made : Object). object s0.directory made.name ≡ None) step.objects.items found.0 absent.each found.1 in
      let clash : true ≡ false = sym there ∙ ap is_some (ap (object s0.directory) (sym found.2) ∙ none) in
      cc)

  uncited_gone : Contains step.gone.items name → Contains (part_names t) name → ⊥
  uncited_gone among part = (All-contains (IsUncited s loose t) step.gone.items name may.step_is.gone among).1 part

  left_gone : Contains step.gone.items name → Contains (names_in left) name → ⊥
  left_gone among beside =
      let found = from_map (λ (named : Name × List ℕ). named.0) left name beside in
      All-contains (λ (other : Name × List ℕ). Contains step.gone.items other.0 → ⊥) left found.0 may.step_is.left_stays found.1 (subst (Contains step.gone.items) (sym found.2) among)

  not_gone : IsNoneOf step.gone.items name
  not_gone = none_of step.gone.items name (λ among. elim stays [ inl part ↦ uncited_gone among part | inr beside ↦ left_gone among beside ])

  page_is_other : (other : Name) → other.kind ≡ kinds.Page → IsOther other
  page_is_other other page = (
    (λ k. let clash : kinds.Page ≡ kinds.Gate = sym page ∙ k in cc),
    (λ k. let clash : kinds.Page ≡ kinds.Manifest = sym page ∙ k in cc),
  )

  was_other : (named : Name × List ℕ) → WasThere s loose named → IsOther named.0
  was_other named (inl among) = page_is_other named.0 (All-contains (λ (other : Name × List ℕ). other.0.kind ≡ kinds.Page) loose named may.step_is.loose_pages among)
  was_other named (inr old) = part_kind s named.0 (object_part s named old)

  left_other : Contains (names_in left) name → IsOther name
  left_other beside =
      let found = from_map (λ (named : Name × List ℕ). named.0) left name beside in
      subst IsOther found.2 (was_other found.0 (All-contains (WasThere s loose) left found.0 may.step_is.left_there found.1))

  is_other : IsOther name
  is_other = elim stays [ inl part ↦ part_kind t name part | inr beside ↦ left_other beside ]

  not_gate : (number : ℕ) → name ≢ gate_name number
  not_gate number same = is_other.0 (ap (λ (x : Name). x.kind) same)

  not_manifest : (number : ℕ) → name ≢ manifest_name number
  not_manifest number same = is_other.1 (ap (λ (x : Name). x.kind) same)

  switch_stays : (number older : ℕ) (bytes : List ℕ) (d c : Directory) → IsSwitched number bytes (Some older) d c → object c name ≡ object d name
  switch_stays number older bytes d c (inl un) = un.others name (not_manifest number, (not_gate number, tt))
  switch_stays number older bytes d c (inr new) = new.others name (not_manifest number, (not_gate number, (not_gate older, (not_manifest older, tt))))

  -- So each run of calls of the step leaves it.

  pub had_switched : (a b : Seen) → Leads (IsSwitched step.manifest.no (manifest_bytes step.manifest) (Some step.older)) a b → HadIn a → HadIn b
  had_switched a b run had = through (IsSwitched step.manifest.no (manifest_bytes step.manifest) (Some step.older)) name (switch_stays step.manifest.no step.older (manifest_bytes step.manifest)) a b run s0.directory had

  pub had_cleared : (gone : List Name) → gone ≡ step.gone.items → (a b : Seen) → Leads (IsCleared gone) a b → HadIn a → HadIn b
  had_cleared gone same a b run had = through (IsCleared gone) name (λ d c came. came.others name (subst (λ names. IsNoneOf names name) (sym same) not_gone)) a b run s0.directory had

  module _ (objects : List Object) (same : objects ≡ step.objects.items) where
    none_written : IsNoneOf (map name_of objects) name
    none_written = subst (λ l. IsNoneOf (map name_of l) name) (sym same) not_written

    pub had_written : (a b : Seen) → Leads (SameBeside (map name_of objects)) a b → HadIn a → HadIn b
    had_written a b run had = through (SameBeside (map name_of objects)) name (λ d c came. came name none_written) a b run s0.directory had

    pub had_taken_back : (a b : Seen) → Leads (IsCleared (map name_of objects)) a b → HadIn a → HadIn b
    had_taken_back a b run had = through (IsCleared (map name_of objects)) name (λ d c came. came.others name none_written) a b run s0.directory had
