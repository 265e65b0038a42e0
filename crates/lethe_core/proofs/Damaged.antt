-- Where a page is told as damaged, a fetch was made and it is a page of one of the files: only a read tells of one.
use Rattle.std.proofs.Common.{◌≡◌, ◌⊎◌, inl, inr, ℕ, List, [], ◌∷◌, length, map, get_or, Result, Ok, Err, sym, ap, ◌∙◌, subst}
use Rattle.std.specs.Prelude.{All, Any, Contains, IfErr, IsErrOf, slice_index_or}
use Rattle.std.specs.List.{AllZip}
use Rattle.std.proofs.Math.ListN.{get_or-eq_default, get_or-map}
use Rattle.std.proofs.lemmas.Bool.{cases_lt}
use Rattle.std.proofs.lemmas.List.Elements.{All-contains, Contains-get_or}
use Rattle.lethe_base.specs.Limits.{max_place}
use Rattle.lethe_base.specs.declared.name.Name.{Name}
use Rattle.lethe_base.specs.declared.refused.Refused.{Refused}
use Rattle.lethe_base.specs.declared.refused.Refused.TheVariants.{Exhausted, ReadFault, NoMemory, Damaged}
use Rattle.lethe_cover.proofs.Common.{first_or_rest, none_in}
use Rattle.lethe_cover.proofs.Lists.{flat_in, map_from}
use Rattle.lethe_disk.specs.declared.disk.Disk.{Ghosts}
use Rattle.lethe_file.specs.Damage.{IsDamagedAmong}
use Rattle.lethe_file.specs.declared.view.FileView.{FileView}
use Rattle.lethe_header.specs.Facts.{lines_of}
use Rattle.lethe_manifest.specs.declared.manifest.Cited.{Cited}
use Rattle.lethe_stored.specs.Files.{Parts, StoredFile, parts_of}
use Rattle.lethe_version.specs.Versions.{IsDamagedInAny, bytes_of, files_of, levels_of}
use Rattle.lethe_version.specs.declared.version.Version.{Version}
use Rattle.lethe_advance.specs.Shown.{parts_by_level, parts_in}
use Rattle.lethe_state.specs.declared.state.State.{State}
use Rattle.lethe_job.specs.Tasks.{HasDamaged, IsCitedAs}
use Rattle.lethe_job.proofs.Listed.{any_from, from_any}
use Rattle.lethe_core.specs.Reasons.{HasReason, told_since}

-- a refusal that reads no file tells of no page
pub not_damaged : {T : Type 0} (Short : Type 0) (state : State) (before now : ℕ) (result : Result T Refused) → IfErr result (HasReason Short state before now) → (name : Name) → IsErrOf result (Damaged name) → ⊥
not_damaged Short state before now (Ok value) reason name is = absurd cc
not_damaged Short state before now (Err why) reason name is = let same : why ≡ Damaged name = cc in subst (HasReason Short state before now) same reason

-- nor does one for which numbers or memory are short
pub not_short : (why : Refused) → (why ≡ Exhausted max_place) ⊎ (why ≡ NoMemory) → (name : Name) → why ≡ Damaged name → ⊥
not_short why (inl short) name is = cc
not_short why (inr memory) name is = cc

-- and the one that the last of several reads told of
pub damaged_since : (earlier : ℕ) (why : Refused) (name : Name) → told_since earlier why ≡ Damaged name → why ≡ Damaged name
damaged_since earlier (ReadFault before after) name is = absurd cc
damaged_since earlier why name is = is

-- each of some files that are cited is cited somehow
some_cited : (levels : List (List Parts)) (cited : List Cited) (files : List StoredFile) → AllZip (IsCitedAs levels) cited files → (file : StoredFile) → Contains files file → (one : Cited) × IsCitedAs levels one file
some_cited levels [] [] zipped file there = absurd (none_in file there)
some_cited levels [] (first ∷ files) zipped file there = absurd zipped
some_cited levels (one ∷ cited) [] zipped file there = absurd zipped
some_cited levels (one ∷ cited) (first ∷ files) zipped file there = elim (first_or_rest first files file there) [
  | inl same ↦ (one, subst (IsCitedAs levels one) same zipped.0)
  | inr rest ↦ some_cited levels cited files zipped.1 file rest
]

module _ {D Page Port : Type 0} {disk : Ghosts D Page Port} (version : Version D Page Port disk) where
  -- what stands at a level is one of the files as readers have it
  from_version : (level : ℕ) (parts : Parts) → Contains (slice_index_or (parts_by_level version) level []) parts → (file : FileView D Page Port disk) × Contains (files_of version) file × (parts_in file ≡ parts)
  from_version level parts there = elim (cases_lt level (length (levels_of version))) [
    | inl within ↦
        let files = get_or (levels_of version) level [] in
        let at : Contains (map parts_in files) parts = subst (λ (l : List Parts). Contains l parts) (get_or-map (map parts_in) (levels_of version) level []) there in
        let found = map_from parts_in files parts at in
        (found.0, flat_in (λ files. files) (levels_of version) files found.0 (Contains-get_or (levels_of version) level [] within) found.1, found.2)
    | inr over ↦
        let none : get_or (levels_of version) level [] ≡ [] = get_or-eq_default (levels_of version) [] over in
        let empty : get_or (parts_by_level version) level [] ≡ [] = get_or-map (map parts_in) (levels_of version) level [] ∙ ap (map parts_in) none in
        absurd (none_in parts (subst (λ (l : List Parts). Contains l parts) empty there))
  ]

  -- a damaged page of a file that is cited is one of a file of the version
  pub damaged_in : (name : Name) (cited : List Cited) (files : List StoredFile) → AllZip (IsCitedAs (parts_by_level version)) cited files → (inputs : List StoredFile) → All (Contains files) inputs
      → Any (HasDamaged disk.tells name) inputs → IsDamagedInAny version name
  damaged_in name cited files zipped inputs each any =
      let has = from_any (HasDamaged disk.tells name) inputs any in
      let there = All-contains (Contains files) inputs has.0 each has.1 in
      let one = some_cited (parts_by_level version) cited files zipped has.0 there in
      let found = from_version one.0.level (parts_of has.0) one.1.there in
      any_from (λ (file : FileView D Page Port disk). IsDamagedAmong disk.tells (lines_of file.header.tiles) (bytes_of file) name) (files_of version) found.0 found.1
      (subst (λ (parts : Parts). IsDamagedAmong disk.tells (lines_of parts.header.tiles) parts.pages name) (sym found.2) has.2)
