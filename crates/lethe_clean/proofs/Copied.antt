-- The pages of a merge's outputs have no puts but those of its inputs, and so only those of what is stored where that has the inputs.
use Rattle.std.proofs.Common.{◌≡◌, ℕ, Bool, true, false, cond, List, [], ◌∷◌, Contains, All, IsPermutation, None, refl, sym, subst}
use Rattle.std.specs.Prelude.{flat_map, map}
use Rattle.std.specs.List.{AllZip, list_any}
use Rattle.std.proofs.Math.Logic.{⊎_elim}
use Rattle.std.proofs.lemmas.List.Elements.{All-contains, All-weaker}
use Rattle.std.proofs.lemmas.List.Sorted.{Contains-permutation, IsPermutation-append, IsPermutation-refl, IsPermutation-sym}
use Rattle.lethe_base.specs.Entries.{pair_of}
use Rattle.lethe_base.specs.Held.{InFiles}
use Rattle.lethe_base.specs.Keys.{Bytes}
use Rattle.lethe_base.specs.Layout.{Tile, entries_of, files_of}
use Rattle.lethe_base.specs.Matching.{IsPut, matches, pair_under}
use Rattle.lethe_base.specs.declared.config.Fields.{Fields}
use Rattle.lethe_base.specs.declared.entry.Body.{Body}
use Rattle.lethe_base.specs.declared.entry.Body.TheVariants.{Put, Tomb}
use Rattle.lethe_base.specs.declared.entry.Entry.{Entry}
use Rattle.lethe_base.specs.declared.name.Name.{Name}
use Rattle.lethe_base.specs.declared.pending.Pending.{Pending}
use Rattle.lethe_base.proofs.LayoutLaws.{none_in}
use Rattle.lethe_base.proofs.Newest.{first_is, first_or_rest}
use Rattle.lethe_build.specs.Drafts.{AreDraftsOf, IsDraftOf}
use Rattle.lethe_build.specs.declared.draft.Draft.{Draft}
use Rattle.lethe_build.proofs.Whole.{tile_once}
use Rattle.lethe_cover.proofs.Lists.{all_from, flat_from, flat_in, in_map, in_rest, map_from}
use Rattle.lethe_cover.proofs.Merging.{merged_outcome}
use Rattle.lethe_file.specs.Agreement.{Agrees, page_name}
use Rattle.lethe_file.specs.Agreement as agreement
use Rattle.lethe_build.specs.Drafts.{pages_in}
use Rattle.lethe_flush.specs.Merged.{entries_in}
use Rattle.lethe_flush.proofs.Following.{file_in}
use Rattle.lethe_header.specs.Facts.{lines_of}
use Rattle.lethe_merge.specs.Merge.{merged}
use Rattle.lethe_merge.proofs.Merges.{merged_is}
use Rattle.lethe_stored.specs.Files.{StoredFile, file_of}
use Rattle.lethe_stored.specs.Stored.{Stored, IsCoherent, layout_of}
use Rattle.lethe_stored.proofs.Leveled.{low_level}
use Rattle.lethe_tile.specs.Woven.{IsTile, joined}
use Rattle.lethe_clean.specs.Copied.{IsCopied, IsCopiedOf, IsOriginal}

-- a put that the erases leave is the put that was there
same_body : (erases : List Pending) (seq : ℕ) (a b : Body) → IsPut b → pair_of b ≡ pair_under erases seq a → a ≡ b
same_body erases seq a Tomb put same = absurd put
same_body erases seq Tomb (Put d v) put same = absurd (let clash : pair_of (Put d v) ≡ None = same in cc)
same_body erases seq (Put dkey value) (Put d v) put same = by (list_any (λ (erase : Pending). matches erase seq dkey) erases) same
  where
    by : (b : Bool) → pair_of (Put d v) ≡ cond b None (pair_of (Put dkey value)) → Put dkey value ≡ Put d v
    by true same = absurd (let clash : pair_of (Put d v) ≡ None = same in cc)
    by false same = let pair : ◌≡◌ {A = ℕ × Bytes} (d, v) (dkey, value) = cc in λ i. Put ((sym pair) i).0 ((sym pair) i).1

-- of two lists that agree one by one: one on the left that a right one agrees with
zip_left_of : {X Y : Type 0} (R : X → Y → Type 0) (xs : List X) (ys : List Y) (y : Y) → AllZip R xs ys → Contains ys y → (x : X) × Contains xs x × R x y
zip_left_of R [] [] y zipped there = absurd (none_in y there)
zip_left_of R [] (first ∷ ys) y zipped there = absurd zipped
zip_left_of R (x ∷ xs) [] y zipped there = absurd zipped
zip_left_of R (x ∷ xs) (first ∷ ys) y zipped there = ⊎_elim
    (λ (same : first ≡ y). (x, first_is x xs x refl, subst (R x) same zipped.0))
    (λ rest. let more = zip_left_of R xs ys y zipped.1 rest in (more.0, in_rest x xs more.0 more.1, more.2))
    (first_or_rest first ys y there)

abbrev in_tile : Tile → List Entry
in_tile tile = flat_map (λ page. page) tile.pages

-- tiles woven of slices have the slices' entries
woven_same : (page : ℕ) (slices : List (List Entry)) (tiles : List Tile) → AllZip (IsTile page) slices tiles → IsPermutation (joined slices) (flat_map in_tile tiles)
woven_same page [] [] zipped = IsPermutation-refl []
woven_same page [] (tile ∷ tiles) zipped = absurd zipped
woven_same page (slice ∷ slices) [] zipped = absurd zipped
woven_same page (slice ∷ slices) (tile ∷ tiles) zipped =
    IsPermutation-append slice (in_tile tile) (joined slices) (flat_map in_tile tiles) (tile_once page slice tile zipped.0) (woven_same page slices tiles zipped.1)

module _ (files : List StoredFile) (erases : List Pending) (alone : Bool) where
  abbrev inputs : List Entry
  inputs = entries_in files

  abbrev list : List Entry
  list = merged inputs erases alone

  input_filed : (entry : Entry) → Contains inputs entry → InFiles (map file_of files) entry
  input_filed entry there =
      let found = flat_from (λ (file : StoredFile). entries_of (file_of file)) files entry there in
      record { file = file_of found.0; there = in_map file_of files found.0 found.1; spelled = found.2 }

  pub output_original : (output : Entry) → Contains list output → IsPut output.body → IsOriginal (map file_of files) output
  output_original output made put =
      let outcome = merged_outcome (Contains inputs) inputs (λ entry there. there) (λ entry there. there) erases alone list (merged_is inputs erases alone) in
      let from = outcome.source output made in
      record {
        original = from.input;
        filed = input_filed from.input from.newest.shown;
        seq = from.place;
        key = from.same;
        body = same_body erases from.input.seq from.input.body output.body put from.answer;
      }

  module _ (config : Fields) (drafts : List Draft) (are : AreDraftsOf config list drafts) where
    -- an entry of a page of the drafts is one of the list
    entry_listed : (group : List Tile) → Contains are.groups group → (page : List Entry) → Contains (flat_map (λ (tile : Tile). tile.pages) group) page
        → (entry : Entry) → Contains page entry → Contains list entry
    entry_listed group there page inside entry among =
        let tile = flat_from (λ (tile : Tile). tile.pages) group page inside in
        let whole : Contains (joined are.groups) tile.0 = flat_in (λ (part : List Tile). part) are.groups group tile.0 there tile.1 in
        let placed : Contains are.tiles tile.0 = subst (λ tiles. Contains tiles tile.0) are.consecutive whole in
        let woven : Contains (flat_map in_tile are.tiles) entry = flat_in in_tile are.tiles tile.0 entry placed (flat_in (λ (page : List Entry). page) (tile.0).pages page entry tile.2 among) in
        let same = woven_same config.page are.woven.slices are.tiles are.woven.each in
        subst (λ entries. Contains entries entry) are.woven.consecutive
        (Contains-permutation (flat_map in_tile are.tiles) (joined are.woven.slices) entry (IsPermutation-sym (joined are.woven.slices) (flat_map in_tile are.tiles) same) woven)

    pub page_copied : (number : ℕ) (bytes : List ℕ) → Contains (pages_in drafts) bytes → IsCopiedOf (map file_of files) (page_name number, bytes)
    page_copied number bytes there =
        let draft = flat_from (λ (draft : Draft). draft.pages) drafts bytes there in
        let group = zip_left_of IsDraftOf are.groups drafts draft.0 are.each draft.1 in
        let is = group.2 in
        let line = zip_left_of Agrees (lines_of (draft.0).tiles) (draft.0).pages bytes is.agrees.pages draft.2 in
        let page : Contains (flat_map (λ (tile : Tile). tile.pages) group.0) (agreement.entries_in bytes) =
        subst (λ pages. Contains pages (agreement.entries_in bytes)) is.entries (in_map agreement.entries_in (draft.0).pages bytes draft.2) in
        record {
          page = refl;
          entries = agreement.entries_in bytes;
          spelled = record { class = (line.0).class; spelled = (line.2).page.spelled; is = (line.2).spelled };
          copies = all_of (agreement.entries_in bytes) (λ entry among put. output_original entry (entry_listed group.0 group.1 (agreement.entries_in bytes) page entry among) put);
        }
      where
        all_of : (entries : List Entry) → ((entry : Entry) → Contains entries entry → IsPut entry.body → IsOriginal (map file_of files) entry)
            → All (λ entry. IsPut entry.body → IsOriginal (map file_of files) entry) entries
        all_of entries each = all_from (λ entry. IsPut entry.body → IsOriginal (map file_of files) entry) entries each

-- What is stored has the files

module _ (s : Stored) (coherent : IsCoherent s) (files : List StoredFile) (stored : All (Contains s.files) files) where
  original_stored : (entry : Entry) → IsOriginal (map file_of files) entry → IsOriginal (files_of (layout_of s)) entry
  original_stored entry is =
      let found = map_from file_of files is.filed.file is.filed.there in
      let cited = All-contains (Contains s.files) files found.0 stored found.1 in
      record {
        original = is.original;
        filed = record {
          file = is.filed.file;
          there = subst (Contains (files_of (layout_of s))) found.2 (file_in s.manifest.config.levels s.files found.0 cited (low_level s coherent found.0 cited));
          spelled = is.filed.spelled;
        };
        seq = is.seq;
        key = is.key;
        body = is.body;
      }

  pub copied_stored : (named : Name × List ℕ) → IsCopiedOf (map file_of files) named → IsCopied s named
  copied_stored named is = record {
    page = is.page;
    entries = is.entries;
    spelled = is.spelled;
    copies = All-weaker (λ (entry : Entry). IsPut entry.body → IsOriginal (map file_of files) entry) (λ (entry : Entry). IsPut entry.body → IsOriginal (files_of (layout_of s)) entry)
        (λ entry from put. original_stored entry (from put)) is.entries is.copies;
  }

  pub all_stored : (loose : List (Name × List ℕ)) → All (IsCopiedOf (map file_of files)) loose → All (IsCopied s) loose
  all_stored loose copied = All-weaker (IsCopiedOf (map file_of files)) (IsCopied s) (λ named is. copied_stored named is) loose copied
