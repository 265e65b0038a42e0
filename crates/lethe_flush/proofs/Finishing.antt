-- What is promised of files that were made.
use Rattle.std.proofs.Common.{◌≡◌, ℕ, ◌<◌, ◌≤◌, Bool, List, [], ◌∷◌, drop, fold, length, get_or, map, All, refl, sym, ap, ◌∙◌, subst, arith}
use Rattle.std.specs.Prelude.{◌↔◌, flat_map}
use Rattle.std.specs.List.{AllZip}
use Rattle.std.proofs.lemmas.List.Elements.{All-cons, All-head, All-map, All-nil, All-tail}
use Rattle.sha2.proofs.Facts256.{length-sha256}
use Rattle.lethe_base.specs.Keys.{Bytes}
use Rattle.lethe_base.specs.Limits.{max_place}
use Rattle.lethe_base.specs.declared.config.Fields.{Fields}
use Rattle.lethe_base.specs.declared.entry.Entry.{Entry}
use Rattle.lethe_base.specs.declared.name.Name.{Name}
use Rattle.lethe_base.specs.declared.pending.Pending.{Pending}
use Rattle.lethe_base.proofs.LayoutLaws.{none_in}
use Rattle.lethe_advance.specs.Steps.{new_header}
use Rattle.lethe_advance.specs.declared.new_header.NewHeader.{NewHeader}
use Rattle.lethe_build.specs.Drafts.{AreDraftsOf, header_of, with_numbers}
use Rattle.lethe_build.specs.declared.draft.Draft.{Draft}
use Rattle.lethe_cover.proofs.Common.{⊎_elim}
use Rattle.lethe_file.specs.Agreement.{page_name}
use Rattle.lethe_fade.specs.Spans.{KeyRange, overlaps}
use Rattle.lethe_header.specs.Facts.{greatest_key, least_key}
use Rattle.lethe_header.specs.Headers as headers
use Rattle.lethe_header.specs.Headers.{header_bytes}
use Rattle.lethe_header.specs.declared.header.Header.{Header}
use Rattle.lethe_header.specs.declared.header.PageLine.{PageLine}
use Rattle.lethe_header.specs.declared.header.TileLine.{TileLine}
use Rattle.lethe_manifest.specs.Manifests as manifests
use Rattle.lethe_manifest.specs.declared.manifest.Cited.{Cited}
use Rattle.lethe_merge.specs.Merge.{merged}
use Rattle.lethe_merge.proofs.Merges.{merged_ascends}
use Rattle.lethe_stored.specs.Files.{StoredFile, cited_of, lines_in}
use Rattle.lethe_tile.proofs.Orders.{all_left, all_right}
use Rattle.lethe_flush.specs.Clear.{IsClearOf, range_of}
use Rattle.lethe_flush.specs.Flushed.{IsFlushOf}
use Rattle.lethe_flush.specs.Made.{AreFilesOf, IsOfDraft, headers_of}
use Rattle.lethe_flush.specs.declared.made.MadeFiles.{MadeFiles}
use Rattle.lethe_flush.proofs.Weaving.{are_woven, files_agree}

all_flat : {X Y : Type 0} (P : Y → Type 0) (f : X → List Y) (xs : List X) → All P (flat_map f xs) → All (λ x. All P (f x)) xs
all_flat P f [] all = All-nil (λ x. All P (f x))
all_flat P f (x ∷ xs) all = All-cons (λ x. All P (f x)) x xs (all_left P (f x) (flat_map f xs) all) (all_flat P f xs (all_right P (f x) (flat_map f xs) all))

-- files of drafts
module _ (drafts : List Draft) (level upto : ℕ) (written : List Name) (first : ℕ) (made : MadeFiles) (files : List StoredFile) (are : AreFilesOf drafts level upto written first made files) where
  pub headers_spelled : All (λ new. headers.HasSpelling new.header) made.headers.items
  headers_spelled = subst (All (λ (new : NewHeader). headers.HasSpelling new.header)) (sym are.headers_are) (All-map (λ (new : NewHeader). headers.HasSpelling new.header) new_header files are.spelled)

  pub headers_level : All (λ new. new.level ≡ level) made.headers.items
  headers_level = subst (All (λ (new : NewHeader). new.level ≡ level)) (sym are.headers_are) (All-map (λ (new : NewHeader). new.level ≡ level) new_header files are.level_is)

  pub cited_level : All (λ file. file.level ≡ level) made.cited.items
  cited_level = subst (All (λ (file : Cited). file.level ≡ level)) (sym are.cited) (All-map (λ (file : Cited). file.level ≡ level) cited_of files are.level_is)

  pub cited_spelled : upto ≤ max_place → (levels : ℕ) → level ≤ levels → All (manifests.IsFile made.next levels) made.cited.items
  cited_spelled low levels fits =
      subst (All (manifests.IsFile made.next levels)) (sym are.cited)
      (All-map (manifests.IsFile made.next levels) cited_of files (λ k d lt.
      let at = are.level_is k d lt in
      let swept = are.swept k d lt in
      record { level = omega (arith, at, fits); no = (are.headers_drawn k d lt).1; swept = omega (arith, swept, low); digest = length-sha256 (header_bytes (get_or files k d).header) }))

-- files of a flush
module _ (fields : Fields) (entries : List Entry) (erases : List Pending) (alone : Bool) (drafts : List Draft) (of : AreDraftsOf fields (merged entries erases alone) drafts) (upto first : ℕ) (made : MadeFiles) (files : List StoredFile)
    (are : AreFilesOf drafts 0 upto [] first made files)
  where
    fresh : All (λ line. (first ≤ line.no) × (line.no < made.next)) (flat_map lines_in files)
    fresh = λ k d lt. ⊎_elim (λ there. absurd (none_in (page_name (get_or (flat_map lines_in files) k d).no) there)) (λ is. is) (are.lines k d lt)

    below : All (λ file. All (λ line. line.no < made.next) (lines_in file)) files
    below = all_flat (λ (line : PageLine). line.no < made.next) lines_in files (λ k d lt. (fresh k d lt).1)

    pub is_flush : IsFlushOf fields entries erases alone upto first made files
    is_flush = record {
      headers = are.headers_are;
      cited = are.cited;
      objects = are.objects;
      new = record {
        level = are.level_is;
        each = λ k d lt. record { spelled = are.spelled k d lt; agrees = files_agree fields (merged entries erases alone) (merged_ascends entries erases alone) drafts of files are.each k d lt; below = below k d lt };
        headers = are.headers_drawn;
        lines = λ k d lt. (fresh k d lt).0;
        files_once = λ i j d before within same. let up = are.headers_ascend i j d before within in omega (arith, up, same);
        pages_once = are.lines_once;
      };
      order = are.headers_ascend;
      woven = are_woven fields (merged entries erases alone) (merged_ascends entries erases alone) drafts of files are.each upto are.spelled are.swept;
      once = are.once;
    }

-- Numbers don't change the keys of a file.

least_same : (numbers : List ℕ) (tiles : List TileLine) → least_key (with_numbers numbers tiles) ≡ least_key tiles
least_same numbers [] = refl
least_same numbers (tile ∷ tiles) = refl

greatest_same : (numbers : List ℕ) (tiles : List TileLine) (before : Bytes) → fold (λ before tile. tile.hi) before (with_numbers numbers tiles) ≡ fold (λ (before : Bytes) (tile : TileLine). tile.hi) before tiles
greatest_same numbers [] before = refl
greatest_same numbers (tile ∷ tiles) before = greatest_same (drop (length tile.pages) numbers) tiles tile.hi

abbrev headed : Draft → Header
headed draft = header_of 0 draft.tiles

met_same : (keys : KeyRange) (draft : Draft) (file : StoredFile) → IsOfDraft draft file → overlaps keys (range_of file.header) ≡ overlaps keys (range_of (headed draft))
met_same keys draft file of =
    let lo : least_key file.header.tiles ≡ least_key draft.tiles = ap least_key of.tiles ∙ least_same of.numbers draft.tiles in
    let hi : greatest_key file.header.tiles ≡ greatest_key draft.tiles = ap greatest_key of.tiles ∙ greatest_same of.numbers draft.tiles [] in
    ap (overlaps keys) (λ i. record { lo = lo i; hi = hi i })

clear_each : (keys : KeyRange) (drafts : List Draft) (files : List StoredFile) → AllZip IsOfDraft drafts files → All (λ draft. IsClearOf keys (headed draft)) drafts → All (IsClearOf keys) (map (λ file. file.header) files)
clear_each keys [] [] zipped clear = All-nil (IsClearOf keys)
clear_each keys [] (file ∷ files) zipped clear = absurd zipped
clear_each keys (draft ∷ drafts) [] zipped clear = absurd zipped
clear_each keys (draft ∷ drafts) (file ∷ files) zipped clear =
    All-cons (IsClearOf keys) file.header (map (λ file. file.header) files)
    (met_same keys draft file zipped.0 ∙ All-head (λ draft. IsClearOf keys (headed draft)) draft drafts clear)
    (clear_each keys drafts files zipped.1 (All-tail (λ draft. IsClearOf keys (headed draft)) draft drafts clear))

clear_back : (keys : KeyRange) (drafts : List Draft) (files : List StoredFile) → AllZip IsOfDraft drafts files → All (IsClearOf keys) (map (λ file. file.header) files) → All (λ draft. IsClearOf keys (headed draft)) drafts
clear_back keys [] [] zipped clear = All-nil (λ draft. IsClearOf keys (headed draft))
clear_back keys [] (file ∷ files) zipped clear = absurd zipped
clear_back keys (draft ∷ drafts) [] zipped clear = absurd zipped
clear_back keys (draft ∷ drafts) (file ∷ files) zipped clear =
    All-cons (λ draft. IsClearOf keys (headed draft)) draft drafts
    (sym (met_same keys draft file zipped.0) ∙ All-head (IsClearOf keys) file.header (map (λ file. file.header) files) clear)
    (clear_back keys drafts files zipped.1 (All-tail (IsClearOf keys) file.header (map (λ file. file.header) files) clear))

-- the headers of new headers are those of the files
pub plain_headers : (files : List StoredFile) → map (λ (new : NewHeader). new.header) (map new_header files) ≡ map (λ file. file.header) files
plain_headers [] = refl
plain_headers (file ∷ files) = ap (λ headers. file.header ∷ headers) (plain_headers files)

-- the headers of files that are made are those of the files
pub headers_made : (made : MadeFiles) (files : List StoredFile) → made.headers.items ≡ map new_header files → headers_of made ≡ map (λ file. file.header) files
headers_made made files are = ap (map (λ (new : NewHeader). new.header)) are ∙ plain_headers files

pub headers_clear : (keys : KeyRange) (drafts : List Draft) (level upto : ℕ) (written : List Name) (first : ℕ) (made : MadeFiles) (files : List StoredFile) → AreFilesOf drafts level upto written first made files
    → All (λ draft. IsClearOf keys (headed draft)) drafts ↔ All (IsClearOf keys) (headers_of made)
headers_clear keys drafts level upto written first made files are = (
  (λ clear. subst (All (IsClearOf keys)) (sym (headers_made made files are.headers_are)) (clear_each keys drafts files are.each clear)),
  (λ clear. clear_back keys drafts files are.each (subst (All (IsClearOf keys)) (headers_made made files are.headers_are) clear)),
)
