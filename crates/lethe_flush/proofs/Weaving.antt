-- The files of drafts that were woven of entries are woven of them, as a layout has them.
use Rattle.std.proofs.Common.{◌≡◌, ℕ, ◌+◌, ◌*◌, ◌-◌, ◌<◌, Bool, true, false, ◌&&◌, List, [], ◌∷◌, ◌++◌, length, get_or, map, take, drop, All, AllPairs, IsPermutation, refl, sym, ap, ◌∙◌, subst, arith}
use Rattle.std.specs.Prelude.{flat_map}
use Rattle.std.specs.List.{AllZip}
use Rattle.std.specs.Ordering.{is_le}
use Rattle.std.specs.declared.cmp.Ordering.{Ordering}
use Rattle.std.specs.declared.cmp.Ordering.TheVariants.{Less, Greater}
use Rattle.std.proofs.Math.Seq.{take-append_seam, drop-append_seam}
use Rattle.std.proofs.lemmas.List.{take-map, drop-map}
use Rattle.std.proofs.lemmas.List.Concat.{flat_map-append}
use Rattle.std.proofs.lemmas.List.Elements.{All-append, All-contains, All-nil, All-cons, All-head, All-tail, All-map, All-weaker, Contains-get_or}
use Rattle.std.proofs.lemmas.List.Sorted.{Contains-permutation, IsPermutation-append, IsPermutation-refl, IsPermutation-sym}
use Rattle.lethe_base.specs.Entries.{IsAscending}
use Rattle.lethe_base.specs.Keys.{Bytes, key_cmp}
use Rattle.lethe_base.specs.Layout.{File, Tile, entries_of}
use Rattle.lethe_base.specs.Shapes.{lower_key, upper_key}
use Rattle.lethe_base.specs.Limits.{max_place}
use Rattle.lethe_base.specs.declared.config.Fields.{Fields}
use Rattle.lethe_base.specs.declared.entry.Entry.{Entry}
use Rattle.lethe_tile.specs.Woven.{joined, IsCut, IsTile, IsWoven}
use Rattle.lethe_tile.proofs.Orders.{Across, HasLowerKey, pairs_from_ascending}
use Rattle.lethe_tile.proofs.Pages.{cut_some}
use Rattle.lethe_build.specs.Built.{IsToldBy, pages_of}
use Rattle.lethe_build.specs.Drafts.{AreDraftsOf, IsDraftOf, with_numbers}
use Rattle.lethe_build.specs.Parts.{IsBelow}
use Rattle.lethe_build.specs.declared.draft.Draft.{Draft}
use Rattle.lethe_build.proofs.Groups.{tiles_below}
use Rattle.lethe_build.proofs.Numbering.{is_numbered_of}
use Rattle.lethe_build.proofs.Whole.{key_there, parts_across, parts_all, tile_once}
use Rattle.lethe_cover.proofs.Lists.{Pairs, flat_from, flat_in, pairs_from, pairs_to, pairs_unmap}
use Rattle.lethe_file.specs.Agreement.{FileAgrees, entries_in}
use Rattle.lethe_follows.specs.Woven.{AreWovenOf}
use Rattle.lethe_follows.proofs.Tiled.{file_tiled}
use Rattle.lethe_header.specs.Facts.{lines_of}
use Rattle.lethe_header.specs.Headers as headers
use Rattle.lethe_header.specs.declared.header.PageLine.{PageLine}
use Rattle.lethe_header.specs.declared.header.TileLine.{TileLine}
use Rattle.lethe_header.proofs.Follows.{follows_at}
use Rattle.lethe_header.proofs.Lines.{are_tiles}
use Rattle.lethe_mem.proofs.Places.{turned}
use Rattle.lethe_moves.proofs.Common.{first_is}
use Rattle.lethe_moves.specs.Files.{IsClearOf, IsTight, IsTiled, keys_of}
use Rattle.lethe_moves.specs.Merges as merges
use Rattle.lethe_stored.specs.Files.{StoredFile, IsFile, file_of, lines_in, tiles_of}
use Rattle.lethe_flush.specs.Made.{IsOfDraft}
use Rattle.lethe_flush.proofs.Clearness.{fold_last, unmapped}

-- The tiles of a file

tiles_are : (tiles : List Tile) (lines : List TileLine) (pages : List (List ℕ)) → AllZip IsToldBy tiles lines → map entries_in pages ≡ pages_of tiles → tiles_of lines pages ≡ tiles
tiles_are [] [] pages zipped same = refl
tiles_are [] (line ∷ lines) pages zipped same = absurd zipped
tiles_are (tile ∷ tiles) [] pages zipped same = absurd zipped
tiles_are (tile ∷ tiles) (line ∷ lines) pages zipped same =
    let count = length line.pages in
    let front : map entries_in (take count pages) ≡ tile.pages =
    sym (take-map entries_in count pages) ∙ (λ i. take (zipped.0.pages i) (same i)) ∙ take-append_seam tile.pages (pages_of tiles) in
    let rest : map entries_in (drop count pages) ≡ pages_of tiles =
    sym (drop-map entries_in count pages) ∙ (λ i. drop (zipped.0.pages i) (same i)) ∙ drop-append_seam tile.pages (pages_of tiles) in
    let more = tiles_are tiles lines (drop count pages) zipped.1 rest in
    λ i. record { lo = zipped.0.lo i; hi = zipped.0.hi i; pages = front i } ∷ more i

-- a file that has some tiles, and whose pages agree with its header
pub record IsTiles (tiles : List Tile) (file : StoredFile) : Type 0 where
  pub are : (file_of file).tiles ≡ tiles
  pub agrees : FileAgrees file.header.tiles file.pages

has_tiles : (tiles : List Tile) (draft : Draft) (file : StoredFile) → IsDraftOf tiles draft → IsOfDraft draft file → IsTiles tiles file
has_tiles tiles draft file is of =
    let numbered = is_numbered_of tiles of.numbers draft is of.count in
    record {
      are = (λ i. tiles_of (of.tiles i) (of.pages i)) ∙ tiles_are tiles (with_numbers of.numbers draft.tiles) draft.pages numbered.lines is.entries;
      agrees = subst (λ (lines : List TileLine). FileAgrees lines file.pages) (sym of.tiles) (subst (FileAgrees (with_numbers of.numbers draft.tiles)) (sym of.pages) numbered.agrees);
    }

pub have_tiles : (groups : List (List Tile)) (drafts : List Draft) (files : List StoredFile) → AllZip IsDraftOf groups drafts → AllZip IsOfDraft drafts files → AllZip IsTiles groups files
have_tiles [] [] [] zipped zipped' = tt
have_tiles [] [] (file ∷ files) zipped zipped' = absurd zipped'
have_tiles [] (draft ∷ drafts) files zipped zipped' = absurd zipped
have_tiles (group ∷ groups) [] files zipped zipped' = absurd zipped
have_tiles (group ∷ groups) (draft ∷ drafts) [] zipped zipped' = absurd zipped'
have_tiles (group ∷ groups) (draft ∷ drafts) (file ∷ files) zipped zipped' = (has_tiles group draft file zipped.0 zipped'.0, have_tiles groups drafts files zipped.1 zipped'.1)

pub each_of : {X Y : Type 0} (R : X → Y → Type 0) (P : Y → Type 0) → ((x : X) (file : Y) → R x file → P file) → (xs : List X) (files : List Y) → AllZip R xs files → All P files
each_of R P goes [] [] zipped = All-nil P
each_of R P goes [] (file ∷ files) zipped = absurd zipped
each_of R P goes (x ∷ xs) [] zipped = absurd zipped
each_of R P goes (x ∷ xs) (file ∷ files) zipped = All-cons P file files (goes x file zipped.0) (each_of R P goes xs files zipped.1)

-- lines of a header that has a spelling have numbers that have one
all_lines : (tiles : List TileLine) → All headers.IsTile tiles → All headers.IsLine (lines_of tiles)
all_lines [] are = All-nil headers.IsLine
all_lines (tile ∷ tiles) are =
    All-append headers.IsLine tile.pages (lines_of tiles) (λ k d lt. (follows_at headers.LineFollows tile.pages k d (All-head headers.IsTile tile tiles are).lines lt).itself) (all_lines tiles (All-tail headers.IsTile tile tiles are))

-- whatever the numbers
pub is_file : (file : StoredFile) → headers.HasSpelling file.header → FileAgrees file.header.tiles file.pages → IsFile (max_place + 1) file
is_file file spelled agrees = record {
  spelled = spelled;
  agrees = agrees;
  below = All-weaker headers.IsLine (λ (line : PageLine). line.no < max_place + 1) (λ line is. omega (arith, is.no)) (lines_in file) (all_lines file.header.tiles (are_tiles file.header.tiles spelled.tiles));
}

abbrev in_tile : Tile → List Entry
in_tile tile = flat_map (λ page. page) tile.pages

-- a slice of the entries and its tile
tile_tight : (page : ℕ) (slice : List Entry) (tile : Tile) → IsTile page slice tile → IsTight tile
tile_tight page [] tile is = absurd (let none = is.lo in cc)
tile_tight page (e ∷ es) tile is =
    let same = tile_once page (e ∷ es) tile is in
    let last : length (e ∷ es) - 1 < length (e ∷ es) = omega arith in
    let first : 0 < length (e ∷ es) = omega arith in
    record {
      lo = (e, Contains-permutation (e ∷ es) (in_tile tile) e same (first_is e es e refl), key_there (e ∷ es) 0 tile.lo e first is.lo);
      hi = (
        get_or (e ∷ es) (length (e ∷ es) - 1) e,
        Contains-permutation (e ∷ es) (in_tile tile) (get_or (e ∷ es) (length (e ∷ es) - 1) e) same (Contains-get_or (e ∷ es) (length (e ∷ es) - 1) e last),
        key_there (e ∷ es) (length (e ∷ es) - 1) tile.hi e last is.hi,
      );
    }

woven_same : (page : ℕ) (slices : List (List Entry)) (tiles : List Tile) → AllZip (IsTile page) slices tiles → IsPermutation (joined slices) (flat_map in_tile tiles)
woven_same page [] [] zipped = IsPermutation-refl []
woven_same page [] (tile ∷ tiles) zipped = absurd zipped
woven_same page (slice ∷ slices) [] zipped = absurd zipped
woven_same page (slice ∷ slices) (tile ∷ tiles) zipped =
    IsPermutation-append slice (in_tile tile) (joined slices) (flat_map in_tile tiles) (tile_once page slice tile zipped.0) (woven_same page slices tiles zipped.1)

-- no part of a cut is empty

cut_length : {X : Type 0} (most : ℕ) (parts : List (List X)) → IsCut most parts → 0 < length parts → 0 < most
cut_length most [] cut some = absurd (omega (arith, some))
cut_length most (last ∷ []) cut some = omega (arith, cut.0, cut.1)
cut_length most (part ∷ (next ∷ parts)) cut some = cut_length most (next ∷ parts) cut.1 (omega arith)

cut_each : {X : Type 0} (most : ℕ) (parts : List (List X)) → IsCut most parts → All (λ part. 0 < length part) parts
cut_each most [] cut = All-nil (λ part. 0 < length part)
cut_each most (part ∷ parts) cut = cut_some most (part ∷ parts) (cut_length most (part ∷ parts) cut (omega arith)) cut

-- Tiles that ascend

and_false : (b : Bool) → (b && false) ≡ false
and_false true = refl
and_false false = refl

-- the first tiles are below the others
abbrev AreLower : List Tile → List Tile → Type 0
AreLower tiles others = key_cmp (upper_key tiles) (lower_key others) ≡ Less

lower_tiles : (tiles others : List Tile) → 0 < length tiles → 0 < length others → Across IsBelow tiles others → AreLower tiles others
lower_tiles [] others some some' across = absurd (omega (arith, some))
lower_tiles (t ∷ ts) [] some some' across = absurd (omega (arith, some'))
lower_tiles (t ∷ ts) (o ∷ os) some some' across =
    let last : length (t ∷ ts) - 1 < length (t ∷ ts) = omega arith in
    subst (λ (key : Bytes). key_cmp key o.lo ≡ Less) (sym (fold_last (λ (tile : Tile). tile.hi) [] (t ∷ ts) t some)) (across (length (t ∷ ts) - 1) t last 0 o some')

-- so no file has a key of the other
clear_from : (file other : File) → merges.IsBelow file other → IsClearOf (keys_of file) other
clear_from file other below =
    let above : key_cmp (keys_of other).lo (keys_of file).hi ≡ Greater = turned (keys_of file).hi (keys_of other).lo Less below in
    ap (λ (order : Ordering). is_le (key_cmp (keys_of file).lo (keys_of other).hi) && is_le order) above ∙ and_false (is_le (key_cmp (keys_of file).lo (keys_of other).hi))

weaker : {X : Type 0} (R Q : X → X → Type 0) → ((a b : X) → R a b → Q a b) → (xs : List X) → Pairs R xs → Pairs Q xs
weaker R Q goes [] pairs = tt
weaker R Q goes (x ∷ xs) pairs = ((λ y there. goes x y (pairs.0 y there)), weaker R Q goes xs pairs.1)

abbrev laid : List StoredFile → List File
laid files = map file_of files

abbrev tiles_in : File → List Tile
tiles_in file = file.tiles

groups_are : (groups : List (List Tile)) (files : List StoredFile) → AllZip IsTiles groups files → map tiles_in (laid files) ≡ groups
groups_are [] [] zipped = refl
groups_are [] (file ∷ files) zipped = absurd zipped
groups_are (group ∷ groups) [] zipped = absurd zipped
groups_are (group ∷ groups) (file ∷ files) zipped = let rest = groups_are groups files zipped.1 in λ i. zipped.0.are i ∷ rest i

abbrev IsSome : List Tile → Type 0
IsSome group = 0 < length group

flat_tiles : (files : List File) → flat_map entries_of files ≡ flat_map in_tile (joined (map tiles_in files))
flat_tiles [] = refl
flat_tiles (file ∷ files) = ap (λ rest. entries_of file ++ rest) (flat_tiles files) ∙ sym (flat_map-append in_tile file.tiles (joined (map tiles_in files)))

lower_groups : (groups : List (List Tile)) → All IsSome groups → Pairs (Across IsBelow) groups → Pairs AreLower groups
lower_groups [] each pairs = tt
lower_groups (group ∷ groups) each pairs = (
  (λ other there. lower_tiles group other (All-head IsSome group groups each) (All-contains IsSome groups other (All-tail IsSome group groups each) there) (pairs.0 other there)),
  lower_groups groups (All-tail IsSome group groups each) pairs.1,
)

-- files that have the tiles of the entries, cut into groups
module _ (fields : Fields) (entries : List Entry) (up : IsAscending entries) (drafts : List Draft) (are : AreDraftsOf fields entries drafts) (files : List StoredFile) (of : AllZip IsOfDraft drafts files) where
  zipped : AllZip IsTiles are.groups files
  zipped = have_tiles are.groups drafts files are.each of

  groups_same : map tiles_in (laid files) ≡ are.groups
  groups_same = groups_are are.groups files zipped

  tiles_same : joined (map tiles_in (laid files)) ≡ are.tiles
  tiles_same = ap joined groups_same ∙ are.consecutive

  same_entries : IsPermutation entries (flat_map entries_of (laid files))
  same_entries =
      subst (IsPermutation entries) (sym (flat_tiles (laid files) ∙ ap (flat_map in_tile) tiles_same))
      (subst (λ es. IsPermutation es (flat_map in_tile are.tiles)) are.woven.consecutive (woven_same fields.page are.woven.slices are.tiles are.woven.each))

  groups_some : All IsSome are.groups
  groups_some = cut_each fields.file are.groups are.lengths

  below : AllPairs IsBelow are.tiles
  below = tiles_below fields.page are.woven.slices are.tiles are.woven.each (cut_each (fields.page * fields.tile) are.woven.slices are.woven.lengths)
      (parts_across HasLowerKey are.woven.slices (subst (AllPairs HasLowerKey) (sym are.woven.consecutive) (pairs_from_ascending entries up)))

  rise : Pairs merges.IsBelow (laid files)
  rise = pairs_unmap AreLower tiles_in (laid files) (subst (Pairs AreLower) (sym groups_same)
      (lower_groups are.groups groups_some (pairs_from (Across IsBelow) are.groups (parts_across IsBelow are.groups (subst (AllPairs IsBelow) (sym are.consecutive) below)))))

  tights : All (λ file. All IsTight file.tiles) (laid files)
  tights = unmapped (All IsTight) tiles_in (laid files) (subst (All (All IsTight)) (sym groups_same)
      (parts_all IsTight are.groups (subst (All IsTight) (sym are.consecutive) (each_of (IsTile fields.page) IsTight (tile_tight fields.page) are.woven.slices are.tiles are.woven.each))))

  pub files_agree : All (λ file. FileAgrees file.header.tiles file.pages) files
  files_agree = each_of IsTiles (λ (file : StoredFile). FileAgrees file.header.tiles file.pages) (λ tiles file is. is.agrees) are.groups files zipped

  pub are_woven : (upto : ℕ) → All (λ file. headers.HasSpelling file.header) files → All (λ file. file.swept ≡ upto) files → AreWovenOf fields entries upto (laid files)
  are_woven upto spelled swept = record {
    made = record {
      has = λ entry. (
        (λ found. Contains-permutation (flat_map entries_of (laid files)) entries entry (IsPermutation-sym entries (flat_map entries_of (laid files)) same_entries) (flat_in entries_of (laid files) found.file entry found.there found.spelled)),
        λ there. let found = flat_from entries_of (laid files) entry (Contains-permutation entries (flat_map entries_of (laid files)) entry same_entries there) in record { file = found.0; there = found.1; spelled = found.2 },
      );
      tiled = All-map IsTiled file_of files (λ k d lt. file_tiled (max_place + 1) (get_or files k d) (is_file (get_or files k d) (spelled k d lt) (files_agree k d lt)));
      tight = tights;
      apart = pairs_to (λ file other. IsClearOf (keys_of file) other) (laid files) (weaker merges.IsBelow (λ file other. IsClearOf (keys_of file) other) clear_from (laid files) rise);
      swept = All-map (λ (file : File). file.swept ≡ upto) file_of files swept;
    };
    cut = record {
      woven = subst (IsWoven fields entries) (sym tiles_same) are.woven;
      lengths = subst (IsCut fields.file) (sym groups_same) are.lengths;
    };
    ascending = pairs_to merges.IsBelow (laid files) rise;
  }
