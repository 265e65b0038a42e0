-- Files that share no key.
use Rattle.std.proofs.Common.{◌≡◌, ◌⊎◌, true, false, List, [], ◌∷◌, ◌++◌, map, Contains, sym, ◌∙◌, subst}
use Rattle.lethe_moves.proofs.Common.{⊎_elim, Contains-append_left, Contains-append_right, Bytes, InFiles, File, entries_of, IsOver, facts_of, Entry, FileFacts, none_in, first_or_rest, IsApart, in_map, KeyRange, hull, joined, range_of, key_itself, key_upto, IsClearOf, IsTiled, IsWithin, hull_of_files, keys_of, IsBelow}
use Rattle.lethe_moves.proofs.KeyOrder.{IsUpto, Spans, joined_spans, not_less, overlap_at, spans_through}
use Rattle.lethe_cover.proofs.Lists.{Pairs, in_middle, only_in, pairs_parts}
use Rattle.lethe_moves.proofs.Tiled.{entry_keys}

-- a file that is clear of a range has none of its keys
pub clear_of : (keys : KeyRange) (other : File) → IsTiled other → IsClearOf keys other → (key : Bytes) → IsWithin keys.lo keys.hi key → (below : Entry) → Contains (entries_of other) below → key ≡ below.key → ⊥
clear_of keys other tiled clear key within below there same =
    let hit = overlap_at keys (keys_of other) key within (subst (IsWithin (keys_of other).lo (keys_of other).hi) (sym same) (entry_keys other tiled below there)) in
    let clash : true ≡ false = sym hit ∙ clear in cc

pub clear_apart : (file other : File) → IsTiled file → IsTiled other → IsClearOf (keys_of file) other → IsApart file other
clear_apart file other tiled other_tiled clear entry below here there same = clear_of (keys_of file) other other_tiled clear entry.key (entry_keys file tiled entry here) below there same

pub below_apart : (file other : File) → IsTiled file → IsTiled other → IsBelow file other → IsApart file other
below_apart file other tiled other_tiled lower entry below here there same =
    not_less (keys_of file).hi (keys_of other).lo lower (key_upto (keys_of other).lo entry.key (keys_of file).hi
    (subst (IsUpto (keys_of other).lo) (sym same) (entry_keys other other_tiled below there).0) (entry_keys file tiled entry here).1)

pub apart_back : (file other : File) → IsApart file other → IsApart other file
apart_back file other apart entry below here there same = apart below entry there here (sym same)

pub only_file : (file : File) (entry : Entry) → InFiles (file ∷ []) entry → Contains (entries_of file) entry
only_file file entry is = subst (λ file. Contains (entries_of file) entry) (sym (only_in file is.file is.there)) is.spelled

pub clear_over : (file other : File) → IsTiled file → IsTiled other → IsClearOf (keys_of file) other → IsOver (file ∷ []) (other ∷ [])
clear_over file other tiled other_tiled clear entry older above below same = absurd (clear_apart file other tiled other_tiled clear entry older (only_file file entry above) (only_file other older below) same)

-- of files that ascend, those around some share no key with these
pub around_apart : (before gone behind : List File) → ((file : File) → Contains (before ++ (gone ++ behind)) file → IsTiled file) → Pairs IsBelow (before ++ (gone ++ behind))
    → (file other : File) → Contains before file ⊎ Contains behind file → Contains gone other → IsApart file other
around_apart before gone behind tiled pairs file other around there =
    let outer = pairs_parts IsBelow before (gone ++ behind) pairs in
    let own = tiled other (in_middle before gone behind other there) in
    ⊎_elim (λ left. below_apart file other (tiled file (Contains-append_left before (gone ++ behind) file left)) own (outer.2 file other left (Contains-append_left gone behind other there)))
    (λ right. apart_back other file (below_apart other file own (tiled file (Contains-append_right before (gone ++ behind) file (Contains-append_right gone behind file right)))
    ((pairs_parts IsBelow gone behind outer.1).2 other file there right))) around

-- a hull spans what it is of
hull_spans : (keys : KeyRange) (files : List FileFacts) → Spans (hull keys files) keys × ((file : FileFacts) → Contains files file → Spans (hull keys files) (range_of file))
hull_spans keys [] = ((key_itself keys.lo, key_itself keys.hi), λ file there. absurd (none_in file there))
hull_spans keys (first ∷ files) =
    let more = hull_spans (joined keys (range_of first)) files in
    let both = joined_spans keys (range_of first) in
    let all = hull keys (first ∷ files) in (
      spans_through all (joined keys (range_of first)) keys more.0 both.0,
      λ file there. ⊎_elim (λ same. subst (λ file. Spans all (range_of file)) same (spans_through all (joined keys (range_of first)) (range_of first) more.0 both.1)) (more.1 file) (first_or_rest first files file there),
    )

pub files_spanned : (files : List File) (file : File) → Contains files file → Spans (hull_of_files files) (keys_of file)
files_spanned [] file there = absurd (none_in file there)
files_spanned (first ∷ files) file there =
    let spans = hull_spans (keys_of first) (map (facts_of 0) files) in
    ⊎_elim (λ same. subst (λ file. Spans (hull_of_files (first ∷ files)) (keys_of file)) same spans.0) (λ rest. spans.1 (facts_of 0 file) (in_map (facts_of 0) files file rest)) (first_or_rest first files file there)
