-- All entries of the files of what is stored have places of their own, so there are no more than changes.
use Rattle.std.proofs.Common.{◌≡◌, ◌≢◌, inr, ℕ, zero, suc, ◌+◌, ◌<◌, ◌≤◌, true, eqb, List, [], ◌∷◌, ◌++◌, get_or, map, length, AllPairs, Contains, refl, sym, ◌∙◌, subst, arith}
use Rattle.std.specs.List.{list_any, range_with_len}
use Rattle.std.specs.declared.cmp.Ordering.TheVariants.{Less}
use Rattle.std.proofs.lemmas.Bool.{cases_lt, eqb-true}
use Rattle.std.proofs.lemmas.Bool.Decides.{Decides-eqb}
use Rattle.std.proofs.lemmas.List.{length-map}
use Rattle.std.proofs.lemmas.List.Elements.{All-contains}
use Rattle.std.proofs.lemmas.List.Folds.{Any-from_list_any}
use Rattle.std.proofs.lemmas.List.FromFn.{get_or-map-range_with_len, length-map-range_with_len}
use Rattle.std.proofs.lemmas.Map.Made.{IsDistinct-from_AllPairs}
use Rattle.std.proofs.lemmas.Map.Steps.{length-le_from_distinct_below}
use Rattle.lethe_base.specs.History.{History}
use Rattle.lethe_base.specs.Keys.{key_cmp}
use Rattle.lethe_base.specs.Layout.{File, entries_of}
use Rattle.lethe_base.specs.NewerAbove.{IsOver}
use Rattle.lethe_base.specs.Placed.{IsPlaced}
use Rattle.lethe_base.specs.declared.entry.Entry.{Entry}
use Rattle.lethe_cover.specs.Moves.{IsApart}
use Rattle.lethe_cover.proofs.Common.{⊎_elim, first_is, first_or_rest}
use Rattle.lethe_cover.proofs.FilesInRuns.{singles}
use Rattle.lethe_cover.proofs.Grown.{placed_within}
use Rattle.lethe_cover.proofs.Lists.{Pairs, flat_from, in_map, in_rest, map_from, pairs_append, pairs_from, pairs_map, pairs_parts, pairs_to, pairs_unmap}
use Rattle.lethe_follows.specs.Merged.{at, entries_in}
use Rattle.lethe_follows.proofs.Following.{file_in}
use Rattle.lethe_follows.proofs.Tiled.{file_tiled}
use Rattle.lethe_header.specs.Facts.{least_key, greatest_key}
use Rattle.lethe_moves.specs.Files.{IsBounded, IsLower, IsTiled}
use Rattle.lethe_moves.specs.Merges.{IsBelow}
use Rattle.lethe_moves.proofs.Apart.{below_apart}
use Rattle.lethe_stored.specs.Files.{StoredFile, IsFile, at_level, file_of}
use Rattle.lethe_stored.specs.Kept.{IsFor}
use Rattle.lethe_stored.specs.Stored.{Stored, IsCoherent}
use Rattle.lethe_stored.proofs.FileFacts.{lower_is, upper_is}
use Rattle.lethe_stored.proofs.Leveled.{from_level, in_level, kept_rise, low_level}
use Rattle.lethe_core.proofs.Keyed.{HasOtherKey, HasOtherPlace, by_level, one_key, pairs_weaker, some_place, tiles_once}

module _ (h : History) (s : Stored) (coherent : IsCoherent s) (stands : IsFor h s) where
  abbrev deepest : ℕ
  deepest = s.manifest.config.levels

  abbrev spells : StoredFile → List Entry
  spells file = entries_of (file_of file)

  abbrev Differ : StoredFile → StoredFile → Type 0
  Differ a b = (entry other : Entry) → Contains (spells a) entry → Contains (spells b) other → entry.seq ≢ other.seq

  tiled : (file : StoredFile) → Contains s.files file → IsTiled (file_of file)
  tiled file there = file_tiled s.manifest.next file (All-contains (IsFile s.manifest.next) s.files file coherent.each there)

  placed : (file : StoredFile) → Contains s.files file → (entry : Entry) → Contains (spells file) entry → IsPlaced h entry.seq entry.key entry.body
  placed file there entry spelled = stands.covers.places.entries entry file.swept
      (inr (record { file = file_of file; there = file_in deepest s.files file there (low_level s coherent file there); spelled = spelled }, refl))

  -- files that share no key, and files of which one is over the other
  apart_differ : (a b : StoredFile) → Contains s.files a → Contains s.files b → IsApart (file_of a) (file_of b) → Differ a b
  apart_differ a b one two apart entry other left right same = apart entry other left right (one_key h entry other (placed a one entry left) (placed b two other right) same)

  over_differ : (run lower : List File) (a b : StoredFile) → Contains s.files a → Contains s.files b → Contains run (file_of a) → Contains lower (file_of b) → IsOver run lower → Differ a b
  over_differ run lower a b one two above below over entry other left right same =
      let less = over entry other (record { file = file_of a; there = above; spelled = left }) (record { file = file_of b; there = below; spelled = right }) (one_key h entry other (placed a one entry left) (placed b two other right) same) in
      omega (arith, less, same)

  -- The runs

  abbrev newest : List File
  newest = at_level s.files 0

  abbrev deeper : List (List File)
  deeper = map (at_level s.files) (range_with_len 1 deepest)

  parts : Pairs IsOver (singles newest) × Pairs IsOver deeper × ((run lower : List File) → Contains (singles newest) run → Contains deeper lower → IsOver run lower)
  parts = pairs_parts IsOver (singles newest) deeper (pairs_from IsOver (singles newest ++ deeper) stands.covers.newer_above.runs)

  in_files : (level : ℕ) (file : StoredFile) → Contains s.files file → file.level ≡ level → Contains (at_level s.files level) (file_of file)
  in_files level file there is = in_map file_of (at level s.files) file (in_level s.files level file there is)

  deep_at : (place : ℕ) → place < deepest → (d : List File) → get_or deeper place d ≡ at_level s.files (suc place)
  deep_at place below d = get_or-map-range_with_len (at_level s.files) 1 deepest place (suc place) d below (omega arith)

  count_deep : length deeper ≡ deepest
  count_deep = length-map-range_with_len (at_level s.files) 1 deepest

  same_level : (level : ℕ) → Pairs Differ (at level s.files)
  same_level zero = pairs_weaker (λ a b. IsOver (file_of a ∷ []) (file_of b ∷ [])) Differ (at 0 s.files)
      (λ a b left right over. over_differ (file_of a ∷ []) (file_of b ∷ []) a b (from_level s.files 0 a left).0 (from_level s.files 0 b right).0
      (first_is (file_of a) [] (file_of a) refl) (first_is (file_of b) [] (file_of b) refl) over)
      (pairs_unmap (λ file other. IsOver (file ∷ []) (other ∷ [])) file_of (at 0 s.files) (pairs_unmap IsOver (λ file. file ∷ []) newest parts.0))
  same_level (suc before) = pairs_weaker Rises Differ (at (suc before) s.files)
      (λ a b left right rises.
      let one = (from_level s.files (suc before) a left).0 in
      let two = (from_level s.files (suc before) b right).0 in
      apart_differ a b one two (below_apart (file_of a) (file_of b) (tiled a one) (tiled b two) (below a b rises)))
      (pairs_from Rises (at (suc before) s.files) (kept_rise h s coherent stands (suc before) (omega arith)))
    where
      Rises : StoredFile → StoredFile → Type 0
      Rises a b = key_cmp (greatest_key a.header.tiles) (least_key b.header.tiles) ≡ Less

      below : (a b : StoredFile) → Rises a b → IsBelow (file_of a) (file_of b)
      below a b rises = (λ i. key_cmp (sym (upper_is [] a.header.tiles a.pages) i) (sym (lower_is b.header.tiles b.pages) i)) ∙ rises

  higher : (a b : StoredFile) → Contains s.files a → Contains s.files b → a.level < b.level → Differ a b
  higher a b one two less = by a.level b.level refl refl
    where
      by : (above below : ℕ) → a.level ≡ above → b.level ≡ below → Differ a b
      by above zero up down = absurd (omega (arith, down, less))
      by zero (suc lower) up down =
          let low = low_level s coherent b two in
          over_differ (file_of a ∷ []) (at_level s.files (suc lower)) a b one two (first_is (file_of a) [] (file_of a) refl) (in_files (suc lower) b two down)
          (parts.2 (file_of a ∷ []) (at_level s.files (suc lower)) (in_map (λ file. file ∷ []) newest (file_of a) (in_files 0 a one up))
          (lower, omega (arith, low, down, count_deep), deep_at lower (omega (arith, low, down)) (at_level s.files (suc lower))))
      by (suc upper) (suc lower) up down =
          let low = low_level s coherent b two in
          let over = pairs_to IsOver deeper parts.1 upper lower [] (omega (arith, up, down, less)) (omega (arith, low, down, count_deep)) in
          over_differ (at_level s.files (suc upper)) (at_level s.files (suc lower)) a b one two (in_files (suc upper) a one up) (in_files (suc lower) b two down)
          (subst (IsOver (at_level s.files (suc upper))) (deep_at lower (omega (arith, low, down)) [])
          (subst (λ run. IsOver run (get_or deeper lower [])) (deep_at upper (omega (arith, low, up, down, less)) []) over))

  differ : Pairs Differ s.files
  differ = by_level Differ s.files same_level (λ a b one two other. ⊎_elim (higher a b one two)
      (λ le entry again left right same. higher b a two one (omega (arith, le, other)) again entry right left (sym same))
      (cases_lt a.level b.level))

  -- The places

  own_places : (file : StoredFile) → Contains s.files file → Pairs HasOtherPlace (spells file)
  own_places file there = pairs_weaker HasOtherKey HasOtherPlace (spells file)
      (λ a b left right apart same. apart (one_key h a b (placed file there a left) (placed file there b right) same))
      (tiles_once (file_of file).tiles (λ tile inside. All-contains IsBounded (file_of file).tiles tile (tiled file there).bounded inside) (pairs_from IsLower (file_of file).tiles (tiled file there).ascending))

  all_places : (files : List StoredFile) → ((file : StoredFile) → Contains files file → Contains s.files file) → Pairs Differ files → Pairs HasOtherPlace (entries_in files)
  all_places [] among pairs = tt
  all_places (file ∷ files) among pairs = pairs_append HasOtherPlace (spells file) (entries_in files)
      (own_places file (among file (first_is file files file refl)))
      (all_places files (λ other there. among other (in_rest file files other there)) pairs.1)
      (λ entry other left right. let found = flat_from spells files other right in pairs.0 found.0 found.1 entry other left found.2)

  abbrev place : Entry → ℕ
  place entry = entry.seq

  -- 0, which is no place, and the places
  abbrev places : List ℕ
  places = 0 ∷ map place (entries_in s.files)

  within : (n : ℕ) → Contains (map place (entries_in s.files)) n → (0 < n) × (n ≤ length h)
  within n there =
      let entry = map_from place (entries_in s.files) n there in
      let file = flat_from spells s.files entry.0 entry.1 in
      let is = placed file.0 file.1 entry.0 file.2 in
      let same = entry.2 in
      let some = some_place h entry.0.seq entry.0.key entry.0.body is in
      let most = placed_within h entry.0.seq entry.0.key entry.0.body is in
      (omega (arith, same, some), omega (arith, same, most))

  apart : AllPairs (λ a b. a ≢ b) places
  apart = pairs_to (λ a b. a ≢ b) places (
    (λ n there same. let some = (within n there).0 in omega (arith, some, same)),
    pairs_map (λ a b. a ≢ b) place (entries_in s.files) (all_places s.files (λ file there. there) differ),
  )

  below : (n : ℕ) → list_any (eqb n) places ≡ true → n < length h + 1
  below n is =
      let any = Any-from_list_any (eqb n) places is in
      let same = eqb-true n any.1 any.4 in
      ⊎_elim (λ zero. omega (arith, same, zero)) (λ rest. let most = (within any.1 rest).1 in omega (arith, same, most))
      (first_or_rest 0 (map place (entries_in s.files)) any.1 (any.0, any.2, any.3))

  -- there are no more entries than changes
  pub entries_few : length (entries_in s.files) ≤ length h
  entries_few =
      let few = length-le_from_distinct_below places (length h + 1) (IsDistinct-from_AllPairs Decides-eqb places apart) below in
      omega (arith, few, length-map (entries_in s.files) place)
