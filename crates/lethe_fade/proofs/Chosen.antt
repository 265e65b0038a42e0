-- What the loops of the choice find, as candidates.
use Rattle.std.proofs.Common.{◌≡◌, ℕ, ◌+◌, ◌<◌, ◌≤◌, min, Bool, true, false, not, cond, List, [], ◌∷◌, ◌++◌, length, drop, take, get_or, fold, Option, Some, None, refl, sym, ap, ◌∙◌, arith}
use Rattle.std.specs.List.{find, list_any}
use Rattle.std.proofs.lemmas.Bool.{true≢false}
use Rattle.std.specs.Bool.{then_some}
use Rattle.std.specs.Option.{option_map, option_or, is_some}
use Rattle.lethe_fade.specs.declared.plan.Plan.{Plan}
use Rattle.std.proofs.lemmas.Bool.Decides.{nat_tests}
use Rattle.std.proofs.lemmas.List.Folds.{find-append}
use Rattle.std.proofs.lemmas.List.{take_all, drop_more, drop_all}
use Rattle.lethe_base.specs.declared.config.Fields.{Fields}
use Rattle.lethe_base.specs.declared.config.Pick.{Pick}
use Rattle.lethe_base.specs.declared.shape.FileFacts.{FileFacts}
use Rattle.lethe_fade.specs.declared.claim.Claim.{Claim}
use Rattle.lethe_fade.specs.declared.rank.Rank.{Rank}
use Rattle.lethe_fade.specs.Saturation.{entries_in, is_saturated}
use Rattle.lethe_fade.specs.Spans.{KeyRange, range_of, hull, overlapping}
use Rattle.lethe_fade.specs.Claims.{meets, claim_at, merge_claim}
use Rattle.lethe_fade.specs.Ranks.{file_cmp, lesser_of, rank_cmp, rank_of, sorted_by}
use Rattle.lethe_fade.specs.Candidates.{Candidate, first_files, is_free, merge_named, merge_plan, merges_from}
use Rattle.lethe_fade.specs.Choice.{whole_merges, file_merges, level_merges}
use Rattle.lethe_fade.proofs.Ranking.{first_rank, first_ranked_more, find-map, plan-rank, rank_total}

-- the plan of a single candidate that is free, or none
single : (candidate : Candidate) (b : Bool) → then_some b candidate.plan ≡ option_map (λ (c : Candidate). c.plan) (cond b (Some candidate) None)
single candidate true = refl
single candidate false = refl

pub whole_result : (claims : List Claim) (files others next : List FileFacts) (first : FileFacts) (keys : KeyRange) (least : ℕ) (b : Bool)
    → files ≡ first ∷ others → keys ≡ hull (range_of first) others → least ≡ fold (λ least file. min least file.no) first.no others → b ≡ not (list_any (meets (merge_claim 0 keys next)) claims)
    → then_some b (merge_plan least) ≡ option_map (λ (c : Candidate). c.plan) (find (is_free claims) (whole_merges files next))
whole_result claims files others next first keys least b e k n f =
    rw (e, f, k, n) (single (merge_named (fold (λ least file. min least file.no) first.no others) 0 (hull (range_of first) others) next) (not (list_any (meets (merge_claim 0 (hull (range_of first) others) next)) claims)))

-- whether the merge of a file is free
abbrev pub is_file_free : ℕ → List FileFacts → List Claim → FileFacts → Bool
is_file_free level next claims file = is_free claims (merge_named file.no level (range_of file) next)

-- what the loop over the files has found behind the last one
pub best_result : (order : Pick) (level : ℕ) (claims : List Claim) (files next : List FileFacts) (i : ℕ) (best : Option Rank) → length files ≤ i → best ≡ first_rank order next (is_file_free level next claims) (take i files)
    → option_map (λ (r : Rank). merge_plan r.no) best ≡ option_map (λ (c : Candidate). c.plan) (find (is_free claims) (file_merges order level files next))
best_result order level claims files next i best end e =
    ap (option_map (λ (r : Rank). merge_plan r.no)) (e ∙ ap (first_rank order next (is_file_free level next claims)) (take_all i files end))
    ∙ plan-rank next (find (is_file_free level next claims) (sorted_by (file_cmp order next) files))
    ∙ sym (find-map (λ file. merge_named file.no level (range_of file) next) (λ (c : Candidate). c.plan) (is_free claims) (sorted_by (file_cmp order next) files))

-- a step of the loop over the files
pub best_more : (order : Pick) (level : ℕ) (claims : List Claim) (files next : List FileFacts) (i : ℕ) (file : FileFacts) (sources keys : KeyRange) (below : ℕ) (free : Bool) (best : Option Rank)
    → i < length files → file ≡ get_or files i file → sources ≡ range_of file
    → keys ≡ hull sources (overlapping sources next) → below ≡ entries_in (overlapping sources next) → free ≡ not (list_any (meets (claim_at level keys)) claims)
    → best ≡ first_rank order next (is_file_free level next claims) (take i files)
    → cond free (Some (lesser_of (rank_cmp order) best (record { below = below; tombs = file.tombs; oldest = file.oldest; no = file.no }))) best ≡ first_rank order next (is_file_free level next claims) (take (i + 1) files)
best_more order level claims files next i file sources keys below free best h is s k w f e =
    let step = first_ranked_more (rank_of next) (rank_cmp order) (rank_total order) (is_file_free level next claims) files i file h in
    let here = rw (← is) at step in
    rw (f, k, w, s, e) (sym here)

-- the plan of what is found in a list or behind it
pub found_first : (p : Candidate → Bool) (xs ys : List Candidate) (plan : Option Plan) → plan ≡ option_map (λ (c : Candidate). c.plan) (find p xs) → is_some plan ≡ true → plan ≡ option_map (λ (c : Candidate). c.plan) (find p (xs ++ ys))
found_first p xs ys plan e some = rw find-append (by_found (find p xs) e)
  where
    by_found : (o : Option Candidate) → plan ≡ option_map (λ (c : Candidate). c.plan) o → plan ≡ option_map (λ (c : Candidate). c.plan) (option_or o (find p ys))
    by_found None e = absurd (true≢false (sym some ∙ ap is_some e))
    by_found (Some c) e = e

pub found_later : (p : Candidate → Bool) (xs ys : List Candidate) (plan : Option Plan) → plan ≡ option_map (λ (c : Candidate). c.plan) (find p xs) → is_some plan ≡ false → find p (xs ++ ys) ≡ find p ys
found_later p xs ys plan e none = rw find-append (by_found (find p xs) e)
  where
    by_found : (o : Option Candidate) → plan ≡ option_map (λ (c : Candidate). c.plan) o → option_or o (find p ys) ≡ find p ys
    by_found None e = refl
    by_found (Some c) e = absurd (true≢false (sym (ap is_some e) ∙ none))

-- the merges of the levels, told by a function of a level
module _ (merges : ℕ → List FileFacts → List FileFacts → List Candidate) (levels : List (List FileFacts)) where
  abbrev rest_from : ℕ → List Candidate
  rest_from level = merges_from merges level (drop level levels)

  -- those from a level on: its own, and those from the next one on
  merges-drop : (level : ℕ) (files next : List FileFacts) → level + 1 < length levels → files ≡ get_or levels level files → next ≡ get_or levels (level + 1) next → rest_from level ≡ merges level files next ++ rest_from (level + 1)
  merges-drop level files next h is next_is =
      let here : drop level levels ≡ files ∷ drop (level + 1) levels = drop_more levels level files (omega arith) ∙ ap (λ files. files ∷ drop (level + 1) levels) (sym is) in
      let behind : first_files (drop (level + 1) levels) ≡ next = ap first_files (drop_more levels (level + 1) next h) ∙ sym next_is in
      ap (merges_from merges level) here ∙ ap (λ next. merges level files next ++ rest_from (level + 1)) behind

  -- a last level that has none
  pub merges-last : (level : ℕ) → length levels ≡ level + 1 → ((files next : List FileFacts) → merges level files next ≡ []) → rest_from level ≡ []
  merges-last level e none =
      ap (merges_from merges level) (drop_more levels level [] (omega arith))
      ∙ ap (λ deeper. merges level (get_or levels level []) (first_files deeper) ++ merges_from merges (level + 1) deeper) (drop_all (level + 1) levels (omega arith))
      ∙ ap (λ own. own ++ []) (none (get_or levels level []) [])

  -- a level with a merge that is free decides, and where it has none the later levels do
  pub record Step (p : Candidate → Bool) (level : ℕ) (plan : Option Plan) : Type 0 where
    pub found : is_some plan ≡ true → plan ≡ option_map (λ (c : Candidate). c.plan) (find p (rest_from level))
    pub later : is_some plan ≡ false → find p (rest_from level) ≡ find p (rest_from (level + 1))

  pub level_step : (p : Candidate → Bool) (level : ℕ) (files next : List FileFacts) (plan : Option Plan)
      → level + 1 < length levels → files ≡ get_or levels level files → next ≡ get_or levels (level + 1) next → plan ≡ option_map (λ (c : Candidate). c.plan) (find p (merges level files next)) → Step p level plan
  level_step p level files next plan h is next_is e =
      let split = merges-drop level files next h is next_is in
      record {
        found = λ some. rw split (found_first p (merges level files next) (rest_from (level + 1)) plan e some);
        later = λ none. rw split (found_later p (merges level files next) (rest_from (level + 1)) plan e none);
      }

pub not_last : (fields : Fields) (files next : List FileFacts) → 0 < fields.levels → level_merges fields fields.levels files next ≡ []
not_last fields files next some =
    let still : is_saturated fields fields.levels files ≡ false = grind (arith, nat_tests) in
    rw still refl

-- what was read at a place of a list stands there
pub read_at : (read levels : List (List FileFacts)) (at : ℕ) (files item : List FileFacts) → files ≡ item → item ≡ get_or read at item → read ≡ levels → files ≡ get_or levels at files
read_at read levels at files item e is same = rw (e, ← same) is
