-- The first expired file, level by level.
use Rattle.std.proofs.Common.{◌≡◌, ℕ, ◌+◌, ◌<◌, Bool, true, false, cond, List, [], ◌∷◌, ◌++◌, length, drop, get_or, map, Option, Some, None, refl, sym, ap, ◌∙◌, arith}
use Rattle.std.specs.Prelude.{◌&&◌, ◌||◌, IfNone, nat_lt, slice_get}
use Rattle.std.specs.List.{filter, list_any}
use Rattle.std.specs.Option.{is_some, option_map}
use Rattle.std.specs.Ordering.{is_gt}
use Rattle.std.specs.declared.cmp.Ordering.{Ordering}
use Rattle.std.proofs.lemmas.Bool.{lt-ltb, true≢false}
use Rattle.std.proofs.lemmas.Bool.Decides.{nat_tests}
use Rattle.std.proofs.lemmas.List.{drop_all, drop_more}
use Rattle.std.proofs.lemmas.Option.{same_Some, slice_get-get_or}
use Rattle.lethe_base.specs.declared.config.Fields.{Fields}
use Rattle.lethe_base.specs.declared.shape.FileFacts.{FileFacts}
use Rattle.lethe_fade.specs.Candidates.{Candidate, first_files, merge_named}
use Rattle.lethe_fade.specs.Expired.{expired_cmp, expired_from, expired_merges, is_expired, sources_keys}
use Rattle.lethe_fade.specs.Ranks.{sorted_by, with_item}
use Rattle.lethe_base.specs.declared.shape.Shape.{Shape}
use Rattle.lethe_due.specs.Due.{Due}
use Rattle.lethe_orders.specs.Changes.{due_at}
use Rattle.lethe_orders.specs.Firsts.{is_front_expired, lowest_expired}
use Rattle.lethe_orders.specs.Standing.{StandFor}
use Rattle.lethe_orders.proofs.Fronts.{level_tells}

-- whether a list has a first item

kept_some : {X : Type 0} (p : X → Bool) (xs : List X) → is_some (slice_get (filter p xs) 0) ≡ list_any p xs
kept_some p [] = refl
kept_some {X} p (x ∷ xs) = by (p x) (kept_some p xs)
  where
    by : (b : Bool) → is_some (slice_get (filter p xs) 0) ≡ list_any p xs → is_some (slice_get (cond b (x ∷ filter p xs) (filter p xs)) 0) ≡ (b || list_any p xs)
    by true rest = refl
    by false rest = rest

put_some : {X : Type 0} (cmp : X → X → Ordering) (x : X) (xs : List X) → is_some (slice_get (with_item cmp x xs) 0) ≡ true
put_some cmp x [] = refl
put_some {X} cmp x (y ∷ ys) = by (is_gt (cmp x y))
  where
    by : (b : Bool) → is_some (slice_get (cond b (y ∷ with_item cmp x ys) (x ∷ (y ∷ ys))) 0) ≡ true
    by true = refl
    by false = refl

sorted_some : {X : Type 0} (cmp : X → X → Ordering) (xs : List X) → is_some (slice_get (sorted_by cmp xs) 0) ≡ is_some (slice_get xs 0)
sorted_some cmp [] = refl
sorted_some cmp (x ∷ xs) = put_some cmp x (sorted_by cmp xs)

mapped_some : {X Y : Type 0} (f : X → Y) (xs : List X) → is_some (slice_get (map f xs) 0) ≡ is_some (slice_get xs 0)
mapped_some f [] = refl
mapped_some f (x ∷ xs) = refl

read_some : {X Y : Type 0} (f : X → Y) (o : Option X) → is_some (option_map f o) ≡ is_some o
read_some f None = refl
read_some f (Some x) = refl

-- what holds where there is none holds where there is one
pub never_none : (o : Option ℕ) (P : Type 0) → is_some o ≡ true → IfNone o P
never_none None P some = absurd (true≢false (sym some))
never_none (Some x) P some = tt

none_first : {X : Type 0} (xs : List X) → is_some (slice_get xs 0) ≡ false → xs ≡ []
none_first [] none = refl
none_first (x ∷ xs) none = absurd (true≢false none)

first_front : {X : Type 0} (xs ys : List X) → is_some (slice_get xs 0) ≡ true → slice_get (xs ++ ys) 0 ≡ slice_get xs 0
first_front [] ys some = absurd (true≢false (sym some))
first_front (x ∷ xs) ys some = refl

first_mapped : {X Y Z : Type 0} (g : Y → Z) (f : X → Y) (xs : List X) → option_map g (slice_get (map f xs) 0) ≡ option_map (λ x. g (f x)) (slice_get xs 0)
first_mapped g f [] = refl
first_mapped g f (x ∷ xs) = refl

-- the number of the first of some candidates' files
abbrev pub file_of_first : List Candidate → Option ℕ
file_of_first candidates = option_map (λ (c : Candidate). c.plan.file) (slice_get candidates 0)

-- the number of the first of a level's expired files
abbrev pub file_in_level : Fields → ℕ → ℕ → List FileFacts → Option ℕ
file_in_level fields clock level files = option_map (λ (file : FileFacts). file.no) (slice_get (sorted_by expired_cmp (filter (is_expired fields clock level) files)) 0)

module _ (fields : Fields) (clock : ℕ) where
  own_some : (level : ℕ) (files next : List FileFacts) → is_some (slice_get (expired_merges fields clock level files next) 0) ≡ list_any (is_expired fields clock level) files
  own_some level files next =
      mapped_some (λ (file : FileFacts). merge_named file.no level (sources_keys level files file) next) (sorted_by expired_cmp (filter (is_expired fields clock level) files))
      ∙ sorted_some expired_cmp (filter (is_expired fields clock level) files)
      ∙ kept_some (is_expired fields clock level) files

  own_first : (level : ℕ) (files next : List FileFacts) → file_of_first (expired_merges fields clock level files next) ≡ file_in_level fields clock level files
  own_first level files next =
      first_mapped (λ (c : Candidate). c.plan.file) (λ (file : FileFacts). merge_named file.no level (sources_keys level files file) next) (sorted_by expired_cmp (filter (is_expired fields clock level) files))

  level_some : (level : ℕ) (files : List FileFacts) → list_any (is_expired fields clock level) files ≡ true → is_some (file_in_level fields clock level files) ≡ true
  level_some level files any =
      read_some (λ (file : FileFacts). file.no) (slice_get (sorted_by expired_cmp (filter (is_expired fields clock level) files)) 0)
      ∙ sorted_some expired_cmp (filter (is_expired fields clock level) files)
      ∙ kept_some (is_expired fields clock level) files
      ∙ any

  timed_here : (level : ℕ) (files next : List FileFacts) → level < fields.levels → cond (nat_lt level fields.levels) (expired_merges fields clock level files next) [] ≡ expired_merges fields clock level files next
  timed_here level files next here = ap (λ b. cond b (expired_merges fields clock level files next) []) (lt-ltb level fields.levels here)

  -- A level of the rest: where it has an expired file, it decides, and else those behind it do.
  pub record LevelStep (levels : List (List FileFacts)) (level : ℕ) (any : Bool) : Type 0 where
    pub first : any ≡ true → file_of_first (expired_from fields clock level (drop level levels)) ≡ file_in_level fields clock level (get_or levels level [])
    pub lowest : any ≡ true → lowest_expired fields clock level (drop level levels) ≡ get_or levels level []
    pub later : any ≡ false → expired_from fields clock level (drop level levels) ≡ expired_from fields clock (level + 1) (drop (level + 1) levels)
    pub some : any ≡ true → is_some (file_in_level fields clock level (get_or levels level [])) ≡ true
    pub lower : any ≡ false → lowest_expired fields clock level (drop level levels) ≡ lowest_expired fields clock (level + 1) (drop (level + 1) levels)

  module _ (level : ℕ) (files : List FileFacts) (deeper : List (List FileFacts)) (here : level < fields.levels) where
    abbrev any_here : Bool
    any_here = list_any (is_expired fields clock level) files

    first_here : any_here ≡ true → file_of_first (expired_from fields clock level (files ∷ deeper)) ≡ file_in_level fields clock level files
    first_here any =
        ap (λ (own : List Candidate). file_of_first (own ++ expired_from fields clock (level + 1) deeper)) (timed_here level files (first_files deeper) here)
        ∙ ap (option_map (λ (c : Candidate). c.plan.file))
        (first_front (expired_merges fields clock level files (first_files deeper)) (expired_from fields clock (level + 1) deeper) (own_some level files (first_files deeper) ∙ any))
        ∙ own_first level files (first_files deeper)

    later_here : any_here ≡ false → expired_from fields clock level (files ∷ deeper) ≡ expired_from fields clock (level + 1) deeper
    later_here none =
        ap (λ (own : List Candidate). own ++ expired_from fields clock (level + 1) deeper)
        (timed_here level files (first_files deeper) here ∙ none_first (expired_merges fields clock level files (first_files deeper)) (own_some level files (first_files deeper) ∙ none))

    lowest_here : (b : Bool) → any_here ≡ b → lowest_expired fields clock level (files ∷ deeper) ≡ cond b files (lowest_expired fields clock (level + 1) deeper)
    lowest_here b is = ap (λ c. cond (c && any_here) files (lowest_expired fields clock (level + 1) deeper)) (lt-ltb level fields.levels here) ∙ ap (λ c. cond c files (lowest_expired fields clock (level + 1) deeper)) is

  pub level_step : (levels : List (List FileFacts)) (level : ℕ) (any : Bool) → level < fields.levels → level < length levels → any ≡ list_any (is_expired fields clock level) (get_or levels level []) → LevelStep levels level any
  level_step levels level any here within is =
      let files = get_or levels level [] in
      let deeper = drop (level + 1) levels in
      let rest : drop level levels ≡ files ∷ deeper = drop_more levels level [] within in
      record {
        first = λ e. ap (λ l. file_of_first (expired_from fields clock level l)) rest ∙ first_here level files deeper here (sym is ∙ e);
        lowest = λ e. ap (lowest_expired fields clock level) rest ∙ lowest_here level files deeper here true (sym is ∙ e);
        later = λ e. ap (expired_from fields clock level) rest ∙ later_here level files deeper here (sym is ∙ e);
        some = λ e. level_some level files (sym is ∙ e);
        lower = λ e. ap (lowest_expired fields clock level) rest ∙ lowest_here level files deeper here false (sym is ∙ e);
      }

  -- a level, as its due list tells it
  pub level_told : (shape : Shape) (orders lists : List Due) (level : ℕ) (any : Bool) → StandFor shape orders → length shape.levels ≡ fields.levels + 1 → lists ≡ orders → level < fields.levels
      → any ≡ is_front_expired fields clock level (due_at level lists) → LevelStep shape.levels level any
  level_told shape orders lists level any stand levels same here is =
      level_step shape.levels level any here (omega (arith, levels, here))
      (is ∙ ap (λ (l : List Due). is_front_expired fields clock level (due_at level l)) same ∙ level_tells fields clock level shape orders stand (omega (arith, levels, here)))

  -- the last level has no time
  pub last_none : (levels : List (List FileFacts)) → length levels ≡ fields.levels + 1 → expired_from fields clock fields.levels (drop fields.levels levels) ≡ []
  last_none levels count =
      let rest : drop fields.levels levels ≡ get_or levels fields.levels [] ∷ [] =
      drop_more levels fields.levels [] (omega arith) ∙ ap (λ l. get_or levels fields.levels [] ∷ l) (drop_all (fields.levels + 1) levels (omega arith))
      in
      let untimed : nat_lt fields.levels fields.levels ≡ false = grind (arith, nat_tests) in
      ap (expired_from fields clock fields.levels) rest ∙ ap (λ b. cond b (expired_merges fields clock fields.levels (get_or levels fields.levels []) []) [] ++ []) untimed

-- the files of a level, as they are read
pub read_files : (levels read : List (List FileFacts)) (level : ℕ) (files item : List FileFacts) → level < length levels → files ≡ item → item ≡ get_or read level item → read ≡ levels → files ≡ get_or levels level []
read_files levels read level files item within is there same =
    is ∙ there ∙ ap (λ l. get_or l level item) same
    ∙ same_Some (get_or levels level item) (get_or levels level []) (sym (slice_get-get_or levels level item within) ∙ slice_get-get_or levels level [] within)
