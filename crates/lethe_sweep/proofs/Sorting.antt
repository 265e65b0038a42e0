-- Entries whose keys differ: the merged list has the same entries, in the order of their keys.
use Rattle.std.proofs.Common.{◌≡◌, ◌≢◌, ℕ, Bool, true, false, cond, List, [], ◌∷◌, ◌++◌, All, filter, filter_map, map, Option, Some, None, refl, sym, ap, subst, ◌∙◌}
use Rattle.std.specs.Prelude.{IsPermutation}
use Rattle.std.specs.List.{cons_option}
use Rattle.std.specs.Ordering.{is_eq}
use Rattle.std.specs.declared.cmp.Ordering.{Ordering}
use Rattle.std.specs.declared.cmp.Ordering.TheVariants.{Less, Equal, Greater}
use Rattle.std.specs.FinMap.{entries, get, get-empty, get-entries, get-insert, entries-insert}
use Rattle.std.specs.FinMap.Entries.{by_order, put, find}
use Rattle.std.specs.Cmp.Lexicographic.{nat_list_cmp_total}
use Rattle.std.proofs.lemmas.List.Elements.{All-append, All-cons, All-head, All-nil, All-tail}
use Rattle.std.proofs.lemmas.List.Sorted.{IsPermutation-cons, IsPermutation-middle, IsPermutation-refl, IsPermutation-trans}
use Rattle.lethe_base.specs.Keys.{Bytes, key_cmp, same_key}
use Rattle.lethe_base.specs.declared.entry.Body.{Body}
use Rattle.lethe_base.specs.declared.entry.Body.TheVariants.{Put, Tomb}
use Rattle.lethe_base.specs.declared.entry.Entry.{Entry}
use Rattle.lethe_base.proofs.Newest.{same_key-true}
use Rattle.lethe_cover.specs.Merged.{left_of, newer_of, struck}
use Rattle.lethe_merge.specs.Merge.{left_by_key, left_of_each, merged}
use Rattle.lethe_merge.proofs.Merges.{no_entries}

-- no two entries have one key
abbrev pub HaveOwnKeys : List Entry → Type 0
HaveOwnKeys [] = Unit {0}
HaveOwnKeys (entry ∷ entries) = All (λ other. entry.key ≢ other.key) entries × HaveOwnKeys entries

none_left : (key : Bytes) (es : List Entry) → All (λ other. key ≢ other.key) es → left_of key es ≡ None
none_left key [] apart = refl
none_left key (e ∷ es) apart = by (same_key key e.key) refl (none_left key es (All-tail (λ other. key ≢ other.key) e es apart))
  where
    by : (t : Bool) → same_key key e.key ≡ t → left_of key es ≡ None → cond t (Some (newer_of e (left_of key es))) (left_of key es) ≡ None
    by true at none = absurd (All-head (λ other. key ≢ other.key) e es apart (same_key-true key e.key at))
    by false at none = none

get_left : (es : List Entry) (key : Bytes) → get (left_by_key es) key ≡ left_of key es
get_left [] key = get-empty key_cmp key
get_left (e ∷ es) key =
    get-insert nat_list_cmp_total (left_by_key es) e.key (newer_of e (get (left_by_key es) e.key)) key
    ∙ by (same_key key e.key) refl (get_left es)
  where
    by : (t : Bool) → same_key key e.key ≡ t → ((key : Bytes) → get (left_by_key es) key ≡ left_of key es)
        → cond t (Some (newer_of e (get (left_by_key es) e.key))) (get (left_by_key es) key) ≡ cond t (Some (newer_of e (left_of key es))) (left_of key es)
    by true at more = ap (λ (o : Option Entry). Some (newer_of e o)) (more e.key ∙ ap (λ (k : Bytes). left_of k es) (sym (same_key-true key e.key at)))
    by false at more = more key

-- a new key enters a sorted list
put_new : (e : Entry) (es : List (Bytes × Entry)) → find key_cmp e.key es ≡ None → IsPermutation (e ∷ map (λ p. p.1) es) (map (λ p. p.1) (put key_cmp e.key e es))
put_new e [] none = IsPermutation-refl (e ∷ [])
put_new e (p ∷ es) none = by (key_cmp e.key p.0) none (put_new e es)
  where
    by : (o : Ordering) → cond (is_eq o) (Some p.1) (find key_cmp e.key es) ≡ None
        → (find key_cmp e.key es ≡ None → IsPermutation (e ∷ map (λ p. p.1) es) (map (λ p. p.1) (put key_cmp e.key e es)))
        → IsPermutation (e ∷ p.1 ∷ map (λ p. p.1) es) (map (λ p. p.1) (by_order o ((e.key, e) ∷ p ∷ es) ((p.0, e) ∷ es) (p ∷ put key_cmp e.key e es)))
    by Less none more = IsPermutation-refl (e ∷ p.1 ∷ map (λ p. p.1) es)
    by Equal none more = absurd cc
    by Greater none more =
        IsPermutation-trans (e ∷ p.1 ∷ map (λ p. p.1) es) (p.1 ∷ e ∷ map (λ p. p.1) es) (p.1 ∷ map (λ p. p.1) (put key_cmp e.key e es))
        (IsPermutation-middle (e ∷ []) p.1 (map (λ p. p.1) es))
        (IsPermutation-cons p.1 (e ∷ map (λ p. p.1) es) (map (λ p. p.1) (put key_cmp e.key e es)) (more none))

left_sorted : (es : List Entry) → HaveOwnKeys es → IsPermutation es (left_of_each es)
unfolding left_of_each
left_sorted [] own = subst (λ (ps : List (Bytes × Entry)). IsPermutation [] (map (λ p. p.1) ps)) (sym no_entries) (IsPermutation-refl [])
left_sorted (e ∷ es) own =
    let before = entries (left_by_key es) in
    let none : get (left_by_key es) e.key ≡ None = get_left es e.key ∙ none_left e.key es own.0 in
    let is : entries (left_by_key (e ∷ es)) ≡ put key_cmp e.key e before =
    entries-insert nat_list_cmp_total (left_by_key es) e.key (newer_of e (get (left_by_key es) e.key)) ∙ ap (λ (o : Option Entry). put key_cmp e.key (newer_of e o) before) none in
    IsPermutation-trans (e ∷ es) (e ∷ map (λ p. p.1) before) (map (λ p. p.1) (entries (left_by_key (e ∷ es))))
    (IsPermutation-cons e es (map (λ p. p.1) before) (left_sorted es own.1))
    (subst (λ (ps : List (Bytes × Entry)). IsPermutation (e ∷ map (λ p. p.1) before) (map (λ p. p.1) ps)) (sym is)
    (put_new e before (sym (get-entries (left_by_key es) e.key) ∙ none)))

-- where no erase is applied each entry stays
stays : (e : Entry) → struck [] e ≡ e
stays e = by e.body e.since
  where
    by : (body : Body) (since : Option ℕ) → struck [] (record e { body = body; since = since }) ≡ record e { body = body; since = since }
    by (Put dkey value) None = refl
    by (Put dkey value) (Some time) = refl
    by Tomb since = refl

pub all_stay : (es : List Entry) → map (struck []) es ≡ es
all_stay [] = refl
all_stay (e ∷ es) = ap (λ (first : Entry). first ∷ map (struck []) es) (stays e) ∙ ap (λ (rest : List Entry). e ∷ rest) (all_stay es)

all_bare : (es : List Entry) → filter_map (λ e. Some e) es ≡ es
all_bare [] = refl
all_bare (e ∷ es) = ap (λ (rest : List Entry). e ∷ rest) (all_bare es)

pub merged_sorted : (es : List Entry) → HaveOwnKeys es → IsPermutation es (merged es [] false)
merged_sorted es own =
    subst (IsPermutation es) (sym (all_bare (left_of_each (map (struck []) es)) ∙ ap left_of_each (all_stay es))) (left_sorted es own)

-- ---- which lists have

-- entries that keep their keys, some of them left out
module _ (kept : Entry → Option Entry) (keeps : (e o : Entry) → kept e ≡ Some o → o.key ≡ e.key) where
  apart_kept : (key : Bytes) (es : List Entry) → All (λ other. key ≢ other.key) es → All (λ other. key ≢ other.key) (filter_map kept es)
  apart_kept key [] apart = All-nil (λ other. key ≢ other.key)
  apart_kept key (e ∷ es) apart = by (kept e) (keeps e) (apart_kept key es (All-tail (λ other. key ≢ other.key) e es apart))
    where
      by : (o : Option Entry) → ((left : Entry) → o ≡ Some left → left.key ≡ e.key) → All (λ other. key ≢ other.key) (filter_map kept es) → All (λ other. key ≢ other.key) (cons_option o (filter_map kept es))
      by None same more = more
      by (Some left) same more = All-cons (λ other. key ≢ other.key) left (filter_map kept es) (λ is. All-head (λ other. key ≢ other.key) e es apart (is ∙ same left refl)) more

  pub own_kept : (es : List Entry) → HaveOwnKeys es → HaveOwnKeys (filter_map kept es)
  own_kept [] own = tt
  own_kept (e ∷ es) own = by (kept e) (keeps e) (apart_kept e.key es own.0) (own_kept es own.1)
    where
      by : (o : Option Entry) → ((left : Entry) → o ≡ Some left → left.key ≡ e.key) → All (λ other. e.key ≢ other.key) (filter_map kept es) → HaveOwnKeys (filter_map kept es) → HaveOwnKeys (cons_option o (filter_map kept es))
      by None same apart more = more
      by (Some left) same apart more = (subst (λ (key : Bytes). All (λ other. key ≢ other.key) (filter_map kept es)) (sym (same left refl)) apart, more)

apart_filter : (key : Bytes) (test : Entry → Bool) (es : List Entry) → All (λ other. key ≢ other.key) es → All (λ other. key ≢ other.key) (filter test es)
apart_filter key test [] apart = All-nil (λ other. key ≢ other.key)
apart_filter key test (e ∷ es) apart = by (test e) (apart_filter key test es (All-tail (λ other. key ≢ other.key) e es apart))
  where
    by : (t : Bool) → All (λ other. key ≢ other.key) (filter test es) → All (λ other. key ≢ other.key) (cond t (e ∷ filter test es) (filter test es))
    by true more = All-cons (λ other. key ≢ other.key) e (filter test es) (All-head (λ other. key ≢ other.key) e es apart) more
    by false more = more

pub own_filter : (test : Entry → Bool) (es : List Entry) → HaveOwnKeys es → HaveOwnKeys (filter test es)
own_filter test [] own = tt
own_filter test (e ∷ es) own = by (test e) (apart_filter e.key test es own.0) (own_filter test es own.1)
  where
    by : (t : Bool) → All (λ other. e.key ≢ other.key) (filter test es) → HaveOwnKeys (filter test es) → HaveOwnKeys (cond t (e ∷ filter test es) (filter test es))
    by true apart more = (apart, more)
    by false apart more = more

pub own_append : (es fs : List Entry) → HaveOwnKeys es → HaveOwnKeys fs → All (λ e. All (λ f. e.key ≢ f.key) fs) es → HaveOwnKeys (es ++ fs)
own_append [] fs own others apart = others
own_append (e ∷ es) fs own others apart = (
  All-append (λ other. e.key ≢ other.key) es fs own.0 (All-head (λ e. All (λ f. e.key ≢ f.key) fs) e es apart),
  own_append es fs own.1 others (All-tail (λ e. All (λ f. e.key ≢ f.key) fs) e es apart),
)
