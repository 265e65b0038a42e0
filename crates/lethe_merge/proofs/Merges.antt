-- What is left of each key ascends, has of each key what is left of it, and so does the merged list.
use Rattle.std.proofs.Common.{◌≡◌, nat_lt, Bool, true, false, cond, List, [], ◌∷◌, map, Option, Some, None, IsTrue, refl, sym, ap, ◌∙◌, subst}
use Rattle.std.specs.List.{filter_map, cons_option}
use Rattle.std.specs.Option.{option_and_then}
use Rattle.std.proofs.lemmas.List.{nil_from_length}
use Rattle.std.proofs.lemmas.Bool.{and_parts, and_from}
use Rattle.std.specs.declared.cmp.Ordering.{Ordering}
use Rattle.std.specs.declared.cmp.Ordering.TheVariants.{Less, Equal, Greater}
use Rattle.std.specs.Ordering.{is_lt}
use Rattle.std.specs.Cmp.Lexicographic.{nat_list_cmp_total}
use Rattle.std.specs.FinMap.{FinMap, values, get, insert, entries, entries_sorted, get-entries, get-empty, get-insert, entries-insert, len-entries, len-empty}
use Rattle.std.specs.FinMap.Entries.{by_order, put, find, below_all, is_sorted}
use Rattle.lethe_base.specs.Shapes.{earlier}
use Rattle.lethe_base.specs.Keys.{Bytes, key_cmp, same_key}
use Rattle.lethe_base.specs.Entries.{by_key, IsAscending, entry_of}
use Rattle.lethe_base.specs.declared.entry.Body.{Body}
use Rattle.lethe_base.specs.declared.entry.Body.TheVariants.{Put, Tomb}
use Rattle.lethe_base.specs.declared.entry.Entry.{Entry}
use Rattle.lethe_base.specs.declared.pending.Pending.{Pending}
use Rattle.lethe_base.proofs.Newest.{same_key-true}
use Rattle.lethe_mem.proofs.Order.{one_list}
use Rattle.lethe_mem.proofs.Places.{tied, from_T, less_is, above_head, tail_ascends}
use Rattle.lethe_cover.specs.Merged.{newer_of, left_of, struck, bared, IsMerged}
use Rattle.lethe_merge.specs.Merge.{left_by_key, left_of_each, merged}

-- the entry, where there is one, is of the key
abbrev pub IsOfKey : Bytes → Option Entry → Type 0
IsOfKey key None = Unit {0}
IsOfKey key (Some entry) = entry.key ≡ key

-- each entry stands under its own key
pub AreKeyed : List (Bytes × Entry) → Type 0
AreKeyed [] = Unit {0}
AreKeyed (e ∷ es) = ((e.1).key ≡ e.0) × AreKeyed es

pub keyed-put : (key : Bytes) (entry : Entry) (es : List (Bytes × Entry)) → entry.key ≡ key → AreKeyed es → AreKeyed (put key_cmp key entry es)
unfolding AreKeyed
keyed-put key entry [] own h = (own, tt)
keyed-put key entry (e ∷ es) own h = by (key_cmp key e.0) refl (keyed-put key entry es own h.1)
  where
    by : (o : Ordering) → key_cmp key e.0 ≡ o → AreKeyed (put key_cmp key entry es) → AreKeyed (by_order o ((key, entry) ∷ e ∷ es) ((e.0, entry) ∷ es) (e ∷ put key_cmp key entry es))
    by Less at more = (own, h)
    by Equal at more = (own ∙ tied key e.0 at, h.1)
    by Greater at more = (h.0, more)

keyed-find : (key : Bytes) (es : List (Bytes × Entry)) → AreKeyed es → IsOfKey key (find key_cmp key es)
unfolding AreKeyed
keyed-find key [] h = tt
keyed-find key (e ∷ es) h = by (same_key key e.0) refl (keyed-find key es h.1)
  where
    by : (t : Bool) → same_key key e.0 ≡ t → IsOfKey key (find key_cmp key es) → IsOfKey key (cond t (Some e.1) (find key_cmp key es))
    by true at more = h.0 ∙ sym (same_key-true key e.0 at)
    by false at more = more

pub newer-key : (entry : Entry) (other : Option Entry) → IsOfKey entry.key other → (newer_of entry other).key ≡ entry.key
newer-key entry None own = refl
newer-key entry (Some other) own = by (nat_lt entry.seq other.seq)
  where
    by : (t : Bool) → (cond t (record other { since = earlier entry.since other.since }) (record entry { since = earlier entry.since other.since })).key ≡ entry.key
    by true = own
    by false = refl

pub no_entries : entries (left_by_key []) ≡ []
no_entries = nil_from_length (entries (left_by_key [])) (sym (len-entries (left_by_key [])) ∙ len-empty key_cmp Entry)

pub keyed-left : (es : List Entry) → AreKeyed (entries (left_by_key es))
unfolding AreKeyed
keyed-left [] = subst AreKeyed (sym no_entries) tt
keyed-left (e ∷ es) = by (keyed-left es)
  where
    by : AreKeyed (entries (left_by_key es)) → AreKeyed (entries (insert (left_by_key es) e.key (newer_of e (get (left_by_key es) e.key))))
    by more =
        let found : IsOfKey e.key (get (left_by_key es) e.key) = subst (IsOfKey e.key) (sym (get-entries (left_by_key es) e.key)) (keyed-find e.key (entries (left_by_key es)) more) in
        subst AreKeyed (sym (entries-insert nat_list_cmp_total (left_by_key es) e.key (newer_of e (get (left_by_key es) e.key))))
        (keyed-put e.key (newer_of e (get (left_by_key es) e.key)) (entries (left_by_key es)) (newer-key e (get (left_by_key es) e.key) found) more)

get-left : (es : List Entry) (key : Bytes) → get (left_by_key es) key ≡ left_of key es
get-left [] key = get-empty key_cmp key
get-left (e ∷ es) key =
    get-insert nat_list_cmp_total (left_by_key es) e.key (newer_of e (get (left_by_key es) e.key)) key
    ∙ by (same_key key e.key) refl (get-left es)
  where
    by : (t : Bool) → same_key key e.key ≡ t → ((key : Bytes) → get (left_by_key es) key ≡ left_of key es)
        → cond t (Some (newer_of e (get (left_by_key es) e.key))) (get (left_by_key es) key) ≡ cond t (Some (newer_of e (left_of key es))) (left_of key es)
    by true at more = ap (λ (o : Option Entry). Some (newer_of e o)) (more e.key ∙ ap (λ (k : Bytes). left_of k es) (sym (same_key-true key e.key at)))
    by false at more = more key

pairs_again : (es : List (Bytes × Entry)) → AreKeyed es → by_key (map (λ e. e.1) es) ≡ es
unfolding AreKeyed
pairs_again [] h = refl
pairs_again (e ∷ es) h = ap (λ (k : Bytes). (k, e.1) ∷ by_key (map (λ e. e.1) es)) h.0 ∙ ap (λ rest. e ∷ rest) (pairs_again es h.1)

-- the values of a map that has each entry under its own key
module _ (table : FinMap key_cmp Entry) (keyed : AreKeyed (entries table)) where
  pub values_ascend : IsAscending (values table)
  values_ascend = subst (λ pairs. IsTrue (is_sorted key_cmp pairs)) (sym (pairs_again (entries table) keyed)) (from_T _ (entries_sorted table))

  pub entry_of-values : (key : Bytes) → entry_of key (values table) ≡ get table key
  entry_of-values key = ap (find key_cmp key) (pairs_again (entries table) keyed) ∙ sym (get-entries table key)

pub left_ascends : (es : List Entry) → IsAscending (left_of_each es)
unfolding left_of_each
left_ascends es = values_ascend (left_by_key es) (keyed-left es)

pub entry_of-left : (key : Bytes) (es : List Entry) → entry_of key (left_of_each es) ≡ left_of key es
unfolding left_of_each
entry_of-left key es = entry_of-values (left_by_key es) (keyed-left es) key ∙ get-left es key

-- the first of keys in order stands once
pub lacks : (e : Entry) (es : List Entry) → IsTrue (below_all key_cmp e.key (by_key es)) → entry_of e.key es ≡ None
lacks e [] h = refl
lacks e (f ∷ es) h =
    let parts = and_parts (is_lt (key_cmp e.key f.key)) (below_all key_cmp e.key (by_key es)) h in
    rw (less_is (key_cmp e.key f.key) parts.0) (lacks e es parts.1)

pub left-nil : left_of_each [] ≡ []
unfolding left_of_each
left-nil = ap (map (λ e. e.1)) no_entries

-- entries that keep their keys, some of them left out
module _ (kept : Entry → Option Entry) (keeps : (e : Entry) → IsOfKey e.key (kept e)) where
  below-kept : (x : Bytes) (es : List Entry) → IsTrue (below_all key_cmp x (by_key es)) → IsTrue (below_all key_cmp x (by_key (filter_map kept es)))
  below-kept x [] h = refl
  below-kept x (e ∷ es) h =
      let parts = and_parts (is_lt (key_cmp x e.key)) (below_all key_cmp x (by_key es)) h in
      by (kept e) (keeps e) parts.0 (below-kept x es parts.1)
    where
      by : (o : Option Entry) → IsOfKey e.key o → is_lt (key_cmp x e.key) ≡ true → IsTrue (below_all key_cmp x (by_key (filter_map kept es))) → IsTrue (below_all key_cmp x (by_key (cons_option o (filter_map kept es))))
      by None own below more = more
      by (Some o) own below more = and_from (is_lt (key_cmp x o.key)) _ (subst (λ k. is_lt (key_cmp x k) ≡ true) (sym own) below) more

  pub kept_ascends : (es : List Entry) → IsAscending es → IsAscending (filter_map kept es)
  kept_ascends [] h = refl
  kept_ascends (e ∷ es) h = by (kept e) (keeps e) (below-kept e.key es (above_head e es h)) (kept_ascends es (tail_ascends e es h))
    where
      by : (o : Option Entry) → IsOfKey e.key o → IsTrue (below_all key_cmp e.key (by_key (filter_map kept es))) → IsAscending (filter_map kept es) → IsAscending (cons_option o (filter_map kept es))
      by None own below more = more
      by (Some o) own below more = and_from (below_all key_cmp o.key (by_key (filter_map kept es))) _ (subst (λ k. below_all key_cmp k (by_key (filter_map kept es)) ≡ true) (sym own) below) more

  pub entry_of-kept : (key : Bytes) (es : List Entry) → IsAscending es → entry_of key (filter_map kept es) ≡ option_and_then kept (entry_of key es)
  entry_of-kept key [] h = refl
  entry_of-kept key (e ∷ es) h = by_test (same_key key e.key) refl (entry_of-kept key es (tail_ascends e es h))
    where
      rest_lacks : same_key key e.key ≡ true → entry_of key (filter_map kept es) ≡ option_and_then kept (entry_of key es) → entry_of key (filter_map kept es) ≡ None
      rest_lacks at more = more ∙ ap (option_and_then kept) (subst (λ k. entry_of k es ≡ None) (sym (same_key-true key e.key at)) (lacks e es (above_head e es h)))

      by_here : (o : Option Entry) → IsOfKey e.key o → same_key key e.key ≡ true → entry_of key (filter_map kept es) ≡ None → entry_of key (cons_option o (filter_map kept es)) ≡ o
      by_here None own at none = none
      by_here (Some o) own at none = rw (subst (λ k. same_key key k ≡ true) (sym own) at) refl

      by_there : (o : Option Entry) → IsOfKey e.key o → same_key key e.key ≡ false → entry_of key (cons_option o (filter_map kept es)) ≡ entry_of key (filter_map kept es)
      by_there None own at = refl
      by_there (Some o) own at = rw (subst (λ k. same_key key k ≡ false) (sym own) at) refl

      by_test : (t : Bool) → same_key key e.key ≡ t → entry_of key (filter_map kept es) ≡ option_and_then kept (entry_of key es)
          → entry_of key (cons_option (kept e) (filter_map kept es)) ≡ option_and_then kept (cond t (Some e) (entry_of key es))
      by_test true at more = by_here (kept e) (keeps e) at (rest_lacks at more)
      by_test false at more = by_there (kept e) (keeps e) at ∙ more

pub bared-key : (alone : Bool) (e : Entry) → IsOfKey e.key (bared alone e e.body)
bared-key alone e = by alone e.body
  where
    by : (alone : Bool) (body : Body) → IsOfKey e.key (bared alone e body)
    by false body = refl
    by true (Put dkey value) = refl
    by true Tomb = tt

-- the merged list is merged
pub merged_is : (inputs : List Entry) (erases : List Pending) (alone : Bool) → IsMerged inputs erases alone (merged inputs erases alone)
merged_is inputs erases alone = record {
  ascending = kept_ascends (λ e. bared alone e e.body) (bared-key alone) (left_of_each all) (left_ascends all);
  entries = λ key. entry_of-kept (λ e. bared alone e e.body) (bared-key alone) key (left_of_each all) (left_ascends all)
      ∙ ap (option_and_then (λ e. bared alone e e.body)) (entry_of-left key all);
}
  where
    all : List Entry
    all = map (struck erases) inputs

pub merged_ascends : (inputs : List Entry) (erases : List Pending) (alone : Bool) → IsAscending (merged inputs erases alone)
merged_ascends inputs erases alone = (merged_is inputs erases alone).ascending

-- and no other list is
pub is_merged : (inputs : List Entry) (erases : List Pending) (alone : Bool) (list : List Entry) → IsMerged inputs erases alone list → list ≡ merged inputs erases alone
is_merged inputs erases alone list is =
    one_list list (merged inputs erases alone) is.ascending (merged_ascends inputs erases alone) (λ key. is.entries key ∙ sym ((merged_is inputs erases alone).entries key))
