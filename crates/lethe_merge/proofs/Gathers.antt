-- What is left of each key: it is no more than there was, and has spellings where the entries have.
use Rattle.std.proofs.Common.{◌≡◌, ◌≤◌, ◌+◌, ℕ, nat_lt, Bool, true, false, cond, List, [], ◌∷◌, ◌++◌, length, map, All, Option, Some, None, refl, sym, ap, ◌∙◌, subst, arith}
use Rattle.std.specs.Prelude.{IsSome, IfSome}
use Rattle.std.specs.List.{filter_map, cons_option}
use Rattle.std.proofs.lemmas.List.{length-map, append-nil, append_assoc}
use Rattle.std.proofs.lemmas.List.Elements.{All-nil, All-cons, All-head, All-tail}
use Rattle.std.specs.Cmp.Lexicographic.{nat_list_cmp_total}
use Rattle.std.specs.FinMap.{entries, values, get, entries-insert, get-entries}
use Rattle.std.specs.FinMap.Entries.{by_order, put, find}
use Rattle.std.specs.declared.cmp.Ordering.{Ordering}
use Rattle.std.specs.declared.cmp.Ordering.TheVariants.{Less, Equal, Greater}
use Rattle.lethe_base.specs.Keys.{Bytes, key_cmp, same_key}
use Rattle.lethe_base.specs.Limits.{max_time}
use Rattle.lethe_base.specs.Shapes.{earlier}
use Rattle.lethe_base.specs.Spelling.{HasSpelling, IsMarked, IsTimeOrNone, kind_of}
use Rattle.lethe_base.specs.declared.entry.Entry.{Entry}
use Rattle.lethe_base.specs.declared.front.BodyKind.{BodyKind}
use Rattle.lethe_base.specs.declared.front.BodyKind.TheVariants as kinds
use Rattle.lethe_base.specs.declared.pending.Pending.{Pending}
use Rattle.lethe_cover.specs.Merged.{newer_of, struck, bared}
use Rattle.lethe_merge.specs.Merge.{left_by_key, left_of_each, merged}
use Rattle.lethe_merge.proofs.Merges.{no_entries}
use Rattle.lethe_merge.proofs.Settles.{earlier_some, earlier_time, struck_spelled, bared_spelled}

-- Entries that are added from the last to the first: those that are left stand in front of those that were.
pub record AreAdded (erases : List Pending) (all left : List Entry) (pairs : List (Bytes × Entry)) : Type 0 where
  pub added : List Entry
  pub parts : left ++ added ≡ all
  pub is : pairs ≡ entries (left_by_key (map (struck erases) added))

pub begun : (erases : List Pending) (all : List Entry) (pairs : List (Bytes × Entry)) → pairs ≡ [] → AreAdded erases all all pairs
begun erases all pairs none = record { added = []; parts = append-nil all; is = none ∙ sym no_entries }

pub one_more : (erases : List Pending) (all old new : List Entry) (entry : Entry) (pairs after : List (Bytes × Entry)) → (before : AreAdded erases all old pairs) → old ≡ new ++ entry ∷ []
    → after ≡ entries (left_by_key (struck erases entry ∷ map (struck erases) before.added)) → AreAdded erases all new after
one_more erases all old new entry pairs after before last is = record {
  added = entry ∷ before.added;
  parts = sym (append_assoc new (entry ∷ []) before.added) ∙ ap (λ (left : List Entry). left ++ before.added) (sym last) ∙ before.parts;
  is = is;
}

-- no more than there was

length-put : (key : Bytes) (v : Entry) (es : List (Bytes × Entry)) → length (put key_cmp key v es) ≤ length es + 1
length-put key v [] = omega arith
length-put key v (e ∷ es) = by (key_cmp key e.0) (length-put key v es)
  where
    by : (o : Ordering) → length (put key_cmp key v es) ≤ length es + 1 → length (by_order o ((key, v) ∷ e ∷ es) ((e.0, v) ∷ es) (e ∷ put key_cmp key v es)) ≤ length (e ∷ es) + 1
    by Less more = omega arith
    by Equal more = omega arith
    by Greater more = omega arith

pub length-left : (es : List Entry) → length (entries (left_by_key es)) ≤ length es
length-left [] = omega (arith, ap length no_entries)
length-left (e ∷ es) =
    let v : Entry = newer_of e (get (left_by_key es) e.key) in
    let is : length (entries (left_by_key (e ∷ es))) ≡ length (put key_cmp e.key v (entries (left_by_key es))) = ap length (entries-insert nat_list_cmp_total (left_by_key es) e.key v) in
    let most : length (put key_cmp e.key v (entries (left_by_key es))) ≤ length (entries (left_by_key es)) + 1 = length-put e.key v (entries (left_by_key es)) in
    let before : length (entries (left_by_key es)) ≤ length es = length-left es in
    omega arith

-- spellings

some_earlier : (time other : Option ℕ) → IsSome time → IsSome (earlier time other)
some_earlier None other some = absurd cc
some_earlier (Some time) None some = refl
some_earlier (Some time) (Some other) some = refl

marked_first : (kind : BodyKind) (time other : Option ℕ) → IsMarked kind time → IsMarked kind (earlier time other)
marked_first kinds.Put time other marked = tt
marked_first kinds.Tomb time other marked = some_earlier time other marked

marked_second : (kind : BodyKind) (time other : Option ℕ) → IsMarked kind other → IsMarked kind (earlier time other)
marked_second kinds.Put time other marked = tt
marked_second kinds.Tomb time other marked = earlier_some time other marked

newer_spelled : (entry : Entry) (other : Option Entry) → HasSpelling entry → IfSome other HasSpelling → HasSpelling (newer_of entry other)
newer_spelled entry None own more = own
newer_spelled entry (Some other) own more = by (nat_lt entry.seq other.seq)
  where
    time : IsTimeOrNone (earlier entry.since other.since)
    time = earlier_time entry.since other.since own.front.time more.front.time

    by : (t : Bool) → HasSpelling (cond t (record other { since = earlier entry.since other.since }) (record entry { since = earlier entry.since other.since }))
    by true = record {
      front = record { place = more.front.place; marked = marked_second (kind_of other.body) entry.since other.since more.front.marked; time = time; named = more.front.named };
      body = more.body;
    }
    by false = record {
      front = record { place = own.front.place; marked = marked_first (kind_of entry.body) entry.since other.since own.front.marked; time = time; named = own.front.named };
      body = own.body;
    }

abbrev AreSpelled : List (Bytes × Entry) → Type 0
AreSpelled es = All HasSpelling (map (λ (e : Bytes × Entry). e.1) es)

put_spelled : (key : Bytes) (v : Entry) (es : List (Bytes × Entry)) → HasSpelling v → AreSpelled es → AreSpelled (put key_cmp key v es)
put_spelled key v [] own spelled = All-cons HasSpelling v [] own (All-nil HasSpelling)
put_spelled key v (e ∷ es) own spelled =
    let rest : AreSpelled es = All-tail HasSpelling e.1 (map (λ (e : Bytes × Entry). e.1) es) spelled in
    by (key_cmp key e.0) rest (put_spelled key v es own rest)
  where
    by : (o : Ordering) → AreSpelled es → AreSpelled (put key_cmp key v es) → AreSpelled (by_order o ((key, v) ∷ e ∷ es) ((e.0, v) ∷ es) (e ∷ put key_cmp key v es))
    by Less rest more = All-cons HasSpelling v (map (λ (e : Bytes × Entry). e.1) (e ∷ es)) own spelled
    by Equal rest more = All-cons HasSpelling v (map (λ (e : Bytes × Entry). e.1) es) own rest
    by Greater rest more = All-cons HasSpelling e.1 (map (λ (e : Bytes × Entry). e.1) (put key_cmp key v es)) (All-head HasSpelling e.1 (map (λ (e : Bytes × Entry). e.1) es) spelled) more

find_spelled : (key : Bytes) (es : List (Bytes × Entry)) → AreSpelled es → IfSome (find key_cmp key es) HasSpelling
find_spelled key [] spelled = tt
find_spelled key (e ∷ es) spelled = by (same_key key e.0) (find_spelled key es (All-tail HasSpelling e.1 (map (λ (e : Bytes × Entry). e.1) es) spelled))
  where
    by : (t : Bool) → IfSome (find key_cmp key es) HasSpelling → IfSome (cond t (Some e.1) (find key_cmp key es)) HasSpelling
    by true more = All-head HasSpelling e.1 (map (λ (e : Bytes × Entry). e.1) es) spelled
    by false more = more

left_spelled : (es : List Entry) → All HasSpelling es → AreSpelled (entries (left_by_key es))
left_spelled [] spelled = subst AreSpelled (sym no_entries) (All-nil HasSpelling)
left_spelled (e ∷ es) spelled =
    let before : AreSpelled (entries (left_by_key es)) = left_spelled es (All-tail HasSpelling e es spelled) in
    let found : IfSome (get (left_by_key es) e.key) HasSpelling = subst (λ o. IfSome o HasSpelling) (sym (get-entries (left_by_key es) e.key)) (find_spelled e.key (entries (left_by_key es)) before) in
    let v : Entry = newer_of e (get (left_by_key es) e.key) in
    subst AreSpelled (sym (entries-insert nat_list_cmp_total (left_by_key es) e.key v))
    (put_spelled e.key v (entries (left_by_key es)) (newer_spelled e (get (left_by_key es) e.key) (All-head HasSpelling e es spelled) found) before)

module _ (erases : List Pending) (alone : Bool) where
  abbrev pub bare : Entry → Option Entry
  bare entry = bared alone entry entry.body

  pub of_each : (inputs : List Entry) → filter_map bare (values (left_by_key (map (struck erases) inputs))) ≡ merged inputs erases alone
  unfolding left_of_each
  of_each inputs = refl

  -- what is left where all were added
  pub gathered : (all left list : List Entry) (pairs : List (Bytes × Entry)) → AreAdded erases all left pairs → left ≡ [] → list ≡ filter_map bare (map (λ e. e.1) pairs) → list ≡ merged all erases alone
  gathered all left list pairs added none kept =
      let whole : added.added ≡ all = ap (λ (left : List Entry). left ++ added.added) (sym none) ∙ added.parts in
      kept ∙ ap (λ (pairs : List (Bytes × Entry)). filter_map bare (map (λ e. e.1) pairs)) added.is
      ∙ ap (λ (added : List Entry). filter_map bare (values (left_by_key (map (struck erases) added)))) whole ∙ of_each all

  length-kept : (es : List Entry) → length (filter_map bare es) ≤ length es
  length-kept [] = omega arith
  length-kept (e ∷ es) = by (bare e) (length-kept es)
    where
      by : (o : Option Entry) → length (filter_map bare es) ≤ length es → length (cons_option o (filter_map bare es)) ≤ length (e ∷ es)
      by None more = omega arith
      by (Some left) more = omega arith

  pub length-merged : (inputs : List Entry) → length (merged inputs erases alone) ≤ length inputs
  length-merged inputs =
      let all : List Entry = map (struck erases) inputs in
      let kept : length (filter_map bare (values (left_by_key all))) ≤ length (values (left_by_key all)) = length-kept (values (left_by_key all)) in
      let same : length (values (left_by_key all)) ≡ length (entries (left_by_key all)) = length-map (entries (left_by_key all)) (λ e. e.1) in
      let left : length (entries (left_by_key all)) ≤ length all = length-left all in
      let again : length all ≡ length inputs = length-map inputs (struck erases) in
      let most : length (filter_map bare (values (left_by_key all))) ≤ length inputs = omega arith in
      subst (λ (list : List Entry). length list ≤ length inputs) (of_each inputs) most

  module _ (times : All (λ erase. erase.time ≤ max_time) erases) where
    kept_spelled : (es : List Entry) → All HasSpelling es → All HasSpelling (filter_map bare es)
    kept_spelled [] spelled = All-nil HasSpelling
    kept_spelled (e ∷ es) spelled = by (bare e) (bared_spelled erases times alone e (All-head HasSpelling e es spelled)) (kept_spelled es (All-tail HasSpelling e es spelled))
      where
        by : (o : Option Entry) → IfSome o HasSpelling → All HasSpelling (filter_map bare es) → All HasSpelling (cons_option o (filter_map bare es))
        by None own more = more
        by (Some left) own more = All-cons HasSpelling left (filter_map bare es) own more

    struck_all : (es : List Entry) → All HasSpelling es → All HasSpelling (map (struck erases) es)
    struck_all [] spelled = All-nil HasSpelling
    struck_all (e ∷ es) spelled =
        All-cons HasSpelling (struck erases e) (map (struck erases) es) (struck_spelled erases times e (All-head HasSpelling e es spelled)) (struck_all es (All-tail HasSpelling e es spelled))

    pub merged_spelled : (inputs : List Entry) → All HasSpelling inputs → All HasSpelling (merged inputs erases alone)
    merged_spelled inputs spelled =
        subst (All HasSpelling) (of_each inputs) (kept_spelled (values (left_by_key (map (struck erases) inputs))) (left_spelled (map (struck erases) inputs) (struck_all inputs spelled)))
