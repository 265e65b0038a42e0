-- The entries at hand, and those of the least key among them.
use Rattle.std.proofs.Common.{◌≡◌, ◌+◌, ◌<◌, ◌≤◌, ℕ, Bool, true, false, cond, List, [], ◌∷◌, ◌++◌, length, take, drop, get_or, set, map, Option, Some, None, All, IfSome, is_some, option_map, refl, sym, ap, ◌∙◌, subst, arith}
use Rattle.std.specs.List.{IsFirstBest, cons_option}
use Rattle.std.specs.Cmp.{IsStrictWeakOrder}
use Rattle.std.specs.Cmp.Lexicographic.{nat_list_cmp_total}
use Rattle.std.specs.declared.cmp.Ordering.{Ordering}
use Rattle.std.specs.declared.cmp.Ordering.TheVariants.{Less, Equal, Greater}
use Rattle.std.specs.Ordering.{is_lt}
use Rattle.std.proofs.lemmas.List.{append-nil, map-append, take-append-drop, take_more, take_all, drop_more, drop_all, get_or_at, get_or-take, get_or_default, length-take, length-map, set-get_or}
use Rattle.std.proofs.lemmas.List.Edits.{map_over_more}
use Rattle.std.proofs.lemmas.List.Elements.{All-head, All-tail, filter_map-append}
use Rattle.std.proofs.lemmas.List.MinMax.{ranks_by}
use Rattle.lethe_base.specs.Keys.{Bytes, key_cmp, same_key}
use Rattle.lethe_base.specs.declared.entry.Entry.{Entry}
use Rattle.lethe_base.specs.declared.pending.Pending.{Pending}
use Rattle.lethe_base.proofs.Newest.{same_key-self, same_key-true}
use Rattle.lethe_mem.proofs.Places.{turned}
use Rattle.lethe_cover.specs.Merged.{newer_of, left_of, struck}
use Rattle.lethe_merge.specs.declared.source.Head.{Head}
use Rattle.lethe_merge.specs.declared.source.Head.TheVariants.{Unasked, Here, Ended}
use Rattle.lethe_merge.specs.declared.source.Source.{Source}
use Rattle.lethe_merge.specs.Sources.{entry_at, comes_before, entry_of_key, head_behind, behind, IsFrom, heads_of, IsTaken, HasNone}
use Rattle.lethe_merge.proofs.Joins.{joined, left_of-append}
use Rattle.lethe_merge.proofs.Merges.{newer-key}

-- the cursor was asked
abbrev pub IsKnown : Head → Type 0
IsKnown Unasked = ⊥
IsKnown (Here entry) = Unit {0}
IsKnown Ended = Unit {0}

-- what is read at a place is what is read there with itself for a default
pub read_again : {X : Type 0} (xs : List X) (i : ℕ) (d : X) → i < length xs → get_or xs i d ≡ get_or xs i (get_or xs i d)
read_again xs i d within = get_or_default xs i d (get_or xs i d) within

pub some_where : (t : Bool) (entry : Entry) → is_some (cond t (Some entry) None) ≡ t
some_where true entry = refl
some_where false entry = refl

-- which of two comes first is an order
by_keys : IsStrictWeakOrder (λ (x y : Entry). is_lt (key_cmp x.key y.key))
by_keys = ranks_by nat_list_cmp_total (λ (e : Entry). e.key)

one_way : (x y : Head) → comes_before x y ≡ true → comes_before y x ≡ false
one_way Unasked y is = absurd (let clash : false ≡ true = is in cc)
one_way Ended y is = absurd (let clash : false ≡ true = is in cc)
one_way (Here a) Unasked is = refl
one_way (Here a) Ended is = refl
one_way (Here a) (Here b) is = by_keys.one_way a b is

chain : (x y z : Head) → comes_before x y ≡ false → comes_before y z ≡ false → comes_before x z ≡ false
chain Unasked y z p q = refl
chain Ended y z p q = refl
chain (Here a) Unasked z p q = absurd (let clash : true ≡ false = p in cc)
chain (Here a) Ended z p q = absurd (let clash : true ≡ false = p in cc)
chain (Here a) (Here b) Unasked p q = absurd (let clash : true ≡ false = q in cc)
chain (Here a) (Here b) Ended p q = absurd (let clash : true ≡ false = q in cc)
chain (Here a) (Here b) (Here c) p q = by_keys.chain a b c p q

-- which of two sources comes first
abbrev pub first_of : {C : Type 0} → Source C → Source C → Bool
first_of source other = comes_before source.head other.head

pub sources_ordered : {C : Type 0} → IsStrictWeakOrder (first_of {C = C})
sources_ordered = record { one_way = λ x y. one_way x.head y.head; chain = λ x y z. chain x.head y.head z.head }

-- a source whose entry at hand was taken
pub behind_own : {C : Type 0} (cursor : C) (head then : Head) (taken : Option Entry) → taken ≡ entry_at head → IfSome taken (λ entry. then ≡ Unasked)
    → IfSome taken (λ entry. (let s : Source C = record { cursor = cursor; head = then } in s) ≡ behind entry.key (record { cursor = cursor; head = head }))
behind_own cursor head then None is gone = tt
behind_own {C} cursor Unasked then (Some e) is gone = absurd (let clash : Some e ≡ None = is in cc)
behind_own {C} cursor Ended then (Some e) is gone = absurd (let clash : Some e ≡ None = is in cc)
behind_own {C} cursor (Here f) then (Some e) is gone =
    let same : e ≡ f = cc in
    ap (λ (h : Head). let s : Source C = record { cursor = cursor; head = h } in s)
    (gone ∙ sym (ap (λ t. cond t Unasked (Here f)) (ap (λ (x : Entry). same_key x.key f.key) same ∙ same_key-self f.key)))

here_is : (h : Head) (entry : Entry) → entry_at h ≡ Some entry → h ≡ Here entry
here_is Unasked entry is = absurd (let clash : None ≡ Some entry = is in cc)
here_is Ended entry is = absurd (let clash : None ≡ Some entry = is in cc)
here_is (Here e) entry is = let same : e ≡ entry = cc in ap Here same

from_before : (h : Head) (entry : Entry) → comes_before h (Here entry) ≡ false → IsFrom entry.key h
from_before Unasked entry not = tt
from_before Ended entry not = tt
from_before (Here f) entry not = λ above. let clash : false ≡ true = sym not ∙ ap is_lt (turned entry.key f.key Greater above) in cc

none_before : (h g : Head) → comes_before h g ≡ false → entry_at g ≡ None → entry_at h ≡ None
none_before Unasked g not none = refl
none_before Ended g not none = refl
none_before (Here f) Unasked not none = absurd (let clash : true ≡ false = not in cc)
none_before (Here f) Ended not none = absurd (let clash : true ≡ false = not in cc)
none_before (Here f) (Here e) not none = absurd (let clash : Some e ≡ None = none in cc)

-- a source behind the first one of the least key isn't changed by taking that key
module _ (entry : Entry) where
  other_key : (f : Entry) → is_lt (key_cmp entry.key f.key) ≡ true → same_key entry.key f.key ≡ false
  other_key f less = by (key_cmp entry.key f.key) refl less
    where
      by : (o : Ordering) → key_cmp entry.key f.key ≡ o → is_lt o ≡ true → same_key entry.key f.key ≡ false
      by Less at less = rw at refl
      by Equal at less = absurd (let clash : false ≡ true = less in cc)
      by Greater at less = absurd (let clash : false ≡ true = less in cc)

  head_stays : (h : Head) → comes_before (Here entry) h ≡ true → (head_behind entry.key h ≡ h) × (entry_of_key entry.key h ≡ None)
  head_stays Unasked less = (refl, refl)
  head_stays Ended less = (refl, refl)
  head_stays (Here f) less = (ap (λ t. cond t Unasked (Here f)) (other_key f less), ap (λ t. cond t (Some f) None) (other_key f less))

  front_stays : {C : Type 0} (sources : List (Source C)) → All (λ source. comes_before (Here entry) source.head ≡ true) sources
      → (map (behind entry.key) sources ≡ sources) × (heads_of entry.key sources ≡ [])
  front_stays [] all = (refl, refl)
  front_stays {C} (s ∷ sources) all =
      let one = head_stays s.head (All-head (λ (source : Source C). comes_before (Here entry) source.head ≡ true) s sources all) in
      let more = front_stays sources (All-tail (λ (source : Source C). comes_before (Here entry) source.head ≡ true) s sources all) in (
        ap (λ (h : Head). (let t : Source C = record s { head = h } in t) ∷ map (behind entry.key) sources) one.0 ∙ ap (λ rest. s ∷ rest) more.0,
        ap (λ (o : Option Entry). cons_option o (heads_of entry.key sources)) one.1 ∙ more.1,
      )

-- what is left of the key of one entry at hand
module _ (erases : List Pending) (key : Bytes) where
  pub one_head : (h : Head) → left_of key (map (struck erases) (cons_option (entry_of_key key h) [])) ≡ option_map (struck erases) (entry_of_key key h)
  one_head Unasked = refl
  one_head Ended = refl
  one_head (Here e) = by (same_key key e.key) refl
    where
      by : (t : Bool) → same_key key e.key ≡ t → left_of key (map (struck erases) (cons_option (cond t (Some e) None) [])) ≡ option_map (struck erases) (cond t (Some e) None)
      by true at = rw at refl
      by false at = refl

-- what is left of the key among the entries at hand, with one more
module _ {C : Type 0} (erases : List Pending) (key : Bytes) where
  heads-more : (sources : List (Source C)) (place : ℕ) (x : Source C) → place < length sources → x ≡ get_or sources place x
      → left_of key (map (struck erases) (heads_of key (take (place + 1) sources)))
      ≡ joined (left_of key (map (struck erases) (heads_of key (take place sources)))) (option_map (struck erases) (entry_of_key key x.head))
  heads-more sources place x within is =
      ap (λ front. left_of key (map (struck erases) (heads_of key front))) (take_more sources place x within)
      ∙ ap (λ (last : Source C). left_of key (map (struck erases) (heads_of key (take place sources ++ last ∷ [])))) (sym is)
      ∙ ap (λ heads. left_of key (map (struck erases) heads)) (filter_map-append (λ (source : Source C). entry_of_key key source.head) (take place sources) (x ∷ []))
      ∙ ap (left_of key) (map-append (struck erases) (heads_of key (take place sources)) (heads_of key (x ∷ [])))
      ∙ left_of-append key (map (struck erases) (heads_of key (take place sources))) (map (struck erases) (heads_of key (x ∷ [])))
      ∙ ap (joined (left_of key (map (struck erases) (heads_of key (take place sources))))) (one_head erases key x.head)

-- the entries at hand of the key are taken in the first sources, and what is left of them is this
pub record IsTaking {C : Type 0} (erases : List Pending) (old now : List (Source C)) (place : ℕ) (key : Bytes) (entry : Entry) : Type 0 where
  pub named : entry.key ≡ key
  pub least : All (λ source. IsFrom key source.head) old
  pub left : left_of key (map (struck erases) (heads_of key (take place old))) ≡ Some entry
  pub taken : now ≡ map (behind key) (take place old) ++ drop place old

module _ {C : Type 0} (erases : List Pending) (old : List (Source C)) where
  own_name : (now : List (Source C)) (place : ℕ) (key : Bytes) (entry : Entry) → IsTaking erases old now place key entry → IsTaking erases old now place entry.key entry
  own_name now place key entry is = subst (λ (k : Bytes). IsTaking erases old now place k entry) (sym is.named) is

  -- the first one
  pub taking-first : (place : ℕ) (x : Source C) (entry left : Entry) (now : List (Source C)) → IsFirstBest first_of old (length old) place → x ≡ get_or old place x
      → Some entry ≡ entry_at x.head → left ≡ struck erases entry → now ≡ set old place (behind entry.key x) → IsTaking erases old now (place + 1) left.key left
  taking-first place x entry left now best is here left_is now_is = own_name now (place + 1) entry.key left (record {
    named = ap (λ (e : Entry). e.key) left_is;
    least = λ k d within.
        let at : (get_or old place d).head ≡ Here entry = ap (λ (s : Source C). s.head) (get_or_default old place d x best.0 ∙ sym is) ∙ here_is x.head entry (sym here) in
        from_before (get_or old k d).head entry (subst (λ (h : Head). comes_before (get_or old k d).head h ≡ false) at (best.1 k d within));
    left = heads-more erases entry.key old place x best.0 is
        ∙ ap (λ (heads : List Entry). joined (left_of entry.key (map (struck erases) heads)) (option_map (struck erases) (entry_of_key entry.key x.head))) (front_stays entry (take place old) front).1
        ∙ ap (λ (h : Head). option_map (struck erases) (entry_of_key entry.key h)) (here_is x.head entry (sym here))
        ∙ ap (λ t. option_map (struck erases) (cond t (Some entry) None)) (same_key-self entry.key)
        ∙ ap Some (sym left_is);
    taken = now_is ∙ map_over_more (behind entry.key) old old place x best.0 same is;
  })
    where
      front : All (λ source. comes_before (Here entry) source.head ≡ true) (take place old)
      front = λ k d within.
          let below : k < place = omega (arith, within, length-take place old, best.0) in
          let at : (get_or old place d).head ≡ Here entry = ap (λ (s : Source C). s.head) (get_or_default old place d x best.0 ∙ sym is) ∙ here_is x.head entry (sym here) in
          subst (λ (h : Head). comes_before h (get_or (take place old) k d).head ≡ true) at
          (subst (λ (s : Source C). comes_before (get_or old place d).head s.head ≡ true) (sym (get_or-take place old k d below)) (best.2 k d below))

      same : old ≡ map (behind entry.key) (take place old) ++ drop place old
      same = sym (ap (λ (front : List (Source C)). front ++ drop place old) (front_stays entry (take place old) front).0 ∙ take-append-drop place old)

  -- what was left, with one that was taken
  abbrev pub left_with : Entry → Option Entry → Entry
  left_with left None = left
  left_with left (Some entry) = newer_of left (Some (struck erases entry))

  of_key : (key : Bytes) (h : Head) (f : Entry) → Some f ≡ entry_of_key key h → f.key ≡ key
  of_key key Unasked f is = absurd (let clash : Some f ≡ None = is in cc)
  of_key key Ended f is = absurd (let clash : Some f ≡ None = is in cc)
  of_key key (Here e) f is = by (same_key key e.key) refl is
    where
      by : (t : Bool) → same_key key e.key ≡ t → Some f ≡ cond t (Some e) None → f.key ≡ key
      by true at is = let same : f ≡ e = cc in ap (λ (e : Entry). e.key) same ∙ sym (same_key-true key e.key at)
      by false at is = absurd (let clash : Some f ≡ None = is in cc)

  -- one more
  pub taking-more : (now then : List (Source C)) (place : ℕ) (left : Entry) (x : Source C) (found : Option Entry) → IsTaking erases old now place left.key left → place < length old
      → x ≡ get_or now place x → found ≡ entry_of_key left.key x.head → then ≡ set now place (behind left.key x)
      → IsTaking erases old then (place + 1) (left_with left found).key (left_with left found)
  taking-more now then place left x found taking within is found_is then_is = own_name then (place + 1) left.key (left_with left found) (record {
    named = by_name found found_is;
    least = taking.least;
    left = heads-more erases left.key old place x within in_old
        ∙ ap (λ (o : Option Entry). joined o (option_map (struck erases) (entry_of_key left.key x.head))) taking.left
        ∙ ap (λ (o : Option Entry). joined (Some left) (option_map (struck erases) o)) (sym found_is)
        ∙ by_found found;
    taken = then_is ∙ map_over_more (behind left.key) old now place x within taking.taken is;
  })
    where
      by_name : (found : Option Entry) → found ≡ entry_of_key left.key x.head → (left_with left found).key ≡ left.key
      by_name None is = refl
      by_name (Some f) is = newer-key left (Some (struck erases f)) (of_key left.key x.head f is)

      by_found : (found : Option Entry) → joined (Some left) (option_map (struck erases) found) ≡ Some (left_with left found)
      by_found None = refl
      by_found (Some f) = refl

      len : length (map (behind left.key) (take place old)) ≡ place
      len = length-map (take place old) (behind left.key) ∙ (let l : length (take place old) ≡ place = omega (arith, length-take place old) in l)

      in_old : x ≡ get_or old place x
      in_old = is ∙ ap (λ (s : List (Source C)). get_or s place x) (taking.taken ∙ ap (λ (rest : List (Source C)). map (behind left.key) (take place old) ++ rest) (drop_more old place x within))
          ∙ get_or_at (map (behind left.key) (take place old)) (get_or old place x) (drop (place + 1) old) x place len

  -- all of them
  pub taking-all : (now : List (Source C)) (place : ℕ) (left : Entry) → IsTaking erases old now place left.key left → length old ≤ place → IsTaken erases old now left
  taking-all now place left taking over = record {
    least = taking.least;
    left = subst (λ front. left_of left.key (map (struck erases) (heads_of left.key front)) ≡ Some left) (take_all place old over) taking.left;
    taken = taking.taken ∙ ap (λ front. map (behind left.key) front ++ drop place old) (take_all place old over)
        ∙ ap (λ (rest : List (Source C)). map (behind left.key) old ++ rest) (drop_all place old over) ∙ append-nil (map (behind left.key) old);
  }

  -- none is at hand where the first one isn't
  pub none-first : (place : ℕ) (x : Source C) (now : List (Source C)) → IsFirstBest first_of old (length old) place → x ≡ get_or old place x → None ≡ entry_at x.head → now ≡ set old place x → HasNone old now
  none-first place x now best is none now_is = record {
    none = λ k d within.
        let at : entry_at (get_or old place d).head ≡ None = ap (λ (s : Source C). entry_at s.head) (get_or_default old place d x best.0 ∙ sym is) ∙ sym none in
        none_before (get_or old k d).head (get_or old place d).head (best.1 k d within) at;
    same = now_is ∙ ap (set old place) is ∙ set-get_or old place x;
  }

  pub none-empty : length old ≡ 0 → HasNone old old
  none-empty is = record { none = λ k d within. absurd (omega (arith, is, within)); same = refl }
