-- What is left of the least key comes first in what is left of each key, and the rest is what is left of each key behind it.
use Rattle.std.proofs.Common.{◌≡◌, ◌≢◌, Bool, true, false, cond, List, [], ◌∷◌, ◌++◌, map, All, Contains, IfNone, IfSome, Option, Some, None, option_map, IsTrue, refl, sym, ap, ◌∙◌, subst}
use Rattle.std.specs.List.{flat_map, cons_option}
use Rattle.std.specs.Cmp.Lexicographic.{nat_list_cmp_total}
use Rattle.std.specs.declared.cmp.Ordering.{Ordering}
use Rattle.std.specs.declared.cmp.Ordering.TheVariants.{Less, Equal, Greater}
use Rattle.std.specs.Ordering.{is_lt}
use Rattle.std.specs.FinMap.Entries.{below_all, is_sorted}
use Rattle.std.proofs.lemmas.Bool.{and_parts, and_from}
use Rattle.std.proofs.lemmas.List.{map-append}
use Rattle.std.proofs.lemmas.List.Elements.{All-head, All-tail, All-cons, All-nil, All-map, Contains-append_right}
use Rattle.lethe_base.specs.Keys.{Bytes, key_cmp, same_key}
use Rattle.lethe_base.specs.Entries.{by_key, IsAscending, entry_of}
use Rattle.lethe_base.specs.declared.entry.Entry.{Entry}
use Rattle.lethe_base.specs.declared.pending.Pending.{Pending}
use Rattle.lethe_base.proofs.Newest.{same_key-self, same_key-true, first_is}
use Rattle.lethe_mem.proofs.Order.{one_list}
use Rattle.lethe_mem.proofs.Places.{tied, turned, less_is, above_head, tail_ascends}
use Rattle.lethe_cover.specs.Merged.{left_of, struck}
use Rattle.lethe_cover.proofs.ByKey.{own_entry}
use Rattle.lethe_disk.specs.Reads.{IsNext}
use Rattle.lethe_merge.specs.declared.source.Head.{Head}
use Rattle.lethe_merge.specs.declared.source.Head.TheVariants.{Unasked, Here, Ended}
use Rattle.lethe_merge.specs.declared.source.Source.{Source}
use Rattle.lethe_merge.specs.Merge.{left_of_each}
use Rattle.lethe_merge.proofs.Heads.{IsKnown}
use Rattle.lethe_merge.specs.Sources.{IsSound, entries_at, left_in, entry_at, entry_of_key, head_behind, behind, IsFrom, heads_of, IsTaken, HasNone}
use Rattle.lethe_merge.proofs.Joins.{joined, left_of-append}
use Rattle.lethe_merge.proofs.Merges.{left_ascends, entry_of-left, left-nil}

module _ (erases : List Pending) where
  -- nothing is left of a key that isn't above what all entries are above
  above_none : (x : Bytes) (es : List Entry) → IsTrue (below_all key_cmp x (by_key es)) → (q : Bytes) → key_cmp x q ≢ Less → left_of q (map (struck erases) es) ≡ None
  above_none x [] below q not = refl
  above_none x (e ∷ es) below q not = by (same_key q e.key) refl (above_none x es parts.1 q not)
    where
      parts : (is_lt (key_cmp x e.key) ≡ true) × (below_all key_cmp x (by_key es) ≡ true)
      parts = and_parts (is_lt (key_cmp x e.key)) (below_all key_cmp x (by_key es)) below

      by : (t : Bool) → same_key q e.key ≡ t → left_of q (map (struck erases) es) ≡ None → left_of q (map (struck erases) (e ∷ es)) ≡ None
      by true at more = absurd (not (subst (λ k. key_cmp x k ≡ Less) (sym (same_key-true q e.key at)) (less_is (key_cmp x e.key) parts.0)))
      by false at more = rw at more

-- a key that isn't above another isn't below it the other way
not_less : (key other : Bytes) → key_cmp key other ≢ Greater → key_cmp other key ≢ Less
not_less key other not less = not (turned other key Less less)

-- a key that isn't above another and isn't it is below it
is_less : (key other : Bytes) → key_cmp key other ≢ Greater → same_key key other ≡ false → key_cmp key other ≡ Less
is_less key other not differs = by (key_cmp key other) refl
  where
    by : (o : Ordering) → key_cmp key other ≡ o → key_cmp key other ≡ Less
    by Less at = at
    by Equal at = absurd (let clash : true ≡ false = sym (subst (λ k. same_key key k ≡ true) (tied key other at) (same_key-self key)) ∙ differs in cc)
    by Greater at = absurd (not at)

-- one source that knows its next entry, which isn't of a key below this one
module _ (erases : List Pending) (key : Bytes) (rest : List Entry) where
  own_left : (h : Head) → IsKnown h → IsAscending (entries_at h ++ rest) → (h ≡ Ended → rest ≡ []) → IsFrom key h
      → left_of key (map (struck erases) (entries_at h ++ rest)) ≡ option_map (struck erases) (entry_of_key key h)
  own_left Unasked known ascends ended from = absurd known
  own_left Ended known ascends ended from = ap (λ es. left_of key (map (struck erases) es)) (ended refl)
  own_left (Here e) known ascends ended from = by (same_key key e.key) refl
    where
      none : left_of key (map (struck erases) rest) ≡ None
      none = above_none erases e.key rest (above_head e rest ascends) key (not_less key e.key from)

      by : (t : Bool) → same_key key e.key ≡ t → left_of key (map (struck erases) (e ∷ rest)) ≡ option_map (struck erases) (cond t (Some e) None)
      by true at = rw (at, none) refl
      by false at = rw at none

  other_left : (q : Bytes) → same_key q key ≡ false → (h : Head) → left_of q (map (struck erases) (entries_at h ++ rest)) ≡ left_of q (map (struck erases) (entries_at (head_behind key h) ++ rest))
  other_left q differs Unasked = refl
  other_left q differs Ended = refl
  other_left q differs (Here e) = by (same_key key e.key) refl
    where
      by : (t : Bool) → same_key key e.key ≡ t → left_of q (map (struck erases) (e ∷ rest)) ≡ left_of q (map (struck erases) (entries_at (cond t Unasked (Here e)) ++ rest))
      by true at = rw (subst (λ k. same_key q k ≡ false) (same_key-true key e.key at) differs) refl
      by false at = refl

  behind_left : (q : Bytes) → key_cmp key q ≢ Less → (h : Head) → IsKnown h → IsAscending (entries_at h ++ rest) → (h ≡ Ended → rest ≡ []) → IsFrom key h
      → left_of q (map (struck erases) (entries_at (head_behind key h) ++ rest)) ≡ None
  behind_left q not Unasked known ascends ended from = absurd known
  behind_left q not Ended known ascends ended from = ap (λ es. left_of q (map (struck erases) es)) (ended refl)
  behind_left q not (Here e) known ascends ended from = by (same_key key e.key) refl
    where
      by : (t : Bool) → same_key key e.key ≡ t → left_of q (map (struck erases) (entries_at (cond t Unasked (Here e)) ++ rest)) ≡ None
      by true at = above_none erases e.key rest (above_head e rest ascends) q (subst (λ k. key_cmp k q ≢ Less) (same_key-true key e.key at) not)
      by false at = above_none erases key (e ∷ rest) (all_above (is_less key e.key from at)) q not
        where
          lift : (es : List Entry) → key_cmp key e.key ≡ Less → IsTrue (below_all key_cmp e.key (by_key es)) → IsTrue (below_all key_cmp key (by_key es))
          lift [] less below = refl
          lift (f ∷ es) less below =
              let parts = and_parts (is_lt (key_cmp e.key f.key)) (below_all key_cmp e.key (by_key es)) below in
              and_from (is_lt (key_cmp key f.key)) (below_all key_cmp key (by_key es)) (ap is_lt (nat_list_cmp_total.trans key e.key f.key less (less_is (key_cmp e.key f.key) parts.0))) (lift es less parts.1)

          all_above : key_cmp key e.key ≡ Less → IsTrue (below_all key_cmp key (by_key (e ∷ rest)))
          all_above less = and_from (is_lt (key_cmp key e.key)) (below_all key_cmp key (by_key rest)) (ap is_lt less) (lift rest less (above_head e rest ascends))

-- pieces that are the same make the same list
pub flat_same : {X A : Type 0} (f : X → List A) (xs ys : List X) → map f xs ≡ map f ys → flat_map f xs ≡ flat_map f ys
flat_same {X} {A} f xs ys same = by xs ∙ ap (flat_map (λ (piece : List A). piece)) same ∙ sym (by ys)
  where
    by : (xs : List X) → flat_map f xs ≡ flat_map (λ piece. piece) (map f xs)
    by [] = refl
    by (x ∷ xs) = ap (λ (rest : List A). f x ++ rest) (by xs)

-- the entries that all sources have left, the erases applied
abbrev pub all_left : {C : Type 0} → (C → List Entry) → List Pending → List (Source C) → List Entry
all_left left erases sources = map (struck erases) (flat_map (left_in left) sources)

module _ {C : Type 0} (tells : Type 0) (sound : C → Type 0) (left : C → List Entry) (erases : List Pending) where
  abbrev Known : Source C → Type 0
  Known source = IsKnown source.head

  abbrev Sound : Source C → Type 0
  Sound source = IsSound tells sound left source

  all-cons : (q : Bytes) (s : Source C) (sources : List (Source C))
      → left_of q (all_left left erases (s ∷ sources)) ≡ joined (left_of q (map (struck erases) (left_in left s))) (left_of q (all_left left erases sources))
  all-cons q s sources =
      ap (left_of q) (map-append (struck erases) (left_in left s) (flat_map (left_in left) sources)) ∙ left_of-append q (map (struck erases) (left_in left s)) (all_left left erases sources)

  heads-cons : (key : Bytes) (h : Head) (heads : List Entry)
      → left_of key (map (struck erases) (cons_option (entry_of_key key h) heads)) ≡ joined (option_map (struck erases) (entry_of_key key h)) (left_of key (map (struck erases) heads))
  heads-cons key Unasked heads = refl
  heads-cons key Ended heads = refl
  heads-cons key (Here e) heads = by (same_key key e.key) refl
    where
      by : (t : Bool) → same_key key e.key ≡ t
          → left_of key (map (struck erases) (cons_option (cond t (Some e) None) heads)) ≡ joined (option_map (struck erases) (cond t (Some e) None)) (left_of key (map (struck erases) heads))
      by true at = rw at refl
      by false at = refl

  module _ (told : tells) (key : Bytes) where
    abbrev From : Source C → Type 0
    From source = IsFrom key source.head

    of_key_left : (sources : List (Source C)) → All Known sources → All Sound sources → All From sources → left_of key (all_left left erases sources) ≡ left_of key (map (struck erases) (heads_of key sources))
    of_key_left [] known sounds from = refl
    of_key_left (s ∷ sources) known sounds from =
        let own = All-head Sound s sources sounds in
        let more = of_key_left sources (All-tail Known s sources known) (All-tail Sound s sources sounds) (All-tail From s sources from) in
        all-cons key s sources
        ∙ ap (λ (o : Option Entry). joined o (left_of key (all_left left erases sources)))
        (own_left erases key (left s.cursor) s.head (All-head Known s sources known) (own.ascending told) (own.ended told) (All-head From s sources from))
        ∙ ap (joined (option_map (struck erases) (entry_of_key key s.head))) more
        ∙ sym (heads-cons key s.head (heads_of key sources))

    not_key_left : (q : Bytes) → same_key q key ≡ false → (sources : List (Source C)) → left_of q (all_left left erases sources) ≡ left_of q (all_left left erases (map (behind key) sources))
    not_key_left q differs [] = refl
    not_key_left q differs (s ∷ sources) =
        all-cons q s sources
        ∙ ap (λ (o : Option Entry). joined o (left_of q (all_left left erases sources))) (other_left erases key (left s.cursor) q differs s.head)
        ∙ ap (joined (left_of q (map (struck erases) (left_in left (behind key s))))) (not_key_left q differs sources)
        ∙ sym (all-cons q (behind key s) (map (behind key) sources))

    none_left : (q : Bytes) → key_cmp key q ≢ Less → (sources : List (Source C)) → All Known sources → All Sound sources → All From sources → left_of q (all_left left erases (map (behind key) sources)) ≡ None
    none_left q not [] known sounds from = refl
    none_left q not (s ∷ sources) known sounds from =
        let own = All-head Sound s sources sounds in
        all-cons q (behind key s) (map (behind key) sources)
        ∙ ap (λ (o : Option Entry). joined o (left_of q (all_left left erases (map (behind key) sources))))
        (behind_left erases key (left s.cursor) q not s.head (All-head Known s sources known) (own.ascending told) (own.ended told) (All-head From s sources from))
        ∙ none_left q not sources (All-tail Known s sources known) (All-tail Sound s sources sounds) (All-tail From s sources from)

  below_from : (x : Bytes) (es : List Entry) → ((f : Entry) → Contains es f → key_cmp x f.key ≡ Less) → IsTrue (below_all key_cmp x (by_key es))
  below_from x [] above = refl
  below_from x (e ∷ es) above =
      and_from (is_lt (key_cmp x e.key)) (below_all key_cmp x (by_key es)) (ap is_lt (above e (first_is e es e refl)))
      (below_from x es (λ f there. above f (Contains-append_right (e ∷ []) es f there)))

  -- the next entry, and what is left behind it
  pub taken-next : tells → (old new : List (Source C)) (entry : Entry) → All Known old → All Sound old → IsTaken erases old new entry
      → left_of_each (all_left left erases old) ≡ entry ∷ left_of_each (all_left left erases new)
  taken-next told old new entry known sounds taken =
      one_list (left_of_each (all_left left erases old)) (entry ∷ left_of_each (all_left left erases new)) (left_ascends (all_left left erases old))
      (and_from (below_all key_cmp entry.key (by_key (left_of_each (all_left left erases new)))) (is_sorted key_cmp (by_key (left_of_each (all_left left erases new)))) (below_from entry.key (left_of_each (all_left left erases new)) above) (left_ascends (all_left left erases new)))
      (λ q. entry_of-left q (all_left left erases old) ∙ by q (same_key q entry.key) refl)
    where
      none : (q : Bytes) → key_cmp entry.key q ≢ Less → left_of q (all_left left erases new) ≡ None
      none q not = ap (λ (sources : List (Source C)). left_of q (all_left left erases sources)) taken.taken ∙ none_left told entry.key q not old known sounds taken.least

      above : (f : Entry) → Contains (left_of_each (all_left left erases new)) f → key_cmp entry.key f.key ≡ Less
      above f there = by_order (key_cmp entry.key f.key) refl
        where
          clash : key_cmp entry.key f.key ≢ Less → key_cmp entry.key f.key ≡ Less
          clash not = absurd (let wrong : Some f ≡ None = sym (own_entry (left_of_each (all_left left erases new)) f (left_ascends (all_left left erases new)) there) ∙ entry_of-left f.key (all_left left erases new) ∙ none f.key not in cc)

          by_order : (o : Ordering) → key_cmp entry.key f.key ≡ o → key_cmp entry.key f.key ≡ Less
          by_order Less at = at
          by_order Equal at = clash (λ less. let wrong : Equal ≡ Less = sym at ∙ less in cc)
          by_order Greater at = clash (λ less. let wrong : Greater ≡ Less = sym at ∙ less in cc)

      by : (q : Bytes) (t : Bool) → same_key q entry.key ≡ t → left_of q (all_left left erases old) ≡ cond t (Some entry) (entry_of q (left_of_each (all_left left erases new)))
      by q true at =
          ap (λ k. left_of k (all_left left erases old)) (same_key-true q entry.key at) ∙ of_key_left told entry.key old known sounds taken.least ∙ taken.left
      by q false at =
          not_key_left told entry.key q at old ∙ ap (λ (sources : List (Source C)). left_of q (all_left left erases sources)) (sym taken.taken) ∙ sym (entry_of-left q (all_left left erases new))

  -- a source behind its next entry is sound
  behind-sound : (key : Bytes) (s : Source C) → Sound s → Sound (behind key s)
  behind-sound key s is = record { cursor = is.cursor; ascending = λ told. by s.head (is.ascending told); ended = λ told at. is.ended told (by_end s.head at) }
    where
      by : (h : Head) → IsAscending (entries_at h ++ left s.cursor) → IsAscending (entries_at (head_behind key h) ++ left s.cursor)
      by Unasked ascends = ascends
      by Ended ascends = ascends
      by (Here e) ascends = by_test (same_key key e.key)
        where
          by_test : (t : Bool) → IsAscending (entries_at (cond t Unasked (Here e)) ++ left s.cursor)
          by_test true = tail_ascends e (left s.cursor) ascends
          by_test false = ascends

      by_end : (h : Head) → head_behind key h ≡ Ended → h ≡ Ended
      by_end Unasked at = at
      by_end Ended at = at
      by_end (Here e) at = by_test (same_key key e.key) at
        where
          by_test : (t : Bool) → cond t Unasked (Here e) ≡ Ended → Here e ≡ Ended
          by_test true at = absurd (let clash : Unasked ≡ Ended = at in cc)
          by_test false at = at

  all-behind : (key : Bytes) (sources : List (Source C)) → All Sound sources → All Sound (map (behind key) sources)
  all-behind key [] all = All-nil Sound
  all-behind key (s ∷ sources) all =
      All-cons Sound (behind key s) (map (behind key) sources) (behind-sound key s (All-head Sound s sources all)) (all-behind key sources (All-tail Sound s sources all))

  pub taken-sound : (old new : List (Source C)) (entry : Entry) → All Sound old → IsTaken erases old new entry → All Sound new
  taken-sound old new entry sounds taken = subst (All Sound) (sym taken.taken) (all-behind entry.key old sounds)

  abbrev None_at : Source C → Type 0
  None_at source = entry_at source.head ≡ None

  -- none is left where none is at hand
  nothing : (sources : List (Source C)) → tells → All Known sources → All Sound sources → All (λ source. entry_at source.head ≡ None) sources → flat_map (left_in left) sources ≡ []
  nothing [] told known sounds none = refl
  nothing (s ∷ sources) told known sounds none =
      let own = All-head Sound s sources sounds in
      let more = nothing sources told (All-tail Known s sources known) (All-tail Sound s sources sounds) (All-tail None_at s sources none) in
      ap (λ (es : List Entry). es ++ flat_map (left_in left) sources) (by s.head (All-head Known s sources known) (own.ended told) (All-head None_at s sources none)) ∙ more
    where
      by : (h : Head) → IsKnown h → (h ≡ Ended → left s.cursor ≡ []) → entry_at h ≡ None → entries_at h ++ left s.cursor ≡ []
      by Unasked known ended none = absurd known
      by Ended known ended none = ended refl
      by (Here e) known ended none = absurd (let clash : Some e ≡ None = none in cc)

  pub none-next : tells → (old new : List (Source C)) → All Known old → All Sound old → HasNone old new
      → (left_of_each (all_left left erases old) ≡ []) × (left_of_each (all_left left erases new) ≡ [])
  none-next told old new known sounds is =
      let ended = ap (λ es. left_of_each (map (struck erases) es)) (nothing old told known sounds is.none) ∙ left-nil in
      (ended, ap (λ (sources : List (Source C)). left_of_each (all_left left erases sources)) is.same ∙ ended)

  -- what a step gives, by what it takes
  pub step-given : tells → (old mid new : List (Source C)) (next : Option Entry) → map (left_in left) mid ≡ map (left_in left) old → All Known mid → All Sound mid
      → IfNone next (HasNone mid new) → IfSome next (IsTaken erases mid new) → IsNext next (left_of_each (all_left left erases old)) (left_of_each (all_left left erases new))
  step-given told old mid new next same known sounds none some = by next none some
    where
      begins : left_of_each (all_left left erases old) ≡ left_of_each (all_left left erases mid)
      begins = ap (λ es. left_of_each (map (struck erases) es)) (sym (flat_same (left_in left) mid old same))

      by : (next : Option Entry) → IfNone next (HasNone mid new) → IfSome next (IsTaken erases mid new) → IsNext next (left_of_each (all_left left erases old)) (left_of_each (all_left left erases new))
      by None none some = let ends = none-next told mid new known sounds none in (begins ∙ ends.0, ends.1)
      by (Some entry) none some = begins ∙ taken-next told mid new entry known sounds some

  pub step-sound : (mid new : List (Source C)) (next : Option Entry) → All Sound mid → IfNone next (HasNone mid new) → IfSome next (IsTaken erases mid new) → All Sound new
  step-sound mid new None sounds none some = subst (All Sound) (sym none.same) sounds
  step-sound mid new (Some entry) sounds none some = taken-sound mid new entry sounds some

-- the cursors stay as they are
pub step-again : {C : Type 0} (may_ask : C → Type 0) (erases : List Pending) (mid new : List (Source C)) (next : Option Entry) → All (λ source. may_ask source.cursor) mid
    → IfNone next (HasNone mid new) → IfSome next (IsTaken erases mid new) → All (λ source. may_ask source.cursor) new
step-again {C} may_ask erases mid new None may none some = subst (All (λ (source : Source C). may_ask source.cursor)) (sym none.same) may
step-again {C} may_ask erases mid new (Some entry) may none some =
    subst (All (λ (source : Source C). may_ask source.cursor)) (sym some.taken) (All-map (λ (source : Source C). may_ask source.cursor) (behind entry.key) mid may)
