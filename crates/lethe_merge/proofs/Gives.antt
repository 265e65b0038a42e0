-- What sources may give, on any disk.
use Rattle.std.proofs.Common.{◌≡◌, ◌<◌, ◌⊎◌, ℕ, zero, suc, Bool, true, false, cond, List, [], ◌∷◌, length, get_or, set, map, Option, Some, None, IfNone, IfSome, ⊎_elim, inl, inr, refl, sym, ap, ◌∙◌, subst, arith}
use Rattle.std.specs.Prelude.{Any, Contains, nat_lt}
use Rattle.std.specs.List.{cons_option, list_any}
use Rattle.lethe_base.specs.Keys.{Bytes, same_key}
use Rattle.lethe_base.specs.Matching.{matches}
use Rattle.lethe_base.specs.Shapes.{earlier}
use Rattle.lethe_base.specs.declared.entry.Body.{Body}
use Rattle.lethe_base.specs.declared.entry.Body.TheVariants.{Put, Tomb}
use Rattle.lethe_base.specs.declared.entry.Entry.{Entry}
use Rattle.lethe_base.specs.declared.pending.Pending.{Pending}
use Rattle.lethe_cover.specs.Merged.{bared, body_under, left_of, newer_of, struck}
use Rattle.lethe_merge.specs.Sources.{GivesMerged, HasNone, IsMadeOf, IsTaken, behind, entries_at, entry_of_key, gives_in, head_behind, head_from, heads_of}
use Rattle.lethe_merge.specs.declared.source.Head.{Head}
use Rattle.lethe_merge.specs.declared.source.Head.TheVariants.{Unasked, Here, Ended}
use Rattle.lethe_merge.specs.declared.source.Source.{Source}
use Rattle.lethe_merge.proofs.Awaits.{any-map-before, any-set-before}
use Rattle.lethe_merge.proofs.Begins.{unasked}

-- ---- what an entry is made of

struck_made : (erases : List Pending) (entry : Entry) → IsMadeOf entry (struck erases entry)
struck_made erases entry = record { key = refl; body = by entry.body }
  where
    by : (body : Body) → (body_under erases entry.seq body ≡ body) ⊎ (body_under erases entry.seq body ≡ Tomb)
    by Tomb = inl refl
    by (Put dkey value) = by_test (list_any (λ erase. matches erase entry.seq dkey) erases)
      where
        by_test : (t : Bool) → (cond t Tomb (Put dkey value) ≡ Put dkey value) ⊎ (cond t Tomb (Put dkey value) ≡ Tomb)
        by_test true = inr refl
        by_test false = inl refl

-- with the same key and body
pub made_alike : (from entry other : Entry) → IsMadeOf from entry → other.key ≡ entry.key → other.body ≡ entry.body → IsMadeOf from other
made_alike from entry other made key body = record { key = key ∙ made.key; body = ⊎_elim (λ same. inl (body ∙ same)) (λ tomb. inr (body ∙ tomb)) made.body }

IsMadeAmong : List Entry → Entry → Type 0
IsMadeAmong entries entry = (from : Entry) × Contains entries from × IsMadeOf from entry

later : (first : Entry) (entries : List Entry) (entry : Entry) → IsMadeAmong entries entry → IsMadeAmong (first ∷ entries) entry
unfolding IsMadeAmong
later first entries entry (from, (k, lt, at), made) = (from, (suc k, omega (arith, lt), at), made)

alike : (entries : List Entry) (entry other : Entry) → IsMadeAmong entries entry → other.key ≡ entry.key → other.body ≡ entry.body → IsMadeAmong entries other
unfolding IsMadeAmong
alike entries entry other (from, has, made) key body = (from, has, made_alike from entry other made key body)

here : (erases : List Pending) (first : Entry) (entries : List Entry) → IsMadeAmong (first ∷ entries) (struck erases first)
unfolding IsMadeAmong
here erases first entries = (first, (zero, omega arith, refl), struck_made erases first)

-- of two, the newer one
newer_made : (erases : List Pending) (first : Entry) (entries : List Entry) (rest : Option Entry) (entry : Entry) → ((other : Entry) → rest ≡ Some other → IsMadeAmong entries other)
    → newer_of (struck erases first) rest ≡ entry → IsMadeAmong (first ∷ entries) entry
newer_made erases first entries None entry others is = subst (IsMadeAmong (first ∷ entries)) is (here erases first entries)
newer_made erases first entries (Some other) entry others is = by (nat_lt (struck erases first).seq other.seq) is
  where
    by : (t : Bool) → cond t (record other { since = earlier (struck erases first).since other.since }) (record (struck erases first) { since = earlier (struck erases first).since other.since }) ≡ entry → IsMadeAmong (first ∷ entries) entry
    by true is = alike (first ∷ entries) other entry (later first entries other (others other refl)) (ap (λ (e : Entry). e.key) (sym is)) (ap (λ (e : Entry). e.body) (sym is))
    by false is = alike (first ∷ entries) (struck erases first) entry (here erases first entries) (ap (λ (e : Entry). e.key) (sym is)) (ap (λ (e : Entry). e.body) (sym is))

-- what is left of a key
left_made : (erases : List Pending) (key : Bytes) (entries : List Entry) (entry : Entry) → left_of key (map (struck erases) entries) ≡ Some entry → IsMadeAmong entries entry
left_made erases key [] entry is = absurd (let clash : None ≡ Some entry = is in cc)
left_made erases key (first ∷ entries) entry is = by (same_key key first.key) (λ other at. left_made erases key entries other at) is
  where
    by : (t : Bool) → ((other : Entry) → left_of key (map (struck erases) entries) ≡ Some other → IsMadeAmong entries other)
        → cond t (Some (newer_of (struck erases first) (left_of key (map (struck erases) entries)))) (left_of key (map (struck erases) entries)) ≡ Some entry → IsMadeAmong (first ∷ entries) entry
    by true others is = newer_made erases first entries (left_of key (map (struck erases) entries)) entry others (let same : newer_of (struck erases first) (left_of key (map (struck erases) entries)) ≡ entry = cc in same)
    by false others is = later first entries entry (others entry is)

-- an output has the key and the body of what is left
pub bared_alike : (alone : Bool) (entry : Entry) (body : Body) (output : Entry) → bared alone entry body ≡ Some output → (output.key ≡ entry.key) × (output.body ≡ entry.body)
bared_alike false entry body output is = let same : output ≡ entry = cc in (ap (λ (e : Entry). e.key) same, ap (λ (e : Entry). e.body) same)
bared_alike true entry (Put dkey value) output is = let same : output ≡ record entry { since = None } = cc in (ap (λ (e : Entry). e.key) same, ap (λ (e : Entry). e.body) same)
bared_alike true entry Tomb output is = absurd (let clash : None ≡ Some output = is in cc)

module _ {C : Type 0} (gives : C → Entry → Type 0) where
  -- nothing more may be given
  abbrev pub IsGiving : List (Source C) → List (Source C) → Type 0
  IsGiving old now = (entry : Entry) → Any (gives_in gives entry) now → Any (gives_in gives entry) old

  -- a source that knows its next entry stays as it is
  pub giving-same : (old now then : List (Source C)) (place : ℕ) (x : Source C) → IsGiving old now → place < length now → x ≡ get_or now place x → then ≡ set now place x → IsGiving old then
  giving-same old now then place x giving within is then_is entry any =
      giving entry (any-set-before (gives_in gives entry) now place x x within is (λ may. may) (subst (Any (gives_in gives entry)) then_is any))

  -- a source's cursor was asked
  pub giving-asked : (old now then : List (Source C)) (place : ℕ) (x : Source C) (cursor : C) (next : Option Entry) → IsGiving old now → place < length now → x ≡ get_or now place x
      → then ≡ set now place (record { cursor = cursor; head = head_from next }) → IfSome next (gives x.cursor) → ((entry : Entry) → gives cursor entry → gives x.cursor entry) → IsGiving old then
  giving-asked old now then place x cursor next giving within is then_is among no_more entry any =
      giving entry (any-set-before (gives_in gives entry) now place x asked within is (λ may. inr (⊎_elim (λ has. by next among has) (λ may. no_more entry may) may)) (subst (Any (gives_in gives entry)) then_is any))
    where
      asked : Source C
      asked = record { cursor = cursor; head = head_from next }

      by : (next : Option Entry) → IfSome next (gives x.cursor) → Contains (entries_at (head_from next)) entry → gives x.cursor entry
      by None among (k, lt, at) = absurd (omega (arith, lt))
      by (Some e) among (zero, lt, at) = subst (gives x.cursor) at among
      by (Some e) among (suc k, lt, at) = absurd (omega (arith, lt))

  behind_gives : (key : Bytes) (entry : Entry) (source : Source C) → gives_in gives entry (behind key source) → gives_in gives entry source
  behind_gives key entry source may = ⊎_elim (λ has. inl (by source.head has)) (λ may. inr may) may
    where
      by : (h : Head) → Contains (entries_at (head_behind key h)) entry → Contains (entries_at h) entry
      by Unasked has = has
      by Ended has = has
      by (Here e) has = by_test (same_key key e.key) has
        where
          by_test : (t : Bool) → Contains (entries_at (cond t Unasked (Here e))) entry → Contains (e ∷ []) entry
          by_test true (k, lt, at) = absurd (omega (arith, lt))
          by_test false has = has

  -- taking entries at hand
  pub giving-taken : (erases : List Pending) (mid new : List (Source C)) (next : Option Entry) → IfNone next (HasNone mid new) → IfSome next (IsTaken erases mid new) → IsGiving mid new
  giving-taken erases mid new None none some entry any = subst (Any (gives_in gives entry)) none.same any
  giving-taken erases mid new (Some taken) none some entry any =
      any-map-before (behind taken.key) (gives_in gives entry) (gives_in gives entry) mid (behind_gives taken.key entry) (subst (Any (gives_in gives entry)) some.taken any)

  -- one of the entries at hand
  head_gives : (key : Bytes) (sources : List (Source C)) (entry : Entry) → Contains (heads_of key sources) entry → Any (gives_in gives entry) sources
  head_gives key [] entry (k, lt, at) = absurd (omega (arith, lt))
  head_gives key (source ∷ sources) entry has = by (entry_of_key key source.head) refl (λ has. head_gives key sources entry has) has
    where
      own : (h : Head) → entry_of_key key h ≡ Some entry → Contains (entries_at h) entry
      own Unasked is = absurd (let clash : None ≡ Some entry = is in cc)
      own Ended is = absurd (let clash : None ≡ Some entry = is in cc)
      own (Here e) is = by_test (same_key key e.key) is
        where
          by_test : (t : Bool) → cond t (Some e) None ≡ Some entry → Contains (e ∷ []) entry
          by_test true is = (zero, omega arith, (let same : e ≡ entry = cc in same))
          by_test false is = absurd (let clash : None ≡ Some entry = is in cc)

      behind_first : Any (gives_in gives entry) sources → Any (gives_in gives entry) (source ∷ sources)
      behind_first (k, other, lt, at, may) = (suc k, other, omega (arith, lt), at, may)

      by : (found : Option Entry) → entry_of_key key source.head ≡ found → (Contains (heads_of key sources) entry → Any (gives_in gives entry) sources)
          → Contains (cons_option found (heads_of key sources)) entry → Any (gives_in gives entry) (source ∷ sources)
      by None is rest has = behind_first (rest has)
      by (Some e) is rest (zero, lt, at) = (zero, source, omega arith, refl, inl (own source.head (is ∙ ap (λ (e : Entry). let o : Option Entry = Some e in o) at)))
      by (Some e) is rest (suc k, lt, at) = behind_first (rest (k, omega (arith, lt), at))

  -- what is taken is made of one of them
  pub taken_given : (erases : List Pending) (mid new : List (Source C)) (entry : Entry) → IsTaken erases mid new entry → GivesMerged gives mid entry
  unfolding IsMadeAmong
  taken_given erases mid new entry taken =
      let made = left_made erases entry.key (heads_of entry.key mid) entry taken.left in
      record { from = made.0; made = made.2; given = head_gives entry.key mid made.0 made.1 }

  -- an output of it, from sources that may give no less
  pub output_given : (old mid : List (Source C)) (entry output : Entry) → IsGiving old mid → GivesMerged gives mid entry → (output.key ≡ entry.key) × (output.body ≡ entry.body) → GivesMerged gives old output
  output_given old mid entry output giving is same = record { from = is.from; made = made_alike is.from entry output is.made same.0 same.1; given = giving is.from is.given }

  pub merged_giving : (old now : List (Source C)) → IsGiving old now → (entry : Entry) → GivesMerged gives now entry → GivesMerged gives old entry
  merged_giving old now giving entry is = record { from = is.from; made = is.made; given = giving is.from is.given }

  pub begins-gives : (cursors : List C) (entry : Entry) → GivesMerged gives (map unasked cursors) entry → (from : Entry) × IsMadeOf from entry × Any (λ cursor. gives cursor from) cursors
  begins-gives cursors entry is = (
    is.from,
    is.made,
    any-map-before unasked (gives_in gives is.from) (λ (c : C). gives c is.from) cursors (λ c may. ⊎_elim (λ has. absurd (omega (arith, has.1))) (λ may. may) may) is.given,
  )
