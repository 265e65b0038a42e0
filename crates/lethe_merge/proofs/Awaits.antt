-- The fetches that sources have still to make, and the pages that they may tell as damaged.
use Rattle.std.proofs.Common.{◌≡◌, ◌+◌, ◌<◌, ◌≤◌, ℕ, Bool, true, false, cond, List, [], ◌∷◌, length, get_or, set, map, All, Option, Some, None, Result, Ok, IfNone, IfSome, inl, inr, refl, sym, ap, ◌∙◌, subst, arith}
use Rattle.std.specs.Prelude.{Any, sum_by}
use Rattle.std.proofs.lemmas.List.{get_or-map, get_or-set_same, get_or-set_other, get_or_default, length-map, length-set}
use Rattle.std.proofs.lemmas.List.Elements.{All-head, All-tail}
use Rattle.std.proofs.lemmas.List.Sums.{sum_by-cons, sum_by-set, get_or-le-sum_by}
use Rattle.std.proofs.lemmas.Bool.{cases_eq}
use Rattle.lethe_base.specs.Keys.{Bytes, same_key}
use Rattle.lethe_base.specs.declared.entry.Entry.{Entry}
use Rattle.lethe_base.specs.declared.name.Name.{Name}
use Rattle.lethe_base.specs.declared.pending.Pending.{Pending}
use Rattle.lethe_disk.specs.declared.cursor.ReadRefused.{ReadRefused}
use Rattle.lethe_merge.specs.declared.source.Head.{Head}
use Rattle.lethe_merge.specs.declared.source.Head.TheVariants.{Unasked, Here, Ended}
use Rattle.lethe_merge.specs.declared.source.Source.{Source}
use Rattle.lethe_merge.specs.Sources.{HasNone, IsTaken, awaits_at, awaits_in, behind, entry_at, head_behind, head_from}
use Rattle.lethe_merge.proofs.Begins.{unasked}
use Rattle.lethe_merge.proofs.Heads.{IsKnown}

-- an element that is in the list with another one in its place is in the list, or is that one
pub any-set-before : {X : Type 0} (P : X → Type 0) (xs : List X) (i : ℕ) (x y : X) → i < length xs → x ≡ get_or xs i x → (P y → P x) → Any P (set xs i y) → Any P xs
any-set-before {X} P xs i x y within is back (k, z, lt, at, holds) =
    elim (cases_eq k i) [
      | inl place ↦
          let found : z ≡ y = sym at ∙ ap (λ (n : ℕ). get_or (set xs i y) n z) place ∙ get_or-set_same xs i y z within in
          (i, x, within, sym is, back (subst P found holds))
      | inr differs ↦ (k, z, omega (arith, length-set xs i y, lt), sym (get_or-set_other xs i k y z differs) ∙ at, holds)
    ]

pub any-map-before : {X Y : Type 0} (f : X → Y) (P : Y → Type 0) (Q : X → Type 0) (xs : List X) → ((x : X) → P (f x) → Q x) → Any P (map f xs) → Any Q xs
any-map-before f P Q [] back (k, z, lt, at, holds) = absurd (omega (arith, lt))
any-map-before {X} f P Q (x ∷ xs) back (k, z, lt, at, holds) =
    let within : k < length (x ∷ xs) = omega (arith, length-map (x ∷ xs) f, lt) in
    let own : X = get_or (x ∷ xs) k x in
    (k, own, within, sym (get_or_default (x ∷ xs) k x own within), back own (subst P (sym at ∙ get_or-map f (x ∷ xs) k x z within) holds))

sum-map-same : {X Y : Type 0} (f : X → Y) (m : Y → ℕ) (n : X → ℕ) (xs : List X) → ((x : X) → m (f x) ≡ n x) → sum_by m (map f xs) ≡ sum_by n xs
sum-map-same f m n [] same = refl
sum-map-same f m n (x ∷ xs) same = omega (arith, sum_by-cons m (f x) (map f xs), sum_by-cons n x xs, same x, sum-map-same f m n xs same)

-- The fetches that were made and those that are awaited are together what they were, and no further page may be told.
pub record IsAwaiting {C : Type 0} (awaits : C → ℕ) (damages : C → Name → Type 0) (old now : List (Source C)) (fetches fetches_now : ℕ) : Type 0 where
  pub once : fetches_now + sum_by (awaits_in awaits) now ≡ fetches + sum_by (awaits_in awaits) old
  pub fewer : (name : Name) → Any (λ source. damages source.cursor name) now → Any (λ source. damages source.cursor name) old

module _ {C : Type 0} (awaits : C → ℕ) (damages : C → Name → Type 0) where
  pub awaiting-none : (old : List (Source C)) (fetches : ℕ) → IsAwaiting awaits damages old old fetches fetches
  awaiting-none old fetches = record { once = refl; fewer = λ name any. any }

  pub awaiting-then : (old mid now : List (Source C)) (f0 f1 f2 : ℕ) → IsAwaiting awaits damages old mid f0 f1 → IsAwaiting awaits damages mid now f1 f2 → IsAwaiting awaits damages old now f0 f2
  awaiting-then old mid now f0 f1 f2 first next = record { once = next.once ∙ first.once; fewer = λ name any. first.fewer name (next.fewer name any) }

  -- the same sources in another spelling
  pub awaiting-as : (old now then : List (Source C)) (f0 f1 : ℕ) → then ≡ now → IsAwaiting awaits damages old now f0 f1 → IsAwaiting awaits damages old then f0 f1
  awaiting-as old now then f0 f1 same awaiting = subst (λ (sources : List (Source C)). IsAwaiting awaits damages old sources f0 f1) (sym same) awaiting

  -- a source that knows its next entry stays as it is
  pub awaiting-same : (old now then : List (Source C)) (place : ℕ) (x : Source C) (f0 f1 : ℕ) → IsAwaiting awaits damages old now f0 f1
      → place < length now → x ≡ get_or now place x → then ≡ set now place x → IsAwaiting awaits damages old then f0 f1
  awaiting-same old now then place x f0 f1 awaiting within is then_is =
      awaiting-as old (set now place x) then f0 f1 then_is
      (awaiting-then old now (set now place x) f0 f1 f1 awaiting (record {
        once = omega (arith, sum_by-set (awaits_in awaits) now place x x within, ap (awaits_in awaits) is);
        fewer = λ name any. any-set-before (λ (source : Source C). damages source.cursor name) now place x x within is (λ d. d) any;
      }))

  module _ (now : List (Source C)) (place : ℕ) (x : Source C) (f0 : ℕ) (within : place < length now) (is : x ≡ get_or now place x) (was : x.head ≡ Unasked) where
    own_awaits : awaits_in awaits x ≡ awaits x.cursor
    own_awaits = ap (awaits_at (awaits x.cursor)) was

    -- a source's cursor was asked
    pub awaiting-asked : (old then : List (Source C)) (f1 f2 : ℕ) (cursor : C) (next : Option Entry) → IsAwaiting awaits damages old now f0 f1
        → then ≡ set now place (record { cursor = cursor; head = head_from next }) → f2 + awaits cursor ≡ f1 + awaits x.cursor
        → (◌≡◌ {A = Result (Option Entry) ReadRefused} (Ok next) (Ok None) → awaits cursor ≡ 0) → ((name : Name) → damages cursor name → damages x.cursor name) → IsAwaiting awaits damages old then f0 f2
    awaiting-asked old then f1 f2 cursor next awaiting then_is once ended fewer =
        awaiting-as old (set now place asked) then f0 f2 then_is
        (awaiting-then old now (set now place asked) f0 f1 f2 awaiting (record {
          once = omega (arith, sum_by-set (awaits_in awaits) now place asked x within, ap (awaits_in awaits) is, own_awaits, by next ended, once);
          fewer = λ name any. any-set-before (λ (source : Source C). damages source.cursor name) now place x asked within is (fewer name) any;
        }))
      where
        asked : Source C
        asked = record { cursor = cursor; head = head_from next }

        by : (next : Option Entry) → (◌≡◌ {A = Result (Option Entry) ReadRefused} (Ok next) (Ok None) → awaits cursor ≡ 0) → awaits_at (awaits cursor) (head_from next) ≡ awaits cursor
        by None ended = sym (ended refl)
        by (Some entry) ended = refl

    -- it makes no more fetches than all of them await
    pub asked_at_most : (old : List (Source C)) (f1 f2 : ℕ) → IsAwaiting awaits damages old now f0 f1 → f2 ≤ f1 + awaits x.cursor → f2 ≤ f0 + sum_by (awaits_in awaits) old
    asked_at_most old f1 f2 awaiting few =
        omega (arith, few, own_awaits, ap (awaits_in awaits) is, get_or-le-sum_by (awaits_in awaits) now place x within, awaiting.once)

    -- the page that it tells is one of theirs
    pub asked_damages : (old : List (Source C)) (f1 : ℕ) (name : Name) → IsAwaiting awaits damages old now f0 f1 → damages x.cursor name → Any (λ source. damages source.cursor name) old
    asked_damages old f1 name awaiting told = awaiting.fewer name (place, x, within, sym is, told)

  behind_awaits : (key : Bytes) (source : Source C) → awaits_in awaits (behind key source) ≡ awaits_in awaits source
  behind_awaits key source = by source.head
    where
      by : (h : Head) → awaits_at (awaits source.cursor) (head_behind key h) ≡ awaits_at (awaits source.cursor) h
      by Unasked = refl
      by Ended = refl
      by (Here e) = by_test (same_key key e.key)
        where
          by_test : (t : Bool) → awaits_at (awaits source.cursor) (cond t Unasked (Here e)) ≡ awaits source.cursor
          by_test true = refl
          by_test false = refl

  -- taking entries at hand fetches nothing
  pub awaiting-taken : (erases : List Pending) (mid new : List (Source C)) (next : Option Entry) (fetches : ℕ) → IfNone next (HasNone mid new) → IfSome next (IsTaken erases mid new) → IsAwaiting awaits damages mid new fetches fetches
  awaiting-taken erases mid new None fetches none some = awaiting-as mid mid new fetches fetches none.same (awaiting-none mid fetches)
  awaiting-taken erases mid new (Some entry) fetches none some =
      awaiting-as mid (map (behind entry.key) mid) new fetches fetches some.taken
      (record {
        once = ap (λ (n : ℕ). fetches + n) (sum-map-same (behind entry.key) (awaits_in awaits) (awaits_in awaits) mid (behind_awaits entry.key));
        fewer = λ name any. any-map-before (behind entry.key) (λ (source : Source C). damages source.cursor name) (λ (source : Source C). damages source.cursor name) mid (λ source d. d) any;
      })

  -- nothing is awaited where all cursors ended
  pub none_awaited : (sources : List (Source C)) → All (λ source. IsKnown source.head) sources → All (λ source. entry_at source.head ≡ None) sources → sum_by (awaits_in awaits) sources ≡ 0
  none_awaited [] known none = refl
  none_awaited (source ∷ sources) known none =
      omega (
        arith,
        sum_by-cons (awaits_in awaits) source sources,
        by source.head (All-head (λ (s : Source C). IsKnown s.head) source sources known) (All-head (λ (s : Source C). entry_at s.head ≡ None) source sources none),
        none_awaited sources (All-tail (λ (s : Source C). IsKnown s.head) source sources known) (All-tail (λ (s : Source C). entry_at s.head ≡ None) source sources none),
      )
    where
      by : (h : Head) → IsKnown h → entry_at h ≡ None → awaits_at (awaits source.cursor) h ≡ 0
      by Unasked known none = absurd known
      by Ended known none = refl
      by (Here e) known none = absurd (let clash : Some e ≡ None = none in cc)

  pub begins-awaits : (cursors : List C) → sum_by (awaits_in awaits) (map unasked cursors) ≡ sum_by awaits cursors
  begins-awaits cursors = sum-map-same unasked (awaits_in awaits) awaits cursors (λ c. refl)

  pub begins-damages : (cursors : List C) (name : Name) → Any (λ source. damages source.cursor name) (map unasked cursors) → Any (λ cursor. damages cursor name) cursors
  begins-damages cursors name any = any-map-before unasked (λ (source : Source C). damages source.cursor name) (λ (c : C). damages c name) cursors (λ c d. d) any
