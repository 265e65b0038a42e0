-- The pending erases, in the order of their places.
use Rattle.std.proofs.Common.{◌≡◌, ℕ, ◌<◌, ◌^◌, Bool, true, false, cond, T, IsTrue, List, [], ◌∷◌, ◌++◌, length, map, filter, All, AllPairs, Contains, Some, None, refl, sym, ap, ◌∙◌, subst, arith}
use Rattle.std.specs.Prelude.{filter_map}
use Rattle.std.specs.Option.{option_or}
use Rattle.std.specs.Cmp.{nat_cmp_total, ranked}
use Rattle.std.specs.FinMap as finmap
use Rattle.std.specs.FinMap.{nat_cmp-IsAntisymmetric, entries_sorted, entries-from_sorted, get-entries, get-from_entries, get-from_sorted, same_map}
use Rattle.std.specs.FinMap.Entries.{find, find-where_key, below_all, is_sorted, is_sorted-where_key, where_key}
use Rattle.std.specs.Ordering.{nat_cmp, eq_by_cmp, is_eq, is_lt}
use Rattle.std.specs.declared.cmp.Ordering.{Ordering}
use Rattle.std.specs.declared.cmp.Ordering.TheVariants.{Less, Equal, Greater}
use Rattle.std.proofs.lemmas.Bool.{and_parts}
use Rattle.std.proofs.lemmas.List.{map-append}
use Rattle.std.proofs.lemmas.List.Elements.{All-nil, All-cons, All-head, All-tail, All-append, All-contains, All-filter, Contains-append_right, filter_map-append}
use Rattle.lethe_base.specs.Erases.{IsErase}
use Rattle.lethe_base.specs.declared.pending.Pending.{Pending}
use Rattle.lethe_base.proofs.Filters.{filter_all}
use Rattle.lethe_base.proofs.LayoutLaws.{none_in}
use Rattle.lethe_base.proofs.Newest.{first_is, first_or_rest}
use Rattle.lethe_cover.proofs.Common.{⊎_elim}
use Rattle.lethe_cover.proofs.Lists.{Pairs, in_rest, pairs_map, pairs_to}
use Rattle.lethe_manifest.specs.Manifests.{AreErases}
use Rattle.lethe_mem.proofs.Places.{from_T}
use Rattle.lethe_segment.specs.Segments.{Ascends}
use Rattle.lethe_segment.specs.declared.record.Record.{Record}
use Rattle.lethe_segment.specs.declared.record.Record.TheVariants as of
use Rattle.lethe_stored.specs.Stored.{Stored, IsCoherent, records_in, erase_of, in_order, pending_of}
use Rattle.lethe_stored.proofs.InOrder.{IsOwn, by_place, own_places, placed}
pub use Rattle.lethe_stored.proofs.InOrder.{all_in_order}

-- Their places ascend

less_below : (a b : ℕ) (o : Ordering) → o ≡ nat_cmp a b → IsTrue (is_lt o) → a < b
less_below a b Less at less = ranked a b Less at
less_below a b Equal at less = absurd cc
less_below a b Greater at less = absurd cc

below_each : (place : ℕ) (es : List (ℕ × Pending)) (e : ℕ × Pending) → IsTrue (below_all nat_cmp place es) → Contains es e → place < e.0
below_each place [] e below there = absurd (none_in e there)
below_each place (first ∷ es) e below there =
    let parts = and_parts (is_lt (nat_cmp place first.0)) (below_all nat_cmp place es) below in
    ⊎_elim (λ same. subst (λ (e : ℕ × Pending). place < e.0) same (less_below place first.0 (nat_cmp place first.0) refl parts.0)) (λ rest. below_each place es e parts.1 rest) (first_or_rest first es e there)

places_rise : (es : List (ℕ × Pending)) → IsTrue (is_sorted nat_cmp es) → All IsOwn es → Pairs (λ a b. (a.1).seq < (b.1).seq) es
places_rise [] sorted own = tt
places_rise (e ∷ es) sorted own =
    let parts = and_parts (below_all nat_cmp e.0 es) (is_sorted nat_cmp es) sorted in
    let here : (e.1).seq ≡ e.0 = All-head IsOwn e es own in (
      (λ other there.
          let lower = below_each e.0 es other parts.0 there in
          let same : (other.1).seq ≡ other.0 = All-contains IsOwn es other (All-tail IsOwn e es own) there in
          omega (arith, lower, here, same)),
      places_rise es parts.1 (All-tail IsOwn e es own),
    )

pub in_order_ascends : (erases : List Pending) → AllPairs (λ a b. a.seq < b.seq) (in_order erases)
in_order_ascends erases = pairs_to (λ a b. a.seq < b.seq) (in_order erases) (pairs_map (λ a b. a.seq < b.seq) (λ (e : ℕ × Pending). e.1) (finmap.entries (by_place erases))
    (places_rise (finmap.entries (by_place erases)) (from_T _ (entries_sorted (by_place erases))) (own_places erases)))

-- Erases that were there already come to nothing

find_more : (place : ℕ) (es more : List (ℕ × Pending)) → (find nat_cmp place es ≡ None → find nat_cmp place more ≡ None) → find nat_cmp place (es ++ more) ≡ find nat_cmp place es
find_more place [] more none = none refl
find_more place (e ∷ es) more none = by (eq_by_cmp nat_cmp place e.0) refl (find_more place es more)
  where
    by : (b : Bool) → eq_by_cmp nat_cmp place e.0 ≡ b → ((find nat_cmp place es ≡ None → find nat_cmp place more ≡ None) → find nat_cmp place (es ++ more) ≡ find nat_cmp place es)
        → cond b (Some e.1) (find nat_cmp place (es ++ more)) ≡ cond b (Some e.1) (find nat_cmp place es)
    by true at rest = refl
    by false at rest = rest (λ behind. none (ap (λ b. cond b (Some e.1) (find nat_cmp place es)) at ∙ behind))

missed : (place : ℕ) (erases : List Pending) → find nat_cmp place (map placed erases) ≡ None → (erase : Pending) → Contains erases erase → eq_by_cmp nat_cmp place erase.seq ≡ false
missed place [] none erase there = absurd (none_in erase there)
missed place (first ∷ erases) none erase there = by (eq_by_cmp nat_cmp place first.seq) refl (λ behind. missed place erases behind erase)
  where
    by : (b : Bool) → eq_by_cmp nat_cmp place first.seq ≡ b → (find nat_cmp place (map placed erases) ≡ None → Contains erases erase → eq_by_cmp nat_cmp place erase.seq ≡ false) → eq_by_cmp nat_cmp place erase.seq ≡ false
    by true at rest = absurd (let clash : Some first ≡ None = ap (λ b. cond b (Some first) (find nat_cmp place (map placed erases))) (sym at) ∙ none in cc)
    by false at rest = ⊎_elim (λ (same : first ≡ erase). ap (λ (e : Pending). eq_by_cmp nat_cmp place e.seq) (sym same) ∙ at)
        (rest (ap (λ b. cond b (Some first) (find nat_cmp place (map placed erases))) (sym at) ∙ none)) (first_or_rest first erases erase there)

none_found : (place : ℕ) (erases : List Pending) → ((erase : Pending) → Contains erases erase → eq_by_cmp nat_cmp place erase.seq ≡ false) → find nat_cmp place (map placed erases) ≡ None
none_found place [] each = refl
none_found place (erase ∷ erases) each = ap (λ b. cond b (Some erase) (find nat_cmp place (map placed erases))) (each erase (first_is erase erases erase refl))
    ∙ none_found place erases (λ other there. each other (in_rest erase erases other there))

placed_again : (es : List (ℕ × Pending)) → All IsOwn es → map placed (map (λ (e : ℕ × Pending). e.1) es) ≡ es
placed_again [] own = refl
placed_again (e ∷ es) own = let here : (e.1).seq ≡ e.0 = All-head IsOwn e es own in λ i. (here i, e.1) ∷ placed_again es (All-tail IsOwn e es own) i

apart : (place other : ℕ) → (place ≡ other → ⊥) → eq_by_cmp nat_cmp place other ≡ false
apart place other differ = by (nat_cmp place other) refl
  where
    by : (o : Ordering) → nat_cmp place other ≡ o → is_eq o ≡ false
    by Less at = refl
    by Equal at = absurd (differ (nat_cmp-IsAntisymmetric place other at))
    by Greater at = refl

-- Some of them stay, by their places

module _ (stays : ℕ → Bool) where
  abbrev staying : List Pending → List Pending
  staying erases = filter (λ erase. stays erase.seq) erases

  values_kept : (es : List (ℕ × Pending)) → All IsOwn es → map (λ (e : ℕ × Pending). e.1) (where_key nat_cmp stays es) ≡ staying (map (λ (e : ℕ × Pending). e.1) es)
  values_kept [] own = refl
  values_kept (e ∷ es) own = by (stays e.0) (ap stays (All-head IsOwn e es own)) (values_kept es (All-tail IsOwn e es own))
    where
      values : List (ℕ × Pending) → List Pending
      values es = map (λ e. e.1) es

      by : (b : Bool) → stays (e.1).seq ≡ b → values (where_key nat_cmp stays es) ≡ staying (values es)
          → values (cond b (e ∷ where_key nat_cmp stays es) (where_key nat_cmp stays es)) ≡ cond (stays (e.1).seq) (e.1 ∷ staying (values es)) (staying (values es))
      by true at rest = ap (λ list. e.1 ∷ list) rest ∙ ap (λ b. cond b (e.1 ∷ staying (values es)) (staying (values es))) (sym at)
      by false at rest = rest ∙ ap (λ b. cond b (e.1 ∷ staying (values es)) (staying (values es))) (sym at)

  pub in_order_kept : (erases known : List Pending) → ((erase : Pending) → Contains known erase → Contains erases erase) → ((erase : Pending) → Contains known erase → stays erase.seq ≡ true)
      → in_order (staying (in_order erases) ++ known) ≡ staying (in_order erases)
  in_order_kept erases known there passes = ap (λ l. finmap.values (finmap.from_entries {R = nat_cmp} l)) list ∙ ap finmap.values same ∙ ap (map (λ (e : ℕ × Pending). e.1)) (entries-from_sorted nat_cmp left sorted) ∙ values_left
    where
      es : List (ℕ × Pending)
      es = finmap.entries (by_place erases)

      left : List (ℕ × Pending)
      left = where_key nat_cmp stays es

      sorted : T (is_sorted nat_cmp left)
      sorted = is_sorted-where_key nat_cmp stays es (entries_sorted (by_place erases))

      values_left : map (λ (e : ℕ × Pending). e.1) left ≡ staying (in_order erases)
      values_left = values_kept es (own_places erases)

      list : map placed (staying (in_order erases) ++ known) ≡ left ++ map placed known
      list = map-append placed (staying (in_order erases)) known ∙ ap (λ l. map placed l ++ map placed known) (sym values_left)
          ∙ ap (λ l. l ++ map placed known) (placed_again left (All-filter (λ (e : ℕ × Pending). stays e.0) IsOwn es (own_places erases)))

      found : (place : ℕ) → find nat_cmp place left ≡ cond (stays place) (find nat_cmp place es) None
      found place = find-where_key nat_cmp stays place (λ x tied. ap stays (sym (nat_cmp-IsAntisymmetric place x tied))) es

      none : (place : ℕ) → find nat_cmp place left ≡ None → find nat_cmp place (map placed known) ≡ None
      none place gone = by (stays place) refl (sym (found place) ∙ gone)
        where
          by : (b : Bool) → stays place ≡ b → cond b (find nat_cmp place es) None ≡ None → find nat_cmp place (map placed known) ≡ None
          by true at unheld = none_found place known (λ erase is. missed place erases (sym (get-from_entries nat_cmp_total (map placed erases) place) ∙ get-entries (by_place erases) place ∙ unheld) erase (there erase is))
          by false at unheld = none_found place known (λ erase is. apart place erase.seq (λ same. absurd (let clash : false ≡ true = sym at ∙ ap stays same ∙ passes erase is in cc)))

      same : finmap.from_entries {R = nat_cmp} (left ++ map placed known) ≡ finmap.from_sorted {R = nat_cmp} left
      same = same_map nat_cmp_total nat_cmp-IsAntisymmetric (finmap.from_entries {R = nat_cmp} (left ++ map placed known)) (finmap.from_sorted {R = nat_cmp} left) (λ place.
          get-from_entries nat_cmp_total (left ++ map placed known) place ∙ find_more place left (map placed known) (none place) ∙ sym (get-from_sorted nat_cmp left place sorted))

pub in_order_again : (erases known : List Pending) → ((erase : Pending) → Contains known erase → Contains erases erase) → in_order (in_order erases ++ known) ≡ in_order erases
in_order_again erases known there = subst (λ l. in_order (l ++ known) ≡ l) (filter_all (λ (erase : Pending). true) (in_order erases) (λ k d within. refl)) (in_order_kept (λ place. true) erases known there (λ erase is. refl))

find_append : (place : ℕ) (es more : List (ℕ × Pending)) → find nat_cmp place (es ++ more) ≡ option_or (find nat_cmp place es) (find nat_cmp place more)
find_append place [] more = refl
find_append place (e ∷ es) more = by (eq_by_cmp nat_cmp place e.0) (find_append place es more)
  where
    by : (b : Bool) → find nat_cmp place (es ++ more) ≡ option_or (find nat_cmp place es) (find nat_cmp place more)
        → cond b (Some e.1) (find nat_cmp place (es ++ more)) ≡ option_or (cond b (Some e.1) (find nat_cmp place es)) (find nat_cmp place more)
    by true rest = refl
    by false rest = rest

-- more erases may come to those that are in order already
pub in_order_then : (erases more : List Pending) → in_order (in_order erases ++ more) ≡ in_order (erases ++ more)
in_order_then erases more =
    let m = by_place erases in
    let es = finmap.entries m in
    let behind = map placed more in
    let ordered : List (ℕ × Pending) → List Pending = λ l. finmap.values (finmap.from_entries {R = nat_cmp} l) in
    let list : map placed (in_order erases ++ more) ≡ es ++ behind = map-append placed (in_order erases) more ∙ ap (λ l. l ++ behind) (placed_again es (own_places erases)) in
    let same = same_map nat_cmp_total nat_cmp-IsAntisymmetric (finmap.from_entries {R = nat_cmp} (es ++ behind)) (finmap.from_entries {R = nat_cmp} (map placed erases ++ behind)) (λ place.
    get-from_entries nat_cmp_total (es ++ behind) place
    ∙ find_append place es behind
    ∙ ap (λ found. option_or found (find nat_cmp place behind)) (sym (get-entries m place) ∙ get-from_entries nat_cmp_total (map placed erases) place)
    ∙ sym (find_append place (map placed erases) behind)
    ∙ sym (get-from_entries nat_cmp_total (map placed erases ++ behind) place)) in
    ap ordered list ∙ ap finmap.values same ∙ ap ordered (sym (map-append placed erases more))

-- the pending erases stay as they are where the manifest gets them and some of the records go
pub pending_again : (s : Stored) (records : List Record) → ((erase : Pending) → Contains (filter_map erase_of records) erase → Contains (filter_map erase_of s.active.records) erase)
    → in_order (pending_of s ++ filter_map erase_of records) ≡ pending_of s
pending_again s records there = in_order_again (s.manifest.erases ++ filter_map erase_of (records_in s.frozen ++ s.active.records)) (filter_map erase_of records) (λ erase is.
    Contains-append_right s.manifest.erases (filter_map erase_of (records_in s.frozen ++ s.active.records)) erase
    (subst (λ l. Contains l erase) (sym (filter_map-append erase_of (records_in s.frozen) s.active.records))
    (Contains-append_right (filter_map erase_of (records_in s.frozen)) (filter_map erase_of s.active.records) erase (there erase is))))

-- Their spelling

pub erases_in : (last : ℕ) (records : List Record) → Ascends last records → All IsErase (filter_map erase_of records)
erases_in last [] up = All-nil IsErase
erases_in last (of.Entry entry ∷ records) up = erases_in entry.seq records up.2
erases_in last (of.Blind place ∷ records) up = erases_in place records up.2
erases_in last (of.Erase erase ∷ records) up = All-cons IsErase erase (filter_map erase_of records) up.0 (erases_in erase.seq records up.2)

pub erases_spelled : (erases : List Pending) (older newer : List Record) → All IsErase erases → Ascends 0 older → Ascends 0 newer → length (in_order (erases ++ filter_map erase_of (older ++ newer))) < 2 ^ 32
    → AreErases (in_order (erases ++ filter_map erase_of (older ++ newer)))
erases_spelled erases older newer each up_older up_newer few =
    let all = erases ++ filter_map erase_of (older ++ newer) in
    let recorded : All IsErase (filter_map erase_of (older ++ newer)) = subst (All IsErase) (sym (filter_map-append erase_of older newer))
    (All-append IsErase (filter_map erase_of older) (filter_map erase_of newer) (erases_in 0 older up_older) (erases_in 0 newer up_newer)) in
    let spelled = All-append IsErase erases (filter_map erase_of (older ++ newer)) each recorded in
    record { few = few; each = all_in_order IsErase all (λ erase there. All-contains IsErase all erase spelled there); ascending = in_order_ascends all }

pub pending_spelled : (s : Stored) → IsCoherent s → length (pending_of s) < 2 ^ 32 → AreErases (pending_of s)
pending_spelled s coherent few = erases_spelled s.manifest.erases (records_in s.frozen) s.active.records coherent.spelled.erases.each coherent.frozen coherent.active few
