-- Erases in the order of their places.
use Rattle.std.proofs.Common.{◌≡◌, ℕ, ◌<◌, List, [], ◌∷◌, ◌++◌, map, All, Contains, sym, ap, ◌∙◌, subst, refl}
use Rattle.std.specs.Cmp.{nat_cmp_is, nat_cmp_total}
use Rattle.std.specs.FinMap as finmap
use Rattle.std.specs.FinMap.{nat_cmp-IsAntisymmetric, len-entries, len-empty, entries-insert}
use Rattle.std.specs.FinMap.Entries.{by_order, put}
use Rattle.std.specs.Ordering.{nat_cmp}
use Rattle.std.specs.declared.cmp.Ordering.{Ordering}
use Rattle.std.specs.declared.cmp.Ordering.TheVariants.{Less, Equal, Greater}
use Rattle.std.proofs.lemmas.List.{nil_from_length, map_push}
use Rattle.std.proofs.lemmas.List.Elements.{All-nil, All-cons, All-contains, All-head, All-map, All-tail}
use Rattle.lethe_base.specs.declared.pending.Pending.{Pending}
use Rattle.lethe_base.proofs.LayoutLaws.{none_in}
use Rattle.lethe_base.proofs.Newest.{first_is, first_or_rest}
use Rattle.lethe_cover.proofs.Common.{⊎_elim}
use Rattle.lethe_cover.proofs.Lists.{all_from, in_map, in_rest}
use Rattle.lethe_stored.specs.Stored.{in_order}

abbrev pub placed : Pending → ℕ × Pending
placed erase = (erase.seq, erase)

abbrev pub by_place : List Pending → finmap.FinMap nat_cmp Pending
by_place erases = finmap.from_entries {R = nat_cmp} (map placed erases)

none_placed : finmap.entries (by_place []) ≡ []
none_placed = nil_from_length (finmap.entries (by_place [])) (sym (len-entries (by_place [])) ∙ len-empty nat_cmp Pending)

-- What stands in the map

all_put : (P : ℕ × Pending → Type 0) (place : ℕ) (erase : Pending) (es : List (ℕ × Pending)) → P (place, erase) → All P es → All P (put nat_cmp place erase es)
all_put P place erase [] new all = All-cons P (place, erase) [] new (All-nil P)
all_put P place erase (e ∷ es) new all = by (nat_cmp place e.0) refl (all_put P place erase es new (All-tail P e es all))
  where
    by : (o : Ordering) → nat_cmp place e.0 ≡ o → All P (put nat_cmp place erase es) → All P (by_order o ((place, erase) ∷ e ∷ es) ((e.0, erase) ∷ es) (e ∷ put nat_cmp place erase es))
    by Less at rest = All-cons P (place, erase) (e ∷ es) new all
    by Equal at rest = All-cons P (e.0, erase) es (subst (λ k. P (k, erase)) (nat_cmp-IsAntisymmetric place e.0 at) new) (All-tail P e es all)
    by Greater at rest = All-cons P e (put nat_cmp place erase es) (All-head P e es all) rest

all_placed : (P : ℕ × Pending → Type 0) (erases : List Pending) → ((erase : Pending) → Contains erases erase → P (placed erase)) → All P (finmap.entries (by_place erases))
all_placed P [] each = subst (All P) (sym none_placed) (All-nil P)
all_placed P (erase ∷ erases) each = subst (All P) (sym (entries-insert nat_cmp_total (by_place erases) erase.seq erase))
    (all_put P erase.seq erase (finmap.entries (by_place erases)) (each erase (first_is erase erases erase refl)) (all_placed P erases (λ other there. each other (in_rest erase erases other there))))

abbrev pub IsOwn : ℕ × Pending → Type 0
IsOwn e = (e.1).seq ≡ e.0

pub own_places : (erases : List Pending) → All IsOwn (finmap.entries (by_place erases))
own_places erases = all_placed IsOwn erases (λ erase there. refl)

pub all_in_order : (P : Pending → Type 0) (erases : List Pending) → ((erase : Pending) → Contains erases erase → P erase) → All P (in_order erases)
all_in_order P erases each = All-map P (λ (e : ℕ × Pending). e.1) (finmap.entries (by_place erases)) (all_placed (λ e. P e.1) erases each)

-- What holds of each place in the order holds of the place of each erase

module _ (P : ℕ → Type 0) where
  abbrev HasIt : ℕ × Pending → Type 0
  HasIt e = P e.0

  keys_put : (place : ℕ) (erase : Pending) (es : List (ℕ × Pending)) → All HasIt (put nat_cmp place erase es) → P place × All HasIt es
  keys_put place erase [] all = (All-head HasIt (place, erase) [] all, All-nil HasIt)
  keys_put place erase (e ∷ es) all = by (nat_cmp place e.0) refl (keys_put place erase es) all
    where
      by : (o : Ordering) → nat_cmp place e.0 ≡ o → (All HasIt (put nat_cmp place erase es) → P place × All HasIt es)
          → All HasIt (by_order o ((place, erase) ∷ e ∷ es) ((e.0, erase) ∷ es) (e ∷ put nat_cmp place erase es)) → P place × All HasIt (e ∷ es)
      by Less at rest all = (All-head HasIt (place, erase) (e ∷ es) all, All-tail HasIt (place, erase) (e ∷ es) all)
      by Equal at rest all =
          let here : P e.0 = All-head HasIt (e.0, erase) es all in
          (subst P (sym (nat_cmp-IsAntisymmetric place e.0 at)) here, All-cons HasIt e es here (All-tail HasIt (e.0, erase) es all))
      by Greater at rest all =
          let behind = rest (All-tail HasIt e (put nat_cmp place erase es) all) in
          (behind.0, All-cons HasIt e es (All-head HasIt e (put nat_cmp place erase es) all) behind.1)

  keys_from : (erases : List Pending) → All HasIt (finmap.entries (by_place erases)) → (erase : Pending) → Contains erases erase → P erase.seq
  keys_from [] all erase there = absurd (none_in erase there)
  keys_from (first ∷ erases) all erase there =
      let parts = keys_put first.seq first (finmap.entries (by_place erases)) (subst (All HasIt) (entries-insert nat_cmp_total (by_place erases) first.seq first) all) in
      ⊎_elim (λ (same : first ≡ erase). subst (λ (other : Pending). P other.seq) same parts.0) (keys_from erases parts.1 erase) (first_or_rest first erases erase there)

  pub each_place : (erases : List Pending) → ((erase : Pending) → Contains (in_order erases) erase → P erase.seq) → (erase : Pending) → Contains erases erase → P erase.seq
  each_place erases each =
      let es = finmap.entries (by_place erases) in
      keys_from erases (all_from HasIt es (λ e there.
      subst P (All-contains IsOwn es e (own_places erases) there) (each e.1 (in_map (λ (e : ℕ × Pending). e.1) es e there))))

-- An erase whose place is above the others comes last

put_push : (place : ℕ) (erase : Pending) (es : List (ℕ × Pending)) (last : ℕ × Pending) → place < last.0 → put nat_cmp place erase (es ++ last ∷ []) ≡ put nat_cmp place erase es ++ last ∷ []
put_push place erase [] last below = ap (λ o. by_order o ((place, erase) ∷ last ∷ []) ((last.0, erase) ∷ []) (last ∷ put nat_cmp place erase [])) (sym (nat_cmp_is place last.0 Less below))
put_push place erase (e ∷ es) last below = by (nat_cmp place e.0) (put_push place erase es last below)
  where
    by : (o : Ordering) → put nat_cmp place erase (es ++ last ∷ []) ≡ put nat_cmp place erase es ++ last ∷ []
        → by_order o ((place, erase) ∷ e ∷ (es ++ last ∷ [])) ((e.0, erase) ∷ (es ++ last ∷ [])) (e ∷ put nat_cmp place erase (es ++ last ∷ []))
        ≡ by_order o ((place, erase) ∷ e ∷ es) ((e.0, erase) ∷ es) (e ∷ put nat_cmp place erase es) ++ last ∷ []
    by Less rest = refl
    by Equal rest = refl
    by Greater rest = ap (λ l. e ∷ l) rest

entries_push : (erases : List Pending) (last : Pending) → ((erase : Pending) → Contains erases erase → erase.seq < last.seq)
    → finmap.entries (by_place (erases ++ last ∷ [])) ≡ finmap.entries (by_place erases) ++ placed last ∷ []
entries_push [] last below = entries-insert nat_cmp_total (by_place []) last.seq last ∙ ap (put nat_cmp last.seq last) none_placed ∙ sym (ap (λ l. l ++ placed last ∷ []) none_placed)
entries_push (first ∷ erases) last below =
    entries-insert nat_cmp_total (by_place (erases ++ last ∷ [])) first.seq first
    ∙ ap (put nat_cmp first.seq first) (entries_push erases last (λ erase there. below erase (in_rest first erases erase there)))
    ∙ put_push first.seq first (finmap.entries (by_place erases)) (placed last) (below first (first_is first erases first refl))
    ∙ sym (ap (λ l. l ++ placed last ∷ []) (entries-insert nat_cmp_total (by_place erases) first.seq first))

pub in_order_push : (erases : List Pending) (last : Pending) → ((erase : Pending) → Contains erases erase → erase.seq < last.seq) → in_order (erases ++ last ∷ []) ≡ in_order erases ++ last ∷ []
in_order_push erases last below =
    ap (map (λ (e : ℕ × Pending). e.1)) (entries_push erases last below) ∙ map_push (λ (e : ℕ × Pending). e.1) (finmap.entries (by_place erases)) (placed last)
