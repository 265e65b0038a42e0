-- What pins keep isn't overdue before their limits, each object that one names stays as it is, and which pages are retired behind steps.
use Rattle.std.proofs.Common.{◌≡◌, ◌⊎◌, ◌<◌, ◌≤◌, inl, inr, ℕ, ◌+◌, List, [], ◌∷◌, ◌++◌, true, eqb, Option, refl, sym, ap, subst, arith}
use Rattle.std.specs.Prelude.{All, Contains, IsTrue, unwrap_or}
use Rattle.std.proofs.lemmas.Bool.{and_from, eq-eqb}
use Rattle.std.proofs.lemmas.List.Elements.{All-contains, All-nil, All-weaker}
use Rattle.std.proofs.lemmas.List.Folds.{Any-from_list_any, list_any-from_Any}
use Rattle.lethe_base.specs.History.{Change, History, after}
use Rattle.lethe_base.specs.Matching.{IsPut}
use Rattle.lethe_base.specs.Names.{name_eq, name_rank}
use Rattle.lethe_base.specs.Placed.{IsPlaced}
use Rattle.lethe_base.specs.declared.entry.Entry.{Entry}
use Rattle.lethe_base.specs.declared.name.Name.{Name}
use Rattle.lethe_bound.specs.Limits.{IsBounded}
use Rattle.lethe_bound.proofs.Bounds.{bounded_more}
use Rattle.lethe_cover.proofs.Grown.{placed_more}
use Rattle.lethe_cover.proofs.Lists.{all_from}
use Rattle.lethe_disk.specs.Directory.{Directory, content, object}
use Rattle.lethe_install.proofs.Parted.{same_name}
use Rattle.lethe_pins.specs.Held.{has_name, is_named}
use Rattle.lethe_pins.specs.declared.pin.Pin.{Pin}
use Rattle.lethe_core.specs.Pinned.{AreKept, AreNamed, AreRetiredFrom, AreTimely, IsPageUntil}

-- Which names are named

name_self : (name : Name) → name_eq name name ≡ true
name_self name = and_from (eqb (name_rank name) (name_rank name)) (eqb name.no name.no) (eq-eqb (name_rank name) (name_rank name) refl) (eq-eqb name.no name.no refl)

-- a name that stands among others is found there
pub has_there : (names : List Name) (name : Name) → Contains names name → IsTrue (has_name names name)
has_there names name there = list_any-from_Any (λ (other : Name). name_eq other name) names (there.0, name, there.1, there.2, name_self name)

-- and one that is found there stands among them
pub there_has : (names : List Name) (name : Name) → IsTrue (has_name names name) → Contains names name
there_has names name has =
    let any = Any-from_list_any (λ (other : Name). name_eq other name) names has in
    subst (Contains names) (same_name any.1 name any.4) (any.0, any.2, any.3)

-- what a held pin names is named
pub named_there : (pins : List Pin) (pin : Pin) (name : Name) → Contains pins pin → Contains pin.names name → IsTrue (is_named pins name)
named_there pins pin name held there = list_any-from_Any (λ (pin : Pin). has_name pin.names name) pins (held.0, pin, held.1, held.2, has_there pin.names name there)

-- and what is named is named by one
pub there_named : (pins : List Pin) (name : Name) → IsTrue (is_named pins name) → (pin : Pin) × Contains pins pin × Contains pin.names name
there_named pins name named =
    let any = Any-from_list_any (λ (pin : Pin). has_name pin.names name) pins named in
    (any.1, (any.0, any.2, any.3), there_has (any.1).names name any.4)

-- A page until a limit

-- until an earlier one too
until_earlier : (threshold early limit : ℕ) (h : History) (bytes : List ℕ) → early ≤ limit → IsPageUntil threshold limit h bytes → IsPageUntil threshold early h bytes
until_earlier threshold early limit h bytes low is = record {
  entries = is.entries;
  spelled = is.spelled;
  placed = is.placed;
  bounded = All-weaker (λ (entry : Entry). IsPut entry.body → IsBounded threshold limit h (entry.seq ∷ [])) (λ (entry : Entry). IsPut entry.body → IsBounded threshold early h (entry.seq ∷ [])) (λ entry bounded put.
      let is = bounded put in
      let clock = is.clock in
      record {
        clock = omega (arith, low, clock);
        counted = is.counted;
        each = λ place time there erased. let old = is.each place time there erased in omega (arith, low, old);
      }) is.entries is.bounded;
}

-- with one change more, which doesn't set the clock back
until_more : (threshold limit : ℕ) (h : History) (change : Change) (bytes : List ℕ) → (after h).clock ≤ (after (h ++ change ∷ [])).clock → IsPageUntil threshold limit h bytes
    → IsPageUntil threshold limit (h ++ change ∷ []) bytes
until_more threshold limit h change bytes forward is = record {
  entries = is.entries;
  spelled = is.spelled;
  placed = All-weaker (λ (entry : Entry). IsPut entry.body → IsPlaced h entry.seq entry.key entry.body) (λ (entry : Entry). IsPut entry.body → IsPlaced (h ++ change ∷ []) entry.seq entry.key entry.body)
      (λ entry placed put. placed_more h change entry.seq entry.key entry.body (placed put)) is.entries is.placed;
  bounded = All-weaker (λ (entry : Entry). IsPut entry.body → IsBounded threshold limit h (entry.seq ∷ [])) (λ (entry : Entry). IsPut entry.body → IsBounded threshold limit (h ++ change ∷ []) (entry.seq ∷ []))
      (λ entry bounded put. bounded_more threshold limit h change (entry.seq ∷ []) (bounded put) forward) is.entries is.bounded;
}

-- objects that are the same have the same bytes
same_content : (d c : Directory) (name : Name) → object c name ≡ object d name → content d name ≡ content c name
same_content d c name same = sym (ap (λ (o : Option (List ℕ)). unwrap_or o []) same)

-- What pins keep

module _ (threshold : ℕ) (h : History) (pins : List Pin) where
  abbrev Pinned : Directory → Pin → Type 0
  Pinned d pin = All (λ name. IsPageUntil threshold pin.limit h (content d name)) pin.names

  -- a named page is so until its pin's limit
  pub named_until : (retired : List Name) (d : Directory) → AreTimely threshold h pins retired d → (name : Name) → IsTrue (is_named pins name) → IsPageUntil threshold ((after h).clock + 1) h (content d name)
  named_until retired d is name named =
      let found = there_named pins name named in
      let limit = All-contains (λ (pin : Pin). (after h).clock < pin.limit) pins found.0 is.limits found.1 in
      let page = All-contains (λ (name : Name). IsPageUntil threshold (found.0).limit h (content d name)) (found.0).names name (All-contains (Pinned d) pins found.0 is.pinned found.1) found.2 in
      until_earlier threshold ((after h).clock + 1) (found.0).limit h (content d name) (omega (arith, limit)) page

  -- in a directory where what pins name is as it was, and what is retired was, unchanged, or is named
  pub timely_kept : (retired left : List Name) (d c : Directory) → AreKept pins d c → AreTimely threshold h pins retired d
      → ((name : Name) → Contains left name → (Contains retired name × (object c name ≡ object d name)) ⊎ IsTrue (is_named pins name)) → AreTimely threshold h pins left c
  timely_kept retired left d c kept is from = record {
    limits = is.limits;
    pinned = all_from (Pinned c) pins (λ pin held. all_from (λ (name : Name). IsPageUntil threshold pin.limit h (content c name)) pin.names (λ name there.
        subst (IsPageUntil threshold pin.limit h) (same_content d c name (kept name (named_there pins pin name held there)))
        (All-contains (λ (name : Name). IsPageUntil threshold pin.limit h (content d name)) pin.names name (All-contains (Pinned d) pins pin is.pinned held) there)));
    left = all_from (λ (name : Name). IsPageUntil threshold ((after h).clock + 1) h (content c name)) left (λ name there. elim (from name there) [
      | inl was ↦ subst (IsPageUntil threshold ((after h).clock + 1) h) (same_content d c name was.1) (All-contains (λ (name : Name). IsPageUntil threshold ((after h).clock + 1) h (content d name)) retired name is.left was.0)
      | inr named ↦ subst (IsPageUntil threshold ((after h).clock + 1) h) (same_content d c name (kept name named)) (named_until retired d is name named)
    ]);
  }

  -- with one change more that leaves the clock
  pub timely_more : (retired : List Name) (d : Directory) (change : Change) → (after (h ++ change ∷ [])).clock ≡ (after h).clock → AreTimely threshold h pins retired d
      → AreTimely threshold (h ++ change ∷ []) pins retired d
  timely_more retired d change same is =
      let forward : (after h).clock ≤ (after (h ++ change ∷ [])).clock = omega (arith, same) in record {
        limits = All-weaker (λ (pin : Pin). (after h).clock < pin.limit) (λ (pin : Pin). (after (h ++ change ∷ [])).clock < pin.limit) (λ pin above. omega (arith, above, same)) pins is.limits;
        pinned = All-weaker (Pinned d) (λ (pin : Pin). All (λ name. IsPageUntil threshold pin.limit (h ++ change ∷ []) (content d name)) pin.names) (λ pin pages.
            All-weaker (λ (name : Name). IsPageUntil threshold pin.limit h (content d name)) (λ (name : Name). IsPageUntil threshold pin.limit (h ++ change ∷ []) (content d name))
            (λ name page. until_more threshold pin.limit h change (content d name) forward page) pin.names pages) pins is.pinned;
        left = All-weaker (λ (name : Name). IsPageUntil threshold ((after h).clock + 1) h (content d name)) (λ (name : Name). IsPageUntil threshold ((after (h ++ change ∷ [])).clock + 1) (h ++ change ∷ []) (content d name))
            (λ name page. subst (λ clock. IsPageUntil threshold (clock + 1) (h ++ change ∷ []) (content d name)) (sym same) (until_more threshold ((after h).clock + 1) h change (content d name) forward page)) retired is.left;
      }

  -- with a change that moves the clock, to a time that is below all limits, where all retired pages are named
  pub timely_ticked : (retired : List Name) (d : Directory) (change : Change) → (after h).clock ≤ (after (h ++ change ∷ [])).clock → All (λ pin. (after (h ++ change ∷ [])).clock < pin.limit) pins → AreNamed pins retired
      → AreTimely threshold h pins retired d → AreTimely threshold (h ++ change ∷ []) pins retired d
  timely_ticked retired d change forward limits named is =
      let pinned : All (λ (pin : Pin). All (λ name. IsPageUntil threshold pin.limit (h ++ change ∷ []) (content d name)) pin.names) pins =
      All-weaker (Pinned d) (λ (pin : Pin). All (λ name. IsPageUntil threshold pin.limit (h ++ change ∷ []) (content d name)) pin.names) (λ pin pages.
      All-weaker (λ (name : Name). IsPageUntil threshold pin.limit h (content d name)) (λ (name : Name). IsPageUntil threshold pin.limit (h ++ change ∷ []) (content d name))
      (λ name page. until_more threshold pin.limit h change (content d name) forward page) pin.names pages) pins is.pinned in record {
        limits = limits;
        pinned = pinned;
        left = All-weaker (λ (name : Name). IsTrue (is_named pins name)) (λ (name : Name). IsPageUntil threshold ((after (h ++ change ∷ [])).clock + 1) (h ++ change ∷ []) (content d name)) (λ name named.
            let found = there_named pins name named in
            let limit = All-contains (λ (pin : Pin). (after (h ++ change ∷ [])).clock < pin.limit) pins found.0 limits found.1 in
            let page = All-contains (λ (name : Name). IsPageUntil threshold (found.0).limit (h ++ change ∷ []) (content d name)) (found.0).names name
            (All-contains (λ (pin : Pin). All (λ name. IsPageUntil threshold pin.limit (h ++ change ∷ []) (content d name)) pin.names) pins found.0 pinned found.1) found.2 in
            until_earlier threshold ((after (h ++ change ∷ [])).clock + 1) (found.0).limit (h ++ change ∷ []) (content d name) (omega (arith, limit)) page) retired named;
      }

-- where nothing is pinned and nothing is retired
pub timely_none : (threshold : ℕ) (h : History) (d : Directory) → AreTimely threshold h [] [] d
timely_none threshold h d = record { limits = All-nil (λ (pin : Pin). (after h).clock < pin.limit); pinned = All-nil (λ (pin : Pin). All (λ name. IsPageUntil threshold pin.limit h (content d name)) pin.names); left = All-nil (λ (name : Name). IsPageUntil threshold ((after h).clock + 1) h (content d name)) }

-- Which pages are retired behind steps

-- those that were
pub retired_same : (pins : List Pin) (old new : List Name) → new ≡ old → AreRetiredFrom pins old new
retired_same pins old new same name there = inl (subst (λ names. Contains names name) same there)

-- those that pins name
pub retired_named : (pins : List Pin) (old new : List Name) → AreNamed pins new → AreRetiredFrom pins old new
retired_named pins old new named name there = inr (All-contains (λ name. IsTrue (is_named pins name)) new name named there)

-- one step after another
pub retired_then : (pins : List Pin) (old mid new : List Name) → AreRetiredFrom pins old mid → AreRetiredFrom pins mid new → AreRetiredFrom pins old new
retired_then pins old mid new one two name there =
    elim (two name there) as (λ _. Contains old name ⊎ IsTrue (is_named pins name)) [ inl was ↦ one name was | inr named ↦ inr named ]

-- where pins named all of them, they still do
pub named_still : (pins : List Pin) (old new : List Name) → AreNamed pins old → AreRetiredFrom pins old new → AreNamed pins new
named_still pins old new all from = all_from (λ name. IsTrue (is_named pins name)) new (λ name there.
    elim (from name there) as (λ _. IsTrue (is_named pins name)) [ inl was ↦ All-contains (λ name. IsTrue (is_named pins name)) old name all was | inr named ↦ named ])
