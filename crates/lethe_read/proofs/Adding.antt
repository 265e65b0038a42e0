-- Parts for files, one file after another.
use Rattle.std.proofs.Common.{◌≡◌, ℕ, zero, suc, ◌+◌, ◌-◌, ◌<◌, ◌≤◌, List, [], ◌∷◌, ◌++◌, length, get_or, take, map, All, Contains, Some, ⊎_elim, inl, inr, refl, sym, ap, subst, ◌∙◌, arith}
use Rattle.std.specs.Prelude.{Any, ◌⊎◌, ◌↔◌, flat_map}
use Rattle.std.proofs.lemmas.Bool.{cases_lt}
use Rattle.std.proofs.lemmas.Grind.{flat_map-append}
use Rattle.std.proofs.lemmas.List.{append-nil, get_or-append-add, get_or_append_left, length-append, map-append, take_all, take_more}
use Rattle.std.proofs.lemmas.List.Elements.{All-head, All-push, All-tail, Contains-append_cases, Contains-append_left, Contains-append_right}
use Rattle.lethe_base.specs.Keys.{Bytes}
use Rattle.lethe_base.specs.Read.{is_between}
use Rattle.lethe_base.specs.declared.entry.Entry.{Entry}
use Rattle.lethe_file.specs.Between.{AreBetween}
use Rattle.lethe_file.proofs.Joined.{from_filter, in_filter}
use Rattle.lethe_tile.proofs.Orders.{all_left, all_right}
use Rattle.lethe_read.specs.Between.{AreReadBetween}
use Rattle.lethe_read.specs.Parts.{Adds}
use Rattle.lethe_read.proofs.Ranges.{entries_between}

pub Any-left : {X : Type 0} (P : X → Type 0) (xs ys : List X) → Any P xs → Any P (xs ++ ys)
Any-left P xs ys (k, x, lt, is, holds) = (k, x, omega (arith, length-append xs ys, lt), get_or_append_left xs ys x k lt ∙ is, holds)

pub Any-right : {X : Type 0} (P : X → Type 0) (xs ys : List X) → Any P ys → Any P (xs ++ ys)
Any-right P xs ys (k, x, lt, is, holds) = (length xs + k, x, omega (arith, length-append xs ys, lt), get_or-append-add xs ys k x ∙ is, holds)

pub Any-cases : {X : Type 0} (P : X → Type 0) (xs ys : List X) → Any P (xs ++ ys) → Any P xs ⊎ Any P ys
Any-cases P xs ys (k, x, lt, is, holds) =
    ⊎_elim (λ inside. inl (k, x, inside, sym (get_or_append_left xs ys x k inside) ∙ is, holds))
    (λ past. let back : length xs + (k - length xs) ≡ k = omega (arith, past) in
    inr (k - length xs, x, omega (arith, length-append xs ys, lt, past), sym (get_or-append-add xs ys (k - length xs) x) ∙ ap (λ n. get_or (xs ++ ys) n x) back ∙ is, holds))
    (cases_lt k (length xs))

pub none_of : {X : Type 0} (P : X → Type 0) → Any P [] → ⊥
none_of P (k, x, lt, is, holds) = omega (arith, lt)

pub only_of : {X : Type 0} (P : X → Type 0) (x : X) → Any P (x ∷ []) → P x
only_of P x (zero, y, lt, is, holds) = subst P (sym is) holds
only_of P x (suc k, y, lt, is, holds) = absurd (omega (arith, lt))

-- what is left of parts with one more behind them
pub left_with : {C : Type 0} (left : C → List Entry) (parts : List C) (part : C) → flat_map left (parts ++ part ∷ []) ≡ flat_map left parts ++ left part
left_with left parts part = flat_map-append left parts (part ∷ []) ∙ ap (λ l. flat_map left parts ++ l) (append-nil (left part))

-- one of the files' pages has the entry
abbrev Has : Entry → List (List Entry) → Type 0
Has entry file = Any (λ page. Contains page entry) file

module _ {C F : Type 0} (tells : Type 0) (sound : C → Type 0) (left : C → List Entry) (agrees : F → Type 0) (entries_of : F → List (List Entry)) (lo hi : Bytes) where
  abbrev AddsHere : List F → List C → List C → Type 0
  AddsHere = Adds tells sound left agrees entries_of lo hi

  pub adds_none : (parts : List C) → AddsHere [] parts parts
  adds_none parts = record {
    sound_too = λ told agree all. all;
    besides = λ agree entry. (λ has. inl has, ⊎_elim (λ has. has) (λ both. absurd (none_of (Has entry) both.0)));
  }

  -- a part more that has nothing
  pub adds_nothing : (files : List F) (old new wider : List C) (part : C) → wider ≡ new ++ part ∷ [] → left part ≡ [] → (tells → sound part) → AddsHere files old new → AddsHere files old wider
  adds_nothing files old new wider part is none sounds adds =
      let same : flat_map left wider ≡ flat_map left new = ap (flat_map left) is ∙ left_with left new part ∙ ap (λ l. flat_map left new ++ l) none ∙ append-nil (flat_map left new) in
      record {
        sound_too = λ told agree all. subst (All sound) (sym is) (All-push sound new part (adds.sound_too told agree all) (sounds told));
        besides = λ agree entry. (
          λ has. (adds.besides agree entry).0 (subst (λ l. Contains l entry) same has),
          λ either. subst (λ l. Contains l entry) (sym same) ((adds.besides agree entry).1 either),
        );
      }

  -- one file more in front of the others, whose entries of the range are these
  pub adds_file : (file : F) (files : List F) (old mid new : List C) (own : List Entry) → AddsHere files old mid → (agrees file → AreBetween lo (Some hi) (entries_of file) own)
      → ((entry : Entry) → Contains (flat_map left new) entry ↔ (Contains (flat_map left mid) entry ⊎ Contains own entry)) → (tells → All agrees (file ∷ files) → All sound mid → All sound new)
      → AddsHere (file ∷ files) old new
  adds_file file files old mid new own adds between more sounds = record {
    sound_too = λ told agree all. sounds told agree (adds.sound_too told (All-tail agrees file files agree) all);
    besides = λ agree entry.
        let before = adds.besides (All-tail agrees file files agree) entry in
        let here = (between (All-head agrees file files agree)).each entry in
        let first = entries_of file ∷ [] in
        let others = map entries_of files in (
          λ has. ⊎_elim (λ earlier. ⊎_elim (λ oldest. inl oldest) (λ filed. inr (Any-right (Has entry) first others filed.0, filed.1)) (before.0 earlier))
              (λ its. let both = here.0 its in inr (Any-left (Has entry) first others (0, entries_of file, omega arith, refl, both.0), both.1)) ((more entry).0 has),
          λ either. (more entry).1 (⊎_elim (λ oldest. inl (before.1 (inl oldest)))
              (λ filed. ⊎_elim (λ its. inr (here.1 (only_of (Has entry) (entries_of file) its, filed.1))) (λ rest. inl (before.1 (inr (rest, filed.1)))) (Any-cases (Has entry) first others filed.0))
              either),
        );
  }

  pub adds_more : (xs ys : List F) (a b c : List C) → AddsHere xs a b → AddsHere ys b c → AddsHere (xs ++ ys) a c
  adds_more xs ys a b c first second = record {
    sound_too = λ told agree all. second.sound_too told (all_right agrees xs ys agree) (first.sound_too told (all_left agrees xs ys agree) all);
    besides = λ agree entry.
        let one = first.besides (all_left agrees xs ys agree) entry in
        let two = second.besides (all_right agrees xs ys agree) entry in
        let joins : map entries_of (xs ++ ys) ≡ map entries_of xs ++ map entries_of ys = map-append entries_of xs ys in (
          λ has. ⊎_elim
              (λ before. ⊎_elim (λ earlier. inl earlier) (λ here. inr (subst (Any (Has entry)) (sym joins) (Any-left (Has entry) (map entries_of xs) (map entries_of ys) here.0), here.1)) (one.0 before))
              (λ here. inr (subst (Any (Has entry)) (sym joins) (Any-right (Has entry) (map entries_of xs) (map entries_of ys) here.0), here.1))
              (two.0 has),
          λ either. two.1 (⊎_elim (λ earlier. inl (one.1 (inl earlier)))
              (λ here. ⊎_elim (λ there. inl (one.1 (inr (there, here.1)))) (λ there. inr (there, here.1)) (Any-cases (Has entry) (map entries_of xs) (map entries_of ys) (subst (Any (Has entry)) joins here.0)))
              either),
        );
  }

  module _ {S : Type 0} (files_of : List S → List F) (joins : (xs ys : List S) → files_of (xs ++ ys) ≡ files_of xs ++ files_of ys) (items : List S) where
    -- one item more
    pub adds_next : (i : ℕ) (item : S) → i < length items → item ≡ get_or items i item → (a b c : List C) → AddsHere (files_of (take i items)) a b → AddsHere (files_of (item ∷ [])) b c → AddsHere (files_of (take (i + 1) items)) a c
    adds_next i item inside item_is a b c first second =
        let one_more : files_of (take (i + 1) items) ≡ files_of (take i items) ++ files_of (item ∷ []) =
        ap files_of (take_more items i item inside ∙ ap (λ (s : S). take i items ++ s ∷ []) (sym item_is)) ∙ joins (take i items) (item ∷ []) in
        subst (λ (l : List F). AddsHere l a c) (sym one_more) (adds_more (files_of (take i items)) (files_of (item ∷ [])) a b c first second)

    pub adds_all : (i : ℕ) (a b : List C) → length items ≤ i → AddsHere (files_of (take i items)) a b → AddsHere (files_of items) a b
    adds_all i a b past adds = subst (λ (l : List S). AddsHere (files_of l) a b) (take_all i items past) adds

  -- one level more
  pub adds_level : (levels : List (List F)) (level : ℕ) (files : List F) → level < length levels → files ≡ get_or levels level files → (a b c : List C) → AddsHere (flat_map (λ l. l) (take level levels)) a b → AddsHere files b c → AddsHere (flat_map (λ l. l) (take (level + 1) levels)) a c
  adds_level levels level files inside is a b c first second =
      adds_next (flat_map (λ l. l)) (flat_map-append (λ l. l)) levels level files inside is a b c first (subst (λ l. AddsHere l b c) (sym (append-nil files)) second)

  -- the buffers' parts and then the files'
  pub all_read : (active frozen : List Entry) (files : List F) (a b : List C) → AreReadBetween lo hi active frozen [] (flat_map left a) → AddsHere files a b → All agrees files
      → AreReadBetween lo hi active frozen (map entries_of files) (flat_map left b)
  all_read active frozen files a b first adds agree entry =
      let buffers = first entry in
      let more = adds.besides agree entry in (
        λ has. ⊎_elim (λ before. let both = buffers.0 before in (⊎_elim (λ here. inl here) (λ none. absurd (none_of (Has entry) none)) both.0, both.1))
            (λ here. (inr here.0, here.1)) (more.0 has),
        λ both. more.1 (⊎_elim (λ here. inl (buffers.1 (inl here, both.1))) (λ here. inr (here, both.1)) both.0),
      )

-- the entries of the buffers
pub buffers_read : (lo hi : Bytes) (active frozen : List Entry) → AreReadBetween lo hi active frozen [] (entries_between lo hi active ++ entries_between lo hi frozen)
buffers_read lo hi active frozen entry =
    let within = λ (e : Entry). is_between lo hi e.key in (
      λ has. ⊎_elim (λ first. let both = from_filter within active entry first in (inl (inl both.0), both.1)) (λ second. let both = from_filter within frozen entry second in (inl (inr both.0), both.1))
          (Contains-append_cases (entries_between lo hi active) (entries_between lo hi frozen) entry has),
      λ both. ⊎_elim
          (λ here. ⊎_elim (λ first. Contains-append_left (entries_between lo hi active) (entries_between lo hi frozen) entry (in_filter within active entry first both.1))
          (λ second. Contains-append_right (entries_between lo hi active) (entries_between lo hi frozen) entry (in_filter within frozen entry second both.1)) here)
          (λ none. absurd (none_of (Has entry) none)) both.0,
    )
