-- Items that may each stand behind those before it, and reading so many of them.
use Rattle.std.proofs.Common.{◌≡◌, ℕ, zero, suc, ◌+◌, ◌<◌, List, [], ◌∷◌, ◌++◌, length, get_or, take, drop, flat_map, All, Result, Ok, ◌⊎◌, refl, sym, ap, subst, ◌∙◌, append_assoc, arith, inl, inr, length-append}
use Rattle.std.proofs.lemmas.Grind.{flat_map-append}
use Rattle.std.proofs.lemmas.List.{append-nil, take-append-drop, drop_more}
use Rattle.std.proofs.Math.Seq.{get_or-append_seam}
use Rattle.lethe_base.specs.Reading.{StandsAt}
use Rattle.lethe_base.specs.Results.{◌>>=◌}
use Rattle.lethe_base.proofs.FieldLaws.{stands_then, stands_parts}
use Rattle.lethe_base.proofs.ReadingSteps.{bind_ok, ok_is}
use Rattle.lethe_header.specs.Headers.{EachFollows}
use Rattle.lethe_header.specs.Reading.{all_at}
use Rattle.lethe_header.specs.declared.refused.HeaderRefused.{HeaderRefused}
use Rattle.lethe_header.proofs.Loop.{Reader}

-- what stands before and behind an item of a list that has one more at its end
split_last : {A : Type 0} (items before after : List A) (last item : A) → items ++ last ∷ [] ≡ before ++ item ∷ after → ((items ≡ before) × (last ≡ item)) ⊎ ((rest : List A) × (items ≡ before ++ item ∷ rest))
split_last [] [] after last item e = inl (refl, cc)
split_last [] (b ∷ bs) after last item e = absurd (omega (arith, ap length e, length-append bs (item ∷ after)))
split_last (x ∷ xs) [] after last item e = let same : x ≡ item = cc in inr (xs, ap (λ y. y ∷ xs) same)
split_last (x ∷ xs) (b ∷ bs) after last item e =
    let same : x ≡ b = cc in
    let tails : xs ++ last ∷ [] ≡ bs ++ item ∷ after = cc in
    elim (split_last xs bs after last item tails) [
      | inl h ↦ let heads : x ∷ xs ≡ b ∷ bs = ap (λ y. y ∷ xs) same ∙ ap (λ ys. b ∷ ys) h.0 in inl (heads, h.1)
      | inr h ↦ let heads : x ∷ xs ≡ b ∷ (bs ++ item ∷ h.0) = ap (λ y. y ∷ xs) same ∙ ap (λ ys. b ∷ ys) h.1 in inr (h.0, heads)
    ]

module _ {A : Type 0} (MayFollow : List A → A → Type 0) where
  pub follows_none : EachFollows MayFollow []
  follows_none before after item e = absurd (omega (arith, ap length e, length-append before (item ∷ after)))

  pub follows_one : (items : List A) (last : A) → EachFollows MayFollow items → MayFollow items last → EachFollows MayFollow (items ++ last ∷ [])
  follows_one items last each one before after item e =
      elim (split_last items before after last item e) [
        | inl h ↦ subst (MayFollow before) h.1 (subst (λ (l : List A). MayFollow l last) h.0 one)
        | inr h ↦ each before h.0 item h.1
      ]

  pub follows_at : (items : List A) (k : ℕ) (d : A) → EachFollows MayFollow items → k < length items → MayFollow (take k items) (get_or items k d)
  follows_at items k d each lt =
      each (take k items) (drop (k + 1) items) (get_or items k d)
      (sym (take-append-drop k items) ∙ ap (λ (l : List A). take k items ++ l) (drop_more items k d lt))

-- of each by itself
pub all_of : {A : Type 0} (P : A → Type 0) (items : List A) → EachFollows (λ before. P) items → All P items
all_of P items each k d lt = follows_at (λ before. P) items k d each lt

pub each_of : {A : Type 0} (P : A → Type 0) (items : List A) → All P items → EachFollows (λ before. P) items
each_of P items all before after item e =
    let there : length before < length items = omega (arith, ap length e, length-append before (item ∷ after)) in
    let is : get_or items (length before) item ≡ item = ap (λ l. get_or l (length before) item) e ∙ get_or-append_seam before item after item in
    subst P is (all (length before) item there)

-- ---- reading so many

-- what is read stands there and may stand behind those before it
abbrev pub Reads : {A : Type 0} → (List A → A → Type 0) → (A → List ℕ) → Reader A → List ℕ → Type 0
Reads {A = A} MayFollow spell read bytes = (before : List A) (at : ℕ) (x : A × ℕ) → read before bytes at ≡ Ok x → StandsAt (spell x.0) bytes at x.1 × MayFollow before x.0

-- what stands there and may stand behind those before it is read
abbrev pub ReadsAgain : {A : Type 0} → (List A → A → Type 0) → (A → List ℕ) → Reader A → List ℕ → Type 0
ReadsAgain {A = A} MayFollow spell read bytes = (before : List A) (at end : ℕ) (item : A) → MayFollow before item → StandsAt (spell item) bytes at end → read before bytes at ≡ Ok (item, end)

module _ {A : Type 0} (MayFollow : List A → A → Type 0) (spell : A → List ℕ) (read : Reader A) (bytes : List ℕ) where
  one_more : (items : List A) (item : A) (start mid end : ℕ) → StandsAt (flat_map spell items) bytes start mid → StandsAt (spell item) bytes mid end → StandsAt (flat_map spell (items ++ item ∷ [])) bytes start end
  one_more items item start mid end p q =
      let whole : flat_map spell (items ++ item ∷ []) ≡ flat_map spell items ++ spell item = flat_map-append spell items (item ∷ []) ∙ ap (λ l. flat_map spell items ++ l) (append-nil (spell item)) in
      subst (λ (l : List ℕ). StandsAt l bytes start end) (sym whole) (stands_then (flat_map spell items) (spell item) bytes start mid end p q)

  pub all_ok : Reads MayFollow spell read bytes → (n : ℕ) (items : List A) (start at : ℕ) (x : List A × ℕ) → EachFollows MayFollow items → StandsAt (flat_map spell items) bytes start at → all_at read n items bytes at ≡ Ok x
      → StandsAt (flat_map spell x.0) bytes start x.1 × EachFollows MayFollow x.0 × (length x.0 ≡ length items + n)
  all_ok reads zero items start at x each p e =
      let none : length items ≡ length items + 0 = omega arith in
      subst (λ (y : List A × ℕ). StandsAt (flat_map spell y.0) bytes start y.1 × EachFollows MayFollow y.0 × (length y.0 ≡ length items + 0)) {x = (items, at)} (ok_is (items, at) x e) (p, each, none)
  all_ok reads (suc n) items start at x each p e =
      let a = bind_ok (read items bytes at) (λ item. all_at read n (items ++ item.0 ∷ []) bytes item.1) x e in
      let item = a.0.0 in
      let one = reads items at a.0 a.1 in
      let rest = all_ok reads n (items ++ item ∷ []) start a.0.1 x (follows_one MayFollow items item each one.1) (one_more items item start at a.0.1 p one.0) a.2 in
      (rest.0, rest.1, rest.2 ∙ omega (arith, length-append items (item ∷ [])))

  pub all_again : ReadsAgain MayFollow spell read bytes → (rest done : List A) (at end : ℕ) → EachFollows MayFollow (done ++ rest) → StandsAt (flat_map spell rest) bytes at end → all_at read (length rest) done bytes at ≡ Ok (done ++ rest, end)
  all_again again [] done at end each p =
      let ends : at ≡ end = omega (arith, p.ends) in
      ap (λ (n : ℕ). let read : Result (List A × ℕ) HeaderRefused = Ok (done, n) in read) ends ∙ ap (λ (l : List A). let read : Result (List A × ℕ) HeaderRefused = Ok (l, end) in read) (sym (append-nil done))
  all_again again (r ∷ rs) done at end each p =
      let parts = stands_parts (spell r) (flat_map spell rs) bytes at end p in
      let first = again done at (at + length (spell r)) r (each done rs r refl) parts.0 in
      let one : done ++ r ∷ rs ≡ (done ++ r ∷ []) ++ rs = sym (append_assoc done (r ∷ []) rs) in
      let rest = all_again again rs (done ++ r ∷ []) (at + length (spell r)) end (subst (EachFollows MayFollow) one each) parts.1 in
      ap (λ (x : Result (A × ℕ) HeaderRefused). x >>= λ item. all_at read (length rs) (done ++ item.0 ∷ []) bytes item.1) first
      ∙ rest
      ∙ ap (λ (l : List A). let read : Result (List A × ℕ) HeaderRefused = Ok (l, end) in read) (sym one)
