-- What an outcome takes away and brings, level by level, and what stands around it.
use Rattle.std.proofs.Common.{◌≡◌, ◌⊎◌, inl, inr, ℕ, ◌<◌, Bool, List, [], ◌∷◌, ◌++◌, refl, sym, ap, ◌∙◌, subst}
use Rattle.std.specs.Prelude.{Contains, filter}
use Rattle.std.proofs.lemmas.List.Elements.{Contains-append_left, Contains-append_right, filter-append}
use Rattle.lethe_cover.proofs.Common.{⊎_elim, first_is, none_in}
use Rattle.lethe_cover.proofs.Lists.{in_rest, swapped}
use Rattle.lethe_fade.specs.Claims.{HasLevel, keys_of}
use Rattle.lethe_fade.specs.Spans.{KeyRange}
use Rattle.lethe_fade.specs.declared.claim.Claim.{Claim}
use Rattle.lethe_follows.specs.Merged.{at, range_of}
use Rattle.lethe_moves.specs.Files.{IsClearOf}
use Rattle.lethe_moves.proofs.KeyOrder.{IsUpto, Spans}
use Rattle.lethe_stored.specs.Files.{StoredFile, file_of}

-- a file of a level that is claimed, with keys that are
abbrev pub IsClaimed : Claim → ℕ → StoredFile → Type 0
IsClaimed claim level file = HasLevel claim level × Spans (keys_of claim) (range_of file)

-- in a level files came in the place of others, within the claim
pub record IsSwapAt (claim : Claim) (was now : List StoredFile) (level : ℕ) : Type 0 where
  pub before : List StoredFile
  pub gone : List StoredFile
  pub made : List StoredFile
  pub behind : List StoredFile
  pub was_is : at level was ≡ before ++ (gone ++ behind)
  pub now_is : at level now ≡ before ++ (made ++ behind)
  pub gone_in : (file : StoredFile) → Contains gone file → IsClaimed claim level file
  pub made_in : (file : StoredFile) → Contains made file → IsClaimed claim level file
  -- where some come to level 0, some went
  pub top : level ≡ 0 → ((gone ≡ []) × (made ≡ [])) ⊎ ((first : StoredFile) × Contains gone first)
  -- what came is clear of keys that all was clear of in the levels that are claimed
  pub clear : (keys : KeyRange) → IsUpto keys.lo keys.hi → (above : ℕ) → above < claim.first
      → ((file : StoredFile) → Contains was file → above < file.level → IsClearOf keys (file_of file)) → (file : StoredFile) → Contains made file → IsClearOf keys (file_of file)

-- Lists

module _ {X : Type 0} where
  head_same : (x y : X) (xs ys : List X) → x ∷ xs ≡ y ∷ ys → x ≡ y
  head_same x y xs ys same = cc

  tail_same : (x y : X) (xs ys : List X) → x ∷ xs ≡ y ∷ ys → xs ≡ ys
  tail_same x y xs ys same = cc

  none_inside : (xs : List X) (y : X) (ys : List X) → [] ≡ xs ++ (y ∷ ys) → ⊥
  none_inside xs y ys same = none_in y (subst (λ l. Contains l y) (sym same) (Contains-append_right xs (y ∷ ys) y (first_is y ys y refl)))

  -- the other items are the same where what goes and what comes doesn't pass
  pub filter_swap : (p : X → Bool) (before gone made behind : List X) → filter p gone ≡ [] → filter p made ≡ [] → filter p (before ++ (made ++ behind)) ≡ filter p (before ++ (gone ++ behind))
  filter_swap p before gone made behind none_gone none_made =
      filter-append p before (made ++ behind)
      ∙ ap (λ l. filter p before ++ l) (filter-append p made behind ∙ ap (λ l. l ++ filter p behind) (none_made ∙ sym none_gone) ∙ sym (filter-append p gone behind))
      ∙ sym (filter-append p before (gone ++ behind))

  -- behind items of which none is one of the last ones these still stand
  pub suffix_behind : (before gone behind front last : List X) → front ++ last ≡ before ++ (gone ++ behind) → (first : X) → Contains gone first → ((x : X) → Contains gone x → Contains last x → ⊥)
      → (middle : List X) × (behind ≡ middle ++ last)
  suffix_behind (x ∷ before) gone behind [] last same first there apart =
      absurd (apart first there (subst (λ l. Contains l first) (sym same) (Contains-append_right (x ∷ before) (gone ++ behind) first (Contains-append_left gone behind first there))))
  suffix_behind (x ∷ before) gone behind (y ∷ front) last same first there apart = suffix_behind before gone behind front last (tail_same y x (front ++ last) (before ++ (gone ++ behind)) same) first there apart
  suffix_behind [] [] behind front last same first there apart = absurd (none_in first there)
  suffix_behind [] (g ∷ gone) behind [] last same first there apart = absurd (apart g (first_is g gone g refl) (subst (λ l. Contains l g) (sym same) (first_is g (gone ++ behind) g refl)))
  suffix_behind [] (g ∷ []) behind (y ∷ front) last same first there apart = (front, sym (tail_same y g (front ++ last) behind same))
  suffix_behind [] (g ∷ (h ∷ gone)) behind (y ∷ front) last same first there apart =
      suffix_behind [] (h ∷ gone) behind front last (tail_same y g (front ++ last) ((h ∷ gone) ++ behind) same) h (first_is h gone h refl) (λ x inside. apart x (in_rest g (h ∷ gone) x inside))

  -- behind items that aren't it, the item stands as it did
  skipped : (xs behind front : List X) (x : X) (last : List X) → xs ++ behind ≡ front ++ (x ∷ last) → (Contains xs x → ⊥)
      → (rest : List X) × (behind ≡ rest ++ (x ∷ last)) × ((y : X) → Contains rest y → Contains front y)
  skipped [] behind front x last same apart = (front, same, λ y there. there)
  skipped (first ∷ xs) behind [] x last same apart = absurd (apart (first_is first xs x (head_same first x (xs ++ behind) last same)))
  skipped (first ∷ xs) behind (y ∷ front) x last same apart =
      let more = skipped xs behind front x last (tail_same first y (xs ++ behind) (front ++ (x ∷ last)) same) (λ inside. apart (in_rest first xs x inside)) in
      (more.0, more.1, λ z there. in_rest y front z (more.2 z there))

  -- behind the first of an item stands the same
  behind_same : (front other : List X) (x : X) (last others : List X) → front ++ (x ∷ last) ≡ other ++ (x ∷ others) → (Contains front x → ⊥) → (Contains other x → ⊥) → last ≡ others
  behind_same [] [] x last others same one two = tail_same x x last others same
  behind_same [] (y ∷ other) x last others same one two = absurd (two (first_is y other x (sym (head_same x y last (other ++ (x ∷ others)) same))))
  behind_same (y ∷ front) [] x last others same one two = absurd (one (first_is y front x (head_same y x (front ++ (x ∷ last)) others same)))
  behind_same (y ∷ front) (z ∷ other) x last others same one two =
      behind_same front other x last others (tail_same y z (front ++ (x ∷ last)) (other ++ (x ∷ others)) same) (λ inside. one (in_rest y front x inside)) (λ inside. two (in_rest z other x inside))

  -- behind an item that stays stands nothing but what stood there and what came
  pub behind_swap : (before gone made behind front last front' last' : List X) (x : X) → before ++ (gone ++ behind) ≡ front ++ (x ∷ last) → before ++ (made ++ behind) ≡ front' ++ (x ∷ last')
      → (Contains gone x → ⊥) → (Contains made x → ⊥) → (Contains front x → ⊥) → (Contains front' x → ⊥) → (y : X) → Contains last' y → Contains last y ⊎ Contains made y
  behind_swap [] gone made behind front last front' last' x was now no_gone no_made once once' y there =
      let one = skipped gone behind front x last was no_gone in
      let two = skipped made behind front' x last' now no_made in
      let same : last' ≡ last = behind_same two.0 one.0 x last' last (sym two.1 ∙ one.1) (λ inside. once' (two.2 x inside)) (λ inside. once (one.2 x inside)) in
      inl (subst (λ l. Contains l y) same there)
  behind_swap (b ∷ before) gone made behind [] last [] last' x was now no_gone no_made once once' y there =
      let old : before ++ (gone ++ behind) ≡ last = tail_same b x (before ++ (gone ++ behind)) last was in
      let new : before ++ (made ++ behind) ≡ last' = tail_same b x (before ++ (made ++ behind)) last' now in
      ⊎_elim (λ stays. inl (subst (λ l. Contains l y) old stays)) (λ came. inr came) (swapped before made gone behind y (subst (λ l. Contains l y) (sym new) there))
  behind_swap (b ∷ before) gone made behind [] last (z ∷ front') last' x was now no_gone no_made once once' y there =
      let same : b ≡ x = head_same b x (before ++ (gone ++ behind)) last was in
      let other : b ≡ z = head_same b z (before ++ (made ++ behind)) (front' ++ (x ∷ last')) now in
      absurd (once' (first_is z front' x (sym other ∙ same)))
  behind_swap (b ∷ before) gone made behind (z ∷ front) last [] last' x was now no_gone no_made once once' y there =
      let same : b ≡ x = head_same b x (before ++ (made ++ behind)) last' now in
      let other : b ≡ z = head_same b z (before ++ (gone ++ behind)) (front ++ (x ∷ last)) was in
      absurd (once (first_is z front x (sym other ∙ same)))
  behind_swap (b ∷ before) gone made behind (z ∷ front) last (z' ∷ front') last' x was now no_gone no_made once once' y there =
      behind_swap before gone made behind front last front' last' x
      (tail_same b z (before ++ (gone ++ behind)) (front ++ (x ∷ last)) was) (tail_same b z' (before ++ (made ++ behind)) (front' ++ (x ∷ last')) now)
      no_gone no_made (λ inside. once (in_rest z front x inside)) (λ inside. once' (in_rest z' front' x inside)) y there
