-- The jobs of earlier rounds that are left, where one is refused or gone, and where they are given up one after another.
use Rattle.std.proofs.Common.{◌≡◌, ℕ, List, [], ◌∷◌, ◌++◌, length, All, map, Option, sym, ap, ◌∙◌, append-nil, append_assoc, arith}
use Rattle.std.proofs.lemmas.List.{map-append}
use Rattle.std.proofs.lemmas.List.Elements.{All-cons, All-head, All-tail}
use Rattle.lethe_drive.specs.Past.{given_up_as}
use Rattle.lethe_drive.specs.declared.event.Reply.{Reply}
use Rattle.lethe_drive.specs.declared.past.Past.{Past}

-- Where one is gone, or another in its place

module _ (P : Past → Type 0) (front back : List Past) (job : Past) where
  pub all_but : All P (front ++ job ∷ back) → All P (front ++ back)
  all_but = by front
    where
      by : (front : List Past) → All P (front ++ job ∷ back) → All P (front ++ back)
      by [] all = All-tail P job back all
      by (first ∷ front) all = All-cons P first (front ++ back) (All-head P first (front ++ job ∷ back) all) (by front (All-tail P first (front ++ job ∷ back) all))

  pub all_with : (next : Past) → (P job → P next) → All P (front ++ job ∷ back) → All P (front ++ next ∷ back)
  all_with next holds = by front
    where
      by : (front : List Past) → All P (front ++ job ∷ back) → All P (front ++ next ∷ back)
      by [] all = All-cons P next back (holds (All-head P job back all)) (All-tail P job back all)
      by (first ∷ front) all = All-cons P first (front ++ next ∷ back) (All-head P first (front ++ job ∷ back) all) (by front (All-tail P first (front ++ job ∷ back) all))

-- Given up one after another
module _ (stopped : Option ℕ) where
  abbrev pub given : List Past → List Reply
  given jobs = map (λ (job : Past). given_up_as stopped) jobs

  abbrev pub IsGivenUpTo : List Past → List Past → List Reply → List Reply → Type 0
  IsGivenUpTo all past first replies = (taken : List Past) × (all ≡ taken ++ past) × (replies ≡ first ++ given taken)

  pub given_on : (all past : List Past) (first replies : List Reply) → IsGivenUpTo all past first replies → (front back : List Past) (job : Past) → length front ≡ 0 → past ≡ front ++ job ∷ back → (left : List Past) → left ≡ front ++ back
      → (reply : Reply) → reply ≡ given_up_as stopped → (new : List Reply) → new ≡ replies ++ reply ∷ [] → IsGivenUpTo all left first new
  given_on all past first replies so_far [] back job len among left gone reply is new more =
      let taken = so_far.0 in (
        taken ++ job ∷ [],
        so_far.1 ∙ ap (λ l. taken ++ l) among ∙ sym (append_assoc taken (job ∷ []) back) ∙ ap (λ l. (taken ++ job ∷ []) ++ l) (sym gone),
        more ∙ ap (λ l. l ++ reply ∷ []) so_far.2 ∙ append_assoc first (given taken) (reply ∷ [])
            ∙ ap (λ l. first ++ l) (ap (λ (reply : Reply). given taken ++ reply ∷ []) is ∙ sym (map-append (λ (job : Past). given_up_as stopped) taken (job ∷ []))),
      )
  given_on all past first replies so_far (other ∷ front) back job len among left gone reply is new more = absurd (omega arith)

  -- and none is left
  pub given_all : (all past : List Past) (first replies : List Reply) → IsGivenUpTo all past first replies → length past ≡ 0 → replies ≡ first ++ given all
  given_all all [] first replies so_far none = so_far.2 ∙ ap (λ (jobs : List Past). first ++ given jobs) (sym (append-nil so_far.0) ∙ sym so_far.1)
  given_all all (job ∷ past) first replies so_far none = absurd (omega arith)
