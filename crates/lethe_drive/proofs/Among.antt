-- A job of an earlier round or a pin of the run, by its place among the others.
use Rattle.std.proofs.Common.{◌≡◌, ◌≢◌, ◌≤◌, ◌<◌, ℕ, ◌+◌, Bool, true, false, cond, List, ◌∷◌, ◌++◌, length, All, Option, Some, None, get_or, set, take, drop, refl, sym, ap, ◌∙◌, arith}
use Rattle.std.specs.Prelude.{◌==◌, if◌then◌else◌, nat_lt, position}
use Rattle.std.specs.List.{position_or_len}
use Rattle.std.proofs.lemmas.Bool.{eq-eqb, eqb-true, ltb-false}
use Rattle.std.proofs.lemmas.List.Quantifiers.{position-Some}
use Rattle.std.proofs.lemmas.List.Sums.{fails_before_first}
use Rattle.std.proofs.lemmas.Option.{none-some}
use Rattle.std.proofs.lemmas.List.{drop-set, drop_more, get_or_at, get_or_default, length-take-le, take-append-drop, take-set}
use Rattle.lethe_base.specs.declared.refused.Refused.{Refused}
use Rattle.lethe_drive.specs.Past.{refusal_of, refused_as}
use Rattle.lethe_drive.specs.declared.event.Reply.{Reply}
use Rattle.lethe_drive.specs.declared.event.Reply.TheVariants as reply
use Rattle.lethe_drive.specs.declared.past.Past.{Past}

-- the answer where it was to go on
module _ (stopped : Option ℕ) (now : ℕ) (job : Past) where
  pub refused_again : job.refused ≡ true → reply.NoSuch ≡ refused_as stopped now job
  refused_again is = sym (ap (λ b. if b then reply.NoSuch else reply.Refused (refusal_of stopped job.round now)) is)

  pub refused_first : (why : Refused) → job.refused ≡ false → why ≡ refusal_of stopped job.round now → reply.Refused why ≡ refused_as stopped now job
  refused_first why is told = ap reply.Refused told ∙ sym (ap (λ b. if b then reply.NoSuch else reply.Refused (refusal_of stopped job.round now)) is)

-- what stands before a place, and behind it
module _ {A : Type 0} (items : List A) (place : ℕ) (within : place < length items) where
  abbrev pub front : List A
  front = take place items

  abbrev pub back : List A
  back = drop (place + 1) items

  pub front_len : length front ≡ place
  front_len = length-take-le place items (omega (arith, within))

  module _ (item : A) (is : item ≡ get_or items place item) where
    pub among : items ≡ front ++ item ∷ back
    among = sym (take-append-drop place items) ∙ ap (λ l. front ++ l) (drop_more items place item within) ∙ ap (λ item. front ++ item ∷ back) (sym is)

    -- it was taken out
    pub gone_at : (left : List A) → left ≡ front ++ back → (front back : List A) × (item : A) × (length front ≡ place) × (items ≡ front ++ item ∷ back) × (left ≡ front ++ back)
    gone_at left gone = (front, back, item, front_len, among, gone)

module _ (past : List Past) (place : ℕ) (within : place < length past) (job : Past) (is : job ≡ get_or past place job) (lent : Past) (lent_is : lent ≡ get_or past place lent) where
  abbrev first : List Past
  first = front past place within

  abbrev rest : List Past
  rest = back past place within

  set_among : set past place (record lent { refused = true }) ≡ first ++ record job { refused = true } ∷ rest
  set_among =
      let same : lent ≡ job = lent_is ∙ get_or_default past place lent job within ∙ sym is in
      sym (take-append-drop place (set past place (record lent { refused = true })))
      ∙ (λ i. take-set past place (record lent { refused = true }) i ++ drop-set past place (record lent { refused = true }) within i)
      ∙ ap (λ (job : Past). first ++ record job { refused = true } ∷ rest) same

  -- it was refused
  pub refused_at : (stopped : Option ℕ) (now : ℕ) (answer : Reply) → answer ≡ refused_as stopped now job
      → (front back : List Past) × (job : Past) × (length front ≡ place) × (past ≡ front ++ job ∷ back) × (set past place (record lent { refused = true }) ≡ front ++ record job { refused = true } ∷ back)
      × (answer ≡ refused_as stopped now job)
  refused_at stopped now answer told = (first, rest, job, front_len past place within, among past place within job is, set_among, told)

-- By its number

-- the place of none is beyond the last
beyond : (place len : ℕ) → cond (nat_lt place len) (Some place) None ≡ None → len ≤ place
beyond place len = by (nat_lt place len) refl
  where
    by : (b : Bool) → nat_lt place len ≡ b → cond b (Some place) None ≡ None → len ≤ place
    by true is none = absurd (none-some place (sym none))
    by false is none = ltb-false place len is

module _ {A : Type 0} (key : A → ℕ) (number : ℕ) (items : List A) where
  abbrev named : A → Bool
  named item = key item == number

  module _ (seen : List A) (same : seen ≡ items) (found : Option ℕ) (first : found ≡ position named seen) where
    found_is : found ≡ position named items
    found_is = first ∙ ap (position named) same

    -- there is none
    pub none_named : found ≡ None → All (λ item. key item ≢ number) items
    none_named none = λ k d lt same.
        let far = beyond (position_or_len named items) (length items) (sym found_is ∙ none) in
        let fails : named (get_or items k d) ≡ false = fails_before_first named items k d (omega (arith, far, lt)) in
        let both : true ≡ false = sym (eq-eqb (key (get_or items k d)) number same) ∙ fails in
        cc

    -- the one at the first place has it
    pub number_at : (place : ℕ) → found ≡ Some place → (front back : List A) (item : A) → length front ≡ place → items ≡ front ++ item ∷ back → key item ≡ number
    number_at place is front back item len among =
        let got : get_or items place item ≡ item = ap (λ l. get_or l place item) among ∙ get_or_at front item back item place len in
        eqb-true (key item) number (sym (ap named got) ∙ (position-Some named items place item (sym found_is ∙ is)).1)
