-- The smaller of two times, and the least of the erases that match a put.
use Rattle.std.proofs.Common.{◌≡◌, ◌+◌, ◌<◌, ℕ, Bool, true, false, cond, List, [], ◌∷◌, length, drop, get_or, min, Option, Some, None, refl, sym, ap, ◌∙◌, arith, is_some, ◌||◌}
use Rattle.std.specs.List.{list_any}
use Rattle.std.proofs.lemmas.List.{at_drop_more}
use Rattle.lethe_base.specs.Matching.{matches}
use Rattle.lethe_base.specs.Shapes.{earlier}
use Rattle.lethe_base.specs.declared.entry.Body.TheVariants.{Put, Tomb}
use Rattle.lethe_base.specs.declared.entry.Entry.{Entry}
use Rattle.lethe_base.specs.declared.pending.Pending.{Pending}
use Rattle.lethe_cover.specs.Merged.{body_under, since_under, struck, time_under}

pub earlier-none : (time : Option ℕ) → earlier time None ≡ time
earlier-none None = refl
earlier-none (Some time) = refl

pub earlier-assoc : (a b c : Option ℕ) → earlier (earlier a b) c ≡ earlier a (earlier b c)
earlier-assoc None b c = refl
earlier-assoc (Some a) None c = refl
earlier-assoc (Some a) (Some b) None = refl
earlier-assoc (Some a) (Some b) (Some c) = ap Some (let e : min (min a b) c ≡ min a (min b c) = omega arith in e)

-- the time of an erase, where it matches
abbrev pub time_of_one : Pending → ℕ → ℕ → Option ℕ
time_of_one erase seq dkey = cond (matches erase seq dkey) (Some erase.time) None

-- one erase more
pub time-more : (time : Option ℕ) (erases : List Pending) (seq dkey i : ℕ) (erase : Pending) → i < length erases → erase ≡ get_or erases i erase
    → earlier time (time_under (drop i erases) seq dkey) ≡ earlier (earlier time (time_of_one erase seq dkey)) (time_under (drop (i + 1) erases) seq dkey)
time-more time erases seq dkey i erase within is =
    at_drop_more (λ rest. earlier time (time_under rest seq dkey)) erases i erase within
    ∙ ap (λ (first : Pending). earlier time (earlier (time_of_one first seq dkey) (time_under (drop (i + 1) erases) seq dkey))) (sym is)
    ∙ sym (earlier-assoc time (time_of_one erase seq dkey) (time_under (drop (i + 1) erases) seq dkey))

-- there is a time exactly where an erase matches
pub time-any : (erases : List Pending) (seq dkey : ℕ) → list_any (λ erase. matches erase seq dkey) erases ≡ is_some (time_under erases seq dkey)
time-any [] seq dkey = refl
time-any (erase ∷ erases) seq dkey = by (matches erase seq dkey) (time_under erases seq dkey) (time-any erases seq dkey)
  where
    by : (t : Bool) (rest : Option ℕ) → list_any (λ erase. matches erase seq dkey) erases ≡ is_some rest
        → (t || list_any (λ erase. matches erase seq dkey) erases) ≡ is_some (earlier (cond t (Some erase.time) None) rest)
    by true None more = refl
    by true (Some other) more = refl
    by false rest more = more

module _ (erases : List Pending) (entry : Entry) (dkey : ℕ) (value : List ℕ) (is : entry.body ≡ Put dkey value) where
  abbrev time : Option ℕ
  time = time_under erases entry.seq dkey

  -- a put that an erase matches
  pub struck-some : (found : Option ℕ) (since : Option ℕ) → found ≡ time → is_some found ≡ true → since ≡ earlier entry.since found
      → (let made : Entry = record { seq = entry.seq; key = entry.key; body = Tomb; since = since } in made) ≡ struck erases entry
  struck-some found since same some e =
      let any = time-any erases entry.seq dkey ∙ ap is_some (sym same) ∙ some in
      let body : Tomb ≡ body_under erases entry.seq entry.body = sym (ap (body_under erases entry.seq) is ∙ ap (λ t. cond t Tomb (Put dkey value)) any) in
      let least : since ≡ since_under erases entry.seq entry.body entry.since = e ∙ ap (earlier entry.since) same ∙ sym (ap (λ b. since_under erases entry.seq b entry.since) is) in
      λ i. record { seq = entry.seq; key = entry.key; body = body i; since = least i }

  -- a put that none matches
  pub struck-none : (found : Option ℕ) → found ≡ time → is_some found ≡ false → entry ≡ struck erases entry
  struck-none found same none =
      let any = time-any erases entry.seq dkey ∙ ap is_some (sym same) ∙ none in
      let body : entry.body ≡ body_under erases entry.seq entry.body = is ∙ sym (ap (body_under erases entry.seq) is ∙ ap (λ t. cond t Tomb (Put dkey value)) any) in
      let least : entry.since ≡ since_under erases entry.seq entry.body entry.since =
      sym (earlier-none entry.since) ∙ ap (earlier entry.since) (sym (is_none found none) ∙ same) ∙ sym (ap (λ b. since_under erases entry.seq b entry.since) is) in
      λ i. record { seq = entry.seq; key = entry.key; body = body i; since = least i }
    where
      is_none : (o : Option ℕ) → is_some o ≡ false → o ≡ None
      is_none None at = refl
      is_none (Some time) at = absurd (let clash : true ≡ false = at in cc)
