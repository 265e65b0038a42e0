-- Where no sweep is overdue at a time and no record is as old as level 0 may have it, no erase that is still to be done is a threshold old.
use Rattle.std.proofs.Common.{◌≡◌, inl, inr, ℕ, ◌+◌, ◌<◌, ◌≤◌, Bool, true, false, cond, nat_le, if◌then◌else◌, List, [], ◌∷◌, ◌++◌, map, AllPairs, Contains, Option, Some, None, refl, sym, ap, ◌∙◌, subst, arith}
use Rattle.std.specs.List.{cons_option}
use Rattle.std.specs.Prelude.{filter_map}
use Rattle.std.proofs.lemmas.Bool.{cases_lt, leb-false}
use Rattle.std.proofs.lemmas.Bool.Decides.{nat_tests}
use Rattle.std.proofs.lemmas.List.Elements.{Contains-append_cases}
use Rattle.std.proofs.lemmas.List.Kept.{AllPairs-filter}
use Rattle.lethe_base.specs.History.{History}
use Rattle.lethe_base.specs.Layout.{Layout, File, Record, Written, Blind, Erasing, files_of, frozen_records, place_of}
use Rattle.lethe_base.specs.Shapes.{earlier, facts_from, is_tomb}
use Rattle.lethe_base.specs.Spent.{done_upto, is_above, least, left_erases, put_place}
use Rattle.lethe_base.specs.declared.entry.Body.{Body}
use Rattle.lethe_base.specs.declared.entry.Body.TheVariants as body
use Rattle.lethe_base.specs.declared.pending.Pending.{Pending}
use Rattle.lethe_base.proofs.LayoutLaws.{none_in}
use Rattle.lethe_base.proofs.Newest.{first_is, first_or_rest}
use Rattle.lethe_cover.proofs.Common.{⊎_elim}
use Rattle.lethe_cover.proofs.Lists.{all_from, in_rest, map_from, pairs_from}
use Rattle.lethe_fade.specs.Candidates.{Candidate}
use Rattle.lethe_fade.specs.Due.{is_overdue, overdue_sweeps}
use Rattle.lethe_fade.specs.LevelTimes.{level_deadline}
use Rattle.lethe_fade.specs.Sweeps.{sweeps_from, sweeps_of}
use Rattle.lethe_segment.specs.declared.record.Record.TheVariants as of
use Rattle.lethe_stored.specs.Kept.{IsFor}
use Rattle.lethe_stored.specs.Stored.{Stored, layout_of, pending_of}
use Rattle.lethe_stored.proofs.Leveled.{from_filter}
use Rattle.lethe_stored.proofs.Meanings.{plain_place}
use Rattle.lethe_follows.specs.Young.{AreLaterRecorded, AreLeftYoung, AreYoung, due_shape}
use Rattle.lethe_follows.proofs.Behind.{laid_out, pending_recorded, stored_record}
use Rattle.lethe_follows.proofs.Expired.{all_swept}

-- What keeps an erase from being done

-- a place above the least of some is above one of them
above_one : (places : List ℕ) (place : ℕ) → is_above (least places) place ≡ true → (bound : ℕ) × Contains places bound × (bound < place)
above_one [] place is = absurd (let clash : false ≡ true = is in cc)
above_one (first ∷ places) place is = by (least places) (above_one places place) is
  where
    here : first < place → (bound : ℕ) × Contains (first ∷ places) bound × (bound < place)
    here below = (first, first_is first places first refl, below)

    by : (o : Option ℕ) → (is_above o place ≡ true → (bound : ℕ) × Contains places bound × (bound < place)) → is_above (earlier (Some first) o) place ≡ true
        → (bound : ℕ) × Contains (first ∷ places) bound × (bound < place)
    by None behind is = here (grind (arith, nat_tests))
    by (Some other) behind is = elim (cases_lt first place) [
      | inl below ↦ here below
      | inr upto ↦ let found = behind (grind (arith, nat_tests)) in (found.0, in_rest first places found.0 found.1, found.2)
    ]

-- one of the records has the place
abbrev HasPlace : List Record → ℕ → Type 0
HasPlace records place = (r : Record) × Contains records r × (place_of r ≡ place)

in_later : (first : Record) (records : List Record) (place : ℕ) → HasPlace records place → HasPlace (first ∷ records) place
in_later first records place found = (found.0, in_rest first records found.0 found.1, found.2)

-- the place of a put is that of its record
put_recorded : (records : List Record) (place : ℕ) → Contains (filter_map put_place records) place → HasPlace records place
put_recorded [] place there = absurd (none_in place there)
put_recorded (Written entry ∷ records) place there = by entry.body (put_recorded records place) there
  where
    by : (b : Body) → (Contains (filter_map put_place records) place → HasPlace records place)
        → Contains (cons_option (if is_tomb b then None else Some entry.seq) (filter_map put_place records)) place → HasPlace (Written entry ∷ records) place
    by (body.Put dkey value) behind there = ⊎_elim (λ same. (Written entry, first_is (Written entry) records (Written entry) refl, same))
        (λ rest. in_later (Written entry) records place (behind rest)) (first_or_rest entry.seq (filter_map put_place records) place there)
    by body.Tomb behind there = in_later (Written entry) records place (behind there)
put_recorded (Blind at ∷ records) place there = in_later (Blind at) records place (put_recorded records place there)
put_recorded (Erasing erase ∷ records) place there = in_later (Erasing erase) records place (put_recorded records place there)

-- What is stored

abbrev IsNoLater : Pending → Pending → Type 0
IsNoLater a b = a.time ≤ b.time

module _ (h : History) (s : Stored) (stands : IsFor h s) (recorded : AreLaterRecorded s) (to : ℕ)
    (none : overdue_sweeps s.manifest.config to (due_shape (layout_of s)) ≡ []) (young : AreYoung s to) (least_time : level_deadline s.manifest.config 0 ≤ s.manifest.config.threshold)
  where
    abbrev l : Layout
    l = layout_of s

    abbrev threshold : ℕ
    threshold = s.manifest.config.threshold

    abbrev swept_places : List ℕ
    swept_places = map (λ (file : File). file.swept) (files_of l)

    abbrev records : List Record
    records = l.active ++ frozen_records l

    -- one that no file waits for is left because of a put in a segment, and a segment records it too
    waiting_young : (erase : Pending) → Contains (left_erases l) erase → ((file : File) → Contains (files_of l) file → erase.seq ≤ file.swept) → to < erase.time + threshold
    waiting_young erase there swept =
        let found = from_filter (λ (e : Pending). is_above (done_upto l) e.seq) (pending_of s) erase there in
        let bound = above_one (swept_places ++ filter_map put_place records) erase.seq found.1 in
        ⊎_elim
        (λ filed.
        let file = map_from (λ (file : File). file.swept) (files_of l) bound.0 filed in
        let upto = swept file.0 file.1 in
        absurd (omega (arith, upto, file.2, bound.2)))
        (λ put.
        let r = put_recorded records bound.0 put in
        let before = stored_record s r.0 (Contains-append_cases l.active (frozen_records l) r.0 r.1) in
        let place = plain_place before.0 in
        let behind = pending_recorded s recorded before.0 erase before.1 found.0 (omega (arith, r.2, bound.2, place, ap place_of before.2)) in
        let fresh = young (Erasing erase) erase.time (laid_out s (of.Erase erase) behind) refl in
        omega (arith, fresh, least_time))
        (Contains-append_cases swept_places (filter_map put_place records) bound.0 bound.1)

    first_young : (erase : Pending) (later : List Pending) → left_erases l ≡ erase ∷ later → to < erase.time + threshold
    first_young erase later is = by (nat_le (erase.time + threshold) to) refl
      where
        sweeps_due : List Pending → List Candidate
        sweeps_due erases = cond (is_overdue s.manifest.config to erases) (sweeps_of erases (facts_from 0 l.levels)) []

        sweeps_if : Bool → List Candidate
        sweeps_if b = cond b (sweeps_from erase.seq 0 (facts_from 0 l.levels)) []

        by : (b : Bool) → nat_le (erase.time + threshold) to ≡ b → to < erase.time + threshold
        by false early = leb-false (erase.time + threshold) to early
        by true over =
            let empty : sweeps_if true ≡ [] = sym (ap sweeps_if over) ∙ (sym (ap sweeps_due is) ∙ none) in
            waiting_young erase (subst (λ erases. Contains erases erase) (sym is) (first_is erase later erase refl)) (all_swept erase.seq 0 l.levels empty)

    times_rise : AllPairs IsNoLater (left_erases l)
    times_rise = let shape = stands.shape in AllPairs-filter IsNoLater (λ (e : Pending). is_above (done_upto l) e.seq) (pending_of s) shape.times

    pub erases_young : AreLeftYoung s to
    erases_young = all_from (λ (erase : Pending). to < erase.time + threshold) (left_erases l) (by (left_erases l) refl)
      where
        by : (erases : List Pending) → left_erases l ≡ erases → (erase : Pending) → Contains erases erase → to < erase.time + threshold
        by [] is erase there = absurd (none_in erase there)
        by (first ∷ later) is erase there =
            let fresh = first_young first later is in
            let times = pairs_from IsNoLater (first ∷ later) (subst (AllPairs IsNoLater) is times_rise) in
            ⊎_elim (λ (same : first ≡ erase). subst (λ (e : Pending). to < e.time + threshold) same fresh) (λ rest. let up = times.0 erase rest in omega (arith, fresh, up))
            (first_or_rest first later erase there)
