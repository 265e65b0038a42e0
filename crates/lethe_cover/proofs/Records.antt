-- What a layout with one more record holds and shows.
use Rattle.std.proofs.Common.{◌≡◌, false, List, [], ◌∷◌, ◌++◌, fold, filter_map, Option, Some, None, refl, sym, ap, ◌∙◌, ◌⊎◌, inl, inr, ℕ, ◌+◌, ◌≤◌, length, Contains, subst, arith}
use Rattle.std.specs.FinMap as finmap
use Rattle.lethe_cover.proofs.Common.{Tells, filter_map-append, Contains-push_cases, nat_list_cmp_total, ⊎_elim, ⊎_map, Entry, Bytes, key_cmp, same_key, Record, Written, Blind, Erasing, Buffer, written, buffer_of, Layout, place_of, same_key-true, same_key-self, History, IsRecorded, Holds, InBuffer, Shows, IsNewestOf, IsNewerAbove, Covers, Pending, shown_held, followed, IsCounted}
use Rattle.std.proofs.lemmas.List.Sums.{fold-append}
use Rattle.lethe_cover.proofs.Grown.{placed_within}

abbrev insert : Buffer → Entry → Buffer
insert buffer entry = finmap.insert buffer entry.key entry

abbrev pub pushed : Buffer → Option Entry → Buffer
pushed buffer None = buffer
pushed buffer (Some entry) = insert buffer entry

pub buffer_push : (records : List Record) (r : Record) → buffer_of (records ++ r ∷ []) ≡ pushed (buffer_of records) (written r)
buffer_push records r = ap (fold insert finmap.empty) (filter_map-append written records (r ∷ []))
    ∙ fold-append insert finmap.empty (filter_map written records) (filter_map written (r ∷ [])) ∙ last r
  where
    last : (r : Record) → fold insert (buffer_of records) (filter_map written (r ∷ [])) ≡ pushed (buffer_of records) (written r)
    last (Written entry) = refl
    last (Blind place) = refl
    last (Erasing erase) = refl

abbrev IsKeyed : Buffer → Type 0
IsKeyed buffer = (key : Bytes) (entry : Entry) → finmap.get buffer key ≡ Some entry → entry.key ≡ key

keyed_insert : (buffer : Buffer) (first : Entry) → IsKeyed buffer → IsKeyed (insert buffer first)
keyed_insert buffer first keyed key entry is = grind (arith, finmap.get-insert nat_list_cmp_total buffer first.key first key, same_key-true key first.key, keyed key entry)

keyed_more : (entries : List Entry) (buffer : Buffer) → IsKeyed buffer → IsKeyed (fold insert buffer entries)
keyed_more [] buffer keyed = keyed
keyed_more (first ∷ entries) buffer keyed = keyed_more entries (insert buffer first) (keyed_insert buffer first keyed)

-- a buffer has each entry under its key
pub buffer_keyed : (records : List Record) → IsKeyed (buffer_of records)
buffer_keyed records = keyed_more (filter_map written records) finmap.empty (λ key entry is. let clash : None ≡ Some entry = sym (finmap.get-empty key_cmp key) ∙ is in absurd (cc))

pub same_key-false : (a b : Bytes) → (a ≡ b → ⊥) → same_key a b ≡ false
same_key-false a b apart = grind (arith, same_key-true a b)

-- an entry of a pushed buffer is the new one, or was there under another key
pub pushed_cases : (buffer : Buffer) (r : Record) (entry : Entry) → InBuffer (pushed buffer (written r)) entry → InBuffer buffer entry ⊎ (r ≡ Written entry)
pushed_cases buffer r entry is = grind (arith, finmap.get-insert nat_list_cmp_total buffer)

pub pushed_new : (buffer : Buffer) (r : Record) (entry : Entry) → r ≡ Written entry → InBuffer (pushed buffer (written r)) entry
pushed_new buffer r entry is = grind (arith, finmap.get-insert nat_list_cmp_total buffer entry.key entry entry.key, same_key-self entry.key)

-- the record is an entry of that one's key
pub record IsOfKey (r : Record) (old : Entry) : Type 0 where
  pub entry : Entry
  pub is : r ≡ Written entry
  pub same : old.key ≡ entry.key

pub pushed_still : (buffer : Buffer) (r : Record) (old : Entry) → InBuffer buffer old → InBuffer (pushed buffer (written r)) old ⊎ IsOfKey r old
pushed_still buffer r old is = grind (arith, finmap.get-insert nat_list_cmp_total buffer, same_key-true old.key)

module _ (l : Layout) (r : Record) (pending : List Pending) where
  pub recorded_cases : (x : Record) → IsRecorded (followed l r pending) x → IsRecorded l x ⊎ (r ≡ x)
  recorded_cases x is = grind (arith, λ (there : Contains (l.active ++ r ∷ []) x). Contains-push_cases l.active r x there)

  pub holds_cases : (entry : Entry) (swept : ℕ) → Holds (followed l r pending) entry swept → Holds l entry swept ⊎ ((r ≡ Written entry) × (swept ≡ 0))
  holds_cases entry swept is = grind (arith, recorded_cases (Written entry))

  pub shows_cases : (entry : Entry) → Shows (followed l r pending) entry → Shows l entry ⊎ (r ≡ Written entry)
  shows_cases entry is = grind (arith, buffer_push l.active r, pushed_cases (buffer_of l.active) r entry)

  pub tells_cases : ((erase : Pending) → Contains pending erase → Contains l.pending erase ⊎ (r ≡ Erasing erase)) → (erase : Pending) → Tells (followed l r pending) erase → Tells l erase ⊎ (r ≡ Erasing erase)
  tells_cases comes erase is = grind (arith, comes erase, recorded_cases (Erasing erase))

  -- an entry is shown still, or the record is one of its key and it stood in the active buffer
  pub shows_still : (old : Entry) → Shows l old → Shows (followed l r pending) old ⊎ (IsOfKey r old × InBuffer (buffer_of l.active) old)
  shows_still old is = grind (arith, buffer_push l.active r, pushed_still (buffer_of l.active) r old)

  pub shows_new : (entry : Entry) → r ≡ Written entry → Shows (followed l r pending) entry
  shows_new entry is = inl (inl (subst (λ buffer. InBuffer buffer entry) (sym (buffer_push l.active r)) (pushed_new (buffer_of l.active) r entry is)))

module _ (threshold : ℕ) (h : History) (l : Layout) (covers : Covers threshold h l) where
  pub held_within : (entry : Entry) (swept : ℕ) → Holds l entry swept → entry.seq ≤ length h
  held_within entry swept held = placed_within h entry.seq entry.key entry.body (covers.places.entries entry swept held)

  pub shown_within : (entry : Entry) → Shows l entry → entry.seq ≤ length h
  shown_within entry is = let held = shown_held l entry is in held_within entry held.0 held.1

  pub swept_within : (entry : Entry) (swept : ℕ) → Holds l entry swept → swept ≤ length h
  swept_within entry swept (inl recorded) = omega (arith, recorded.1)
  swept_within entry swept (inr filed) = omega (arith, filed.1, covers.erases_covered.swept filed.0.file filed.0.there)

  -- of what is held, reads see an entry of the key that is no older
  pub held_shown : (entry : Entry) (swept : ℕ) → Holds l entry swept → (newest : Entry) × Shows l newest × (newest.key ≡ entry.key) × (entry.seq ≤ newest.seq)
  held_shown entry swept (inl (inl active, at)) = let newest = covers.newer_above.active_buffer entry active in (newest.0, inl (inl newest.1), newest.2, newest.3)
  held_shown entry swept (inl (inr frozen, at)) = let newest = covers.newer_above.frozen_buffer entry frozen in (newest.0, inl (inr newest.1), newest.2, newest.3)
  held_shown entry swept (inr filed) = (entry, inr filed.0, refl, omega arith)

  module _ (counted : IsCounted h l) (r : Record) (pending : List Pending) (next : place_of r ≡ length h + 1) where
    newest_more : (entry : Entry) → Contains (l.active ++ r ∷ []) (Written entry) → (newest : Entry) × InBuffer (pushed (buffer_of l.active) (written r)) newest × (newest.key ≡ entry.key) × (entry.seq ≤ newest.seq)
    newest_more entry there = elim (Contains-push_cases l.active r (Written entry) there) [
      | inr same ↦ (entry, pushed_new (buffer_of l.active) r entry same, refl, omega arith)
      | inl active ↦
          let newest = covers.newer_above.active_buffer entry active in
          elim (pushed_still (buffer_of l.active) r newest.0 newest.1) [
            | inl still ↦ (newest.0, still, newest.2, newest.3)
            | inr replaced ↦
                let made = pushed_new (buffer_of l.active) r replaced.entry replaced.is in
                (replaced.entry, made, sym replaced.same ∙ newest.2, omega (arith, ap place_of replaced.is, newest.3, shown_within newest.0 (inl (inl newest.1))))
          ]
    ]

    last : (x : Record) → Contains (l.active ++ r ∷ []) x → Contains l.active x ⊎ (place_of x ≡ length h + 1)
    last x there = ⊎_map (λ old. old) (λ same. sym (ap place_of same) ∙ next) (Contains-push_cases l.active r x there)

    pub newer_above_more : IsNewerAbove (followed l r pending)
    newer_above_more = record {
      runs = covers.newer_above.runs;
      active_frozen = λ x older there below. ⊎_elim (λ old. covers.newer_above.active_frozen x older old below) (λ place. omega (arith, place, counted.places older (inr below))) (last x there);
      active_files = λ x older there below. ⊎_elim (λ old. covers.newer_above.active_files x older old below) (λ place. omega (arith, place, held_within older below.file.swept (inr (below, refl)))) (last x there);
      frozen_files = covers.newer_above.frozen_files;
      active_buffer = subst (λ buffer. IsNewestOf buffer (l.active ++ r ∷ [])) (sym (buffer_push l.active r)) newest_more;
      frozen_buffer = covers.newer_above.frozen_buffer;
    }
