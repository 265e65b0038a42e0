-- A merged list is an outcome of its inputs.
use Rattle.std.proofs.Common.{nat_lt, ◌≤◌, ⊎_elim, ◌≡◌, ◌⊎◌, inl, inr, ℕ, Bool, true, false, cond, IsTrue, List, [], ◌∷◌, map, Contains, Option, Some, None, option_and_then, refl, sym, ap, ◌∙◌, arith}
use Rattle.lethe_cover.proofs.Common.{none_in, first_or_rest, same_key, same_key-self, same_key-true, newer_of, nat_tests, Contains-append_right, Bytes, entry_of, pair_of, matches, pair_under, answer_under, IsNewest, Body, Entry, Pending, first_is, body_under, time_under, since_under, struck, left_of, bared, IsMerged, IsFrom, IsKept, IsDropped, IsOutcome, ⊎_map}
use Rattle.lethe_base.specs.declared.entry.Body.TheVariants.{Put, Tomb}
use Rattle.lethe_cover.proofs.ByKey.{entry_in, own_entry}
use Rattle.lethe_base.specs.Shapes.{earlier}

-- there is a time at most that
pub record IsBy (own : Option ℕ) (time : ℕ) : Type 0 where
  pub least : ℕ
  pub is : own ≡ Some least
  pub upto : least ≤ time

by_left : (a b : Option ℕ) (time : ℕ) → IsBy a time → IsBy (earlier a b) time
by_left a b time by = grind arith

by_right : (a b : Option ℕ) (time : ℕ) → IsBy b time → IsBy (earlier a b) time
by_right a b time by = grind arith

earlier_from : (a b : Option ℕ) (time : ℕ) → earlier a b ≡ Some time → (a ≡ Some time) ⊎ (b ≡ Some time)
earlier_from a b time is = grind arith

-- the body answers what the entry answers under the erases
struck_answer : (erases : List Pending) (seq : ℕ) (body : Body) → pair_of (body_under erases seq body) ≡ pair_under erases seq body
struck_answer erases seq body = grind arith

pub struck_by : (erases : List Pending) (entry : Entry) (time : ℕ) → entry.since ≡ Some time → IsBy (struck erases entry).since time
struck_by erases entry time has = grind arith

-- an erase of the list has the time
abbrev pub IsErasesTime : List Pending → ℕ → Type 0
IsErasesTime erases time = (erase : Pending) × Contains erases erase × (erase.time ≡ time)

time_from : (erases : List Pending) (seq dkey time : ℕ) → time_under erases seq dkey ≡ Some time → IsErasesTime erases time
time_from [] seq dkey time is = absurd (cc)
time_from (first ∷ erases) seq dkey time is = ⊎_elim (λ own. (first, first_is first erases first refl, grind arith))
    (λ rest. let found = time_from erases seq dkey time rest in (found.0, Contains-append_right (first ∷ []) erases found.0 found.1, found.2))
    (earlier_from (cond (matches first seq dkey) (Some first.time) None) (time_under erases seq dkey) time is)

pub struck_from : (erases : List Pending) (seq : ℕ) (body : Body) (since : Option ℕ) (time : ℕ) → since_under erases seq body since ≡ Some time → (since ≡ Some time) ⊎ IsErasesTime erases time
struck_from erases seq (Put dkey value) since time is = ⊎_map (λ own. own) (time_from erases seq dkey time) (earlier_from since (time_under erases seq dkey) time is)
struck_from erases seq Tomb since time is = inl is

-- of some inputs the newest, where the erases are applied, with the least time of them all
record IsJoined (erases : List Pending) (own : Entry → Type 0) (joined : Entry) : Type 0 where
  source : Entry
  there : own source
  place : source.seq ≡ joined.seq
  answer : pair_of joined.body ≡ answer_under erases source
  last : (input : Entry) → own input → input.seq ≤ joined.seq
  least : (input : Entry) (time : ℕ) → own input → input.since ≡ Some time → IsBy joined.since time
  from : (time : ℕ) → joined.since ≡ Some time → ((input : Entry) × own input × (input.since ≡ Some time)) ⊎ IsErasesTime erases time

-- what is left of some inputs: there are none, or they are joined
abbrev IsLeft : List Pending → (Entry → Type 0) → Option Entry → Type 0
IsLeft erases own None = (input : Entry) → own input → ⊥
IsLeft erases own (Some joined) = IsJoined erases own joined

-- one input more
more_left : (erases : List Pending) (P own : Entry → Type 0) (x : Entry) (o : Option Entry) → ((e : Entry) → (x ≡ e) ⊎ P e → own e) → ((e : Entry) → own e → (x ≡ e) ⊎ P e) → IsLeft erases P o
    → IsJoined erases own (newer_of (struck erases x) o)
more_left erases P own x None to cases none = record {
  source = x;
  there = to x (inl refl);
  place = refl;
  answer = struck_answer erases x.seq x.body;
  last = λ input is. ⊎_elim (λ same. omega (arith, ap (λ e. e.seq) same)) (λ rest. absurd (none input rest)) (cases input is);
  least = λ input time is has. ⊎_elim (λ same. struck_by erases x time (ap (λ e. e.since) same ∙ has)) (λ rest. absurd (none input rest)) (cases input is);
  from = λ time has. ⊎_map (λ mine. (x, to x (inl refl), mine)) (λ erased. erased) (struck_from erases x.seq x.body x.since time has);
}
more_left erases P own x (Some f) to cases is = by (nat_lt x.seq f.seq) refl
  where
    joined : (source s : Entry) → (x ≡ source) ⊎ P source → source.seq ≡ s.seq → pair_of s.body ≡ answer_under erases source → x.seq ≤ s.seq → f.seq ≤ s.seq
        → IsJoined erases own (record s { since = earlier (struck erases x).since f.since })
    joined source s there place answer upto below = record {
      source = source;
      there = to source there;
      place = place;
      answer = answer;
      last = λ input is_own. ⊎_elim (λ same. omega (arith, ap (λ e. e.seq) same)) (λ rest. omega (arith, is.last input rest)) (cases input is_own);
      least = λ input time is_own has. ⊎_elim (λ same. by_left (struck erases x).since f.since time (struck_by erases x time (ap (λ e. e.since) same ∙ has)))
          (λ rest. by_right (struck erases x).since f.since time (is.least input time rest has)) (cases input is_own);
      from = λ time has. ⊎_elim (λ mine. ⊎_map (λ at. (x, to x (inl refl), at)) (λ erased. erased) (struck_from erases x.seq x.body x.since time mine))
          (λ old. ⊎_map (λ found. (found.0, to found.0 (inr found.1), found.2)) (λ erased. erased) (is.from time old)) (earlier_from (struck erases x).since f.since time has);
    }

    by : (t : Bool) → nat_lt x.seq f.seq ≡ t
        → IsJoined erases own (cond t (record f { since = earlier (struck erases x).since f.since }) (record (struck erases x) { since = earlier (struck erases x).since f.since }))
    by true at = joined is.source f (inr is.there) is.place is.answer (grind (arith, nat_tests)) (omega arith)
    by false at = joined x (struck erases x) (inl refl) refl (struck_answer erases x.seq x.body) (omega arith) (grind (arith, nat_tests))

-- the entries of a list that are of the key
abbrev OfKey : Bytes → List Entry → Entry → Type 0
OfKey key entries entry = Contains entries entry × (entry.key ≡ key)

left_is : (erases : List Pending) (key : Bytes) (inputs : List Entry) (own : Entry → Type 0) → ((e : Entry) → own e → OfKey key inputs e) → ((e : Entry) → OfKey key inputs e → own e)
    → IsLeft erases own (left_of key (map (struck erases) inputs))
left_is erases key [] own from to = λ e is. none_in e (from e is).0
left_is erases key (x ∷ inputs) own from to = by (left_is erases key inputs) (same_key key x.key) refl
  where
    later : (e : Entry) → OfKey key inputs e → own e
    later e is = to e (Contains-append_right (x ∷ []) inputs e is.0, is.1)

    cases : (e : Entry) → own e → (x ≡ e) ⊎ OfKey key inputs e
    cases e is = let there = from e is in ⊎_map (λ same. same) (λ rest. (rest, there.1)) (first_or_rest x inputs e there.0)

    unlike : same_key key x.key ≡ false → (e : Entry) → e.key ≡ key → x ≡ e → ⊥
    unlike other e named is = grind (arith, same_key-self key)

    by : ((P : Entry → Type 0) → ((e : Entry) → P e → OfKey key inputs e) → ((e : Entry) → OfKey key inputs e → P e) → IsLeft erases P (left_of key (map (struck erases) inputs)))
        → (t : Bool) → same_key key x.key ≡ t → IsLeft erases own (cond t (Some (newer_of (struck erases x) (left_of key (map (struck erases) inputs)))) (left_of key (map (struck erases) inputs)))
    by more false at = more own (λ e is. ⊎_elim (λ same. absurd (unlike at e (from e is).1 same)) (λ rest. rest) (cases e is)) later
    by more true at = more_left erases (OfKey key inputs) own x (left_of key (map (struck erases) inputs))
        (λ e. ⊎_elim (λ same. to e (first_is x inputs e same, ap (λ e. e.key) (sym same) ∙ sym (same_key-true key x.key at))) (later e)) cases
        (more (OfKey key inputs) (λ e is. is) (λ e is. is))

-- an output says what is left of its key, and has its time if it has one
abbrev IsBared : Entry → Entry → Type 0
IsBared left output = (left.seq ≡ output.seq) × (left.body ≡ output.body) × ((time : ℕ) → output.since ≡ Some time → left.since ≡ Some time)

bared_is : (alone : Bool) (left output : Entry) → bared alone left left.body ≡ Some output → IsBared left output
bared_is alone left output is = grind arith

-- the inputs are those of a list
module _ (Inputs : Entry → Type 0) (inputs : List Entry) (to : (entry : Entry) → Contains inputs entry → Inputs entry) (back : (entry : Entry) → Inputs entry → Contains inputs entry)
    (erases : List Pending) (alone : Bool) (merged : List Entry) (is : IsMerged inputs erases alone merged)
  where
    own_left : (key : Bytes) → IsLeft erases (OfKey key inputs) (left_of key (map (struck erases) inputs))
    own_left key = left_is erases key inputs (OfKey key inputs) (λ e is. is) (λ e is. is)

    output_left : (output : Entry) → Contains merged output → (left : Entry) × IsJoined erases (OfKey output.key inputs) left × IsBared left output
    output_left output there = by (left_of output.key (map (struck erases) inputs)) (own_left output.key) (sym (is.entries output.key) ∙ own_entry merged output is.ascending there)
      where
        by : (o : Option Entry) → IsLeft erases (OfKey output.key inputs) o → option_and_then (λ entry. bared alone entry entry.body) o ≡ Some output
            → (left : Entry) × IsJoined erases (OfKey output.key inputs) left × IsBared left output
        by None none found = absurd (cc)
        by (Some left) joined found = (left, joined, bared_is alone left output found)

    newest_of : (key : Bytes) (left : Entry) (joined : IsJoined erases (OfKey key inputs) left) → IsNewest Inputs joined.source
    newest_of key left joined = record { shown = to joined.source joined.there.0; last = λ other there same. omega (arith, joined.last other (back other there, same ∙ joined.there.1), joined.place) }

    source : (output : Entry) → Contains merged output → IsFrom erases Inputs output
    source output there =
        let left = output_left output there in
        let joined = left.1 in
        let bare = left.2 in
        record { input = joined.source; newest = newest_of output.key left.0 joined; same = joined.there.1; place = joined.place ∙ bare.0; answer = ap pair_of (sym bare.1) ∙ joined.answer }

    since : (output : Entry) (time : ℕ) → Contains merged output → output.since ≡ Some time → ((input : Entry) × Inputs input × (input.since ≡ Some time)) ⊎ IsErasesTime erases time
    since output time there has =
        let left = output_left output there in
        ⊎_map (λ found. (found.0, to found.0 found.1.0, found.2)) (λ erased. erased) (left.1.from time (left.2.2 time has))

    abbrev IsKeptOrDropped : Entry → Type 0
    IsKeptOrDropped input = IsKept (IsTrue alone) (Contains merged) input ⊎ IsDropped erases (IsTrue alone) Inputs (Contains merged) input

    kept : (input : Entry) → Inputs input → IsKeptOrDropped input
    kept input taken = by (left_of input.key (map (struck erases) inputs)) (own_left input.key) (is.entries input.key)
      where
        own : OfKey input.key inputs input
        own = (back input taken, refl)

        by_bare : (left : Entry) → IsJoined erases (OfKey input.key inputs) left → (t : Bool) (b : Body) → alone ≡ t → left.body ≡ b → entry_of input.key merged ≡ bared t left b → IsKeptOrDropped input
        by_bare left joined false b lone at found =
            let out = entry_in input.key merged left found in
            inl (record { output = left; made = out.0; same = out.1; newer = joined.last input own; since = λ time has. let least = joined.least input time own has in inr (least.least, least.is, least.upto) })
        by_bare left joined true (Put dkey value) lone at found =
            let out = entry_in input.key merged (record left { since = None }) found in
            inl (record { output = record left { since = None }; made = out.0; same = out.1; newer = joined.last input own; since = λ time has. inl lone })
        by_bare left joined true Tomb lone at found = inr (record {
          alone = lone;
          none = λ output made same. let clash : Some output ≡ None = sym (own_entry merged output is.ascending made) ∙ ap (λ key. entry_of key merged) same ∙ found in cc;
          newest = joined.source;
          is = newest_of input.key left joined;
          same = joined.there.1;
          nothing = sym joined.answer ∙ ap pair_of at;
        })

        by : (o : Option Entry) → IsLeft erases (OfKey input.key inputs) o → entry_of input.key merged ≡ option_and_then (λ entry. bared alone entry entry.body) o → IsKeptOrDropped input
        by None none found = absurd (none input own)
        by (Some left) joined found = by_bare left joined alone left.body refl refl found

    pub merged_outcome : IsOutcome erases (IsTrue alone) Inputs (Contains merged)
    merged_outcome = record { source = source; kept = kept; since = since }
