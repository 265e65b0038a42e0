-- What is read of an entry is spelled so, and what is spelled so is read.
use Rattle.std.proofs.Common.{◌≡◌, ℕ, ◌+◌, List, [], ◌∷◌, ◌++◌, length, drop, Result, Ok, Err, refl, sym, ap, subst, ◌∙◌, arith, length-append}
use Rattle.std.specs.Prelude.{IfOk, MatchResult}
use Rattle.std.specs.Int.{w64, to_be_bytes}
use Rattle.std.proofs.lemmas.List.{drop_at}
use Rattle.lethe_base.specs.Numbers.{IsBytes}
use Rattle.lethe_base.specs.Spelling.{kind_byte, since_bytes, key_bytes, body_bytes, front_bytes, entry_bytes, kind_of, front_of, entry_with, FrontHasSpelling, BodyHasSpelling, HasSpelling}
use Rattle.lethe_base.specs.Results.{◌>>=◌}
use Rattle.lethe_base.specs.Reading.{Gives, StandsAt, field_at, kind_at, place_at, since_at, key_at, value_at, front_at, body_at, entry_at}
use Rattle.lethe_base.specs.declared.entry.Body.{Body}
use Rattle.lethe_base.specs.declared.entry.Body.TheVariants.{Put, Tomb}
use Rattle.lethe_base.specs.declared.entry.Entry.{Entry}
use Rattle.lethe_base.specs.declared.front.BodyKind.{BodyKind}
use Rattle.lethe_base.specs.declared.front.BodyKind.TheVariants as kinds
use Rattle.lethe_base.specs.declared.front.Front.{Front}
use Rattle.lethe_base.specs.declared.reading.EntryRefused.{EntryRefused}
use Rattle.lethe_base.specs.declared.reading.EntryRefused.TheVariants.{Short, Kind, NoMemory}
use Rattle.lethe_base.proofs.ReadingSteps.{bind_ok, ok_is}
use Rattle.lethe_base.proofs.FieldLaws.{stands_then, stands_parts, long_stands, long_again, kind_stands, kind_again, place_stands, place_again, since_stands, since_again, key_stands, key_again, value_bytes, value_stands, value_again}

-- ---- fronts

pub front_stands : (bytes : List ℕ) (at : ℕ) (x : Front × ℕ) → IsBytes bytes → front_at bytes at ≡ Ok x → StandsAt (front_bytes x.0) bytes at x.1 × FrontHasSpelling x.0
unfolding front_at front_bytes
front_stands bytes at x fits e =
    let a = bind_ok (kind_at bytes at) (λ kind. place_at bytes kind.1 >>= λ seq. since_at kind.0 bytes seq.1 >>= λ since. key_at bytes since.1 >>= λ key. Ok (record { kind = kind.0; seq = seq.0; since = since.0; key = key.0 }, key.1)) x e in
    let b = bind_ok (place_at bytes a.0.1) (λ seq. since_at a.0.0 bytes seq.1 >>= λ since. key_at bytes since.1 >>= λ key. Ok (record { kind = a.0.0; seq = seq.0; since = since.0; key = key.0 }, key.1)) x a.2 in
    let c = bind_ok (since_at a.0.0 bytes b.0.1) (λ since. key_at bytes since.1 >>= λ key. Ok (record { kind = a.0.0; seq = b.0.0; since = since.0; key = key.0 }, key.1)) x b.2 in
    let d = bind_ok (key_at bytes c.0.1) (λ key. Ok (record { kind = a.0.0; seq = b.0.0; since = c.0.0; key = key.0 }, key.1)) x c.2 in
    let made : Front × ℕ = (record { kind = a.0.0; seq = b.0.0; since = c.0.0; key = d.0.0 }, d.0.1) in
    let t0 = kind_stands bytes at a.0 fits a.1 in
    let t1 = place_stands bytes a.0.1 b.0 fits b.1 in
    let t2 = since_stands a.0.0 bytes b.0.1 c.0 fits c.1 in
    let t3 = key_stands bytes c.0.1 d.0 fits d.1 in
    let e23 = stands_then (since_bytes c.0.0) (key_bytes d.0.0) bytes b.0.1 c.0.1 d.0.1 t2.0 t3.0 in
    let e13 = stands_then (to_be_bytes w64 b.0.0) (since_bytes c.0.0 ++ key_bytes d.0.0) bytes a.0.1 b.0.1 d.0.1 t1.0 e23 in
    let e03 = stands_then (kind_byte a.0.0 ∷ []) (to_be_bytes w64 b.0.0 ++ (since_bytes c.0.0 ++ key_bytes d.0.0)) bytes at a.0.1 d.0.1 t0 e13 in
    subst (λ (y : Front × ℕ). StandsAt (front_bytes y.0) bytes at y.1 × FrontHasSpelling y.0) {x = made} (ok_is made x d.2)
    (e03, record { place = t1.1; marked = t2.1; time = t2.2; named = t3.1 })

pub front_again : (bytes : List ℕ) (at end : ℕ) (front : Front) → FrontHasSpelling front → StandsAt (front_bytes front) bytes at end → front_at bytes at ≡ Ok (front, end)
unfolding front_at front_bytes
front_again bytes at end front fits p =
    let behind_kind = to_be_bytes w64 front.seq ++ (since_bytes front.since ++ key_bytes front.key) in
    let p0 = stands_parts (kind_byte front.kind ∷ []) behind_kind bytes at end p in
    let p1 = stands_parts (to_be_bytes w64 front.seq) (since_bytes front.since ++ key_bytes front.key) bytes (at + 1) end p0.1 in
    let p2 = stands_parts (since_bytes front.since) (key_bytes front.key) bytes (at + 1 + 8) end p1.1 in
    rw (kind_again bytes at (at + 1) front.kind p0.0, place_again bytes (at + 1) (at + 1 + 8) front.seq fits.place p1.0, since_again front.kind bytes (at + 1 + 8) _ front.since fits.marked fits.time p2.0, key_again bytes _ end front.key fits.named p2.1) refl

-- ---- bodies

pub body_stands : (kind : BodyKind) (bytes : List ℕ) (at : ℕ) (x : Body × ℕ) → IsBytes bytes → StandsAt [] bytes at at → body_at kind bytes at ≡ Ok x → StandsAt (body_bytes x.0) bytes at x.1 × (kind_of x.0 ≡ kind) × BodyHasSpelling x.0
unfolding body_at
body_stands kinds.Put bytes at x fits here e =
    let a = bind_ok (field_at w64 bytes at) (λ dkey. value_at bytes (at + 8) >>= λ value. Ok (Put dkey value.0, value.1)) x e in
    let b = bind_ok (value_at bytes (at + 8)) (λ value. Ok (Put a.0 value.0, value.1)) x a.2 in
    let made : Body × ℕ = (Put a.0 b.0.0, b.0.1) in
    let t0 = long_stands bytes at a.0 fits a.1 in
    let t1 = value_stands bytes (at + 8) b.0 fits b.1 in
    subst (λ (y : Body × ℕ). StandsAt (body_bytes y.0) bytes at y.1 × (kind_of y.0 ≡ kinds.Put) × BodyHasSpelling y.0) (ok_is made x b.2)
    (stands_then (to_be_bytes w64 a.0) (value_bytes b.0.0) bytes at (at + 8) b.0.1 t0.0 t1.0, refl, (t0.1, t1.1))
body_stands kinds.Tomb bytes at x fits here e =
    subst (λ (y : Body × ℕ). StandsAt (body_bytes y.0) bytes at y.1 × (kind_of y.0 ≡ kinds.Tomb) × BodyHasSpelling y.0) (ok_is (Tomb, at) x e) (here, refl, tt)

pub body_again : (bytes : List ℕ) (at end : ℕ) (body : Body) → BodyHasSpelling body → StandsAt (body_bytes body) bytes at end → body_at (kind_of body) bytes at ≡ Ok (body, end)
unfolding body_at
body_again bytes at end (Put dkey value) fits p =
    let parts = stands_parts (to_be_bytes w64 dkey) (value_bytes value) bytes at end p in
    rw (long_again bytes at (at + 8) dkey fits.0 parts.0, value_again bytes (at + 8) end value fits.1 parts.1) refl
body_again bytes at end Tomb fits p =
    let ends : at ≡ end = omega (arith, p.ends) in
    rw ends refl

-- ---- entries

-- where one text ends, no text stands
ends_here : (x bytes : List ℕ) (at end : ℕ) → StandsAt x bytes at end → StandsAt [] bytes end end
ends_here x bytes at end p = record { parts = refl; ends = omega arith; within = p.within }

pub entry_stands : (bytes : List ℕ) (at : ℕ) (x : Entry × ℕ) → IsBytes bytes → entry_at bytes at ≡ Ok x → StandsAt (entry_bytes x.0) bytes at x.1 × HasSpelling x.0
unfolding entry_at entry_bytes
entry_stands bytes at x fits e =
    let a = bind_ok (front_at bytes at) (λ front. body_at front.0.kind bytes front.1 >>= λ body. Ok (entry_with front.0 body.0, body.1)) x e in
    let b = bind_ok (body_at a.0.0.kind bytes a.0.1) (λ body. Ok (entry_with a.0.0 body.0, body.1)) x a.2 in
    let front = a.0.0 in
    let body = b.0.0 in
    let made : Entry × ℕ = (entry_with front body, b.0.1) in
    let t0 = front_stands bytes at a.0 fits a.1 in
    let t1 = body_stands front.kind bytes a.0.1 b.0 fits (ends_here (front_bytes front) bytes at a.0.1 t0.0) b.1 in
    let is : front ≡ front_of (entry_with front body) = ap (λ (k : BodyKind). record front { kind = k }) (sym t1.1) in
    let both = stands_then (front_bytes front) (body_bytes body) bytes at a.0.1 b.0.1 t0.0 t1.0 in
    subst (λ (y : Entry × ℕ). StandsAt (entry_bytes y.0) bytes at y.1 × HasSpelling y.0) {x = made} (ok_is made x b.2) (
      subst (λ (f : Front). StandsAt (front_bytes f ++ body_bytes body) bytes at b.0.1) is both,
      record { front = subst FrontHasSpelling is t0.1; body = t1.2 },
    )

pub entry_again : (bytes : List ℕ) (at end : ℕ) (entry : Entry) → HasSpelling entry → StandsAt (entry_bytes entry) bytes at end → entry_at bytes at ≡ Ok (entry, end)
unfolding entry_at entry_bytes
entry_again bytes at end entry fits p =
    let parts = stands_parts (front_bytes (front_of entry)) (body_bytes entry.body) bytes at end p in
    rw (front_again bytes at _ (front_of entry) fits.front parts.0, body_again bytes _ end entry.body fits.body parts.1) refl

-- an entry's spelling begins with its kind
pub entry_first : (entry : Entry) → (rest : List ℕ) × (entry_bytes entry ≡ kind_byte (kind_of entry.body) ∷ rest)
unfolding entry_bytes front_bytes
entry_first entry = (_, refl)

-- ---- what a reader gives

abbrev failed : EntryRefused → Result (Entry × ℕ) EntryRefused
failed why = Err why

abbrev read_so : Entry × ℕ → Result (Entry × ℕ) EntryRefused
read_so read = Ok read

differ : (why : EntryRefused) (read : Entry × ℕ) → failed why ≡ read_so read → ⊥
differ why read e = cc

pub found_entry : (result : Result (Entry × ℕ) EntryRefused) (bytes : List ℕ) (at : ℕ) → IsBytes bytes → Gives result (entry_at bytes at) → IfOk result (λ read. HasSpelling read.0 × StandsAt (entry_bytes read.0) bytes at read.1)
found_entry (Ok read) bytes at fits gives = let both = entry_stands bytes at read fits gives in (both.1, both.0)
found_entry (Err why) bytes at fits gives = tt

pub only_entry : (result : Result (Entry × ℕ) EntryRefused) (bytes : List ℕ) (at : ℕ) → Gives result (entry_at bytes at) → (entry : Entry) (end : ℕ) → HasSpelling entry → StandsAt (entry_bytes entry) bytes at end → MatchResult result (λ read. read ≡ (entry, end)) (λ why. why ≡ NoMemory)
only_entry (Ok read) bytes at gives entry end fits stands = ok_is read (entry, end) (sym gives ∙ entry_again bytes at end entry fits stands)
only_entry (Err (Short place)) bytes at gives entry end fits stands = absurd (differ (Short place) (entry, end) (sym gives ∙ entry_again bytes at end entry fits stands))
only_entry (Err (Kind place)) bytes at gives entry end fits stands = absurd (differ (Kind place) (entry, end) (sym gives ∙ entry_again bytes at end entry fits stands))
only_entry (Err NoMemory) bytes at gives entry end fits stands = refl

-- ---- no spelling begins another

-- a text at the front of others
pub stands_first : (x rest : List ℕ) → StandsAt x (x ++ rest) 0 (length x)
stands_first x rest = record {
  parts = ap (λ (l : List ℕ). x ++ l) (sym (drop_at x rest (length x) refl));
  ends = omega arith;
  within = omega (arith, length-append x rest);
}

same_read : (a b : Entry) (m n : ℕ) → read_so (a, m) ≡ read_so (b, n) → (a ≡ b) × (m ≡ n)
same_read a b m n e = let both = ok_is (a, m) (b, n) e in (ap (λ (p : Entry × ℕ). p.0) both, ap (λ (p : Entry × ℕ). p.1) both)

pub one_entry : (a b : Entry) (x y : List ℕ) → HasSpelling a → HasSpelling b → entry_bytes a ++ x ≡ entry_bytes b ++ y → (a ≡ b) × (x ≡ y)
one_entry a b x y a_fits b_fits e =
    let first = entry_again (entry_bytes a ++ x) 0 (length (entry_bytes a)) a a_fits (stands_first (entry_bytes a) x) in
    let second = entry_again (entry_bytes b ++ y) 0 (length (entry_bytes b)) b b_fits (stands_first (entry_bytes b) y) in
    let same = same_read a b (length (entry_bytes a)) (length (entry_bytes b)) (sym first ∙ ap (λ (l : List ℕ). entry_at l 0) e ∙ second) in (
      same.0,
      sym (drop_at (entry_bytes a) x (length (entry_bytes a)) refl) ∙ ap (λ (l : List ℕ). drop (length (entry_bytes a)) l) e ∙ drop_at (entry_bytes b) y (length (entry_bytes a)) (sym same.1),
    )
