-- Where the key of an entry stands that is passed over.
use Rattle.std.proofs.Common.{◌≡◌, ℕ, ◌+◌, ◌-◌, ◌≤◌, cond, eqb, leb, List, length, take, drop, Option, Ok, Err, refl, ap, subst, ◌∙◌, arith, length-drop}
use Rattle.std.specs.Int.{w8}
use Rattle.std.proofs.lemmas.Bool.{leb-true}
use Rattle.std.proofs.lemmas.List.{length-take}
use Rattle.lethe_base.specs.Results.{◌>>=◌}
use Rattle.lethe_base.specs.Reading.{field_at, kind_at, place_at, since_at, key_at, front_at}
use Rattle.lethe_base.specs.Skipping.{front_end_at, front_end_of, key_end_at}
use Rattle.lethe_base.specs.declared.front.BodyKind.{BodyKind}
use Rattle.lethe_base.specs.declared.front.Front.{Front}
use Rattle.lethe_base.specs.declared.reading.EntryRefused.TheVariants.{Short, Kind}
use Rattle.lethe_base.proofs.ReadingSteps.{bind_ok, past_test, met_test, ok_is}

-- the key stands in the bytes from a place up to an end
pub record KeyStands (bytes key : List ℕ) (at end : ℕ) : Type 0 where
  pub is : take (end - at) (drop at bytes) ≡ key
  pub ends : end ≡ at + length key
  pub within : end ≤ length bytes

-- the place of a key, by its end
from_end : (bytes key : List ℕ) (at end : ℕ) → KeyStands bytes key at end → KeyStands bytes key (end - length key) end
from_end bytes key at end there =
    let begins : at ≡ end - length key = omega (arith, there.ends) in
    subst (λ (n : ℕ). KeyStands bytes key n end) begins there

-- a key that is read stands behind its byte of length
pub key_there : (bytes : List ℕ) (at : ℕ) (x : List ℕ × ℕ) → key_at bytes at ≡ Ok x → KeyStands bytes x.0 (at + 1) x.1
unfolding key_at
key_there bytes at x e =
    let b = bind_ok (field_at w8 bytes at) (λ len. cond (eqb len 0) (Err (Kind at)) (cond (leb (at + 1 + len) (length bytes)) (Ok (take len (drop (at + 1) bytes), at + 1 + len)) (Err (Short (at + 1))))) x e in
    let len = b.0 in
    let key = take len (drop (at + 1) bytes) in
    let some = past_test (eqb len 0) (Kind at) (cond (leb (at + 1 + len) (length bytes)) (Ok (key, at + 1 + len)) (Err (Short (at + 1)))) x b.2 in
    let g = met_test (leb (at + 1 + len) (length bytes)) (key, at + 1 + len) (Short (at + 1)) x some.1 in
    let within : at + 1 + len ≤ length bytes = leb-true _ _ g.0 in
    let wide : at + 1 + len - (at + 1) ≡ len = omega arith in
    subst (λ (y : List ℕ × ℕ). KeyStands bytes y.0 (at + 1) y.1) g.1 (record {
      is = ap (λ (n : ℕ). take n (drop (at + 1) bytes)) wide;
      ends = omega (arith, within, length-take len (drop (at + 1) bytes), length-drop (at + 1) bytes);
      within = within;
    })

-- the key that ends where passing over it ends
pub key_passed : (bytes : List ℕ) (at end : ℕ) → key_end_at bytes at ≡ Ok end → (key : List ℕ) × (key_at bytes at ≡ Ok (key, end)) × KeyStands bytes key (at + 1) end
key_passed bytes at end e =
    let b = bind_ok (key_at bytes at) (λ key. Ok key.1) end e in
    let read : key_at bytes at ≡ Ok (b.0.0, end) = b.1 ∙ ap (λ (n : ℕ). Ok (b.0.0, n)) (ok_is b.0.1 end b.2) in
    (b.0.0, read, key_there bytes at (b.0.0, end) read)

-- a front by its parts
pub front_passed : (bytes : List ℕ) (at : ℕ) (kind : BodyKind × ℕ) (seq : ℕ × ℕ) (since : Option ℕ × ℕ) (end : ℕ) → kind_at bytes at ≡ Ok kind → place_at bytes kind.1 ≡ Ok seq → since_at kind.0 bytes seq.1 ≡ Ok since → key_end_at bytes since.1 ≡ Ok end
    → front_end_at bytes at ≡ Ok (record { kind = kind.0; key = since.1 + 1; end = end })
unfolding front_at
front_passed bytes at kind seq since end k p s e =
    let key = key_passed bytes since.1 end e in
    let read = key.1 in
    let begins : end - length key.0 ≡ since.1 + 1 = omega (arith, key.2.ends) in
    rw (k, p, s, read, begins) refl

-- the key of a front stands where passing over it says
pub front_there : (bytes : List ℕ) (at : ℕ) (x : Front × ℕ) → front_at bytes at ≡ Ok x → KeyStands bytes x.0.key (front_end_of x).key x.1
unfolding front_at
front_there bytes at x e =
    let a = bind_ok (kind_at bytes at) (λ kind. place_at bytes kind.1 >>= λ seq. since_at kind.0 bytes seq.1 >>= λ since. key_at bytes since.1 >>= λ key. Ok (record { kind = kind.0; seq = seq.0; since = since.0; key = key.0 }, key.1)) x e in
    let b = bind_ok (place_at bytes a.0.1) (λ seq. since_at a.0.0 bytes seq.1 >>= λ since. key_at bytes since.1 >>= λ key. Ok (record { kind = a.0.0; seq = seq.0; since = since.0; key = key.0 }, key.1)) x a.2 in
    let c = bind_ok (since_at a.0.0 bytes b.0.1) (λ since. key_at bytes since.1 >>= λ key. Ok (record { kind = a.0.0; seq = b.0.0; since = since.0; key = key.0 }, key.1)) x b.2 in
    let d = bind_ok (key_at bytes c.0.1) (λ key. Ok (record { kind = a.0.0; seq = b.0.0; since = c.0.0; key = key.0 }, key.1)) x c.2 in
    let made : Front × ℕ = (record { kind = a.0.0; seq = b.0.0; since = c.0.0; key = d.0.0 }, d.0.1) in
    subst (λ (y : Front × ℕ). KeyStands bytes y.0.key (y.1 - length y.0.key) y.1) {x = made} (ok_is made x d.2) (from_end bytes d.0.0 (c.0.1 + 1) d.0.1 (key_there bytes c.0.1 d.0 d.1))
