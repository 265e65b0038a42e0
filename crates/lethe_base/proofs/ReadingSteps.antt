-- What a reading that succeeded went through.
use Rattle.std.proofs.Common.{◌≡◌, ℕ, Bool, true, false, cond, Option, Some, None, Result, Ok, Err, refl}
use Rattle.std.specs.Prelude.{ok_or}
use Rattle.lethe_base.specs.Results.{◌>>=◌}

pub bind_ok : {A B E : Type 0} (r : Result A E) (f : A → Result B E) (y : B) → (r >>= f) ≡ Ok y → (x : A) × (r ≡ Ok x) × (f x ≡ Ok y)
bind_ok (Ok x) f y e = (x, refl, e)
bind_ok (Err why) f y e = absurd cc

pub past_test : {A E : Type 0} (b : Bool) (why : E) (r : Result A E) (y : A) → cond b (Err why) r ≡ Ok y → (b ≡ false) × (r ≡ Ok y)
past_test true why r y e = absurd cc
past_test false why r y e = (refl, e)

pub met_test : {A E : Type 0} (b : Bool) (x : A) (why : E) (y : A) → cond b (Ok x) (Err why) ≡ Ok y → (b ≡ true) × (x ≡ y)
met_test true x why y e = (refl, cc)
met_test false x why y e = absurd cc

abbrev pub ok_of : {A E : Type 0} → A → Result A E
ok_of x = Ok x

pub ok_is : {A E : Type 0} (x y : A) → ok_of {E = E} x ≡ ok_of y → x ≡ y
ok_is x y e = cc

pub field_ok : {E : Type 0} (o : Option ℕ) (why : E) (n : ℕ) → ok_or o why ≡ Ok n → o ≡ Some n
field_ok None why n e = absurd cc
field_ok (Some m) why n e = cc
