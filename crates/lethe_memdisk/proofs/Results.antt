-- What a test of a result or an option says of it.
use Rattle.std.proofs.Common.{◌≡◌, true, false, Some, None}
use Rattle.std.specs.Prelude.{Result, Ok, Err, OnOk, IsOk, is_err, Option, IsSome}

pub not_err : {T E P : Type 0} (result : Result T E) → OnOk result P → is_err result ≡ false → P
not_err (Ok x) p none = p
not_err (Err e) p none = absurd cc

pub not_ok : {T E : Type 0} (result : Result T E) → IsOk result → is_err result ≡ true → ⊥
not_ok (Ok x) is err = cc
not_ok (Err e) is err = cc

pub none_some : {A : Type 0} (o : Option A) → o ≡ None → IsSome o → ⊥
none_some None none some = cc
none_some (Some x) none some = cc
