-- What follows of the value of a result.
use Rattle.std.proofs.Common.{Result, Ok, Err}
use Rattle.std.specs.Prelude.{IfOk}

pub ok_both : {T E : Type 0} (result : Result T E) (P Q R : T → Type 0) → IfOk result P → IfOk result Q → ((x : T) → P x → Q x → R x) → IfOk result R
ok_both (Ok x) P Q R p q goes = goes x p q
ok_both (Err e) P Q R p q goes = tt

pub ok_weaker : {T E : Type 0} (result : Result T E) (P Q : T → Type 0) → IfOk result P → ((x : T) → P x → Q x) → IfOk result Q
ok_weaker (Ok x) P Q p goes = goes x p
ok_weaker (Err e) P Q p goes = tt
