-- What is known of a result.
use Rattle.std.proofs.Common.{Result, Ok, Err}
use Rattle.std.specs.Prelude.{IfOk, IfErr}

pub ok_all : {T E : Type 0} (result : Result T E) (P Q R S U : T → Type 0) → IfOk result P → IfOk result Q → IfOk result R → IfOk result S → ((x : T) → P x → Q x → R x → S x → U x) → IfOk result U
ok_all (Ok x) P Q R S U p q r s goes = goes x p q r s
ok_all (Err e) P Q R S U p q r s goes = tt

pub err_weaker : {T E : Type 0} (result : Result T E) (P Q : E → Type 0) → IfErr result P → ((e : E) → P e → Q e) → IfErr result Q
err_weaker (Ok x) P Q p goes = tt
err_weaker (Err e) P Q p goes = goes e p
