-- Refusals that are handed on.
use Rattle.std.proofs.Common.{◌≡◌, ℕ, Result, Ok, Err, sym, subst}
use Rattle.std.specs.Prelude.{IsErrAnd, IfErr}
use Rattle.lethe_base.specs.declared.name.Name.{Name}
use Rattle.lethe_load.specs.declared.refused.RecoverRefused.{RecoverRefused}
use Rattle.lethe_load.specs.declared.refused.RecoverRefused.TheVariants.{Damaged, Fault, NoMemory, OtherConfig}
use Rattle.lethe_load.specs.Refused.{MayFail, MayRefuse}
use Rattle.lethe_base.specs.declared.config.Fields.{Fields}
use Rattle.lethe_disk.specs.Directory.{Directory}
use Rattle.lethe_load.specs.Damaged.{IsDamaged}

-- what a `?` hands on
pub err_moved : {T E : Type 0} (result : Result T E) (why : E) (P : E → Type 0) → IsErrAnd result (λ e. e ≡ why) → P why → IfErr result P
err_moved (Ok x) why P is p = tt
err_moved (Err e) why P is p = subst P (sym is) p

-- bad in one way, and so in another
pub fails_so : (Tells : Type 0) (P Q : Name → Type 0) (before now : ℕ) (why : RecoverRefused) → (Tells → (name : Name) → P name → Q name) → MayFail Tells P before now why → MayFail Tells Q before now why
fails_so Tells P Q before now (Damaged name) so fails = λ told. so told name (fails told)
fails_so Tells P Q before now (Fault a b) so fails = fails
fails_so Tells P Q before now NoMemory so fails = tt
fails_so Tells P Q before now (OtherConfig kept) so fails = absurd fails

-- and so damaged
pub refuses_so : (Tells : Type 0) (P : Name → Type 0) (config : Fields) (d : Directory) (before now : ℕ) (why : RecoverRefused) → (Tells → (name : Name) → P name → IsDamaged config d name) → MayFail Tells P before now why → MayRefuse Tells config d before now why
refuses_so Tells P config d before now (Damaged name) so fails = λ told. so told name (fails told)
refuses_so Tells P config d before now (Fault a b) so fails = fails
refuses_so Tells P config d before now NoMemory so fails = tt
refuses_so Tells P config d before now (OtherConfig kept) so fails = absurd fails
