-- What comes of an act, in the words of the proofs.
use Rattle.std.proofs.Common.{◌≡◌, ℕ, Result, Ok, Err, refl, subst}
use Rattle.std.specs.Prelude.{IfOk, IfErr, MatchResult}
use Rattle.lethe_base.specs.History.{History}
use Rattle.lethe_base.specs.declared.memory.NoMemory.{NoMemory}
use Rattle.lethe_core.specs.View.{View}
use Rattle.lethe_script.specs.declared.order.Act.{Act}
use Rattle.lethe_run.specs.declared.reply.Reply.{Reply}
use Rattle.lethe_run.specs.Serving.{Advances, IsAnswered}
use Rattle.lethe_run.specs.Transcript.{Course, Start, Told}

-- what is known of a result
pub ok_of : {T E : Type 0} (P : T → Type 0) (r : Result T E) → IfOk r P → (x : T) → r ≡ Ok x → P x
ok_of P r p x is = subst (λ q. IfOk q P) is p

pub err_of : {T E : Type 0} (P : E → Type 0) (r : Result T E) → IfErr r P → (x : E) → r ≡ Err x → P x
err_of P r p x is = subst (λ q. IfErr q P) is p

-- where there was no memory, all is as it was
pub or_same : {T E X : Type 0} (P : T → Type 0) (r : Result T E) (x : X) → IfOk r P → MatchResult r P (λ why. x ≡ x)
or_same P (Ok told) x p = p
or_same P (Err why) x p = refl

abbrev pub told_of : History → Course → Told
told_of h c = record { history = h; course = c }

-- what comes of an act
abbrev pub Outcome : Type 0 → Start → History → ℕ → Act → Result Reply NoMemory → View → View → Type 0
Outcome Ports begin h caller act result old new = MatchResult result
    (λ reply. (g : History) × IsAnswered Ports begin h g caller act reply old new)
    (λ why. Advances begin h h old new)
