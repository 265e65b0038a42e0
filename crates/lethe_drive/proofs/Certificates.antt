-- The certificates of replies, and those that stand behind a call.
use Rattle.std.proofs.Common.{◌≡◌, ℕ, Bool, true, false, List, [], ◌∷◌, ◌++◌, Option, Some, None, Result, Ok, Err, refl, sym, ap, ◌∙◌, subst, append-nil}
use Rattle.std.specs.Prelude.{MatchResult, if◌then◌else◌, option_to_list}
use Rattle.std.proofs.lemmas.List.Concat.{flat_map-append, flat_map-cons}
use Rattle.lethe_base.specs.History.{History}
use Rattle.lethe_base.specs.Keys.{Bytes}
use Rattle.lethe_base.specs.declared.config.Fields.{Fields}
use Rattle.lethe_base.specs.declared.refused.Refused.{Refused}
use Rattle.lethe_cert.specs.declared.certificate.Certificate.{Certificate}
use Rattle.lethe_core.specs.Asked.{Asked, behind}
use Rattle.lethe_core.specs.View.{Face, View}
use Rattle.lethe_engine.specs.Answers.{Answers}
use Rattle.lethe_engine.specs.StandsFor.{Opened, StandsFor}
use Rattle.lethe_engine.specs.Ticks.{answered_by}
use Rattle.lethe_engine.specs.declared.ticking.Ticked.{Ticked}
use Rattle.lethe_engine.proofs.Certified.{call_certified}
use Rattle.lethe_drive.specs.Certificates.{certificates_in, certificates_of}
use Rattle.lethe_drive.specs.Past.{given_up_as, refusal_of, refused_as}
use Rattle.lethe_drive.specs.Replies.{flagged, got, paired, placed, told, united}
use Rattle.lethe_drive.specs.declared.event.Reply.{Reply}
use Rattle.lethe_drive.specs.declared.event.Reply.TheVariants as reply
use Rattle.lethe_drive.specs.declared.past.Past.{Past}
use Rattle.lethe_drive.proofs.Left.{given}

-- A tick's reply has those that it answered, and no other has any.

pub of_told : (result : Result Ticked Refused) → certificates_of (told result) ≡ answered_by result
of_told (Ok ticked) = refl
of_told (Err why) = refl

pub none_placed : (result : Result ℕ Refused) → certificates_of (placed result) ≡ []
none_placed (Ok place) = refl
none_placed (Err why) = refl

pub none_got : (result : Result (Option (ℕ × Bytes)) Refused) → certificates_of (got result) ≡ []
none_got (Ok held) = refl
none_got (Err why) = refl

pub none_paired : (result : Result (List (Bytes × ℕ × Bytes)) Refused) → certificates_of (paired result) ≡ []
none_paired (Ok pairs) = refl
none_paired (Err why) = refl

pub none_flagged : (result : Result Bool Refused) → certificates_of (flagged result) ≡ []
none_flagged (Ok flag) = refl
none_flagged (Err why) = refl

pub none_united : (result : Result (Unit {0}) Refused) → certificates_of (united result) ≡ []
none_united (Ok done) = refl
none_united (Err why) = refl

pub none_given : (stopped : Option ℕ) → certificates_of (given_up_as stopped) ≡ []
none_given None = refl
none_given (Some at) = refl

pub none_refused : (stopped : Option ℕ) (now : ℕ) (job : Past) → certificates_of (refused_as stopped now job) ≡ []
none_refused stopped now job = by job.refused
  where
    by : (refused : Bool) → certificates_of (if refused then reply.NoSuch else reply.Refused (refusal_of stopped job.round now)) ≡ []
    by true = refl
    by false = refl

-- nor have those of the jobs of earlier rounds that are given up
pub none_of_given : (stopped : Option ℕ) (past : List Past) → certificates_in (given stopped past) ≡ []
none_of_given stopped [] = refl
none_of_given stopped (job ∷ past) =
    flat_map-cons certificates_of (given_up_as stopped) (given stopped past) ∙ ap (λ (l : List Certificate). l ++ certificates_in (given stopped past)) (none_given stopped) ∙ none_of_given stopped past

-- one reply more
pub in_more : (replies : List Reply) (answer : Reply) → certificates_in (replies ++ answer ∷ []) ≡ certificates_in replies ++ certificates_of answer
in_more replies answer =
    flat_map-append certificates_of replies (answer ∷ []) ∙ ap (λ (l : List Certificate). certificates_in replies ++ l) (flat_map-cons certificates_of answer [] ∙ append-nil (certificates_of answer))

-- replies that have none
pub in_none : (replies rest : List Reply) → certificates_in rest ≡ [] → certificates_in (replies ++ rest) ≡ certificates_in replies
in_none replies rest none = flat_map-append certificates_of replies rest ∙ ap (λ (l : List Certificate). certificates_in replies ++ l) none ∙ append-nil (certificates_in replies)

-- The list of a store behind a reply that has none is the same.
pub listed_none : (before now : List Certificate) (answer : Reply) → now ≡ before → certificates_of answer ≡ [] → now ≡ before ++ certificates_of answer
listed_none before now answer same none = same ∙ sym (append-nil before) ∙ ap (λ (l : List Certificate). before ++ l) (sym none)

-- and behind a tick it has those that this answered
pub listed_tick : (before now : List Certificate) (result : Result Ticked Refused) → MatchResult result (λ ticked. now ≡ before ++ option_to_list ticked.certificate) (λ why. now ≡ before) → now ≡ before ++ answered_by result
listed_tick before now (Ok ticked) kept = kept
listed_tick before now (Err why) kept = kept ∙ sym (append-nil before)

-- Those for which a store stood stand behind a call.
pub stands_call : {Tells : Type 0} {asked : Asked} {why : Option Refused} {face : Face} {old new : View} → Answers Tells asked why face old new → Tells → (config : Fields) (opened : Opened) (h : History)
    (answered : List Certificate) → StandsFor config opened h old answered → StandsFor config opened (behind h 0 asked why) new answered
stands_call {Tells} {asked} {why} {face} {old} {new} answers told config opened h answered stands = call_certified Tells asked why face old new answers told config opened h 0 answered stands

module _ (config : Fields) (opened : Opened) (h : History) (view : View) (answered : List Certificate) where
  -- with those of the reply
  pub stands_with : (more : List Certificate) (answer : Reply) → certificates_of answer ≡ more → StandsFor config opened h view (answered ++ more) → StandsFor config opened h view (answered ++ certificates_of answer)
  stands_with more answer is stands = subst (λ (l : List Certificate). StandsFor config opened h view (answered ++ l)) (sym is) stands

  pub stands_none : (answer : Reply) → certificates_of answer ≡ [] → StandsFor config opened h view answered → StandsFor config opened h view (answered ++ certificates_of answer)
  stands_none answer is stands = stands_with [] answer is (subst (StandsFor config opened h view) (sym (append-nil answered)) stands)
