-- What a row of changes says of the store since it was opened.
use Rattle.std.proofs.Common.{◌≡◌, ℕ, inl, inr, List, [], Option, Some, None, refl, sym, subst, arith}
use Rattle.std.specs.Prelude.{IfSome, IsSome, false, is_some, true}
use mathlib.Core.Bool.{false≢true}
use Rattle.lethe_base.specs.Counts.{Rose}
use Rattle.lethe_base.specs.History.{History}
use Rattle.lethe_base.specs.declared.config.Fields.{Fields}
use Rattle.lethe_base.specs.declared.refused.Refused.{Refused}
use Rattle.lethe_base.specs.declared.refused.Refused.TheVariants.{Fault, Stopped, Backwards, Pinned, NothingDue, Cancelled, Exhausted, ReadFault, NoMemory, Damaged}
use Rattle.lethe_state.specs.Clock.{clock_of}
use Rattle.lethe_core.specs.Asked.{Failure}
use Rattle.lethe_core.specs.Running.{IsSound}
use Rattle.lethe_core.specs.View.{View, face_of}
use Rattle.lethe_row.specs.Along.{IsEnded, IsKeptAlong, IsRow, row_behind, tried, with_all}
use Rattle.lethe_row.specs.declared.asking.Asked.{Asked}
use Rattle.lethe_row.proofs.Along.{idle_row, none_made}
use Rattle.lethe_engine.specs.Rows.{AnswersRow}
use Rattle.lethe_engine.specs.StandsFor.{Opened, StandsSince}
use Rattle.lethe_engine.proofs.Calls.{goes_by, idle_goes, idle_itself}
use Rattle.lethe_engine.proofs.Onward.{row_for, sound_pages}

-- whether a store is stopped

pub is_there : {A : Type 0} (o : Option A) → is_some o ≡ true → IsSome o
is_there None is = absurd (false≢true is)
is_there (Some x) is = refl

pub none_there : {A : Type 0} (o : Option A) → is_some o ≡ false → o ≡ None
none_there None is = refl
none_there (Some x) is = absurd (false≢true (sym is))

-- the counts of faults with which it ended
abbrev pub IsCounted : View → View → Asked × Failure → Type 0
IsCounted old new f = (f.1.before ≡ old.faults) × (f.1.after ≡ new.faults) × Rose old.faults new.faults

none_counted : (old new : View) (failed : Option (Asked × Failure)) → failed ≡ None → IfSome failed (IsCounted old new)
none_counted old new failed none = subst (λ f. IfSome f (IsCounted old new)) (sym none) tt

pub failure_counted : (old new : View) (refused : Option Refused) (rest left : List Asked) (failed : Option (Asked × Failure)) → IsEnded refused rest left failed old new → IfSome failed (IsCounted old new)
failure_counted old new None rest left failed is = none_counted old new failed is.0
failure_counted old new (Some NoMemory) rest left failed is = none_counted old new failed is.0
failure_counted old new (Some (Fault place before after)) rest left failed is =
    let before_is = is.5 in
    let after_is = is.6 in
    subst (λ f. IfSome f (IsCounted old new)) (sym is.3) (before_is, after_is, subst (λ n. Rose n new.faults) before_is (subst (Rose before) after_is is.7))
failure_counted old new (Some (Stopped at)) rest left failed is = absurd is
failure_counted old new (Some (Exhausted last)) rest left failed is = absurd is
failure_counted old new (Some (Backwards clock)) rest left failed is = absurd is
failure_counted old new (Some (Pinned pin limit)) rest left failed is = absurd is
failure_counted old new (Some NothingDue) rest left failed is = absurd is
failure_counted old new (Some (Cancelled begun now)) rest left failed is = absurd is
failure_counted old new (Some (ReadFault before after)) rest left failed is = absurd is
failure_counted old new (Some (Damaged name)) rest left failed is = absurd is

pub row_answers : (Tells : Type 0) (asked left : List Asked) (done : ℕ) (refused : Option Refused) (old new : View) → old.state.stopped ≡ None → clock_of new.state.manifest ≡ clock_of old.state.manifest → face_of new ≡ face_of old → new.retired ≡ old.retired → IsRow Tells asked left done refused old new
    → AnswersRow Tells asked left done refused old new
row_answers Tells asked left done refused old new runs clock face retired row = record {
  row = row;
  stands = stands;
  goes = λ told config opened h before caller.
      goes_by (IsKeptAlong config h caller (tried row.made row.failed)) config opened h (row_behind h caller row.made row.failed) old new before (stands told config opened h before caller) (row.any_moment told config h before.now runs caller).goes;
  idle = λ stopped. absurd (false≢true (subst IsSome runs stopped));
  clock = clock;
  face_is = face;
  retired = retired;
  drawn = row.drawn;
  later = λ told. let numbers = row.numbers told in let drawn = row.drawn in omega (arith, numbers, drawn);
}
  where
    stands : Tells → (config : Fields) (opened : Opened) (h : History) → StandsSince config opened h old → (caller : ℕ) → StandsSince config opened (row_behind h caller row.made row.failed) new
    stands told config opened h before caller =
        row_for config opened h old new before runs row.faults (row.numbers told) (sound_pages Tells new row.sound told) caller row.made row.failed (failure_counted old new refused row.rest left row.failed row.ended)
        (row.any_moment told config h before.now runs caller) (row.stands told config h before.now caller)

-- of a store that is stopped no change is made
pub stopped_answers : (Tells : Type 0) (asked : List Asked) (view : View) → IsSound Tells view → IsSome view.state.stopped → AnswersRow Tells asked asked 0 None view view
unfolding idle_row
stopped_answers Tells asked view sound stopped = record {
  row = idle_row Tells view asked asked sound refl (inr (inl stopped));
  stands = same;
  goes = λ told config opened h before caller. idle_goes config opened h (with_all h caller []) view view before (same told config opened h before caller) (idle_itself view);
  idle = λ still. (refl, refl, refl, record { state = refl; levels = refl; faults = refl; disk = λ told. idle_itself view });
  clock = refl;
  face_is = refl;
  retired = refl;
  drawn = omega arith;
  later = λ told. omega arith;
}
  where
    same : Tells → (config : Fields) (opened : Opened) (h : History) → StandsSince config opened h view → (caller : ℕ) → StandsSince config opened (with_all h caller []) view
    same told config opened h before caller = subst (λ g. StandsSince config opened g view) (sym (none_made h caller)) before
