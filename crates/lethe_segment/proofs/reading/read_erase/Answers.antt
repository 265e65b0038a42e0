use Rattle.std.proofs.Common.{◌≡◌, ℕ, ◌+◌, ◌<◌, ◌≤◌, true, false, Some, None, Result, Ok, Err, refl, sym, ap, ◌∙◌, ⊎_elim, arith}
use Rattle.std.proofs.lemmas.Bool.{cases_lt}
use Rattle.std.specs.Result.{result_ok}
use Rattle.std.specs.Int.{w8}
use Rattle.lethe_base.specs.Numbers.{number_at}
use Rattle.lethe_base.specs.declared.reading.EntryRefused.{EntryRefused}
use Rattle.lethe_segment.proofs.Standing.{AreRead, here, same_read, none_read, erase_at, no_erase}
use Rattle.lethe_segment.proofs.reading.read_erase.Goals as goal

no_place : (r : Result (ℕ × ℕ) EntryRefused) (place : ℕ × ℕ) → None ≡ result_ok r → r ≡ Ok place → ⊥
no_place (Ok read) place e f = absurd cc
no_place (Err why) place e f = absurd cc

place_is : (r : Result (ℕ × ℕ) EntryRefused) (place : ℕ × ℕ) → Some place ≡ result_ok r → r ≡ Ok place
place_is (Ok read) place e = cc
place_is (Err why) place e = absurd cc

below : (m n : ℕ) → (n ≤ m → true ≡ false) → m < n
below m n other = ⊎_elim (λ lt. lt) (λ le. let clash : true ≡ false = other le in absurd cc) (cases_lt m n)

pub returns-in_err-take_u8 : goal.returns-in_err-take_u8
returns-in_err-take_u8 c = rw c.from_residual.ensures (no_erase c.args.bytes.now c.args.at (λ erase fits kind read. none_read _ 4 c.in_err-take_u8.ensures kind))

pub returns-then-branch-ne-ERASE : goal.returns-then-branch-ne-ERASE
returns-then-branch-ne-ERASE c = no_erase c.args.bytes.now c.args.at (λ erase fits kind read. c.if-branch-ne-ERASE.true (same_read _ _ 4 c.in_ok-take_u8.ensures kind))

pub returns-in_err-seq : goal.returns-in_err-seq
returns-in_err-seq c = rw c.from_residual-in_err-seq.ensures (no_erase c.args.bytes.now c.args.at (λ erase fits kind read. no_place _ _ c.in_err-seq.ensures.value (c.read_place.ensures ∙ read.place)))

pub returns-in_err-time : goal.returns-in_err-time
returns-in_err-time c = rw c.from_residual-in_err-time.ensures (no_erase c.args.bytes.now c.args.at (λ erase fits kind read. none_read _ _ c.in_err-time.ensures read.time))

pub returns-in_err-lo : goal.returns-in_err-lo
returns-in_err-lo c = rw c.from_residual-in_err-lo.ensures (no_erase c.args.bytes.now c.args.at (λ erase fits kind read. none_read _ _ c.in_err-lo.ensures read.lo))

pub returns-in_err-hi : goal.returns-in_err-hi
returns-in_err-hi c = rw c.from_residual-in_err-hi.ensures (no_erase c.args.bytes.now c.args.at (λ erase fits kind read. none_read _ _ c.in_err-hi.ensures read.hi))

pub returns-in_err-range : goal.returns-in_err-range
returns-in_err-range c = rw c.from_residual-in_err-range.ensures (no_erase c.args.bytes.now c.args.at (λ erase fits kind read.
    omega (arith, c.in_err-range.ensures.none.0 refl, same_read _ _ _ c.in_ok-lo.ensures read.lo, same_read _ _ _ c.in_ok-hi.ensures read.hi, fits.some)))

pub returns-else-time-le-MAX_TIME : goal.returns-else-time-le-MAX_TIME
returns-else-time-le-MAX_TIME c = no_erase c.args.bytes.now c.args.at (λ erase fits kind read. omega (arith, c.if-time-le-MAX_TIME.false, same_read _ _ _ c.in_ok-time.ensures read.time, fits.time))

pub returns-then-time-le-MAX_TIME : goal.returns-then-time-le-MAX_TIME
returns-then-time-le-MAX_TIME c =
    let range : c.in_ok-range.range ≡ record { lo = c.in_ok-lo.lo; hi = c.in_ok-hi.hi } = c.in_ok-range.ensures.range in
    let some : c.in_ok-lo.lo < c.in_ok-hi.hi = below _ _ c.in_ok-range.ensures.none.1 in
    let four : number_at w8 c.args.bytes.now c.args.at ≡ Some 4 = sym c.in_ok-take_u8.ensures ∙ ap here c.if-branch-ne-ERASE.false in
    let read : AreRead c.args.bytes.now (c.args.at + 1) (record { seq = c.in_ok-seq.seq; time = c.in_ok-time.time; range = record { lo = c.in_ok-lo.lo; hi = c.in_ok-hi.hi } }) = record {
      behind = c.in_ok-seq.field-0-1;
      place = sym c.read_place.ensures ∙ place_is c.read_place.result (c.in_ok-seq.seq, c.in_ok-seq.field-0-1) c.in_ok-seq.ensures.value;
      time = sym c.in_ok-time.ensures;
      lo = sym c.in_ok-lo.ensures;
      hi = sym c.in_ok-hi.ensures;
    } in
    rw range (erase_at c.args.bytes.now c.args.at _ (λ i. omega (arith, c.type_inv.bytes i)) four read c.if-time-le-MAX_TIME.true some)
