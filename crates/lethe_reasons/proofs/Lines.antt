-- What is shown is one line.
use Rattle.std.proofs.Common.{◌≡◌, ℕ, Bool, true, false, cond, [], ◌∷◌, ◌++◌, length-append, get_or, take, arith, refl, sym, ap, ◌∙◌, append-nil, append_assoc}
use Rattle.std.proofs.lemmas.List.Elements.{All-map, All-append}
use Rattle.std.specs.List.{All}
use Rattle.lethe_base.specs.Keys.{Bytes}
use Rattle.lethe_reasons.specs.Messages.{IsLine, Shows, IsShown, is_control, shown, shown_byte, or_mark}

by_test : (b : Bool) (byte : ℕ) → is_control byte ≡ b → is_control (cond b 63 byte) ≡ false
by_test true byte is = refl
by_test false byte is = is

shown_is : (byte : ℕ) → IsShown (shown_byte byte)
shown_is byte = by_test (is_control byte) byte refl

all_shown : (piece : Bytes) → All IsShown (shown piece)
unfolding shown
all_shown piece = All-map IsShown shown_byte piece (λ k d h. shown_is (get_or piece k d))

pub line_of : (text : Bytes) → IsLine (shown (or_mark text))
unfolding shown or_mark
line_of [] = record { some = omega arith; shown = all_shown (63 ∷ []) }
line_of (byte ∷ more) = record { some = omega arith; shown = all_shown (byte ∷ more) }

pub line_and : (front piece : Bytes) → IsLine front → IsLine (front ++ shown piece)
line_and front piece line = record { some = omega (arith, length-append front (shown piece), line.some); shown = All-append IsShown front (shown piece) line.shown (all_shown piece) }

pub shows_here : (front given message : Bytes) → message ≡ front ++ shown (take 160 given) → Shows given message
shows_here front given message is = record { before = front; behind = []; is = is ∙ sym (append-nil (front ++ shown (take 160 given))) }

pub shows_more : (given front more message : Bytes) → Shows given front → message ≡ front ++ more → Shows given message
shows_more given front more message s is = record { before = s.before; behind = s.behind ++ more; is = is ∙ ap (λ l. l ++ more) s.is ∙ append_assoc (s.before ++ shown (take 160 given)) s.behind more }
