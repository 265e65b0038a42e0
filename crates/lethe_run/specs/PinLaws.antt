-- What the lines of a run say of a pin that bars a tick, and of the pins' numbers.
use Rattle.std.specs.Prelude.{◌≡◌, ◌⊎◌, ℕ, List, ◌∷◌, ◌++◌, filter_map, Contains, Option, Some, None}
use Rattle.lethe_run.specs.declared.reply.Line.{Line}
use Rattle.lethe_run.specs.declared.reply.Line.TheVariants as line
use Rattle.lethe_run.specs.declared.reply.Reply.TheVariants.{Done, Ticked, Got, Scanned, Counted, Pinned, PinGot, PinScanned, Unpinned, Fault, Stopped, Exhausted, Backwards, Barred, ReadFault, Damaged}
use Rattle.lethe_run.specs.Anywhere.{caller_in}
use Rattle.lethe_run.specs.Refusals.{all_of}

-- Where a line is printed: behind the phases `before`, and in its own behind the lines `front`.
pub record IsAt (lines : List (List Line)) (told : Line) : Type 0 where
  pub before : List (List Line)
  pub front : List Line
  pub behind : List Line
  pub after : List (List Line)
  pub are : lines ≡ before ++ (front ++ told ∷ behind) ∷ after

-- Another line may have been answered before it: it stands in no later phase, and is no later line of the same caller.
abbrev pub MayComeBefore : {lines : List (List Line)} {told : Line} → IsAt lines told → Line → Type 0
MayComeBefore {told = told} at other =
    Contains (all_of at.before) other ⊎ (Contains (at.front ++ told ∷ at.behind) other × (caller_in other ≡ caller_in told → Contains at.front other))

-- It surely was: it stands in an earlier phase, or is an earlier line of the same caller.
abbrev pub MustComeBefore : {lines : List (List Line)} {told : Line} → IsAt lines told → Line → Type 0
MustComeBefore {told = told} at other = Contains (all_of at.before) other ⊎ ((caller_in other ≡ caller_in told) × Contains at.front other)

-- The pin of this number, with this limit, may be held where a line is answered: it may have been made before, and no line before lets it go.
pub record MayBeHeld {lines : List (List Line)} {told : Line} (at : IsAt lines told) (number limit : ℕ) : Type 0 where
  pub owner : ℕ
  pub point : ℕ
  pub made : MayComeBefore at (line.Answer owner (Pinned point number limit))
  pub kept : (other now : ℕ) → MustComeBefore at (line.Answer other (Unpinned now number)) → ⊥

-- the number of the pin that a line says was made
abbrev pub number_in : Line → Option ℕ
number_in (line.Answer caller (Done place)) = None
number_in (line.Answer caller (Ticked ticked)) = None
number_in (line.Answer caller (Backwards point clock)) = None
number_in (line.Answer caller (Barred number limit)) = None
number_in (line.Answer caller (Got point held)) = None
number_in (line.Answer caller (Scanned point pairs)) = None
number_in (line.Answer caller (Counted point stat)) = None
number_in (line.Answer caller (Pinned point number limit)) = Some number
number_in (line.Answer caller (PinGot number point held)) = None
number_in (line.Answer caller (PinScanned number point pairs)) = None
number_in (line.Answer caller (Unpinned point number)) = None
number_in (line.Answer caller (Fault place before after)) = None
number_in (line.Answer caller (Stopped at)) = None
number_in (line.Answer caller (Exhausted last)) = None
number_in (line.Answer caller ReadFault) = None
number_in (line.Answer caller (Damaged page)) = None

-- the numbers of the pins that lines say were made, as they follow one another
abbrev pub numbers_in : List (List Line) → List ℕ
numbers_in lines = filter_map number_in (all_of lines)
