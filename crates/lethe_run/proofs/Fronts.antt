-- The front of a bad line.
use Rattle.std.proofs.Common.{◌≡◌, ◌≤◌, ◌++◌, ℕ, length, take, Option, Some, None, IfSome, inl, inr, sym, ap, ◌∙◌, subst, arith, append-nil}
use Rattle.std.specs.Prelude.{option_map}
use Rattle.std.specs.Io.KnownBytes.{Consumes, IsAtEnd}
use Rattle.std.proofs.lemmas.Bool.{cases_lt}
use Rattle.std.proofs.lemmas.List.{take-append-le}
use Rattle.lethe_base.specs.Keys.{Bytes}
use Rattle.lethe_run.specs.Reasons.{IsLineAt, IsShownOf}

pub at_some : {A B : Type 0} (f : A → B) (o : Option A) (x : Option B) → option_map f o ≡ x → IfSome o (λ a. x ≡ Some (f a))
at_some f None x e = tt
at_some f (Some a) x e = sym e

pub shown_of : (bytes : Bytes) (number : ℕ) (part line : Bytes) (front : Option Bytes) → part ≡ take 16777216 bytes → IsLineAt part number line → IfSome front (λ f. f ≡ take 160 line) → IfSome front (IsShownOf bytes number)
unfolding IsShownOf
shown_of bytes number part line None is at e = tt
shown_of bytes number part line (Some f) is at e = (line, subst (λ p. IsLineAt p number line) is at, e)

-- what was read to the end, or past the limit, begins as all that there was
pub front_read : (all left : Option Bytes) (bytes : Bytes) → Consumes all left bytes → (length bytes ≤ 16777216 → IsAtEnd left)
    → IfSome all (λ all. take 16777216 all ≡ take 16777216 bytes)
front_read None left bytes consumed end = tt
front_read (Some all) None bytes consumed end = absurd consumed
front_read (Some all) (Some rest) bytes consumed end = elim (cases_lt 16777216 (length bytes)) [
  | inl long ↦ ap (take 16777216) consumed ∙ take-append-le 16777216 bytes rest (omega arith)
  | inr short ↦ ap (take 16777216) (consumed ∙ ap (λ rest. bytes ++ rest) (end short) ∙ append-nil bytes)
]

shown_too : (all bytes : Bytes) (number : ℕ) (f : Bytes) → take 16777216 all ≡ take 16777216 bytes → IsShownOf bytes number f → IsShownOf all number f
unfolding IsShownOf
shown_too all bytes number f same s = (s.0, subst (λ p. IsLineAt p number s.0) (sym same) s.1, s.2)

-- what is shown of the bytes that were read is shown of the source's
pub shown_all : (source front : Option Bytes) (bytes : Bytes) (number : ℕ) → IfSome source (λ all. take 16777216 all ≡ take 16777216 bytes) → IfSome front (IsShownOf bytes number)
    → IfSome front (λ f. IfSome source (λ all. IsShownOf all number f))
shown_all source None bytes number same s = tt
shown_all None (Some f) bytes number same s = tt
shown_all (Some all) (Some f) bytes number same s = shown_too all bytes number f same s
