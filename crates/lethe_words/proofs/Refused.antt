-- Words that may not be read are no command.
use Rattle.std.proofs.Common.{◌≡◌, ◌∙◌, ◌&&◌, ◌==◌, ℕ, Bool, cond, true, false, not, refl, sym, ap, List, [], ◌∷◌, Option, Some, None, is_none, option_map, option_and_then, true≢false, codes, bytes_eq, arith, eqb-true}
use Rattle.std.specs.List.{list_all}
use Rattle.std.specs.Result.{result_ok}
use Rattle.lethe_base.specs.Keys.{Bytes}
use Rattle.lethe_script.proofs.Numbers.{number_begins}
use Rattle.lethe_words.specs.Asked.{◌>>=◌, load_of, load_requested, max_rounds, number, number_in, request_by, request_of, requested}
use Rattle.lethe_words.specs.Front.{goes_on, is_clear, may_be_read, may_load}
use Rattle.lethe_words.specs.Options.{Given, are_options, begun, checked, given_to, is_option, is_plain, option_in, options_of, pairs, with_pair}
use Rattle.lethe_words.specs.declared.request.Command.{Command}
use Rattle.lethe_words.specs.declared.request.Command.TheVariants.{Run}

-- ---- options

never : (a b : Bool) → (a && (b && false)) ≡ false
never false b = refl
never true false = refl
never true true = refl

-- one pair more makes no options
with_more : (g : Given) (o : Option (List Given)) → option_and_then checked o ≡ None → option_and_then checked (option_map (λ more. g ∷ more) o) ≡ None
with_more g None none = refl
with_more g (Some more) none = go (are_options more) none
  where
    go : (b : Bool) → cond b (Some more) None ≡ None → cond (is_option g.0 && (is_none (given_to g.0 more) && b)) (Some (g ∷ more)) None ≡ None
    go true is = absurd (true≢false (sym (ap is_none is)))
    go false is = ap (λ b. cond b (Some (g ∷ more)) None) (never (is_option g.0) (is_none (given_to g.0 more)))

-- nor does a name that is no option
unknown : (name value : Bytes) (o : Option (List Given)) → is_option name ≡ false → option_and_then checked (with_pair name value o) ≡ None
unknown name value None other = refl
unknown name value (Some more) other = rw other refl

unknown_name : (name : Bytes) (words : List Bytes) → is_option name ≡ false → option_and_then checked (pairs (Some name) words) ≡ None
unknown_name name [] other = refl
unknown_name name (word ∷ words) other = go (is_plain word)
  where
    go : (b : Bool) → option_and_then checked (cond b (with_pair name word (pairs None words)) None) ≡ None
    go true = unknown name word (pairs None words) other
    go false = refl

-- a word that isn't clear begins no option
begins_none : (word : Bytes) (words : List Bytes) → is_clear word ≡ false → option_and_then checked (pairs None (word ∷ words)) ≡ None
begins_none [] words unclear = absurd (true≢false unclear)
begins_none (first ∷ rest) words unclear = go (first == 45) refl unclear
  where
    behind : (more : Bytes) → (first == 45) ≡ true → goes_on more ≡ false → option_and_then checked (pairs None ((first ∷ more) ∷ words)) ≡ None
    behind [] hyphen ends = rw hyphen refl
    behind (next ∷ []) hyphen ends = rw hyphen (two (next == 45))
      where
        two : (b : Bool) → option_and_then checked (Rattle.lethe_words.specs.Options.begun_by (option_map Rattle.lethe_words.specs.Options.named (cond b (Some []) None)) (λ waiting. pairs waiting words)) ≡ None
        two true = unknown_name [] words refl
        two false = refl
    behind (next ∷ x ∷ xs) hyphen ends = rw (hyphen, ends) refl

    go : (b : Bool) → (first == 45) ≡ b → cond b (goes_on rest) true ≡ false → option_and_then checked (pairs None ((first ∷ rest) ∷ words)) ≡ None
    go true hyphen ends = behind rest hyphen ends
    go false other ends = absurd (true≢false ends)

not_plain : (word : Bytes) → is_clear word ≡ false → is_plain word ≡ false
not_plain [] unclear = absurd (true≢false unclear)
not_plain (first ∷ rest) unclear = go (first == 45) unclear
  where
    go : (b : Bool) → cond b (goes_on rest) true ≡ false → not b ≡ false
    go true ends = refl
    go false ends = absurd (true≢false ends)

spoiled : (words : List Bytes) → list_all is_clear words ≡ false → (waiting : Option Bytes) → option_and_then checked (pairs waiting words) ≡ None
spoiled [] bad waiting = absurd (true≢false bad)
spoiled (word ∷ words) bad None = go (is_clear word) refl bad (spoiled words)
  where
    by_option : (o : Option (Bytes × Option Bytes)) → ((waiting : Option Bytes) → option_and_then checked (pairs waiting words) ≡ None)
        → option_and_then checked (Rattle.lethe_words.specs.Options.begun_by o (λ waiting. pairs waiting words)) ≡ None
    by_option None ih = refl
    by_option (Some p) ih = by_value p.1
      where
        by_value : (v : Option Bytes) → option_and_then checked (begun p.0 v (λ waiting. pairs waiting words)) ≡ None
        by_value None = ih (Some p.0)
        by_value (Some v) = with_more (p.0, v) (pairs None words) (ih None)

    go : (b : Bool) → is_clear word ≡ b → (b && list_all is_clear words) ≡ false → (list_all is_clear words ≡ false → (waiting : Option Bytes) → option_and_then checked (pairs waiting words) ≡ None)
        → option_and_then checked (pairs None (word ∷ words)) ≡ None
    go true clear rest ih = by_option (option_in word) (ih rest)
    go false unclear rest ih = begins_none word words unclear
spoiled (word ∷ words) bad (Some name) = go (is_clear word) refl bad (spoiled words)
  where
    by_word : (b : Bool) → option_and_then checked (pairs None words) ≡ None → option_and_then checked (cond b (with_pair name word (pairs None words)) None) ≡ None
    by_word true ih = with_more (name, word) (pairs None words) ih
    by_word false ih = refl

    go : (b : Bool) → is_clear word ≡ b → (b && list_all is_clear words) ≡ false → (list_all is_clear words ≡ false → (waiting : Option Bytes) → option_and_then checked (pairs waiting words) ≡ None)
        → option_and_then checked (pairs (Some name) (word ∷ words)) ≡ None
    go true clear rest ih = by_word (is_plain word) (ih rest None)
    go false unclear rest ih = rw (not_plain word unclear) refl

-- ---- seeds and rounds

no_number : (word : Bytes) → is_plain word ≡ false → number word ≡ None
no_number [] hyphen = absurd (true≢false hyphen)
no_number (first ∷ rest) hyphen = go (first == 45) refl hyphen
  where
    go : (b : Bool) → (first == 45) ≡ b → not b ≡ false → number (first ∷ rest) ≡ None
    go true is not_is = ap result_ok (number_begins (first ∷ rest) (λ begins. absurd (omega (arith, begins.low, eqb-true first 45 is))))
    go false is not_is = absurd (true≢false not_is)

no_seed : (seed rounds : Bytes) → number seed ≡ None → load_of seed rounds ≡ None
unfolding load_of
no_seed seed rounds none = rw none refl

no_rounds : (seed rounds : Bytes) → number rounds ≡ None → load_of seed rounds ≡ None
unfolding load_of
no_rounds seed rounds none = rw none (go (number seed))
  where
    go : (o : Option ℕ) → o >>= (λ s. None >>= number_in 0 max_rounds >>= (λ r. Some (Rattle.lethe_words.specs.declared.request.Command.TheVariants.Load s r))) ≡ None
    go None = refl
    go (Some s) = refl

no_command : (words : List Bytes) → requested None words ≡ None
unfolding request_by
no_command words = go (options_of words)
  where
    go : (o : Option (List Given)) → o >>= (λ given. request_by None (λ name. given_to name given)) ≡ None
    go None = refl
    go (Some gs) = refl

no_options : (command : Option Command) (words : List Bytes) → list_all is_clear words ≡ false → requested command words ≡ None
no_options command words bad = ap (λ o. o >>= (λ given. request_by command (λ name. given_to name given))) (spoiled words bad None)

no_load : (words : List Bytes) → may_load words ≡ false → load_requested words ≡ None
no_load [] bad = refl
no_load (seed ∷ []) bad = refl
no_load (seed ∷ rounds ∷ words) bad = go (is_plain seed) (is_plain rounds) refl refl bad
  where
    go : (s r : Bool) → is_plain seed ≡ s → is_plain rounds ≡ r → (s && (r && list_all is_clear words)) ≡ false → requested (load_of seed rounds) words ≡ None
    go false r seed_is rounds_is rest = ap (λ command. requested command words) (no_seed seed rounds (no_number seed seed_is)) ∙ no_command words
    go true false seed_is rounds_is rest = ap (λ command. requested command words) (no_rounds seed rounds (no_number rounds rounds_is)) ∙ no_command words
    go true true seed_is rounds_is rest = no_options (load_of seed rounds) words rest

pub refused : (words : List Bytes) → may_be_read words ≡ false → None ≡ request_of words
unfolding request_of
refused [] bad = refl
refused (command ∷ words) bad = sym (go (bytes_eq command (codes "run")) (bytes_eq command (codes "load")) bad)
  where
    go : (run load : Bool) → cond run (list_all is_clear words) (cond load (may_load words) false) ≡ false
        → cond run (requested (Some Run) words) (cond load (load_requested words) None) ≡ None
    go true load rest = no_options (Some Run) words rest
    go false true rest = no_load words rest
    go false false rest = refl
