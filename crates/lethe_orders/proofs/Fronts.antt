-- What the front of a level's due list tells of the level's files.
use Rattle.std.proofs.Common.{◌≡◌, ℕ, ◌+◌, ◌≤◌, Bool, true, false, List, [], ◌∷◌, length, get_or, ◌<◌, AllPairs, Option, Some, None, refl, sym, ap, ◌∙◌, arith}
use Rattle.std.specs.Prelude.{◌||◌, nat_le, unwrap_or}
use Rattle.std.specs.List.{list_any}
use Rattle.std.specs.List.{cons_option}
use Rattle.std.specs.Option.{option_map}
use Rattle.std.proofs.lemmas.Bool.Decides.{nat_tests}
use Rattle.std.proofs.lemmas.List.Elements.{All-weaker}
use Rattle.std.proofs.lemmas.List.Folds.{list_any_none}
use Rattle.std.proofs.lemmas.Option.{slice_get-get_or}
use Rattle.lethe_base.specs.declared.config.Fields.{Fields}
use Rattle.lethe_base.specs.declared.shape.FileFacts.{FileFacts}
use Rattle.lethe_base.specs.declared.shape.Shape.{Shape}
use Rattle.lethe_due.specs.Due.{ComesBefore, Due, first_of}
use Rattle.lethe_due.specs.declared.due_file.DueFile.{DueFile}
use Rattle.lethe_due.proofs.Ordered.{pairs_head}
use Rattle.lethe_fade.specs.Expired.{is_expired, is_passed}
use Rattle.lethe_fade.specs.LevelTimes.{level_deadline}
use Rattle.lethe_orders.specs.Changes.{due_at}
use Rattle.lethe_orders.specs.Firsts.{is_front_expired}
use Rattle.lethe_orders.specs.Standing.{IsOrderOf, StandFor, timed}
use Rattle.lethe_orders.proofs.Items.{same_any}

still_early : (time later part clock : ℕ) → time ≤ later → nat_le (time + part) clock ≡ false → nat_le (later + part) clock ≡ false
still_early time later part clock le early = grind (arith, nat_tests)

module _ (fields : Fields) (clock level : ℕ) where
  abbrev is_over : DueFile → Bool
  is_over file = is_passed fields clock level (Some file.oldest)

  timed_any : (files : List FileFacts) → list_any (is_expired fields clock level) files ≡ list_any is_over (timed files)
  timed_any [] = refl
  timed_any (file ∷ files) = by file.oldest (timed_any files)
    where
      by : (o : Option ℕ) → list_any (is_expired fields clock level) files ≡ list_any is_over (timed files)
          → (is_passed fields clock level o || list_any (is_expired fields clock level) files)
          ≡ list_any is_over (cons_option (option_map (λ (time : ℕ). let made : DueFile = record { no = file.no; oldest = time } in made) o) (timed files))
      by None rest = rest
      by (Some time) rest = ap (λ b. is_passed fields clock level (Some time) || b) rest

  front_any : (dues : List DueFile) → AllPairs ComesBefore dues → is_passed fields clock level (option_map (λ (first : ℕ × ℕ). first.1) (first_of dues)) ≡ list_any is_over dues
  front_any [] ordered = refl
  front_any (file ∷ dues) ordered = by (is_over file) refl
    where
      by : (b : Bool) → is_over file ≡ b → is_over file ≡ (is_over file || list_any is_over dues)
      by true e = e ∙ sym (ap (λ b. b || list_any is_over dues) e)
      by false e =
          e ∙ sym (ap (λ b. b || list_any is_over dues) e
          ∙ list_any_none is_over dues
          (All-weaker (ComesBefore file) (λ other. is_over other ≡ false)
          (λ other before. still_early file.oldest other.oldest (level_deadline fields level) clock before.time e) dues (pairs_head ComesBefore file dues ordered)))

  pub front_tells : (files : List FileFacts) (due : Due) → IsOrderOf files due → is_front_expired fields clock level due ≡ list_any (is_expired fields clock level) files
  front_tells files due stands = front_any due.files stands.order.ordered ∙ same_any is_over due.files (timed files) stands.same ∙ sym (timed_any files)

  -- of a level that has a list
  pub level_tells : (shape : Shape) (orders : List Due) → StandFor shape orders → level + 1 < length shape.levels
      → is_front_expired fields clock level (due_at level orders) ≡ list_any (is_expired fields clock level) (get_or shape.levels level [])
  level_tells shape orders stand within =
      let no_due : Due = record { files = []; spare = 0 } in
      let there = slice_get-get_or orders level no_due (omega (arith, stand.count)) in
      ap (λ (o : Option Due). is_front_expired fields clock level (unwrap_or o no_due)) there
      ∙ front_tells (get_or shape.levels level []) (get_or orders level no_due)
      (stand.lists level (get_or shape.levels level []) (get_or orders level no_due) (slice_get-get_or shape.levels level [] (omega arith)) there)
