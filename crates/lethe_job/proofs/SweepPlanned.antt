-- The task of a plan that names a sweep sweeps a stored file by the oldest erase that the file isn't swept of.
use Rattle.std.proofs.Common.{◌≡◌, ◌≢◌, inl, inr, ℕ, ◌<◌, ◌≤◌, Bool, true, false, eqb, ltb, leb, IsTrue, List, [], ◌∷◌, ◌++◌, None, Some, refl, sym, ap, ◌∙◌, subst, arith}
use Rattle.std.specs.Prelude.{◌&&◌, ◌||◌, All, Any, Contains, IsSomeAnd, Option, find}
use Rattle.std.specs.List.{list_any}
use Rattle.std.proofs.lemmas.Bool.{and_from, and_parts, cases_eq, cases_lt, cond-false, cond-true, eq-eqb, eqb-true, le-leb, le-ltb, leb-true, lt-ltb, ne_eqb, not-true, not_from_false, or_from, or_parts}
use Rattle.std.proofs.lemmas.List.Elements.{All-cons, All-contains, All-nil}
use Rattle.std.proofs.lemmas.List.Folds.{list_any_none}
use Rattle.std.proofs.lemmas.List.Sums.{sum_by-cons}
use Rattle.lethe_base.specs.declared.pending.Pending.{Pending}
use Rattle.lethe_cover.proofs.Common.{first_is}
use Rattle.lethe_cover.proofs.Lists.{Pairs, all_from, in_rest, pairs_from, pairs_parts}
use Rattle.lethe_fade.specs.Spans.{KeyRange, overlaps}
use Rattle.lethe_fade.specs.declared.plan.Plan.{Plan}
use Rattle.lethe_follows.specs.Merged.{range_of}
use Rattle.lethe_header.specs.Headers.{entries_in}
use Rattle.lethe_moves.specs.Files.{IsClearOf}
use Rattle.lethe_stored.specs.Files.{StoredFile, file_of, lines_in}
use Rattle.lethe_stored.specs.Stored.{Stored, IsCoherent, pending_of}
use Rattle.lethe_stored.proofs.Leveled.{low_level}
use Rattle.lethe_sweeps.specs.Swept.{HasNoneBelow, IsSweepIn, StoredSweep}
use Rattle.lethe_sweeps.proofs.FirstLeft.{first_oldest}
use Rattle.lethe_sweep_task.specs.Outcome.{PlainSweep}
use Rattle.lethe_job.specs.Chosen.{is_below, range_in}
use Rattle.lethe_job.specs.SweepTasks.{IsPlannedSweep, NamesSweep, any_overlaps, behind, is_alone, is_filed, is_first_over, sweep_in}
use Rattle.lethe_job.specs.Tasks.{counted_in}
use Rattle.lethe_job.proofs.Listed.{IsAmong, among, find_some, find_there, from_any, one_numbered, one_summed}
use Rattle.lethe_job.proofs.Planned.{none_passes, range_same}
use Rattle.lethe_job.proofs.Split.{and_false}

abbrev number_in : StoredFile → ℕ
number_in file = file.header.no

abbrev AreApart : StoredFile → StoredFile → Type 0
AreApart a b = number_in a ≢ number_in b

-- the second of two tests, where the first passes and not both do
second_fails : (a b : Bool) → a ≡ true → (a && b) ≡ false → b ≡ false
second_fails true b passes none = none
second_fails false b passes none = absurd cc

-- what stands behind a file is behind the first one of its number
behind_is : (before back : List StoredFile) (file : StoredFile) → ((other : StoredFile) → Contains before other → number_in other ≢ number_in file)
    → behind (number_in file) (before ++ (file ∷ back)) ≡ back
behind_is [] back file apart = cond-true (eqb (number_in file) (number_in file)) back (behind (number_in file) back) (eq-eqb (number_in file) (number_in file) refl)
behind_is (first ∷ before) back file apart =
    let all = before ++ (file ∷ back) in
    cond-false (eqb (number_in first) (number_in file)) all (behind (number_in file) all) (ne_eqb (number_in first) (number_in file) (apart first (first_is first before first refl)))
    ∙ behind_is before back file (λ other there. apart other (in_rest first before other there))

module _ (s : Stored) (coherent : IsCoherent s) (file : StoredFile) (there : Contains s.files file) where
  abbrev range : KeyRange
  range = range_in file

  apart : Pairs AreApart s.files
  apart = pairs_from AreApart s.files coherent.files_once

  pub split : IsAmong number_in s.files file
  split = among number_in s.files file apart there

  abbrev pub w : StoredSweep
  w = record { front = split.before; file = file; back = split.behind }

  back_is : behind (number_in file) s.files ≡ split.behind
  back_is =
      let parts = pairs_parts AreApart split.before (file ∷ split.behind) (subst (Pairs AreApart) split.are apart) in
      ap (behind (number_in file)) split.are
      ∙ behind_is split.before split.behind file (λ other before. parts.2 other file before (first_is file split.behind file refl))

  -- two files overlap as they are stored where they do by their headers
  abbrev overlaps_file : StoredFile → Bool
  overlaps_file other = overlaps range (range_in other)

  cleared : (other : StoredFile) → overlaps_file other ≡ false → IsClearOf (range_of file) (file_of other)
  cleared other fails = sym (λ i. overlaps (range_same file i) (range_same other i)) ∙ fails

  clear_fails : (other : StoredFile) → IsClearOf (range_of file) (file_of other) → overlaps_file other ≡ false
  clear_fails other clear = (λ i. overlaps (range_same file i) (range_same other i)) ∙ clear

  abbrev below : StoredFile → Bool
  below = is_below file.level range

  abbrev IsClearBelow : StoredFile → Type 0
  IsClearBelow other = file.level < other.level → IsClearOf (range_of file) (file_of other)

  abbrev IsClearAtTop : StoredFile → Type 0
  IsClearAtTop other = other.level ≡ 0 → IsClearOf (range_of file) (file_of other)

  abbrev hides : Bool
  hides = any_overlaps range (behind (number_in file) s.files)

  pub alone_from : IsTrue (is_alone s.files file) → HasNoneBelow s w
  alone_from alone =
      let none = or_parts (list_any below s.files) (eqb file.level 0 && hides) (not-true (list_any below s.files || (eqb file.level 0 && hides)) alone) in
      record {
        deeper = all_from IsClearBelow s.files (λ other inside deeper.
            let less = lt-ltb file.level other.level deeper in
            cleared other (second_fails (ltb file.level other.level) (overlaps_file other) less (none_passes below s.files none.0 other inside)));
        older = λ zeroth.
            let fails : hides ≡ false = second_fails (eqb file.level 0) hides (eq-eqb file.level 0 zeroth) none.1 in
            let fails_back : any_overlaps range split.behind ≡ false = ap (any_overlaps range) (sym back_is) ∙ fails in
            all_from IsClearAtTop split.behind (λ other inside top.
            cleared other (second_fails (eqb other.level 0) (overlaps_file other) (eq-eqb other.level 0 top) (none_passes (is_first_over range) split.behind fails_back other inside)));
      }

  none_deeper : ((other : StoredFile) → Contains s.files other → IsClearBelow other) → list_any below s.files ≡ false
  none_deeper clear = list_any_none below s.files (all_from (λ other. below other ≡ false) s.files (λ other inside. elim (cases_lt file.level other.level) [
    | inl deeper ↦ and_false (ltb file.level other.level) (overlaps_file other) (clear_fails other (clear other inside deeper))
    | inr upto ↦ ap (λ b. b && overlaps_file other) (le-ltb file.level other.level upto)
  ]))

  none_older : (file.level ≡ 0 → (other : StoredFile) → Contains split.behind other → IsClearAtTop other) → (eqb file.level 0 && hides) ≡ false
  none_older clear = elim (cases_eq file.level 0) [
    | inl zeroth ↦ and_false (eqb file.level 0) hides (ap (any_overlaps range) back_is
        ∙ list_any_none (is_first_over range) split.behind (all_from (λ other. is_first_over range other ≡ false) split.behind (λ other inside. elim (cases_eq other.level 0) [
          | inl top ↦ and_false (eqb other.level 0) (overlaps_file other) (clear_fails other (clear zeroth other inside top))
          | inr deep ↦ ap (λ b. b && overlaps_file other) (ne_eqb other.level 0 deep)
        ])))
    | inr deep ↦ ap (λ b. b && hides) (ne_eqb file.level 0 deep)
  ]

  pub alone_to : HasNoneBelow s w → IsTrue (is_alone s.files file)
  alone_to clear = not_from_false (list_any below s.files || (eqb file.level 0 && hides)) (or_from (list_any below s.files) (eqb file.level 0 && hides)
      (none_deeper (λ other inside. All-contains IsClearBelow s.files other clear.deeper inside))
      (none_older (λ zeroth other inside. All-contains IsClearAtTop split.behind other (clear.older zeroth) inside)))

  -- nothing lies deeper than the last level, which isn't level 0
  bottom : file.level ≡ s.manifest.config.levels → HasNoneBelow s w
  bottom last =
      let some = coherent.spelled.config.levels in
      record {
        deeper = all_from IsClearBelow s.files (λ other inside deeper. let low = low_level s coherent other inside in absurd (omega (arith, last, deeper, low)));
        older = λ zeroth. absurd (omega (arith, last, zeroth, some));
      }

  module _ (plan : Plan) (erase : Pending) (pending : Contains (pending_of s) erase) (planned : plan.erase ≡ Some erase.seq) (numbered : file.header.no ≡ plan.file) (names : NamesSweep s plan.file erase.seq) where
    same : names.file ≡ file
    same = one_numbered number_in s.files apart names.file file names.there there (names.number_is ∙ sym numbered)

    unswept : file.swept < erase.seq
    unswept = let swept = ap (λ (f : StoredFile). f.swept) same in let less = names.unswept in omega (arith, swept, less)

    is_sweep : IsSweepIn s w erase (is_alone s.files file)
    is_sweep = record {
      files = split.are;
      pending = pending;
      unswept = unswept;
      oldest = λ other inside left.
          let first = first_oldest s coherent w split.are names.erase names.later names.first other inside left in
          let place = names.place_is in
          omega (arith, first, place);
      clear = alone_from;
      bottom = λ last. alone_to (bottom last);
    }

    pub is_planned_sweep : IsPlannedSweep s (sweep_in plan s.files file erase)
    is_planned_sweep = record {
      w = w;
      is = record { sweep = is_sweep; file = refl };
      number = numbered;
      erase = planned;
      alone = alone_to;
    }

-- What is found among some files and erases

one_counted : (files : List StoredFile) (file : StoredFile) → Contains files file → counted_in (file ∷ []) ≤ counted_in files
one_counted files file there =
    let counted : StoredFile → ℕ = λ file. entries_in (lines_in file) in
    omega (arith, sum_by-cons counted file [], one_summed counted files file there)

module _ (levels : ℕ) (plan : Plan) (place : ℕ) (files : List StoredFile) (erases : List Pending) where
  abbrev has_place : Pending → Bool
  has_place erase = eqb erase.seq place

  pub some_file : Any (λ (file : StoredFile). (file.header.no ≡ plan.file) × (file.level ≤ levels)) files → (file : StoredFile) × (find (is_filed levels plan.file) files ≡ Some file)
  some_file any =
      let found = from_any (λ (file : StoredFile). (file.header.no ≡ plan.file) × (file.level ≤ levels)) files any in
      let file : StoredFile = found.0 in
      let within = le-leb file.level levels found.2.1 in
      find_there (is_filed levels plan.file) files file found.1 (and_from (leb file.level levels) (eqb file.header.no plan.file) within (eq-eqb file.header.no plan.file found.2.0))

  pub some_erase : Any (λ (erase : Pending). erase.seq ≡ place) erases → (erase : Pending) × (find has_place erases ≡ Some erase)
  some_erase any =
      let found = from_any (λ (erase : Pending). erase.seq ≡ place) erases any in
      find_there has_place erases found.0 found.1 (eq-eqb found.0.seq place found.2)

  -- the task is the sweep of one of the files, by one of the erases
  pub record IsSweepOfOne (task : PlainSweep) : Type 0 where
    pub file : StoredFile
    pub there : Contains files file
    pub low : file.level ≤ levels
    pub number : file.header.no ≡ plan.file
    pub erase : Pending
    pub among : Contains erases erase
    pub place_is : erase.seq ≡ place
    pub is : task ≡ sweep_in plan files file erase

  module _ (task : PlainSweep) where
    abbrev IsFound : Option StoredFile → Option Pending → Type 0
    IsFound file erase = IsSomeAnd file (λ file. IsSomeAnd erase (λ erase. task ≡ sweep_in plan files file erase))

    by : (file : Option StoredFile) → find (is_filed levels plan.file) files ≡ file → (erase : Option Pending) → find has_place erases ≡ erase → IsFound file erase → IsSweepOfOne task
    by None found erase at is = absurd is
    by (Some file) found None at is = absurd is
    by (Some file) found (Some erase) at is =
        let own = find_some (is_filed levels plan.file) files file found in
        let tests = and_parts (leb file.level levels) (eqb file.header.no plan.file) own.1 in
        let placed = find_some has_place erases erase at in
        record {
          file = file;
          there = own.0;
          low = leb-true file.level levels tests.0;
          number = eqb-true file.header.no plan.file tests.1;
          erase = erase;
          among = placed.0;
          place_is = eqb-true erase.seq place placed.1;
          is = is;
        }

    pub found_sweep : IsFound (find (is_filed levels plan.file) files) (find has_place erases) → IsSweepOfOne task
    found_sweep is = by (find (is_filed levels plan.file) files) refl (find has_place erases) refl is

    module _ (one : IsSweepOfOne task) where
      pub sweep_low : task.file.level ≤ levels
      sweep_low = let level = ap (λ (t : PlainSweep). t.file.level) one.is in let low = one.low in omega (arith, level, low)

      pub sweep_counted : counted_in (task.file ∷ []) ≤ counted_in files
      sweep_counted = subst (λ (t : PlainSweep). counted_in (t.file ∷ []) ≤ counted_in files) (sym one.is) (one_counted files one.file one.there)

      pub sweep_from : All (Contains files) (task.file ∷ [])
      sweep_from = subst (λ (t : PlainSweep). All (Contains files) (t.file ∷ [])) (sym one.is) (All-cons (Contains files) one.file [] one.there (All-nil (Contains files)))

      pub sweep_erase : task.erase ≡ one.erase
      sweep_erase = ap (λ (t : PlainSweep). t.erase) one.is

      pub sweep_upto : (most : ℕ) → All (λ (erase : Pending). erase.seq ≤ most) erases → task.erase.seq ≤ most
      sweep_upto most each = subst (λ (erase : Pending). erase.seq ≤ most) (sym sweep_erase) (All-contains (λ (erase : Pending). erase.seq ≤ most) erases one.erase each one.among)

      pub sweep_times : (most : ℕ) → All (λ (erase : Pending). erase.time ≤ most) erases → All (λ (erase : Pending). erase.time ≤ most) (task.erase ∷ [])
      sweep_times most each =
          let IsEarly : Pending → Type 0 = λ (erase : Pending). erase.time ≤ most in
          All-cons IsEarly task.erase [] (subst IsEarly (sym sweep_erase) (All-contains IsEarly erases one.erase each one.among)) (All-nil IsEarly)

      pub sweep_planned : (s : Stored) → IsCoherent s → files ≡ s.files → erases ≡ pending_of s → plan.erase ≡ Some place → NamesSweep s plan.file place → IsPlannedSweep s task
      sweep_planned s coherent are pending planned names =
          subst (IsPlannedSweep s) (sym (one.is ∙ ap (λ l. sweep_in plan l one.file one.erase) are))
          (is_planned_sweep s coherent one.file (subst (λ l. Contains l one.file) are one.there) plan one.erase (subst (λ l. Contains l one.erase) pending one.among)
          (planned ∙ ap Some (sym one.place_is)) one.number (subst (NamesSweep s plan.file) (sym one.place_is) names))
