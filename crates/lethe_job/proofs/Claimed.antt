-- The claim of a plan's task is the one that the choice gives the plan.
use Rattle.std.proofs.Common.{◌≡◌, ◌≢◌, inl, inr, ℕ, zero, suc, ◌+◌, ◌<◌, ◌≤◌, Bool, false, eqb, List, [], ◌∷◌, ◌++◌, map, Some, None, refl, sym, ap, ◌∙◌, subst, arith, append-nil}
use Rattle.std.specs.Prelude.{◌==◌, Contains, Option, find}
use Rattle.std.specs.List.{list_any, range_with_len}
use Rattle.std.specs.Option.{option_or, option_map}
use Rattle.std.proofs.lemmas.Bool.{cases_eq, cond-false, cond-true, eq-eqb, eqb-true, ne_eqb}
use Rattle.std.proofs.lemmas.List.Elements.{Contains-append_left, Contains-append_right, filter_agree}
use Rattle.std.proofs.lemmas.List.Kept.{AllPairs-filter}
use Rattle.lethe_sweeps.proofs.Lists.{map-filter}
use Rattle.lethe_base.specs.Shapes as shapes
use Rattle.lethe_base.specs.Shapes.{IsValidShape}
use Rattle.lethe_base.specs.Spent.{done_upto, is_above}
use Rattle.lethe_base.specs.declared.pending.Pending.{Pending}
use Rattle.lethe_base.specs.declared.shape.FileFacts.{FileFacts}
use Rattle.lethe_cover.proofs.Common.{none_in, first_is}
use Rattle.lethe_cover.proofs.Lists.{in_map, map_from, pairs_from}
use Rattle.lethe_fade.specs.Candidates.{first_files}
use Rattle.lethe_fade.specs.Choice.{choice}
use Rattle.lethe_fade.specs.Claimed.{claim_in, claim_of, job_claim}
use Rattle.lethe_fade.specs.Claims.{IsProper, claim_at, claim_over, meets, merge_claim}
use Rattle.lethe_fade.specs.Spans as facts
use Rattle.lethe_fade.specs.Spans.{KeyRange, overlaps, overlapping}
use Rattle.lethe_fade.specs.declared.claim.Claim.{Claim}
use Rattle.lethe_fade.specs.declared.plan.Plan.{Plan}
use Rattle.lethe_fade.proofs.ClaimLaws.{choice_is_free}
use Rattle.lethe_follows.specs.Merged.{StoredMerge, IsMergeIn, at, hull_of, range_of}
use Rattle.lethe_stored.specs.Files.{StoredFile}
use Rattle.lethe_stored.specs.Stored.{Stored, IsCoherent, layout_of, pending_of}
use Rattle.lethe_stored.proofs.Leveled.{from_level, in_level, low_level, of_level}
use Rattle.lethe_sweep_task.specs.Outcome.{PlainSweep}
use Rattle.lethe_job.specs.Chosen.{hull_in, range_in}
use Rattle.lethe_job.specs.Claims.{IsOfItsKind, claim_of_task}
use Rattle.lethe_job.specs.Shapes.{due_shape, facts_at}
use Rattle.lethe_job.specs.SweepTasks.{IsPlannedSweep}
use Rattle.lethe_job.specs.Tasks.{IsPlannedMerge, PlainMerge}
use Rattle.lethe_job.specs.Works.{IsPlanned, Merges, PlainTask, Sweeps, plan_of}
use Rattle.lethe_job.proofs.Hulls.{fact, hull_append, hull_facts, hull_of_facts, met_are, only_one}
use Rattle.lethe_job.proofs.Listed.{find_some, find_there, from_any, one_numbered}
use Rattle.lethe_job.proofs.Planned.{hull_same, range_same}
use Rattle.lethe_job.proofs.Shaped.{due_shape_same}

abbrev number_in : StoredFile → ℕ
number_in file = file.header.no

-- The file of the plan's number, among the levels

module _ (s : Stored) (coherent : IsCoherent s) (plan : Plan) (file : StoredFile) (there : Contains s.files file) (named : file.header.no ≡ plan.file) (level : ℕ) (stands : file.level ≡ level) where
  abbrev has_number : FileFacts → Bool
  has_number one = one.no == plan.file

  -- what is found in a level is the file
  found_is : (other : ℕ) (one : FileFacts) → find has_number (facts_at s.files other) ≡ Some one → (one ≡ fact other file) × (other ≡ level)
  found_is other one is =
      let found = find_some has_number (facts_at s.files other) one is in
      let from = map_from (fact other) (of_level s.files other) one found.0 in
      let stored = from_level s.files other from.0 from.1 in
      let number : one.no ≡ plan.file = eqb-true one.no plan.file found.1 in
      let own : from.0.header.no ≡ one.no = ap (λ (f : FileFacts). f.no) from.2 in
      let same : from.0 ≡ file = one_numbered number_in s.files (pairs_from (λ a b. number_in a ≢ number_in b) s.files coherent.files_once) from.0 file stored.0 there (own ∙ number ∙ sym named) in
      (sym from.2 ∙ ap (fact other) same, sym stored.1 ∙ ap (λ (f : StoredFile). f.level) same ∙ stands)

  found_here : find has_number (facts_at s.files level) ≡ Some (fact level file)
  found_here =
      let inside = in_map (fact level) (of_level s.files level) file (in_level s.files level file there stands) in
      let found = find_there has_number (facts_at s.files level) (fact level file) inside (eq-eqb file.header.no plan.file named) in
      found.1 ∙ ap Some (found_is level found.0 found.1).0

  not_found : (other : ℕ) → other ≢ level → find has_number (facts_at s.files other) ≡ None
  not_found other apart = by (find has_number (facts_at s.files other)) refl
    where
      by : (o : Option FileFacts) → find has_number (facts_at s.files other) ≡ o → o ≡ None
      by None is = refl
      by (Some one) is = absurd (apart (found_is other one is).1)

  next_files : (first count : ℕ) → 0 < count → first_files (map (facts_at s.files) (range_with_len first count)) ≡ facts_at s.files first
  next_files first zero some = absurd (omega arith)
  next_files first (suc count) some = refl

  -- of so many levels from one on
  record IsClaimed (first count : ℕ) : Type 0 where
    next : List FileFacts
    next_is : level + 1 < first + count → next ≡ facts_at s.files (level + 1)
    is : claim_in plan first (map (facts_at s.files) (range_with_len first count)) ≡ Some (job_claim plan.erase level (facts_at s.files level) next (fact level file))

  claimed_here : (count : ℕ) → IsClaimed level (suc count)
  claimed_here count =
      let deeper = map (facts_at s.files) (range_with_len (level + 1) count) in
      record {
        next = first_files deeper;
        next_is = λ within. next_files (level + 1) count (omega (arith, within));
        is = ap (λ o. option_or (option_map (job_claim plan.erase level (facts_at s.files level) (first_files deeper)) o) (claim_in plan (level + 1) deeper)) found_here;
      }

  claimed_from : (first count : ℕ) → first ≤ level → level < first + count → IsClaimed first count
  claimed_from first zero from to = absurd (omega arith)
  claimed_from first (suc count) from to = elim (cases_eq first level) [
    | inl same ↦ subst (λ k. IsClaimed k (suc count)) (sym same) (claimed_here count)
    | inr other ↦
        let more = claimed_from (first + 1) count (omega (arith, from, other)) (omega (arith, to)) in
        let deeper = map (facts_at s.files) (range_with_len (first + 1) count) in
        record {
          next = more.next;
          next_is = λ within. more.next_is (omega (arith, within));
          is = ap (λ o. option_or (option_map (job_claim plan.erase first (facts_at s.files first) (first_files deeper)) o) (claim_in plan (first + 1) deeper)) (not_found first other) ∙ more.is;
        }
  ]

  all_claimed : level ≤ s.manifest.config.levels → IsClaimed 0 (s.manifest.config.levels + 1)
  all_claimed low = claimed_from 0 (s.manifest.config.levels + 1) (omega arith) (omega (arith, low))

-- Merges

module _ (s : Stored) (coherent : IsCoherent s) (task : PlainMerge) (planned : IsPlannedMerge s task) (kind : task.plan.erase ≡ None) where
  abbrev m : StoredMerge
  m = planned.m

  abbrev begun : IsMergeIn s m
  begun = planned.is.merge

  abbrev IsNamed : StoredFile → Type 0
  IsNamed file = file.header.no ≡ task.plan.file

  named : (file : StoredFile) × Contains m.sources file × IsNamed file
  named = from_any IsNamed m.sources planned.named

  stored : Contains s.files named.0 × (named.0.level ≡ m.level)
  stored = from_level s.files m.level named.0 (subst (λ files. Contains files named.0) (sym begun.from)
      (Contains-append_right m.newer (m.sources ++ m.older) named.0 (Contains-append_left m.sources m.older named.0 named.1)))

  some_source : m.sources ≢ []
  some_source none = none_in named.0 (subst (λ files. Contains files named.0) none named.1)

  claimed : IsClaimed s coherent task.plan named.0 stored.0 named.2 m.level stored.1 0 (s.manifest.config.levels + 1)
  claimed = all_claimed s coherent task.plan named.0 stored.0 named.2 m.level stored.1 (let low = begun.level in omega (arith, low))

  abbrev keys : KeyRange
  keys = hull_in m.sources

  next_is : claimed.next ≡ facts_at s.files (m.level + 1)
  next_is = claimed.next_is (let low = begun.level in omega (arith, low))

  met_facts : overlapping keys (facts_at s.files (m.level + 1)) ≡ map (fact (m.level + 1)) m.met
  met_facts = sym (map-filter (fact (m.level + 1)) (λ (one : FileFacts). overlaps keys (facts.range_of one)) (at (m.level + 1) s.files))
      ∙ ap (map (fact (m.level + 1)))
      (filter_agree (λ file. overlaps keys (range_in file)) (λ file. overlaps (hull_of m.sources) (range_of file)) (λ file i. overlaps (hull_same m.sources i) (range_same file i)) (at (m.level + 1) s.files)
      ∙ met_are s m begun)

  -- the keys of all that it takes
  merge_is : (sources : KeyRange) → sources ≡ keys → merge_claim m.level sources claimed.next ≡ claim_at m.level (hull_in (m.sources ++ m.met))
  merge_is sources same = (λ i. merge_claim m.level (same i) (next_is i))
      ∙ ap (λ met. claim_at m.level (facts.hull keys met)) met_facts
      ∙ ap (claim_at m.level) (hull_facts (m.level + 1) keys m.met ∙ sym (hull_append m.sources m.met some_source))

  sources_whole : m.level ≡ 0 → facts.hull_of (facts_at s.files m.level) ≡ keys
  sources_whole zeroth = hull_of_facts m.level (at m.level s.files) ∙ ap hull_in (begun.from ∙ (λ i. planned.all zeroth i ++ (m.sources ++ none_older i)) ∙ append-nil m.sources)
    where
      none_older : m.older ≡ []
      none_older = elim begun.whole [ inl whole ↦ whole.1 | inr deep ↦ let below = deep.0 in absurd (omega (arith, below, zeroth)) ]

  one_source : m.level ≢ 0 → range_in named.0 ≡ keys
  one_source deep = elim begun.whole [
    | inl whole ↦ absurd (deep whole.0)
    | inr one ↦ ap hull_in (sym (only_one m.sources named.0 one.1 named.1))
  ]

  abbrev as_chosen : Claim
  as_chosen = job_claim None m.level (facts_at s.files m.level) claimed.next (fact m.level named.0)

  job_is : as_chosen ≡ claim_at m.level (hull_in (m.sources ++ m.met))
  job_is = elim (cases_eq m.level 0) [
    | inl zeroth ↦ cond-true (eqb m.level 0) (merge_claim 0 (facts.hull_of (facts_at s.files m.level)) claimed.next) (merge_claim m.level (range_in named.0) claimed.next) (eq-eqb m.level 0 zeroth)
        ∙ ap (λ level. merge_claim level (facts.hull_of (facts_at s.files m.level)) claimed.next) (sym zeroth)
        ∙ merge_is (facts.hull_of (facts_at s.files m.level)) (sources_whole zeroth)
    | inr deep ↦ cond-false (eqb m.level 0) (merge_claim 0 (facts.hull_of (facts_at s.files m.level)) claimed.next) (merge_claim m.level (range_in named.0) claimed.next) (ne_eqb m.level 0 deep)
        ∙ merge_is (range_in named.0) (one_source deep)
  ]

  merge_claimed : claim_in task.plan 0 (map (facts_at s.files) (range_with_len 0 (s.manifest.config.levels + 1))) ≡ Some (claim_of_task (Merges task))
  merge_claimed = claimed.is
      ∙ ap (λ erase. Some (job_claim erase m.level (facts_at s.files m.level) claimed.next (fact m.level named.0))) kind
      ∙ ap Some (job_is ∙ (λ i. claim_at (sym planned.is.level i) (hull_in (sym planned.is.sources i ++ sym planned.is.met i))))

-- Sweeps

module _ (s : Stored) (coherent : IsCoherent s) (task : PlainSweep) (planned : IsPlannedSweep s task) where
  abbrev own : StoredFile
  own = planned.w.file

  own_there : Contains s.files own
  own_there = subst (λ files. Contains files own) (sym planned.is.sweep.files) (Contains-append_right planned.w.front (own ∷ planned.w.back) own (first_is own planned.w.back own refl))

  sweep_claimed : claim_in task.plan 0 (map (facts_at s.files) (range_with_len 0 (s.manifest.config.levels + 1))) ≡ Some (claim_of_task (Sweeps task))
  sweep_claimed =
      let claimed = all_claimed s coherent task.plan own own_there planned.number own.level refl (low_level s coherent own own_there) in
      claimed.is
      ∙ ap (λ erase. Some (job_claim erase own.level (facts_at s.files own.level) claimed.next (fact own.level own))) planned.erase
      ∙ ap (λ (file : StoredFile). Some (claim_over file.level file.level (range_in file))) planned.is.file

-- Either

pub claim_chosen : (s : Stored) (task : PlainTask) → IsCoherent s → IsPlanned s task → IsOfItsKind task → claim_of (due_shape (layout_of s)) (plan_of task) ≡ Some (claim_of_task task)
claim_chosen s (Merges task) coherent planned kind = ap (λ shape. claim_of shape task.plan) (due_shape_same s coherent) ∙ merge_claimed s coherent task planned kind
claim_chosen s (Sweeps task) coherent planned kind = ap (λ shape. claim_of shape task.plan) (due_shape_same s coherent) ∙ sweep_claimed s coherent task planned

module _ (s : Stored) (valid : IsValidShape (shapes.shape_of (layout_of s))) where
  abbrev left : Pending → Bool
  left erase = is_above (done_upto (layout_of s)) erase.seq

  due_valid : IsValidShape (due_shape (layout_of s))
  due_valid = record {
    numbers = valid.numbers;
    ranges = valid.ranges;
    levels = valid.levels;
    deepest = valid.deepest;
    places = AllPairs-filter (λ (a : Pending) (b : Pending). a.seq < b.seq) left (pending_of s) valid.places;
    times = AllPairs-filter (λ (a : Pending) (b : Pending). a.time ≤ b.time) left (pending_of s) valid.times;
  }

pub claim_free : (s : Stored) (task : PlainTask) (claims : List Claim) → IsCoherent s → IsValidShape (shapes.shape_of (layout_of s)) → IsPlanned s task → IsOfItsKind task
    → choice s.manifest.config (due_shape (layout_of s)) s.manifest.clock claims ≡ Some (plan_of task) → IsProper (claim_of_task task) × (list_any (meets (claim_of_task task)) claims ≡ false)
claim_free s task claims coherent valid planned kind chosen =
    let free = choice_is_free s.manifest.config (due_shape (layout_of s)) s.manifest.clock claims (plan_of task) (due_valid s valid) chosen in
    let both : Some free.claim ≡ Some (claim_of_task task) = sym free.is ∙ claim_chosen s task coherent planned kind in
    let same : free.claim ≡ claim_of_task task = cc in
    (subst IsProper same free.proper, subst (λ claim. list_any (meets claim) claims ≡ false) same free.free)
