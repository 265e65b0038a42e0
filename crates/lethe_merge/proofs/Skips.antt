-- A merged list, where entries are passed over that an output that is alone doesn't have.
use Rattle.std.proofs.Common.{◌≡◌, ◌≤◌, ℕ, Bool, List, length, All, IfNone, IfSome, Option, Some, None, refl, sym, ap, ◌∙◌, subst, arith}
use Rattle.std.specs.List.{flat_map, filter_map, cons_option}
use Rattle.lethe_base.specs.declared.entry.Entry.{Entry}
use Rattle.lethe_base.specs.declared.pending.Pending.{Pending}
use Rattle.lethe_cover.specs.Merged.{bared}
use Rattle.lethe_disk.specs.Reads.{IsNext}
use Rattle.lethe_merge.specs.declared.source.Source.{Source}
use Rattle.lethe_merge.specs.Merge.{left_of_each}
use Rattle.lethe_merge.specs.Sources.{IsSound, AreSound, left_in, left_merged, HasNone, IsTaken}
use Rattle.lethe_merge.proofs.Merges.{merged_ascends}
use Rattle.lethe_merge.proofs.Steps.{all_left, step-given, step-sound, step-again}
use Rattle.lethe_merge.proofs.Fills.{IsFilling, filling-all}

-- the same sources, erases and output
module _ {C : Type 0} (left : C → List Entry) (then new : List (Source C)) (by erases : List Pending) (bares alone : Bool) (sources_is : then ≡ new) (erases_is : by ≡ erases) (alone_is : bares ≡ alone) where
  pub merged_as : left_merged left new erases alone ≡ left_merged left then by bares
  merged_as = sym (λ i. left_merged left (sources_is i) (erases_is i) (alone_is i))

  pub sound_as : (tells : Type 0) (sound : C → Type 0) → AreSound tells sound left new erases alone → AreSound tells sound left then by bares
  sound_as tells sound all =
      subst (λ (sources : List (Source C)). AreSound tells sound left sources by bares) (sym sources_is)
      (subst (λ (erases : List Pending). AreSound tells sound left new erases bares) (sym erases_is) (subst (λ (alone : Bool). AreSound tells sound left new erases alone) (sym alone_is) all))

-- what the sources have left merged is what it was
pub record IsSkipping {C : Type 0} (tells : Type 0) (may_ask sound : C → Type 0) (left : C → List Entry) (erases : List Pending) (alone : Bool) (old now : List (Source C)) (faults faults_now fetches fetches_now : ℕ) : Type 0 where
  pub again : All (λ source. may_ask source.cursor) now
  pub still_sound : All (IsSound tells sound left) old → All (IsSound tells sound left) now
  pub same : tells → All (IsSound tells sound left) old → left_merged left old erases alone ≡ left_merged left now erases alone
  pub risen : faults ≤ faults_now
  pub fetched : fetches ≤ fetches_now

-- what a turn gave: its next entry, and the sources behind it
pub record IsTurn {C : Type 0} (tells : Type 0) (may_ask sound : C → Type 0) (left : C → List Entry) (erases : List Pending) (old start new : List (Source C)) (next : Option Entry) : Type 0 where
  pub given : tells → All (IsSound tells sound left) old → IsNext next (left_of_each (all_left left erases start)) (left_of_each (all_left left erases new))
  pub again : All (λ source. may_ask source.cursor) new
  pub still_sound : All (IsSound tells sound left) old → All (IsSound tells sound left) new

module _ {C : Type 0} (tells : Type 0) (may_ask sound : C → Type 0) (left : C → List Entry) (erases : List Pending) (alone : Bool) (old : List (Source C)) (faults fetches : ℕ) where
  pub skipping-none : All (λ source. may_ask source.cursor) old → IsSkipping tells may_ask sound left erases alone old old faults faults fetches fetches
  skipping-none may = record { again = may; still_sound = λ sounds. sounds; same = λ told sounds. refl; risen = omega arith; fetched = omega arith }

  module _ (start : List (Source C)) (faults_start fetches_start : ℕ) (skipping : IsSkipping tells may_ask sound left erases alone old start faults faults_start fetches fetches_start) where
    -- the sources know their next entries, and those of the least key are taken
    pub turn : (filled new seen : List (Source C)) (struck_by : List Pending) (place faults_filled fetches_filled : ℕ) (next : Option Entry)
        → IsFilling tells may_ask sound left start filled place faults_start faults_filled fetches_start fetches_filled → length filled ≤ place → seen ≡ filled → struck_by ≡ erases
        → IfNone next (HasNone seen new) → IfSome next (IsTaken struck_by seen new) → IsTurn tells may_ask sound left erases old start new next
    turn filled new seen struck_by place faults_filled fetches_filled next filling over seen_is struck_is none some = record {
      given = λ told all. step-given tells sound left erases told start filled new next (filling.left_same told (skipping.still_sound all)) (filling-all filled place over filling.known)
          (filling.still_sound (skipping.still_sound all)) has_none is_taken;
      again = step-again may_ask erases filled new next filling.again has_none is_taken;
      still_sound = λ all. step-sound tells sound left erases filled new next (filling.still_sound (skipping.still_sound all)) has_none is_taken;
    }
      where
        has_none : IfNone next (HasNone filled new)
        has_none = subst (λ (sources : List (Source C)). IfNone next (HasNone sources new)) seen_is none

        is_taken : IfSome next (IsTaken erases filled new)
        is_taken = subst (λ (sources : List (Source C)). IfSome next (IsTaken erases sources new)) seen_is (subst (λ (by : List Pending). IfSome next (IsTaken by seen new)) struck_is some)

    module _ (new : List (Source C)) where
      -- what was left, by what is left of the next key
      begins : (entry : Entry) → IsTurn tells may_ask sound left erases old start new (Some entry) → tells → All (IsSound tells sound left) old
          → left_merged left old erases alone ≡ cons_option (bared alone entry entry.body) (left_merged left new erases alone)
      begins entry turned told all = skipping.same told all ∙ ap (filter_map (λ e. bared alone e e.body)) (turned.given told all)

      -- one passed over
      pub skipping-more : (entry : Entry) (faults_new fetches_new : ℕ) → None ≡ bared alone entry entry.body → IsTurn tells may_ask sound left erases old start new (Some entry)
          → faults_start ≤ faults_new → fetches_start ≤ fetches_new → IsSkipping tells may_ask sound left erases alone old new faults faults_new fetches fetches_new
      skipping-more entry faults_new fetches_new dropped turned rose fetched = record {
        again = turned.again;
        still_sound = turned.still_sound;
        same = λ told all. begins entry turned told all ∙ ap (λ (o : Option Entry). cons_option o (left_merged left new erases alone)) (sym dropped);
        risen = omega (arith, skipping.risen, rose);
        fetched = omega (arith, skipping.fetched, fetched);
      }

      -- one given
      pub given-some : (entry output : Entry) → Some output ≡ bared alone entry entry.body → IsTurn tells may_ask sound left erases old start new (Some entry)
          → tells → AreSound tells sound left old erases alone → IsNext (Some output) (left_merged left old erases alone) (left_merged left new erases alone)
      given-some entry output kept turned told all = begins entry turned told all.each ∙ ap (λ (o : Option Entry). cons_option o (left_merged left new erases alone)) (sym kept)

      -- the end
      pub given-none : IsTurn tells may_ask sound left erases old start new None
          → tells → AreSound tells sound left old erases alone → IsNext None (left_merged left old erases alone) (left_merged left new erases alone)
      given-none turned told all =
          let ends = turned.given told all.each in
          (skipping.same told all.each ∙ ap (filter_map (λ e. bared alone e e.body)) ends.0, ap (filter_map (λ e. bared alone e e.body)) ends.1)

      pub sound-again : (next : Option Entry) → IsTurn tells may_ask sound left erases old start new next → AreSound tells sound left old erases alone → AreSound tells sound left new erases alone
      sound-again next turned all = record { each = turned.still_sound all.each; ascending = merged_ascends (flat_map (left_in left) new) erases alone }
