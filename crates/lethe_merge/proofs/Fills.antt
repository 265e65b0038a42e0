-- Sources whose cursors are asked one after another.
use Rattle.std.proofs.Common.{◌≡◌, ◌+◌, ◌<◌, ◌≤◌, ◌++◌, ℕ, List, [], Option, Some, None, length, take, get_or, set, map, All, refl, sym, ap, ◌∙◌, subst, arith}
use Rattle.std.proofs.lemmas.List.{take_more_set, take_all, map-set, set-get_or, length-set}
use Rattle.std.proofs.lemmas.List.Elements.{All-push, All-set, All-get_or, All-nil}
use Rattle.lethe_base.specs.declared.entry.Entry.{Entry}
use Rattle.lethe_base.specs.Entries.{IsAscending}
use Rattle.lethe_disk.specs.Reads.{IsNext}
use Rattle.lethe_merge.specs.declared.source.Head.{Head}
use Rattle.lethe_merge.specs.declared.source.Head.TheVariants.{Unasked, Here, Ended}
use Rattle.lethe_merge.specs.declared.source.Source.{Source}
use Rattle.lethe_merge.proofs.Heads.{IsKnown}
use Rattle.lethe_merge.specs.Sources.{IsSound, entries_at, left_in, head_from}

known_from : (h : Head) → (h ≡ Unasked → ⊥) → IsKnown h
known_from Unasked not = not refl
known_from (Here entry) not = tt
known_from Ended not = tt

-- the first sources know their next entries
pub record IsFilling {C : Type 0} (tells : Type 0) (may_ask sound : C → Type 0) (left : C → List Entry) (old now : List (Source C)) (place faults faults_now fetches fetches_now : ℕ) : Type 0 where
  pub whole : length now ≡ length old
  pub known : All (λ source. IsKnown source.head) (take place now)
  pub again : All (λ source. may_ask source.cursor) now
  pub still_sound : All (IsSound tells sound left) old → All (IsSound tells sound left) now
  pub left_same : tells → All (IsSound tells sound left) old → map (left_in left) now ≡ map (left_in left) old
  pub risen : faults ≤ faults_now
  pub fetched : fetches ≤ fetches_now

module _ {C : Type 0} (tells : Type 0) (may_ask sound : C → Type 0) (left : C → List Entry) (old : List (Source C)) (faults fetches : ℕ) where
  pub filling-none : All (λ source. may_ask source.cursor) old → IsFilling tells may_ask sound left old old 0 faults faults fetches fetches
  filling-none may = record {
    whole = refl;
    known = All-nil (λ (source : Source C). IsKnown source.head);
    again = may;
    still_sound = λ sounds. sounds;
    left_same = λ told sounds. refl;
    risen = omega arith;
    fetched = omega arith;
  }

  -- one more
  pub filling-more : (now then : List (Source C)) (place : ℕ) (x y : Source C) (faults_now faults_then fetches_now fetches_then : ℕ)
      → IsFilling tells may_ask sound left old now place faults faults_now fetches fetches_now → place < length now → x ≡ get_or now place x → then ≡ set now place y
      → IsKnown y.head → may_ask y.cursor → (IsSound tells sound left x → IsSound tells sound left y) → (tells → IsSound tells sound left x → left_in left y ≡ left_in left x)
      → faults_now ≤ faults_then → fetches_now ≤ fetches_then → IsFilling tells may_ask sound left old then (place + 1) faults faults_then fetches fetches_then
  filling-more now then place x y faults_now faults_then fetches_now fetches_then filling within is then_is known may sounds same rose fetched = record {
    whole = ap length then_is ∙ length-set now place y ∙ filling.whole;
    known = subst (λ sources. All (λ (source : Source C). IsKnown source.head) (take (place + 1) sources)) (sym then_is)
        (subst (All (λ (source : Source C). IsKnown source.head)) (sym (take_more_set now place y within)) (All-push (λ (source : Source C). IsKnown source.head) (take place now) y filling.known known));
    again = subst (All (λ (source : Source C). may_ask source.cursor)) (sym then_is) (All-set (λ (source : Source C). may_ask source.cursor) now place y may filling.again);
    still_sound = λ all. subst (All (IsSound tells sound left)) (sym then_is) (All-set (IsSound tells sound left) now place y (sounds (own all)) (filling.still_sound all));
    left_same = λ told all. ap (map (left_in left)) then_is ∙ map-set (left_in left) now place y ∙ ap (set (map (left_in left) now) place) (same told (own all))
        ∙ sym (map-set (left_in left) now place x) ∙ ap (map (left_in left)) (ap (set now place) is ∙ set-get_or now place x) ∙ filling.left_same told all;
    risen = omega (arith, filling.risen, rose);
    fetched = omega (arith, filling.fetched, fetched);
  }
    where
      own : All (IsSound tells sound left) old → IsSound tells sound left x
      own all = subst (IsSound tells sound left) (sym is) (All-get_or (IsSound tells sound left) now place x within (filling.still_sound all))

  -- one that is known already
  pub filling-same : (now then : List (Source C)) (place : ℕ) (x : Source C) (faults_now fetches_now : ℕ)
      → IsFilling tells may_ask sound left old now place faults faults_now fetches fetches_now → place < length now → x ≡ get_or now place x → then ≡ set now place x
      → (x.head ≡ Unasked → ⊥) → IsFilling tells may_ask sound left old then (place + 1) faults faults_now fetches fetches_now
  filling-same now then place x faults_now fetches_now filling within is then_is not =
      filling-more now then place x x faults_now faults_now fetches_now fetches_now filling within is then_is (known_from x.head not)
      (subst (λ (s : Source C). may_ask s.cursor) (sym is) (All-get_or (λ (source : Source C). may_ask source.cursor) now place x within filling.again)) (λ own. own) (λ told own. refl) (omega arith) (omega arith)

  -- one that was asked
  pub filling-asked : (now then : List (Source C)) (place : ℕ) (x : Source C) (cursor : C) (next : Option Entry) (faults_now faults_then fetches_now fetches_then : ℕ)
      → IsFilling tells may_ask sound left old now place faults faults_now fetches fetches_now → place < length now → x ≡ get_or now place x → x.head ≡ Unasked
      → then ≡ set now place (record { cursor = cursor; head = head_from next }) → may_ask cursor → (sound x.cursor → sound cursor)
      → (tells → sound x.cursor → IsNext next (left x.cursor) (left cursor)) → faults_now ≤ faults_then → fetches_now ≤ fetches_then
      → IsFilling tells may_ask sound left old then (place + 1) faults faults_then fetches fetches_then
  filling-asked now then place x cursor next faults_now faults_then fetches_now fetches_then filling within is unasked then_is may sounds given rose fetched =
      filling-more now then place x asked faults_now faults_then fetches_now fetches_then filling within is then_is (known next) may
      (λ own. record { cursor = sounds own.cursor; ascending = λ told. subst IsAscending (sym (same told own)) (own.ascending told); ended = λ told at. end next (given told own.cursor) at })
      same rose fetched
    where
      asked : Source C
      asked = record { cursor = cursor; head = head_from next }

      known : (next : Option Entry) → IsKnown (head_from next)
      known None = tt
      known (Some entry) = tt

      begins : left_in left x ≡ left x.cursor
      begins = ap (λ (h : Head). entries_at h ++ left x.cursor) unasked

      by : (next : Option Entry) → IsNext next (left x.cursor) (left cursor) → entries_at (head_from next) ++ left cursor ≡ left x.cursor
      by None ends = ends.1 ∙ sym ends.0
      by (Some entry) gave = sym gave

      same : tells → IsSound tells sound left x → left_in left asked ≡ left_in left x
      same told own = by next (given told own.cursor) ∙ sym begins

      end : (next : Option Entry) → IsNext next (left x.cursor) (left cursor) → head_from next ≡ Ended → left cursor ≡ []
      end None ends at = ends.1
      end (Some entry) gave at = absurd (let clash : Here entry ≡ Ended = at in cc)

-- all of them
pub filling-all : {C : Type 0} (now : List (Source C)) (place : ℕ) → length now ≤ place → All (λ source. IsKnown source.head) (take place now) → All (λ source. IsKnown source.head) now
filling-all {C} now place over known = subst (All (λ (source : Source C). IsKnown source.head)) (take_all place now over) known
