-- A store whose only record is a put.
use Rattle.std.proofs.Common.{◌≡◌, inl, inr, ℕ, Bool, true, false, cond, [], Contains, Some, None, refl, sym, ap, ◌∙◌, subst, arith}
use Rattle.std.specs.Cmp.Lexicographic.{nat_list_cmp_total}
use Rattle.std.specs.FinMap as finmap
use Rattle.lethe_base.specs.declared.entry.Body.TheVariants as body
use Rattle.lethe_base.specs.declared.entry.Entry.{Entry}
use Rattle.lethe_base.specs.declared.pending.Pending.{Pending}
use Rattle.lethe_base.specs.Keys.{Bytes, key_cmp, same_key}
use Rattle.lethe_base.specs.History.{Pair, History, after}
use Rattle.lethe_base.specs.Causes.{cause_of}
use Rattle.lethe_base.specs.Matching.{answer_under}
use Rattle.lethe_base.specs.Layout.{Layout, Record, Written, Erasing, written, buffer_of}
use Rattle.lethe_base.specs.Held.{InBuffer, Holds, Shows, Tells}
use Rattle.lethe_base.specs.Placed.{IsPlaced}
use Rattle.lethe_base.specs.Covers.{Covers}
use Rattle.lethe_base.specs.Examples.{put_alone, with_put}
use Rattle.lethe_base.proofs.LayoutLaws.{none_in, no_file, none_filed, runs_over}
use Rattle.lethe_base.proofs.HeldLaws.{buffer_recorded}
use Rattle.lethe_base.proofs.Newest.{first_or_rest, same_key-self, same_key-true}

module _ (levels : ℕ) (caller : ℕ) (key : Bytes) (dkey : ℕ) (value : Bytes) where
  abbrev the_put : Entry
  the_put = record { seq = 1; key = key; body = body.Put dkey value; since = None }

  abbrev the_layout : Layout
  the_layout = with_put levels key dkey value

  abbrev the_history : History
  the_history = put_alone caller key dkey value

  abbrev the_pair : Pair
  the_pair = (dkey, value)

  recorded_is : (r : Record) → Contains the_layout.active r → Written the_put ≡ r
  recorded_is r there = elim (first_or_rest (Written the_put) [] r there) [
    | inl same ↦ same
    | inr rest ↦ absurd (none_in r rest)
  ]

  written_is : (entry : Entry) → Contains the_layout.active (Written entry) → the_put ≡ entry
  written_is entry there = let same : Some the_put ≡ Some entry = ap written (recorded_is (Written entry) there) in cc

  held_is : (entry : Entry) (swept : ℕ) → Holds the_layout entry swept → the_put ≡ entry
  held_is entry swept is = elim is [
    | inl recorded ↦ elim recorded.0 [
      | inl active ↦ written_is entry active
      | inr frozen ↦ absurd (none_in (Written entry) frozen)
    ]
    | inr filed ↦ absurd (none_filed levels entry filed.0)
  ]

  shown_is : (entry : Entry) → Shows the_layout entry → the_put ≡ entry
  shown_is entry is = elim is [
    | inl buffered ↦ elim buffered [
      | inl active ↦ written_is entry (buffer_recorded the_layout.active entry active)
      | inr frozen ↦ absurd (none_in (Written entry) (buffer_recorded [] entry frozen))
    ]
    | inr filed ↦ absurd (none_filed levels entry filed)
  ]

  none_told : (erase : Pending) → Tells the_layout erase → ⊥
  none_told erase is = elim is [
    | inl pending ↦ none_in erase pending
    | inr recorded ↦ elim recorded [
      | inl active ↦ absurd (let clash : Some the_put ≡ None = ap written (recorded_is (Erasing erase) active) in cc)
      | inr frozen ↦ none_in (Erasing erase) frozen
    ]
  ]

  found : {X : Type 0} (x : X) → finmap.get (finmap.insert (finmap.empty {R = key_cmp}) key x) key ≡ Some x
  found x = finmap.get-insert nat_list_cmp_total finmap.empty key x key ∙ ap (λ b. cond b (Some x) (finmap.get (finmap.empty {R = key_cmp}) key)) (same_key-self key)

  buffered : InBuffer (buffer_of the_layout.active) the_put
  buffered = found the_put

  absent : (other : Bytes) → ((entry : Entry) → Shows the_layout entry → entry.key ≡ other → ⊥) → finmap.get (after the_history).map other ≡ None
  absent other none = finmap.get-insert nat_list_cmp_total finmap.empty key the_pair other ∙ by (same_key other key) refl
    where
      by : (b : Bool) → same_key other key ≡ b → cond b (Some the_pair) (finmap.get (finmap.empty {R = key_cmp}) other) ≡ None
      by true is = absurd (none the_put (inl (inl buffered)) (sym (same_key-true other key is)))
      by false is = finmap.get-empty key_cmp other

  no_cause : (entry : Entry) (swept cause : ℕ) → Holds the_layout entry swept → cause_of the_history entry.seq ≡ Some cause → ⊥
  no_cause entry swept cause held is =
      let at_first : cause_of the_history 1 ≡ Some cause = ap (λ e. cause_of the_history e.seq) (held_is entry swept held) ∙ is in
      absurd (let clash : None ≡ Some cause = at_first in cc)

  pub first_put : (threshold : ℕ) → Covers threshold the_history the_layout
  first_put threshold = record {
    places = record {
      entries = λ entry swept held. subst (λ e. IsPlaced the_history e.seq e.key e.body) (held_is entry swept held) refl;
      erases = λ erase is. absurd (none_told erase is);
    };
    newer_above = record {
      runs = runs_over levels;
      active_frozen = λ r older is below. absurd (none_in older below);
      active_files = λ r older is below. absurd (none_filed levels older below);
      frozen_files = λ r older is. absurd (none_in r is);
      active_buffer = λ entry is. (the_put, buffered, ap (λ e. e.key) (written_is entry is), let same : 1 ≡ entry.seq = ap (λ e. e.seq) (written_is entry is) in omega arith);
      frozen_buffer = λ entry is. absurd (none_in (Written entry) is);
    };
    same_map = record {
      newest = λ entry is. subst (λ e. answer_under [] e ≡ finmap.get (after the_history).map e.key) (shown_is entry is.shown) (sym (found the_pair));
      absent = absent;
    };
    deletes_covered = λ entry swept cause held put is. absurd (no_cause entry swept cause held is);
    erases_covered = record {
      pending = λ entry swept cause range held put is. absurd (no_cause entry swept cause held is);
      swept = λ file is. absurd (no_file levels file is);
      unswept = λ file erase entry is. absurd (no_file levels file is);
    };
    times_fresh = record {
      entries = λ entry swept since held is. absurd (let clash : None ≡ Some since = ap (λ e. e.since) (held_is entry swept held) ∙ is in cc);
      erases = λ erase is. absurd (none_told erase is);
    };
  }
