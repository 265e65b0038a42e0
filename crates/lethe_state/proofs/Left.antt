-- The erases that are left and those that are kept, by what is remembered.
use Rattle.std.proofs.Common.{◌≡◌, ℕ, List, [], ◌∷◌, ◌++◌, length, map, filter, Option, Some, None, refl, sym, ap, ◌∙◌, arith}
use Rattle.std.specs.Prelude.{filter_map, option_map}
use Rattle.std.specs.List.{cons_option}
use Rattle.std.proofs.lemmas.List.{map-append}
use Rattle.std.proofs.lemmas.List.Elements.{filter_map-append}
use Rattle.lethe_base.specs.Shapes.{earlier}
use Rattle.lethe_base.specs.Spent.{done_upto, is_above, least, left_erases, put_place}
use Rattle.lethe_base.specs.declared.pending.Pending.{Pending}
use Rattle.lethe_follows.specs.Leaving.{first_erase, kept_erases, kept_of}
use Rattle.lethe_follows.specs.Merged.{Beside, Company, Last}
use Rattle.lethe_follows.proofs.Bounds.{done_by_cited, least-append}
use Rattle.lethe_follows.proofs.LettingGo.{kept_are_erases}
use Rattle.lethe_manifest.specs.Manifests.{AreErases, HasSpelling}
use Rattle.lethe_manifest.specs.declared.manifest.Cited.{Cited}
use Rattle.lethe_manifest.specs.declared.manifest.Manifest.{Manifest}
use Rattle.lethe_segment.specs.declared.record.Record.{Record}
use Rattle.lethe_stored.specs.Files.{Parts}
use Rattle.lethe_stored.specs.Stored.{IsCoherent, Segment, Stored, erase_of, layout_of, plain, records_in}
use Rattle.lethe_state.specs.Firsts.{firsts_in, firsts_with}
use Rattle.lethe_state.specs.Left.{HasOtherFiles, done_with, first_recorded, installed, kept_with, left_with, staying_with}
use Rattle.lethe_state.specs.Remembered.{Remembers}
use Rattle.lethe_state.specs.Writable.{IsWritable, segments_for}
use Rattle.lethe_state.specs.declared.firsts.Firsts.{Firsts}
use Rattle.lethe_state.specs.declared.state.State.{State}

-- The first places of records

abbrev first_put : List Record → Option ℕ
first_put records = (firsts_in records).put

abbrev first_erase_in : List Record → Option ℕ
first_erase_in records = (firsts_in records).erase

put-append : (records more : List Record) → first_put (records ++ more) ≡ earlier (first_put records) (first_put more)
put-append records more =
    ap (λ records. least (filter_map put_place records)) (map-append plain records more)
    ∙ ap least (filter_map-append put_place (map plain records) (map plain more))
    ∙ least-append (filter_map put_place (map plain records)) (filter_map put_place (map plain more))

erase-append : (records more : List Record) → first_erase_in (records ++ more) ≡ earlier (first_erase_in records) (first_erase_in more)
erase-append records more =
    let place = λ (erase : Pending). erase.seq in
    ap (λ erases. least (map place erases)) (filter_map-append erase_of records more)
    ∙ ap least (map-append place (filter_map erase_of records) (filter_map erase_of more))
    ∙ least-append (map place (filter_map erase_of records)) (map place (filter_map erase_of more))

one_put : (place : Option ℕ) → least (cons_option place []) ≡ place
one_put None = refl
one_put (Some place) = refl

one_erase : (erase : Option Pending) → least (map (λ (erase : Pending). erase.seq) (cons_option erase [])) ≡ option_map (λ (erase : Pending). erase.seq) erase
one_erase None = refl
one_erase (Some erase) = refl

-- one record more
pub firsts-push : (records : List Record) (next : Record) → firsts_in (records ++ next ∷ []) ≡ firsts_with (firsts_in records) next
firsts-push records next =
    let put = put-append records (next ∷ []) ∙ ap (earlier (first_put records)) (one_put (put_place (plain next))) in
    let erase = erase-append records (next ∷ []) ∙ ap (earlier (first_erase_in records)) (one_erase (erase_of next)) in
    let made : Option ℕ → Option ℕ → Firsts = λ put erase. record { put = put; erase = erase } in
    λ i. made (put i) (erase i)

-- What is stored with whatever files

pub same_files : (s : Stored) → IsCoherent s → HasOtherFiles s s
same_files s coherent = record { coherent = coherent; frozen = refl; active = refl; pending = refl }

module _ (s t : Stored) (state : State) (levels : List (List Parts)) (is : Remembers s state levels) (others : HasOtherFiles s t) where
  firsts_are : state.firsts ≡ firsts_in t.active.records
  firsts_are = is.firsts ∙ ap (λ (segment : Segment). firsts_in segment.records) (sym others.active)

  frozen_firsts_are : state.frozen_firsts ≡ firsts_in (records_in t.frozen)
  frozen_firsts_are = is.frozen_firsts ∙ ap (λ segment. firsts_in (records_in segment)) (sym others.frozen)

  abbrev swept : List ℕ
  swept = map (λ (file : Cited). file.swept) t.manifest.files

  pub done_remembered : done_with state t.manifest.files ≡ done_upto (layout_of t)
  done_remembered =
      let records = t.active.records ++ records_in t.frozen in
      (λ i. earlier (least swept) (earlier (firsts_are i).put (frozen_firsts_are i).put))
      ∙ ap (earlier (least swept)) (sym (put-append t.active.records (records_in t.frozen)))
      ∙ sym (least-append swept (filter_map put_place (map plain records)))
      ∙ sym (done_by_cited t others.coherent)

  first_recorded_is : first_recorded state ≡ first_erase t
  first_recorded_is = (λ i. earlier (frozen_firsts_are i).erase (firsts_are i).erase) ∙ sym (erase-append (records_in t.frozen) t.active.records)

  pub kept_remembered : kept_with state t.manifest.files ≡ kept_erases t
  kept_remembered = λ i. kept_of ((is.pending ∙ sym others.pending) i) (done_remembered i) (first_recorded_is i)

pub left_remembered : (s : Stored) (state : State) (levels : List (List Parts)) → Remembers s state levels
    → left_with state ≡ left_erases (layout_of s)
left_remembered s state levels is =
    let files = ap (λ m. done_with state m.files) is.manifest in
    let done = files ∙ done_remembered s s state levels is (same_files s is.coherent) in
    λ i. filter (λ (erase : Pending). is_above (done i) erase.seq) (is.pending i)

-- Without those that a manifest doesn't keep, what is remembered has a spelling still

pub staying_are_erases : (company : Company) (state : State) (files : List Cited) → AreErases state.pending → AreErases (staying_with company state files)
staying_are_erases Last state files are = kept_are_erases (done_with state files) (first_recorded state) state.pending are
staying_are_erases Beside state files are = are

pub installed_writable : (company : Company) (manifest : Manifest) (state : State) → IsWritable state → HasSpelling manifest → length manifest.segments ≡ segments_for state.frozen
    → IsWritable (installed company manifest state)
installed_writable company manifest state is spelled segments = record {
  manifest = spelled;
  segments = segments;
  pending = staying_are_erases company state manifest.files is.pending;
  active = is.active;
  frozen = is.frozen;
  count = is.count;
  records = is.records;
  drawn = omega arith;
  last = spelled.next;
}
