-- The least time of the segments' records.
use Rattle.std.proofs.Common.{◌≡◌, ◌⊎◌, inl, inr, ◌↔◌, ℕ, ◌+◌, ◌<◌, false, List, [], ◌∷◌, ◌++◌, map, Contains, Option, Some, None, refl, sym, ap, ◌∙◌, subst, arith}
use Rattle.std.specs.Prelude.{option_map}
use Rattle.std.proofs.lemmas.Bool.{leb-false, lt-leb}
use Rattle.lethe_base.specs.Layout as layout
use Rattle.lethe_base.specs.Layout.{frozen_records}
use Rattle.lethe_base.specs.Shapes.{earlier}
use Rattle.lethe_base.specs.declared.config.Fields.{Fields}
use Rattle.lethe_base.proofs.LayoutLaws.{none_in}
use Rattle.lethe_base.proofs.Newest.{first_is, first_or_rest}
use Rattle.lethe_cover.specs.Changes.{HasTime}
use Rattle.lethe_cover.proofs.Common.{⊎_elim}
use Rattle.lethe_cover.proofs.Lists.{in_map, in_rest, map_from}
use Rattle.lethe_cover.proofs.Merging.{IsBy}
use Rattle.lethe_fade.specs.Expired.{is_passed}
use Rattle.lethe_fade.specs.LevelTimes.{level_deadline}
use Rattle.lethe_moves.proofs.Times.{earlier-assoc, earlier-none}
use Rattle.lethe_segment.specs.declared.record.Record.{Record}
use Rattle.lethe_segment.specs.declared.record.Record.TheVariants as of
use Rattle.lethe_stored.specs.Stored.{Segment, Stored, layout_of, plain, records_in}
use Rattle.lethe_follows.specs.Young.{AreYoung, oldest_in, time_of}

-- one record more
pub oldest-push : (records : List Record) (r : Record) → oldest_in (records ++ r ∷ []) ≡ earlier (oldest_in records) (time_of r)
oldest-push [] r = earlier-none (time_of r)
oldest-push (first ∷ records) r = ap (earlier (time_of first)) (oldest-push records r) ∙ sym (earlier-assoc (time_of first) (oldest_in records) (time_of r))

-- The least time is at most that of each record, and is a record's.

oldest_by : (records : List Record) (r : Record) (time : ℕ) → Contains records r → time_of r ≡ Some time → IsBy (oldest_in records) time
oldest_by [] r time there has = absurd (none_in r there)
oldest_by (first ∷ records) r time there has = ⊎_elim
    (λ same. let own : time_of first ≡ Some time = ap time_of same ∙ has in left (time_of first) (oldest_in records) own)
    (λ rest. right (time_of first) (oldest_in records) (oldest_by records r time rest has)) (first_or_rest first records r there)
  where
    left : (a b : Option ℕ) → a ≡ Some time → IsBy (earlier a b) time
    left a b is = grind arith

    right : (a b : Option ℕ) → IsBy b time → IsBy (earlier a b) time
    right a b by = grind arith

oldest_from : (records : List Record) (time : ℕ) → oldest_in records ≡ Some time → (r : Record) × Contains records r × (time_of r ≡ Some time)
oldest_from [] time is = absurd (let clash : None ≡ Some time = is in cc)
oldest_from (first ∷ records) time is = ⊎_elim (λ own. (first, first_is first records first refl, own))
    (λ rest. let found = oldest_from records time rest in (found.0, in_rest first records found.0 found.1, found.2)) (either (time_of first) (oldest_in records) is)
  where
    either : (a b : Option ℕ) → earlier a b ≡ Some time → (a ≡ Some time) ⊎ (b ≡ Some time)
    either a b is = grind arith

-- Records of a segment, and of its layout

plain_time : (r : Record) (time : ℕ) → HasTime (plain r) time ↔ (time_of r ≡ Some time)
plain_time (of.Entry entry) time = (λ has. has, λ has. has)
plain_time (of.Blind place) time = (λ none. absurd none, λ has. absurd (let clash : None ≡ Some time = has in cc))
plain_time (of.Erase erase) time = (λ has. ap Some has, λ has. let is : Some erase.time ≡ Some time = has in cc)

-- none of the records is as old as level 0 may have it
abbrev AreYoungIn : Fields → ℕ → List layout.Record → Type 0
AreYoungIn fields to records = (r : layout.Record) (time : ℕ) → Contains records r → HasTime r time → to < time + level_deadline fields 0

young_in : (fields : Fields) (to : ℕ) (records : List Record) → AreYoungIn fields to (map plain records) ↔ (is_passed fields to 0 (oldest_in records) ≡ false)
young_in fields to records = (
  λ young. by_time (oldest_in records) refl young,
  λ least r time there has.
      let from = map_from plain records r there in
      let has_time = (plain_time from.0 time).0 (subst (λ r. HasTime r time) (sym from.2) has) in
      let oldest = oldest_by records from.0 time from.1 has_time in
      let later = leb-false (oldest.least + level_deadline fields 0) to (sym (ap (is_passed fields to 0) oldest.is) ∙ least) in
      let upto = oldest.upto in
      omega (arith, later, upto),
)
  where
    by_time : (oldest : Option ℕ) → oldest_in records ≡ oldest → AreYoungIn fields to (map plain records) → is_passed fields to 0 oldest ≡ false
    by_time None is young = refl
    by_time (Some time) is young =
        let found = oldest_from records time is in
        lt-leb (time + level_deadline fields 0) to (young (plain found.0) time (in_map plain records found.0 found.1) ((plain_time found.0 time).1 found.2))

frozen_plain : (s : Stored) → frozen_records (layout_of s) ≡ map plain (records_in s.frozen)
frozen_plain s = by s.frozen
  where
    by : (frozen : Option Segment) → frozen_records (record (layout_of s) { frozen = option_map (λ older. map plain older.records) frozen }) ≡ map plain (records_in frozen)
    by None = refl
    by (Some older) = refl

pub young_by : (s : Stored) (to : ℕ) → AreYoung s to ↔ ((is_passed s.manifest.config to 0 (oldest_in s.active.records) ≡ false) × (is_passed s.manifest.config to 0 (oldest_in (records_in s.frozen)) ≡ false))
young_by s to = (
  λ young. (active.0 (λ r time there has. young r time (inl there) has), older.0 (λ r time there has. young r time (inr (subst (λ records. Contains records r) (sym (frozen_plain s)) there)) has)),
  λ least r time recorded has. ⊎_elim (λ here. active.1 least.0 r time here has) (λ before. older.1 least.1 r time (subst (λ records. Contains records r) (frozen_plain s) before) has) recorded,
)
  where
    active : AreYoungIn s.manifest.config to (map plain s.active.records) ↔ (is_passed s.manifest.config to 0 (oldest_in s.active.records) ≡ false)
    active = young_in s.manifest.config to s.active.records

    older : AreYoungIn s.manifest.config to (map plain (records_in s.frozen)) ↔ (is_passed s.manifest.config to 0 (oldest_in (records_in s.frozen)) ≡ false)
    older = young_in s.manifest.config to (records_in s.frozen)
