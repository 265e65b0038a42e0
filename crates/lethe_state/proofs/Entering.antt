-- The newest entries, where a record is entered.
use Rattle.std.proofs.Common.{◌≡◌, ◌<◌, ℕ, length, arith, Bool, true, false, cond, List, [], ◌∷◌, ◌++◌, All, Option, Some, None, refl, sym, ap, ◌∙◌, subst}
use Rattle.std.specs.Prelude.{option_and_then, IfSome}
use Rattle.std.proofs.lemmas.List.Elements.{All-contains}
use Rattle.lethe_base.specs.Keys.{Bytes, same_key}
use Rattle.lethe_base.specs.Limits.{max_place}
use Rattle.lethe_base.specs.Entries.{entry_of, Inserts}
use Rattle.lethe_base.specs.Spelling.{HasSpelling, IsTimeOrNone}
use Rattle.lethe_base.specs.declared.entry.Entry.{Entry}
use Rattle.lethe_base.specs.declared.pending.Pending.{Pending}
use Rattle.lethe_cover.proofs.ByKey.{entry_in, own_entry}
use Rattle.lethe_cover.proofs.Lists.{all_from}
use Rattle.lethe_manifest.specs.Manifests as manifests
use Rattle.lethe_manifest.specs.Manifests.{AreErases}
use Rattle.lethe_manifest.specs.declared.manifest.Manifest.{Manifest}
use Rattle.lethe_mem.specs.Buffered.{Buffered}
use Rattle.lethe_segment.specs.Records.{RecordHasSpelling}
use Rattle.lethe_segment.specs.declared.record.Record.{Record}
use Rattle.lethe_segment.specs.declared.record.Record.TheVariants as of
use Rattle.lethe_stored.specs.Replayed.{AreNewestOf}
use Rattle.lethe_flush.proofs.Newest.{newest_entered, newest_still}
pub use Rattle.lethe_flush.proofs.Newest.{inserts_few}
use Rattle.lethe_state.specs.Records.{Enters, IsNext, pending_with, since_of}
use Rattle.lethe_state.specs.Writable.{IsWritable, segments_for}
use Rattle.lethe_state.specs.declared.state.State.{State}

-- the time of an entry can be written
pub time_fits : (key : Bytes) (entries : List Entry) → All HasSpelling entries → IsTimeOrNone (since_of key entries)
time_fits key entries spelled = by (entry_of key entries) refl
  where
    by : (found : Option Entry) → entry_of key entries ≡ found → IsTimeOrNone (option_and_then (λ (entry : Entry). entry.since) found)
    by None is = tt
    by (Some entry) is = (All-contains HasSpelling entries entry spelled (entry_in key entries entry is).0).front.time

some_is : (a b : Entry) → Some a ≡ Some b → a ≡ b
some_is a b is = cc

inserted_spelled : (entry : Entry) (old new : List Entry) → HasSpelling entry → All HasSpelling old → Inserts entry old new → All HasSpelling new
inserted_spelled entry old new spelled each inserts = all_from HasSpelling new (λ other there.
    by other (same_key other.key entry.key) (sym (inserts.entries other.key) ∙ own_entry new other inserts.ascending there))
  where
    by : (other : Entry) (b : Bool) → cond b (Some entry) (entry_of other.key old) ≡ Some other → HasSpelling other
    by other true is = subst HasSpelling (some_is entry other is) spelled
    by other false is = All-contains HasSpelling old other each (entry_in other.key old other is).0

pub entered_spelled : (next : Record) (old new : List Entry) → RecordHasSpelling next → All HasSpelling old → Enters next old new → All HasSpelling new
entered_spelled (of.Entry entry) old new spelled each inserts = inserted_spelled entry old new spelled each inserts
entered_spelled (of.Blind place) old new spelled each same = subst (All HasSpelling) (sym same) each
entered_spelled (of.Erase erase) old new spelled each same = subst (All HasSpelling) (sym same) each

clash_blind : (place : ℕ) (entry : Entry) → of.Blind place ≡ of.Entry entry → ⊥
clash_blind place entry is = cc

clash_erase : (erase : Pending) (entry : Entry) → of.Erase erase ≡ of.Entry entry → ⊥
clash_erase erase entry is = cc

pub newest_next : (records : List Record) (next : Record) (old new : List Entry) → RecordHasSpelling next → AreNewestOf records old → Enters next old new → AreNewestOf (records ++ next ∷ []) new
newest_next records (of.Entry entry) old new spelled newest inserts = newest_entered records entry old new newest inserts
newest_next records (of.Blind place) old new spelled newest same =
    subst (AreNewestOf (records ++ of.Blind place ∷ [])) (sym same) (newest_still records (of.Blind place) old (clash_blind place) newest)
newest_next records (of.Erase erase) old new spelled newest same =
    subst (AreNewestOf (records ++ of.Erase erase ∷ [])) (sym same) (newest_still records (of.Erase erase) old (clash_erase erase) newest)

pub entered_writable : (next : Record) (end : ℕ) (old new : State) → IsWritable old → old.count < max_place → RecordHasSpelling next → AreErases (pending_with old.pending next) → IsNext next end old new → IsWritable new
entered_writable next end old new is fits spelled erases step =
    let counts = step.count in
    let records = step.records in
    let before = is.records in
    let drawn = is.drawn in
    let last = is.last in
    let same = step.drawn in
    let cited : new.manifest.next ≡ old.manifest.next = ap (λ (m : Manifest). m.next) step.manifest in record {
      manifest = subst manifests.HasSpelling (sym step.manifest) is.manifest;
      segments = ap (λ (m : Manifest). length m.segments) step.manifest ∙ is.segments ∙ ap segments_for (sym step.frozen);
      pending = subst AreErases (sym step.pending) erases;
      active = entered_spelled next old.active.entries new.active.entries spelled is.active step.active;
      frozen = subst (λ frozen. IfSome frozen (λ (buffer : Buffered). All HasSpelling buffer.entries)) (sym step.frozen) is.frozen;
      count = omega (arith, counts, fits);
      records = omega (arith, counts, records, before);
      drawn = omega (arith, drawn, same, cited);
      last = omega (arith, last, same);
    }
