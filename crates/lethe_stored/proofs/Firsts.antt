-- The two smallest stores are kept for the empty history and for that of one put.
use Rattle.std.proofs.Common.{◌≡◌, ◌≢◌, ◌+◌, zero, suc, ◌<◌, ◌≤◌, inr, ℕ, List, [], ◌∷◌, length, map, Some, None, refl, sym, ap, ◌∙◌, subst, arith}
use Rattle.std.specs.FinMap as finmap
use Rattle.std.specs.FinMap.{len-empty, len-entries}
use Rattle.std.specs.Ordering.{nat_cmp}
use Rattle.std.specs.List.{range_with_len}
use Rattle.std.specs.Prelude.{option_and_then, replicate}
use Rattle.std.proofs.lemmas.List.Elements.{All-nil}
use Rattle.lethe_base.specs.Configuration.{IsConfig}
use Rattle.lethe_base.specs.Layout.{new_layout}
use Rattle.lethe_base.specs.Shapes.{IsValidShape, shape_of}
use Rattle.lethe_base.specs.Covers.{Covers}
use Rattle.lethe_base.specs.Keys.{key_cmp}
use Rattle.lethe_base.specs.Limits.{max_place}
use Rattle.lethe_base.specs.declared.entry.Body.TheVariants as body
use Rattle.lethe_base.specs.declared.entry.Entry.{Entry}
use Rattle.lethe_base.specs.declared.config.Fields.{Fields}
use Rattle.lethe_base.specs.declared.pending.Pending.{Pending}
use Rattle.lethe_base.proofs.Histories.{legal_empty, done_empty}
use Rattle.lethe_base.proofs.LayoutLaws.{new_covers, new_is_valid}
use Rattle.lethe_disk.specs.Directory.{Directory, object}
use Rattle.lethe_segment.specs.declared.record.Record.TheVariants as of
use Rattle.lethe_segment.specs.declared.record.Record.{Record}
use Rattle.lethe_segment.specs.Segments.{segment_bytes}
use Rattle.lethe_segment.specs.Holding.{Holds}
use Rattle.lethe_segment.proofs.Runs.{holds_spelling}
use Rattle.lethe_manifest.specs.Manifests.{manifest_bytes}
use Rattle.lethe_manifest.proofs.Journals.{none_erased, one_segment, none_filed}
use Rattle.lethe_commit.specs.Switch.{manifest_name, HasGreatest}
use Rattle.lethe_cover.specs.Steps.{time_of, put_entry}
use Rattle.lethe_stored.specs.Files.{IsFile, at_level}
use Rattle.lethe_stored.specs.Stored.{Stored, IsCoherent, segment_name, in_order, layout_of, appended}
use Rattle.lethe_stored.specs.Encodes.{Encodes, HasObject}
use Rattle.lethe_stored.specs.Kept.{IsFor, IsKept}
use Rattle.lethe_stored.specs.Examples.{small, new_manifest, new_segment, put_manifest, put_segment, IsNewStore, IsOnePut, the_put}
use Rattle.lethe_stored.proofs.ExamplesSpelled.{new_manifest_spelled, put_manifest_spelled, new_segment_spelled, put_segment_spelled, empty_manifest}
use Rattle.lethe_stored.proofs.Lists.{no_pairs, pairs_of_one}
use Rattle.lethe_stored.proofs.Numbered.{covers_numbered}
use Rattle.lethe_stored.proofs.Changes.{put_stored, put_for}

no_items : {X : Type 0} (xs : List X) → length xs ≡ 0 → xs ≡ []
no_items [] e = refl
no_items (x ∷ xs) e = absurd (omega arith)

-- levels without files
pub no_levels : (first levels : ℕ) → map (at_level []) (range_with_len first levels) ≡ replicate levels []
no_levels first zero = refl
no_levels first (suc levels) = ap (λ l. [] ∷ l) (no_levels (first + 1) levels)

pub none_pending : in_order [] ≡ []
none_pending = ap (map (λ (p : ℕ × Pending). p.1)) (no_items (finmap.entries (finmap.empty {X = Pending} {R = nat_cmp})) (sym (len-entries (finmap.empty {X = Pending} {R = nat_cmp})) ∙ len-empty nat_cmp Pending))

-- A store without records: its manifest, and an empty segment.

abbrev pub empty_stored : Fields → ℕ → ℕ → ℕ → Stored
empty_stored config own next segment = record { manifest = empty_manifest config own next segment; frozen = None; active = record { no = segment; records = [] }; files = [] }

module _ (config : Fields) (own next segment : ℕ) (limits : IsConfig config) (own_below : own < next) (segment_below : segment < next) where
  pub empty_is_stored : next ≤ max_place → IsCoherent (empty_stored config own next segment)
  empty_is_stored few = record {
    spelled = record {
      no = own_below;
      config = limits;
      clock = omega arith;
      count = omega arith;
      next = few;
      certificate = tt;
      erases = none_erased;
      segments = one_segment next segment segment_below;
      files = none_filed next config.levels;
    };
    cites = refl;
    once = pairs_of_one (segment ∷ []) segment refl;
    active = tt;
    frozen = tt;
    files = refl;
    each = All-nil (IsFile next);
    files_once = no_pairs (λ a b. a.header.no ≢ b.header.no);
    pages_once = no_pairs (λ a b. a.no ≢ b.no);
  }

  empty_layout : layout_of (empty_stored config own next segment) ≡ record (new_layout config.levels) { next = next }
  empty_layout = λ i. record (new_layout config.levels) { next = next; pending = none_pending i; levels = [] ∷ no_levels 1 config.levels i }

  pub empty_stands : IsFor [] (empty_stored config own next segment)
  empty_stands = record {
    legal = legal_empty;
    done = done_empty;
    covers = subst (Covers config.threshold []) (sym empty_layout) (covers_numbered config.threshold [] (new_layout config.levels) 0 next (new_covers config.threshold config.levels));
    shape = subst (λ l. IsValidShape (shape_of l)) (sym empty_layout) (new_is_valid config.levels);
    clock = refl;
    count = refl;
    certificate = refl;
  }

-- By hand

small_limits : IsConfig small
small_limits = record {
  threshold = (omega arith, omega arith);
  ratio = (omega arith, omega arith);
  levels = (omega arith, omega arith);
  page = (omega arith, omega arith);
  tile = (omega arith, omega arith);
  file = (omega arith, omega arith);
  entries = omega arith;
  buffer = (omega arith, omega arith);
  room = omega arith;
}

encoded : (d : Directory) (own next segment : ℕ) (records : List Record) (bytes spelling : List ℕ) → own < next → HasGreatest (Some own) d → object d (manifest_name own) ≡ Some bytes → bytes ≡ manifest_bytes (empty_manifest small own next segment)
    → object d (segment_name segment) ≡ Some spelling → spelling ≡ segment_bytes segment records
    → Encodes d (record (empty_stored small own next segment) { active = record { no = segment; records = records } })
encoded d own next segment records bytes spelling below gate manifest is there spells = record {
  greatest = gate;
  manifest = manifest ∙ ap Some is;
  parts = record { active = record { bytes = spelling; there = there; holds = subst (Holds segment records) (sym spells) (holds_spelling segment records) }; frozen = tt; files = All-nil (HasObject d) };
}

pub new_store : (d : Directory) → IsNewStore d → IsKept small d []
new_store d is = inr (record {
  s = empty_stored small 2 3 1;
  config_is = refl;
  coherent = empty_is_stored small 2 3 1 small_limits (omega arith) (omega arith) (omega arith);
  encodes = encoded d 2 3 1 [] new_manifest new_segment (omega arith) is.gate is.manifest new_manifest_spelled is.segment new_segment_spelled;
  stands = empty_stands small 2 3 1 small_limits (omega arith) (omega arith);
})

abbrev empty : Stored
empty = empty_stored small 4 5 3

abbrev the_record : Record
the_record = of.Entry (record { seq = 1; key = 97 ∷ []; body = body.Put 5 (120 ∷ []); since = None })

no_time : time_of (97 ∷ []) (layout_of empty) ≡ None
no_time = ap (λ o. option_and_then (λ (entry : Entry). entry.since) o) (finmap.get-empty key_cmp (97 ∷ []))

the_record_is : of.Entry (put_entry [] (layout_of empty) (97 ∷ []) 5 (120 ∷ [])) ≡ the_record
the_record_is = ap (λ since. of.Entry (record { seq = 1; key = 97 ∷ []; body = body.Put 5 (120 ∷ []); since = since })) no_time

pub one_put : (caller : ℕ) (d : Directory) → IsOnePut d → IsKept small d (the_put caller)
one_put caller d is =
    let coherent = empty_is_stored small 4 5 3 small_limits (omega arith) (omega arith) (omega arith) in
    let stands = empty_stands small 4 5 3 small_limits (omega arith) (omega arith) in
    inr (record {
      s = appended empty the_record;
      config_is = refl;
      coherent = subst (λ r. IsCoherent (appended empty r)) the_record_is (put_stored [] empty coherent stands (omega arith) caller (97 ∷ []) 5 (120 ∷ []) (record { some = omega arith; short = omega arith }) (omega arith) (omega arith));
      encodes = encoded d 4 5 3 (the_record ∷ []) put_manifest put_segment (omega arith) is.gate is.manifest put_manifest_spelled is.segment put_segment_spelled;
      stands = subst (λ r. IsFor (the_put caller) (appended empty r)) the_record_is (put_for [] empty coherent stands (omega arith) caller (97 ∷ []) 5 (120 ∷ []));
    })
