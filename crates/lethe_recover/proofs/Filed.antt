-- What the files of records are to a layout.
use Rattle.std.proofs.Common.{◌≡◌, ◌≢◌, ◌<◌, ◌≤◌, inl, inr, ℕ, zero, suc, List, [], ◌∷◌, ◌++◌, map, get_or, length, All, Contains, Option, Some, None, refl, sym, ap, ◌∙◌, subst, arith}
use Rattle.std.specs.Prelude.{◌↔◌, flat_map, filter, unwrap_or, option_map, ◌==◌}
use Rattle.std.specs.FinMap as finmap
use Rattle.std.proofs.lemmas.Bool.{eq-eqb}
use Rattle.std.proofs.lemmas.List.Elements.{All-append, All-contains, All-map, All-weaker, Contains-append_cases, Contains-append_left, Contains-append_right}
use Rattle.std.proofs.lemmas.List.Sorted.{Contains-permutation, IsPermutation-sym}
use Rattle.lethe_base.specs.History.{History}
use Rattle.lethe_base.specs.Layout.{File, Layout, buffer_of, files_of, frozen_records}
use Rattle.lethe_base.specs.declared.config.Fields.{Fields}
use Rattle.lethe_base.specs.declared.entry.Entry.{Entry}
use Rattle.lethe_base.specs.declared.pending.Pending.{Pending}
use Rattle.lethe_base.proofs.LayoutLaws.{none_in}
use Rattle.lethe_fade.specs.Spans.{KeyRange, overlaps}
use Rattle.lethe_header.specs.declared.header.Header.{Header}
use Rattle.lethe_segment.specs.declared.record.Record.{Record}
use Rattle.lethe_merge.specs.Merge.{merged}
use Rattle.lethe_moves.specs.Files as moves
use Rattle.lethe_moves.specs.Flushes.{Flushes, frozen_entries, span_of}
use Rattle.lethe_moves.specs.Made.{AreMade}
use Rattle.lethe_cover.proofs.Lists.{pairs_from, pairs_map, pairs_to}
use Rattle.lethe_manifest.specs.Manifests as manifests
use Rattle.lethe_manifest.specs.declared.manifest.Cited.{Cited}
use Rattle.lethe_stored.specs.Files.{StoredFile, Parts, parts_of, file_of, cited_of}
use Rattle.lethe_stored.specs.Levels.{HasFiles}
use Rattle.lethe_stored.specs.Replayed.{AreNewestOf}
use Rattle.lethe_stored.specs.Stored.{Stored, Segment, IsCoherent, count_of, layout_of, pending_of, plain, records_in}
use Rattle.lethe_stored.proofs.FileFacts.{lower_is, upper_is}
use Rattle.lethe_stored.proofs.Leveled.{from_filter, in_filter, low_level}
use Rattle.lethe_stored.proofs.Lists.{all_from, all_left, all_right, from_map, in_map}
use Rattle.lethe_follows.specs.Woven.{AreWovenOf}
use Rattle.lethe_follows.proofs.Following.{file_from}
use Rattle.lethe_flush.specs.Clear.{IsClearOf}
use Rattle.lethe_flush.specs.declared.made.MadeFiles.{MadeFiles}
use Rattle.lethe_flush.proofs.Clearness.{unmapped}
use Rattle.lethe_flush.proofs.Newest.{newest_values}
use Rattle.lethe_recover.specs.Flushing.{IsFlushOfRecords}
use Rattle.lethe_recover.specs.Reopening.{AreFiled, AreHeadersOf}

-- Headers that are there

-- what stands at a level comes from a file of some level
from_level : {F : Type 0} (p : F → Parts) (levels : List (List F)) (level : ℕ) (parts : Parts) → Contains (get_or (map (map p) levels) level []) parts → (file : F) × Contains (flat_map (λ files. files) levels) file × (p file ≡ parts)
from_level p [] level parts there = absurd (none_in parts there)
from_level p (files ∷ levels) zero parts there = let found = from_map p files parts there in (found.0, Contains-append_left files (flat_map (λ files. files) levels) found.0 found.1, found.2)
from_level p (files ∷ levels) (suc level) parts there = let found = from_level p levels level parts there in (found.0, Contains-append_right files (flat_map (λ files. files) levels) found.0 found.1, found.2)

head_in : {F : Type 0} (p : F → Parts) (head : F → Header) → ((file : F) → head file ≡ (p file).header) → (levels : List (List F)) (s : Stored) → IsCoherent s → HasFiles s (map (map p) levels)
    → (file : StoredFile) → Contains s.files file → Contains (map head (flat_map (λ files. files) levels)) file.header
head_in p head own levels s coherent has file there =
    let low = low_level s coherent file there in
    let within : file.level < length (map (map p) levels) = let count = has.count in omega (arith, low, count) in
    let at = in_filter (λ (other : StoredFile). other.level == file.level) s.files file there (eq-eqb file.level file.level refl) in
    let stands = Contains-permutation _ _ (parts_of file) (has.each file.level within) (in_map parts_of (filter (λ (other : StoredFile). other.level == file.level) s.files) file at) in
    let found = from_level p levels file.level (parts_of file) stands in
    let same : head found.0 ≡ file.header = own found.0 ∙ ap (λ (parts : Parts). parts.header) found.2 in
    subst (Contains (map head (flat_map (λ files. files) levels))) same (in_map head (flat_map (λ files. files) levels) found.0 found.1)

-- a file stands at some level
to_level : {F : Type 0} (p : F → Parts) (levels : List (List F)) (file : F) → Contains (flat_map (λ files. files) levels) file → (level : ℕ) × (level < length (map (map p) levels)) × Contains (get_or (map (map p) levels) level []) (p file)
to_level p [] file there = absurd (none_in file there)
to_level p (files ∷ levels) file there = elim (Contains-append_cases files (flat_map (λ files. files) levels) file there) [
  | inl here ↦ (zero, omega arith, in_map p files file here)
  | inr rest ↦ let found = to_level p levels file rest in let lt = found.1 in (suc found.0, omega (arith, lt), found.2)
]

-- and no header is there beside those of the stored files
head_from : {F : Type 0} (p : F → Parts) (head : F → Header) → ((file : F) → head file ≡ (p file).header) → (levels : List (List F)) (s : Stored) → HasFiles s (map (map p) levels)
    → (header : Header) → Contains (map head (flat_map (λ files. files) levels)) header → (file : StoredFile) × Contains s.files file × (file.header ≡ header)
head_from p head own levels s has header there =
    let file = from_map head (flat_map (λ files. files) levels) header there in
    let at = to_level p levels file.0 file.1 in
    let stands = Contains-permutation _ _ (p file.0) (IsPermutation-sym _ _ (has.each at.0 at.1)) at.2 in
    let stored = from_map parts_of (filter (λ (other : StoredFile). other.level == at.0) s.files) (p file.0) stands in
    (stored.0, (from_filter (λ (other : StoredFile). other.level == at.0) s.files stored.0 stored.1).0, ap (λ (parts : Parts). parts.header) stored.2 ∙ sym (own file.0) ∙ file.2)

pub heads_are : {F : Type 0} (p : F → Parts) (head : F → Header) → ((file : F) → head file ≡ (p file).header) → (levels : List (List F)) (s : Stored) → IsCoherent s → HasFiles s (map (map p) levels)
    → AreHeadersOf s (map head (flat_map (λ files. files) levels))
heads_are p head own levels s coherent has = record { each = head_in p head own levels s coherent has; only = head_from p head own levels s has }

-- so what all these headers have is what all the files' have
pub heads_same : (P : Header → Type 0) (s : Stored) (heads : List Header) → AreHeadersOf s heads → All P heads ↔ All (λ (file : StoredFile). P file.header) s.files
heads_same P s heads are = (
  (λ all. all_from (λ (file : StoredFile). P file.header) s.files (λ file there. All-contains P heads file.header all (are.each file there))),
  (λ all. all_from P heads (λ header there. let found = are.only header there in subst P found.2 (All-contains (λ (file : StoredFile). P file.header) s.files found.0 all found.1))),
)

-- and where files come in front of them
pub heads_more : (P : Header → Type 0) (heads more : List Header) (made files : List StoredFile) → more ≡ map (λ file. file.header) made → All P heads ↔ All (λ (file : StoredFile). P file.header) files
    → All P (heads ++ more) ↔ All (λ (file : StoredFile). P file.header) (made ++ files)
heads_more P heads more made files more_are same =
    let Q : StoredFile → Type 0 = λ file. P file.header in (
      (λ all. All-append Q made files (unmapped P (λ (file : StoredFile). file.header) made (subst (All P) more_are (all_right P heads more all))) (same.0 (all_left P heads more all))),
      (λ all. All-append P heads more (same.1 (all_right Q made files all)) (subst (All P) (sym more_are) (All-map P (λ (file : StoredFile). file.header) made (all_left Q made files all)))),
    )

-- Whether a file has keys of a range

clear_of_file : (keys : KeyRange) (file : StoredFile) → IsClearOf keys file.header → moves.IsClearOf keys (file_of file)
clear_of_file keys file is = sym (λ i. overlaps keys (record { lo = lower_is file.header.tiles file.pages i; hi = upper_is [] file.header.tiles file.pages i })) ∙ is

number_below : (s : Stored) → IsCoherent s → (file : StoredFile) → Contains s.files file → file.header.no < s.manifest.next
number_below s coherent file there =
    let cited : Contains s.manifest.files (cited_of file) = subst (λ (files : List Cited). Contains files (cited_of file)) (sym coherent.files) (in_map cited_of s.files file there) in
    (All-contains (manifests.IsFile s.manifest.next s.manifest.config.levels) s.manifest.files (cited_of file) coherent.spelled.files.each cited).no

module _ (s : Stored) (coherent : IsCoherent s) where
  pub stored_clear : (heads : List Header) → ((file : StoredFile) → Contains s.files file → Contains heads file.header) → (keys : KeyRange) → All (IsClearOf keys) heads → All (moves.IsClearOf keys) (files_of (layout_of s))
  stored_clear heads all keys clear = all_from (moves.IsClearOf keys) (files_of (layout_of s)) (λ file there.
      let found = file_from s.manifest.config.levels s.files file there in
      subst (moves.IsClearOf keys) found.3 (clear_of_file keys found.0 (All-contains (IsClearOf keys) heads (found.0).header clear (all found.0 found.1))))

  pub stored_below : (next : ℕ) → s.manifest.next ≤ next → All (λ (file : File). file.no < next) (files_of (layout_of s))
  stored_below next le = all_from (λ (file : File). file.no < next) (files_of (layout_of s)) (λ file there.
      let found = file_from s.manifest.config.levels s.files file there in
      let lt = number_below s coherent found.0 found.1 in
      subst (λ (file : File). file.no < next) found.3 (omega (arith, lt, le)))

pub new_clear : (keys : KeyRange) (made : List StoredFile) → All (IsClearOf keys) (map (λ file. file.header) made) → All (moves.IsClearOf keys) (map file_of made)
new_clear keys made clear = all_from (moves.IsClearOf keys) (map file_of made) (λ file there.
    let found = from_map file_of made file there in
    subst (moves.IsClearOf keys) found.2 (clear_of_file keys found.0 (All-contains (IsClearOf keys) (map (λ file. file.header) made) (found.0).header clear (in_map (λ (file : StoredFile). file.header) made found.0 found.1))))

-- A flush

pub frozen_are : (o : Option Segment) → unwrap_or (option_map (λ older. map plain older.records) o) [] ≡ map plain (records_in o)
frozen_are None = refl
frozen_are (Some older) = refl

pub flushes_of : (h : History) (l : Layout) (records : List Record) (erases : List Pending) (upto first : ℕ) (heads : List Header) (fields : Fields) (made : MadeFiles) → (f : IsFlushOfRecords fields records erases upto first heads made)
    → frozen_records l ≡ map plain records → erases ≡ l.pending → upto ≡ length h → ((keys : KeyRange) → All (IsClearOf keys) heads → All (moves.IsClearOf keys) (files_of l)) → All (λ (file : File). file.no < first) (files_of l)
    → Flushes h l (map file_of f.files)
flushes_of h l records erases upto first heads fields made f records_are erases_are upto_is transfer below =
    let entries_are : f.entries ≡ frozen_entries l = newest_values (frozen_records l) f.entries f.ascending (λ key. f.newest key ∙ ap (λ rs. finmap.get (buffer_of rs) key) (sym records_are)) in
    let files = f.files in
    let new = f.is.new in
    record {
      alone = f.alone;
      clear = λ alone. subst (λ (es : List Entry). All (moves.IsClearOf (span_of es)) (files_of l)) entries_are (transfer (span_of f.entries) (f.clear.0 alone).1);
      made = subst (λ n. AreMade (merged (frozen_entries l) l.pending f.alone) n (map file_of files)) upto_is
          (subst (λ es. AreMade (merged (frozen_entries l) es f.alone) upto (map file_of files)) erases_are
          (subst (λ es. AreMade (merged es erases f.alone) upto (map file_of files)) entries_are f.is.woven.made));
      new = record {
        distinct = pairs_to (λ (a b : File). a.no ≢ b.no) (map file_of files) (pairs_map (λ (a b : File). a.no ≢ b.no) file_of files (pairs_from (λ (a b : StoredFile). a.header.no ≢ b.header.no) files new.files_once));
        above = All-map (λ (file : File). All (λ (other : File). other.no < file.no) (files_of l)) file_of files
            (λ k d inside.
            let from : first ≤ (get_or files k d).header.no = (new.headers k d inside).0 in
            All-weaker (λ (other : File). other.no < first) (λ (other : File). other.no < (get_or files k d).header.no) (λ other lt. omega (arith, lt, from)) (files_of l) below);
      };
    }

-- the same files, as those of the records that are stored
pub filed_of : (s : Stored) (records stored : List Record) (erases : List Pending) (upto first : ℕ) (heads : List Header) (there : List StoredFile) (fields : Fields) (made : MadeFiles)
    → (f : IsFlushOfRecords fields records erases upto first heads made) → fields ≡ s.manifest.config → records ≡ stored → erases ≡ pending_of s → upto ≡ count_of s
    → ((keys : KeyRange) → All (IsClearOf keys) heads ↔ All (λ (file : StoredFile). IsClearOf keys file.header) there) → AreFiled s stored there first made.next f.files
filed_of s records stored erases upto first heads there fields made f fields_are records_are erases_are upto_is same =
    let files : List File = map file_of f.files in
    let transfer = same (span_of f.entries) in
    record {
      entries = f.entries;
      ascending = f.ascending;
      newest = subst (λ (rs : List Record). AreNewestOf rs f.entries) records_are f.newest;
      alone = f.alone;
      clear = (
        (λ alone. let both = f.clear.0 alone in (both.0, transfer.0 both.1)),
        (λ both. f.clear.1 (both.0, transfer.1 both.1)),
      );
      woven = subst (λ config. AreWovenOf config (merged f.entries (pending_of s) f.alone) (count_of s) files) fields_are
          (subst (λ n. AreWovenOf fields (merged f.entries (pending_of s) f.alone) n files) upto_is
          (subst (λ es. AreWovenOf fields (merged f.entries es f.alone) upto files) erases_are f.is.woven));
      new = f.is.new;
      order = f.is.order;
    }
