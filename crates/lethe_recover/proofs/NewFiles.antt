-- Files that are made one after the other, and the names of their objects.
use Rattle.std.proofs.Common.{◌≡◌, ◌≢◌, ◌<◌, ◌≤◌, inl, inr, ℕ, List, ◌++◌, map, All, AllPairs, Contains, sym, ap, subst, arith}
use Rattle.std.specs.Prelude.{flat_map, zip}
use Rattle.std.specs.List.Sorted.{IsPermutation}
use Rattle.std.proofs.lemmas.List.Concat.{flat_map-append}
use Rattle.std.proofs.lemmas.List.Elements.{All-append, All-contains, All-weaker}
use Rattle.std.proofs.lemmas.List.Sorted.{Contains-permutation, IsPermutation-sym}
use Rattle.lethe_base.specs.declared.name.Name.{Name}
use Rattle.lethe_base.proofs.Newest.{first_or_rest}
use Rattle.lethe_cover.proofs.Lists.{flat_from, pairs_append, pairs_from, pairs_to}
use Rattle.lethe_file.specs.Agreement.{page_name}
use Rattle.lethe_header.specs.Headers.{header_bytes}
use Rattle.lethe_header.specs.declared.header.PageLine.{PageLine}
use Rattle.lethe_commit.specs.declared.objects.Object.{Object}
use Rattle.lethe_stored.specs.Files.{StoredFile, IsFile, lines_in, file_name, objects_in, objects_of}
use Rattle.lethe_stored.proofs.Freezing.{file_later}
use Rattle.lethe_stored.proofs.Lists.{in_flat, in_map, from_flat, from_map, zip_left}
use Rattle.lethe_follows.specs.Filed.{AreNewFiles}
use Rattle.lethe_flush.specs.Made.{named_of}

module _ (first mid last : ℕ) (older newer : List StoredFile) (is_older : AreNewFiles first mid older) (is_newer : AreNewFiles mid last newer) (low : first ≤ mid) (high : mid ≤ last) where
  abbrev Heads : ℕ → ℕ → StoredFile → Type 0
  Heads from to file = (from ≤ file.header.no) × (file.header.no < to)

  -- the later ones in front of the earlier ones
  pub both_new : AreNewFiles first last (newer ++ older)
  both_new = record {
    level = All-append (λ (file : StoredFile). file.level ≡ 0) newer older is_newer.level is_older.level;
    each = All-append (IsFile last) newer older is_newer.each (All-weaker (IsFile mid) (IsFile last) (λ file is. file_later mid last file high is) older is_older.each);
    headers = All-append (Heads first last) newer older
        (All-weaker (Heads mid last) (Heads first last) (λ file is. let a = is.0 in (omega (arith, a), is.1)) newer is_newer.headers)
        (All-weaker (Heads first mid) (Heads first last) (λ file is. let b = is.1 in (is.0, omega (arith, b))) older is_older.headers);
    lines = subst (All (λ (line : PageLine). first ≤ line.no)) (sym (flat_map-append lines_in newer older)) (All-append (λ (line : PageLine). first ≤ line.no) (flat_map lines_in newer) (flat_map lines_in older)
        (All-weaker (λ (line : PageLine). mid ≤ line.no) (λ (line : PageLine). first ≤ line.no) (λ line is. omega (arith, is)) (flat_map lines_in newer) is_newer.lines) is_older.lines);
    files_once =
        let Apart : StoredFile → StoredFile → Type 0 = λ a b. a.header.no ≢ b.header.no in
        pairs_to Apart (newer ++ older) (pairs_append Apart newer older (pairs_from Apart newer is_newer.files_once) (pairs_from Apart older is_older.files_once) (λ a b left right same.
        let up = (All-contains (Heads mid last) newer a is_newer.headers left).0 in
        let down = (All-contains (Heads first mid) older b is_older.headers right).1 in
        omega (arith, up, down, same)));
    pages_once =
        let Apart : PageLine → PageLine → Type 0 = λ a b. a.no ≢ b.no in
        let news = flat_map lines_in newer in
        let olds = flat_map lines_in older in
        subst (AllPairs Apart) (sym (flat_map-append lines_in newer older)) (pairs_to Apart (news ++ olds) (pairs_append Apart news olds (pairs_from Apart news is_newer.pages_once) (pairs_from Apart olds is_older.pages_once) (λ a b left right same.
        let up = All-contains (λ (line : PageLine). mid ≤ line.no) news a is_newer.lines left in
        let found = flat_from lines_in older b right in
        let down = All-contains (λ (line : PageLine). line.no < mid) (lines_in found.0) b (All-contains (IsFile mid) older found.0 is_older.each found.1).below found.2 in
        omega (arith, up, down, same))));
  }

-- The objects have numbers from the first up to the last.
pub numbers_of : (first last : ℕ) (files : List StoredFile) → AreNewFiles first last files → (named : Name × List ℕ) → Contains (objects_of files) named → (first ≤ named.0.no) × (named.0.no < last)
numbers_of first last files new named there =
    let found = from_flat objects_in files named there in
    in_file found.0 found.1 found.2
  where
    in_file : (file : StoredFile) → Contains files file → Contains (objects_in file) named → (first ≤ named.0.no) × (named.0.no < last)
    in_file file inside within =
        elim (first_or_rest (file_name file.header.no, header_bytes file.header) (map (λ (page : PageLine × List ℕ). (page_name page.0.no, page.1)) (zip (lines_in file) file.pages)) named within) [
          | inl header ↦
              let bounds = All-contains (λ (f : StoredFile). (first ≤ f.header.no) × (f.header.no < last)) files file new.headers inside in
              let same : file.header.no ≡ named.0.no = ap (λ (n : Name × List ℕ). n.0.no) header in
              let a = bounds.0 in
              let b = bounds.1 in
              (omega (arith, a, same), omega (arith, b, same))
          | inr page ↦
              let pair = from_map (λ (page : PageLine × List ℕ). (page_name page.0.no, page.1)) (zip (lines_in file) file.pages) named page in
              let line = zip_left (lines_in file) file.pages pair.0 pair.1 in
              let a = All-contains (λ (l : PageLine). first ≤ l.no) (flat_map lines_in files) pair.0.0 new.lines (in_flat lines_in files file pair.0.0 inside line) in
              let b = All-contains (λ (l : PageLine). l.no < last) (lines_in file) pair.0.0 (All-contains (IsFile last) files file new.each inside).below line in
              let same : pair.0.0.no ≡ named.0.no = ap (λ (n : Name × List ℕ). n.0.no) pair.2 in
              (omega (arith, a, same), omega (arith, b, same))
        ]

module _ (files : List StoredFile) (objects : List Object) (are : IsPermutation (objects_of files) (map named_of objects)) where
  -- an object is one of a file's
  pub object_from : (made : Object) → Contains objects made → Contains (objects_of files) (named_of made)
  object_from made there = Contains-permutation (map named_of objects) (objects_of files) (named_of made) (IsPermutation-sym (objects_of files) (map named_of objects) are) (in_map named_of objects made there)

  -- and each of these is there
  pub object_to : (named : Name × List ℕ) → Contains (objects_of files) named → Contains (map named_of objects) named
  object_to named there = Contains-permutation (objects_of files) (map named_of objects) named are there
