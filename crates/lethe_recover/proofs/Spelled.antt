-- The spelling of the manifest that follows an opening.
use Rattle.std.proofs.Common.{◌≡◌, ◌≤◌, ◌<◌, ◌+◌, ◌^◌, ℕ, List, [], ◌∷◌, ◌++◌, length, All, AllPairs, Contains, refl, sym, subst, arith}
use Rattle.std.proofs.lemmas.List.Elements.{All-append, All-contains, All-cons, All-nil, All-weaker}
use Rattle.lethe_base.specs.Limits.{max_place}
use Rattle.lethe_base.specs.declared.pending.Pending.{Pending}
use Rattle.lethe_base.proofs.Newest.{first_is}
use Rattle.lethe_cover.proofs.Lists.{Pairs, in_rest, pairs_append, pairs_from, pairs_to}
use Rattle.lethe_base.specs.Erases.{IsErase}
use Rattle.lethe_manifest.specs.Manifests.{HasSpelling, IsFile}
use Rattle.lethe_manifest.specs.declared.manifest.Cited.{Cited}
use Rattle.lethe_manifest.specs.declared.manifest.Manifest.{Manifest}
use Rattle.lethe_flush.specs.declared.made.MadeFiles.{MadeFiles}
use Rattle.lethe_recover.specs.Flushing.{IsWritable}
use Rattle.lethe_recover.specs.Reopening.{successor}

-- a file that was cited is cited under a later number
still_file : (next later levels : ℕ) → next ≤ later → (file : Cited) → IsFile next levels file → IsFile later levels file
still_file next later levels le file is = let no = is.no in record { level = is.level; no = omega (arith, le, no); swept = is.swept; digest = is.digest }

abbrev Rises : Cited → Cited → Type 0
Rises a b = a.level ≤ b.level

abbrev IsZeroth : Cited → Type 0
IsZeroth file = file.level ≡ 0

zeroth_rise : (files : List Cited) → ((file : Cited) → Contains files file → IsZeroth file) → Pairs Rises files
zeroth_rise [] zeroth = tt
zeroth_rise (file ∷ files) zeroth = ((λ other there. let low = zeroth file (first_is file files file refl) in omega (arith, low)), zeroth_rise files (λ other there. zeroth other (in_rest file files other there)))

pub next_spelled : (m : Manifest) (count : ℕ) (erases : List Pending) (older newer : MadeFiles) (files : List Cited) (next : Manifest) → HasSpelling m → count ≤ max_place → All IsErase erases → AllPairs (λ a b. a.seq < b.seq) erases
    → IsWritable m.next older → IsWritable older.next newer → newer.next + 2 ≤ max_place → files ≡ newer.cited.items ++ older.cited.items ++ m.files → next ≡ successor m count erases files newer.next
    → length next.erases < 2 ^ 32 → length next.files < 2 ^ 32 → HasSpelling next
next_spelled m count erases older newer files next spelled counted each ascending is_older is_newer room files_are is few_erases few_files =
    let levels = m.config.levels in
    let last = newer.next + 1 + 1 in
    let at_older = is_older.next in
    let at_newer = is_newer.next in
    let cited = newer.cited.items ++ older.cited.items in
    let zeroth : All IsZeroth cited = All-append IsZeroth newer.cited.items older.cited.items is_newer.level is_older.level in
    subst HasSpelling (sym is) (record {
      no = omega arith;
      config = spelled.config;
      clock = spelled.clock;
      count = counted;
      next = omega (arith, room);
      certificate = spelled.certificate;
      erases = record { few = subst (λ (x : Manifest). length x.erases < 2 ^ 32) is few_erases; each = each; ascending = ascending };
      segments = record { some = omega arith; few = omega arith; below = All-cons (λ segment. segment < last) newer.next [] (omega arith) (All-nil (λ segment. segment < last)) };
      files = record {
        few = subst (λ (x : Manifest). length x.files < 2 ^ 32) is few_files;
        each = subst (All (IsFile last levels)) (sym files_are) (All-append (IsFile last levels) cited m.files
            (All-append (IsFile last levels) newer.cited.items older.cited.items
            (All-weaker (IsFile newer.next levels) (IsFile last levels) (still_file newer.next last levels (omega arith)) newer.cited.items (is_newer.cited levels))
            (All-weaker (IsFile older.next levels) (IsFile last levels) (still_file older.next last levels (omega (arith, at_newer))) older.cited.items (is_older.cited levels)))
            (All-weaker (IsFile m.next levels) (IsFile last levels) (still_file m.next last levels (omega (arith, at_older, at_newer))) m.files spelled.files.each));
        ascending = subst (AllPairs Rises) (sym files_are) (pairs_to Rises (cited ++ m.files) (pairs_append Rises cited m.files
            (zeroth_rise cited (λ file there. All-contains IsZeroth cited file zeroth there)) (pairs_from Rises m.files spelled.files.ascending)
            (λ a b left right. let low = All-contains IsZeroth cited a zeroth left in omega (arith, low))));
      };
    })
