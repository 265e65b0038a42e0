-- The newest entry among files, one file after another.
use Rattle.std.proofs.Common.{◌≡◌, ℕ, ◌<◌, ltb, List, [], ◌∷◌, ◌++◌, length, get_or, All, Option, Some, None, refl, sym, ap, subst, ◌∙◌, arith, append_assoc}
use Rattle.std.proofs.lemmas.Bool.{cond_both, ltb-true, ltb-false}
use Rattle.std.proofs.lemmas.List.Elements.{All-append, All-cons, All-nil, All-push, All-weaker}
use Rattle.lethe_base.specs.Keys.{Bytes}
use Rattle.lethe_base.specs.declared.entry.Entry.{Entry}
use Rattle.lethe_file.specs.Finding.{IsEntryOf}
use Rattle.lethe_version.specs.Newest.{AreBelow, AreUpTo, IsNewestAt, IsNewestIn, newer_of}

abbrev pub File : Type 0
File = List (List Entry)

abbrev LacksKey : Bytes → File → Type 0
LacksKey key file = IsEntryOf key file None

-- a file that lacks the key has no entry of it
pub absent : (key : Bytes) (file : File) (entry : Entry) → IsEntryOf key file None → IsEntryOf key file (Some entry) → ⊥
absent key file entry lacks ((k, page, lt, is, has), same) =
    let inside : has.0 < length (get_or file k page) = omega (arith, has.1, ap length is) in
    lacks k page lt has.0 entry inside (ap (λ (p : List Entry). (get_or p has.0 entry).key) is ∙ ap (λ (e : Entry). e.key) has.2 ∙ same)

none_above : (key : Bytes) (file : File) (place : ℕ) → LacksKey key file → AreUpTo key place file
none_above key file place lacks entry has = absurd (absent key file entry lacks has)

-- files that lack the key change nothing
pub newest_lack : (key : Bytes) (files more : List File) (found : Option Entry) → IsNewestIn key files found → All (LacksKey key) more → IsNewestIn key (files ++ more) found
newest_lack key files more None all lack = All-append (LacksKey key) files more all lack
newest_lack key files more (Some entry) (before, file, behind, is, newest) lack = (
  before,
  file,
  behind ++ more,
  ap (λ (l : List File). l ++ more) is ∙ append_assoc before (file ∷ behind) more,
  record {
    here = newest.here;
    first = newest.first;
    itself = newest.itself;
    rest = All-append (AreUpTo key entry.seq) behind more newest.rest (All-weaker (LacksKey key) (AreUpTo key entry.seq) (λ file lacks. none_above key file entry.seq lacks) more lack);
  },
)

-- a file that has no greater place changes nothing
pub newest_kept : (key : Bytes) (files : List File) (file : File) (entry : Entry) → IsNewestIn key files (Some entry) → AreUpTo key entry.seq file → IsNewestIn key (files ++ file ∷ []) (Some entry)
newest_kept key files file entry (before, has, behind, is, newest) up = (
  before,
  has,
  behind ++ file ∷ [],
  ap (λ (l : List File). l ++ file ∷ []) is ∙ append_assoc before (has ∷ behind) (file ∷ []),
  record { here = newest.here; first = newest.first; itself = newest.itself; rest = All-push (AreUpTo key entry.seq) behind file newest.rest up },
)

pub all_up_to : (key : Bytes) (before : List File) (file : File) (behind : List File) (entry : Entry) → IsNewestAt key before file behind entry → All (AreUpTo key entry.seq) (before ++ file ∷ behind)
all_up_to key before file behind entry newest =
    All-append (AreUpTo key entry.seq) before (file ∷ behind)
    (All-weaker (AreBelow key entry.seq) (AreUpTo key entry.seq) (λ f below other has. let lt = below other has in omega (arith, lt)) before newest.first)
    (All-cons (AreUpTo key entry.seq) file behind newest.itself newest.rest)

newest_taken : (key : Bytes) (files : List File) (file : File) (old entry : Entry) → IsNewestIn key files (Some old) → IsEntryOf key file (Some entry) → AreUpTo key entry.seq file → old.seq < entry.seq → IsNewestIn key (files ++ file ∷ []) (Some entry)
newest_taken key files file old entry (before, has, behind, is, newest) here up lt = (
  files,
  file,
  [],
  refl,
  record {
    here = here;
    first = All-weaker (AreUpTo key old.seq) (AreBelow key entry.seq) (λ f below other found. let le = below other found in omega (arith, le, lt)) files
        (subst (λ (l : List File). All (AreUpTo key old.seq) l) (sym is) (all_up_to key before has behind old newest));
    itself = up;
    rest = All-nil (AreUpTo key entry.seq);
  },
)

newest_first : (key : Bytes) (files : List File) (file : File) (entry : Entry) → IsNewestIn key files None → IsEntryOf key file (Some entry) → AreUpTo key entry.seq file → IsNewestIn key (files ++ file ∷ []) (Some entry)
newest_first key files file entry lack here up = (
  files,
  file,
  [],
  refl,
  record {
    here = here;
    first = All-weaker (LacksKey key) (AreBelow key entry.seq) (λ f lacks other found. absurd (absent key f other lacks found)) files lack;
    itself = up;
    rest = All-nil (AreUpTo key entry.seq);
  },
)

-- one more file, whose entry of the key was found
pub newest_next : (key : Bytes) (files : List File) (file : File) (newest found : Option Entry) → IsNewestIn key files newest → IsEntryOf key file found → ((entry : Entry) → found ≡ Some entry → AreUpTo key entry.seq file) → IsNewestIn key (files ++ file ∷ []) (newer_of newest found)
newest_next key files file None None lack lacks up = All-push (LacksKey key) files file lack lacks
newest_next key files file None (Some entry) lack here up = newest_first key files file entry lack here (up entry refl)
newest_next key files file (Some old) None is lacks up = newest_kept key files file old is (none_above key file old.seq lacks)
newest_next key files file (Some old) (Some entry) is here up =
    cond_both (ltb old.seq entry.seq) (Some entry) (Some old) (λ r. IsNewestIn key (files ++ file ∷ []) r)
    (λ more. newest_taken key files file old entry is here (up entry refl) (ltb-true old.seq entry.seq more))
    (λ not_more. newest_kept key files file old is (λ other has. let le = up entry refl other has in let most = ltb-false old.seq entry.seq not_more in omega (arith, le, most)))
