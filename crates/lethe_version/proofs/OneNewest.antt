-- There is one newest entry.
use Rattle.std.proofs.Common.{◌≡◌, ℕ, ◌<◌, ◌≤◌, List, ◌∷◌, ◌++◌, length, get_or, All, Option, Some, None, inl, inr, refl, sym, ap, subst, ◌∙◌, arith}
use Rattle.std.proofs.lemmas.Bool.{cases_lt}
use Rattle.std.proofs.lemmas.List.{get_or_at, get_or_append_left, length-append}
use Rattle.lethe_base.specs.Keys.{Bytes}
use Rattle.lethe_base.specs.declared.entry.Entry.{Entry}
use Rattle.lethe_file.specs.Finding.{IsEntryOf}
use Rattle.lethe_version.specs.Newest.{AreUpTo, HasAtMostOne, IsNewestAt, IsNewestIn}
use Rattle.lethe_version.proofs.Newer.{File, absent, all_up_to}

there : (files before : List File) (file : File) (behind : List File) (d : File) → files ≡ before ++ file ∷ behind → get_or files (length before) d ≡ file
there files before file behind d is = ap (λ (l : List File). get_or l (length before) d) is ∙ get_or_at before file behind d (length before) refl

within : (files before : List File) (file : File) (behind : List File) → files ≡ before ++ file ∷ behind → length before < length files
within files before file behind is = omega (arith, ap length is, length-append before (file ∷ behind))

-- the entry of one of the files is no newer than the newest
no_newer : (key : Bytes) (files before : List File) (file : File) (behind : List File) (newest : Entry) → files ≡ before ++ file ∷ behind → IsNewestAt key before file behind newest
    → (front : List File) (has : File) (back : List File) (entry : Entry) → files ≡ front ++ has ∷ back → IsEntryOf key has (Some entry) → entry.seq ≤ newest.seq
no_newer key files before file behind newest is at front has back entry has_is found =
    let all = subst (λ (l : List File). All (AreUpTo key newest.seq) l) (sym is) (all_up_to key before file behind newest at) in
    subst (λ (f : File). AreUpTo key newest.seq f) (there files front has back has has_is) (all (length front) has (within files front has back has_is)) entry found

-- and it is in no file before it, where it is as new
not_before : (key : Bytes) (files before : List File) (file : File) (behind : List File) (newest : Entry) → files ≡ before ++ file ∷ behind → IsNewestAt key before file behind newest
    → (front : List File) (has : File) (back : List File) (entry : Entry) → files ≡ front ++ has ∷ back → IsEntryOf key has (Some entry) → newest.seq ≤ entry.seq → length front < length before → ⊥
not_before key files before file behind newest is at front has back entry has_is found le lt =
    let same : get_or before (length front) has ≡ has =
    sym (get_or_append_left before (file ∷ behind) has (length front) lt) ∙ ap (λ (l : List File). get_or l (length front) has) (sym is) ∙ there files front has back has has_is in
    let below = at.first (length front) has lt entry (subst (λ (f : File). IsEntryOf key f (Some entry)) (sym same) found) in
    omega (arith, below, le)

pub one_newest_lem : (key : Bytes) (files : List File) (a b : Option Entry) → All (HasAtMostOne key) files → IsNewestIn key files a → IsNewestIn key files b → a ≡ b
one_newest_lem key files None None one p q = refl
one_newest_lem key files None (Some b) one lack (front, has, back, is, at) =
    absurd (absent key has b (subst (λ (f : File). IsEntryOf key f None) (there files front has back has is) (lack (length front) has (within files front has back is))) at.here)
one_newest_lem key files (Some a) None one (before, file, behind, is, at) lack =
    absurd (absent key file a (subst (λ (f : File). IsEntryOf key f None) (there files before file behind file is) (lack (length before) file (within files before file behind is))) at.here)
one_newest_lem key files (Some a) (Some b) one (before, file, behind, is, at) (front, has, back, has_is, has_at) =
    let le = no_newer key files before file behind a is at front has back b has_is has_at.here in
    let ge = no_newer key files front has back b has_is has_at before file behind a is at.here in
    elim (cases_lt (length before) (length front)) [
      | inl earlier ↦ absurd (not_before key files front has back b has_is has_at before file behind a is at.here le earlier)
      | inr rest ↦ elim (cases_lt (length front) (length before)) [
        | inl later ↦ absurd (not_before key files before file behind a is at front has back b has_is has_at.here ge later)
        | inr neither ↦
            let place : length before ≡ length front = omega (arith, rest, neither) in
            let same : file ≡ has = sym (there files before file behind file is) ∙ ap (λ (n : ℕ). get_or files n file) place ∙ there files front has back file has_is in
            let only = subst (HasAtMostOne key) (there files front has back has has_is) (one (length front) has (within files front has back has_is)) in
            ap Some (only a b (subst (λ (f : File). IsEntryOf key f (Some a)) same at.here) has_at.here)
      ]
    ]
