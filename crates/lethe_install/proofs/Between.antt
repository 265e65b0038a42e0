-- Cited files that stand between others, on any disk.
use Rattle.std.proofs.Common.{◌≡◌, ◌≤◌, ◌<◌, ◌+◌, ◌^◌, ℕ, Bool, true, List, ◌++◌, length, map, All, AllPairs, Contains, sym, ap, ◌∙◌, subst, arith}
use Rattle.std.specs.Prelude.{filter}
use Rattle.std.proofs.lemmas.Bool.Decides.{nat_tests}
use Rattle.std.proofs.lemmas.List.{map-append}
use Rattle.std.proofs.lemmas.List.Elements.{All-append, All-contains, All-filter, All-weaker, Contains-append_cases}
use Rattle.std.proofs.lemmas.List.Kept.{AllPairs-filter}
use Rattle.lethe_base.specs.Limits.{max_place}
use Rattle.lethe_base.specs.declared.name.Name.{Name}
use Rattle.lethe_advance.specs.declared.new_header.NewHeader.{NewHeader}
use Rattle.lethe_advance.proofs.Lists.{map-filter}
use Rattle.lethe_cover.proofs.Common.{⊎_elim}
use Rattle.lethe_cover.proofs.Lists.{Pairs, pairs_append, pairs_from, pairs_to}
use Rattle.lethe_flush.specs.declared.made.MadeFiles.{MadeFiles}
use Rattle.lethe_follows.specs.Merged.{Company}
use Rattle.lethe_manifest.specs.Manifests.{HasSpelling, IsFile}
use Rattle.lethe_manifest.specs.declared.manifest.Cited.{Cited}
use Rattle.lethe_manifest.specs.declared.manifest.Manifest.{Manifest}
use Rattle.lethe_state.specs.Clock.{clock_of}
use Rattle.lethe_state.specs.Room.{IsStepFrom}
use Rattle.lethe_state.specs.Writable.{IsWritable, segments_for}
use Rattle.lethe_state.specs.declared.state.State.{State}
use Rattle.lethe_state.proofs.FreezeStep.{later_files}
use Rattle.lethe_state.proofs.Left.{staying_are_erases}
use Rattle.lethe_stored.specs.Files.{StoredFile, cited_of}
use Rattle.lethe_stored.proofs.Leveled.{from_filter}
use Rattle.lethe_install.specs.Installed.{IsInstallStep, installing_manifest}
use Rattle.lethe_install.specs.Placed.{is_before, is_behind, stays, with_made}
use Rattle.lethe_install.specs.declared.inputs.Inputs.{Inputs}
use Rattle.lethe_install.specs.declared.steps.Installation.{Installation}

pub behind_level : (level : ℕ) (above : List ℕ) (file : Cited) → is_behind level above file ≡ true → level ≤ file.level
behind_level level above file is = grind (arith, nat_tests)

pub before_level : (level : ℕ) (above : List ℕ) (file : Cited) → is_before level above file ≡ true → file.level ≤ level
before_level level above file is = grind (arith, nat_tests)

-- What stays of the files ascends by level, with files of one level between

module _ (level : ℕ) (gone above : List ℕ) (made old : List Cited) where
  abbrev IsRising : Cited → Cited → Type 0
  IsRising a b = a.level ≤ b.level

  abbrev kept : List Cited
  kept = filter (stays gone) old

  abbrev lower : List Cited
  lower = filter (is_before level above) kept

  abbrev higher : List Cited
  higher = filter (is_behind level above) kept

  module _ (ascending : AllPairs IsRising old) (same : All (λ (file : Cited). file.level ≡ level) made) where
    kept_rise : (p : Cited → Bool) → Pairs IsRising (filter p kept)
    kept_rise p = pairs_from IsRising (filter p kept) (AllPairs-filter IsRising p kept (AllPairs-filter IsRising (stays gone) old ascending))

    same_level : (file : Cited) → Contains made file → file.level ≡ level
    same_level file there = All-contains (λ (file : Cited). file.level ≡ level) made file same there

    made_rise : Pairs IsRising made
    made_rise = pairs_from IsRising made (λ i j d before within. let one = same i d (omega (arith, before, within)) in let two = same j d within in omega (arith, one, two))

    lower_level : (file : Cited) → Contains lower file → file.level ≤ level
    lower_level file there = before_level level above file (from_filter (is_before level above) kept file there).1

    higher_level : (file : Cited) → Contains higher file → level ≤ file.level
    higher_level file there = behind_level level above file (from_filter (is_behind level above) kept file there).1

    pub with_made_rises : AllPairs IsRising (with_made level gone above made old)
    with_made_rises = pairs_to IsRising (lower ++ (made ++ higher)) (pairs_append IsRising lower (made ++ higher) (kept_rise (is_before level above))
        (pairs_append IsRising made higher made_rise (kept_rise (is_behind level above)) (λ a b left right. let one = same_level a left in let two = higher_level b right in omega (arith, one, two)))
        (λ a b left right. let one = lower_level a left in ⊎_elim
        (λ among. let two = same_level b among in omega (arith, one, two))
        (λ among. let two = higher_level b among in omega (arith, one, two))
        (Contains-append_cases made higher b right)))

  module _ (P : Cited → Type 0) (own : All P made) (others : All P old) where
    kept_all : (p : Cited → Bool) → All P (filter p kept)
    kept_all p = All-filter p P kept (All-filter (stays gone) P old others)

    pub with_made_all : All P (with_made level gone above made old)
    with_made_all = All-append P lower (made ++ higher) (kept_all (is_before level above)) (All-append P made higher own (kept_all (is_behind level above)))

-- as files that are stored

pub with_made_laid : (level : ℕ) (gone above : List ℕ) (made old : List StoredFile) → with_made level gone above (map cited_of made) (map cited_of old)
    ≡ map cited_of (filter (λ (file : StoredFile). is_before level above (cited_of file)) (filter (λ (file : StoredFile). stays gone (cited_of file)) old)
    ++ (made ++ filter (λ (file : StoredFile). is_behind level above (cited_of file)) (filter (λ (file : StoredFile). stays gone (cited_of file)) old)))
with_made_laid level gone above made old =
    let left = filter (λ (file : StoredFile). stays gone (cited_of file)) old in
    let stay = map-filter cited_of (stays gone) old in
    let lower = filter (λ (file : StoredFile). is_before level above (cited_of file)) left in
    let higher = filter (λ (file : StoredFile). is_behind level above (cited_of file)) left in
    let low = map-filter cited_of (is_before level above) left in
    let high = map-filter cited_of (is_behind level above) left in
    (λ i. filter (is_before level above) (sym stay i) ++ (map cited_of made ++ filter (is_behind level above) (sym stay i)))
    ∙ (λ i. sym low i ++ (map cited_of made ++ sym high i))
    ∙ ap (λ l. map cited_of lower ++ l) (sym (map-append cited_of made higher))
    ∙ sym (map-append cited_of lower (made ++ higher))

-- The step

module _ (state : State) (is : IsWritable state) (level : ℕ) (inputs : Inputs) (parts : MadeFiles) (fits : parts.next < max_place) (later : state.manifest.next ≤ parts.next)
    (each : All (IsFile parts.next state.manifest.config.levels) parts.cited.items) (same : All (λ (file : Cited). file.level ≡ level) parts.cited.items) where
  abbrev gone : List ℕ
  gone = inputs.numbers.items

  abbrev above : List ℕ
  above = inputs.above.items

  abbrev files : List Cited
  files = with_made level gone above parts.cited.items state.manifest.files

  abbrev last : ℕ
  last = parts.next + 1

  installing_spelled : (company : Company) → length files < 2 ^ 32 → HasSpelling (installing_manifest company state files parts.next)
  installing_spelled company few = record {
    no = omega arith;
    config = (is.manifest).config;
    clock = (is.manifest).clock;
    count = is.count;
    next = omega (arith, fits);
    certificate = (is.manifest).certificate;
    erases = staying_are_erases company state files is.pending;
    segments = record {
      some = ((is.manifest).segments).some;
      few = ((is.manifest).segments).few;
      below = All-weaker (λ k. k < state.manifest.next) (λ k. k < last) (λ k lt. omega (arith, lt, later)) state.manifest.segments ((is.manifest).segments).below;
    };
    files = record {
      few = few;
      each = with_made_all level gone above parts.cited.items state.manifest.files (IsFile last state.manifest.config.levels)
          (later_files parts.next last state.manifest.config.levels parts.cited.items (omega arith) each)
          (later_files state.manifest.next last state.manifest.config.levels state.manifest.files (omega (arith, later)) ((is.manifest).files).each);
      ascending = with_made_rises level gone above parts.cited.items state.manifest.files ((is.manifest).files).ascending same;
    };
  }

pub install_from : {company : Company} (state : State) (level : ℕ) (inputs : Inputs) (parts : MadeFiles) (retired : List Name) (needs : Name → Bool) (installing : Installation) → IsWritable state → level ≤ state.manifest.config.levels
    → parts.next < max_place → parts.next ≡ state.next + length parts.objects.items → All (IsFile parts.next state.manifest.config.levels) parts.cited.items
    → All (λ (file : Cited). file.level ≡ level) parts.cited.items → All (λ (new : NewHeader). new.level ≡ level) parts.headers.items → IsInstallStep company state level inputs parts retired needs installing
    → IsStepFrom (segments_for state.frozen) (clock_of state.manifest) state installing.headers.items installing.step
install_from {company = company} state level inputs parts retired needs installing is low fits drawn each same into made =
    let before = is.drawn in
    let later : state.manifest.next ≤ parts.next = omega (arith, before, drawn) in
    let short = subst (λ (m : Manifest). length m.files < 2 ^ 32) made.manifest made.few in
    let written : length installing.step.objects.items ≡ length parts.objects.items = ap length made.objects in
    let number : installing.step.manifest.no ≡ parts.next = ap (λ (m : Manifest). m.no) made.manifest in
    let last : installing.step.manifest.next ≡ parts.next + 1 = ap (λ (m : Manifest). m.next) made.manifest in
    let levels = state.manifest.config.levels in record {
      spelled = subst HasSpelling (sym made.manifest) (installing_spelled state is level inputs parts fits later each same company short);
      segments_are = ap (λ (m : Manifest). length m.segments) made.manifest ∙ is.segments;
      config = ap (λ (m : Manifest). m.config) made.manifest;
      clock_is = ap clock_of made.manifest;
      levels = subst (All (λ (new : NewHeader). new.level ≤ levels)) (sym made.headers_are)
          (All-weaker (λ (new : NewHeader). new.level ≡ level) (λ (new : NewHeader). new.level ≤ levels) (λ new at. omega (arith, at, low)) parts.headers.items into);
      numbers = omega (arith, written, number, drawn);
      next = omega (arith, number, last);
    }
