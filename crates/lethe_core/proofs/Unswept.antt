-- What is still to be swept: a sweep makes it less and makes no more entries, and there is a bound on it.
use Rattle.std.proofs.Common.{◌≡◌, ◌≢◌, ℕ, ◌+◌, ◌-◌, ◌*◌, ◌^◌, ◌<◌, ◌≤◌, Bool, true, false, cond, List, [], ◌∷◌, ◌++◌, append-nil, map, length, All, Contains, Option, Some, None, refl, sym, ap, ◌∙◌, subst, arith}
use Rattle.std.specs.Prelude.{count_by, filter, nat_lt, sum_by}
use Rattle.std.specs.List.{cons_option}
use Rattle.std.proofs.Math.Nat.{mul-le-mul_left}
use Rattle.std.proofs.lemmas.List.{length-map}
use Rattle.std.proofs.lemmas.List.Elements.{All-contains, All-head, Contains-append_right}
use Rattle.std.proofs.lemmas.List.Sums.{count_by-le-length, length-filter, sum_by-append, sum_by-cons, sum_by-le, sum_by-le-sum_by}
use Rattle.lethe_base.specs.Keys.{Bytes}
use Rattle.lethe_base.specs.Layout.{entries_of}
use Rattle.lethe_base.specs.Spent.{done_upto}
use Rattle.lethe_base.specs.declared.entry.Entry.{Entry}
use Rattle.lethe_base.specs.declared.pending.Pending.{Pending}
use Rattle.lethe_cover.specs.Merged.{struck}
use Rattle.lethe_cover.specs.Sweeps.{is_matched, swept_of}
use Rattle.lethe_cover.proofs.Common.{first_is}
use Rattle.lethe_cover.proofs.Lists.{Pairs, all_from, in_map, map_from, pairs_from, pairs_map}
use Rattle.lethe_follows.specs.Leaving.{first_erase, is_kept}
use Rattle.lethe_follows.specs.Merged.{entries_in, erases_upto}
use Rattle.lethe_follows.proofs.LettingGo.{pending_kept}
use Rattle.lethe_follows.proofs.MergeErases.{merged_pending}
use Rattle.lethe_follows.proofs.Tiled.{file_tiled}
use Rattle.lethe_install.specs.Outcomes.{IsInstalled}
use Rattle.lethe_job.specs.Works.{Merges, PlainTask, Sweeps}
use Rattle.lethe_moves.specs.Files.{IsBounded, IsLower}
use Rattle.lethe_stored.specs.Files.{StoredFile, IsFile, cited_of, file_of}
use Rattle.lethe_stored.specs.Stored.{Stored, IsCoherent, layout_of, pending_of}
use Rattle.lethe_job.specs.Swept.{IsSweepIn, IsSwept, StoredSweep}
use Rattle.lethe_job.proofs.SweptErases.{left_is, pending_all, with_all}
use Rattle.lethe_core.specs.Descent.{steps_down, unswept_pairs}
use Rattle.lethe_core.proofs.Counted.{all_counted, counted, entries_by}
use Rattle.lethe_core.proofs.Fewer.{count_kept, fewer_above, no_longer}
use Rattle.lethe_core.proofs.Keyed.{HasOtherKey, tiles_once}
use Rattle.lethe_core.proofs.Sums.{scaled}

-- Pairs of a file and an erase that it isn't swept of

abbrev pub unswept : List Pending → StoredFile → ℕ
unswept erases file = count_by (λ erase. nat_lt file.swept erase.seq) erases

pub files_few : (s : Stored) → IsCoherent s → length s.files < 2 ^ 32
files_few s coherent = omega (arith, ap length coherent.files, length-map s.files cited_of, coherent.spelled.files.few)

pub pairs_few : (files : List StoredFile) (erases : List Pending) → length files < 2 ^ 32 → length erases < 2 ^ 32 → unswept_pairs files erases < 2 ^ 64
pairs_few files erases few some =
    let each : All (λ file. unswept erases file ≤ 2 ^ 32 - 1) files = all_from (λ file. unswept erases file ≤ 2 ^ 32 - 1) files (λ file there.
    let most = count_by-le-length (λ (erase : Pending). nat_lt file.swept erase.seq) erases in
    omega (arith, most, some)) in
    omega (arith, sum_by-le (unswept erases) (2 ^ 32 - 1) files each, few)

-- behind a job some of the erases that were pending are
pub some_pending : (s : Stored) (task : PlainTask) (t : Stored) → IsInstalled s task t → (keeps : Pending → Bool) × (pending_of t ≡ filter keeps (pending_of s))
some_pending s (Merges task) t is = (
  λ erase. is_kept (done_upto (layout_of (record s { files = t.files }))) (first_erase s) erase.seq,
  merged_pending s is.m (erases_upto task.upto (pending_of s)) task.alone task.upto t is.merged_is,
)
some_pending s (Sweeps task) t is =
    let all = with_all s is.w task.erase task.alone t is.swept_is in
    let keeps : Pending → Bool = λ erase. is_kept (done_upto (layout_of all)) (first_erase all) erase.seq in (
      keeps,
      ap pending_of (sym (left_is s is.w task.erase task.alone t is.swept_is)) ∙ pending_kept all ∙ ap (filter keeps) (pending_all s is.w task.erase task.alone t is.swept_is),
    )

-- so they are no more
pub pending_few : (s : Stored) (task : PlainTask) (t : Stored) → IsInstalled s task t → length (pending_of t) ≤ length (pending_of s)
pending_few s task t is =
    let some = some_pending s task t is in
    omega (arith, ap length some.1, length-filter some.0 (pending_of s), count_by-le-length some.0 (pending_of s))

-- and no file has more that it isn't swept of
pub pairs_kept : (s : Stored) (task : PlainTask) (t : Stored) → IsInstalled s task t → (files : List StoredFile)
    → unswept_pairs files (pending_of t) ≤ unswept_pairs files (pending_of s)
pairs_kept s task t is files =
    let some = some_pending s task t is in
    let same = ap (unswept_pairs files) some.1 in
    let each = λ (file : StoredFile). count_kept (λ (erase : Pending). nat_lt file.swept erase.seq) some.0 (pending_of s) in
    omega (arith, same, sum_by-le-sum_by (unswept (filter some.0 (pending_of s))) (unswept (pending_of s)) files each)

-- The entries of what a sweep makes

-- no key stands twice in a file
keys_once : (next : ℕ) (file : StoredFile) → IsFile next file → Pairs HasOtherKey (entries_of (file_of file))
keys_once next file is =
    let tiled = file_tiled next file is in
    tiles_once (file_of file).tiles (λ tile inside. All-contains IsBounded (file_of file).tiles tile tiled.bounded inside) (pairs_from IsLower (file_of file).tiles tiled.ascending)

made_once : (next : ℕ) (made : Option StoredFile) → All (IsFile next) (cons_option made []) → Pairs HasOtherKey (entries_in (cons_option made []))
made_once next None each = tt
made_once next (Some left) each = subst (Pairs HasOtherKey) (sym (append-nil (entries_of (file_of left)))) (keys_once next left (All-head (IsFile next) left [] each))

-- what an entry becomes has its key
key_stays : (alone : Bool) (erase : Pending) (entry output : Entry) → swept_of alone erase entry ≡ Some output → entry.key ≡ output.key
key_stays alone erase entry output is = by (is_matched erase entry.seq entry.body) alone is
  where
    by : (matched bare : Bool) → cond matched (cond bare None (Some (struck (erase ∷ []) entry))) (Some entry) ≡ Some output → entry.key ≡ output.key
    by true true is = absurd (let clash : None ≡ Some output = is in cc)
    by true false is = let same : struck (erase ∷ []) entry ≡ output = cc in ap (λ (e : Entry). e.key) same
    by false bare is = let same : entry ≡ output = cc in ap (λ (e : Entry). e.key) same

-- a sum of which one part becomes less
no_more : (front file made back before then : ℕ) → before ≡ front + (file + back) → then ≡ front + (made + back) → made ≤ file → then ≤ before
no_more front file made back before then one two fewer = omega (arith, one, two, fewer)

module _ (s : Stored) (coherent : IsCoherent s) (w : StoredSweep) (erase : Pending) (alone : Bool) (begun : IsSweepIn s w erase alone)
    (t : Stored) (is : IsSwept s w erase alone t) where
  abbrev made : List StoredFile
  made = cons_option is.made []

  abbrev spelled : List Entry
  spelled = entries_of (file_of w.file)

  abbrev key : Entry → Bytes
  key entry = entry.key

  own_file : IsFile s.manifest.next w.file
  own_file = All-contains (IsFile s.manifest.next) s.files w.file coherent.each
      (subst (λ files. Contains files w.file) (sym begun.files) (Contains-append_right w.front (w.file ∷ w.back) w.file (first_is w.file w.back w.file refl)))

  -- they are no more than the file has
  made_few : sum_by entries_by made ≤ entries_by w.file
  made_few =
      let once : Pairs (λ (a b : Bytes). a ≢ b) (map key (entries_in made)) = pairs_map (λ (a b : Bytes). a ≢ b) key (entries_in made) (made_once is.number is.made is.left.each) in
      let few = no_longer (map key (entries_in made)) (map key spelled) once (λ k there.
      let output = map_from key (entries_in made) k there in
      let from = is.left.from output.0 output.1 in
      subst (Contains (map key spelled)) (key_stays alone erase from.0 output.0 from.2 ∙ output.2) (in_map key spelled from.0 from.1)) in
      omega (arith, few, length-map (entries_in made) key, length-map spelled key, all_counted is.number made is.left.each, counted s.manifest.next w.file own_file)

  -- Sums over what is stored before and then

  module _ (f : StoredFile → ℕ) where
    sum_before : sum_by f s.files ≡ sum_by f w.front + (f w.file + sum_by f w.back)
    sum_before = omega (arith, ap (sum_by f) begun.files, sum_by-append f w.front (w.file ∷ w.back), sum_by-cons f w.file w.back)

    sum_then : sum_by f t.files ≡ sum_by f w.front + (sum_by f made + sum_by f w.back)
    sum_then = omega (arith, ap (sum_by f) is.files, sum_by-append f w.front (made ++ w.back), sum_by-append f made w.back)

  -- no entry comes higher
  pub no_steps_up : (deepest : ℕ) → steps_down deepest t.files ≤ steps_down deepest s.files
  no_steps_up deepest =
      let weight : StoredFile → ℕ = λ file. (deepest - file.level) * entries_by file in
      let above = deepest - w.file.level in
      let each : All (λ file. weight file ≡ above * entries_by file) made = all_from (λ file. weight file ≡ above * entries_by file) made (λ file there.
      ap (λ n. (deepest - n) * entries_by file) (All-contains (λ (left : StoredFile). left.level ≡ w.file.level) made file is.left.level there)) in
      let own : sum_by weight made ≤ weight w.file = subst (λ n. n ≤ weight w.file) (sym (scaled above weight entries_by made each)) (mul-le-mul_left above made_few) in
      no_more (sum_by weight w.front) (weight w.file) (sum_by weight made) (sum_by weight w.back) (sum_by weight s.files) (sum_by weight t.files)
      (sum_before weight) (sum_then weight) own

  -- what is made is swept of the erase too
  made_pairs : sum_by (unswept (pending_of s)) made < unswept (pending_of s) w.file
  made_pairs = by is.made is.left.swept
    where
      by : (o : Option StoredFile) → All (λ left. left.swept ≡ erase.seq) (cons_option o []) → sum_by (unswept (pending_of s)) (cons_option o []) < unswept (pending_of s) w.file
      by None each =
          let fewer = fewer_above w.file.swept erase.seq (pending_of s) erase begun.pending begun.unswept refl in
          omega (arith, fewer)
      by (Some left) each =
          let swept = All-head (λ (left : StoredFile). left.swept ≡ erase.seq) left [] each in
          let fewer = fewer_above w.file.swept left.swept (pending_of s) erase begun.pending begun.unswept (sym swept) in
          omega (arith, fewer, sum_by-cons (unswept (pending_of s)) left [])

  pub pairs_fall : unswept_pairs t.files (pending_of s) < unswept_pairs s.files (pending_of s)
  pairs_fall = omega (arith, sum_before (unswept (pending_of s)), sum_then (unswept (pending_of s)), made_pairs)
