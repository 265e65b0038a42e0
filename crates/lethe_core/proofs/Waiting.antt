-- The files that a merge makes, where it was just begun, wait for no erase.
use Rattle.std.proofs.Common.{◌≡◌, inl, ℕ, ◌≤◌, Bool, cond, ltb, List, [], ◌∷◌, ◌++◌, map, All, Contains, refl, ap, ◌∙◌, subst, sym, arith}
use Rattle.std.specs.Prelude.{filter, nat_lt, not, sum_by}
use Rattle.std.proofs.lemmas.Bool.Decides.{nat_tests}
use Rattle.std.proofs.lemmas.List.Elements.{All-contains, All-filter, All-head, All-tail}
use Rattle.std.proofs.lemmas.List.Filters.{sum_by-filter_both}
use Rattle.std.proofs.lemmas.List.Sorted.{sum_by-IsPermutation}
use Rattle.std.proofs.lemmas.List.Sums.{sum_by-append, sum_by-cons}
use Rattle.lethe_base.specs.Layout.{File}
use Rattle.lethe_base.specs.History.{History}
use Rattle.lethe_base.specs.declared.call.Call.TheVariants.{Erase}
use Rattle.lethe_base.specs.declared.pending.Pending.{Pending}
use Rattle.lethe_cover.proofs.Grown.{done_within}
use Rattle.lethe_cover.proofs.Common.{first_is}
use Rattle.lethe_cover.proofs.Lists.{all_from, in_map, in_rest}
use Rattle.lethe_follows.specs.Merged.{IsMerged, StoredMerge, inputs_of, others_of}
use Rattle.lethe_install.specs.Outcomes.{IsInstalled}
use Rattle.lethe_job.specs.Works.{Merges, PlainTask, Sweeps}
use Rattle.lethe_manifest.specs.declared.manifest.Manifest.{Manifest}
use Rattle.lethe_segment.specs.Segments.{last_seq}
use Rattle.lethe_stored.specs.Files.{StoredFile, file_of}
use Rattle.lethe_stored.specs.Kept.{IsFor}
use Rattle.lethe_stored.specs.Stored.{Segment, Stored, count_of, pending_of, records_in}
use Rattle.lethe_version.specs.Order.{is_kept}
use Rattle.lethe_core.specs.Descent.{HasCountedErases, unswept_pairs}
use Rattle.lethe_core.proofs.Unswept.{some_pending, unswept}

-- Erases whose places are counted

-- each was done in the history
pub erases_counted : (h : History) (s : Stored) → IsFor h s → HasCountedErases s
erases_counted h s is = all_from (λ erase. erase.seq ≤ count_of s) (pending_of s) (λ erase there.
    let within = done_within h erase.seq (Erase erase.range) (is.covers.places.erases erase (inl there)).done in
    omega (arith, within, is.count))

same_count : (s t : Stored) (manifest : t.manifest.count ≡ count_of s) → t.frozen ≡ s.frozen → t.active ≡ s.active → count_of t ≡ count_of s
same_count s t manifest frozen active =
    let older = ap (λ segment. last_seq 0 (records_in segment)) frozen in
    let newer = ap (λ (segment : Segment). last_seq 0 segment.records) active in
    omega (arith, manifest, older, newer)

-- a job leaves the count
pub count_stays : (s : Stored) (task : PlainTask) (t : Stored) → IsInstalled s task t → count_of t ≡ count_of s
count_stays s (Merges task) t is = same_count s t (ap (λ (m : Manifest). m.count) is.merged_is.manifest) is.merged_is.frozen is.merged_is.active
count_stays s (Sweeps task) t is = same_count s t (ap (λ (m : Manifest). m.count) is.swept_is.manifest) is.swept_is.frozen is.swept_is.active

-- and no other erase pending
pub still_counted : (s : Stored) (task : PlainTask) (t : Stored) → IsInstalled s task t → HasCountedErases s → HasCountedErases t
still_counted s task t is counted =
    let some = some_pending s task t is in
    let count = count_stays s task t is in
    let kept = All-filter some.0 (λ (erase : Pending). erase.seq ≤ count_of s) (pending_of s) counted in
    all_from (λ erase. erase.seq ≤ count_of t) (pending_of t) (λ erase there.
    let low = All-contains (λ (erase : Pending). erase.seq ≤ count_of s) (filter some.0 (pending_of s)) erase kept (subst (λ erases. Contains erases erase) some.1 there) in
    omega (arith, low, count))

-- What waits for none of them

not_below : (swept seq : ℕ) → seq ≤ swept → ◌≡◌ {A = ℕ} (cond (ltb swept seq) 1 0) 0
not_below swept seq low = grind (arith, nat_tests)

none_unswept : (erases : List Pending) (file : StoredFile) → All (λ erase. erase.seq ≤ file.swept) erases → unswept erases file ≡ 0
none_unswept [] file low = refl
none_unswept (erase ∷ erases) file low =
    let here = not_below file.swept erase.seq (All-head (λ (erase : Pending). erase.seq ≤ file.swept) erase erases low) in
    let rest = none_unswept erases file (All-tail (λ (erase : Pending). erase.seq ≤ file.swept) erase erases low) in
    omega (arith, here, rest, sum_by-cons (λ (erase : Pending). cond (nat_lt file.swept erase.seq) 1 0) erase erases)

none_waits : (erases : List Pending) (files : List StoredFile) → ((file : StoredFile) → Contains files file → unswept erases file ≡ 0) → sum_by (unswept erases) files ≡ 0
none_waits erases [] each = refl
none_waits erases (file ∷ files) each =
    let here = each file (first_is file files file refl) in
    let rest = none_waits erases files (λ other there. each other (in_rest file files other there)) in
    omega (arith, here, rest, sum_by-cons (unswept erases) file files)

-- a merge whose outputs count as swept of all that is counted makes no pair
pub pairs_stay : (s : Stored) (m : StoredMerge) (applied : List Pending) (alone : Bool) (upto : ℕ) (t : Stored) → HasCountedErases s → upto ≡ count_of s → IsMerged s m applied alone upto t
    → unswept_pairs t.files (pending_of s) ≤ unswept_pairs s.files (pending_of s)
pairs_stay s m applied alone upto t counted is_count is =
    let erases = pending_of s in
    let pairs : StoredFile → ℕ = unswept erases in
    let others = others_of s m in
    let stays : StoredFile → Bool = λ file. is_kept (map (λ (input : StoredFile). input.header.no) (inputs_of m)) file.header in
    let made = none_waits erases is.made (λ file there.
    let swept = All-contains (λ (file : File). file.swept ≡ upto) (map file_of is.made) (file_of file) is.woven.made.swept (in_map file_of is.made file there) in
    none_unswept erases file (subst (λ n. All (λ (erase : Pending). erase.seq ≤ n) erases) (sym (swept ∙ is_count)) counted)) in
    let new = sum_by-IsPermutation pairs (is.made ++ others) t.files is.files in
    let parts = sum_by-append pairs is.made others in
    let old = sum_by-filter_both stays (λ file. not (stays file)) (λ file. refl) pairs s.files in
    omega (arith, made, new, parts, old)
