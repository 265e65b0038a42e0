-- A scan's answer is the one list of the map's pairs in the range.
use Rattle.std.proofs.Common.{◌≡◌, Bool, true, false, List, None, cond, refl, sym, ap, ◌∙◌, subst}
use Rattle.std.specs.Prelude.{filter}
use Rattle.std.specs.Cmp.Lexicographic.{nat_list_cmp_total}
use Rattle.std.specs.FinMap as finmap
use Rattle.std.specs.FinMap.Entries.{is_sorted-where_key, find-where_key, same_entries}
use Rattle.lethe_base.specs.Keys.{Bytes, key_cmp}
use Rattle.lethe_base.specs.History.{Pair, Map, State}
use Rattle.lethe_base.specs.Read.{Scan, Listed, answer, is_between}
use Rattle.lethe_mem.proofs.Places.{to_T, from_T, tied}
use Rattle.lethe_run.specs.Scans.{IsScan}

-- the map's pairs in the range
abbrev in_range : Map → Bytes → Bytes → List (Bytes × Pair)
in_range m lo hi = filter (λ e. is_between lo hi e.0) (finmap.entries m)

find-in_range : (m : Map) (lo hi key : Bytes) → finmap.find key_cmp key (in_range m lo hi) ≡ cond (is_between lo hi key) (finmap.get m key) None
find-in_range m lo hi key =
    find-where_key key_cmp (is_between lo hi) key (λ x same. ap (is_between lo hi) (sym (tied key x same))) (finmap.entries m)
    ∙ ap (λ found. cond (is_between lo hi key) found None) (sym (finmap.get-entries m key))

scan_is : (m : Map) (lo hi : Bytes) → IsScan m lo hi (in_range m lo hi)
scan_is m lo hi = record {
  ascending = from_T _ (is_sorted-where_key key_cmp (is_between lo hi) (finmap.entries m) (finmap.entries_sorted m));
  inside = λ key within. find-in_range m lo hi key ∙ ap (λ b. cond b (finmap.get m key) None) within;
  outside = λ key without. find-in_range m lo hi key ∙ ap (λ b. cond b (finmap.get m key) None) without;
}

only_scan : (m : Map) (lo hi : Bytes) (pairs : List (Bytes × Pair)) → IsScan m lo hi pairs → in_range m lo hi ≡ pairs
only_scan m lo hi pairs scan = same_entries key_cmp nat_list_cmp_total tied (in_range m lo hi) pairs (to_T _ (scan_is m lo hi).ascending) (to_T _ scan.ascending)
    (λ key. by_test key (is_between lo hi key) refl)
  where
    by_test : (key : Bytes) (within : Bool) → is_between lo hi key ≡ within → finmap.find key_cmp key (in_range m lo hi) ≡ finmap.find key_cmp key pairs
    by_test key true is = (scan_is m lo hi).inside key is ∙ sym (scan.inside key is)
    by_test key false is = (scan_is m lo hi).outside key is ∙ sym (scan.outside key is)

-- the answer is a scan
pub answer_scan : (s : State) (lo hi : Bytes) (pairs : List (Bytes × Pair)) → answer s (Scan lo hi) ≡ Listed pairs → IsScan s.map lo hi pairs
answer_scan s lo hi pairs is =
    let same : in_range s.map lo hi ≡ pairs = cc in
    subst (IsScan s.map lo hi) same (scan_is s.map lo hi)

-- and no other list is
pub scan_answer : (s : State) (lo hi : Bytes) (pairs : List (Bytes × Pair)) → IsScan s.map lo hi pairs → answer s (Scan lo hi) ≡ Listed pairs
scan_answer s lo hi pairs scan = ap Listed (only_scan s.map lo hi pairs scan)
