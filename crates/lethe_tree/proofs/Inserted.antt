-- A tree into which an entry goes.
use Rattle.std.proofs.Common.{◌≡◌, ℕ, zero, suc, ◌+◌, ◌<◌, ◌≤◌, Bool, true, false, Option, Some, None, List, [], ◌∷◌, ◌++◌, length, slice_get, slice_set, length-append, refl, sym, ap, ◌∙◌, subst, arith}
use Rattle.std.specs.Prelude.{◌^◌, option_and_then}
use Rattle.std.proofs.lemmas.List.{length-set}
use Rattle.std.specs.FinMap.Entries.{put as put_key}
use Rattle.lethe_base.specs.Keys.{key_cmp}
use Rattle.lethe_base.specs.Entries.{by_key, IsAscending, Inserts, entry_of}
use Rattle.lethe_base.specs.declared.entry.Entry.{Entry}
use Rattle.lethe_mem.proofs.Places.{inserts_from_put}
use Rattle.lethe_tree.specs.declared.link.Link.{Link}
use Rattle.lethe_tree.specs.Shape.{Shape, Leaf, Apart, Lies, NotIn, height, link_of, order}
use Rattle.lethe_tree.specs.Grown.{IsGrown, IsHung, MayGrow, MayHang, Turns, goes_left, put}
use Rattle.lethe_tree.specs.Looked.{Holds, is_behind}
use Rattle.lethe_tree.specs.Tree.{AllBelow, IsTree, at_each, entries_from, last_of}
use Rattle.lethe_tree.proofs.Lists.{apart_put}
use Rattle.lethe_tree.proofs.Rotations.{length_is}
use Rattle.lethe_tree.proofs.Ordered.{each_here, got}
use Rattle.lethe_tree.proofs.Seen.{may_look, seen}
use Rattle.lethe_tree.proofs.Written.{get_new, lies_more}
use Rattle.lethe_tree.proofs.Hung.{Fits, added, below_put, fits_among, fits_behind, last_among, last_behind, length_put, not_below, replaced, turns_among, turns_behind}

-- one node more
pub hung : (old pushed grown final : List Link) (test : ℕ → Bool) (root : Option ℕ) (new depth top : ℕ) (t : Shape) → MayHang old test root t → pushed ≡ old ++ link_of Leaf Leaf ∷ [] → new ≡ length old → depth ≡ height t → length old + 1 < 2 ^ 64
    → ((s : Shape) → MayGrow pushed test root new s → height s ≤ depth → IsGrown pushed grown test s new top) → final ≡ grown → length final ≡ length old + 1 → IsHung old final test t top
hung old pushed grown final test root new depth top t may pushed_is new_is depth_is few grow final_is count =
    let grows = grow t (record {
      lies = subst (λ ls. Lies ls t) (sym pushed_is) (lies_more old (link_of Leaf Leaf ∷ []) t may.lies);
      from_is = may.root_is;
      balanced = may.balanced;
      apart = may.apart;
      other = subst (λ k. NotIn k (order t)) (sym new_is) (not_below (length old) (order t) may.known);
      alone = ap (slice_get pushed) new_is ∙ (ap (λ ls. slice_get ls (length old)) pushed_is ∙ get_new old (link_of Leaf Leaf));
      few = let a = may.few in omega (arith, a, few);
      turns = may.turns;
    }) (omega (arith, depth_is)) in
    record {
      tree = grows.tree;
      lies = subst (λ ls. Lies ls grows.tree) (sym final_is) grows.lies;
      root_is = grows.root_is;
      balanced = grows.balanced;
      same = grows.same ∙ ap (λ k. put test k (order t)) new_is;
      count = count;
      few = omega (arith, count, few);
    }

module _ (entries : List Entry) (links : List Link) (root last : Option ℕ) (is : IsTree entries links root last) where
  pub known_links : AllBelow (length links) (order is.tree)
  known_links = subst (λ n. AllBelow n (order is.tree)) (sym is.linked) is.known

  pub may_hang : (test : ℕ → Bool) → Turns test (order is.tree) → MayHang links test root is.tree
  may_hang test turns = record {
    lies = is.lies;
    root_is = is.root_is;
    balanced = is.balanced;
    apart = is.apart;
    known = known_links;
    few = let a = length_is is.tree in omega (arith, a, is.count, is.linked);
    turns = turns;
  }

  -- an entry is added
  module _ (entry : Entry) (new : List Link) (test : ℕ → Bool) (top : ℕ) (end : Option ℕ) (h : IsHung links new test is.tree top) where
    unfoldable pub tree_added : end ≡ last_of (put test (length links) (order is.tree)) → IsTree (entries ++ entry ∷ []) new (Some top) end
    tree_added end_is = record {
      tree = h.tree;
      lies = h.lies;
      root_is = sym h.root_is;
      balanced = h.balanced;
      apart = subst Apart (sym h.same) (apart_put test (length links) (order is.tree) (not_below (length links) (order is.tree) known_links) is.apart);
      known = subst (AllBelow (length (entries ++ entry ∷ []))) (sym h.same)
          (subst (λ n. AllBelow n (put test (length links) (order is.tree))) (let a = length-append entries (entry ∷ []) in omega (arith, a, is.linked)) (below_put test (length links) (order is.tree) known_links));
      count = ap (λ l. length l) h.same ∙ (length_put test (length links) (order is.tree) ∙ (let a = length-append entries (entry ∷ []) in omega (arith, a, is.count)));
      linked = h.count ∙ (let a = length-append entries (entry ∷ []) in omega (arith, a, is.linked));
      few = h.few;
      last_is = end_is ∙ ap last_of (sym h.same);
    }

    pub inserts_added : end ≡ last_of (put test (length links) (order is.tree)) → IsAscending (entries_from entries links root) → Fits entries test entry.key (order is.tree)
        → Inserts entry (entries_from entries links root) (entries_from (entries ++ entry ∷ []) new (Some top))
    unfolding tree_added
    inserts_added end_is rising fits =
        inserts_from_put entry (entries_from entries links root) (entries_from (entries ++ entry ∷ []) new (Some top)) rising
        (ap by_key (seen (entries ++ entry ∷ []) new (Some top) end (tree_added end_is))
        ∙ (ap (λ k. by_key (at_each (entries ++ entry ∷ []) k)) h.same
        ∙ (ap (λ n. by_key (at_each (entries ++ entry ∷ []) (put test n (order is.tree)))) is.linked
        ∙ (added entries entry test (order is.tree) is.known fits
        ∙ ap (λ es. put_key key_cmp entry.key entry (by_key es)) (sym (seen entries links root last is))))))

  -- the links have one node more, and the entries one entry
  module _ (entry : Entry) (pushed : List Entry) (new : List Link) (top : ℕ) (rising : IsAscending (entries_from entries links root)) where
    pub added_behind : (count : ℕ) → count ≡ length links → pushed ≡ entries ++ entry ∷ [] → is_behind entries entry.key (last_of (order is.tree)) ≡ true
        → ((t : Shape) → MayHang links (goes_left entries None) root t → IsHung links new (goes_left entries None) t top)
        → IsTree pushed new (Some top) (Some count) × Inserts entry (entries_from entries links root) (entries_from pushed new (Some top))
    added_behind count count_is pushed_is behind grown =
        let test = goes_left entries None in
        let h = grown is.tree (may_hang test (turns_behind entries (order is.tree))) in
        let end_is : Some count ≡ last_of (put test (length links) (order is.tree)) = ap Some count_is ∙ sym (last_behind entries (length links) (order is.tree)) in
        let may = may_look entries links root last is rising in (
          subst (λ es. IsTree es new (Some top) (Some count)) (sym pushed_is) (tree_added entry new test top (Some count) h end_is),
          subst (λ es. Inserts entry (entries_from entries links root) (entries_from es new (Some top))) (sym pushed_is)
              (inserts_added entry new test top (Some count) h end_is rising (fits_behind entries entry.key (order is.tree) is.known may.ascending behind)),
        )

    pub added_among : pushed ≡ entries ++ entry ∷ [] → (is_behind entries entry.key (last_of (order is.tree)) ≡ false) × (entry_of entry.key (at_each entries (order is.tree)) ≡ None)
        → ((t : Shape) → MayHang links (goes_left entries (Some entry.key)) root t → IsHung links new (goes_left entries (Some entry.key)) t top)
        → IsTree pushed new (Some top) last × Inserts entry (entries_from entries links root) (entries_from pushed new (Some top))
    added_among pushed_is spot grown =
        let test = goes_left entries (Some entry.key) in
        let may = may_look entries links root last is rising in
        let h = grown is.tree (may_hang test (turns_among entries entry.key (order is.tree) is.known may.ascending)) in
        let end_is = is.last_is ∙ sym (last_among entries entry.key (length links) (order is.tree) is.known spot.1 spot.0) in (
          subst (λ es. IsTree es new (Some top) last) (sym pushed_is) (tree_added entry new test top last h end_is),
          subst (λ es. Inserts entry (entries_from entries links root) (entries_from es new (Some top))) (sym pushed_is)
              (inserts_added entry new test top last h end_is rising (fits_among entries entry.key (order is.tree) is.known spot.1)),
        )

  -- an entry is replaced
  unfoldable pub tree_replaced : (at : ℕ) (entry : Entry) → IsTree (slice_set entries at entry) links root last
  tree_replaced at entry = record {
    tree = is.tree;
    lies = is.lies;
    root_is = is.root_is;
    balanced = is.balanced;
    apart = is.apart;
    known = subst (λ n. AllBelow n (order is.tree)) (sym (length-set entries at entry)) is.known;
    count = is.count ∙ sym (length-set entries at entry);
    linked = is.linked ∙ sym (length-set entries at entry);
    few = is.few;
    last_is = is.last_is;
  }

  pub inserts_replaced : (at : ℕ) (entry : Entry) → IsAscending (entries_from entries links root) → Holds entries entry.key (order is.tree) at → Inserts entry (entries_from entries links root) (entries_from (slice_set entries at entry) links root)
  unfolding tree_replaced
  inserts_replaced at entry rising holds =
      inserts_from_put entry (entries_from entries links root) (entries_from (slice_set entries at entry) links root) rising
      (ap by_key (seen (slice_set entries at entry) links root last (tree_replaced at entry))
      ∙ (replaced entries at entry (order is.tree) is.apart is.known (subst IsAscending (seen entries links root last is) rising) holds
      ∙ ap (λ es. put_key key_cmp entry.key entry (by_key es)) (sym (seen entries links root last is))))

  -- how many there are
  pub many_entries : length (entries_from entries links root) ≡ length entries
  many_entries = ap (λ l. length l) (seen entries links root last is) ∙ (all (order is.tree) is.known ∙ is.count)
    where
      all : (js : List ℕ) → AllBelow (length entries) js → length (at_each entries js) ≡ length js
      all [] known = refl
      all (j ∷ js) known = let e = got entries j known.0 in ap (λ l. length l) (each_here entries j js e.0 e.1) ∙ ap suc (all js known.1)

  -- the entry at a place
  pub at_place : (place : ℕ) → slice_get (entries_from entries links root) place ≡ option_and_then (λ i. slice_get entries i) (slice_get (order is.tree) place)
  at_place place = ap (λ es. slice_get es place) (seen entries links root last is) ∙ by (order is.tree) is.known place
    where
      by : (js : List ℕ) → AllBelow (length entries) js → (k : ℕ) → slice_get (at_each entries js) k ≡ option_and_then (λ i. slice_get entries i) (slice_get js k)
      by [] known k = refl
      by (j ∷ js) known zero = let e = got entries j known.0 in ap (λ es. slice_get es 0) (each_here entries j js e.0 e.1) ∙ sym e.1
      by (j ∷ js) known (suc k) = let e = got entries j known.0 in ap (λ es. slice_get es (suc k)) (each_here entries j js e.0 e.1) ∙ by js known.1 k
