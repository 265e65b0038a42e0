-- A range that ends no later than it begins.
use Rattle.std.proofs.Common.{◌≡◌, true, false, ◌&&◌, List, [], refl, sym, ap, ◌∙◌, arith}
use Rattle.std.specs.Prelude.{filter_map}
use Rattle.std.specs.Ordering.{is_ge, is_le, is_lt}
use Rattle.std.specs.declared.cmp.Ordering.{Ordering}
use Rattle.std.specs.declared.cmp.Ordering.TheVariants.{Less, Equal, Greater}
use Rattle.std.proofs.lemmas.Cmp.{nat_list_cmp_total}
use Rattle.lethe_base.specs.Keys.{Bytes, key_cmp}
use Rattle.lethe_base.specs.declared.entry.Entry.{Entry}
use Rattle.lethe_base.specs.declared.pending.Pending.{Pending}
use Rattle.lethe_cover.specs.Merged.{bared}
use Rattle.lethe_mem.specs.Pairs.{pairs_of}
use Rattle.lethe_merge.specs.Merge.{merged}
use Rattle.lethe_merge.proofs.Merges.{left-nil}
use Rattle.lethe_tile.proofs.Orders.{less_is}
use Rattle.lethe_read.specs.Between.{AreReadBetween}

-- a range that has a key ends behind its beginning
ends_behind : (lo hi key : Bytes) (r : Ordering) → key_cmp lo key ≡ r → is_le r && is_lt (key_cmp key hi) ≡ true → key_cmp lo hi ≡ Less
ends_behind lo hi key Less is within = nat_list_cmp_total.trans lo key hi is (less_is (key_cmp key hi) within)
ends_behind lo hi key Equal is within = nat_list_cmp_total.congr lo key hi is ∙ less_is (key_cmp key hi) within
ends_behind lo hi key Greater is within = absurd (cc)

pub nothing_read : (lo hi : Bytes) (active frozen : List Entry) (files : List (List (List Entry))) → is_ge (key_cmp lo hi) ≡ true → AreReadBetween lo hi active frozen files []
nothing_read lo hi active frozen files ends entry = (
  λ has. absurd (omega (arith, has.1)),
  λ both. absurd (
      let before : key_cmp lo hi ≡ Less = ends_behind lo hi entry.key (key_cmp lo entry.key) refl both.1 in
      let clash : false ≡ true = sym (ap is_ge before) ∙ ends in
      cc),
)

pub nothing_merged : (erases : List Pending) → pairs_of (merged [] erases true) ≡ []
nothing_merged erases = ap (λ (l : List Entry). pairs_of (filter_map (λ entry. bared true entry entry.body) l)) left-nil
