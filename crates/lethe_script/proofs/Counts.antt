-- A script has no more orders than lines.
use Rattle.std.proofs.Common.{◌≡◌, ℕ, ◌+◌, ◌≤◌, Bool, true, false, List, [], ◌∷◌, length, take, eqb, Option, Some, None, Ok, sym, ap, ◌∙◌, arith}
use Rattle.std.specs.List.{cons_option, filter_map, sum_by}
use Rattle.std.specs.Str.Lines.{strip_carriage_return}
use Rattle.std.proofs.lemmas.List.{length-take}
use Rattle.std.proofs.lemmas.List.Concat.{length-flat_map}
use Rattle.std.proofs.lemmas.List.Splits.{length-slice_split}
use Rattle.std.proofs.lemmas.List.Sums.{count_by-le-length}
use Rattle.lethe_base.specs.Keys.{Bytes}
use Rattle.lethe_script.specs.declared.order.Item.{Item}
use Rattle.lethe_script.specs.declared.order.Item.TheVariants as item
use Rattle.lethe_script.specs.declared.order.Order.{Order}
use Rattle.lethe_script.specs.Slots.{HeldByAll, none_held_by_all}
use Rattle.lethe_script.specs.Grammar.{lines, item_of, items_from, order_in, phases_of}
use Rattle.lethe_script.specs.Reading.{phases_read}
use Rattle.lethe_base.proofs.ReadingSteps.{bind_ok, ok_is}
use Rattle.lethe_script.proofs.Phases.{orders_flat}
use Rattle.lethe_script.proofs.Lines.{line_kept}

length-cons_option : (found : Option Item) (items : List Item) → length (cons_option found items) ≤ length items + 1
length-cons_option None items = omega arith
length-cons_option (Some item) items = omega arith

items_few : (is_long : Bool) (n : ℕ) (held : HeldByAll) (parts : List Bytes) (items : List Item) → items_from is_long n held parts ≡ Ok items → length items ≤ length parts
unfolding items_from
items_few is_long n held [] items e = let same : [] ≡ items = cc in omega (arith, ap length same)
items_few true n held (last ∷ []) items e = absurd cc
items_few false n held (last ∷ []) items e =
    let kept = line_kept held (item_of n last) (λ _. Ok []) items e in
    let none : [] ≡ kept.2 = cc in
    rw (kept.6, ← none) (omega (arith, length-cons_option kept.0 []))
items_few is_long n held (line ∷ next ∷ more) items e =
    let kept = line_kept held (item_of n (strip_carriage_return line)) (λ behind. items_from is_long (n + 1) behind (next ∷ more)) items e in
    rw kept.6 (omega (arith, length-cons_option kept.0 kept.2, items_few is_long (n + 1) kept.1 (next ∷ more) kept.2 kept.5))

orders_few : (items : List Item) → length (filter_map order_in items) ≤ length items
orders_few [] = omega arith
orders_few (item.PhaseEnd ∷ items) = omega (arith, orders_few items)
orders_few (item.Order order ∷ items) = omega (arith, orders_few items)

pub script_few : (is_long : Bool) (bytes : Bytes) (phases : List (List Order)) → phases_read (items_from is_long 1 none_held_by_all (lines (take 16777216 bytes))) ≡ Ok phases → sum_by length phases ≤ 16777217
script_few is_long bytes phases e =
    let (items, is, phased) = bind_ok (items_from is_long 1 none_held_by_all (lines (take 16777216 bytes))) (λ items. Ok (phases_of items)) phases e in
    let count : length (filter_map order_in items) ≡ sum_by length phases =
    ap length (sym (orders_flat items)) ∙ length-flat_map (λ (orders : List Order). orders) (phases_of items) ∙ ap (sum_by length) (ok_is _ _ phased) in
    omega (
      arith,
      count,
      orders_few items,
      items_few is_long 1 none_held_by_all (lines (take 16777216 bytes)) items is,
      length-slice_split (λ byte. eqb byte 10) (take 16777216 bytes),
      count_by-le-length (λ byte. eqb byte 10) (take 16777216 bytes),
      length-take 16777216 bytes,
    )
