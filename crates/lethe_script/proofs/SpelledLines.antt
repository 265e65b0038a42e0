-- Lines that are spelled are read as what they spell.
use Rattle.std.proofs.Common.{◌≡◌, ℕ, ◌+◌, ◌<◌, ◌≤◌, false, List, [], ◌∷◌, ◌++◌, length, take, eqb, ltb, cond, map, IsSome, Some, ok_or, Result, Ok, Err}
use Rattle.std.proofs.Common.{refl, sym, ap, ◌∙◌, subst, arith, append_assoc, append-nil}
use Rattle.std.specs.Prelude.{codes}
use Rattle.std.specs.List.{All, AllByRecursion, join_with_byte, flat_map, cons_option}
use Rattle.std.specs.Fmt.{decimal}
use Rattle.std.specs.Str.Lines.{strip_carriage_return}
use Rattle.std.proofs.lemmas.Bool.{le-ltb}
use Rattle.std.proofs.lemmas.List.{take_all}
use Rattle.std.proofs.lemmas.List.Elements.{All-nil, All-head, All-tail, All-append, All-weaker}
use Rattle.std.proofs.lemmas.List.Splits.{slice_split_at}
use Rattle.lethe_base.specs.Keys.{Bytes}
use Rattle.lethe_script.specs.declared.order.Item.{Item}
use Rattle.lethe_script.specs.declared.order.Item.TheVariants as item
use Rattle.lethe_script.specs.declared.order.Order.{Order}
use Rattle.lethe_script.specs.declared.refused.BadLine.{BadLine}
use Rattle.lethe_script.specs.declared.refused.Why.TheVariants.{Byte, Slot}
use Rattle.lethe_base.specs.Results.{◌>>=◌}
use Rattle.lethe_script.specs.Fields.{fields}
use Rattle.lethe_script.specs.Grammar.{lines, phase_end_of, item_fields, fields_say, line_of, numbered, item_of, slots_behind, items_from, phases_of, script_of}
use Rattle.lethe_script.specs.Spelling.{act_fields, spelling, phase_line, script_text, IsWritable, IsNumbered, AreNumbered}
use Rattle.lethe_script.specs.Slots.{HeldByAll, none_held_by_all, held_through, all_held_behind, orders_by, AreSlotted}
use Rattle.lethe_script.proofs.Spelled.{IsAllowed, IsFieldText, fields_joined, allowed_joined, all_allowed, no_cr, no_lf, decimal_field, fields_again, act_texts}
use Rattle.lethe_script.proofs.Lines.{items_from-cons, lines_some}
use Rattle.lethe_script.proofs.Phases.{order_first}
use Rattle.lethe_script.proofs.Callers.{IsOfCaller}
use Rattle.lethe_script.proofs.SlotLemmas.{none_by, some_then, all_held_through, all_through_parts, all_found}

-- the line of an order, without its LF
abbrev line_text : Order → Bytes
line_text order = join_with_byte 32 (decimal order.caller ∷ act_fields order.act)

module _ (order : Order) (w : IsWritable order) where
  texts : AllByRecursion IsFieldText (decimal order.caller ∷ act_fields order.act)
  texts = (decimal_field order.caller (omega (arith, w.to_eight)), act_texts order.act w.act)

  some_parts : 0 < length (decimal order.caller ∷ act_fields order.act)
  some_parts = omega arith

  allowed : All IsAllowed (line_text order)
  allowed = allowed_joined (decimal order.caller ∷ act_fields order.act) some_parts texts

  line_again : (n : ℕ) → order.line ≡ n → line_of n (line_text order) ≡ Ok (Some (item.Order order))
  unfolding line_of
  line_again n e =
      ap (λ b. cond b (fields_say n (fields (line_text order))) (Err Byte)) (all_allowed (line_text order) allowed)
      ∙ ap (fields_say n) (fields_joined (decimal order.caller ∷ act_fields order.act) some_parts texts)
      ∙ fields_again n order.caller order.act w.from_one w.to_eight w.act
      ∙ ap (λ k. Ok (Some (item.Order (record { line = k; caller = order.caller; act = order.act })))) (sym e)

  item_again : (n : ℕ) → order.line ≡ n → item_of n (strip_carriage_return (line_text order)) ≡ Ok (Some (item.Order order))
  unfolding item_of
  item_again n e = ap (item_of n) (no_cr (line_text order) allowed) ∙ ap (numbered n) (line_again n e)

  lines_again : (rest : Bytes) → lines (spelling order ++ rest) ≡ line_text order ∷ lines rest
  lines_again rest =
      ap lines (append_assoc (line_text order) (10 ∷ []) rest)
      ∙ slice_split_at (λ byte. eqb byte 10) (line_text order) 10 rest (no_lf (line_text order) allowed) refl

  -- the line of an order that finds its slot
  order_line : (n : ℕ) (held behind : HeldByAll) (rest : Bytes) → order.line ≡ n → all_held_behind order held ≡ Some behind
      → items_from false n held (lines (spelling order ++ rest)) ≡ (items_from false (n + 1) behind (lines rest) >>= λ items. Ok (item.Order order ∷ items))
  order_line n held behind rest e is =
      let others = λ (slots : HeldByAll). items_from false (n + 1) slots (lines rest) >>= λ items. Ok (item.Order order ∷ items) in
      ap (items_from false n held) (lines_again rest)
      ∙ items_from-cons false n held (line_text order) (lines rest) (lines_some rest)
      ∙ ap (λ r. r >>= λ found. slots_behind found held >>= λ behind. items_from false (n + 1) behind (lines rest) >>= λ items. Ok (cons_option found items)) (item_again n e)
      ∙ ap (λ o. ok_or o (record { line = order.line; why = Slot }) >>= others) is

-- the line `phase`
phase_again : (n : ℕ) → item_of n (strip_carriage_return (codes "phase")) ≡ Ok (Some item.PhaseEnd)
unfolding item_of line_of fields_say item_fields phase_end_of
phase_again n = refl

phase_end_line : (n : ℕ) (held : HeldByAll) (rest : Bytes) → items_from false n held (lines (phase_line ++ rest)) ≡ (items_from false (n + 1) held (lines rest) >>= λ items. Ok (item.PhaseEnd ∷ items))
phase_end_line n held rest =
    let cut : lines (phase_line ++ rest) ≡ codes "phase" ∷ lines rest = refl in
    ap (items_from false n held) cut
    ∙ items_from-cons false n held (codes "phase") (lines rest) (lines_some rest)
    ∙ ap (λ r. r >>= λ found. slots_behind found held >>= λ behind. items_from false (n + 1) behind (lines rest) >>= λ items. Ok (cons_option found items)) (phase_again n)

-- an empty line says nothing
none_left : (n : ℕ) (held : HeldByAll) → items_from false n held (lines []) ≡ Ok []
unfolding items_from item_of line_of fields_say
none_left n held = refl

-- readings one behind another
two_steps : {A B C E : Type 0} (r : Result A E) (f : A → B) (g : B → C) → (r >>= λ x. Ok (f x)) >>= (λ y. Ok (g y)) ≡ (r >>= λ x. Ok (g (f x)))
two_steps (Ok x) f g = refl
two_steps (Err why) f g = refl

-- the lines of orders that find their slots
orders_lines : (n : ℕ) (held : HeldByAll) (orders : List Order) (rest : Bytes) (behind : HeldByAll) → All IsWritable orders → IsNumbered n orders → all_held_through orders held ≡ Some behind
    → items_from false n held (lines (flat_map spelling orders ++ rest)) ≡ (items_from false (n + length orders) behind (lines rest) >>= λ items. Ok (map item.Order orders ++ items))
orders_lines n held [] rest behind w numbered through =
    let same : held ≡ behind = cc in
    let from : n ≡ n + 0 = omega arith in
    ap (λ (held : HeldByAll). items_from false n held (lines rest)) same ∙ ap (λ k. items_from false k behind (lines rest)) from ∙ nothing_more (items_from false (n + 0) behind (lines rest))
  where
    nothing_more : (r : Result (List Item) BadLine) → r ≡ (r >>= λ items. Ok items)
    nothing_more (Ok items) = refl
    nothing_more (Err bad) = refl
orders_lines n held (order ∷ orders) rest behind w numbered through =
    let here = All-head IsWritable order orders w in
    let more = flat_map spelling orders in
    let (mid, is, after) = some_then (all_held_behind order held) (λ behind. all_held_through orders behind) behind through in
    let from : n + 1 + length orders ≡ n + length (order ∷ orders) = omega arith in
    ap (λ bytes. items_from false n held (lines bytes)) (append_assoc (spelling order) more rest)
    ∙ order_line order here n held mid (more ++ rest) numbered.0 is
    ∙ ap (λ r. r >>= λ items. Ok (item.Order order ∷ items)) (orders_lines (n + 1) mid orders rest behind (All-tail IsWritable order orders w) numbered.1 after)
    ∙ two_steps (items_from false (n + 1 + length orders) behind (lines rest)) (λ items. map item.Order orders ++ items) (λ items. item.Order order ∷ items)
    ∙ ap (λ k. items_from false k behind (lines rest) >>= λ items. Ok (map item.Order (order ∷ orders) ++ items)) from

-- what the lines of phases say
abbrev items_in : List (List Order) → List Item
items_in [] = []
items_in (orders ∷ []) = map item.Order orders
items_in (orders ∷ next ∷ more) = map item.Order orders ++ item.PhaseEnd ∷ items_in (next ∷ more)

phases_lines : (n : ℕ) (held : HeldByAll) (phases : List (List Order)) (behind : HeldByAll) → 0 < length phases → All (All IsWritable) phases → AreNumbered n phases
    → all_held_through (flat_map (λ orders. orders) phases) held ≡ Some behind → items_from false n held (lines (script_text phases)) ≡ Ok (items_in phases)
phases_lines n held [] behind some w numbered through = absurd (omega arith)
phases_lines n held (orders ∷ []) behind some w numbered through =
    let last : all_held_through orders held ≡ Some behind = ap (λ os. all_held_through os held) (sym (append-nil orders)) ∙ through in
    ap (λ bytes. items_from false n held (lines bytes)) (sym (append-nil (flat_map spelling orders)))
    ∙ orders_lines n held orders [] behind (All-head (All IsWritable) orders [] w) numbered.0 last
    ∙ ap (λ r. r >>= λ items. Ok (map item.Order orders ++ items)) (none_left (n + length orders) behind)
    ∙ ap Ok (append-nil (map item.Order orders))
phases_lines n held (orders ∷ next ∷ more) behind some w numbered through =
    let others = flat_map (λ (orders : List Order). orders) (next ∷ more) in
    let (mid, is, after) = some_then (all_held_through orders held) (λ behind. all_held_through others behind) behind (sym (all_through_parts orders others held) ∙ through) in
    orders_lines n held orders (phase_line ++ script_text (next ∷ more)) mid (All-head (All IsWritable) orders (next ∷ more) w) numbered.0 is
    ∙ ap (λ r. r >>= λ items. Ok (map item.Order orders ++ items))
    (phase_end_line (n + length orders) mid (script_text (next ∷ more))
    ∙ ap (λ r. r >>= λ items. Ok (item.PhaseEnd ∷ items))
    (phases_lines (n + length orders + 1) mid (next ∷ more) behind (omega arith) (All-tail (All IsWritable) orders (next ∷ more) w) numbered.1 after))

-- their phases are these
phases_again : (phases : List (List Order)) → 0 < length phases → phases_of (items_in phases) ≡ phases
phases_again [] some = absurd (omega arith)
phases_again (orders ∷ []) some = last orders
  where
    last : (orders : List Order) → phases_of (map item.Order orders) ≡ orders ∷ []
    last [] = refl
    last (order ∷ orders) = order_first order (map item.Order orders) orders [] (last orders)
phases_again (orders ∷ next ∷ more) some = by (phases_again (next ∷ more) (omega arith)) orders
  where
    by : phases_of (items_in (next ∷ more)) ≡ next ∷ more → (orders : List Order) → phases_of (map item.Order orders ++ item.PhaseEnd ∷ items_in (next ∷ more)) ≡ orders ∷ next ∷ more
    by others [] = ap (λ phases. [] ∷ phases) others
    by others (order ∷ orders) = order_first order (map item.Order orders ++ item.PhaseEnd ∷ items_in (next ∷ more)) orders (next ∷ more) (by others orders)

all_in_phases : (phases : List (List Order)) → All (All IsWritable) phases → All IsWritable (flat_map (λ orders. orders) phases)
all_in_phases [] w = All-nil IsWritable
all_in_phases (orders ∷ phases) w =
    All-append IsWritable orders (flat_map (λ orders. orders) phases) (All-head (All IsWritable) orders phases w) (all_in_phases phases (All-tail (All IsWritable) orders phases w))

pub script_again : (phases : List (List Order)) → 0 < length phases → All (All IsWritable) phases → AreNumbered 1 phases → AreSlotted (flat_map (λ orders. orders) phases)
    → length (script_text phases) ≤ 16777216 → script_of (script_text phases) ≡ Ok phases
unfolding script_of
script_again phases some w numbered slotted small =
    let bytes = script_text phases in
    let orders = flat_map (λ (orders : List Order). orders) phases in
    let short : ltb 16777216 (length bytes) ≡ false = le-ltb 16777216 (length bytes) small in
    let of_callers = All-weaker IsWritable IsOfCaller (λ order w. record { from_one = w.from_one; to_eight = w.to_eight }) orders (all_in_phases phases w) in
    let (behind, through) = all_found orders none_held_by_all refl of_callers (λ caller one. subst (λ held. IsSome (held_through (orders_by caller orders) held)) (sym (none_by caller)) (slotted caller)) in
    ap (λ b. items_from b 1 none_held_by_all (lines (take 16777216 bytes)) >>= λ items. Ok (phases_of items)) short
    ∙ ap (λ bs. items_from false 1 none_held_by_all (lines bs) >>= λ items. Ok (phases_of items)) (take_all 16777216 bytes small)
    ∙ ap (λ r. r >>= λ items. Ok (phases_of items)) (phases_lines 1 none_held_by_all phases behind some w numbered through)
    ∙ ap Ok (phases_again phases some)
