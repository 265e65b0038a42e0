-- The phases of what lines say, one line after another.
use Rattle.std.proofs.Common.{◌≡◌, List, [], ◌∷◌, ◌++◌, map, Option, Some, None, refl, sym, ap, ◌∙◌, append_assoc, append-nil}
use Rattle.std.specs.List.{slice_split, onto_first, filter_map, flat_map, cons_option}
use Rattle.lethe_script.specs.declared.order.Item.{Item}
use Rattle.lethe_script.specs.declared.order.Item.TheVariants as item
use Rattle.lethe_script.specs.declared.order.Order.{Order}
use Rattle.lethe_script.specs.Grammar.{is_phase_end, order_in, phases_of}
use Rattle.lethe_script.specs.Reading.{phases_behind}

-- there is a first part
pub split_some : (items : List Item) → (part : List Item) × (parts : List (List Item)) × (slice_split is_phase_end items ≡ part ∷ parts)
split_some [] = ([], [], refl)
split_some (item.PhaseEnd ∷ items) = ([], slice_split is_phase_end items, refl)
split_some (item.Order order ∷ items) =
    let (part, parts, is) = split_some items in
    (item.Order order ∷ part, parts, rw is refl)

-- phases that have ended and the orders of one that hasn't, in front of further phases, whose first goes on with it
abbrev pub joined : List (List Order) → List Order → List (List Order) → List (List Order)
joined ended open_orders [] = ended ++ open_orders ∷ []
joined ended open_orders (first ∷ others) = ended ++ (open_orders ++ first) ∷ others

-- in front of nothing
pub joined_none : (items : List Item) → joined [] [] (phases_of items) ≡ phases_of items
joined_none items = let (part, parts, is) = split_some items in rw is refl

-- behind nothing
pub joined_last : (ended : List (List Order)) (open_orders : List Order) → joined ended open_orders (phases_of []) ≡ ended ++ open_orders ∷ []
joined_last ended open_orders = ap (λ orders. ended ++ orders ∷ []) (append-nil open_orders)

-- what a line says moves to the front
pub joined_more : (ended : List (List Order)) (open_orders : List Order) (found : Option Item) (items : List Item)
    → joined ended open_orders (phases_of (cons_option found items)) ≡ joined (phases_behind found ended open_orders).0 (phases_behind found ended open_orders).1 (phases_of items)
joined_more ended open_orders None items = refl
joined_more ended open_orders (Some item.PhaseEnd) items =
    let (part, parts, is) = split_some items in
    rw (is, append-nil open_orders) (sym (append_assoc ended (open_orders ∷ []) (map (filter_map order_in) (part ∷ parts))))
joined_more ended open_orders (Some (item.Order order)) items =
    let (part, parts, is) = split_some items in
    rw is (ap (λ orders. ended ++ orders ∷ map (filter_map order_in) parts) (sym (append_assoc open_orders (order ∷ []) (filter_map order_in part))))

-- the orders of all phases are those of all lines
pub orders_flat : (items : List Item) → flat_map (λ orders. orders) (phases_of items) ≡ filter_map order_in items
orders_flat [] = refl
orders_flat (item.PhaseEnd ∷ items) = orders_flat items
orders_flat (item.Order order ∷ items) =
    let (part, parts, is) = split_some items in
    let same : flat_map (λ orders. orders) (phases_of (item.Order order ∷ items)) ≡ order ∷ flat_map (λ orders. orders) (phases_of items) = rw is refl in
    same ∙ ap (λ orders. order ∷ orders) (orders_flat items)

-- an order in front of others stands first in their first phase
pub order_first : (order : Order) (items : List Item) (first : List Order) (others : List (List Order)) → phases_of items ≡ first ∷ others → phases_of (item.Order order ∷ items) ≡ (order ∷ first) ∷ others
order_first order items first others e =
    let (part, parts, is) = split_some items in
    let same : map (filter_map order_in) (part ∷ parts) ≡ first ∷ others = ap (map (filter_map order_in)) (sym is) ∙ e in
    let front : phases_of (item.Order order ∷ items) ≡ onto_first order (map (filter_map order_in) (part ∷ parts)) = rw is refl in
    front ∙ ap (onto_first order) same
