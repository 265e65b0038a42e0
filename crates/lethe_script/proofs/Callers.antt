-- What a line says is of one of the eight callers.
use Rattle.std.proofs.Common.{◌≡◌, ℕ, ◌-◌, ◌≤◌, ◌&&◌, Bool, true, false, List, [], ◌∷◌, leb, cond, Option, Some, None, Result, Ok, Err, refl, ap, subst, arith}
use Rattle.std.specs.List.{list_all}
use Rattle.std.specs.Str.{bytes_eq}
use Rattle.std.specs.Prelude.{codes}
use Rattle.std.proofs.lemmas.Bool.{leb-true}
use Rattle.lethe_base.specs.Keys.{Bytes}
use Rattle.lethe_base.specs.Results.{◌>>=◌}
use Rattle.lethe_base.proofs.ReadingSteps.{bind_ok, ok_is}
use Rattle.lethe_script.specs.declared.order.Item.{Item}
use Rattle.lethe_script.specs.declared.order.Item.TheVariants as item
use Rattle.lethe_script.specs.declared.order.Order.{Order}
use Rattle.lethe_script.specs.declared.refused.Why.{Why}
use Rattle.lethe_script.specs.declared.refused.Why.TheVariants.{Byte, Caller}
use Rattle.lethe_script.specs.Fields.{caller_of, fields, is_allowed, is_comment}
use Rattle.lethe_script.specs.Grammar.{act_of, item_of, line_of, fields_say, item_fields, phase_end_of, order_fields, numbered}

-- the order is of one of the eight callers
pub record IsOfCaller (order : Order) : Type 0 where
  pub from_one : 1 ≤ order.caller
  pub to_eight : order.caller ≤ 8

called : (field : Bytes) (caller : ℕ) → caller_of field ≡ Ok caller → (1 ≤ caller) × (caller ≤ 8)
unfolding caller_of
called [] caller e = absurd cc
called (digit ∷ []) caller e = by (leb 49 digit) (leb digit 56) refl refl e
  where
    by : (low high : Bool) → leb 49 digit ≡ low → leb digit 56 ≡ high → (let r : Result ℕ Why = cond (low && high) (Ok (digit - 48)) (Err Caller) in r ≡ Ok caller) → (1 ≤ caller) × (caller ≤ 8)
    by true true low high e =
        let is : digit - 48 ≡ caller = cc in
        (omega (arith, is, leb-true 49 digit low), omega (arith, is, leb-true digit 56 high))
    by true false low high e = absurd cc
    by false high low is e = absurd cc
called (digit ∷ other ∷ more) caller e = absurd cc

order_called : (n : ℕ) (first : Bytes) (rest : List Bytes) (order : Order) → order_fields n first rest ≡ Ok order → IsOfCaller order
unfolding order_fields
order_called n first rest order e =
    let (caller, is, acts) = bind_ok (caller_of first) (λ caller. act_of rest >>= λ act. Ok (record { line = n; caller = caller; act = act })) order e in
    let (act, asked, made) = bind_ok (act_of rest) (λ act. Ok (record { line = n; caller = caller; act = act })) order acts in
    let same : caller ≡ order.caller = ap (λ (o : Order). o.caller) (ok_is _ _ made) in
    let within = called first caller is in
    record { from_one = subst (λ k. 1 ≤ k) same within.0; to_eight = subst (λ k. k ≤ 8) same within.1 }

-- an item's order, if it is one, is of a caller
abbrev pub IsCalled : Item → Type 0
IsCalled item.PhaseEnd = Unit {0}
IsCalled (item.Order order) = IsOfCaller order

end_called : (rest : List Bytes) (found : Item) → phase_end_of rest ≡ Ok found → IsCalled found
unfolding phase_end_of
end_called [] item.PhaseEnd e = tt
end_called [] (item.Order order) e = absurd cc
end_called (field ∷ more) found e = absurd cc

item_called : (n : ℕ) (first : Bytes) (rest : List Bytes) (found : Item) → item_fields n first rest ≡ Ok found → IsCalled found
unfolding item_fields
item_called n first rest found e = by (bytes_eq first (codes "phase")) e
  where
    by : (b : Bool) → cond b (phase_end_of rest) (order_fields n first rest >>= λ order. Ok (item.Order order)) ≡ Ok found → IsCalled found
    by true e = end_called rest found e
    by false e =
        let (order, is, made) = bind_ok (order_fields n first rest) (λ order. Ok (item.Order order)) found e in
        subst IsCalled (ok_is _ _ made) (order_called n first rest order is)

fields_called : (n : ℕ) (parts : List Bytes) (found : Item) → fields_say n parts ≡ Ok (Some found) → IsCalled found
unfolding fields_say
fields_called n [] found e = absurd cc
fields_called n (first ∷ rest) found e = by (is_comment first) e
  where
    by : (b : Bool) → cond b (Ok None) (item_fields n first rest >>= λ found. Ok (Some found)) ≡ Ok (Some found) → IsCalled found
    by true e = absurd cc
    by false e =
        let (one, is, made) = bind_ok (item_fields n first rest) (λ found. Ok (Some found)) (Some found) e in
        let same : one ≡ found = cc in
        subst IsCalled same (item_called n first rest one is)

pub line_called : (n : ℕ) (line : Bytes) (found : Item) → item_of n line ≡ Ok (Some found) → IsCalled found
unfolding item_of line_of
line_called n line found e = by (list_all is_allowed line) e
  where
    from_number : (read : Result (Option Item) Why) → numbered n read ≡ Ok (Some found) → read ≡ Ok (Some found)
    from_number (Ok one) e = cc
    from_number (Err why) e = absurd cc

    by : (b : Bool) → numbered n (cond b (fields_say n (fields line)) (Err Byte)) ≡ Ok (Some found) → IsCalled found
    by true e = fields_called n (fields line) found (from_number (fields_say n (fields line)) e)
    by false e = absurd cc
