-- A script's lines, one after another.
use Rattle.std.proofs.Common.{◌≡◌, ℕ, ◌+◌, ◌<◌, Bool, true, false, List, [], ◌∷◌, ◌++◌, length, get_or, take, drop, eqb, Option, Some, None, Result, Ok, Err, refl, sym, ap, ◌∙◌, arith, take-append-drop, add-one, drop-cons, ltb, cond, inl, inr}
use Rattle.std.proofs.lemmas.Bool.{cases_lt, lt-ltb}
use Rattle.std.proofs.lemmas.List.{get_or-take, length-take}
use Rattle.std.proofs.lemmas.List.Elements.{All-from_get_or}
use Rattle.std.proofs.lemmas.List.Sums.{fails_before_first}
use Rattle.std.proofs.lemmas.List.Quantifiers.{position-Some}
use Rattle.std.specs.List.{position, All, cons_option}
use Rattle.std.specs.Str.Lines.{strip_carriage_return}
use Rattle.std.proofs.lemmas.List.Splits.{slice_split_at, slice_split_none, length-slice_split}
use Rattle.lethe_base.specs.Keys.{Bytes}
use Rattle.lethe_script.specs.declared.order.Item.{Item}
use Rattle.lethe_script.specs.declared.order.Order.{Order}
use Rattle.lethe_script.specs.declared.refused.BadLine.{BadLine}
use Rattle.lethe_script.specs.declared.refused.Why.TheVariants.{Size}
use Rattle.lethe_script.specs.declared.refused.ScriptRefused.{ScriptRefused}
use Rattle.lethe_script.specs.declared.refused.ScriptRefused.TheVariants.{Bad, NoMemory}
use Rattle.lethe_script.specs.Reading.{FailsScript, Phases, phases_behind, phases_read, with_item}
use Rattle.lethe_base.specs.Results.{◌>>=◌}
use Rattle.lethe_base.proofs.ReadingSteps.{bind_ok, ok_is}
use Rattle.lethe_script.specs.Slots.{HeldByAll}
use Rattle.lethe_script.specs.Grammar.{lines, item_of, slots_behind, items_from, phases_of}
use Rattle.lethe_script.proofs.Phases.{joined, joined_none, joined_last, joined_more}

-- phases in front of those of what is read
abbrev pub with_front : List (List Order) → List Order → Result (List Item) BadLine → Result (List (List Order)) BadLine
with_front ended open_orders read = read >>= λ items. Ok (joined ended open_orders (phases_of items))

-- in front of which nothing stands
pub none_in_front : (read : Result (List Item) BadLine) → with_front [] [] read ≡ phases_read read
none_in_front (Ok items) = ap Ok (joined_none items)
none_in_front (Err bad) = refl

-- what is read of a line, and of those behind it
abbrev pub with_line : HeldByAll → Result (Option Item) BadLine → (HeldByAll → Result (List Item) BadLine) → Result (List Item) BadLine
with_line held read more = read >>= λ found. slots_behind found held >>= λ behind. more behind >>= λ items. Ok (cons_option found items)

-- a line behind which others stand
pub items_from-cons : (is_long : Bool) (n : ℕ) (held : HeldByAll) (line : Bytes) (more : List Bytes) → 0 < length more
    → items_from is_long n held (line ∷ more) ≡ with_line held (item_of n (strip_carriage_return line)) (λ behind. items_from is_long (n + 1) behind more)
unfolding items_from
items_from-cons is_long n held line [] some = absurd (omega arith)
items_from-cons is_long n held line (next ∷ more) some = refl

pub lines_some : (bytes : Bytes) → 0 < length (lines bytes)
lines_some bytes = omega (arith, length-slice_split (λ byte. eqb byte 10) bytes)

-- what they were read as, where all are read
pub line_kept : (held : HeldByAll) (read : Result (Option Item) BadLine) (more : HeldByAll → Result (List Item) BadLine) (items : List Item) → with_line held read more ≡ Ok items
    → (found : Option Item) × (behind : HeldByAll) × (others : List Item) × (read ≡ Ok found) × (slots_behind found held ≡ Ok behind) × (more behind ≡ Ok others) × (items ≡ cons_option found others)
line_kept held read more items e =
    let (found, is, said) = bind_ok read (λ found. slots_behind found held >>= λ behind. more behind >>= λ items. Ok (cons_option found items)) items e in
    let (behind, slots, slotted) = bind_ok (slots_behind found held) (λ behind. more behind >>= λ items. Ok (cons_option found items)) items said in
    let (others, rest, all) = bind_ok (more behind) (λ items. Ok (cons_option found items)) items slotted in
    (found, behind, others, is, slots, rest, sym (ok_is _ _ all))

-- what a line says moves to the front
moved : (ended : List (List Order)) (open_orders : List Order) (found : Option Item) (more : Result (List Item) BadLine)
    → with_front ended open_orders (more >>= λ items. Ok (cons_option found items)) ≡ with_front (phases_behind found ended open_orders).0 (phases_behind found ended open_orders).1 more
moved ended open_orders found (Ok items) = ap Ok (joined_more ended open_orders found items)
moved ended open_orders found (Err bad) = refl

-- what is read of a line moves to the front
read_moved : (ended : List (List Order)) (open_orders : List Order) (new : Phases) (held behind : HeldByAll) (read : Result (Option Item) BadLine) (more : HeldByAll → Result (List Item) BadLine)
    → with_item ended open_orders held read ≡ Ok (new, behind) → with_front ended open_orders (with_line held read more) ≡ with_front new.0 new.1 (more behind)
read_moved ended open_orders new held behind read more e =
    let found = bind_ok read (λ found. slots_behind found held >>= λ behind. Ok (phases_behind found ended open_orders, behind)) (new, behind) e in
    let slots = bind_ok (slots_behind found.0 held) (λ behind. Ok (phases_behind found.0 ended open_orders, behind)) (new, behind) found.2 in
    rw (found.1, slots.1) (moved ended open_orders found.0 (more slots.0) ∙ ap (λ (kept : Phases × HeldByAll). with_front (kept.0).0 (kept.0).1 (more kept.1)) (ok_is _ _ slots.2))

-- a bad line is the first
stopped : (ended : List (List Order)) (open_orders : List Order) (held : HeldByAll) (read : Result (Option Item) BadLine) (more : HeldByAll → Result (List Item) BadLine) (bad : BadLine)
    → with_item ended open_orders held read ≡ Err bad → with_front ended open_orders (with_line held read more) ≡ Err bad
stopped ended open_orders held (Err other) more bad e = cc
stopped ended open_orders held (Ok found) more bad e = by_slots (slots_behind found held) e
  where
    by_slots : (slots : Result HeldByAll BadLine) → (let kept : Result (Phases × HeldByAll) BadLine = slots >>= λ behind. Ok (phases_behind found ended open_orders, behind) in kept ≡ Err bad)
        → with_front ended open_orders (slots >>= λ behind. more behind >>= λ items. Ok (cons_option found items)) ≡ Err bad
    by_slots (Ok behind) e = absurd cc
    by_slots (Err other) e = cc

-- where a line ends, it is cut off
pub cut_at : (bytes : Bytes) (end : ℕ) → position (λ byte. eqb byte 10) bytes ≡ Some end → lines bytes ≡ take end bytes ∷ lines (drop (end + 1) bytes)
cut_at bytes end e =
    let (within, ends, before) = position-Some (λ byte. eqb byte 10) bytes end 0 e in
    let split : bytes ≡ take end bytes ++ get_or bytes end 0 ∷ drop (end + 1) bytes =
    sym (take-append-drop end bytes) ∙ ap (λ l. take end bytes ++ l) (rw (add-one, drop-cons bytes end 0) refl) in
    ap lines split ∙ slice_split_at (λ byte. eqb byte 10) (take end bytes) (get_or bytes end 0) (drop (end + 1) bytes) (front_fails bytes end within before) ends
  where
    front_fails : (bytes : Bytes) (end : ℕ) → end < length bytes → ((k : ℕ) → k < end → eqb (get_or bytes k 0) 10 ≡ false) → All (λ byte. eqb byte 10 ≡ false) (take end bytes)
    front_fails bytes end within before = All-from_get_or (λ byte. eqb byte 10 ≡ false) (take end bytes) 0 (λ i lt.
        let below : i < end = omega (arith, length-take end bytes) in
        ap (λ byte. eqb byte 10) (get_or-take end bytes i 0 below) ∙ before i below)

-- where no line ends, there is one part
pub not_cut : (bytes : Bytes) → position (λ byte. eqb byte 10) bytes ≡ None → lines bytes ≡ bytes ∷ []
not_cut bytes e = slice_split_none (λ byte. eqb byte 10) bytes (All-from_get_or (λ byte. eqb byte 10 ≡ false) bytes 0 (λ i lt.
    fails_before_first (λ byte. eqb byte 10) bytes i 0 (at_end _ _ e i lt)))
  where
    at_end : (n m : ℕ) → cond (ltb n m) (Some n) None ≡ None → (i : ℕ) → i < m → i < n
    at_end n m e i lt = elim (cases_lt n m) [
      | inl below ↦ let clash : Some n ≡ None = sym (ap (λ b. cond b (Some n) None) (lt-ltb n m below)) ∙ e in absurd (cc)
      | inr at ↦ omega arith
    ]

module _ (is_long : Bool) (ended : List (List Order)) (open_orders : List Order) (n : ℕ) (held : HeldByAll) (bytes line rest : Bytes) (all : Result (List (List Order)) BadLine)
    (cut : lines bytes ≡ line ∷ lines rest) (told : with_front ended open_orders (items_from is_long n held (lines bytes)) ≡ all) where
  split : with_front ended open_orders (with_line held (item_of n (strip_carriage_return line)) (λ behind. items_from is_long (n + 1) behind (lines rest))) ≡ all
  split = sym (ap (with_front ended open_orders) (ap (items_from is_long n held) cut ∙ items_from-cons is_long n held line (lines rest) (lines_some rest))) ∙ told

  -- the phases go on
  pub item_read : (new : Phases) (behind : HeldByAll) → with_item ended open_orders held (item_of n (strip_carriage_return line)) ≡ Ok (new, behind)
      → with_front new.0 new.1 (items_from is_long (n + 1) behind (lines rest)) ≡ all
  item_read new behind e = sym (read_moved ended open_orders new held behind _ (λ behind. items_from is_long (n + 1) behind (lines rest)) e) ∙ split

  -- a bad line is the answer
  pub item_refused : (e : ScriptRefused) → FailsScript e (with_item ended open_orders held (item_of n (strip_carriage_return line))) → FailsScript e all
  item_refused (Bad bad) e = sym split ∙ stopped ended open_orders held _ (λ behind. items_from is_long (n + 1) behind (lines rest)) bad e
  item_refused NoMemory e = tt

module _ (is_long : Bool) (ended : List (List Order)) (open_orders : List Order) (n : ℕ) (held : HeldByAll) (rest : Bytes) (all : Result (List (List Order)) BadLine)
    (cut : lines rest ≡ rest ∷ []) (told : with_front ended open_orders (items_from is_long n held (lines rest)) ≡ all) where
  last : (long : Bool) → is_long ≡ long → all ≡ with_front ended open_orders (items_from long n held (rest ∷ []))
  last long e = sym told ∙ ap (λ ls. with_front ended open_orders (items_from is_long n held ls)) cut ∙ ap (λ b. with_front ended open_orders (items_from b n held (rest ∷ []))) e

  -- the last line of a script that is too long
  pub last_long : is_long ≡ true → all ≡ Err (record { line = n; why = Size })
  unfolding items_from
  last_long e = last true e

  last_line : is_long ≡ false → all ≡ with_front ended open_orders (with_line held (item_of n rest) (λ _. Ok []))
  unfolding items_from
  last_line e = last false e

  -- the last line of another, behind which the last phase ends
  pub last_read : (new : Phases) (behind : HeldByAll) → is_long ≡ false → with_item ended open_orders held (item_of n rest) ≡ Ok (new, behind) → all ≡ Ok (new.0 ++ new.1 ∷ [])
  last_read new behind e read = last_line e ∙ read_moved ended open_orders new held behind _ (λ _. Ok []) read ∙ ap Ok (joined_last new.0 new.1)

  pub last_refused : (e : ScriptRefused) → is_long ≡ false → FailsScript e (with_item ended open_orders held (item_of n rest)) → FailsScript e all
  last_refused (Bad bad) e bad_is = last_line e ∙ stopped ended open_orders held _ (λ _. Ok []) bad bad_is
  last_refused NoMemory e bad_is = tt
