-- Where no count of faults rose and there are places, each change is done or is a tick behind the clock or barred by a pin, and what was left for a history is opened.
use Rattle.std.proofs.Common.{◌≡◌, ◌≤◌, ◌<◌, ℕ, zero, suc, ◌+◌, ◌-◌, Bool, true, false, cond, ◌||◌, List, [], ◌∷◌, length, Option, Some, None, IsSomeAnd, inl, inr, refl, sym, ap, ◌∙◌, arith}
use Rattle.std.specs.Prelude.{◌==◌, filter_map, sum_by, IsPermutation}
use Rattle.std.specs.List.{cons_option, flat_map, list_any}
use Rattle.lethe_base.specs.Counts.{Rose}
use Rattle.lethe_base.specs.Limits.{max_place}
use Rattle.lethe_build.specs.Built.{most_numbers}
use Rattle.lethe_base.specs.History.{History, Change}
use Rattle.lethe_base.specs.declared.call.Call.{Call}
use Rattle.lethe_base.specs.declared.config.Fields.{Fields}
use Rattle.lethe_stored.specs.Left.{IsLeft, IsHistoryOr, as_done}
use Rattle.lethe_load.specs.Refused.{HasOtherConfig}
use Rattle.lethe_recover.specs.Opening.{MayNotOpen, IsExhausted}
use Rattle.lethe_recover.specs.declared.opening.OpenWhy.{OpenWhy}
use Rattle.lethe_recover.specs.declared.opening.OpenWhy.TheVariants as open_why
use Rattle.lethe_script.specs.declared.order.Order.{Order}
use Rattle.lethe_script.specs.declared.order.Act.{Act}
use Rattle.lethe_script.specs.Slots.{orders_by}
use Rattle.lethe_run.specs.declared.reply.Line.{Line}
use Rattle.lethe_run.specs.declared.reply.Line.TheVariants as line
use Rattle.lethe_run.specs.declared.reply.Reply.{Reply}
use Rattle.lethe_run.specs.declared.reply.Reply.TheVariants as reply
use Rattle.lethe_run.specs.Carried.{IsCarriedOut}
use Rattle.lethe_run.specs.Ends.{Run, course_of}
use Rattle.lethe_run.specs.Transcript.{Course, Told, IsShort, IsUsedUp, most_of_a_change, call_of, Answers, Answered, IsFailedAt, IsFaultOf, IsServed, AreServed, place_of, places_behind, printed, is_refusal, has_refusal}
use Rattle.std.proofs.lemmas.Bool.{eqb-true, ne_eqb}
use Rattle.std.proofs.lemmas.List.{length-append, length_push}
use Rattle.std.proofs.lemmas.List.Sorted.{length_permutation}
use Rattle.std.proofs.lemmas.List.Sums.{sum_by-cons}
use Rattle.lethe_load.proofs.Exact.{kept_undamaged}

-- How many there are

filter_map_len : {X Y : Type 0} (h : X → Option Y) (xs : List X) → length (filter_map h xs) ≤ length xs
filter_map_len h [] = omega arith
filter_map_len h (x ∷ xs) = by (h x) (filter_map_len h xs)
  where
    by : (o : Option _) → length (filter_map h xs) ≤ length xs → length (cons_option o (filter_map h xs)) ≤ suc (length xs)
    by None rest = omega (arith, rest)
    by (Some y) rest = omega (arith, rest)

placed_none : (l : Line) (lines : List Line) → place_of l ≡ None → length (filter_map place_of (l ∷ lines)) ≡ length (filter_map place_of lines)
placed_none l lines none = ap (λ o. length (cons_option o (filter_map place_of lines))) none

placed_most : (l : Line) (lines : List Line) → length (filter_map place_of (l ∷ lines)) ≤ suc (length (filter_map place_of lines))
placed_most l lines = by (place_of l)
  where
    by : (o : Option ℕ) → length (cons_option o (filter_map place_of lines)) ≤ suc (length (filter_map place_of lines))
    by None = omega arith
    by (Some place) = omega arith

answered_len : (told : Told) (orders : List Order) (lines : List Line) → Answered told orders lines → length lines ≡ length orders
answered_len told [] [] a = refl
answered_len told [] (l ∷ lines) a = absurd a
answered_len told (order ∷ orders) [] a = absurd a
answered_len told (order ∷ orders) (line.Answer caller r ∷ lines) a = ap suc (answered_len told orders lines a.2)

behind_len : (n k : ℕ) → length (places_behind n k) ≡ k
behind_len n zero = refl
behind_len n (suc k) = ap suc (behind_len (suc n) k)

placed_len : (start h : History) (lines : List Line) → IsPermutation (places_behind (length start) (length h - length start)) (filter_map place_of lines) → length h - length start ≡ length (filter_map place_of lines)
placed_len start h lines once = sym (behind_len (length start) (length h - length start)) ∙ sym (length_permutation (places_behind (length start) (length h - length start)) (filter_map place_of lines) once)

-- caller by caller there are no more than in the script

-- how many of a caller stand in front, one or none
abbrev is_one : ℕ → Order → ℕ
is_one caller order = cond (order.caller == caller) 1 0

abbrev count_behind : ℕ → ℕ → Order → ℕ
count_behind n zero order = 0
count_behind n (suc k) order = is_one (suc n) order + count_behind (suc n) k order

none_behind : (n k : ℕ) (order : Order) → order.caller ≤ n → count_behind n k order ≡ 0
none_behind n zero order low = refl
none_behind n (suc k) order low =
    let first : is_one (suc n) order ≡ 0 = ap (λ b. cond b 1 0) (ne_eqb order.caller (suc n) (λ same. omega (arith, same, low))) in
    omega (arith, first, none_behind (suc n) k order (omega (arith, low)))

one_behind : (n k : ℕ) (order : Order) → count_behind n k order ≤ 1
one_behind n zero order = omega arith
one_behind n (suc k) order = by (order.caller == suc n) refl (one_behind (suc n) k order)
  where
    by : (b : Bool) → (order.caller == suc n) ≡ b → count_behind (suc n) k order ≤ 1 → is_one (suc n) order + count_behind (suc n) k order ≤ 1
    by true same rest =
        let first : is_one (suc n) order ≡ 1 = ap (λ b. cond b 1 0) same in
        let none = none_behind (suc n) k order (let is = eqb-true order.caller (suc n) same in omega (arith, is)) in
        omega (arith, first, none)
    by false other rest =
        let first : is_one (suc n) order ≡ 0 = ap (λ b. cond b 1 0) other in
        omega (arith, first, rest)

by_len : (caller : ℕ) (order : Order) (orders : List Order) → length (orders_by caller (order ∷ orders)) ≡ is_one caller order + length (orders_by caller orders)
by_len caller order orders = by (order.caller == caller)
  where
    by : (b : Bool) → length (cond b (order ∷ orders_by caller orders) (orders_by caller orders)) ≡ cond b 1 0 + length (orders_by caller orders)
    by true = omega arith
    by false = omega arith

abbrev all_by : ℕ → ℕ → List Order → List Order
all_by n k orders = flat_map (λ caller. orders_by caller orders) (places_behind n k)

all_len : (n k : ℕ) (order : Order) (orders : List Order) → length (all_by n k (order ∷ orders)) ≡ count_behind n k order + length (all_by n k orders)
all_len n zero order orders = omega arith
all_len n (suc k) order orders =
    let whole = length-append (orders_by (suc n) (order ∷ orders)) (all_by (suc n) k (order ∷ orders)) in
    let parts = length-append (orders_by (suc n) orders) (all_by (suc n) k orders) in
    omega (arith, whole, parts, by_len (suc n) order orders, all_len (suc n) k order orders)

none_len : (n k : ℕ) → length (all_by n k []) ≡ 0
none_len n zero = refl
none_len n (suc k) = none_len (suc n) k

pub printed_len : (orders : List Order) → length (printed orders) ≤ length orders
printed_len [] = omega arith
printed_len (order ∷ orders) = let size = all_len 0 8 order orders in omega (arith, size, one_behind 0 8 order, printed_len orders)

module _ (told : Told) (calm : Rose told.course.before told.course.now → ⊥) (ports : told.course.PortsFail → ⊥) where
  no_fault : (place before after : ℕ) → IsFailedAt told place before after → ⊥
  no_fault place before after f = calm (let rose = f.rose in let from = f.from in let upto = f.upto in omega (arith, rose, from, upto))

  fault_of : (caller place before after : ℕ) (asked : Option Call) → IsSomeAnd asked (IsFaultOf told caller place before after) → ⊥
  fault_of caller place before after None f = f
  fault_of caller place before after (Some call) f = no_fault place before after f.fails

  -- a line of none of these is no refusal, but for one behind which there is no place
  done_line : (caller by : ℕ) (act : Act) (r : Reply) → Answers told by act r → (place_of (line.Answer caller r) ≡ None → (last : ℕ) → IsUsedUp told last → ⊥) → is_refusal (line.Answer caller r) ≡ false
  done_line caller by act (reply.Done place) a full = refl
  done_line caller by act (reply.Ticked ticked) a full = refl
  done_line caller by act (reply.Backwards point clock) a full = refl
  done_line caller by act (reply.Barred number limit) a full = refl
  done_line caller by act (reply.Got point held) a full = refl
  done_line caller by act (reply.Scanned point pairs) a full = refl
  done_line caller by act (reply.Counted point stat) a full = refl
  done_line caller by act (reply.Pinned point number limit) a full = refl
  done_line caller by act (reply.PinGot number point held) a full = refl
  done_line caller by act (reply.PinScanned number point pairs) a full = refl
  done_line caller by act (reply.Unpinned point number) a full = refl
  done_line caller by act (reply.Fault place before after) a full = absurd (fault_of by place before after (call_of act) a)
  done_line caller by act (reply.Stopped at) a full = absurd (no_fault at a.1.before a.1.after a.1.fails)
  done_line caller by act (reply.Exhausted last) a full = absurd (full refl last a.1)
  done_line caller by act reply.ReadFault a full = absurd (ports a.1)
  done_line caller by act (reply.Damaged page) a full = absurd a

  -- so many lines have a place
  abbrev placed : List Line → ℕ
  placed lines = length (filter_map place_of lines)

  -- where places and numbers are used up only behind as many places as lines, none is a refusal
  done_lines : (orders : List Order) (lines : List Line) → Answered told orders lines → (placed lines < length lines → (last : ℕ) → IsUsedUp told last → ⊥) → list_any is_refusal lines ≡ false
  done_lines [] [] a full = refl
  done_lines [] (l ∷ lines) a full = absurd a
  done_lines (order ∷ orders) [] a full = absurd a
  done_lines (order ∷ orders) (line.Answer caller r ∷ lines) a full =
      let most = filter_map_len place_of lines in
      let first = done_line caller order.caller order.act r a.1 (λ none. full (let size = placed_none (line.Answer caller r) lines none in omega (arith, most, size))) in
      let rest = done_lines orders lines a.2 (λ fewer. full (let size = placed_most (line.Answer caller r) lines in omega (arith, fewer, size))) in
      ap (λ b. b || list_any is_refusal lines) first ∙ rest

-- a phase in which no count rose has no refusal, and takes no more places than it has orders
phase_done : (c : Course) → (Rose c.before c.now → ⊥) → (c.PortsFail → ⊥) → (most : ℕ) → most ≤ max_place → ((n : ℕ) → n ≤ most → IsShort n c → ⊥) → (start h : History) (orders : List Order) (lines turned : List Line)
    → length start + length orders ≤ most → IsServed c start orders lines turned h → (list_any is_refusal lines ≡ false) × (length h ≤ length start + length orders)
phase_done c calm ports most room enough start h orders lines turned few served =
    let told : Told = record { history = h; course = c } in
    let many = answered_len told (printed orders) lines served.answered in
    let fit = printed_len orders in
    let places = placed_len start h lines served.once in
    let begins = ap length served.begins.1 ∙ length-append start served.begins.0 in
    let size = filter_map_len place_of lines in (
      done_lines told calm ports (printed orders) lines served.answered
          (λ fewer last used. elim used.1 [
            | inl full ↦ let all = used.0 in omega (arith, full, room, fewer, many, fit, places, begins, few)
            | inr short ↦ enough (length h) (omega (arith, fewer, many, fit, places, begins, few)) short
          ]),
      omega (arith, many, fit, places, begins, size),
    )

phases_done : (c : Course) → (Rose c.before c.now → ⊥) → (c.PortsFail → ⊥) → (most : ℕ) → most ≤ max_place → ((n : ℕ) → n ≤ most → IsShort n c → ⊥) → (start h : History) (phases : List (List Order)) (lines turned : List (List Line))
    → length start + sum_by (λ orders. length orders) phases ≤ most → AreServed c start phases lines turned h → has_refusal lines ≡ false
phases_done c calm ports most room enough start h [] [] [] few served = refl
phases_done c calm ports most room enough start h [] [] (t ∷ turned) few served = absurd served
phases_done c calm ports most room enough start h [] (l ∷ lines) turned few served = absurd served
phases_done c calm ports most room enough start h (p ∷ phases) [] turned few served = absurd served
phases_done c calm ports most room enough start h (p ∷ phases) (l ∷ lines) [] few served = absurd served
phases_done c calm ports most room enough start h (p ∷ phases) (l ∷ lines) (t ∷ turned) few served =
    let size = sum_by-cons (λ (orders : List Order). length orders) p phases in
    let first = phase_done c calm ports most room enough start served.0 p l t (omega (arith, few, size)) served.1 in
    let upto = first.1 in
    ap (λ b. b || has_refusal lines) first.0 ∙ phases_done c calm ports most room enough served.0 h phases lines turned (omega (arith, few, size, upto)) served.2

opened_short : (left : History) (change : Option Change) (opened : History) → IsHistoryOr left change opened → length opened ≤ length left + 1
opened_short left None opened is = let same = ap length is in omega (arith, same)
opened_short left (Some change) opened (inl is) = let same = ap length is in omega (arith, same)
opened_short left (Some change) opened (inr is) = let same = ap length is ∙ length_push left (as_done change) in omega (arith, same)

pub true_false : (b : Bool) → b ≡ true → b ≡ false → ⊥
true_false true a b = cc
true_false false a b = cc

pub no_refusal : (run : Run) (config kept : Fields) (phases : List (List Order)) (lines turned : List (List Line)) (left : History) (change : Option Change) → (Rose run.faults_before run.faults → ⊥) → (run.PortsFail → ⊥)
    → (next : ℕ) → next + (run.finish.moment - run.start.moment) + most_of_a_change + most_numbers (length left + 1 + sum_by (λ orders. length orders) phases) < max_place
    → length left + 1 + sum_by (λ orders. length orders) phases ≤ max_place
    → has_refusal lines ≡ true → IsCarriedOut config (course_of run config next) run.start run.finish kept left change phases lines turned → ⊥
no_refusal run config kept phases lines turned left change calm ports next few room refused c =
    let short = opened_short left change c.opened c.either in
    true_false (has_refusal lines) refused (phases_done (course_of run config next) calm ports (length left + 1 + sum_by (λ orders. length orders) phases) room (λ n within none. omega (arith, within, none, few)) c.opened c.history phases lines turned (omega (arith, short)) c.served)

-- Why a store that was left for a history wasn't opened

module _ (run : Run) (config kept : Fields) (left : History) (change : Option Change) (told : run.Tells) (is : IsLeft kept run.start left change) (calm : Rose run.faults_before run.faults → ⊥)
    (same : (other : Fields) → HasOtherConfig config run.start.directory other → ⊥) (numbers : IsExhausted run.start.directory → ⊥) where
  pub must_open : (why : OpenWhy) → MayNotOpen run.Tells config run.start.directory run.faults_before run.faults why → (why ≡ open_why.NoMemory → ⊥) → ⊥
  must_open (open_why.Damaged name) may memory = kept_undamaged kept is.now.0 run.start.directory is.now.2 config name (may told)
  must_open (open_why.OtherConfig other) may memory = same other (may told)
  must_open (open_why.Fault before after) may memory = calm may.2
  must_open (open_why.Exhausted last) may memory = numbers (may.1 told)
  must_open open_why.NoMemory may memory = memory refl
