-- What a session has made of a list so far, turn by turn.
use Rattle.std.proofs.Common.{◌≡◌, ◌≤◌, inl, inr, zero, suc, ℕ, ◌+◌, List, [], ◌∷◌, ◌++◌, length, map, Option, Some, None, Result, Ok, Err, true, false, refl, sym, ap, ◌∙◌, subst, arith, append-nil, append_assoc}
use Rattle.std.specs.Prelude.{All, IfSome, is_some, option_map, zip}
use Rattle.std.specs.List.{range_with_len}
use Rattle.std.specs.Result.{result_err}
use Rattle.std.proofs.lemmas.List.{length-append, map-append}
use Rattle.std.proofs.lemmas.List.Elements.{All-append, All-cons, All-nil}
use Rattle.lethe_base.specs.declared.refused.Refused.{Refused}
use Rattle.lethe_base.specs.declared.refused.Refused.TheVariants.{Fault, Stopped, Backwards, Pinned, NothingDue, Cancelled, Exhausted, ReadFault, NoMemory, Damaged}
use Rattle.lethe_core.specs.Asked.{Failure, Makes, failure_of}
use Rattle.lethe_engine.specs.Asked.{Asked}
use Rattle.lethe_engine.specs.ChangeRows.{call_of}
use Rattle.lethe_turn.specs.Lists.{IsBeginning, placed}
use Rattle.lethe_turn.specs.Seats.{count_of}
use Rattle.lethe_turn.specs.declared.view.View.{View}
use Rattle.lethe_store.specs.declared.entry.Entry.{Entry}
use Rattle.lethe_store.specs.declared.entry.Mark.{Mark}
use Rattle.lethe_store.specs.Diary.{spent_by}
use Rattle.lethe_store.specs.Entries.{entries_by, stopped_behind}
use Rattle.lethe_store.specs.Laws.{stays_stopped}
use Rattle.lethe_store.specs.Reasons.{AreLater, HasReasonOfChange, IsStoppedAt, PortCounts}
use Rattle.lethe_store.specs.Rows.{HasMadeAll, HasMadeRow, HasReasonOfList, InTurns, IsEndedAs, changes_in, failed_entries, made_entries, made_entry, most_in_row, places_told, told_entries}
use Rattle.lethe_store.specs.Sessions.{HasDone}
use Rattle.lethe_store.specs.StoreViews.{StoreView}
use Rattle.lethe_store.proofs.Behind.{Knows}
use Rattle.lethe_store.proofs.Rows.{counts_made}

-- Lists

changes-append : (a b : List (List Asked)) → changes_in (a ++ b) ≡ changes_in a ++ changes_in b
changes-append [] b = refl
changes-append (turn ∷ a) b = ap (λ l. turn ++ l) (changes-append a b) ∙ sym (append_assoc turn (changes_in a) (changes_in b))

changes_more : (turns : List (List Asked)) (turn : List Asked) → changes_in (turns ++ turn ∷ []) ≡ changes_in turns ++ turn
changes_more turns turn = changes-append turns (turn ∷ []) ∙ ap (λ l. changes_in turns ++ l) (append-nil turn)

made-append : (caller : ℕ) (a b : List Asked) → made_entries caller (a ++ b) ≡ made_entries caller a ++ made_entries caller b
made-append caller a b = map-append (made_entry caller) a b

zip-append : {X Y : Type 0} (a b : List X) (c d : List Y) → length a ≡ length c → zip (a ++ b) (c ++ d) ≡ zip a c ++ zip b d
zip-append [] b [] d same = refl
zip-append [] b (y ∷ c) d same = cc
zip-append (x ∷ a) b [] d same = cc
zip-append (x ∷ a) b (y ∷ c) d same = ap (λ l. (x, y) ∷ l) (zip-append a b c d (let e : length a ≡ length c = omega (arith, same) in e))

placed-append : {X : Type 0} (first : ℕ) (a b : List X) → placed first (a ++ b) ≡ placed first a ++ placed (first + length a) b
placed-append first [] b = ap (λ n. placed n b) (let e : first ≡ first + 0 = omega arith in e)
placed-append first (x ∷ a) b = ap (λ l. (first, x) ∷ l) (placed-append (first + 1) a b ∙ ap (λ n. placed (first + 1) a ++ placed n b) (let e : first + 1 + length a ≡ first + length (x ∷ a) = omega arith in e))

placed_zip : {X : Type 0} (first : ℕ) (a : List X) → placed first a ≡ zip (range_with_len first (length a)) a
placed_zip first [] = refl
placed_zip first (x ∷ a) = ap (λ l. (first, x) ∷ l) (placed_zip (first + 1) a)

length_range : (first n : ℕ) → length (range_with_len first n) ≡ n
length_range first zero = refl
length_range first (suc n) = ap suc (length_range (first + 1) n)

pub range_more : (first n : ℕ) → range_with_len first (n + 1) ≡ range_with_len first n ++ (first + n) ∷ []
range_more first zero = ap (λ k. k ∷ []) (let same : first ≡ first + 0 = omega arith in same)
range_more first (suc n) =
    ap (range_with_len first) (let same : suc n + 1 ≡ suc (n + 1) = omega arith in same)
    ∙ ap (λ l. first ∷ l) (range_more (first + 1) n ∙ ap (λ k. range_with_len (first + 1) n ++ k ∷ []) (let same : first + 1 + n ≡ first + suc n = omega arith in same))

module _ {V : Type 0} where
  turns_more : (turns : List (List Entry)) (turn : List Entry) (v w u : Knows V) → InTurns turns v w → HasDone turn [] w u → InTurns (turns ++ turn ∷ []) v u
  turns_more [] turn v w u are done = (u, subst (λ x. HasDone turn [] x u) are done, refl)
  turns_more (first ∷ turns) turn v w u are done = (are.0, are.1, turns_more turns turn are.0 w u are.2 done)

  -- behind turns it has seen as much or more
  turns_later : (turns : List (List Entry)) (v w : Knows V) → InTurns turns v w → IsBeginning v.seen w.seen × (w.opened ≡ v.opened) × (w.start ≡ v.start)
  turns_later [] v w are = (([], append-nil v.seen ∙ sym (ap (λ u. u.seen) are)), ap (λ u. u.opened) are, ap (λ u. u.start) are)
  turns_later (turn ∷ turns) v w are =
      let rest = turns_later turns are.0 w are.2 in let seen = are.1.seen in (
        (
          seen.1.0 ++ turn ++ rest.0.0,
          sym (append_assoc v.seen (seen.1.0 ++ turn) rest.0.0 ∙ refl) ∙ ap (λ l. l ++ rest.0.0) (sym (append_assoc v.seen seen.1.0 turn) ∙ ap (λ l. l ++ turn) seen.1.1 ∙ sym seen.2) ∙ rest.0.1,
        ),
        rest.1 ∙ are.1.opened,
        rest.2 ∙ are.1.start,
      )

  -- These places are answered by now, and these changes are waiting.
  pub record IsListed (caller : ℕ) (asked : List Asked) (places : List ℕ) (waiting : List Asked) (v w : Knows V) : Type 0 where
    pub turns : List (List Asked)
    pub are : asked ≡ changes_in turns ++ waiting
    pub short : All (λ turn. length turn ≤ most_in_row) turns
    pub before : InTurns (map (made_entries caller) turns) v w
    pub many : length places ≡ length (changes_in turns)
    pub mine : w.mine ≡ v.mine ++ zip places (made_entries caller (changes_in turns))

  pub none_listed : (caller : ℕ) (asked : List Asked) (v : Knows V) → IsListed caller asked [] asked v v
  none_listed caller asked v = record {
    turns = [];
    are = refl;
    short = All-nil (λ turn. length turn ≤ most_in_row);
    before = refl;
    many = refl;
    mine = sym (append-nil v.mine);
  }

  pub same_listed : (caller : ℕ) (asked : List Asked) (places : List ℕ) (waiting other : List Asked) (v w : Knows V) → waiting ≡ other → IsListed caller asked places waiting v w → IsListed caller asked places other v w
  same_listed caller asked places waiting other v w same listed = subst (λ l. IsListed caller asked places l v w) same listed

  module _ (caller : ℕ) (asked : List Asked) (places : List ℕ) (waiting : List Asked) (v w : Knows V) (listed : IsListed caller asked places waiting v w) where
    -- a place that stopped it before still does
    pub still_stopped : (see : V → StoreView) (at : ℕ) → IsStoppedAt see v at → IsStoppedAt see w at
    still_stopped see at stopped =
        let later = turns_later (map (made_entries caller) listed.turns) v w listed.before in
        λ o op. ap (stopped_behind (see o).view.state.stopped (see o).view.state.count) (sym later.0.1)
        ∙ stays_stopped (see o).view.state.stopped (see o).view.state.count at v.seen later.0.0 (stopped o (sym later.1 ∙ op))

    -- with one turn more, of the first ones of those that are waiting
    pub one_listed : (turn rest : List Asked) (u : Knows V) → waiting ≡ turn ++ rest → length turn ≤ most_in_row → HasDone (made_entries caller turn) [] w u → (added : List ℕ) → length added ≡ length turn
        → u.mine ≡ w.mine ++ zip added (made_entries caller turn) → IsListed caller asked (places ++ added) rest v u
    one_listed turn rest u same few done added count mine = record {
      turns = listed.turns ++ turn ∷ [];
      are = listed.are ∙ ap (λ l. changes_in listed.turns ++ l) same ∙ sym (append_assoc (changes_in listed.turns) turn rest) ∙ ap (λ l. l ++ rest) (sym (changes_more listed.turns turn));
      short = All-append (λ l. length l ≤ most_in_row) listed.turns (turn ∷ []) listed.short (All-cons (λ l. length l ≤ most_in_row) turn [] few (All-nil (λ l. length l ≤ most_in_row)));
      before = subst (λ l. InTurns l v u) (sym (map-append (made_entries caller) listed.turns (turn ∷ []))) (turns_more (map (made_entries caller) listed.turns) (made_entries caller turn) v w u listed.before done);
      many = length-append places added ∙ (λ i. listed.many i + count i) ∙ sym (length-append (changes_in listed.turns) turn) ∙ ap length (sym (changes_more listed.turns turn));
      mine = mine ∙ ap (λ l. l ++ zip added (made_entries caller turn)) listed.mine ∙ append_assoc v.mine (zip places (made_entries caller (changes_in listed.turns))) (zip added (made_entries caller turn))
          ∙ ap (λ l. v.mine ++ l) (sym (zip-append places added (made_entries caller (changes_in listed.turns)) (made_entries caller turn) (listed.many ∙ sym (counts_made caller (changes_in listed.turns))))
          ∙ ap (zip (places ++ added)) (sym (made-append caller (changes_in listed.turns) turn) ∙ ap (made_entries caller) (sym (changes_more listed.turns turn))));
    }

    -- or ended in a turn
    pub ended_in_turn : (last rest : List Asked) (refused : Option Refused) (u : Knows V) → waiting ≡ last ++ rest → length last ≤ most_in_row
        → HasDone (made_entries caller last ++ failed_entries caller refused rest) (spent_by refused) w u → IsEndedAs refused rest → (added : List ℕ) → length added ≡ length last
        → u.mine ≡ w.mine ++ (zip added (made_entries caller last) ++ told_entries caller refused rest) → HasMadeAll caller asked (places ++ added) refused v u
    ended_in_turn last rest refused u same few done ends added count mine =
        let all = changes_in listed.turns in
        record {
          turns = listed.turns;
          last = last;
          rest = rest;
          are = listed.are ∙ ap (λ l. all ++ l) same ∙ sym (append_assoc all last rest);
          short = (listed.short, few);
          between = w;
          before = listed.before;
          behind = done;
          ends = ends;
          many = length-append places added ∙ (λ i. listed.many i + count i) ∙ sym (length-append all last);
          mine = mine ∙ ap (λ l. l ++ (zip added (made_entries caller last) ++ told_entries caller refused rest)) listed.mine
              ∙ append_assoc v.mine (zip places (made_entries caller all)) (zip added (made_entries caller last) ++ told_entries caller refused rest)
              ∙ ap (λ l. v.mine ++ l) (sym (append_assoc (zip places (made_entries caller all)) (zip added (made_entries caller last)) (told_entries caller refused rest))
              ∙ ap (λ l. l ++ told_entries caller refused rest) (sym (zip-append places added (made_entries caller all) (made_entries caller last) (listed.many ∙ sym (counts_made caller all))) ∙ ap (zip (places ++ added)) (sym (made-append caller all last))))
              ∙ sym (append_assoc v.mine (zip (places ++ added) (made_entries caller (all ++ last))) (told_entries caller refused rest));
        }

    -- or ended without one
    pub ended_here : (refused : Option Refused) → spent_by refused ≡ [] → failed_entries caller refused waiting ≡ [] → told_entries caller refused waiting ≡ [] → IsEndedAs refused waiting → HasMadeAll caller asked places refused v w
    ended_here refused unspent unfailed untold ends =
        subst (λ l. HasMadeAll caller asked l refused v w) (append-nil places)
        (ended_in_turn [] waiting refused w refl (let z : 0 ≤ 256 = omega arith in z) (subst (λ l. HasDone l (spent_by refused) w w) (sym unfailed) (subst (λ l. HasDone [] l w w) (sym unspent) nothing_done)) ends [] refl
        (sym (ap (λ l. w.mine ++ l) untold ∙ append-nil w.mine)))
      where
        nothing_done : HasDone {E = Entry} {M = Mark} [] [] w w
        nothing_done = record {
          seen = (w.seen, ([], append-nil w.seen), sym (append-nil w.seen));
          noted_is = (w.noted, ([], append-nil w.noted), sym (append-nil w.noted));
          mine = sym (append-nil w.mine);
          marks = sym (append-nil w.marks);
          parts = refl;
          opened = refl;
          start = refl;
        }

-- The failed entry, at its place

failed-front : (caller : ℕ) (refused : Option Refused) (rest behind : List Asked) → IsEndedAs refused rest → failed_entries caller refused (rest ++ behind) ≡ failed_entries caller refused rest
failed-front caller None rest behind ends = refl
failed-front caller (Some why) rest behind ends = ap (λ l. failed_entries caller (Some why) (l ++ behind)) ends.2 ∙ sym (ap (failed_entries caller (Some why)) ends.2)

-- a failure tells the place of its entry, where it is told so
pub told_at : {V : Type 0} (caller : ℕ) (Tells PortsFail : Type 0) (see : V → StoreView) (x : Knows V) (before now : PortCounts) (next : Asked) (more : List Asked) (why : Refused) (place : ℕ)
    → HasReasonOfChange Tells PortsFail see x before now why → ((failure : Failure) → failure_of why ≡ Some failure → count_of x ≡ place)
    → placed place (failed_entries caller (Some why) (next ∷ more)) ≡ told_entries caller (Some why) (next ∷ more)
told_at caller Tells PortsFail see x before now next more (Fault told told_before told_now) place reason here =
    ap (λ n. placed n (failed_entries caller (Some (Fault told told_before told_now)) (next ∷ more))) (sym (here (record { place = told; before = told_before; after = told_now }) refl) ∙ sym reason.0)
told_at caller Tells PortsFail see x before now next more (Stopped at) place reason here = refl
told_at caller Tells PortsFail see x before now next more (Backwards clock) place reason here = refl
told_at caller Tells PortsFail see x before now next more (Pinned pin limit) place reason here = refl
told_at caller Tells PortsFail see x before now next more NothingDue place reason here = refl
told_at caller Tells PortsFail see x before now next more (Cancelled begun other) place reason here = refl
told_at caller Tells PortsFail see x before now next more (Exhausted last) place reason here = refl
told_at caller Tells PortsFail see x before now next more (ReadFault told_before told_now) place reason here = refl
told_at caller Tells PortsFail see x before now next more NoMemory place reason here = refl
told_at caller Tells PortsFail see x before now next more (Damaged name) place reason here = refl

-- where the disk failed one entry is that of the failure
one_failed : (caller : ℕ) (next : Asked) (more : List Asked) (why : Refused) (failure : Failure) → failure_of why ≡ Some failure → length (failed_entries caller (Some why) (next ∷ more)) ≡ 1
one_failed caller next more (Fault told told_before told_now) failure is = refl
one_failed caller next more (Stopped at) failure is = cc
one_failed caller next more (Backwards clock) failure is = cc
one_failed caller next more (Pinned pin limit) failure is = cc
one_failed caller next more NothingDue failure is = cc
one_failed caller next more (Cancelled begun other) failure is = cc
one_failed caller next more (Exhausted last) failure is = cc
one_failed caller next more (ReadFault told_before told_now) failure is = cc
one_failed caller next more NoMemory failure is = cc
one_failed caller next more (Damaged name) failure is = cc

module _ {V : Type 0} (caller : ℕ) (asked : List Asked) (places : List ℕ) (row left : List Asked) (v w : Knows V) (listed : IsListed caller asked places (row ++ left) v w) where
  module _ (count done : ℕ) (behind : List Asked) (refused : Option Refused) (u : Knows V) (made : HasMadeRow caller row behind count done refused w u) (few : length row ≤ most_in_row) where
    few_made : length made.made ≤ most_in_row
    few_made = let n = ap length made.are ∙ length-append made.made made.rest in omega (arith, few, n)

    front : row ++ left ≡ made.made ++ (made.rest ++ left)
    front = ap (λ l. l ++ left) made.are ∙ append_assoc made.made made.rest left

    abbrev pub added : List ℕ
    added = range_with_len (count + 1) done

    many_added : length added ≡ length made.made
    many_added = length_range (count + 1) done ∙ sym made.many

    zipped : placed (w.start + length made.turn.seen.0 + 1) (made_entries caller made.made) ≡ zip added (made_entries caller made.made)
    zipped = ap (λ n. placed (n + 1) (made_entries caller made.made)) (sym made.counted) ∙ placed_zip (count + 1) (made_entries caller made.made)
        ∙ ap (λ n. zip (range_with_len (count + 1) n) (made_entries caller made.made)) (counts_made caller made.made ∙ made.many)

    -- a row that went on
    pub listed_by_row : refused ≡ None → IsListed caller asked (places ++ added) (behind ++ left) v u
    listed_by_row none =
        let entries : made_entries caller made.made ++ failed_entries caller refused made.rest ≡ made_entries caller made.made =
        ap (λ r. made_entries caller made.made ++ failed_entries caller r made.rest) none ∙ append-nil (made_entries caller made.made) in
        subst (λ l. IsListed caller asked (places ++ added) (l ++ left) v u) (sym (made.left_is none))
        (one_listed caller asked places (row ++ left) v w listed made.made (made.rest ++ left) u front few_made
        (subst (λ l. HasDone l [] w u) entries (subst (λ r. HasDone (made_entries caller made.made ++ failed_entries caller refused made.rest) (spent_by r) w u) none made.turn)) added many_added
        (made.turn.mine ∙ ap (λ l. w.mine ++ placed (w.start + length made.turn.seen.0 + 1) l) entries ∙ ap (λ l. w.mine ++ l) zipped))

    -- a row in which a change was refused
    pub ended_by_row : (Tells PortsFail : Type 0) (see : V → StoreView) (before now : PortCounts) (why : Refused) → refused ≡ Some why → HasReasonOfChange Tells PortsFail see u before now why
        → HasMadeAll caller asked (places ++ added) (Some why) v u
    ended_by_row Tells PortsFail see before now why is reason =
        let next = made.next why is in
        let turn : HasDone (made_entries caller made.made ++ failed_entries caller (Some why) made.rest) (spent_by (Some why)) w u = subst (λ r. HasDone (made_entries caller made.made ++ failed_entries caller r made.rest) (spent_by r) w u) is made.turn in
        let ends : IsEndedAs (Some why) made.rest = next in
        let same = failed-front caller (Some why) made.rest left ends in
        let whole : IsEndedAs (Some why) (made.rest ++ left) = (next.0, next.1 ++ left, ap (λ l. l ++ left) next.2) in
        let first = w.start + length made.turn.seen.0 + 1 in
        let l : (failure : Failure) → failure_of why ≡ Some failure → count_of u ≡ first + length (made_entries caller made.made) = λ failure fails.
        let one = ap (λ r. length (failed_entries caller (Some why) r)) next.2 ∙ one_failed caller next.0 next.1 why failure fails in
        let seen = ap length made.turn.seen.2 ∙ length-append made.turn.seen.0 (made_entries caller made.made ++ failed_entries caller refused made.rest) in
        let entries = ap (λ r. length (made_entries caller made.made ++ failed_entries caller r made.rest)) is ∙ length-append (made_entries caller made.made) (failed_entries caller (Some why) made.rest) in
        let start = made.turn.start in omega arith in
        let told : placed (first + length (made_entries caller made.made)) (failed_entries caller (Some why) made.rest) ≡ told_entries caller (Some why) (made.rest ++ left) =
        ap (λ r. placed (first + length (made_entries caller made.made)) (failed_entries caller (Some why) r)) next.2
        ∙ told_at caller Tells PortsFail see u before now next.0 next.1 why (first + length (made_entries caller made.made)) reason l
        ∙ sym (ap (λ r. told_entries caller (Some why) (r ++ left)) next.2) in
        ended_in_turn caller asked places (row ++ left) v w listed made.made (made.rest ++ left) (Some why) u front few_made
        (subst (λ l. HasDone (made_entries caller made.made ++ l) (spent_by (Some why)) w u) (sym same) turn) whole added many_added
        (made.turn.mine ∙ ap (λ r. w.mine ++ placed first (made_entries caller made.made ++ failed_entries caller r made.rest)) is
        ∙ ap (λ l. w.mine ++ l) (placed-append first (made_entries caller made.made) (failed_entries caller (Some why) made.rest) ∙ (λ i. zipped i ++ told i)))

-- The next change by itself

module _ {V : Type 0} (caller : ℕ) (asked : List Asked) (places : List ℕ) (change : Asked) (left : List Asked) (v w u : Knows V) (listed : IsListed caller asked places (change ∷ left) v w) where
  pub listed_by_change : (place : ℕ) → HasDone (entries_by caller (Makes (call_of change)) None) (spent_by None) w u → place ≡ count_of u → IsListed caller asked (places ++ place ∷ []) left v u
  listed_by_change place done here =
      let seen = ap length done.seen.2 ∙ length-append done.seen.0 (made_entries caller (change ∷ [])) in let start = done.start in
      one_listed caller asked places (change ∷ left) v w listed (change ∷ []) left u refl (let z : 1 ≤ 256 = omega arith in z) done (place ∷ []) refl
      (done.mine ∙ ap (λ n. w.mine ++ (n, made_entry caller change) ∷ []) (let e : w.start + length done.seen.0 + 1 ≡ place = omega (arith, seen, start, here) in e))

  pub ended_by_change : (Tells PortsFail : Type 0) (see : V → StoreView) (before now : PortCounts) (why : Refused) → HasDone (entries_by caller (Makes (call_of change)) (Some why)) (spent_by (Some why)) w u
      → HasReasonOfChange Tells PortsFail see u before now why → HasMadeAll caller asked places (Some why) v u
  ended_by_change Tells PortsFail see before now why done reason =
      let first = w.start + length done.seen.0 + 1 in
      let l : (failure : Failure) → failure_of why ≡ Some failure → count_of u ≡ first = λ failure fails.
      let one = one_failed caller change left why failure fails in
      let seen = ap length done.seen.2 ∙ length-append done.seen.0 (failed_entries caller (Some why) (change ∷ left)) in let start = done.start in omega arith in
      subst (λ p. HasMadeAll caller asked p (Some why) v u) (append-nil places)
      (ended_in_turn caller asked places (change ∷ left) v w listed [] (change ∷ left) (Some why) u refl (let z : 0 ≤ 256 = omega arith in z) done (change, left, refl) [] refl
      (done.mine ∙ ap (λ l. w.mine ++ l) (told_at caller Tells PortsFail see u before now change left why first reason l)))

-- the reason of the first one that wasn't made, by the port's counts since the first
pub reason_listed : {V : Type 0} (Tells PortsFail : Type 0) (see : V → StoreView) (x : Knows V) (before from now : PortCounts) (refused : Option Refused) → AreLater before from
    → IfSome refused (HasReasonOfChange Tells PortsFail see x from now) → IfSome refused (HasReasonOfList Tells PortsFail see x before now)
reason_listed Tells PortsFail see x before from now None later reason = tt
reason_listed Tells PortsFail see x before from now (Some why) later reason = record { from = from; since = later; reason = reason }

pub later_then : (a b c : PortCounts) → AreLater a b → AreLater b c → AreLater a c
later_then a b c first second = (let x = first.0 in let y = second.0 in omega arith, let x = first.1 in let y = second.1 in omega arith)

-- what has one has a first one
pub has_first : (a : List Asked) (change : Asked) (b l : List Asked) → a ++ change ∷ b ≡ l → (next : Asked) × (more : List Asked) × (l ≡ next ∷ more)
has_first [] change b l is = (change, b, sym is)
has_first (first ∷ a) change b l is = (first, a ++ change ∷ b, sym is)

pub none_is : (refused : Option Refused) → is_some refused ≡ false → refused ≡ None
none_is None is = refl
none_is (Some why) is = cc

module _ {V : Type 0} (caller : ℕ) (asked : List Asked) (places : List ℕ) (row left : List Asked) (v w : Knows V) (listed : IsListed caller asked places (row ++ left) v w) where
  pub ended_if : (count done : ℕ) (behind : List Asked) (refused : Option Refused) (u : Knows V) → HasMadeRow caller row behind count done refused w u → length row ≤ most_in_row → is_some refused ≡ true
      → (Tells PortsFail : Type 0) (see : V → StoreView) (before now : PortCounts) → IfSome refused (HasReasonOfChange Tells PortsFail see u before now) → HasMadeAll caller asked (places ++ range_with_len (count + 1) done) refused v u
  ended_if count done behind None u made few some Tells PortsFail see before now reason = cc
  ended_if count done behind (Some why) u made few some Tells PortsFail see before now reason = ended_by_row caller asked places row left v w listed count done behind (Some why) u made few Tells PortsFail see before now why refl reason

-- what is left behind a row is less by what it made
pub left_listed : {V : Type 0} (caller : ℕ) (row behind left : List Asked) (count done : ℕ) (v w : Knows V) → HasMadeRow caller row behind count done None v w → length (behind ++ left) + done ≡ length (row ++ left)
left_listed caller row behind left count done v w made =
    let n = ap length made.are ∙ length-append made.made made.rest in let m = made.many in let l = length-append row left in let k = length-append behind left in let b = ap length (made.left_is refl) in omega arith

-- Where the list was waiting for memory

pub ended_waiting : {V : Type 0} (caller : ℕ) (asked : List Asked) (places : List ℕ) (waiting : List Asked) (v w : Knows V) → IsListed caller asked places waiting v w → (next : Asked) × (more : List Asked) × (waiting ≡ next ∷ more)
    → HasMadeAll caller asked places (Some NoMemory) v w
ended_waiting caller asked places waiting v w listed next =
    ended_here caller asked places waiting v w listed (Some NoMemory) refl (ap (failed_entries caller (Some NoMemory)) next.2) refl next

-- and where none was waiting any more
pub ended_whole : {V : Type 0} (caller : ℕ) (asked : List Asked) (places : List ℕ) (waiting : List Asked) (v w : Knows V) → IsListed caller asked places waiting v w → waiting ≡ [] → HasMadeAll caller asked places None v w
ended_whole caller asked places waiting v w listed none = ended_here caller asked places waiting v w listed None refl refl refl none

pub nothing_made : {V : Type 0} (caller : ℕ) (asked : List Asked) (v : Knows V) → (next : Asked) × (more : List Asked) × (asked ≡ next ∷ more) → HasMadeAll caller asked [] (Some NoMemory) v v
nothing_made caller asked v next = ended_waiting caller asked [] asked v v (none_listed caller asked v) next

pub few_behind : {V : Type 0} (caller : ℕ) (row behind : List Asked) (count done : ℕ) (v w : Knows V) → HasMadeRow caller row behind count done None v w → length row ≤ most_in_row → length behind ≤ most_in_row
few_behind caller row behind count done v w made few = let n = ap length made.are ∙ length-append made.made made.rest in let b = ap length (made.left_is refl) in omega (arith, n, b, few)

pub no_both : (place at : ℕ) (r : Result ℕ Refused) → r ≡ Ok place → r ≡ Err (Stopped at) → ⊥
no_both place at (Ok p) is fails = cc
no_both place at (Err why) is fails = cc

pub same_why : (why : Refused) (at : ℕ) (r : Result ℕ Refused) → r ≡ Err why → r ≡ Err (Stopped at) → why ≡ Stopped at
same_why why at (Ok place) is fails = cc
same_why why at (Err other) is fails = ap (why_in why) (sym is ∙ fails)
  where
    why_in : Refused → Result ℕ Refused → Refused
    why_in d (Ok place) = d
    why_in d (Err e) = e

pub no_items : (l : List Asked) → length l ≡ 0 → l ≡ []
no_items [] none = refl
no_items (change ∷ l) none = cc

pub some_items : (l : List Asked) → (length l ≡ 0 → ⊥) → (next : Asked) × (more : List Asked) × (l ≡ next ∷ more)
some_items [] some = absurd (some refl)
some_items (change ∷ l) some = (change, l, refl)
