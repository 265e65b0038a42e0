-- A script's lines, one after another.
use Rattle.std.proofs.Common.{◌≡◌, inl, inr, ℕ, ◌-◌, ◌≤◌, List, [], ◌∷◌, ◌++◌, length, Option, Some, None, IsSomeAnd, refl, sym, ap, ◌∙◌, subst, arith, append_assoc, append-nil}
use Rattle.std.specs.Prelude.{All, IfSome, IsPermutation}
use Rattle.std.specs.List.{cons_option}
use Rattle.std.proofs.lemmas.List.Sorted.{IsPermutation-refl}
use Rattle.std.proofs.lemmas.List.{length-append, take-append-le}
use Rattle.std.proofs.lemmas.List.Elements.{All-append, All-cons, All-nil, All-weaker, filter_map-append}
use Rattle.lethe_base.specs.declared.call.Call.{Call}
use Rattle.lethe_base.specs.declared.config.Fields.{Fields}
use Rattle.lethe_base.specs.History.{History, IsLegal, after}
use Rattle.lethe_base.specs.Read.{Read, Answer, answer}
use Rattle.lethe_base.specs.Read as answers
use Rattle.lethe_base.proofs.Histories.{change_at-append}
use Rattle.lethe_engine.specs.Reads.{listed}
use Rattle.lethe_engine.specs.declared.telling.Stat.{Stat}
use Rattle.lethe_engine.specs.declared.ticking.Ticked as engine
use Rattle.lethe_cert.specs.declared.certificate.Certificate.{Certificate}
use Rattle.lethe_core.specs.View.{View}
use Rattle.lethe_stored.specs.Kept.{IsFor, certificates}
use Rattle.lethe_stored.specs.Left.{without_failed}
use Rattle.lethe_script.specs.declared.order.Order.{Order}
use Rattle.lethe_script.specs.declared.order.Act.{Act}
use Rattle.lethe_run.specs.declared.reply.Line.{Line}
use Rattle.lethe_run.specs.declared.reply.Line.TheVariants as line
use Rattle.lethe_run.specs.declared.reply.Reply.{Reply}
use Rattle.lethe_run.specs.declared.reply.Reply.TheVariants.{Done, Ticked, Got, Scanned, Counted, Pinned, PinGot, PinScanned, Unpinned, Fault, Stopped, Exhausted, Backwards, Barred, ReadFault, Damaged}
use Rattle.lethe_run.specs.Carried.{IsSeen, Look, certificate_in, certificate_of, certificates_in, look_of, looked_in, looks_in}
use Rattle.lethe_run.specs.Serving.{Advances, IsBorneOn, IsOn, IsAnswered, IsPhase, IsServedInTurn, Point}
use Rattle.lethe_run.proofs.Images.{still}
use Rattle.lethe_disk.proofs.Continuing.{continues_then}
use Rattle.lethe_run.proofs.Lasting.{within}
use Rattle.lethe_run.proofs.Outcomes.{told_of}
use Rattle.lethe_run.proofs.Seen.{all_seen_later}
use Rattle.lethe_run.proofs.Turns.{places_in_turn, sees_in_turn}
use Rattle.lethe_run.specs.Transcript.{Course, Start, Told, IsShort, course, call_of, change_of, read_of, slot_read_of, IsAhead, IsDoneAt, IsAnswerAt, IsPinAt, IsStatAt, IsTickAt, IsFailedAt, IsFaultOf, Answers, Answered, places_behind, is_of, Follows, InTurn, IsServed, AreServed, printed}

-- What a line says of a history it says of a longer one, and when the count of faults rises, unless the places were used up: then nothing follows.

answer_before : (h more : History) (point : ℕ) (read : Read) (given : Answer) → IsAnswerAt h point read given → IsAnswerAt (h ++ more) point read given
answer_before h more point read given a = record {
  within = omega (arith, a.within, length-append h more);
  is = a.is ∙ ap (λ l. answer (after l) read) (sym (take-append-le point h more a.within));
}

done_before : (h more : History) (caller place : ℕ) (asked : Option Call) → IsSomeAnd asked (IsDoneAt h caller place) → IsSomeAnd asked (IsDoneAt (h ++ more) caller place)
done_before h more caller place None a = absurd a
done_before h more caller place (Some call) a = change_at-append h more place _ a

read_before : (h more : History) (point : ℕ) (given : Answer) (asked : Option Read) → IsSomeAnd asked (λ read. IsAnswerAt h point read given)
    → IsSomeAnd asked (λ read. IsAnswerAt (h ++ more) point read given)
read_before h more point given None a = absurd a
read_before h more point given (Some read) a = answer_before h more point read given a

-- whatever else is known of the run
stat_before : (h more : History) (one other : Course) (point : ℕ) (stat : Stat) → one.config ≡ other.config → IsStatAt (told_of h one) point stat → IsStatAt (told_of (h ++ more) other) point stat
stat_before h more one other point stat same a =
    let front = sym (take-append-le point h more a.within) in
    record {
      within = omega (arith, a.within, length-append h more);
      clock = a.clock ∙ ap (λ l. (after l).clock) front;
      stored = a.stored;
      config_is = a.config_is ∙ same;
      coherent = a.coherent;
      stands = subst (λ l. IsFor (without_failed l) a.stored) front a.stands;
      shape = a.shape;
    }

pin_before : (h more : History) (one other : Course) (point limit : ℕ) → one.config ≡ other.config → IsPinAt (told_of h one) point limit → IsPinAt (told_of (h ++ more) other) point limit
pin_before h more one other point limit same a =
    let clock = ap (λ (l : History). (after l).clock) (take-append-le point h more a.within) in
    let threshold = ap (λ (fields : Fields). fields.threshold) same in
    record {
      within = omega (arith, a.within, length-append h more);
      above = let above = a.above in omega (arith, above, clock);
      near = let near = a.near in omega (arith, near, clock, threshold);
    }

-- numbers that ran out have run out when more device calls and changes were made
short_later : (Ports : Type 0) (begin : Start) (f0 f1 m0 m1 n m : ℕ) → m0 ≤ m1 → n ≤ m → IsShort n (course Ports begin f0 m0) → IsShort m (course Ports begin f1 m1)
short_later Ports begin f0 f1 m0 m1 n m le more few = omega (arith, few, le, more)

module _ (h more : History) (legal : IsLegal (h ++ more)) (Ports : Type 0) (begin : Start) (f0 f1 m0 m1 : ℕ) (le : f0 ≤ f1) (on : m0 ≤ m1) where
  abbrev First : Course
  First = course Ports begin f0 m0

  abbrev Last : Course
  Last = course Ports begin f1 m1

  abbrev failed_before : (place b a : ℕ) → IsFailedAt (told_of h First) place b a → IsFailedAt (told_of (h ++ more) Last) place b a
  failed_before place b a f = record {
    change = f.change;
    is = change_at-append h more place f.change f.is;
    failed = f.failed;
    rose = f.rose;
    from = f.from;
    upto = let upto = f.upto in omega (arith, upto, le);
  }

  fault_before : (caller place b a : ℕ) (asked : Option Call) → IsSomeAnd asked (IsFaultOf (told_of h First) caller place b a) → IsSomeAnd asked (IsFaultOf (told_of (h ++ more) Last) caller place b a)
  fault_before caller place b a None f = absurd f
  fault_before caller place b a (Some call) f = record { fails = failed_before place b a f.fails; who = f.who; what = f.what }

  abbrev tick_before : (caller to : ℕ) (ticked : engine.Ticked) → IsTickAt (told_of h First) caller to ticked → IsTickAt (told_of (h ++ more) Last) caller to ticked
  tick_before caller to ticked a = record {
    clock = a.clock;
    done = change_at-append h more ticked.place _ a.done;
    due = a.due;
    number = subst (λ l. IfSome ticked.certificate (λ certificate. certificate.number ≡ certificates begin.config.threshold l)) (sym (take-append-le ticked.place h more (within h ticked.place _ a.done))) a.number;
  }

  abbrev ahead_before : (point clock to : ℕ) → IsAhead (told_of h First) point clock to → IsAhead (told_of (h ++ more) Last) point clock to
  ahead_before point clock to a = record {
    within = omega (arith, a.within, length-append h more);
    is = a.is ∙ ap (λ l. (after l).clock) (sym (take-append-le point h more a.within));
    ahead = a.ahead;
  }

  answers_before : (caller : ℕ) (act : Act) (reply : Reply) → Answers (told_of h First) caller act reply → Answers (told_of (h ++ more) Last) caller act reply
  answers_before caller act (Done place) a = done_before h more caller place (change_of act) a
  answers_before caller act (Ticked ticked) a = (a.0, a.1, tick_before caller a.0 ticked a.2)
  answers_before caller act (Backwards point clock) a = (a.0, a.1, ahead_before point clock a.0 a.2)
  answers_before caller act (Barred number limit) a = a
  answers_before caller act (Got point held) a = read_before h more point (answers.Found held) (read_of act) a
  answers_before caller act (Scanned point pairs) a = read_before h more point (listed pairs) (read_of act) a
  answers_before caller act (Counted point stat) a = (a.0, stat_before h more First Last point stat refl a.1)
  answers_before caller act (Pinned point number limit) a = (a.0, pin_before h more First Last point limit refl a.1)
  answers_before caller act (PinGot number point held) a = read_before h more point (answers.Found held) (slot_read_of act) a
  answers_before caller act (PinScanned number point pairs) a = read_before h more point (listed pairs) (slot_read_of act) a
  answers_before caller act (Unpinned point number) a = (a.0, let within = a.1 in omega (arith, within, length-append h more))
  answers_before caller act (Fault place b a) f = fault_before caller place b a (call_of act) f
  answers_before caller act (Stopped at) a = (a.0, record { before = a.1.before; after = a.1.after; fails = failed_before at a.1.before a.1.after a.1.fails })
  answers_before caller act (Exhausted last) a = (
    a.0,
    (
      a.1.0,
      elim a.1.1 [
        | inl all ↦ inl (let few = legal.few in omega (arith, few, all, length-append h more))
        | inr few ↦ inr (short_later Ports begin f0 f1 m0 m1 (length h) (length (h ++ more)) on (omega (arith, length-append h more)) few)
      ],
    ),
  )
  answers_before caller act ReadFault a = a
  answers_before caller act (Damaged page) a = absurd a

  pub answered_before : (orders : List Order) (lines : List Line) → Answered (told_of h First) orders lines → Answered (told_of (h ++ more) Last) orders lines
  answered_before [] [] a = tt
  answered_before [] (line ∷ lines) a = absurd a
  answered_before (order ∷ orders) [] a = absurd a
  answered_before (order ∷ orders) (line.Answer caller reply ∷ lines) a = (a.0, answers_before order.caller order.act reply a.1, answered_before orders lines a.2)

-- one order more, and its line
answered_more : (told : Told) (orders : List Order) (lines : List Line) (order : Order) (reply : Reply) → Answered told orders lines
    → Answers told order.caller order.act reply → Answered told (orders ++ order ∷ []) (lines ++ line.Answer order.caller reply ∷ [])
answered_more told [] [] order reply a what = (refl, what, tt)
answered_more told [] (l ∷ lines) order reply a what = absurd a
answered_more told (o ∷ orders) [] order reply a what = absurd a
answered_more told (o ∷ orders) (line.Answer caller r ∷ lines) order reply a what = (a.0, a.1, answered_more told orders lines order reply a.2 what)

in_turn_more : (c : Course) (n : ℕ) (lines : List Line) (m k caller : ℕ) (reply : Reply) → InTurn c n lines m → Follows c m reply k → InTurn c n (lines ++ line.Answer caller reply ∷ []) k
in_turn_more c n [] m k caller reply t f = (k, subst (λ n. Follows c n reply k) t f, refl)
in_turn_more c n (line.Answer other r ∷ lines) m k caller reply t f = (t.0, t.1, in_turn_more c t.0 lines m k caller reply t.2 f)

-- lines in turn stay so
module _ (Ports : Type 0) (begin : Start) (f0 f1 m0 m1 : ℕ) (on : m0 ≤ m1) where
  follows_later : (n m : ℕ) (reply : Reply) → Follows (course Ports begin f0 m0) n reply m → Follows (course Ports begin f1 m1) n reply m
  follows_later n m (Done place) f = f
  follows_later n m (Ticked ticked) f = f
  follows_later n m (Backwards point clock) f = f
  follows_later n m (Barred number limit) f = f
  follows_later n m (Got point held) f = f
  follows_later n m (Scanned point pairs) f = f
  follows_later n m (Counted point stat) f = f
  follows_later n m (Pinned point number limit) f = f
  follows_later n m (PinGot number point held) f = f
  follows_later n m (PinScanned number point pairs) f = f
  follows_later n m (Unpinned point number) f = f
  follows_later n m (Fault place b a) f = f
  follows_later n m (Stopped at) f = f
  follows_later n m (Exhausted last) f = (elim f.0 [ inl all ↦ inl all | inr few ↦ inr (short_later Ports begin f0 f1 m0 m1 n n on (omega arith) few) ], f.1)
  follows_later n m ReadFault f = f
  follows_later n m (Damaged page) f = f

  pub in_turn_later : (n m : ℕ) (lines : List Line) → InTurn (course Ports begin f0 m0) n lines m → InTurn (course Ports begin f1 m1) n lines m
  in_turn_later n m [] t = t
  in_turn_later n m (line.Answer caller reply ∷ lines) t = (t.0, follows_later n t.0 reply t.1, in_turn_later t.0 m lines t.2)

-- one after another
pub advances_then : (begin : Start) (f g h : History) (old mid new : View) → Advances begin f g old mid → Advances begin g h mid new → Advances begin f h old new
advances_then begin f g h old mid new first second = record { calls = continues_then old.disk mid.disk new.disk first.calls second.calls; stands = λ from on. second.stands from (first.stands from on) }

-- what a certificate says stays so
borne_later : (begin : Start) (h g : History) (old new : View) → Advances begin h g old new → (told : ℕ × Certificate) → IsBorneOn begin h old told → IsBorneOn begin g new told
borne_later begin h g old new goes told is = record {
  point = is.point;
  place = is.place;
  on = goes.stands is.point is.on;
  each = λ c left. is.each c ((goes.calls.past is.point.moment c is.on.stands.later).0 left);
}

pub all_borne_later : (begin : Start) (h g : History) (old new : View) → Advances begin h g old new → (told : List (ℕ × Certificate)) → All (IsBorneOn begin h old) told → All (IsBorneOn begin g new) told
all_borne_later begin h g old new goes = All-weaker (IsBorneOn begin h old) (IsBorneOn begin g new) (borne_later begin h g old new goes)

-- one line more
one_borne : (P : ℕ × Certificate → Type 0) (caller : ℕ) (reply : Reply) (told : Option (ℕ × Certificate)) → certificate_in reply ≡ told → IfSome told P → All P (certificates_in (line.Answer caller reply ∷ []))
one_borne P caller reply None is borne = subst (λ o. All P (cons_option o [])) (sym is) (All-nil P)
one_borne P caller reply (Some told) is borne = subst (λ o. All P (cons_option o [])) (sym is) (All-cons P told [] borne (All-nil P))

borne_more : (P : ℕ × Certificate → Type 0) (lines : List Line) (caller : ℕ) (reply : Reply) → All P (certificates_in lines) → IfSome (certificate_in reply) P → All P (certificates_in (lines ++ line.Answer caller reply ∷ []))
borne_more P lines caller reply all borne =
    subst (All P) (sym (filter_map-append certificate_of lines (line.Answer caller reply ∷ [])))
    (All-append P (certificates_in lines) (certificates_in (line.Answer caller reply ∷ [])) all (one_borne P caller reply (certificate_in reply) refl borne))

one_look : (P : ℕ × Look → Type 0) (caller : ℕ) (reply : Reply) (told : Option (ℕ × Look)) → looked_in reply ≡ told → IfSome told P → All P (looks_in (line.Answer caller reply ∷ []))
one_look P caller reply None is seen = subst (λ o. All P (cons_option o [])) (sym is) (All-nil P)
one_look P caller reply (Some told) is seen = subst (λ o. All P (cons_option o [])) (sym is) (All-cons P told [] seen (All-nil P))

look_more : (P : ℕ × Look → Type 0) (lines : List Line) (caller : ℕ) (reply : Reply) → All P (looks_in lines) → IfSome (looked_in reply) P → All P (looks_in (lines ++ line.Answer caller reply ∷ []))
look_more P lines caller reply all seen =
    subst (All P) (sym (filter_map-append look_of lines (line.Answer caller reply ∷ [])))
    (All-append P (looks_in lines) (looks_in (line.Answer caller reply ∷ [])) all (one_look P caller reply (looked_in reply) refl seen))

-- the lines so far
pub record IsBuilt (Ports : Type 0) (begin : Start) (start : History) (orders : List Order) (lines : List Line) (h : History) (old now : View) : Type 0 where
  pub begins : (added : History) × (h ≡ start ++ added)
  pub answered : Answered (told_of h (course Ports begin now.faults now.disk.moment)) orders lines
  pub alone : InTurn (course Ports begin now.faults now.disk.moment) (length start) lines (length h)
  pub certified : All (IsBorneOn begin h now) (certificates_in lines)
  pub seen : All (IsSeen begin.config begin.moment h now.disk) (looks_in lines)
  pub goes : Advances begin start h old now

module _ (Ports : Type 0) (begin : Start) (from : Point) (start h : History) (orders : List Order) (lines : List Line) (old now then : View) (le : now.faults ≤ then.faults)
    (on : IsOn begin from start old) (built : IsBuilt Ports begin start orders lines h old now) where
  abbrev Then : Course
  Then = course Ports begin then.faults then.disk.moment

  pub built_more : (g : History) (order : Order) (reply : Reply) → IsAnswered Ports begin h g order.caller order.act reply now then
      → IsBuilt Ports begin start (orders ++ order ∷ []) (lines ++ line.Answer order.caller reply ∷ []) g old then
  built_more g order reply is =
      let more = is.grows.0 in
      let whole = is.grows.1 in
      let legal = (is.goes.stands from (built.goes.stands from on)).stands.now.legal in
      let on = is.goes.calls.later in
      record {
        begins = (built.begins.0 ++ more, whole ∙ ap (λ l. l ++ more) built.begins.1 ∙ append_assoc start built.begins.0 more);
        answered = answered_more (told_of g Then) orders lines order reply
            (subst (λ x. Answered (told_of x Then) orders lines) (sym whole) (answered_before h more (subst IsLegal whole legal) Ports begin now.faults then.faults now.disk.moment then.disk.moment le on orders lines built.answered)) is.answers;
        alone = in_turn_more Then (length start) lines (length h) (length g) order.caller reply (in_turn_later Ports begin now.faults then.faults now.disk.moment then.disk.moment on (length start) (length h) lines built.alone) is.follows;
        certified = borne_more (IsBorneOn begin g then) lines order.caller reply (all_borne_later begin h g now then is.goes (certificates_in lines) built.certified) is.certified;
        seen = look_more (IsSeen begin.config begin.moment g then.disk) lines order.caller reply (all_seen_later begin.config begin.moment h g is.grows now.disk then.disk is.goes.calls (looks_in lines) built.seen) is.seen;
        goes = advances_then begin start h g old now then built.goes is.goes;
      }

  -- the same when nothing was answered
  pub built_still : Advances begin h h now then → IsBuilt Ports begin start orders lines h old then
  built_still goes =
      let legal = (built.goes.stands from on).stands.now.legal in
      let on = goes.calls.later in
      record {
        begins = built.begins;
        answered = subst (λ x. Answered (told_of x Then) orders lines) (append-nil h) (answered_before h [] (subst IsLegal (sym (append-nil h)) legal) Ports begin now.faults then.faults now.disk.moment then.disk.moment le on orders lines built.answered);
        alone = in_turn_later Ports begin now.faults then.faults now.disk.moment then.disk.moment on (length start) (length h) lines built.alone;
        certified = all_borne_later begin h h now then goes (certificates_in lines) built.certified;
        seen = all_seen_later begin.config begin.moment h h ([], sym (append-nil h)) now.disk then.disk goes.calls (looks_in lines) built.seen;
        goes = advances_then begin start h h old now then built.goes goes;
      }

-- the lines of a whole phase
pub phase_of : (Ports : Type 0) (begin : Start) (from : Point) (start h : History) (orders : List Order) (lines : List Line) (old now : View) → IsOn begin from start old → IsBuilt Ports begin start orders lines h old now
    → IsPhase Ports begin start h orders lines old now
phase_of Ports begin from start h orders lines old now on built = record {
  served = record {
    begins = built.begins;
    legal = (built.goes.stands from on).stands.now.legal;
    answered = built.answered;
    once = subst (λ l. IsPermutation (places_behind (length start) (length h - length start)) l) (sym (places_in_turn (course Ports begin now.faults now.disk.moment) (length start) (length h) lines built.alone)) (IsPermutation-refl (places_behind (length start) (length h - length start)));
    seen = λ caller. sees_in_turn (course Ports begin now.faults now.disk.moment) (is_of caller) (length start) (length start) (length h) lines (omega arith) built.alone;
    alone = built.alone;
  };
  certified = built.certified;
  seen = built.seen;
  goes = built.goes;
}

pub built_start : (Ports : Type 0) (begin : Start) (start : History) (view : View) → IsBuilt Ports begin start [] [] start view view
built_start Ports begin start view = record { begins = ([], sym (append-nil start)); answered = tt; alone = refl; certified = All-nil (IsBorneOn begin start view); seen = All-nil (IsSeen begin.config begin.moment start view.disk); goes = still begin start view }

-- the same when the counts have risen

module _ (Ports : Type 0) (begin : Start) (f0 f1 m0 m1 : ℕ) (le : f0 ≤ f1) (on : m0 ≤ m1) where
  phase_later : (start h : History) (orders : List Order) (lines turned : List Line) → IsServed (course Ports begin f0 m0) start orders lines turned h → IsServed (course Ports begin f1 m1) start orders lines turned h
  phase_later start h orders lines turned served = record {
    begins = served.begins;
    legal = served.legal;
    answered = subst (λ x. Answered (told_of x (course Ports begin f1 m1)) (printed orders) lines) (append-nil h)
        (answered_before h [] (subst IsLegal (sym (append-nil h)) served.legal) Ports begin f0 f1 m0 m1 le on (printed orders) lines served.answered);
    once = served.once;
    seen = served.seen;
    order = served.order;
    turns = in_turn_later Ports begin f0 f1 m0 m1 on (length start) (length h) turned served.turns;
  }

  pub served_later : (start h : History) (phases : List (List Order)) (lines turned : List (List Line)) → AreServed (course Ports begin f0 m0) start phases lines turned h → AreServed (course Ports begin f1 m1) start phases lines turned h
  served_later start h [] [] [] served = served
  served_later start h [] [] (t ∷ turned) served = absurd served
  served_later start h [] (l ∷ lines) turned served = absurd served
  served_later start h (p ∷ phases) [] turned served = absurd served
  served_later start h (p ∷ phases) (l ∷ lines) [] served = absurd served
  served_later start h (p ∷ phases) (l ∷ lines) (t ∷ turned) served = (served.0, phase_later start served.0 p l t served.1, served_later served.0 h phases lines turned served.2)

-- orders that are answered one after another, as they are printed
pub served_printed : (c : Course) (start h : History) (orders part : List Order) (lines : List Line) → part ≡ printed orders → IsServedInTurn c start part lines h → IsServed c start orders lines lines h
served_printed c start h orders part lines is served = record {
  begins = served.begins;
  legal = served.legal;
  answered = subst (λ part. Answered (told_of h c) part lines) is served.answered;
  once = served.once;
  seen = served.seen;
  order = λ caller. refl;
  turns = served.alone;
}
