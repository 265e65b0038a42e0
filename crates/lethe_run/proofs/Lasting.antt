-- What a later crash can't lose: the changes of a phase that were answered with `ok`.
use Rattle.std.proofs.Common.{◌≡◌, ◌⊎◌, ◌≤◌, ◌<◌, inl, inr, ℕ, zero, suc, Bool, true, false, not, cond, List, [], ◌∷◌, ◌++◌, length, Option, Some, None, IsSomeAnd, refl, sym, ap, ◌∙◌, subst, append_assoc, append-nil, arith}
use Rattle.std.specs.Prelude.{All, filter, filter_map}
use Rattle.std.proofs.lemmas.List.{length-append, length-map}
use Rattle.std.proofs.lemmas.List.Elements.{All-append, All-cons, All-nil, All-weaker}
use Rattle.lethe_base.specs.History.{History, Change, change_at, AreDone}
use Rattle.lethe_base.specs.declared.call.Call.{Call}
use Rattle.lethe_base.specs.declared.call.Call.TheVariants as call
use Rattle.lethe_base.specs.declared.call.Did.TheVariants.{Done, Failed}
use Rattle.lethe_base.proofs.Histories.{change_at-append, change_at-push, change_at_cases}
use Rattle.lethe_disk.specs.Directory.{Directory}
use Rattle.lethe_disk.specs.Disk.{Image}
use Rattle.lethe_stored.specs.Kept.{IsKept}
use Rattle.lethe_stored.specs.Left.{IsOutcome, as_done, is_done, is_work, without_failed}
use Rattle.lethe_core.specs.StandsNow.{IsOpenOrStopped}
use Rattle.lethe_core.specs.View.{View}
use Rattle.lethe_core.proofs.Histories.{all_done, last_failed}
use Rattle.lethe_engine.specs.StandsFor.{HasCounts, IsKeptFor, IsPrefixFrom}
use Rattle.lethe_engine.proofs.Prefixes.{prefix_failed, prefix_itself, prefix_longer}
use Rattle.lethe_script.specs.declared.order.Order.{Order}
use Rattle.lethe_run.specs.declared.reply.Line.{Line}
use Rattle.lethe_run.specs.declared.reply.Line.TheVariants as line
use Rattle.lethe_run.specs.declared.reply.Reply.TheVariants as reply
use Rattle.lethe_run.specs.declared.reply.Reply.{Reply}
use Rattle.lethe_run.specs.Carried.{AreLasting, HasDone, IsLasting, IsUnbegun}
use Rattle.lethe_run.specs.Serving.{Advances, IsOn, Point}
use Rattle.lethe_run.specs.Transcript.{Course, Start, Told, Answered, Follows, InTurn, IsDoneAt, change_of, ok_place}
use Rattle.lethe_run.proofs.Histories.{same_last, split_last}
use Rattle.lethe_run.proofs.Images.{kept_open, retried_cases, stopped_added}
use Rattle.lethe_run.proofs.Turns.{follows_up}

-- Places

pub within : (h : History) (place : ℕ) (change : Change) → change_at h place ≡ Some change → place ≤ length h
within h zero change is = omega arith
within [] (suc before) change is = absurd (let clash : None ≡ Some change = is in cc)
within (x ∷ h) (suc zero) change is = omega arith
within (x ∷ h) (suc (suc before)) change is = let rest = within h (suc before) change is in omega (arith, rest)

-- what stands in a history stands there when more follows, and nothing else
front_same : (h more : History) (place : ℕ) → place ≤ length h → change_at (h ++ more) place ≡ change_at h place
front_same h more zero few = refl
front_same [] more (suc before) few = absurd (omega (arith, few))
front_same (x ∷ h) more (suc zero) few = refl
front_same (x ∷ h) more (suc (suc before)) few = front_same h more (suc before) (omega (arith, few))

-- The places of the changes that lines answer with `ok`

module _ (told : Told) (most : ℕ) (bound : (caller place : ℕ) (call : Call) → IsDoneAt told.history caller place call → place ≤ most) where
  asked_within : (caller place : ℕ) (asked : Option Call) → IsSomeAnd asked (IsDoneAt told.history caller place) → place ≤ most
  asked_within caller place None is = absurd is
  asked_within caller place (Some call) is = bound caller place call is

  pub done_within : (orders : List Order) (lines : List Line) → Answered told orders lines → All (λ place. place ≤ most) (filter_map ok_place lines)
  done_within [] [] a = All-nil (λ place. place ≤ most)
  done_within [] (l ∷ lines) a = absurd a
  done_within (order ∷ orders) [] a = absurd a
  done_within (order ∷ orders) (line.Answer caller (reply.Done place) ∷ lines) a = All-cons (λ place. place ≤ most) place (filter_map ok_place lines) (asked_within order.caller place (change_of order.act) a.1) (done_within orders lines a.2)
  done_within (order ∷ orders) (line.Answer caller (reply.Ticked ticked) ∷ lines) a =
      All-cons (λ place. place ≤ most) ticked.place (filter_map ok_place lines) (bound order.caller ticked.place (call.Tick a.1.0) a.1.2.done) (done_within orders lines a.2)
  done_within (order ∷ orders) (line.Answer caller (reply.Backwards point clock) ∷ lines) a = done_within orders lines a.2
  done_within (order ∷ orders) (line.Answer caller (reply.Barred number limit) ∷ lines) a = done_within orders lines a.2
  done_within (order ∷ orders) (line.Answer caller (reply.Got point held) ∷ lines) a = done_within orders lines a.2
  done_within (order ∷ orders) (line.Answer caller (reply.Scanned point pairs) ∷ lines) a = done_within orders lines a.2
  done_within (order ∷ orders) (line.Answer caller (reply.Counted point stat) ∷ lines) a = done_within orders lines a.2
  done_within (order ∷ orders) (line.Answer caller (reply.Pinned point number limit) ∷ lines) a = done_within orders lines a.2
  done_within (order ∷ orders) (line.Answer caller (reply.PinGot number point held) ∷ lines) a = done_within orders lines a.2
  done_within (order ∷ orders) (line.Answer caller (reply.PinScanned number point pairs) ∷ lines) a = done_within orders lines a.2
  done_within (order ∷ orders) (line.Answer caller (reply.Unpinned point number) ∷ lines) a = done_within orders lines a.2
  done_within (order ∷ orders) (line.Answer caller (reply.Fault place before after) ∷ lines) a = done_within orders lines a.2
  done_within (order ∷ orders) (line.Answer caller (reply.Stopped at) ∷ lines) a = done_within orders lines a.2
  done_within (order ∷ orders) (line.Answer caller (reply.Exhausted last) ∷ lines) a = done_within orders lines a.2
  done_within (order ∷ orders) (line.Answer caller reply.ReadFault ∷ lines) a = done_within orders lines a.2
  done_within (order ∷ orders) (line.Answer caller (reply.Damaged page) ∷ lines) a = absurd a.1

-- A store seen from now on

module _ (begin : Start) (from : Point) (h : History) (view : View) (on : IsOn begin from h view) where
  -- without what failed, its history goes on from the one before
  begins_by : (stopped : Option ℕ) → IsOpenOrStopped begin.config view h on.stands.now.stored stopped → (more : History) × (without_failed h ≡ from.history ++ more)
  begins_by None now = (on.stands.begins.0, all_done h now.0 ∙ on.stands.begins.1)
  begins_by (Some at) now =
      let more = (stopped_added begin from h view on at now).0 in
      (more.0, ap without_failed now.history ∙ last_failed now.before now.change now.faults_before now.faults now.done now.failed ∙ more.1)

  pub begins_now : (more : History) × (without_failed h ≡ from.history ++ more)
  begins_now = begins_by view.state.stopped on.stands.now.held

  -- a change that is done isn't the one that failed
  bound_by : (stopped : Option ℕ) → IsOpenOrStopped begin.config view h on.stands.now.stored stopped → (caller place : ℕ) (call : Call) → IsDoneAt h caller place call → place ≤ length (without_failed h)
  bound_by None now caller place call is =
      let all = ap length (all_done h now.0) in
      let in_it = within h place (record { caller = caller; call = call; did = Done }) is in
      omega (arith, all, in_it)
  bound_by (Some at) now caller place call is =
      let rest = ap length (ap without_failed now.history ∙ last_failed now.before now.change now.faults_before now.faults now.done now.failed) in
      elim (change_at_cases now.before now.change (record { caller = caller; call = call; did = Done }) place (sym (ap (λ x. change_at x place) now.history) ∙ is)) [
        | inl old ↦ let few = old.0 in omega (arith, few, rest)
        | inr last ↦ absurd (let clash : Done ≡ Failed now.faults_before now.faults = ap (λ (c : Change). c.did) last.1 ∙ now.failed in cc)
      ]

  pub bound_now : (caller place : ℕ) (call : Call) → IsDoneAt h caller place call → place ≤ length (without_failed h)
  bound_now = bound_by view.state.stopped on.stands.now.held

  -- each crash now has what didn't fail
  image_by : (stopped : Option ℕ) → IsOpenOrStopped begin.config view h on.stands.now.stored stopped → (d : Directory) → Image view.disk d → IsKeptFor begin.config (without_failed h) h d
  image_by None now d here =
      let same : without_failed h ≡ h = all_done h now.0 in
      subst (λ g. IsKeptFor begin.config g h d) (sym same) (h, prefix_itself h h now.0 ([], sym (append-nil h)), kept_open begin.config h view on.stands.now now.0 now.1 d here)
  image_by (Some at) now d here =
      let same : without_failed h ≡ now.before = ap without_failed now.history ∙ last_failed now.before now.change now.faults_before now.faults now.done now.failed in
      let kept = now.left.images d here in
      let itself = prefix_itself now.before now.before now.done ([], sym (append-nil now.before)) in
      let whole : IsKeptFor begin.config now.before (now.before ++ now.change ∷ []) d = elim (retried_cases now.before kept.0 now.change kept.1) [
        | inl old ↦ (now.before, prefix_longer now.before now.before (now.change ∷ []) now.legal now.done now.before itself, subst (IsKept begin.config d) old kept.2)
        | inr new ↦ (now.before ++ as_done now.change ∷ [], prefix_failed now.before now.before now.change now.legal now.done new.0 ([], sym (append-nil now.before)), subst (IsKept begin.config d) new.1 kept.2)
      ] in
      subst (λ g. IsKeptFor begin.config g h d) (sym same) (subst (λ g. IsKeptFor begin.config now.before g d) (sym now.history) whole)

  done_by_now : (stopped : Option ℕ) → IsOpenOrStopped begin.config view h on.stands.now.stored stopped → AreDone (without_failed h)
  done_by_now None now = subst AreDone (sym (all_done h now.0)) now.0
  done_by_now (Some at) now = subst AreDone (sym (ap without_failed now.history ∙ last_failed now.before now.change now.faults_before now.faults now.done now.failed)) now.done

  -- what was added to it is the change that failed, if one did
  added_by : (stopped : Option ℕ) → IsOpenOrStopped begin.config view h on.stands.now.stored stopped → (added : History) × (h ≡ without_failed h ++ added) × All (λ (change : Change). HasCounts on.counted view.faults change.did) added
  added_by None now = ([], sym (all_done h now.0) ∙ sym (append-nil (without_failed h)), All-nil (λ (change : Change). HasCounts on.counted view.faults change.did))
  added_by (Some at) now =
      let same : without_failed h ≡ now.before = ap without_failed now.history ∙ last_failed now.before now.change now.faults_before now.faults now.done now.failed in
      let counts = (stopped_added begin from h view on at now).1 in (
        now.change ∷ [],
        now.history ∙ ap (λ l. l ++ now.change ∷ []) (sym same),
        All-cons (λ (change : Change). HasCounts on.counted view.faults change.did) now.change [] (subst (HasCounts on.counted view.faults) (sym now.failed) counts) (All-nil (λ (change : Change). HasCounts on.counted view.faults change.did)),
      )

  abbrev pub here : Point
  here = record { history = without_failed h; moment = view.disk.moment }

  pub seen_now : IsOn begin here h view
  seen_now =
      let held = on.stands.now.held in
      let added = added_by view.state.stopped held in
      let later = on.stands.later in
      record {
        done = done_by_now view.state.stopped held;
        counted = on.counted;
        stands = record {
          now = on.stands.now;
          pages = on.stands.pages;
          begins = (added.0, added.1);
          later = omega arith;
          images = λ m c low high left. image_by view.state.stopped held c (subst (λ n. view.disk.left n c) (omega (arith, low, high)) left);
          numbers = on.stands.numbers;
          pace = λ m c low high left. on.stands.pace m c (omega (arith, later, low)) high left;
          since = on.stands.since;
          counts = added.2;
        };
        faults_since = on.faults_since;
        moment_since = let since = on.moment_since in omega (arith, since, later);
      }

-- What a crash may make of a history is no longer than it
shorter : {X : Type 0} (p : X → Bool) (xs : List X) → length (filter p xs) ≤ length xs
shorter p [] = omega arith
shorter p (x ∷ xs) = by (p x) (shorter p xs)
  where
    by : (b : Bool) → length (filter p xs) ≤ length xs → length (cond b (x ∷ filter p xs) (filter p xs)) ≤ length (x ∷ xs)
    by true le = omega (arith, le)
    by false le = omega (arith, le)

outcome_short : (h outcome : History) → IsOutcome h outcome → length outcome ≤ length h
outcome_short h outcome (inl is) = let same = ap length is in omega (arith, same, shorter (λ (change : Change). is_done change.did) h)
outcome_short h outcome (inr is) =
    let same = ap length is in
    omega (arith, same, length-map (filter (λ (change : Change). not (is_work change.call)) h) as_done, shorter (λ (change : Change). not (is_work change.call)) h)

pub prefix_short : (opened h g : History) → IsPrefixFrom opened h g → length g ≤ length h
prefix_short opened h g of = let whole = ap length of.front.1 in omega (arith, whole, length-append g of.front.0, outcome_short h of.outcome of.is)

-- A prefix of what a crash may make of a history is one of what it goes on to: behind a change that failed nothing follows

clash_done : (before after : ℕ) → Failed before after ≡ Done → ⊥
clash_done before after e = cc

-- what stands before the last change stands in front of it
front_of_last : (front more before : History) (last : Change) → front ++ more ≡ before ++ last ∷ [] → (more ≡ []) ⊎ ((rest : History) × (before ≡ front ++ rest))
front_of_last front more before last is = elim (split_last more) [
  | inl none ↦ inl none
  | inr one ↦ inr (one.0, sym (same_last (front ++ one.0) before one.1 last (append_assoc front one.0 (one.1 ∷ []) ∙ ap (λ l. front ++ l) (sym one.2) ∙ is)).0)
]

-- nothing follows a change that failed in a history whose changes are done
no_failed : (before : History) (change : Change) (b a : ℕ) (rest h : History) → change.did ≡ Failed b a → AreDone h → h ≡ (before ++ change ∷ []) ++ rest → ⊥
no_failed before change b a rest h failed done is =
    let there : change_at h (suc (length before)) ≡ Some change =
    ap (λ l. change_at l (suc (length before))) is ∙ change_at-append (before ++ change ∷ []) rest (suc (length before)) change (change_at-push before change) in
    clash_done b a (sym failed ∙ done (suc (length before)) change there)

module _ (begin : Start) (from : Point) (h more : History) (old : View) (on : IsOn begin from h old) (new : View) (later : IsOn begin from (h ++ more) new) where
  last_by : (before : History) (change : Change) (b a : ℕ) → change.did ≡ Failed b a → h ≡ before ++ change ∷ [] → (stopped : Option ℕ) → IsOpenOrStopped begin.config new (h ++ more) later.stands.now.stored stopped → more ≡ []
  last_by before change b a failed is None now = absurd (no_failed before change b a more (h ++ more) failed now.0 (ap (λ l. l ++ more) is))
  last_by before change b a failed is (Some at) now = elim (front_of_last h more now.before now.change now.history) [
    | inl none ↦ none
    | inr rest ↦ absurd (no_failed before change b a rest.0 now.before failed now.done (rest.1 ∙ ap (λ l. l ++ rest.0) is))
  ]

  later_by : (stopped : Option ℕ) → IsOpenOrStopped begin.config old h on.stands.now.stored stopped → (g : History) → IsPrefixFrom from.history h g → IsPrefixFrom from.history (h ++ more) g
  later_by None now g of = prefix_longer from.history h more on.stands.now.legal now.0 g of
  later_by (Some at) now g of =
      let none = last_by now.before now.change now.faults_before now.faults now.failed now.history new.state.stopped later.stands.now.held in
      subst (λ l. IsPrefixFrom from.history l g) (sym (append-nil h) ∙ ap (λ l. h ++ l) (sym none)) of

  pub prefix_later : (g : History) → IsPrefixFrom from.history h g → IsPrefixFrom from.history (h ++ more) g
  prefix_later = later_by old.state.stopped on.stands.now.held

-- The places of the changes that lines answer with `ok` come behind those before them

module _ (c : Course) where
  pub done_behind : (lines : List Line) (n m : ℕ) → InTurn c n lines m → All (λ place. n < place) (filter_map ok_place lines)
  done_behind [] n m t = All-nil (λ place. n < place)
  done_behind (line.Answer caller told ∷ lines) n m t = by told t.1 (follows_up c n t.0 told t.1) (done_behind lines t.0 m t.2)
    where
      weaker : (k : ℕ) → n ≤ k → All (λ place. k < place) (filter_map ok_place lines) → All (λ place. n < place) (filter_map ok_place lines)
      weaker k up = All-weaker (λ place. k < place) (λ place. n < place) (λ place below. omega (arith, up, below)) (filter_map ok_place lines)

      by : (r : Reply) → Follows c n r t.0 → n ≤ t.0 → All (λ place. t.0 < place) (filter_map ok_place lines) → All (λ place. n < place) (filter_map ok_place (line.Answer caller r ∷ lines))
      by (reply.Done place) f up rest = All-cons (λ place. n < place) place (filter_map ok_place lines) (let at = f.0 in omega (arith, at)) (weaker t.0 up rest)
      by (reply.Ticked ticked) f up rest = All-cons (λ place. n < place) ticked.place (filter_map ok_place lines) (let at = f.0 in omega (arith, at)) (weaker t.0 up rest)
      by (reply.Backwards point clock) f up rest = weaker t.0 up rest
      by (reply.Barred number limit) f up rest = weaker t.0 up rest
      by (reply.Got point held) f up rest = weaker t.0 up rest
      by (reply.Scanned point pairs) f up rest = weaker t.0 up rest
      by (reply.Counted point stat) f up rest = weaker t.0 up rest
      by (reply.Pinned point number limit) f up rest = weaker t.0 up rest
      by (reply.PinGot number point held) f up rest = weaker t.0 up rest
      by (reply.PinScanned number point pairs) f up rest = weaker t.0 up rest
      by (reply.Unpinned point number) f up rest = weaker t.0 up rest
      by (reply.Fault place before after) f up rest = weaker t.0 up rest
      by (reply.Stopped at) f up rest = weaker t.0 up rest
      by (reply.Exhausted last) f up rest = weaker t.0 up rest
      by reply.ReadFault f up rest = weaker t.0 up rest
      by (reply.Damaged page) f up rest = weaker t.0 up rest

-- The store stands for h, and since a moment of a run each crash has the changes that the lines answer with `ok`.
pub record Stays (begin : Start) (opened h : History) (view : View) (since : ℕ) (lines : List Line) : Type 0 where
  pub had : History
  pub begins : (more : History) × (had ≡ opened ++ more)
  pub on : IsOn begin (record { history = had; moment = since }) h view
  pub places : All (λ place. place ≤ length had) (filter_map ok_place lines)

stays_later : (begin : Start) (opened h g : History) (old new : View) (since : ℕ) (lines : List Line) → ((from : Point) → IsOn begin from h old → IsOn begin from g new) → Stays begin opened h old since lines → Stays begin opened g new since lines
stays_later begin opened h g old new since lines goes is = record { had = is.had; begins = is.begins; on = goes (record { history = is.had; moment = since }) is.on; places = is.places }

has_done : (h g point : History) (a b : History) (lines : List Line) → h ≡ point ++ a → g ≡ point ++ b → All (λ place. place ≤ length point) (filter_map ok_place lines) → HasDone h lines g
has_done h g point a b lines h_is g_is few = All-weaker (λ place. place ≤ length point) (λ place. change_at g place ≡ change_at h place)
    (λ place le. ap (λ l. change_at l place) g_is ∙ front_same point b place le ∙ sym (front_same point a place le) ∙ sym (ap (λ l. change_at l place) h_is)) (filter_map ok_place lines) few

stays_lasting : (begin : Start) (opened h : History) (view : View) (since : ℕ) (lines : List Line) → Stays begin opened h view since lines → IsLasting begin.config opened h view.disk since lines
stays_lasting begin opened h view since lines is = record {
  upto = is.on.stands.later;
  each = λ m c low high left.
      let kept = is.on.stands.images m c low high left in
      let g = kept.0 in
      let of = kept.1 in
      let more = of.begins.0 in (
        g,
        record {
          begins = (is.begins.0 ++ more, of.begins.1 ∙ ap (λ l. l ++ more) is.begins.1 ∙ append_assoc opened is.begins.0 more);
          outcome = of.outcome;
          is = of.is;
          front = of.front;
        },
        has_done h g is.had is.on.stands.begins.0 more lines is.on.stands.begins.1 of.begins.1 is.places,
        kept.2,
      );
}

-- Between these moments each crash leaves what is kept for a history of at most so many changes.
pub record IsWithin (begin : Start) (opened h : History) (view : View) (from upto most : ℕ) : Type 0 where
  pub each : (m : ℕ) (c : Directory) → from ≤ m → m ≤ upto → view.disk.left m c → (g : History) × IsPrefixFrom opened h g × (length g ≤ most) × IsKept begin.config c g

-- Phase after phase: its changes stay from a moment on, up to which no crash leaves more changes than there were at its end; those of later phases come behind them.
abbrev pub AreStaying : Start → History → History → View → ℕ → List (List Line) → Type 0
AreStaying begin opened h view from [] = from ≤ view.disk.moment
AreStaying begin opened h view from (lines ∷ more) =
    (since : ℕ) × (from ≤ since) × Stays begin opened h view since lines × (most : ℕ) × (most ≤ length h) × IsWithin begin opened h view from since most
    × All (λ ls. All (λ place. most < place) (filter_map ok_place ls)) more × AreStaying begin opened h view since more

abbrev AreBehind : ℕ → List Line → Type 0
AreBehind most lines = All (λ place. most < place) (filter_map ok_place lines)

-- one phase more
module _ (begin : Start) (from : Point) (h g : History) (old new : View) (on : IsOn begin from h old) (goes : Advances begin h g old new) (grows : (added : History) × (g ≡ h ++ added))
    (last : List Line) (behind : AreBehind (length h) last) (stays : Stays begin from.history g new new.disk.moment last) where
  within_later : (at upto most : ℕ) → upto ≤ old.disk.moment → IsWithin begin from.history h old at upto most → IsWithin begin from.history g new at upto most
  within_later at upto most past is = record {
    each = λ m c low high left.
        let kept = is.each m c low high ((goes.calls.past m c (omega (arith, high, past))).0 left) in
        let then = subst (λ l. IsOn begin from l new) grows.1 (goes.stands from on) in
        (kept.0, subst (λ l. IsPrefixFrom from.history l kept.0) (sym grows.1) (prefix_later begin from h grows.0 old on new then kept.0 kept.1), kept.2, kept.3);
  }

  within_now : (at : ℕ) → from.moment ≤ at → IsWithin begin from.history g new at new.disk.moment (length g)
  within_now at low_at = record {
    each = λ m c low high left.
        let kept = (goes.stands from on).stands.images m c (omega (arith, low, low_at)) high left in
        (kept.0, kept.1, prefix_short from.history g kept.0 kept.1, kept.2);
  }

  staying_more : (at : ℕ) → from.moment ≤ at → (lines : List (List Line)) → AreStaying begin from.history h old at lines → AreStaying begin from.history g new at (lines ++ last ∷ [])
  staying_more at low [] past =
      let later = goes.calls.later in
      (new.disk.moment, omega (arith, past, later), stays, length g, omega arith, within_now at low, All-nil (AreBehind (length g)), omega arith)
  staying_more at low (lines ∷ more) is =
      let since = is.0 in
      let most = is.3 in
      let up = is.1 in
      let few = is.4 in
      let longer = ap length grows.1 ∙ length-append h grows.0 in (
        since,
        is.1,
        stays_later begin from.history h g old new since lines goes.stands is.2,
        most,
        omega (arith, few, longer),
        within_later at since most is.2.on.stands.later is.5,
        All-append (AreBehind most) more (last ∷ []) is.6
            (All-cons (AreBehind most) last [] (All-weaker (λ place. length h < place) (λ place. most < place) (λ place below. omega (arith, below, few)) (filter_map ok_place last) behind) (All-nil (AreBehind most))),
        staying_more since (omega (arith, low, up)) more is.7,
      )

  pub staying_next : (lines : List (List Line)) → AreStaying begin from.history h old from.moment lines → AreStaying begin from.history g new from.moment (lines ++ last ∷ [])
  staying_next lines is = staying_more from.moment (omega arith) lines is

-- so they last at the end
pub staying_lasting : (begin : Start) (opened h : History) (view : View) (from : ℕ) (lines : List (List Line)) → AreStaying begin opened h view from lines → AreLasting begin.config opened h view.disk from lines
staying_lasting begin opened h view from [] is = tt
staying_lasting begin opened h view from (lines ∷ more) is = (
  is.0,
  is.1,
  stays_lasting begin opened h view is.0 lines is.2,
  All-weaker (AreBehind is.3) (IsUnbegun begin.config opened h view.disk from is.0) (λ ls behind. record {
    each = λ m c low high left.
        let kept = is.5.each m c low high left in
        let few = kept.2 in
        (kept.0, kept.1, All-weaker (λ place. is.3 < place) (λ place. length kept.0 < place) (λ place below. omega (arith, below, few)) (filter_map ok_place ls) behind, kept.3);
  }) more is.6,
  staying_lasting begin opened h view is.0 more is.7,
)
