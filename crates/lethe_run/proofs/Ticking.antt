-- A tick is answered.
use Rattle.std.proofs.Common.{◌≡◌, ◌⊎◌, inl, inr, ◌≤◌, ◌<◌, ℕ, suc, ◌+◌, List, [], ◌∷◌, length, take, Option, Some, None, Result, Ok, Err, refl, sym, ap, ◌∙◌, subst, arith}
use Rattle.std.specs.Prelude.{All, IfErr, IfOk, IfSome, IsErrOf, OnOk, nat_le, option_map}
use Rattle.std.specs.Result.{result_err}
use Rattle.std.proofs.lemmas.Bool.{cases_lt}
use Rattle.std.proofs.lemmas.List.{take_all}
use Rattle.std.proofs.lemmas.Option.{IfSome_then}
use Rattle.lethe_base.specs.History.{AreDone, Change, History, State, after, change_at}
use Rattle.lethe_base.specs.Limits.{max_place}
use Rattle.lethe_base.specs.declared.call.Call.{Call}
use Rattle.lethe_base.specs.declared.call.Call.TheVariants as calls
use Rattle.lethe_base.specs.declared.config.Fields.{Fields}
use Rattle.lethe_base.specs.declared.refused.Refused.{Refused}
use Rattle.lethe_base.specs.declared.refused.Refused.TheVariants as refused
use Rattle.lethe_base.proofs.Histories.{after-push, change_at-push}
use Rattle.lethe_build.specs.Built.{most_numbers}
use Rattle.lethe_cert.specs.declared.certificate.Certificate.{Certificate}
use Rattle.lethe_core.specs.Asked.{done_by}
use Rattle.lethe_core.specs.Merges.{IsShortToMergeBy, due_choice}
use Rattle.lethe_core.specs.Reasons.{HasReason, IsUnreadable}
use Rattle.lethe_core.specs.StandsNow.{IsOpenOrStopped, StandsNow}
use Rattle.lethe_core.specs.View.{Face, View}
use Rattle.lethe_core.proofs.Histories.{all_done}
use Rattle.lethe_core.proofs.Standing.{stands_for}
use Rattle.lethe_cover.specs.Steps.{with_done}
use Rattle.lethe_disk.specs.Directory.{Directory}
use Rattle.lethe_disk.specs.Disk.{IsSynced}
use Rattle.lethe_engine.specs.Certificates.{HasCommitted, IsTrueCertificate}
use Rattle.lethe_engine.specs.Ticks.{HasReasonOfTick, IsBarred, IsBehind, IsCertificateAt, IsShortToTick, IsTickable, ticked_face}
use Rattle.lethe_engine.specs.declared.ticking.Ticked.{Ticked}
use Rattle.lethe_engine.proofs.Clean.{now_clean}
use Rattle.lethe_manifest.specs.declared.manifest.Manifest.{Manifest}
use Rattle.lethe_pins.specs.Held.{AreHeld, first_limit_of}
use Rattle.lethe_script.specs.declared.order.Act.{Act}
use Rattle.lethe_script.specs.declared.order.Act.TheVariants as acts
use Rattle.lethe_state.specs.Clock.{Clock, clock_at, clock_of}
use Rattle.lethe_state.specs.Room.{frozen_len}
use Rattle.lethe_stored.specs.Clean.{IsClean}
use Rattle.lethe_stored.specs.Kept.{certificates}
use Rattle.lethe_stored.specs.Left.{without_failed}
use Rattle.lethe_run.specs.declared.reply.Reply.TheVariants as reply
use Rattle.lethe_run.specs.Anywhere.{IsCertificateOf, IsDrawn, standing_of}
use Rattle.lethe_run.specs.Replies.{IsOfTick, refusal_of, tick_refusal_of, tick_reply_of}
use Rattle.lethe_run.specs.Serving.{IsBorneOn, IsOn, Point}
use Rattle.lethe_run.specs.Pins.{pins_of}
use Rattle.lethe_run.specs.Transcript.{Course, IsShort, Start, course}
use Rattle.lethe_run.proofs.Anywhere.{Tells, ok_runs, stands_so}
use Rattle.lethe_run.proofs.Anywhere as anywhere
use Rattle.lethe_run.proofs.Lasting.{here, seen_now}
use Rattle.lethe_run.proofs.Outcomes.{Outcome}
use Rattle.lethe_run.proofs.Pins.{all_above, barred_by, passed_by}
use Rattle.lethe_run.proofs.Prepared.{certificate_by, prepared, where_so}
use Rattle.lethe_run.proofs.Shorts.{drawn_for_tick}
use Rattle.lethe_run.proofs.Steps.{Replied, Says, advances, hindered, longer, next_place, not_made, unreadable}

-- What doesn't fail

no_error : (ticked : Ticked) (why : Refused) → IsErrOf (Ok ticked) why → ⊥
no_error ticked why is = cc

not_below : (clock to : ℕ) → (to < clock → ⊥) → clock ≤ to
not_below clock to never = elim (cases_lt to clock) [ inl ahead ↦ absurd (never ahead) | inr not ↦ omega (arith, not) ]

above_of : (to limit : ℕ) → (limit ≤ to → ⊥) → to < limit
above_of to limit never = elim (cases_lt to limit) [ inl above ↦ above | inr not ↦ absurd (never (omega (arith, not))) ]

below_of : (n most : ℕ) → n ≤ most → (n ≡ most → ⊥) → n < most
below_of n most few never = elim (cases_lt n most) [ inl below ↦ below | inr not ↦ absurd (never (omega (arith, few, not))) ]

-- But for its own refusals, where its time is behind the clock or a pin bars it, a tick is refused as a change is

not_behind : (point : ℕ) (why : Refused) → ((clock : ℕ) → why ≡ refused.Backwards clock → ⊥) → ((pin limit : ℕ) → why ≡ refused.Pinned pin limit → ⊥) → refusal_of why ≡ tick_refusal_of point why
not_behind point (refused.Fault place before after) never free = refl
not_behind point (refused.Stopped at) never free = refl
not_behind point (refused.Exhausted last) never free = refl
not_behind point refused.NoMemory never free = refl
not_behind point (refused.Backwards clock) never free = absurd (never clock refl)
not_behind point (refused.Pinned pin limit) never free = absurd (free pin limit refl)
not_behind point refused.NothingDue never free = refl
not_behind point (refused.Cancelled begun now) never free = refl
not_behind point (refused.ReadFault before after) never free = refl
not_behind point (refused.Damaged name) never free = refl

module _ (point : ℕ) (why : Refused) where
  hindered_not_behind : (Short : Type 0) (old : View) (upto : ℕ) → HasReason Short old.state old.faults upto why → refusal_of why ≡ tick_refusal_of point why
  hindered_not_behind Short old upto reason = not_behind point why (λ clock is. subst (HasReason Short old.state old.faults upto) is reason) (λ pin limit is. subst (HasReason Short old.state old.faults upto) is reason)

  unreadable_not_behind : (Told Ports : Type 0) (before now : ℕ) → IsUnreadable Told Ports before now why → refusal_of why ≡ tick_refusal_of point why
  unreadable_not_behind Told Ports before now reason = not_behind point why (λ clock is. subst (IsUnreadable Told Ports before now) is reason) (λ pin limit is. subst (IsUnreadable Told Ports before now) is reason)

of_hindered : (Short : Type 0) (view : View) (upto : ℕ) (why : Refused) → HasReason Short view.state view.faults upto why → IsOfTick why
of_hindered Short view upto (refused.Fault place before after) reason = tt
of_hindered Short view upto (refused.Stopped at) reason = tt
of_hindered Short view upto (refused.Exhausted last) reason = tt
of_hindered Short view upto refused.NoMemory reason = tt
of_hindered Short view upto (refused.Backwards clock) reason = tt
of_hindered Short view upto (refused.Pinned pin limit) reason = absurd reason
of_hindered Short view upto refused.NothingDue reason = absurd reason
of_hindered Short view upto (refused.Cancelled begun other) reason = absurd reason
of_hindered Short view upto (refused.ReadFault before after) reason = tt
of_hindered Short view upto (refused.Damaged name) reason = tt

of_unreadable : (Told Ports : Type 0) (before now : ℕ) (why : Refused) → IsUnreadable Told Ports before now why → IsOfTick why
of_unreadable Told Ports before now (refused.Fault place b a) reason = tt
of_unreadable Told Ports before now (refused.Stopped at) reason = tt
of_unreadable Told Ports before now (refused.Exhausted last) reason = tt
of_unreadable Told Ports before now refused.NoMemory reason = tt
of_unreadable Told Ports before now (refused.Backwards clock) reason = tt
of_unreadable Told Ports before now (refused.Pinned pin limit) reason = absurd reason
of_unreadable Told Ports before now refused.NothingDue reason = absurd reason
of_unreadable Told Ports before now (refused.Cancelled begun other) reason = absurd reason
of_unreadable Told Ports before now (refused.ReadFault b a) reason = tt
of_unreadable Told Ports before now (refused.Damaged name) reason = tt

-- so what it is refused for is printed
pub of_tick : (Told Ports : Type 0) (to : ℕ) (old new : View) (before now : ℕ) (result : Result Ticked Refused) → IfErr result (HasReasonOfTick Told Ports to old new before now) → IfErr result IsOfTick
of_tick Told Ports to old new before now (Ok ticked) why = tt
of_tick Told Ports to old new before now (Err why) (inl behind) = subst IsOfTick (sym behind.2) tt
of_tick Told Ports to old new before now (Err why) (inr (inl barred)) = subst IsOfTick (sym barred.1.told) tt
of_tick Told Ports to old new before now (Err why) (inr (inr (inl reason))) = of_hindered _ old new.faults why reason
of_tick Told Ports to old new before now (Err why) (inr (inr (inr reason))) = of_unreadable Told Ports before now why reason.1

module _ (to : ℕ) (old new : View) where
  abbrev act : Act
  act = acts.Tick to

  abbrev call : Call
  call = calls.Tick to

  abbrev face : Face
  face = ticked_face old to

  -- On any disk

  -- where it is done, the limit of each pin that is held is above its time
  pub all_pass : AreHeld old.pins → old.state.count ≤ max_place → old.rounds < max_place → (result : Result Ticked Refused) → ((at : ℕ) → old.state.stopped ≡ Some at → IsErrOf result (refused.Stopped at))
      → (old.state.stopped ≡ None → to < old.state.manifest.clock → IsErrOf result (refused.Backwards old.state.manifest.clock))
      → (old.state.stopped ≡ None → old.state.manifest.clock ≤ to → (old.state.count ≡ max_place) ⊎ (max_place ≤ old.rounds) → IsErrOf result (refused.Exhausted max_place))
      → (IsTickable old to → (pin limit : ℕ) → first_limit_of old.pins.pins ≡ Some (pin, limit) → limit ≤ to → IsErrOf result (refused.Pinned pin limit))
      → OnOk result (All (λ pin. to < pin.limit) old.pins.pins)
  all_pass pins few rounds (Err why) stop behind full barred = tt
  all_pass pins few rounds (Ok ticked) stop behind full barred =
      let runs = ok_runs old (Ok ticked) ticked refl stop in
      let forward = not_below old.state.manifest.clock to (λ ahead. no_error ticked (refused.Backwards old.state.manifest.clock) (behind runs ahead)) in
      let place = below_of old.state.count max_place few (λ full_is. no_error ticked (refused.Exhausted max_place) (full runs forward (inl full_is))) in
      all_above old.pins.pins to pins.ordered (λ number limit first. above_of to limit (λ reached. no_error ticked (refused.Pinned number limit) (barred (record { runs = runs; forward = forward; place = place; round = rounds }) number limit first reached)))

  -- and its time isn't behind the clock
  pub forward_so : (result : Result Ticked Refused) → ((at : ℕ) → old.state.stopped ≡ Some at → IsErrOf result (refused.Stopped at))
      → (old.state.stopped ≡ None → to < old.state.manifest.clock → IsErrOf result (refused.Backwards old.state.manifest.clock)) → OnOk result (old.state.manifest.clock ≤ to)
  forward_so (Err why) stop behind = tt
  forward_so (Ok ticked) stop behind =
      not_below old.state.manifest.clock to (λ ahead. no_error ticked (refused.Backwards old.state.manifest.clock) (behind (ok_runs old (Ok ticked) ticked refl stop) ahead))

  -- its certificate is what the clock behind it has prepared
  certified : (digest : List ℕ) → clock_of new.state.manifest ≡ clock_at (clock_of old.state.manifest) to → (told : Option Certificate) → IsCertificateAt new.state.manifest.config.threshold to told
      → told ≡ certificate_by digest new.state.manifest to → IsCertificateOf (clock_of old.state.manifest) to told
  certified digest clock None due is = let same = ap (λ (clock : Clock). clock.threshold) clock in omega (arith, due, same)
  certified digest clock (Some certificate) due is =
      let same = ap (λ (clock : Clock). clock.threshold) clock in
      let reach = due.1 in (
        omega (arith, same, reach),
        sym (ap (λ (clock : Clock). clock.certificate) clock) ∙ prepared digest new.state.manifest.certificate certificate (where_so (nat_le new.state.manifest.config.threshold to) _ certificate (sym is)),
      )

  module _ (Told Ports : Type 0) (point : ℕ) (at : point ≡ old.state.count) (kept : pins_of new ≡ pins_of old) where
    backwards_tells : (why : Refused) → (old.state.stopped ≡ None → to < old.state.manifest.clock → new ≡ old) → IsBehind old to why → anywhere.Says Told Ports act call refl face old new kept (Some why) → Tells Ports act (tick_refusal_of point why) old new
    backwards_tells why same (runs, ahead, is) says =
        let told = subst (λ e. anywhere.Says Told Ports act call refl face old new kept (Some e)) is says in
        subst (λ e. Tells Ports act (tick_refusal_of point e) old new) (sym is)
        (((to, refl, ahead), runs, at, refl, λ i. standing_of (same runs ahead i)), kept, told.drawn)

    -- the first pin of the least limit is held
    barred_tells : AreHeld old.pins → (IsTickable old to → (pin limit : ℕ) → first_limit_of old.pins.pins ≡ Some (pin, limit) → limit ≤ to → new ≡ old) → (why : Refused) → IsTickable old to × IsBarred old to why → anywhere.Says Told Ports act call refl face old new kept (Some why)
        → Tells Ports act (tick_refusal_of point why) old new
    barred_tells pins same why (may, barred) says =
        let told = subst (λ e. anywhere.Says Told Ports act call refl face old new kept (Some e)) barred.told says in
        let by = barred_by old.pins.pins barred.pin barred.limit pins.ordered barred.first in
        subst (λ e. Tells Ports act (tick_refusal_of point e) old new) (sym barred.told)
        (((to, refl, barred.reached), may.runs, λ i. standing_of (same may barred.pin barred.limit barred.first barred.reached i)), (by.0, by.1, kept), told.drawn)

    -- numbers run out for a step; rounds don't
    nearly : old.rounds < max_place → frozen_len new.state.frozen ≤ 16384 → (max_place ≤ old.rounds) ⊎ IsShortToTick Told to new → IsDrawn (standing_of new)
    nearly rounds small (inl full) = absurd (omega (arith, rounds, full))
    nearly rounds small (inr few) = drawn_for_tick Told to new small few

    pub tick_tells : AreHeld old.pins → (before now : ℕ) (result : Result Ticked Refused) → OnOk result (All (λ pin. to < pin.limit) old.pins.pins) → OnOk result (old.state.manifest.clock ≤ to)
        → IfOk result (λ told. IsCertificateAt new.state.manifest.config.threshold to told.certificate) → (digest : List ℕ) → IfOk result (λ told. told.certificate ≡ certificate_by digest new.state.manifest to)
        → anywhere.Says Told Ports act call refl face old new kept (result_err result)
        → IfOk result (λ told. (told.place ≡ old.state.count + 1) × (told.clock ≡ to)) → old.rounds < max_place → frozen_len new.state.frozen ≤ 16384
        → (old.state.stopped ≡ None → to < old.state.manifest.clock → new ≡ old) → (IsTickable old to → (pin limit : ℕ) → first_limit_of old.pins.pins ≡ Some (pin, limit) → limit ≤ to → new ≡ old)
        → IfErr result (HasReasonOfTick Told Ports to old new before now) → ((at : ℕ) → old.state.stopped ≡ Some at → IsErrOf result (refused.Stopped at)) → Tells Ports act (tick_reply_of point result) old new
    tick_tells pins before now (Ok ticked) above forward due digest certificate says is rounds small ahead_same barred_same why stop =
        let runs = ok_runs old (Ok ticked) ticked refl stop in
        let clock = clock_of old.state.manifest in (
          (
            (to, refl, is.1),
            runs,
            is.0,
            omega (arith, forward, is.1),
            subst (λ n. IsCertificateOf clock n ticked.certificate) (sym is.1) (certified digest says.clock ticked.certificate due certificate),
            stands_so new (record (standing_of old) { count = ticked.place; failed = None; clock = clock_at clock ticked.clock }) (says.count ∙ sym is.0) (says.stopped ∙ runs) (says.clock ∙ ap (clock_at clock) (sym is.1)) kept,
          ),
          (subst (λ n. All (λ pin. n < pin.limit) (pins_of old).held) (sym is.1) (passed_by old.pins.pins to above), kept),
          says.drawn,
        )
    tick_tells pins before now (Err why) above forward due digest certificate says is rounds small ahead_same barred_same (inl ahead) stop = backwards_tells why ahead_same ahead says
    tick_tells pins before now (Err why) above forward due digest certificate says is rounds small ahead_same barred_same (inr (inl barred)) stop = barred_tells pins barred_same why barred says
    tick_tells pins before now (Err why) above forward due digest certificate says is rounds small ahead_same barred_same (inr (inr (inl reason))) stop =
        subst (λ r. Tells Ports act r old new) (hindered_not_behind point why _ old new.faults reason)
        (anywhere.hindered Told Ports act call refl face old new kept ((max_place ≤ old.rounds) ⊎ IsShortToTick Told to new) (nearly rounds small) why reason says)
    tick_tells pins before now (Err why) above forward due digest certificate says is rounds small ahead_same barred_same (inr (inr (inr reason))) stop =
        subst (λ r. Tells Ports act r old new) (unreadable_not_behind point why Told Ports before now reason.1)
        (anywhere.unreadable Told Ports act call refl face old new kept before now why reason.0 reason.1 says)

  -- Over a store that stands for a history

  module _ (Tells Ports : Type 0) (told : Tells) (begin : Start) (from : Point) (h : History) (caller : ℕ) (on : IsOn begin from h old) where
    abbrev Now : Course
    Now = course Ports begin new.faults new.disk.moment

    abbrev Telling : Option Refused → Type 0
    Telling = Says Tells Ports told begin from h caller act call refl face old new on

    -- It is done

    abbrev change : Change
    change = done_by caller call

    abbrev g : History
    g = with_done h caller call

    module _ (says : Telling None) (runs : old.state.stopped ≡ None) where
      on_g : IsOn begin from g new
      on_g = (advances Tells Ports told begin from h caller act call refl face old new on None says).stands from on

      now : StandsNow begin.config g new
      now = on_g.stands.now

      runs_now : new.state.stopped ≡ None
      runs_now = says.stopped ∙ runs

      done : AreDone g
      done = (subst (IsOpenOrStopped begin.config new g now.stored) runs_now now.held).0

      threshold_is : new.state.manifest.config.threshold ≡ begin.config.threshold
      threshold_is = ap (λ (m : Manifest). m.config.threshold) now.remembers.manifest ∙ ap (λ (fields : Fields). fields.threshold) now.config_is

      -- what its certificate says is so now, and each later crash has the tick
      borne : IsSynced new.disk → (place : ℕ) → place ≡ length g → (certificate : Certificate) → certificate.clock ≡ to → IsTrueCertificate begin.config.threshold certificate new.disk.directory g → IsBorneOn begin g new (place, certificate)
      borne synced place place_is certificate clock true =
          let same : without_failed g ≡ g = all_done g done in
          let clocks : (after g).clock ≡ certificate.clock = ap (λ (s : State). s.clock) (after-push h change) ∙ sym clock in
          let clean : IsClean begin.config.threshold new.disk.directory g certificate.clock = subst (IsClean begin.config.threshold new.disk.directory g) clocks (now_clean begin.config g new on_g.stands.pages now runs_now) in
          record {
            point = here begin from g new on_g;
            place = ap length same ∙ sym place_is;
            on = seen_now begin from g new on_g;
            each = λ d left. subst (λ (d : Directory). HasCommitted d certificate place × IsClean begin.config.threshold d (without_failed g) certificate.clock) (sym (synced d left))
                (subst (HasCommitted new.disk.directory certificate) (sym place_is) true.committed, subst (λ l. IsClean begin.config.threshold new.disk.directory l certificate.clock) (sym same) clean);
          }

      borne_if : IsSynced new.disk → (place : ℕ) → place ≡ length g → (answer : Option Certificate) → IsCertificateAt begin.config.threshold to answer
          → IfSome answer (λ certificate. IsTrueCertificate begin.config.threshold certificate new.disk.directory g) → IfSome (option_map (λ certificate. (place, certificate)) answer) (IsBorneOn begin g new)
      borne_if synced place place_is None due true = tt
      borne_if synced place place_is (Some certificate) due true = borne synced place place_is certificate due.0 true

      ticks_done : (ticked : Ticked) → (ticked.place ≡ old.state.count + 1) × (ticked.clock ≡ to) → IsSynced new.disk → IsCertificateAt new.state.manifest.config.threshold to ticked.certificate
          → IfSome ticked.certificate (λ certificate. IsTrueCertificate begin.config.threshold certificate new.disk.directory g) → Replied Tells Ports told begin from h caller act call refl face old new on (reply.Ticked ticked)
      ticks_done ticked is synced due true =
          let at : ticked.place ≡ suc (length h) = next_place Tells Ports told begin from h caller act call refl face old new on ticked.place is.0 in
          let all : length g ≡ suc (length h) = longer h change in
          let due_by : IsCertificateAt begin.config.threshold to ticked.certificate = subst (λ n. IsCertificateAt n to ticked.certificate) threshold_is due in
          let whole : take ticked.place g ≡ g = take_all ticked.place g (omega (arith, at, all)) in (
            g,
            record {
              grows = (change ∷ [], refl);
              answers = (
                to,
                refl,
                record {
                  clock = is.1;
                  done = ap (change_at g) at ∙ change_at-push h change;
                  due = due_by;
                  number = subst (λ l. IfSome ticked.certificate (λ certificate. certificate.number ≡ certificates begin.config.threshold l)) (sym whole) (IfSome_then ticked.certificate true (λ certificate is. is.number));
                },
              );
              follows = (at, all);
              seen = tt;
              certified = borne_if synced ticked.place (at ∙ sym all) ticked.certificate due_by true;
              goes = advances Tells Ports told begin from h caller act call refl face old new on None says;
            },
          )

    -- It is refused

    backwards : (point : ℕ) → point ≡ old.state.count → (why : Refused) → IsBehind old to why → Telling (Some why) → Outcome Ports begin h caller act (tick_refusal_of point why) old new
    backwards point at why (runs, ahead, is) says =
        let before = on.stands.now in
        let all : point ≡ length h = at ∙ before.count in
        let told_so = subst (λ e. Telling (Some e)) is says in
        let clock : old.state.manifest.clock ≡ (after h).clock = ap (λ (m : Manifest). m.clock) before.remembers.manifest ∙ (stands_for begin.config h old before runs).clock in
        subst (λ e. Outcome Ports begin h caller act (tick_refusal_of point e) old new) (sym is)
        (not_made Tells Ports told begin from h caller act call refl face old new on (reply.Backwards point old.state.manifest.clock) tt tt
        (advances Tells Ports told begin from h caller act call refl face old new on (Some (refused.Backwards old.state.manifest.clock)) told_so)
        (to, refl, record { within = omega (arith, all); is = clock ∙ ap (λ (l : History). (after l).clock) (sym (take_all point h (omega (arith, all)))); ahead = ahead }) (all, refl))

    barred : (point : ℕ) (why : Refused) → IsBarred old to why → Telling (Some why) → Outcome Ports begin h caller act (tick_refusal_of point why) old new
    barred point why is says =
        let told_so = subst (λ e. Telling (Some e)) is.told says in
        subst (λ e. Outcome Ports begin h caller act (tick_refusal_of point e) old new) (sym is.told)
        (not_made Tells Ports told begin from h caller act call refl face old new on (reply.Barred is.pin is.limit) tt tt
        (advances Tells Ports told begin from h caller act call refl face old new on (Some (refused.Pinned is.pin is.limit)) told_so) (to, refl, is.reached) refl)

    module _ (rounds : old.rounds < max_place) (small : frozen_len new.state.frozen ≤ 16384)
        (merges : StandsNow begin.config h new → new.state.stopped ≡ None → IsShortToMergeBy (due_choice to) Tells new → max_place ≤ new.state.next + most_numbers (length h)) where
      -- numbers run out for a flush, for a freeze, or for a merge that is due
      lacks : (last : ℕ) → old.state.stopped ≡ None → Telling (Some (refused.Exhausted last)) → (max_place ≤ old.rounds) ⊎ IsShortToTick Tells to new → IsShort (length h) Now
      lacks last runs says (inl rounds_out) = absurd (omega (arith, rounds, rounds_out))
      lacks last runs says (inr short) =
          let on_now : IsOn begin from h new = (advances Tells Ports told begin from h caller act call refl face old new on (Some (refused.Exhausted last)) says).stands from on in
          let drawn = on_now.stands.numbers in
          let low = on.moment_since in
          let since = on_now.stands.later in
          elim short [
            | inl flush ↦ let few = flush.drafted.few in let reach = flush.short in omega (arith, drawn, low, since, few, reach, small)
            | inr (inl freeze) ↦ omega (arith, drawn, low, since, freeze)
            | inr (inr merge) ↦ let reach = merges on_now.stands.now (says.stopped ∙ runs) merge in omega (arith, drawn, low, since, reach)
          ]

      pub ticks : (point : ℕ) → point ≡ old.state.count → (before now : ℕ) (result : Result Ticked Refused) → Telling (result_err result) → IfOk result (λ told. (told.place ≡ old.state.count + 1) × (told.clock ≡ to))
          → OnOk result (IsSynced new.disk) → IfOk result (λ told. IsCertificateAt new.state.manifest.config.threshold to told.certificate)
          → IfOk result (λ told. IfSome told.certificate (λ certificate. IsTrueCertificate begin.config.threshold certificate new.disk.directory g))
          → IfErr result (HasReasonOfTick Tells Ports to old new before now) → ((at : ℕ) → old.state.stopped ≡ Some at → IsErrOf result (refused.Stopped at)) → Outcome Ports begin h caller act (tick_reply_of point result) old new
      ticks point at before behind (Ok done) says is synced due true why stop = ticks_done says (ok_runs old (Ok done) done refl stop) done is synced due true
      ticks point at before behind (Err e) says is synced due true (inl ahead) stop = backwards point at e ahead says
      ticks point at before behind (Err e) says is synced due true (inr (inl pinned)) stop = barred point e pinned.1 says
      ticks point at before behind (Err e) says is synced due true (inr (inr (inl reason))) stop =
          let Short = (max_place ≤ old.rounds) ⊎ IsShortToTick Tells to new in
          subst (λ r. Outcome Ports begin h caller act r old new) (hindered_not_behind point e Short old new.faults reason)
          (hindered Tells Ports told begin from h caller act call refl face old new on Short lacks e reason says)
      ticks point at before behind (Err e) says is synced due true (inr (inr (inr reason))) stop =
          subst (λ r. Outcome Ports begin h caller act r old new) (unreadable_not_behind point e Tells Ports before behind reason.1)
          (unreadable Tells Ports told begin from h caller act call refl face old new on before behind e reason.1 says)
