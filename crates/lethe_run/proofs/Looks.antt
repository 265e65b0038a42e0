-- What only looks at the store is answered.
use Rattle.std.proofs.Common.{◌≡◌, inl, ℕ, [], Result, Ok, Err, length, refl, sym, ap, ◌∙◌, subst, arith, append-nil}
use Rattle.std.specs.Prelude.{IfOk, IfSome}
use Rattle.std.proofs.lemmas.List.{take_all}
use Rattle.lethe_base.specs.History.{History, after}
use Rattle.lethe_base.specs.Read.{Read, Answer, answer}
use Rattle.lethe_base.specs.declared.name.Name.{Name}
use Rattle.lethe_base.specs.declared.refused.Refused.{Refused}
use Rattle.lethe_base.specs.declared.refused.Refused.TheVariants as refused
use Rattle.lethe_base.specs.declared.memory.NoMemory.{NoMemory}
use Rattle.lethe_core.specs.View.{View}
use Rattle.lethe_read.specs.Refusals.{IsReadRefusal}
use Rattle.lethe_engine.specs.Stats.{IsStatOf}
use Rattle.lethe_engine.specs.declared.telling.Stat.{Stat}
use Rattle.lethe_core.specs.Merges.{due_shape}
use Rattle.lethe_state.specs.Remembered.{Remembers}
use Rattle.lethe_stored.specs.Kept.{IsFor}
use Rattle.lethe_stored.specs.Left.{without_failed}
use Rattle.lethe_stored.specs.Stored.{Stored, layout_of}
use Rattle.lethe_script.specs.declared.order.Act.{Act}
use Rattle.lethe_run.specs.declared.reply.Reply.{Reply}
use Rattle.lethe_run.specs.declared.reply.Reply.TheVariants as reply
use Rattle.lethe_run.specs.Replies.{unread_of}
use Rattle.lethe_run.specs.Carried.{IsSeen, certificate_in, looked_in}
use Rattle.lethe_run.specs.Serving.{IsBorneOn, IsLookedUp, IsOn, IsAnswered, Point}
use Rattle.lethe_run.specs.Transcript.{Course, Start, course, Answers, Follows, IsAnswerAt, IsRead, IsStatAt}
use Rattle.lethe_run.proofs.Images.{still}
use Rattle.lethe_run.proofs.Outcomes.{Outcome, told_of}

module _ (Ports : Type 0) (begin : Start) (from : Point) (h : History) (caller : ℕ) (act : Act) (view : View) (on : IsOn begin from h view) where
  abbrev Here : Course
  Here = course Ports begin view.faults view.disk.moment

  pub read_answer : (read : Read) (point : ℕ) (given : Answer) → point ≡ view.state.count → answer (after h) read ≡ given → IsAnswerAt h point read given
  read_answer read point given at is = let all = at ∙ on.stands.now.count in record { within = omega (arith, all); is = sym is ∙ ap (λ l. answer (after l) read) (sym (take_all point h (omega (arith, all)))) }

  pub stat_answer : (point : ℕ) (stat : Stat) → point ≡ view.state.count → stat.clock ≡ (after h).clock
      → ((s : Stored) → Remembers s view.state view.levels → IsStatOf (due_shape (layout_of s)) stat) → IsStatAt (told_of h Here) point stat
  stat_answer point stat at clock shape =
      let all = at ∙ on.stands.now.count in
      let whole = sym (take_all point h (omega (arith, all))) in
      let now = on.stands.now in
      record {
        within = omega (arith, all);
        clock = clock ∙ ap (λ l. (after l).clock) whole;
        stored = now.stored;
        config_is = now.config_is;
        coherent = now.remembers.coherent;
        stands = subst (λ l. IsFor (without_failed l) now.stored) whole now.stands;
        shape = shape now.stored now.remembers;
      }

  pub reads : (r : Reply) → IfSome (certificate_in r) (IsBorneOn begin h view) → IfSome (looked_in r) (IsSeen begin.config begin.moment h view.disk) → Answers (told_of h Here) caller act r → Follows Here (length h) r (length h) → (g : History) × IsAnswered Ports begin h g caller act r view view
  reads r certified seen what follows = (h, record { grows = ([], sym (append-nil h)); answers = what; follows = follows; certified = certified; seen = seen; goes = still begin h view })

  -- a read that is refused
  pub unread : IsRead act → (why : Refused) → IsReadRefusal why → ((before behind : ℕ) → why ≡ refused.ReadFault before behind → Ports) → ((name : Name) → why ≡ refused.Damaged name → ⊥)
      → Outcome Ports begin h caller act (unread_of why) view view
  unread is (refused.ReadFault before behind) reason fails sound = reads reply.ReadFault tt tt (inl is, fails before behind refl) refl
  unread is (refused.Damaged name) reason fails sound = absurd (sound name refl)
  unread is refused.NoMemory reason fails sound = still begin h view
  unread is (refused.Fault place before behind) reason fails sound = absurd reason
  unread is (refused.Stopped at) reason fails sound = absurd reason
  unread is (refused.Exhausted last) reason fails sound = absurd reason
  unread is (refused.Backwards clock) reason fails sound = absurd reason
  unread is (refused.Pinned pin limit) reason fails sound = absurd reason
  unread is refused.NothingDue reason fails sound = absurd reason
  unread is (refused.Cancelled begun other) reason fails sound = absurd reason

  pub looked_up : (r : Result Reply NoMemory) → IfOk r (IsLookedUp Ports begin view.faults view.disk.moment h caller act) → Outcome Ports begin h caller act r view view
  looked_up (Ok r) is = reads r (subst (λ told. IfSome told (IsBorneOn begin h view)) (sym is.2) tt) (subst (λ told. IfSome told (IsSeen begin.config begin.moment h view.disk)) (sym is.3) tt) is.0 is.1
  looked_up (Err why) is = still begin h view
