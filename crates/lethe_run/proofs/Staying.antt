-- What replies leave in the slots of their caller.
use Rattle.std.proofs.Common.{◌≡◌, ℕ, List, [], ◌∷◌, ◌++◌, Result, Ok, Err, refl, subst}
use Rattle.std.specs.Prelude.{IfOk, MatchResult}
use Rattle.lethe_base.specs.declared.memory.NoMemory.{NoMemory}
use Rattle.lethe_base.specs.declared.refused.Refused.{Refused}
use Rattle.lethe_base.specs.declared.refused.Refused.TheVariants as refused
use Rattle.lethe_engine.specs.declared.ticking.Ticked.{Ticked}
use Rattle.lethe_script.specs.declared.order.Act.{Act}
use Rattle.lethe_script.specs.declared.order.Order.{Order}
use Rattle.lethe_run.specs.declared.reply.Line.{Line}
use Rattle.lethe_run.specs.declared.reply.Line.TheVariants as line
use Rattle.lethe_run.specs.declared.reply.Reply.{Reply}
use Rattle.lethe_run.specs.Replies.{refusal_of, reply_of, tick_refusal_of, tick_reply_of, unread_of}
use Rattle.lethe_run.specs.Slots.{AreInSlots, InSlots, Slots}

module _ (act : Act) (s : Slots) where
  -- what a reply leaves as it was
  abbrev pub Stay : Result Reply NoMemory → Type 0
  Stay result = MatchResult result (λ reply. InSlots act reply s s) (λ why. s ≡ s)

  refusal_stays : (why : Refused) → Stay (refusal_of why)
  refusal_stays (refused.Fault place before after) = refl
  refusal_stays (refused.Stopped at) = refl
  refusal_stays (refused.Exhausted last) = refl
  refusal_stays refused.NoMemory = refl
  refusal_stays (refused.Backwards clock) = refl
  refusal_stays (refused.Pinned pin limit) = refl
  refusal_stays refused.NothingDue = refl
  refusal_stays (refused.Cancelled begun now) = refl
  refusal_stays (refused.ReadFault before after) = refl
  refusal_stays (refused.Damaged name) = refl

  pub change_stays : (result : Result ℕ Refused) → Stay (reply_of result)
  change_stays (Ok place) = refl
  change_stays (Err why) = refusal_stays why

  tick_refusal_stays : (point : ℕ) (why : Refused) → Stay (tick_refusal_of point why)
  tick_refusal_stays point (refused.Fault place before after) = refl
  tick_refusal_stays point (refused.Stopped at) = refl
  tick_refusal_stays point (refused.Exhausted last) = refl
  tick_refusal_stays point refused.NoMemory = refl
  tick_refusal_stays point (refused.Backwards clock) = refl
  tick_refusal_stays point (refused.Pinned pin limit) = refl
  tick_refusal_stays point refused.NothingDue = refl
  tick_refusal_stays point (refused.Cancelled begun now) = refl
  tick_refusal_stays point (refused.ReadFault before after) = refl
  tick_refusal_stays point (refused.Damaged name) = refl

  pub tick_stays : (point : ℕ) (result : Result Ticked Refused) → Stay (tick_reply_of point result)
  tick_stays point (Ok ticked) = refl
  tick_stays point (Err why) = tick_refusal_stays point why

  pub unread_stays : (why : Refused) → Stay (unread_of why)
  unread_stays (refused.ReadFault before after) = refl
  unread_stays (refused.Damaged name) = refl
  unread_stays refused.NoMemory = refl
  unread_stays (refused.Fault place before after) = refl
  unread_stays (refused.Stopped at) = refl
  unread_stays (refused.Exhausted last) = refl
  unread_stays (refused.Backwards clock) = refl
  unread_stays (refused.Pinned pin limit) = refl
  unread_stays refused.NothingDue = refl
  unread_stays (refused.Cancelled begun now) = refl

  pub slot_unread_stays : (why : Refused) → IfOk (unread_of why) (λ reply. InSlots act reply s s)
  slot_unread_stays (refused.ReadFault before after) = refl
  slot_unread_stays (refused.Damaged name) = refl
  slot_unread_stays refused.NoMemory = tt
  slot_unread_stays (refused.Fault place before after) = tt
  slot_unread_stays (refused.Stopped at) = tt
  slot_unread_stays (refused.Exhausted last) = tt
  slot_unread_stays (refused.Backwards clock) = tt
  slot_unread_stays (refused.Pinned pin limit) = tt
  slot_unread_stays refused.NothingDue = tt
  slot_unread_stays (refused.Cancelled begun now) = tt

-- where a reply leaves them so, or there is none
pub or_kept : (P : Reply → Type 0) (s : Slots) (result : Result Reply NoMemory) → IfOk result P → MatchResult result P (λ why. s ≡ s)
or_kept P s (Ok reply) is = is
or_kept P s (Err why) is = refl

-- Orders one behind another

pub in_slots_append : (first second : List Order) (s m t : Slots) (lines more : List Line) → AreInSlots first s lines m → AreInSlots second m more t → AreInSlots (first ++ second) s (lines ++ more) t
in_slots_append [] second s m t [] more a b = subst (λ s. AreInSlots second s more t) a b
in_slots_append [] second s m t (l ∷ lines) more a b = absurd a
in_slots_append (o ∷ first) second s m t [] more a b = absurd a
in_slots_append (o ∷ first) second s m t (line.Answer caller r ∷ lines) more a b = (a.0, a.1, in_slots_append first second a.0 m t lines more a.2 b)
