-- What a session knows after its pins.
use Rattle.std.proofs.Common.{◌≡◌, ◌≤◌, ◌<◌, inl, inr, ℕ, ◌+◌, List, [], ◌∷◌, ◌++◌, Option, Some, None, refl, sym, ap, ◌∙◌, subst, append-nil}
use Rattle.std.specs.Prelude.{◌⊎◌}
use Rattle.std.proofs.lemmas.List.Elements.{All-nil}
use Rattle.lethe_base.specs.History.{History}
use Rattle.lethe_base.specs.Limits.{max_place}
use Rattle.lethe_base.specs.declared.call.Call.TheVariants.{Work}
use Rattle.lethe_base.specs.declared.config.Fields.{Fields}
use Rattle.lethe_base.specs.declared.refused.Refused.{Refused}
use Rattle.lethe_base.specs.declared.refused.Refused.TheVariants.{Exhausted, NoMemory}
use Rattle.lethe_core.specs.Asked.{Failure, Serves, behind, failure_of}
use Rattle.lethe_core.specs.Pins.{with_pin, without_pin}
use Rattle.lethe_core.specs.Points.{IsOf}
use Rattle.lethe_core.specs.Snapshot.{Snapshot}
use Rattle.lethe_core.specs.View.{Face, Limited, face_of}
use Rattle.lethe_disk.specs.declared.disk.Disk.{Ghosts}
use Rattle.lethe_engine.specs.Answers.{Answers}
use Rattle.lethe_engine.specs.StandsFor.{Opened, StandsSince}
use Rattle.lethe_pins.specs.Held.{placed_by}
use Rattle.lethe_state.specs.Clock.{Clock}
use Rattle.lethe_stored.specs.Left.{without_failed}
use Rattle.lethe_turn.specs.Seats.{passed_noting}
use Rattle.lethe_store.specs.declared.entry.Mark.{Mark}
use Rattle.lethe_store.specs.declared.entry.Mark.TheVariants.{Made, Released}
use Rattle.lethe_store.specs.Diary.{IsCertifiedAt, IsSpent, limited, spent_by}
use Rattle.lethe_store.specs.DiaryLaws.{made_along}
use Rattle.lethe_store.specs.Entries.{changes_of}
use Rattle.lethe_store.specs.Laws.{IsNoted, none_spent, noted_spent, nothing_said, since_call, stands_along}
use Rattle.lethe_store.specs.Pins.{HasMade, HasReasonOfPin, IsPointOf}
use Rattle.lethe_store.specs.Since.{Since}
use Rattle.lethe_store.specs.StoreViews.{StoreView, failure_in}
use Rattle.lethe_store.proofs.Behind.{Knows, Leads}

-- a pin that was made is the next one
pub noted_made : (Tells : Type 0) (old new : StoreView) (number limit : ℕ) → number ≡ old.view.pins.made + 1 → face_of new.view ≡ with_pin (face_of old.view) limit → new.certificates ≡ old.certificates
    → IsNoted Tells 0 (Serves Work) None (Made number limit ∷ []) old new
noted_made Tells old new number limit next face same = record {
  face = face ∙ ap (λ n. record (face_of old.view) { made = n; held = placed_by (λ (pin : Limited). pin.limit) (limited n limit) (face_of old.view).held }) (sym next);
  numbered = (next, tt);
  certificates = same ∙ sym (append-nil old.certificates);
  certified = λ told config opened h s. All-nil (IsCertifiedAt config opened (behind h 0 (Serves Work) None) new.view);
  spent = λ has. absurd (none_spent (Made number limit) (λ is. cc) has);
}

pub noted_released : (Tells : Type 0) (old new : StoreView) (number : ℕ) → face_of new.view ≡ without_pin (face_of old.view) number → new.certificates ≡ old.certificates → IsNoted Tells 0 (Serves Work) None (Released number ∷ []) old new
noted_released Tells old new number face same = record {
  face = face;
  numbered = tt;
  certificates = same ∙ sym (append-nil old.certificates);
  certified = λ told config opened h s. All-nil (IsCertifiedAt config opened (behind h 0 (Serves Work) None) new.view);
  spent = λ has. absurd (none_spent (Released number) (λ is. cc) has);
}

-- a pin that was refused notes that numbers are used up, if they are
pub noted_refusal : (Tells : Type 0) (old new : StoreView) (why : Refused) → face_of new.view ≡ face_of old.view → new.certificates ≡ old.certificates → (why ≡ Exhausted max_place) ⊎ (why ≡ NoMemory) → (why ≡ Exhausted max_place → new.view.pins.made ≡ max_place)
    → IsNoted Tells 0 (Serves Work) (Some why) (spent_by (Some why)) old new
noted_refusal Tells old new why face certificates either made = noted_spent Tells 0 (Serves Work) (Some why) old new face certificates (by either)
  where
    by : (why ≡ Exhausted max_place) ⊎ (why ≡ NoMemory) → (last : ℕ) → Some why ≡ Some (Exhausted last) → IsSpent Tells old new
    by (inl is) last same = inr (inl (made is))
    by (inr is) last same = absurd (let clash : Some NoMemory ≡ Some (Exhausted last) = ap Some (sym is) ∙ same in cc)

pub unfailed_refusal : (why : Refused) → (why ≡ Exhausted max_place) ⊎ (why ≡ NoMemory) → failure_in (Some why) ≡ None
unfailed_refusal why (inl is) = ap failure_of is
unfailed_refusal why (inr is) = ap failure_of is

module _ {V : Type 0} (Tells PortsFail : Type 0) (see : V → StoreView) where
  -- a call that isn't in the history leads to the store behind it by its marks alone
  pub leads_noting : (w : Knows V) (old new : StoreView) (why : Option Refused) (face : Face) (noted more : List Mark) → failure_in why ≡ None → Leads Tells PortsFail see w old → Answers Tells (Serves Work) why face old.view new.view
      → noted ≡ more → IsNoted Tells 0 (Serves Work) why more old new → Leads Tells PortsFail see (passed_noting noted w) new
  leads_noting w old new why face noted more unfailed leads answers is marks =
      λ o op. subst (λ l. Since Tells PortsFail (see o) w.seen (w.noted ++ l) new) (sym is) (subst (λ l. Since Tells PortsFail (see o) l (w.noted ++ more) new) (ap (λ l. w.seen ++ l) (nothing_said 0 why unfailed) ∙ append-nil w.seen)
      (since_call Tells PortsFail (see o) old w.seen w.noted (leads o op) new 0 (Serves Work) why face answers (λ failure is. absurd (clash failure (sym unfailed ∙ is))) more marks))
    where
      clash : (failure : Failure) → None ≡ Some failure → ⊥
      clash failure is = cc

  -- how many pins were made, by what was noted
  pub made_seen : (x : Knows V) (shown : StoreView) (number : ℕ) → Leads Tells PortsFail see x shown → shown.view.pins.made ≡ number → HasMade see x number
  made_seen x shown number leads is = λ o op. sym is ∙ ap (λ (f : Face). f.made) (leads o op).diary.face ∙ made_along (face_of (see o).view) x.noted (leads o op).diary.numbered

  module _ {D Page Port : Type 0} {kind : Ghosts D Page Port} (w x : Knows V) (shown : StoreView) (noted : List Mark) (snapshot : Snapshot D Page Port kind) (leads : Leads Tells PortsFail see w shown) (given : x ≡ passed_noting noted w)
      (of : Tells → (config : Fields) (opened : Opened) (h : History) → StandsSince config opened h shown.view → IsOf (without_failed h) snapshot)
      (near : Tells → (config : Fields) (opened : Opened) (h : History) → StandsSince config opened h shown.view → (shown.view.state.manifest.clock < snapshot.pin.limit) × (snapshot.pin.limit ≤ config.threshold + shown.view.state.manifest.clock)) where
    -- a snapshot shows what was seen when it was made
    pub point_of : IsPointOf Tells see x snapshot
    point_of = subst (λ u. IsPointOf Tells see u snapshot) (sym given) (record {
      shows = λ o op told config opened h s. of told config opened (h ++ changes_of w.seen) (stands_along Tells PortsFail (see o) shown w.seen w.noted (leads o op) told config opened h s);
      above = λ o op told config opened h s. subst (λ (clock : Clock). clock.time < snapshot.pin.limit) (leads o op).clock
          (near told config opened (h ++ changes_of w.seen) (stands_along Tells PortsFail (see o) shown w.seen w.noted (leads o op) told config opened h s)).0;
      near = λ o op told config opened h s. subst (λ (clock : Clock). snapshot.pin.limit ≤ config.threshold + clock.time) (leads o op).clock
          (near told config opened (h ++ changes_of w.seen) (stands_along Tells PortsFail (see o) shown w.seen w.noted (leads o op) told config opened h s)).1;
    })

  -- why a pin was refused
  pub reason_of_pin : (x : Knows V) (why : Refused) → (why ≡ Exhausted max_place) ⊎ (why ≡ NoMemory) → (why ≡ Exhausted max_place → HasMade see x max_place) → HasReasonOfPin see x why
  reason_of_pin x why (inl is) made = subst (HasReasonOfPin see x) (sym is) (refl, made is)
  reason_of_pin x why (inr is) made = subst (HasReasonOfPin see x) (sym is) tt
