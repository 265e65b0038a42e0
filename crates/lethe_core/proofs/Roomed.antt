-- Room for a record.
use Rattle.std.proofs.Common.{◌≡◌, ◌<◌, inl, inr, List, [], ◌∷◌, refl, ap, ◌∙◌, arith}
use Rattle.std.specs.Prelude.{Bool, IsTrue, false}
use Rattle.lethe_base.specs.declared.config.Fields.{Fields}
use Rattle.lethe_manifest.specs.declared.manifest.Manifest.{Manifest}
use Rattle.lethe_stored.specs.Stored.{Stored}
use Rattle.lethe_state.specs.Room.{HasRoom}
use Rattle.lethe_state.specs.declared.state.State.{State}
use Rattle.lethe_core.specs.Merges.{AreOutcomes, AreSomeOutcomes, IsCrowded, IsMergedInPart, IsRoomBegun, IsRoomMadeBy, IsUncrowded, Outcome}
use Rattle.lethe_core.specs.Running.{Holds}
use Rattle.lethe_core.specs.Steps.{IsEmptied, IsReady, IsReadyToFreeze, IsSteady}
use Rattle.lethe_core.specs.View.{Flying, View}

-- there is room in what is stored exactly where the store sees it
module _ (view : View) (s : Stored) (holds : Holds view s) where
  pub sees_room : HasRoom s → view.state.records < view.state.manifest.config.buffer
  sees_room room =
      let records = holds.remembers.records in
      let buffer : view.state.manifest.config.buffer ≡ s.manifest.config.buffer = ap (λ (m : Manifest). m.config.buffer) holds.remembers.manifest in
      omega (arith, records, buffer, room)

  pub has_room : view.state.records < view.state.manifest.config.buffer → HasRoom s
  has_room room =
      let records = holds.remembers.records in
      let buffer : view.state.manifest.config.buffer ≡ s.manifest.config.buffer = ap (λ (m : Manifest). m.config.buffer) holds.remembers.manifest in
      omega (arith, records, buffer, room)

-- a freeze makes room, and merges leave it
pub room_ready : (old middle cleared new : State) → IsReadyToFreeze old middle → IsEmptied middle cleared → IsSteady cleared new → 0 < old.manifest.config.buffer → IsReady old new
room_ready old middle cleared new unfrozen frozen merged some =
    let records = merged.records in
    let none = frozen.records in
    let buffer : new.manifest.config.buffer ≡ old.manifest.config.buffer = ap (λ (fields : Fields). fields.buffer) (merged.config ∙ frozen.config ∙ unfrozen.steady.config) in
    record {
      room = omega (arith, records, none, buffer, some);
      stopped = merged.stopped ∙ frozen.stopped ∙ unfrozen.steady.stopped;
      count = merged.count ∙ frozen.count ∙ unfrozen.steady.count;
    }

pub clash : (b : Bool) → IsTrue b → b ≡ false → ⊥
clash b on off = cc

-- Merges where level 0 is crowded and no job is in flight

pub still_uncrowded : (flights : List Flying) (s : Stored) → (flights ≡ [] → IsCrowded s → ⊥) → IsUncrowded flights s [] s
still_uncrowded [] s few = inr (few refl, refl, refl)
still_uncrowded (flying ∷ more) s few = (refl, refl)

pub merged_uncrowded : (flights : List Flying) (s : Stored) (outcomes : List Outcome) (t : Stored) → flights ≡ [] → IsCrowded s → AreOutcomes s outcomes t → IsUncrowded flights s outcomes t
merged_uncrowded [] s outcomes t free many are = inl (many, are)
merged_uncrowded (flying ∷ more) s outcomes t free many are = absurd (cc)

pub merged_in_part : (flights : List Flying) (s t : Stored) → flights ≡ [] → IsCrowded s → (outcomes : List Outcome) × AreSomeOutcomes s outcomes t → IsMergedInPart flights s t
merged_in_part [] s t free many some = inr (many, some.0, some.1)
merged_in_part (flying ∷ more) s t free many some = absurd (cc)

-- Room that was made, all of it or in part

all_some : (s : Stored) (outcomes : List Outcome) (t : Stored) → AreOutcomes s outcomes t → AreSomeOutcomes s outcomes t
all_some s [] t are = are.1
all_some s (outcome ∷ more) t are = (are.0, all_some outcome.to more t are.1)

uncrowded_in_part : (flights : List Flying) (s : Stored) (outcomes : List Outcome) (t : Stored) → IsUncrowded flights s outcomes t → IsMergedInPart flights s t
uncrowded_in_part [] s outcomes t (inl all) = inr (all.0, outcomes, all_some s outcomes t all.1)
uncrowded_in_part [] s outcomes t (inr none) = inl none.2
uncrowded_in_part (flying ∷ more) s outcomes t is = is.1

pub room_begun : (flights : List Flying) (s : Stored) (outcomes : List Outcome) (t : Stored) → IsRoomMadeBy flights s outcomes t → IsRoomBegun flights s t
room_begun flights s outcomes t (inl room) = inl room.2
room_begun flights s outcomes t (inr cleared) = inr (
  cleared.0,
  record {
    middle = cleared.1.middle;
    unfrozen = cleared.1.unfrozen;
    rest = inr (cleared.1.cleared, cleared.1.frozen, cleared.1.coherent, uncrowded_in_part flights cleared.1.cleared outcomes t cleared.1.merges);
  },
)
