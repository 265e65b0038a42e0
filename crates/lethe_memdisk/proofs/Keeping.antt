-- Objects with one call more.
use Rattle.std.proofs.Common.{◌≡◌, ◌≤◌, ◌<◌, ℕ, List, [], ◌∷◌, ◌++◌, length, sym, ap, subst, ◌∙◌, arith}
use Rattle.std.specs.Prelude.{reverse}
use Rattle.std.proofs.lemmas.List.{length-reverse}
use Rattle.lethe_disk.specs.Directory.{Directory}
use Rattle.lethe_memdisk.specs.Effects.{Effect}
use Rattle.lethe_memdisk.specs.declared.past.Call.{Call}
use Rattle.lethe_memdisk.specs.Undo.{start_of, effects_of, Follows}
use Rattle.lethe_memdisk.specs.Past.{Kept, kept_of, IsKept, now_of, with_effect}
use Rattle.lethe_memdisk.proofs.Undoing.{Adds, reverse_push, follows_push, start_push, effects_push, after_effects, length-effects_of}

pub now_is : (now : Directory) (calls : List Call) (room capacity : ℕ) (kept : Kept) → IsKept now calls room capacity → kept_of now calls room ≡ kept → now ≡ now_of kept
now_is now calls room capacity kept is view = sym (after_effects now (reverse calls) is.follows) ∙ ap now_of view

pub len_is : (now : Directory) (calls : List Call) (room : ℕ) (kept : Kept) → kept_of now calls room ≡ kept → length calls ≡ length kept.effects
len_is now calls room kept view = sym (length-reverse calls) ∙ sym (length-effects_of now (reverse calls)) ∙ ap (λ k. length k.effects) view

pub room_is : (now : Directory) (calls : List Call) (room : ℕ) (kept : Kept) → kept_of now calls room ≡ kept → room ≡ kept.room
room_is now calls room kept view = ap (λ k. k.room) view

-- there is room for one more
pub has_room : (now : Directory) (calls : List Call) (room capacity : ℕ) (kept : Kept) → IsKept now calls room capacity → kept_of now calls room ≡ kept → length kept.effects < kept.room → length calls < capacity
has_room now calls room capacity kept is view left =
    let long = len_is now calls room kept view in
    let same = room_is now calls room kept view in
    omega (arith, long, same, is.roomy, left)

pub kept_push : (old new : Directory) (calls more : List Call) (call : Call) (effect : Effect) (room : ℕ) → more ≡ calls ++ call ∷ [] → Adds call effect old new → kept_of new more room ≡ with_effect effect (kept_of old calls room)
kept_push old new calls more call effect room is adds =
    let turned : reverse more ≡ call ∷ reverse calls = reverse_push calls more call is in
    let start : start_of new (reverse more) ≡ start_of old (reverse calls) = ap (start_of new) turned ∙ start_push old new (reverse calls) call effect adds in
    let effects : effects_of new (reverse more) ≡ effect ∷ effects_of old (reverse calls) = ap (effects_of new) turned ∙ effects_push old new (reverse calls) call effect adds in
    λ i. record { start = start i; effects = effects i; room = room }

pub push_kept : (old new : Directory) (calls more : List Call) (call : Call) (effect : Effect) (room capacity larger : ℕ) → more ≡ calls ++ call ∷ [] → Adds call effect old new → capacity ≤ larger → IsKept old calls room capacity → IsKept new more room larger
push_kept old new calls more call effect room capacity larger is adds grows kept = record {
  follows = subst (Follows new) (sym (reverse_push calls more call is)) (follows_push old new (reverse calls) call effect kept.follows adds);
  roomy = omega (arith, kept.roomy, grows);
}
