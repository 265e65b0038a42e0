use Rattle.std.proofs.Common.{◌≡◌, ℕ, List, Some, None, ap, sym, ◌∙◌, rules}
use Rattle.std.specs.Prelude.{vec_capacity, IsSome, Option}
use Rattle.lethe_disk.specs.Directory.{object}
use Rattle.lethe_memdisk.specs.Effects.{Removed}
use Rattle.lethe_memdisk.specs.declared.past.Call.TheVariants.{Remove}
use Rattle.lethe_memdisk.specs.Past.{with_effect}
use Rattle.lethe_memdisk.proofs.Maps.{held}
use Rattle.lethe_memdisk.proofs.Undoing.{Adds, adds_remove, adds_to}
use Rattle.lethe_memdisk.proofs.Keeping.{now_is, has_room, kept_push, push_kept}
use Rattle.lethe_memdisk.proofs.past.Past.remove.Goals as goal

absent_there : (o p : Option (List ℕ)) → o ≡ None → o ≡ p → IsSome p → ⊥
absent_there o None none same here = cc
absent_there o (Some x) none same here = cc

pub unreachable-requires : goal.unreachable-requires
unreachable-requires c =
    let none : object c.self.inside.objects c.args.name ≡ None = sym c.remove.ensures.removed ∙ ap held c.in_default.is in
    absent_there _ _ none (ap (λ d. object d c.args.name) (now_is c.self.inside.objects c.self.inside.calls.items c.self.inside.room _ c.args.self.now c.self.invariant c.self.view_is)) c.requires.present

pub keep-requires : goal.keep-requires
keep-requires c = let room = has_room c.self.inside.objects c.self.inside.calls.items c.self.inside.room (vec_capacity c.self.inside.calls) c.args.self.now c.self.invariant c.self.view_is c.requires.room in search rules

pub invariant_of-self : goal.invariant_of-self
invariant_of-self c =
    let old = c.self.inside.objects in
    let here : object old c.args.name ≡ Some c.in-Some.before.items = sym c.in-Some.ensures.removed in
    let adds : Adds (Remove c.args.name c.in-Some.before) (Removed c.args.name) old c.remove.new.self = adds_to _ _ old _ c.remove.new.self (adds_remove old c.args.name c.in-Some.before here) c.remove.ensures.rest in
    push_kept old c.remove.new.self c.self.inside.calls.items c.keep.new.calls.items _ _ c.self.inside.room (vec_capacity c.self.inside.calls) (vec_capacity c.keep.new.calls) c.keep.ensures.items adds c.keep.ensures.capacity c.self.invariant

pub returns : goal.returns
returns c =
    let old = c.self.inside.objects in
    let here : object old c.args.name ≡ Some c.in-Some.before.items = sym c.in-Some.ensures.removed in
    let adds : Adds (Remove c.args.name c.in-Some.before) (Removed c.args.name) old c.remove.new.self = adds_to _ _ old _ c.remove.new.self (adds_remove old c.args.name c.in-Some.before here) c.remove.ensures.rest in
    kept_push old c.remove.new.self c.self.inside.calls.items c.keep.new.calls.items _ _ c.self.inside.room c.keep.ensures.items adds ∙ ap (with_effect (Removed c.args.name)) c.self.view_is
