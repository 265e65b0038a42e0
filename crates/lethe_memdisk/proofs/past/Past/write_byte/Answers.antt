use Rattle.std.proofs.Common.{◌≡◌, ◌+◌, ◌≤◌, ◌<◌, ℕ, [], ◌∷◌, Some, length, ap, sym, ◌∙◌, arith, rules}
use Rattle.std.specs.Prelude.{vec_capacity, slice_get}
use Rattle.lethe_base.specs.declared.name.Name.{Name}
use Rattle.lethe_disk.specs.Directory.{Directory, object, content}
use Rattle.lethe_memdisk.specs.Objects.{write_to}
use Rattle.lethe_memdisk.specs.Effects.{Written}
use Rattle.lethe_memdisk.specs.declared.past.Call.TheVariants.{Byte}
use Rattle.lethe_memdisk.specs.Past.{now_of, with_effect}
use Rattle.lethe_memdisk.proofs.Undoing.{Adds, adds_byte, adds_to, byte_held, content_is, write_to_same}
use Rattle.lethe_memdisk.proofs.Keeping.{now_is, has_room, kept_push, push_kept}
use Rattle.lethe_memdisk.proofs.Results.{not_err, not_ok}
use Rattle.lethe_memdisk.proofs.past.Past.write_byte.Goals as goal

pub unreachable-requires : goal.unreachable-requires
unreachable-requires c =
    let old = c.self.inside.objects in
    let now = now_is old c.self.inside.calls.items c.self.inside.room _ c.args.self.now c.self.invariant c.self.view_is in
    let held = byte_held old c.args.name c.args.at c.args.before (ap (λ d. slice_get (content d c.args.name) c.args.at) now ∙ c.requires.inside) in
    let long : length (content old c.args.name) ≡ length held.0 = ap length (content_is old c.args.name held.0 held.1) in
    let inside : c.args.at < length held.0 = held.2 in
    let fits : c.args.at + 1 ≤ length (content old c.args.name) = omega (arith, long, inside) in
    not_ok c.write.result (c.write.ensures.inside fits) (sym c.is_err.ensures.value ∙ c.if-is_err.true)

pub keep-requires : goal.keep-requires
keep-requires c = let room = has_room c.self.inside.objects c.self.inside.calls.items c.self.inside.room (vec_capacity c.self.inside.calls) c.args.self.now c.self.invariant c.self.view_is c.requires.room in search rules

wrote : (old now new : Directory) (name : Name) (at byte before : ℕ) → old ≡ now → slice_get (content now name) at ≡ Some before → new ≡ write_to (object old name) old name at (byte ∷ []) → Adds (Byte name at before) (Written name at (byte ∷ [])) old new
wrote old now new name at byte before same here is =
    let held = byte_held old name at before (ap (λ d. slice_get (content d name) at) same ∙ here) in
    let inside : at < length held.0 = held.2 in
    let fits : at ≤ length held.0 = omega (arith, inside) in
    adds_to _ _ old _ new (adds_byte old name at byte before held.0 held.3 held.1 fits) (is ∙ write_to_same old name at (byte ∷ []) held.0 held.1 fits)

pub invariant_of-self : goal.invariant_of-self
invariant_of-self c =
    let old = c.self.inside.objects in
    let now = now_is old c.self.inside.calls.items c.self.inside.room _ c.args.self.now c.self.invariant c.self.view_is in
    let is = not_err c.write.result c.write.ensures.ok (sym c.is_err.ensures.value ∙ c.if-is_err.false) in
    push_kept old c.write.new.self c.self.inside.calls.items c.keep.new.calls.items _ _ c.self.inside.room (vec_capacity c.self.inside.calls) (vec_capacity c.keep.new.calls) c.keep.ensures.items
    (wrote old (now_of c.args.self.now) c.write.new.self c.args.name c.args.at c.args.byte c.args.before now c.requires.inside is) c.keep.ensures.capacity c.self.invariant

pub returns : goal.returns
returns c =
    let old = c.self.inside.objects in
    let now = now_is old c.self.inside.calls.items c.self.inside.room _ c.args.self.now c.self.invariant c.self.view_is in
    let is = not_err c.write.result c.write.ensures.ok (sym c.is_err.ensures.value ∙ c.if-is_err.false) in
    kept_push old c.write.new.self c.self.inside.calls.items c.keep.new.calls.items _ _ c.self.inside.room c.keep.ensures.items
    (wrote old (now_of c.args.self.now) c.write.new.self c.args.name c.args.at c.args.byte c.args.before now c.requires.inside is) ∙ ap (with_effect (Written c.args.name c.args.at (c.args.byte ∷ []))) c.self.view_is
