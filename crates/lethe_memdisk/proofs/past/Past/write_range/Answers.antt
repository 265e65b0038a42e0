use Rattle.std.proofs.Common.{◌≡◌, ◌≤◌, ℕ, List, Some, None, Vec, length, take, drop, refl, ap, sym, ◌∙◌, subst, rules}
use Rattle.std.specs.Prelude.{vec_capacity, IsSomeAnd}
use Rattle.std.specs.declared.alloc.Global.{Global}
use Rattle.lethe_base.specs.declared.name.Name.{Name}
use Rattle.lethe_disk.specs.Directory.{Directory, object}
use Rattle.lethe_memdisk.specs.Objects.{write_to}
use Rattle.lethe_memdisk.specs.Effects.{Written}
use Rattle.lethe_memdisk.specs.declared.past.Call.TheVariants.{Write}
use Rattle.lethe_memdisk.specs.Past.{now_of, with_effect}
use Rattle.lethe_memdisk.proofs.Undoing.{Adds, adds_write, adds_to, some_held, write_to_same}
use Rattle.lethe_memdisk.proofs.Keeping.{now_is, has_room, kept_push, push_kept}
use Rattle.lethe_memdisk.proofs.past.Past.write_range.Goals as goal

pub unreachable-requires : goal.unreachable-requires
unreachable-requires c =
    let now = now_is c.self.inside.objects c.self.inside.calls.items c.self.inside.room _ c.args.self.now c.self.invariant c.self.view_is in
    let held = some_held (now_of c.args.self.now) c.args.name (λ held. c.args.at ≤ length held) c.requires.inside in
    let none : object c.self.inside.objects c.args.name ≡ None = search rules in
    let there : object c.self.inside.objects c.args.name ≡ Some held.0 = ap (λ d. object d c.args.name) now ∙ held.1 in
    let both : Some held.0 ≡ None = sym there ∙ none in cc

-- what is read before the write is in the object
pub inside : (old now : Directory) (name : Name) (at : ℕ) (held : List ℕ) → old ≡ now → object old name ≡ Some held → IsSomeAnd (object now name) (λ b. at ≤ length b) → at ≤ length held
inside old now name at held same here fits = subst (λ o. IsSomeAnd o (λ (b : List ℕ). at ≤ length b)) (ap (λ d. object d name) (sym same) ∙ here) fits

pub range-requires : goal.range-requires
range-requires c =
    let now = now_is c.self.inside.objects c.self.inside.calls.items c.self.inside.room _ c.args.self.now c.self.invariant c.self.view_is in
    inside c.self.inside.objects (now_of c.args.self.now) c.args.name c.args.at c.in-Some.held.now now (sym c.in-Some.ensures) c.requires.inside

pub keep-requires : goal.keep-requires
keep-requires c = let room = has_room c.self.inside.objects c.self.inside.calls.items c.self.inside.room (vec_capacity c.self.inside.calls) c.args.self.now c.self.invariant c.self.view_is c.requires.room in search rules

wrote : (old now new : Directory) (name : Name) (at len : ℕ) (before : Vec ℕ Global) (bytes held : List ℕ) → old ≡ now → object old name ≡ Some held → IsSomeAnd (object now name) (λ b. at ≤ length b) → len ≡ length bytes
    → before.items ≡ take len (drop at held) → new ≡ write_to (object old name) old name at bytes → Adds (Write name at len before) (Written name at bytes) old new
wrote old now new name at len before bytes held same here fits long was is =
    let place = inside old now name at held same here fits in
    adds_to _ _ old _ new (adds_write old name at len before bytes held long (was ∙ ap (λ n. take n (drop at held)) long) here place) (is ∙ write_to_same old name at bytes held here place)

pub invariant_of-self-2 : goal.invariant_of-self-2
invariant_of-self-2 c =
    let old = c.self.inside.objects in
    let now = now_is old c.self.inside.calls.items c.self.inside.room _ c.args.self.now c.self.invariant c.self.view_is in
    push_kept old c.write.new.self c.self.inside.calls.items c.keep.new.calls.items _ _ c.self.inside.room (vec_capacity c.self.inside.calls) (vec_capacity c.keep.new.calls) c.keep.ensures.items
    (wrote old (now_of c.args.self.now) c.write.new.self c.args.name c.args.at (length c.args.bytes.now) c.in_ok-before.before c.args.bytes.now c.in-Some.held.now now (sym c.in-Some.ensures) c.requires.inside refl c.in_ok-before.ensures c.in_ok-write.ensures.ok)
    c.keep.ensures.capacity c.self.invariant

pub returns-clause-ok : goal.returns-clause-ok
returns-clause-ok c =
    let old = c.self.inside.objects in
    let now = now_is old c.self.inside.calls.items c.self.inside.room _ c.args.self.now c.self.invariant c.self.view_is in
    kept_push old c.write.new.self c.self.inside.calls.items c.keep.new.calls.items _ _ c.self.inside.room c.keep.ensures.items
    (wrote old (now_of c.args.self.now) c.write.new.self c.args.name c.args.at (length c.args.bytes.now) c.in_ok-before.before c.args.bytes.now c.in-Some.held.now now (sym c.in-Some.ensures) c.requires.inside refl c.in_ok-before.ensures c.in_ok-write.ensures.ok)
    ∙ ap (with_effect (Written c.args.name c.args.at c.args.bytes.now)) c.self.view_is
