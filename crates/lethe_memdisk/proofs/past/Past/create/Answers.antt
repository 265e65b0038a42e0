use Rattle.std.proofs.Common.{◌≡◌, None, length, ap, ◌∙◌, rules}
use Rattle.std.specs.Prelude.{vec_capacity}
use Rattle.lethe_disk.specs.Directory.{object}
use Rattle.lethe_memdisk.specs.Effects.{Created}
use Rattle.lethe_memdisk.specs.declared.past.Call.TheVariants.{Create}
use Rattle.lethe_memdisk.specs.Past.{with_effect}
use Rattle.lethe_memdisk.proofs.Undoing.{Adds, adds_create, adds_to}
use Rattle.lethe_memdisk.proofs.Keeping.{now_is, has_room, kept_push, push_kept}
use Rattle.lethe_memdisk.proofs.past.Past.create.Goals as goal

pub keep-requires : goal.keep-requires
keep-requires c = let room = has_room c.self.inside.objects c.self.inside.calls.items c.self.inside.room (vec_capacity c.self.inside.calls) c.args.self.now c.self.invariant c.self.view_is c.requires.room in search rules

pub invariant_of-self-2 : goal.invariant_of-self-2
invariant_of-self-2 c =
    let old = c.self.inside.objects in
    let long : c.len-len.result ≡ length c.args.bytes.items = search rules in
    let absent : object old c.args.name ≡ None = ap (λ d. object d c.args.name) (now_is old c.self.inside.calls.items c.self.inside.room _ c.args.self.now c.self.invariant c.self.view_is) ∙ c.requires.absent in
    let adds : Adds (Create c.args.name c.len-len.result) (Created c.args.name c.args.bytes.items) old c.insert.new.self = adds_to _ _ old _ c.insert.new.self (adds_create old c.args.name c.len-len.result c.args.bytes.items long absent) c.in_ok-insert.ensures.ok in
    push_kept old c.insert.new.self c.self.inside.calls.items c.keep.new.calls.items _ _ c.self.inside.room (vec_capacity c.self.inside.calls) (vec_capacity c.keep.new.calls) c.keep.ensures.items adds c.keep.ensures.capacity c.self.invariant

pub returns-clause-ok : goal.returns-clause-ok
returns-clause-ok c =
    let old = c.self.inside.objects in
    let long : c.len-len.result ≡ length c.args.bytes.items = search rules in
    let absent : object old c.args.name ≡ None = ap (λ d. object d c.args.name) (now_is old c.self.inside.calls.items c.self.inside.room _ c.args.self.now c.self.invariant c.self.view_is) ∙ c.requires.absent in
    let adds : Adds (Create c.args.name c.len-len.result) (Created c.args.name c.args.bytes.items) old c.insert.new.self = adds_to _ _ old _ c.insert.new.self (adds_create old c.args.name c.len-len.result c.args.bytes.items long absent) c.in_ok-insert.ensures.ok in
    kept_push old c.insert.new.self c.self.inside.calls.items c.keep.new.calls.items _ _ c.self.inside.room c.keep.ensures.items adds ∙ ap (with_effect (Created c.args.name c.args.bytes.items)) c.self.view_is
