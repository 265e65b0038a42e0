use Rattle.std.proofs.Common.{◌≡◌, [], Some, None, ap, sym, ◌∙◌}
use Rattle.std.specs.Prelude.{slice_get, unwrap_or}
use Rattle.lethe_disk.specs.Directory.{object}
use Rattle.lethe_memdisk.proofs.Keeping.{now_is}
use Rattle.lethe_memdisk.proofs.past.Past.byte_at.Goals as goal

pub returns-in-Some : goal.returns-in-Some
returns-in-Some c =
    let now = now_is c.self.inside.objects c.self.inside.calls.items c.self.inside.room _ c.args.self.now c.self.invariant c.self.view_is in
    let here : object c.self.inside.objects c.args.name ≡ Some c.in-Some.held.now = sym c.in-Some.ensures in
    c.byte_in.ensures ∙ ap (λ o. slice_get (unwrap_or o []) c.args.at) (sym here ∙ ap (λ d. object d c.args.name) now)

pub returns-in-None : goal.returns-in-None
returns-in-None c =
    let now = now_is c.self.inside.objects c.self.inside.calls.items c.self.inside.room _ c.args.self.now c.self.invariant c.self.view_is in
    let none : object c.self.inside.objects c.args.name ≡ None = sym c.in-None.ensures in
    ap (λ o. slice_get (unwrap_or o []) c.args.at) (sym none ∙ ap (λ d. object d c.args.name) now)
