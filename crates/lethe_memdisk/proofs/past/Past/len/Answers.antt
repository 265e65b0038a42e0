use Rattle.std.proofs.Common.{◌≡◌, length, ◌∙◌, rules}
use Rattle.lethe_memdisk.proofs.Keeping.{len_is}
use Rattle.lethe_memdisk.proofs.past.Past.len.Goals as goal

pub returns : goal.returns
returns c =
    let items : c.len.result ≡ length c.self.inside.calls.items = search rules in
    items ∙ len_is c.self.inside.objects c.self.inside.calls.items c.self.inside.room c.args.self.now c.self.view_is
