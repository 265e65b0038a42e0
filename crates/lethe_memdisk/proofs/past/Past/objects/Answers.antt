use Rattle.std.proofs.Common.{ap, sym, ◌∙◌}
use Rattle.std.specs.Prelude.{reverse}
use Rattle.lethe_memdisk.specs.Past.{now_of}
use Rattle.lethe_memdisk.proofs.Undoing.{after_effects}
use Rattle.lethe_memdisk.proofs.past.Past.objects.Goals as goal

pub returns : goal.returns
returns c = sym (after_effects c.self.inside.objects (reverse c.self.inside.calls.items) c.self.invariant.follows) ∙ ap now_of c.self.view_is
