use Rattle.std.proofs.Common.{ℕ, List, map, sym, ap, ◌∙◌}
use Rattle.std.proofs.lemmas.Slice.Zip.{firsts-zip}
use Rattle.lethe_base.specs.declared.name.Name.{Name}
use Rattle.lethe_loose.proofs.written.Written.names.Goals as goal

pub returns : goal.returns
returns c = c.deref.ensures.value ∙ sym (firsts-zip c.self.inside.names.items c.self.inside.contents.pages (sym c.self.invariant)) ∙ ap (map (λ (named : Name × List ℕ). named.0)) c.self.view_is
