use Rattle.std.proofs.Common.{is_some, sym, ap, ◌∙◌}
use Rattle.lethe_base.specs.Keys.{same_key}
use Rattle.lethe_merge.specs.Sources.{entry_of_key}
use Rattle.lethe_merge.specs.declared.source.Head.{Head}
use Rattle.lethe_merge.proofs.Heads.{some_where}
use Rattle.lethe_merge.proofs.source.Head.has_key.Goals as goal

pub returns-in-Here : goal.returns-in-Here
returns-in-Here c =
    c.eq.ensures ∙ sym (some_where (same_key c.args.key.now c.in-Here.entry.key) c.in-Here.entry) ∙ sym (ap (λ (h : Head). is_some (entry_of_key c.args.key.now h)) c.in-Here.is)
