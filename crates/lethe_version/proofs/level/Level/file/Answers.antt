use Rattle.std.proofs.Common.{Some, eqb, ap, sym, ◌∙◌}
use Rattle.std.proofs.lemmas.Bool.{eq-eqb, ne_eqb}
use Rattle.lethe_version.proofs.Levels.{found_at, not_found}
use Rattle.lethe_version.proofs.level.Level.file.Goals as goal

pub returns-then-no : goal.returns-then-no
returns-then-no g c =
    ap Some c.file.ensures
    ∙ sym (found_at (λ shared. shared.file.value) (λ file. eqb file.header.no c.args.no) c.args.self.now.files.items c.deref-file-items.result.now c.deref-file-items.ensures.value c.loop-file.file-index c.file-item.result c.loop-file-test.true c.file-item.is c.loop-file.invariant
    (eq-eqb _ _ (sym c.no.ensures ∙ c.if-no.true)))

pub loop-file-preserved : goal.loop-file-preserved
loop-file-preserved g c =
    not_found (λ shared. shared.file.value) (λ file. eqb file.header.no c.args.no) c.args.self.now.files.items c.deref-file-items.result.now c.deref-file-items.ensures.value c.loop-file.file-index c.file-item.result c.loop-file-test.true c.file-item.is c.loop-file.invariant
    (ne_eqb _ _ (λ same. c.if-no.false (c.no.ensures ∙ same)))
