use Rattle.std.proofs.Common.{◌++◌, ◌∷◌, [], take, drop, cond, not, sym, ap, ◌∙◌, append-nil}
use Rattle.std.proofs.lemmas.List.{take_more, take_all, take-append-drop}
use Rattle.std.proofs.lemmas.Grind.{flat_map-append}
use Rattle.lethe_run.specs.Printed.{line_text, lines_text}
use Rattle.lethe_run.proofs.print.spell.Goals as goal

pub returns-then-is_err-clause-front : goal.returns-then-is_err-clause-front
returns-then-is_err-clause-front c =
    let lines = c.args.lines.now in
    let i = c.loop-line.line-index in
    let text = c.loop-line.text.items in
    let failed = c.is_err.ensures.negation ∙ ap not c.if-is_err.true in
    let kept = c.add_line.ensures ∙ ap (λ b. cond b (text ++ line_text c.line-item.result) text) failed in
    (lines_text (drop i lines), ap lines_text (sym (take-append-drop i lines)) ∙ flat_map-append line_text (take i lines) (drop i lines) ∙ ap (λ t. t ++ lines_text (drop i lines)) (sym (kept ∙ c.loop-line.invariant)))

pub loop-line-preserved : goal.loop-line-preserved
loop-line-preserved c =
    let lines = c.args.lines.now in
    let i = c.loop-line.line-index in
    let text = c.loop-line.text.items in
    let line = c.line-item.result in
    let ok = c.is_err.ensures.negation ∙ ap not c.if-is_err.false in
    c.add_line.ensures ∙ ap (λ b. cond b (text ++ line_text line) text) ok ∙ ap (λ t. t ++ line_text line) c.loop-line.invariant
    ∙ ap (λ l. lines_text (take i lines) ++ l) (sym (append-nil (line_text line))) ∙ sym (flat_map-append line_text (take i lines) (line ∷ []))
    ∙ ap (λ x. lines_text (take i lines ++ x ∷ [])) c.line-item.is ∙ ap lines_text (sym (take_more lines i line c.loop-line-test.true))

pub returns-clause-front : goal.returns-clause-front
returns-clause-front c =
    let lines = c.args.lines.now in
    let i = c.loop-line.line-index in
    ([], ap lines_text (sym (take_all i lines c.loop-line-test.false)) ∙ sym c.loop-line.invariant ∙ sym (append-nil c.loop-line.text.items))

pub returns-clause-whole : goal.returns-clause-whole
returns-clause-whole c = λ is. c.loop-line.invariant ∙ ap lines_text (take_all c.loop-line.line-index c.args.lines.now c.loop-line-test.false)
