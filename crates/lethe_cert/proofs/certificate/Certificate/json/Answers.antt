use Rattle.std.proofs.Common.{arith, ◌≡◌, ◌∙◌, rules, ap, Some}
use Rattle.serde_json.specs.View.{view}
use Rattle.serde_json.specs.Written.{compact_text, has_float}
use Rattle.lethe_cert.specs.Json.{json_data}
use Rattle.lethe_cert.proofs.Texts.{text_is}
use Rattle.lethe_cert.proofs.certificate.Certificate.json.Goals as goal

pub returns-clause-text : goal.returns-clause-text
returns-clause-text c =
    let built : view c.in_ok-value_of.field-0 ≡ json_data c.args.self.now = search rules in
    c.in_ok-text.ensures.text (ap has_float built) ∙ ap compact_text built ∙ text_is c.args.self.now (rw c.as_slice.ensures at c.digits_of.ensures.bytes)

pub returns-clause-reads : goal.returns-clause-reads
returns-clause-reads c =
    let built : view c.in_ok-value_of.field-0 ≡ json_data c.args.self.now = search rules in
    (rw c.as_str-utf8.ensures.value at c.as_str-utf8.utf8, c.in_ok-text.ensures.reads_back (rw built (omega arith)) ∙ ap Some built)
