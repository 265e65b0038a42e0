use Rattle.std.proofs.Common.{◌≡◌, ◌∙◌, List, ap, rules}
use Rattle.lethe_manifest.specs.declared.manifest.Cited.{Cited}
use Rattle.lethe_state.specs.Left.{staying_with}
use Rattle.lethe_install.specs.Placed.{with_made}
use Rattle.lethe_install.proofs.steps.step_of.Goals as goal

pub returns : goal.returns
returns c =
    let state = c.args.state.now in
    let files : List Cited = with_made c.args.level c.args.inputs.numbers.items c.args.inputs.above.items c.args.made.cited.items state.manifest.files in
    let cited : c.deref-3.result.now ≡ files = search rules in
    let erases : c.in_ok-staying_erases.field-0 ≡ staying_with c.args.company state c.deref-3.result.now = search rules in
    let staying = erases ∙ ap (staying_with c.args.company state) cited in
    record {
      headers_are = search rules;
      objects = search rules;
      merged = search rules;
      gone = search rules;
      left = search rules;
      older = search rules;
      manifest = search (rules, staying);
      few = search rules;
    }
