use Rattle.std.proofs.Common.{◌≡◌, ◌∙◌, ap, take, arith, rules}
use Rattle.std.proofs.lemmas.List.{take_all}
use Rattle.std.specs.Prelude.{flat_map}
use Rattle.lethe_stored.specs.Files.{StoredFile}
use Rattle.lethe_install.specs.Inputs.{names_of}
use Rattle.lethe_install.specs.Left.{is_among, unneeded_of}
use Rattle.lethe_install.specs.Replaced.{pages_in}
use Rattle.lethe_install.proofs.sweeping.names_gone.Goals as goal

pub returns : goal.returns
returns c = λ level swept bytes.
    let file : StoredFile = record { level = level; swept = swept; header = c.args.header.now; pages = bytes } in
    let all : take c.loop-one.one-index c.args.made.now ≡ c.args.made.now = take_all c.loop-one.one-index c.args.made.now (omega (arith, c.loop-one-test.false)) in
    let kept : c.deref.result.now ≡ flat_map pages_in c.args.made.now = c.deref.ensures.value ∙ c.loop-one.invariant ∙ ap (flat_map pages_in) all in
    let names : c.add_pages_of.new.names.items ≡ names_of file = search rules in
    c.leave_out.ensures ∙ (λ i. unneeded_of (is_among (kept i)) (names i))
