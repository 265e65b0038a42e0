use Rattle.std.proofs.Common.{IsTrue, ◌↔◌, sym, subst, ◌∙◌}
use Rattle.std.specs.Prelude.{IsSome}
use Rattle.lethe_disk.specs.Directory.{object}
use Rattle.lethe_load.proofs.Names.{found_listed}
use Rattle.lethe_load.proofs.listing.Listing.has.Goals as goal

pub returns : goal.returns
returns c = λ d is.
    let names = c.deref.result.now in
    let all = c.deref.ensures.value ∙ is in
    subst (λ b. IsTrue b ↔ IsSome (object d c.args.name)) (sym c.is_ok.ensures.value) (found_listed names d c.args.name c.binary_search.result all c.binary_search.ensures.bound c.binary_search.ensures.position)
