use Rattle.std.proofs.Common.{◌≡◌, Some, rules, tests, arith, sym, subst}
use Rattle.std.specs.Option.{option_copied}
use Rattle.lethe_manifest.specs.Manifests.{AreErases}
use Rattle.lethe_segment.specs.Records.{RecordHasSpelling}
use Rattle.lethe_segment.specs.declared.record.Record.TheVariants as of
use Rattle.lethe_state.specs.Records.{pending_with}
use Rattle.lethe_state.proofs.Pending.{IsBehind, erase_pushed}
use Rattle.lethe_state.proofs.changing.with_erase.Goals as goal

pub returns-clause-erases : goal.returns-clause-erases
returns-clause-erases c =
    let pending = c.args.pending.now in
    let erase = c.in-Erase.erase in
    let is : c.args.next.now ≡ of.Erase erase = c.in-Erase.is in
    let behind : IsBehind pending erase.seq = λ last found.
    let first : option_copied c.last.result ≡ Some last = search rules in
    search (rules, tests) in
    subst (λ next. AreErases (pending_with pending next)) (sym is)
    (erase_pushed pending c.requires.pending erase (subst RecordHasSpelling is c.requires.spelled) behind (omega (arith, c.if-pending-ge-MAX_ERASES.false)))
