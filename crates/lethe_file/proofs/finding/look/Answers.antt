use Rattle.std.proofs.Common.{sym, ◌∙◌}
use Rattle.lethe_file.specs.Agreement.{entries_in}
use Rattle.lethe_file.proofs.Looking.{found_read, found_vouched}
use Rattle.lethe_file.proofs.Pages.{not_allowed, one_lacks}
use Rattle.lethe_file.proofs.finding.look.Goals as goal

pub returns-then-is_allowed-clause-found : goal.returns-then-is_allowed-clause-found
returns-then-is_allowed-clause-found g c = λ told agrees. found_read c.args.key.now c.args.line.now (g.D.Disk.page_bytes c.args.page.now) c.find_line.result (c.find_line.ensures.told told)

pub returns-then-is_allowed-clause-vouched : goal.returns-then-is_allowed-clause-vouched
returns-then-is_allowed-clause-vouched g c = found_vouched c.args.key.now c.args.line.now c.find_line.result c.find_line.ensures.page

pub returns-else-is_allowed-clause-found : goal.returns-else-is_allowed-clause-found
returns-else-is_allowed-clause-found g c = λ told agrees.
    let bytes = g.D.Disk.page_bytes c.args.page.now in
    one_lacks c.args.key.now (entries_in bytes) (not_allowed c.args.key.now c.args.line.now bytes agrees (sym c.is_allowed.ensures ∙ c.if-is_allowed.false))
