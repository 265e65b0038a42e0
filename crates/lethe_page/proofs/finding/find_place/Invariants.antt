use Rattle.std.proofs.Common.{◌-◌}
use Rattle.lethe_page.proofs.Passing.{IsPassedTo}
use Rattle.lethe_page.proofs.finding.find_place.Given as goal

abbrev pub invariant-entries : goal.invariant-entries
invariant-entries l = IsPassedTo l.class l.count l.key l.bytes l.found l.last l.at l.passed

abbrev pub decreases-entries : goal.decreases-entries
decreases-entries l = l.count - l.passed
