use Rattle.std.proofs.Common.{◌≡◌, ◌≤◌, ◌+◌, ◌*◌, ◌++◌, List, [], None, length}
use Rattle.std.specs.Prelude.{vec_len, vec_capacity}
use Rattle.lethe_base.specs.History.{History}
use Rattle.lethe_base.specs.declared.config.Fields.{Fields}
use Rattle.lethe_cert.specs.declared.certificate.Certificate.{Certificate}
use Rattle.lethe_stored.specs.Stored.{Stored}
use Rattle.lethe_core.specs.Running.{IsSound}
use Rattle.lethe_core.specs.View.{view_of}
use Rattle.lethe_engine.specs.StandsFor.{Opened, StandsFor}
use Rattle.lethe_drive.specs.Certificates.{certificates_in}
use Rattle.lethe_drive.specs.Driving.{IsTheirs}
use Rattle.lethe_drive.specs.Moments.{IsKnown, moment_of}
use Rattle.lethe_drive.specs.Past.{AreEarlier}
use Rattle.lethe_drive.specs.Runs.{run_of}
use Rattle.lethe_drive.specs.Steps.{Steps}
use Rattle.lethe_drive.proofs.Left.{IsGivenUpTo}
use Rattle.lethe_drive.proofs.Stepping.{run_at}
use Rattle.lethe_drive.proofs.driving.drive.Given as goal

-- the events so far are answered, no more jobs of earlier rounds are left and no more pins are held than these, and there is room for the replies of the others, of twice as many
-- jobs and one more, and for as many pins
abbrev pub invariant-loop-event : goal.invariant-loop-event
invariant-loop-event g l =
    let old = view_of l.fn.engine.core in
    let now = view_of l.engine.core in
    record {
      sound : IsSound g.D.Disk.tells now;
      jobs : IsTheirs g.D.Disk.tells now l.jobs;
      earlier : AreEarlier l.engine.core.begun.rounds l.past.items;
      begun : l.jobs.begun ≤ length l.yielded;
      driven : g.D.Disk.tells → (config : Fields) (opened : Opened) (h : History) (answered : List Certificate) → StandsFor config opened h old answered → (s : Stored) → IsKnown config h old s
          → (k : History) × (t : Stored) × IsKnown config k now t × StandsFor config opened k now (answered ++ certificates_in l.replies.items)
          × Steps g.D.Disk.ports_fail config h (run_at (moment_of old s (g.D.Disk.fetches l.fn.port) (g.D.Disk.port_faults l.fn.port) 0 None []) []) l.yielded l.replies.items k
          (run_of now t (g.D.Disk.fetches l.port) (g.D.Disk.port_faults l.port) l.jobs l.snapshots.items l.past.items);
      certificates : l.engine.certificates.items ≡ l.fn.engine.certificates.items ++ certificates_in l.replies.items;
      faults : old.faults ≤ now.faults;
      room : 2 * length l.fn.events.items + 1 ≤ vec_capacity l.replies;
      len : vec_len l.replies ≡ length l.yielded;
      places : length l.fn.events.items ≤ vec_capacity l.past;
      few : length l.past.items ≤ length l.yielded;
      pin_places : length l.fn.events.items ≤ vec_capacity l.snapshots;
      few_pins : length l.snapshots.items ≤ length l.yielded;
    }

-- those before it were given up, and there is room for the replies of the others and one more
abbrev pub invariant-loop-replies : goal.invariant-loop-replies
invariant-loop-replies g l = record {
  given : IsGivenUpTo l.engine.core.state.stopped l.initial.past.items l.past.items l.initial.replies.items l.replies.items;
  room : vec_len l.replies + length l.past.items + 1 ≤ vec_capacity l.replies;
}

abbrev pub decreases-loop-replies : goal.decreases-loop-replies
decreases-loop-replies g l = length l.past.items
