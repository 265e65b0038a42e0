use Rattle.lethe_flush.proofs.Results.{ok_weaker}
use Rattle.lethe_pins.specs.Held.{is_named}
use Rattle.lethe_install.specs.Inputs.{numbered}
use Rattle.lethe_install.specs.Left.{left_of}
use Rattle.lethe_install.proofs.Outputs.{merge_drafts, sweep_draft}
use Rattle.lethe_install.proofs.outcome.installing.Goals as goal

-- A merge

pub installing_merge-requires-clause-level : goal.installing_merge-requires-clause-level
installing_merge-requires-clause-level g c = λ κs within. rw c.in-Merge.is at c.requires.levels

pub installing_merge-requires-clause-upto : goal.installing_merge-requires-clause-upto
installing_merge-requires-clause-upto g c = λ κs within. rw c.in-Merge.is at c.requires.upto

pub installing_merge-requires-clause-drafts : goal.installing_merge-requires-clause-drafts
installing_merge-requires-clause-drafts g c = λ κs within. let are = rw c.in-Files.is at (rw c.in-Merge.is at c.requires.outputs) in are.each

pub installing_merge-requires-clause-few : goal.installing_merge-requires-clause-few
installing_merge-requires-clause-few g c = λ κs within. let are = rw c.in-Files.is at (rw c.in-Merge.is at c.requires.outputs) in are.few

pub installing_merge-requires-clause-some : goal.installing_merge-requires-clause-some
installing_merge-requires-clause-some g c = λ κs within. rw c.in-Files.is at c.requires.some

pub returns-in-Files-clause-exhausted : goal.returns-in-Files-clause-exhausted
returns-in-Files-clause-exhausted g c = rw c.in-Files.is c.installing_merge.ensures.exhausted

pub returns-in-Files-clause-level : goal.returns-in-Files-clause-level
returns-in-Files-clause-level g c = rw c.in-Merge.is c.installing_merge.ensures.level

pub returns-in-Files-clause-objects : goal.returns-in-Files-clause-objects
returns-in-Files-clause-objects g c = rw c.in-Files.is c.installing_merge.ensures.objects

pub returns-in-Files-clause-installs : goal.returns-in-Files-clause-installs
returns-in-Files-clause-installs g c = λ tells s beside is current rising begun named uncited drawn.
    let m = rw c.in-Merge.is at begun in
    let are = rw c.in-Files.is at (rw c.in-Merge.is at c.requires.outputs) in
    let loose = rw c.in-Files.is at uncited in
    let of = merge_drafts g.D.Disk.tells tells s is.coherent m.0 _ m.1 _ are in
    rw (c.in-Merge.is, c.in-Files.is) (ok_weaker c.installing_merge.result _ _ (c.installing_merge.ensures.installs s m.0 beside is current rising m.1 named loose drawn of)
    (λ made found. (found.0, record { m = m.0; tasked = m.1; merged_is = found.1 }, (left_of (is_named c.args.pins.now.pins) (numbered made.step.merged.items s.files) beside, found.2, found.3, found.4), found.5)))

-- A sweep

pub installing_sweep-requires-clause-level : goal.installing_sweep-requires-clause-level
installing_sweep-requires-clause-level g c = λ κs within. rw c.in-Sweep.is at c.requires.levels

pub installing_sweep-requires-clause-place : goal.installing_sweep-requires-clause-place
installing_sweep-requires-clause-place g c = λ κs within. rw c.in-Sweep.is at c.requires.upto

pub installing_sweep-requires-clause-draft : goal.installing_sweep-requires-clause-draft
installing_sweep-requires-clause-draft g c = λ κs within. let is = rw c.in-Left-made.is at (rw c.in-Sweep.is at c.requires.outputs) in is.each

pub installing_sweep-requires-clause-some : goal.installing_sweep-requires-clause-some
installing_sweep-requires-clause-some g c = λ κs within. rw c.in-Left-made.is at c.requires.some

pub returns-in-Left-made-clause-exhausted : goal.returns-in-Left-made-clause-exhausted
returns-in-Left-made-clause-exhausted g c = rw c.in-Left-made.is c.installing_sweep.ensures.exhausted

pub returns-in-Left-made-clause-level : goal.returns-in-Left-made-clause-level
returns-in-Left-made-clause-level g c = rw c.in-Sweep.is c.installing_sweep.ensures.level

pub returns-in-Left-made-clause-objects : goal.returns-in-Left-made-clause-objects
returns-in-Left-made-clause-objects g c = rw c.in-Left-made.is c.installing_sweep.ensures.objects

pub returns-in-Left-made-clause-installs : goal.returns-in-Left-made-clause-installs
returns-in-Left-made-clause-installs g c = λ tells s beside is current rising begun named uncited drawn.
    let w = rw c.in-Sweep.is at begun in
    let output = rw c.in-Left-made.is at (rw c.in-Sweep.is at c.requires.outputs) in
    let loose = rw c.in-Left-made.is at uncited in
    let of = sweep_draft g.D.Disk.tells tells s is.coherent w.0 _ w.1 _ output in
    rw (c.in-Sweep.is, c.in-Left-made.is) (c.installing_sweep.ensures.installs s w.0 _ beside is current rising w.1 named loose drawn of)
