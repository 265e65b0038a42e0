use Rattle.std.proofs.Common.{rules, ◌≡◌, [], None, refl, arith}
use Rattle.std.specs.Prelude.{IsTrue, List, ◌+◌, false}
use Rattle.std.proofs.lemmas.Result.{IfErr-weaker}
use Rattle.lethe_disk.proofs.Quieting.{on_ok}
use Rattle.lethe_stored.specs.Stored.{Stored}
use Rattle.lethe_core.specs.Merges.{AreOutcomes, AreRetiredBehind, AreSomeOutcomes, IsCrowded, IsMergedInPart, IsUncrowded, Outcome, pages_of}
use Rattle.lethe_core.specs.Running.{Holds}
use Rattle.lethe_core.specs.Steps.{IsDoneInPart}
use Rattle.lethe_core.specs.View.{view_of}
use Rattle.lethe_core.proofs.Hindered.{keeps_itself}
use Rattle.lethe_core.proofs.Roomed.{clash, merged_in_part, merged_uncrowded, still_uncrowded}
use Rattle.lethe_core.proofs.holding.Core.merge_due.Goals as goal
use Rattle.lethe_core.proofs.holding.Core.merge_due.Goals.{then-not-is_empty-via-then-not-is_empty, then-not-is_empty-via-else-not-is_empty+then-not-is_crowded}

pub returns-then-not-is_empty-clause-keeps : goal.returns-then-not-is_empty-clause-keeps
returns-then-not-is_empty-clause-keeps g c = keeps_itself g.D.Disk.tells (view_of c.args.self.now) c.requires.may.sound c.requires.may.runs None tt

pub returns-then-not-is_empty-clause-done : goal.returns-then-not-is_empty-clause-done
returns-then-not-is_empty-clause-done g c = λ told s holds.
    let view = view_of c.args.self.now in
    let few : view.flights ≡ [] → IsCrowded s → ⊥ = elim c.then-not-is_empty.branch [
      | then-not-is_empty-via-then-not-is_empty w ↦ λ none many. (let off : c.is_empty.result ≡ false = search rules in clash c.is_empty.result (c.is_empty.ensures.1 none) off)
      | then-not-is_empty-via-else-not-is_empty+then-not-is_crowded w ↦ λ none many. (let off : w.is_crowded.result ≡ false = search rules in clash w.is_crowded.result ((w.is_crowded.ensures told s holds).1 many) off)
    ] in
    (s, [], still_uncrowded view.flights s few, holds, omega arith, refl)

pub returns-clause-partly : goal.returns-clause-partly
returns-clause-partly g c =
    let view = view_of c.args.self.now in
    let new = view_of c.merge_all.new.self in
    let none : c.args.self.now.flights ≡ [] = search rules in
    let many : IsTrue c.is_crowded.result = search rules in
    IfErr-weaker c.merge_all.result (IsDoneInPart g.D.Disk.tells (λ s t. (outcomes : List Outcome) × AreSomeOutcomes s outcomes t) view new) (IsDoneInPart g.D.Disk.tells (IsMergedInPart view.flights) view new)
    (λ why done not told s holds.
    let some = done not told s holds in
    (some.0, merged_in_part view.flights s some.0 none ((c.is_crowded.ensures told s holds).0 many) some.1, some.2)) c.merge_all.ensures.partly

pub returns-clause-done : goal.returns-clause-done
returns-clause-done g c = λ told s holds.
    let view = view_of c.args.self.now in
    let new = view_of c.merge_all.new.self in
    let none : c.args.self.now.flights ≡ [] = search rules in
    let many : IsTrue c.is_crowded.result = search rules in
    let start = g.D.Disk.fetches c.args.port.now in
    let now = g.D.Disk.fetches c.merge_all.new.port in
    on_ok c.merge_all.result ((t : Stored) × (outcomes : List Outcome) × AreOutcomes s outcomes t × Holds new t × (now ≡ start + pages_of outcomes) × AreRetiredBehind outcomes view.pins.pins view.retired new.retired)
    ((t : Stored) × (outcomes : List Outcome) × IsUncrowded view.flights s outcomes t × Holds new t × (now ≡ start + pages_of outcomes) × AreRetiredBehind outcomes view.pins.pins view.retired new.retired)
    (c.merge_all.ensures.done told s holds)
    (λ done. (done.0, done.1, merged_uncrowded view.flights s done.1 done.0 none ((c.is_crowded.ensures told s holds).0 many) done.2, done.3, done.4, done.5))
