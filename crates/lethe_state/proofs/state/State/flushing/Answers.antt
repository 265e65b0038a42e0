use Rattle.std.proofs.Common.{◌<◌, ◌≤◌, append-nil, Bool, IsTrue, List, Some, rules, ◌≡◌, map, length, All, sym, ◌∙◌, subst}
use Rattle.std.specs.Prelude.{◌↔◌, sum_by}
use Rattle.lethe_header.specs.declared.header.Header.{Header}
use Rattle.lethe_advance.specs.Shown.{parts_by_level, parts_in}
use Rattle.lethe_flush.specs.Clear.{IsClearOf}
use Rattle.lethe_moves.specs.Flushes.{span_of}
use Rattle.lethe_version.specs.Versions.{files_of, levels_of}
use Rattle.lethe_build.specs.Built.{most_numbers}
use Rattle.lethe_build.specs.Drafts.{AreDraftsOf, numbers_for}
use Rattle.lethe_build.specs.declared.draft.Draft.{Draft}
use Rattle.lethe_mem.specs.Buffered.{Buffered}
use Rattle.lethe_merge.specs.Merge.{merged}
use Rattle.lethe_state.specs.Room.{AreDrafted, buffered, frozen_len}
use Rattle.lethe_state.specs.declared.state.State.{State}
use Rattle.lethe_state.proofs.Calls.{flush_calls}
use Rattle.lethe_state.proofs.FlushStep.{flush_steps}
use Rattle.lethe_state.proofs.Leveled.{headers_same}
use Rattle.lethe_state.proofs.state.State.flushing.Goals as goal

pub returns-in-Ok-clause-flushes : goal.returns-in-Ok-clause-flushes
returns-in-Ok-clause-flushes g c = λ s is current loose drawn uncited.
    let some : c.args.self.now.frozen ≡ Some c.unwrap-frozen.result.now = search rules in
    let entries = c.unwrap-frozen.result.now.entries in
    let IsAlone : List Header → Type 0 = λ headers. IsTrue c.is_clear-alone.result ↔ ((0 < length entries) × All (IsClearOf (span_of entries)) headers) in
    let headers = map (λ file. file.header) (files_of c.args.version.now) in
    let clear = subst IsAlone (append-nil headers ∙ sym (headers_same parts_in (levels_of c.args.version.now))) c.is_clear-alone.ensures in
    let made = c.in-Ok.ensures.made entries c.is_clear-alone.result c.in_ok-drafts.ensures.are in
    flush_steps s c.args.self.now (parts_by_level c.args.version.now) is current c.requires.writable.drawn c.unwrap-frozen.result.now some c.is_clear-alone.result clear made.0 made.1 made.2 made.3 _ _ made.4
    c.in-Ok.ensures.step.spelled loose drawn uncited

-- what was drafted of the frozen buffer
drafted : (state : State) (buffer : Buffered) (alone : Bool) (drafts : List Draft) → state.frozen ≡ Some buffer → AreDraftsOf state.manifest.config (merged buffer.entries state.pending alone) drafts
    → sum_by numbers_for drafts ≤ most_numbers (length buffer.entries) → AreDrafted state drafts
drafted state buffer alone drafts some are few = record {
  alone = alone;
  are = subst (λ frozen. AreDraftsOf state.manifest.config (merged (buffered frozen) state.pending alone) drafts) (sym some) are;
  few = subst (λ frozen. sum_by numbers_for drafts ≤ most_numbers (frozen_len frozen)) (sym some) few;
}

pub returns-in-Ok-clause-drafted : goal.returns-in-Ok-clause-drafted
returns-in-Ok-clause-drafted g c =
    let drafts = c.in_ok-drafts.drafts.items in
    let are = drafted c.args.self.now c.unwrap-frozen.result.now c.is_clear-alone.result drafts (search rules) c.in_ok-drafts.ensures.are c.in_ok-drafts.ensures.few in
    (drafts, are, c.in-Ok.ensures.few)

pub returns-in-Ok-clause-calls : goal.returns-in-Ok-clause-calls
returns-in-Ok-clause-calls g c =
    let made = c.in-Ok.ensures.made c.unwrap-frozen.result.now.entries c.is_clear-alone.result c.in_ok-drafts.ensures.are in
    flush_calls made.0 made.1 c.args.self.now _ _ made.2 made.4
