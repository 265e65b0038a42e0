use Rattle.std.proofs.Common.{◌≡◌, ◌<◌, ◌+◌, ℕ, inl, inr, Any, sym, ap, ◌∙◌, subst, arith}
use Rattle.lethe_header.specs.declared.header.Header.{Header}
use Rattle.lethe_segment.specs.declared.record.Record.TheVariants as of
use Rattle.lethe_advance.specs.Shown.{parts_in}
use Rattle.lethe_version.specs.Probing.{bound}
use Rattle.lethe_version.specs.Versions.{files_of, levels_of}
use Rattle.lethe_state.proofs.Leveled.{any_mapped, any_unmapped, clash, headers_same}
use Rattle.lethe_state.proofs.state.State.delete_record_behind.Goals as goal
use Rattle.lethe_state.proofs.state.State.delete_record_behind.Goals.{then-is_buffered_behind, else-is_buffered_behind}

pub returns-then-may_hold-clause-is : goal.returns-then-may_hold-clause-is
returns-then-may_hold-clause-is g c = λ then end is.
    let P : Header → Type 0 = λ header. 0 < bound c.args.key header in
    elim c.if-is_buffered_behind.branch [
      | then-is_buffered_behind w ↦ inl (inl ((c.is_buffered_behind.ensures then end is).0 w.if-is_buffered_behind.true), c.tomb_record_behind.ensures.is then end is)
      | else-is_buffered_behind w ↦ inl (
        inr (subst (Any P) (sym (headers_same parts_in (levels_of c.args.version.now))) (any_mapped P (λ file. file.header) (files_of c.args.version.now) (w.may_hold.ensures.exact.0 (sym w.value-is ∙ c.if-may_hold.true)))),
        c.tomb_record_behind.ensures.is then end is,
      )
    ]

pub returns-else-may_hold-clause-is : goal.returns-else-may_hold-clause-is
returns-else-may_hold-clause-is g c = λ then end is.
    let P : Header → Type 0 = λ header. 0 < bound c.args.key header in
    let count = is.count in
    let place : ◌≡◌ {A = ℕ} (c.args.self.now.count + 2) (then.count + 1) = omega (arith, count) in
    elim c.if-is_buffered_behind.branch [
      | then-is_buffered_behind w ↦ absurd (clash c.if-is_buffered_behind.value (w.value-is ∙ w.if-is_buffered_behind.true) c.if-may_hold.false)
      | else-is_buffered_behind w ↦ inr (
        λ held. elim held [
          | inl some ↦ clash c.is_buffered_behind.result ((c.is_buffered_behind.ensures then end is).1 some) w.if-is_buffered_behind.false
          | inr any ↦ clash w.may_hold.result (w.may_hold.ensures.exact.1 (any_unmapped P (λ file. file.header) (files_of c.args.version.now) (subst (Any P) (headers_same parts_in (levels_of c.args.version.now)) any))) (sym w.value-is ∙ c.if-may_hold.false)
        ],
        ap of.Blind place,
      )
    ]
