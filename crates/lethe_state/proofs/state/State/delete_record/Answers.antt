use Rattle.std.proofs.Common.{◌<◌, inl, inr, Any, sym, refl, ◌∙◌, subst}
use Rattle.lethe_header.specs.declared.header.Header.{Header}
use Rattle.lethe_advance.specs.Shown.{parts_in}
use Rattle.lethe_version.specs.Probing.{bound}
use Rattle.lethe_version.specs.Versions.{files_of, levels_of}
use Rattle.lethe_state.proofs.Leveled.{any_mapped, any_unmapped, clash, headers_same}
use Rattle.lethe_state.proofs.state.State.delete_record.Goals as goal
use Rattle.lethe_state.proofs.state.State.delete_record.Goals.{then-is_buffered, else-is_buffered}

pub returns-then-may_hold-clause-is : goal.returns-then-may_hold-clause-is
returns-then-may_hold-clause-is g c =
    let P : Header → Type 0 = λ header. 0 < bound c.args.key header in
    elim c.if-is_buffered.branch [
      | then-is_buffered w ↦ inl (inl (c.is_buffered.ensures.0 w.if-is_buffered.true), c.tomb_record.ensures.is)
      | else-is_buffered w ↦ inl (
        inr (subst (Any P) (sym (headers_same parts_in (levels_of c.args.version.now))) (any_mapped P (λ file. file.header) (files_of c.args.version.now) (w.may_hold.ensures.exact.0 (sym w.value-is ∙ c.if-may_hold.true)))),
        c.tomb_record.ensures.is,
      )
    ]

pub returns-else-may_hold-clause-is : goal.returns-else-may_hold-clause-is
returns-else-may_hold-clause-is g c =
    let P : Header → Type 0 = λ header. 0 < bound c.args.key header in
    elim c.if-is_buffered.branch [
      | then-is_buffered w ↦ absurd (clash c.if-is_buffered.value (w.value-is ∙ w.if-is_buffered.true) c.if-may_hold.false)
      | else-is_buffered w ↦ inr (
        λ held. elim held [
          | inl some ↦ clash c.is_buffered.result (c.is_buffered.ensures.1 some) w.if-is_buffered.false
          | inr any ↦ clash w.may_hold.result (w.may_hold.ensures.exact.1 (any_unmapped P (λ file. file.header) (files_of c.args.version.now) (subst (Any P) (headers_same parts_in (levels_of c.args.version.now)) any))) (sym w.value-is ∙ c.if-may_hold.false)
        ],
        refl,
      )
    ]
