use Rattle.std.proofs.Common.{◌≡◌, ℕ, Some, ap, ◌∙◌}
use Rattle.lethe_base.specs.declared.name.Kind.{Kind}
use Rattle.lethe_dirdisk.proofs.file_name.read_parts.Goals as goal

pub returns : goal.returns
returns c = λ name small.
    let kind = c.kind_of.ensures name.kind in
    let number = c.read_number.ensures name.no small in
    let was_kind = c.in_ok-kind.was in
    let was_number = c.in_ok-no.was in (
      λ same.
          let kinds : c.in_ok-kind.kind ≡ name.kind = cc in
          let numbers : c.in_ok-no.no ≡ name.no = cc in
          (kind.0 (was_kind ∙ ap (λ (k : Kind). Some k) kinds), number.0 (was_number ∙ ap (λ (n : ℕ). Some n) numbers)),
      λ parts.
          let told_kind = kind.1 parts.0 in
          let told_number = number.1 parts.1 in
          let kinds : c.in_ok-kind.kind ≡ name.kind = cc in
          let numbers : c.in_ok-no.no ≡ name.no = cc in
          λ i. Some (record { kind = kinds i; no = numbers i }),
    )
