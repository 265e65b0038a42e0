use Rattle.std.proofs.Common.{◌≡◌, ◌∙◌, sym, refl, true≢false}
use Rattle.serde_json.specs.Data.{no_members}
use Rattle.serde_json.specs.View.{members_view}
use Rattle.lethe_cert.proofs.Members.{members_same, none_left, rest_same}
use Rattle.lethe_cert.proofs.form.certificate_of.Goals as goal

pub returns-in_err-digest-clause-none : goal.returns-in_err-digest-clause-none
returns-in_err-digest-clause-none c = λ none certificate is same.
    let second = rest_same _ _ _ _ _ _ (sym c.in_ok-before.ensures.some ∙ members_same _ _ same) in
    let third = rest_same _ _ _ _ _ _ (sym c.in_ok-clock.ensures.some ∙ second) in
    let fourth = rest_same _ _ _ _ _ _ (sym c.in_ok-number.ensures.some ∙ third) in
    c.in_err-digest.ensures.none refl certificate.digest no_members is fourth

pub returns-clause-none : goal.returns-clause-none
returns-clause-none c = λ none certificate is same.
    let second = rest_same _ _ _ _ _ _ (sym c.in_ok-before.ensures.some ∙ members_same _ _ same) in
    let third = rest_same _ _ _ _ _ _ (sym c.in_ok-clock.ensures.some ∙ second) in
    let fourth = rest_same _ _ _ _ _ _ (sym c.in_ok-number.ensures.some ∙ third) in
    let left : members_view c.take_digest.new.members.entries ≡ no_members = rest_same _ _ _ _ _ _ (sym c.in_ok-digest.ensures.some ∙ fourth) in
    absurd (true≢false (sym (c.is_empty.ensures.1 (none_left c.take_digest.new.members.entries left)) ∙ c.if-is_empty.false))
