use Rattle.std.proofs.Common.{◌≡◌, ◌+◌, ◌-◌, ◌++◌, ◌≤◌, ℕ, List, All, length, map, ap, sym, subst, ◌∙◌, arith}
use Rattle.std.specs.List.{range_with_len}
use Rattle.lethe_base.specs.Limits.{max_place}
use Rattle.lethe_flush.proofs.Numbers.{number_in}
use Rattle.lethe_remade.specs.Making.{numbers_by}
use Rattle.lethe_remade.proofs.Taken.{is_made, numbers_count, numbers_low}
use Rattle.lethe_remade.proofs.making.make_file.Goals as goal
use Rattle.lethe_remade.proofs.making.make_file.Goals.{After-deref}

same : (c : After-deref) → c.deref.result.now ≡ numbers_by c.args.written.now c.args.first c.args.draft
same c =
    c.deref.ensures.value ∙ c.in_ok-numbers.ensures
    ∙ ap (λ (pages : List (List ℕ)). map number_in c.args.written.now ++ range_with_len c.args.first (length pages - length c.args.written.now)) c.items-pages.ensures

pub overflow_sub-more : goal.overflow_sub-more
overflow_sub-more c = let long = ap length c.items-pages.ensures in omega (arith, long, c.requires.few)

pub numbered-requires-clause-count : goal.numbered-requires-clause-count
numbered-requires-clause-count c = ap length (same c) ∙ numbers_count c.args.draft c.args.first c.args.written.now c.requires.few

pub numbered-requires-clause-numbers : goal.numbered-requires-clause-numbers
numbered-requires-clause-numbers c = subst (All (λ number. number ≤ max_place)) (sym (same c)) (numbers_low c.args.draft c.args.first c.args.written.now c.requires.written c.requires.room)

pub returns : goal.returns
returns c =
    let before = (goal.at.returns c).After-deref in
    let number = ap (λ (pages : List (List ℕ)). c.args.first + (length pages - length c.args.written.now)) c.items-pages.ensures in
    is_made c.args.draft c.args.first c.args.written.now c.args.level c.args.upto c.deref.result.now (c.args.first + (length c.items-pages.result.now - length c.args.written.now)) (same before) number
    c.in_ok-file.file c.in_ok-file.ensures c.none-made.result c.push.new.self c.none-made.ensures.headers c.none-made.ensures.cited c.none-made.ensures.objects c.none-made.ensures.next
    c.in_ok-push.ensures.headers c.in_ok-push.ensures.cited c.in_ok-push.ensures.objects c.in_ok-push.ensures.next
