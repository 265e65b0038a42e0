use Rattle.std.proofs.Common.{◌≡◌, ◌+◌, ◌-◌, ◌++◌, ◌≤◌, ℕ, List, All, length, map, min, take, ap, sym, subst, ◌∙◌}
use Rattle.std.specs.List.{range_with_len}
use Rattle.lethe_base.specs.Limits.{max_place}
use Rattle.lethe_flush.specs.Added.{numbers_by}
use Rattle.lethe_flush.proofs.Numbers.{number_in}
use Rattle.lethe_flush.proofs.Pushed.{is_added, numbers_are, numbers_count, numbers_low}
use Rattle.lethe_flush.proofs.made.MadeFiles.add.Goals as goal
use Rattle.lethe_flush.proofs.made.MadeFiles.add.Goals.{After-deref}

there_is : (c : After-deref) → c.min-there.result ≡ min (length c.args.written.now) (length c.args.draft.pages)
there_is c = c.min-there.ensures ∙ ap (λ (pages : List (List ℕ)). min (length c.args.written.now) (length pages)) c.items-pages.ensures

same : (c : After-deref) → c.deref.result.now ≡ numbers_by c.args.self.now.next c.args.draft c.args.written.now
same c =
    let there = c.min-there.result in
    c.deref.ensures.value
    ∙ numbers_are c.args.draft c.args.self.now.next c.args.written.now there (there_is c) c.in_ok-numbers.numbers.items
    (c.in_ok-numbers.ensures ∙ ap (λ (pages : List (List ℕ)). map number_in (take there c.args.written.now) ++ range_with_len c.args.self.now.next (length pages - there)) c.items-pages.ensures)

pub numbered-requires-clause-count : goal.numbered-requires-clause-count
numbered-requires-clause-count c = ap length (same c) ∙ numbers_count c.args.draft c.args.self.now.next c.args.written.now

pub numbered-requires-clause-numbers : goal.numbered-requires-clause-numbers
numbered-requires-clause-numbers c = subst (All (λ number. number ≤ max_place)) (sym (same c)) (numbers_low c.args.draft c.args.self.now.next c.args.written.now c.requires.written c.requires.room)

pub returns-clause-added : goal.returns-clause-added
returns-clause-added c =
    let before = (goal.at.returns-clause-added c).After-deref in
    let old = c.args.self.now in
    let there = c.min-there.result in
    let number : old.next + (length c.items-pages.result.now - there) ≡ old.next + (length c.args.draft.pages - there) = ap (λ (pages : List (List ℕ)). old.next + (length pages - there)) c.items-pages.ensures in
    is_added c.args.draft old.next c.args.written.now there (there_is before) c.args.level c.args.upto c.deref.result.now (old.next + (length c.items-pages.result.now - there)) (same before) number
    c.in_ok-file.file c.in_ok-file.ensures old c.push.new.self c.in_ok-push.ensures.headers c.in_ok-push.ensures.cited c.in_ok-push.ensures.objects c.in_ok-push.ensures.next
