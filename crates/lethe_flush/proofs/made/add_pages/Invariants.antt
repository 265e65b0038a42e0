use Rattle.std.proofs.Common.{◌≡◌, ◌+◌, ◌++◌, map, length}
use Rattle.lethe_flush.specs.Added.{numbered}
use Rattle.lethe_flush.specs.Made.{named_of}
use Rattle.lethe_flush.proofs.made.add_pages.Given as goal

-- with the pages that are left it has all
abbrev pub invariant-loop-page : goal.invariant-loop-page
invariant-loop-page l = record {
  objects : map named_of l.objects.items ++ numbered l.next l.page-iterator.rest.items ≡ map named_of l.initial.objects.items ++ numbered l.first l.initial.page-iterator.rest.items;
  next : l.next + length l.page-iterator.rest.items ≡ l.first + length l.initial.page-iterator.rest.items;
}
