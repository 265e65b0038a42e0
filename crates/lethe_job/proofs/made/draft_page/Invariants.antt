use Rattle.std.proofs.Common.{◌≡◌, ◌<◌, [], length, get_or, drop}
use Rattle.lethe_build.specs.Drafts.{pages_in}
use Rattle.lethe_job.proofs.made.draft_page.Given as goal

-- the page stands at that place behind the first drafts
abbrev pub invariant-loop-draft : goal.invariant-loop-draft
invariant-loop-draft l = record {
  within : l.left < length (pages_in (drop l.draft-index l.drafts));
  is : get_or (pages_in (drop l.draft-index l.drafts)) l.left [] ≡ get_or (pages_in l.drafts) l.place [];
}
