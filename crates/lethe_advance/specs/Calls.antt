-- How many device calls a step takes at most.
use Rattle.std.specs.Prelude.{ℕ, ◌+◌, List, length, sum_by}
use Rattle.lethe_header.specs.Facts.{lines_of}
use Rattle.lethe_advance.specs.declared.new_header.NewHeader.{NewHeader}
use Rattle.lethe_advance.specs.declared.step.Step.{Step}

-- the pages of the files that come, each of which is opened
abbrev pub opened_by : List NewHeader → ℕ
opened_by headers = sum_by (λ new. length (lines_of new.header.tiles)) headers

-- Each object of the step is created, and the manifest and its gate. Each page is opened. Each name that goes is removed, and the older gate and its manifest.
-- There is a sync behind the objects, behind the manifest, behind the gate and behind the removals.
abbrev pub most_calls : List NewHeader → Step → ℕ
most_calls headers step = (length step.objects.items + 2) + opened_by headers + (length step.gone.items + 2) + 4
