-- The first expired file, and where it is looked for.
use Rattle.std.specs.Prelude.{ℕ, ◌+◌, ◌&&◌, Bool, nat_lt, List, [], ◌∷◌, if◌then◌else◌, Option, slice_get, option_map}
use Rattle.std.specs.List.{list_any}
use Rattle.lethe_base.specs.declared.config.Fields.{Fields}
use Rattle.lethe_base.specs.declared.shape.FileFacts.{FileFacts}
use Rattle.lethe_base.specs.declared.shape.Shape.{Shape}
use Rattle.lethe_due.specs.Due.{Due, first_of}
use Rattle.lethe_fade.specs.declared.rank.Age as fade
use Rattle.lethe_fade.specs.Expired.{expired, is_expired, is_passed}
use Rattle.lethe_fade.specs.Ranks.{age_cmp, lesser_of}
use Rattle.lethe_orders.specs.declared.age.Age.{Age}

-- the file of the first merge of an expired file
abbrev pub first_expired : Fields → ℕ → Shape → Option ℕ
first_expired fields clock shape = option_map (λ candidate. candidate.plan.file) (slice_get (expired fields clock shape) 0)

-- the files of the first of some levels that has an expired one; none where no level has
abbrev pub lowest_expired : Fields → ℕ → ℕ → List (List FileFacts) → List FileFacts
lowest_expired fields clock level [] = []
lowest_expired fields clock level (files ∷ deeper) =
    if nat_lt level fields.levels && list_any (is_expired fields clock level) files then files else lowest_expired fields clock (level + 1) deeper

-- the first file of a level's due list is expired
abbrev pub is_front_expired : Fields → ℕ → ℕ → Due → Bool
is_front_expired fields clock level due = is_passed fields clock level (option_map (λ first. first.1) (first_of due.files))

-- an age as the choice of a job has it
abbrev pub ranked : Age → fade.Age
ranked age = record { oldest = age.oldest; tombs = age.tombs; no = age.no }

abbrev pub older_of : Option Age → Age → Age
older_of = lesser_of (λ a b. age_cmp (ranked a) (ranked b))
