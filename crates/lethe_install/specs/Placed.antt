-- Where a manifest cites the files that a job made.
use Rattle.std.specs.Prelude.{ℕ, ◌==◌, ◌&&◌, ◌||◌, nat_lt, not, Bool, List, ◌++◌, filter}
use Rattle.std.specs.List.{list_any}
use Rattle.lethe_manifest.specs.declared.manifest.Cited.{Cited}

abbrev pub is_among : List ℕ → ℕ → Bool
is_among numbers number = list_any (λ no. no == number) numbers

-- its number is none of those that go
abbrev pub stays : List ℕ → Cited → Bool
stays gone file = not (is_among gone file.no)

-- it stands in a deeper level, or in this one and has one of these numbers
abbrev pub is_behind : ℕ → List ℕ → Cited → Bool
is_behind level above file = nat_lt level file.level || (file.level == level && is_among above file.no)

abbrev pub is_before : ℕ → List ℕ → Cited → Bool
is_before level above file = not (is_behind level above file)

-- the files that stay, with these between them
abbrev pub with_made : ℕ → List ℕ → List ℕ → List Cited → List Cited → List Cited
with_made level gone above made old = filter (is_before level above) (filter (stays gone) old) ++ (made ++ filter (is_behind level above) (filter (stays gone) old))
