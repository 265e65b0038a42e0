-- What is left of the objects that an install replaces, and of pages that were retired before.
use Rattle.std.specs.Prelude.{ℕ, not, Bool, List, ◌++◌, filter}
use Rattle.std.specs.List.{list_any}
use Rattle.lethe_base.specs.Names.{name_eq}
use Rattle.lethe_base.specs.declared.name.Name.{Name}
use Rattle.lethe_stored.specs.Files.{StoredFile, objects_of}

-- the name is among others
abbrev pub is_among : List Name → Name → Bool
is_among others name = list_any (λ other. name_eq other name) others

-- of names, those that something needs, and the others
abbrev pub needed_of : (Name → Bool) → List Name → List Name
needed_of needs names = filter needs names

abbrev pub unneeded_of : (Name → Bool) → List Name → List Name
unneeded_of needs names = filter (λ name. not (needs name)) names

-- of the objects of files that go, and of the retired pages, those that are still needed
abbrev pub left_of : (Name → Bool) → List StoredFile → List (Name × List ℕ) → List (Name × List ℕ)
left_of needs files retired = filter (λ named. needs named.0) (objects_of files ++ retired)
