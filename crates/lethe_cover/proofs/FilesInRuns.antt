-- The files of levels and of runs, and runs each of which is over the ones behind it.
use Rattle.std.proofs.Common.{◌≡◌, ◌⊎◌, List, [], ◌∷◌, ◌++◌, append_assoc, map, Contains, refl, ap, sym, ◌∙◌, subst}
use Rattle.std.proofs.lemmas.Grind.{flat_map-append}
use Rattle.std.proofs.lemmas.List.{map-append}
use Rattle.std.proofs.lemmas.List.Elements.{Contains-append_cases}
use Rattle.lethe_cover.proofs.Common.{Contains-append_left, Contains-append_right, File, runs_of, InFiles, IsOver, Entry, files_in}
use Rattle.lethe_cover.specs.Flushes.{with_newest}
use Rattle.lethe_cover.proofs.Lists.{Pairs, flat_from, flat_in, pairs_append, pairs_parts}

-- files as runs of their own
abbrev pub singles : List File → List (List File)
singles files = map (λ file. file ∷ []) files

pub files_singles : (files : List File) → files_in (singles files) ≡ files
files_singles [] = refl
files_singles (file ∷ files) = ap (λ files. file ∷ files) (files_singles files)

-- the runs have the files of the levels
pub files_runs : (levels : List (List File)) → files_in (runs_of levels) ≡ files_in levels
files_runs [] = refl
files_runs (newest ∷ deeper) = flat_map-append (λ files. files) (singles newest) deeper ∙ ap (λ files. files ++ files_in deeper) (files_singles newest)

pub runs_file : (levels : List (List File)) (file : File) → Contains (files_in (runs_of levels)) file → Contains (files_in levels) file
runs_file levels file there = subst (λ files. Contains files file) (files_runs levels) there

pub file_runs : (levels : List (List File)) (file : File) → Contains (files_in levels) file → Contains (files_in (runs_of levels)) file
file_runs levels file there = subst (λ files. Contains files file) (sym (files_runs levels)) there

-- newer files are runs above the others
pub runs_newest : (made : List File) (levels : List (List File)) → runs_of (with_newest made levels) ≡ singles made ++ runs_of levels
runs_newest made [] = refl
runs_newest made (newest ∷ deeper) = ap (λ runs. runs ++ deeper) (map-append (λ file. file ∷ []) made newest) ∙ append_assoc (singles made) (singles newest) deeper

pub files_newest : (made : List File) (levels : List (List File)) → files_in (with_newest made levels) ≡ made ++ files_in levels
files_newest made [] = refl
files_newest made (newest ∷ deeper) = append_assoc made newest (files_in deeper)

-- an entry of some files is one of more files
abbrev pub in_more : {entry : Entry} {files more : List File} → (is : InFiles files entry) → ((file : File) → Contains files file → Contains more file) → InFiles more entry
in_more is to = record { file = is.file; there = to is.file is.there; spelled = is.spelled }

-- an entry of some files is one of those that its file is among
abbrev pub refiled : {entry : Entry} {files others : List File} → (is : InFiles files entry) → Contains others is.file → InFiles others entry
refiled is there = record { file = is.file; there = there; spelled = is.spelled }

pub files_left : (a b : List (List File)) (file : File) → Contains (files_in a) file → Contains (files_in (a ++ b)) file
files_left a b file there = subst (λ files. Contains files file) (sym (flat_map-append (λ files. files) a b)) (Contains-append_left (files_in a) (files_in b) file there)

pub files_right : (a b : List (List File)) (file : File) → Contains (files_in b) file → Contains (files_in (a ++ b)) file
files_right a b file there = subst (λ files. Contains files file) (sym (flat_map-append (λ files. files) a b)) (Contains-append_right (files_in a) (files_in b) file there)

pub files_cases : (a b : List (List File)) (file : File) → Contains (files_in (a ++ b)) file → Contains (files_in a) file ⊎ Contains (files_in b) file
files_cases a b file there = Contains-append_cases (files_in a) (files_in b) file (subst (λ files. Contains files file) (flat_map-append (λ files. files) a b) there)

-- of runs each of which is over the ones behind it, the first ones are over the others
pub runs_over : (a b : List (List File)) → Pairs IsOver (a ++ b) → IsOver (files_in a) (files_in b)
runs_over a b pairs entry older above below same =
    let one = flat_from (λ files. files) a above.file above.there in
    let two = flat_from (λ files. files) b below.file below.there in
    (pairs_parts IsOver a b pairs).2 one.0 two.0 one.1 two.1 entry older (refiled above one.2) (refiled below two.2) same

pub runs_append : (a b : List (List File)) → Pairs IsOver a → Pairs IsOver b → IsOver (files_in a) (files_in b) → Pairs IsOver (a ++ b)
runs_append a b first second over = pairs_append IsOver a b first second (λ x y left right entry older above below same. over entry older
    (in_more above (λ file there. flat_in (λ files. files) a x file left there)) (in_more below (λ file there. flat_in (λ files. files) b y file right there)) same)
