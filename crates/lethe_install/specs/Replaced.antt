-- How what a sweep leaves of a file stands in the file's place.
use Rattle.std.specs.Prelude.{◌≡◌, ℕ, ◌==◌, if◌then◌else◌, List, [], ◌∷◌, map, flat_map}
use Rattle.lethe_base.specs.declared.name.Name.{Name}
use Rattle.lethe_advance.specs.declared.new_header.NewHeader.{NewHeader}
use Rattle.lethe_file.specs.Agreement.{page_name}
use Rattle.lethe_header.specs.Facts.{lines_of}
use Rattle.lethe_manifest.specs.declared.manifest.Cited.{Cited}
use Rattle.lethe_stored.specs.Files.{StoredFile}
use Rattle.lethe_install.specs.Inputs.{names_of}
use Rattle.lethe_install.specs.Left.{is_among, unneeded_of}
use Rattle.lethe_install.specs.declared.inputs.Inputs.{Inputs}

-- the files behind the first one of that number
abbrev pub behind : ℕ → List Cited → List Cited
behind number [] = []
behind number (file ∷ files) = if file.no == number then files else behind number files

-- the names of the pages of a file that comes
abbrev pub pages_in : NewHeader → List Name
pages_in new = map (λ line. page_name line.no) (lines_of new.header.tiles)

-- of the names of a file's header and pages, those that no page of the files that come has
abbrev pub names_gone : StoredFile → List NewHeader → List Name
names_gone file made = unneeded_of (is_among (flat_map pages_in made)) (names_of file)

-- The file goes, and of its names those that stand in none of the files that come, which stand in front of the files that stood behind it.
pub record IsReplaced (file : StoredFile) (made : List NewHeader) (cited : List Cited) (inputs : Inputs) : Type 0 where
  pub numbers : inputs.numbers.items ≡ file.header.no ∷ []
  pub above : inputs.above.items ≡ map (λ other. other.no) (behind file.header.no cited)
  pub names : inputs.names.items ≡ names_gone file made
