-- The step that installs files.
use Rattle.std.specs.Prelude.{◌≡◌, ◌<◌, ◌^◌, ℕ, Bool, List, ◌++◌, length}
use Rattle.lethe_base.specs.declared.name.Name.{Name}
use Rattle.lethe_manifest.specs.Followers.{follower}
use Rattle.lethe_manifest.specs.declared.manifest.Cited.{Cited}
use Rattle.lethe_manifest.specs.declared.manifest.Manifest.{Manifest}
use Rattle.lethe_flush.specs.declared.made.MadeFiles.{MadeFiles}
use Rattle.lethe_follows.specs.Merged.{Company}
use Rattle.lethe_state.specs.Left.{staying_with}
use Rattle.lethe_state.specs.declared.state.State.{State}
use Rattle.lethe_install.specs.Placed.{with_made}
use Rattle.lethe_install.specs.Left.{needed_of, unneeded_of}
use Rattle.lethe_install.specs.declared.inputs.Inputs.{Inputs}
use Rattle.lethe_install.specs.declared.steps.Installation.{Installation}

-- it cites these files and has the pending erases that stay beside them
abbrev pub installing_manifest : Company → State → List Cited → ℕ → Manifest
installing_manifest company state files number = follower state.manifest (record {
  no = number;
  count = state.count;
  erases = staying_with company state files;
  segments = state.manifest.segments;
  files = files;
})

-- The step writes the objects and cites the files in the level. Of the inputs' objects and the retired pages those go that aren't needed, and the others are left.
pub record IsInstallStep (company : Company) (state : State) (level : ℕ) (inputs : Inputs) (made : MadeFiles) (retired : List Name) (needs : Name → Bool) (installing : Installation) : Type 0 where
  pub headers_are : installing.headers.items ≡ made.headers.items
  pub objects : installing.step.objects.items ≡ made.objects.items
  pub merged : installing.step.merged.items ≡ inputs.numbers.items
  pub gone : installing.step.gone.items ≡ unneeded_of needs (inputs.names.items ++ retired)
  pub left : installing.left.items ≡ needed_of needs (inputs.names.items ++ retired)
  pub older : installing.step.older ≡ state.manifest.no
  pub manifest : installing.step.manifest ≡ installing_manifest company state (with_made level inputs.numbers.items inputs.above.items made.cited.items state.manifest.files) made.next
  pub few : length installing.step.manifest.files < 2 ^ 32
