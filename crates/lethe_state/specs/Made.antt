-- What the steps are made of.
use Rattle.std.specs.Prelude.{◌≡◌, ℕ, ◌+◌, List, [], ◌∷◌, ◌++◌, drop, slice_index}
use Rattle.lethe_manifest.specs.declared.manifest.Cited.{Cited}
use Rattle.lethe_manifest.specs.declared.manifest.Manifest.{Manifest}
use Rattle.lethe_manifest.specs.Followers.{follower}
use Rattle.lethe_stored.specs.Stored.{segment_name}
use Rattle.lethe_advance.specs.declared.new_header.NewHeader.{NewHeader}
use Rattle.lethe_advance.specs.declared.step.Step.{Step}
use Rattle.lethe_flush.specs.declared.made.MadeFiles.{MadeFiles}
use Rattle.lethe_state.specs.declared.state.State.{State}

-- it cites an empty segment behind the others
abbrev pub freezing_manifest : State → Manifest
freezing_manifest state = follower state.manifest (record {
  no = state.next + 1;
  count = state.count;
  erases = state.manifest.erases;
  segments = state.manifest.segments ++ state.next ∷ [];
  files = state.manifest.files;
})

-- it lacks the first segment, cites these files in front of the others and has the pending erases
abbrev pub flushing_manifest : State → List Cited → ℕ → Manifest
flushing_manifest state cited number = follower state.manifest (record {
  no = number;
  count = state.count;
  erases = state.pending;
  segments = drop 1 state.manifest.segments;
  files = cited ++ state.manifest.files;
})

-- the step writes the objects and cites the files, and the first segment goes
pub record IsFlushStep (state : State) (made : MadeFiles) (headers : List NewHeader) (step : Step) : Type 0 where
  pub headers_are : headers ≡ made.headers.items
  pub objects : step.objects.items ≡ made.objects.items
  pub merged : step.merged.items ≡ []
  pub older : step.older ≡ state.manifest.no
  pub manifest : step.manifest ≡ flushing_manifest state made.cited.items made.next
  pub gone : step.gone.items ≡ segment_name (slice_index state.manifest.segments 0) ∷ []
