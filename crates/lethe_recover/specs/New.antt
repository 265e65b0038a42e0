-- A new store.
use Rattle.std.specs.Prelude.{[], ◌∷◌, None}
use Rattle.lethe_base.specs.declared.config.Fields.{Fields}
use Rattle.lethe_manifest.specs.declared.manifest.Manifest.{Manifest}
use Rattle.lethe_stored.specs.Stored.{Stored}

-- its manifest
abbrev pub first_manifest : Fields → Manifest
first_manifest config = record { no = 2; config = config; clock = 0; count = 0; next = 3; certificate = None; erases = []; segments = 1 ∷ []; files = [] }

abbrev pub new_stored : Fields → Stored
new_stored config = record { manifest = first_manifest config; frozen = None; active = record { no = 1; records = [] }; files = [] }
