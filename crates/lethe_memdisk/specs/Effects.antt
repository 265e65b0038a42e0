-- What device calls did to a directory, and what a crash after them may leave. In each list the latest stands first.
use Rattle.std.specs.Prelude.{◌≡◌, ℕ, List, [], ◌∷◌, length, replicate, Bool, true, false}
use Rattle.std.specs.FinMap.{insert, remove}
use Rattle.lethe_base.specs.declared.name.Name.{Name}
use Rattle.lethe_disk.specs.Directory.{Directory, object, IsCreated, IsWritten, IsRemoved, IsSame}
use Rattle.lethe_memdisk.specs.Objects.{write_to}

pub data Effect : Type 0 where
  Created : Name → List ℕ → Effect
  Written : Name → ℕ → List ℕ → Effect
  Removed : Name → Effect
  Synced : Effect
  -- of a read, or of a call that failed
  Nothing : Effect

-- what a read gives after it
abbrev pub apply : Effect → Directory → Directory
apply (Created name bytes) now = insert now name bytes
apply (Written name at bytes) now = write_to (object now name) now name at bytes
apply (Removed name) now = remove now name
apply Synced now = now
apply Nothing now = now

abbrev pub after : Directory → List Effect → Directory
after start [] = start
after start (effect ∷ earlier) = apply effect (after start earlier)

-- what a crash may make of a directory in it
abbrev pub Step : Effect → Directory → Directory → Type 0
Step (Created name bytes) old new = IsCreated name old new
Step (Written name at bytes) old new = IsWritten name at (length bytes) old new
Step (Removed name) old new = IsRemoved name old new
Step Synced old new = IsSame old new
Step Nothing old new = IsSame old new

-- the images after it, of a disk that held this before and had these images
abbrev pub Leaves : Effect → Directory → (Directory → Type 0) → Directory → Type 0
Leaves Synced now images c = c ≡ now
Leaves effect now images c = (d : Directory) × images d × Step effect d c

-- the images of a disk on which start was synced before these
abbrev pub Images : Directory → List Effect → Directory → Type 0
Images start [] c = c ≡ start
Images start (effect ∷ earlier) c = Leaves effect (after start earlier) (Images start earlier) c

-- what one crash makes of an effect that no sync followed: the bytes are all the same, and an object
-- is there, or is gone, only where it keeps that
abbrev pub torn : ℕ → Bool → Effect → Effect
torn fill true (Created name bytes) = Created name (replicate (length bytes) fill)
torn fill false (Created name bytes) = Nothing
torn fill keep (Written name at bytes) = Written name at (replicate (length bytes) fill)
torn fill true (Removed name) = Removed name
torn fill false (Removed name) = Nothing
torn fill keep Synced = Nothing
torn fill keep Nothing = Nothing

-- what a read gave at the last sync, with what that crash made of the effects behind it
abbrev pub crashed : ℕ → Bool → Directory → List Effect → Directory
crashed fill keep start [] = start
crashed fill keep start (Synced ∷ earlier) = after start earlier
crashed fill keep start (effect ∷ earlier) = apply (torn fill keep effect) (crashed fill keep start earlier)
