-- What a call that is kept says of the directory before it, and of what it did. In each list the latest stands first.
use Rattle.std.specs.Prelude.{◌≡◌, ◌≢◌, ℕ, List, [], ◌∷◌, length, take, drop, replicate, Bool, true, false, IsSomeAnd}
use Rattle.std.specs.FinMap.{insert, remove}
use Rattle.lethe_disk.specs.Directory.{Directory, object, content}
use Rattle.lethe_memdisk.specs.Bytes.{restored, IsRange}
use Rattle.lethe_memdisk.specs.declared.past.Call.{Call}
use Rattle.lethe_memdisk.specs.declared.past.Call.TheVariants.{Create, Write, Byte, Remove, Sync, Nothing as Unchanged}
use Rattle.lethe_memdisk.specs.Effects.{Effect, apply, Created, Written, Removed, Synced, Nothing}

-- the directory before the call
abbrev pub undone : Call → Directory → Directory
undone (Create name len) now = remove now name
undone (Write name at len before) now = insert now name (restored (content now name) at len before.items)
undone (Byte name at before) now = insert now name (restored (content now name) at 1 (before ∷ []))
undone (Remove name before) now = insert now name before.items
undone Sync now = now
undone Unchanged now = now

-- what the call did
abbrev pub effect_of : Call → Directory → Effect
effect_of (Create name len) now = Created name (content now name)
effect_of (Write name at len before) now = Written name at (take len (drop at (content now name)))
effect_of (Byte name at before) now = Written name at (take 1 (drop at (content now name)))
effect_of (Remove name before) now = Removed name
effect_of Sync now = Synced
effect_of Unchanged now = Nothing

-- what is kept of the call agrees with the directory after it
abbrev pub Fits : Call → Directory → Type 0
Fits (Create name len) now = IsSomeAnd (object now name) (λ bytes. length bytes ≡ len)
Fits (Write name at len before) now = IsSomeAnd (object now name) (λ bytes. IsRange at len (length before.items) (length bytes))
Fits (Byte name at before) now = IsSomeAnd (object now name) (λ bytes. IsRange at 1 1 (length bytes))
Fits (Remove name before) now = Unit {0}
Fits Sync now = Unit {0}
Fits Unchanged now = Unit {0}

abbrev pub start_of : Directory → List Call → Directory
start_of now [] = now
start_of now (call ∷ earlier) = start_of (undone call now) earlier

abbrev pub effects_of : Directory → List Call → List Effect
effects_of now [] = []
effects_of now (call ∷ earlier) = effect_of call now ∷ effects_of (undone call now) earlier

-- each call fits, and what it did makes the directory after it of the one before
abbrev pub Follows : Directory → List Call → Type 0
Follows now [] = Unit {0}
Follows now (call ∷ earlier) = Fits call now × (apply (effect_of call now) (undone call now) ≡ now) × Follows (undone call now) earlier

-- what a crash makes of the call, where no sync followed
abbrev pub torn_call : ℕ → Bool → Call → Effect
torn_call fill true (Create name len) = Created name (replicate len fill)
torn_call fill false (Create name len) = Nothing
torn_call fill keep (Write name at len before) = Written name at (replicate len fill)
torn_call fill keep (Byte name at before) = Written name at (fill ∷ [])
torn_call fill true (Remove name before) = Removed name
torn_call fill false (Remove name before) = Nothing
torn_call fill keep Sync = Nothing
torn_call fill keep Unchanged = Nothing

abbrev pub tear : ℕ → Bool → Directory → Call → Directory
tear fill keep now call = apply (torn_call fill keep call) now

-- none of them is a sync
abbrev pub HasNoSync : List Call → Type 0
HasNoSync [] = Unit {0}
HasNoSync (call ∷ calls) = (call ≢ Sync) × HasNoSync calls

-- there are none, or the latest is a sync
abbrev pub IsAtSync : List Call → Type 0
IsAtSync [] = Unit {0}
IsAtSync (call ∷ earlier) = call ≡ Sync
