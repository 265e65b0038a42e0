-- Why a read of a store is refused.
use Rattle.lethe_base.specs.declared.refused.Refused.{Refused}
use Rattle.lethe_base.specs.declared.refused.Refused.TheVariants.{Fault, Stopped, Backwards, Pinned, NothingDue, Cancelled, Exhausted, ReadFault, NoMemory, Damaged}
use Rattle.lethe_disk.specs.declared.cursor.ReadRefused.{ReadRefused}
use Rattle.lethe_disk.specs.declared.cursor.ReadRefused.TheVariants as disk

-- why a read may be refused
abbrev pub IsReadRefusal : Refused → Type 0
IsReadRefusal (ReadFault before after) = Unit {0}
IsReadRefusal NoMemory = Unit {0}
IsReadRefusal (Damaged name) = Unit {0}
IsReadRefusal (Fault place before after) = ⊥
IsReadRefusal (Stopped at) = ⊥
IsReadRefusal (Backwards clock) = ⊥
IsReadRefusal (Pinned pin limit) = ⊥
IsReadRefusal NothingDue = ⊥
IsReadRefusal (Cancelled begun now) = ⊥
IsReadRefusal (Exhausted last) = ⊥

-- the same refusal of a read, as the store tells it
abbrev pub told_as : ReadRefused → Refused
told_as (disk.ReadFault before after) = ReadFault before after
told_as (disk.Damaged name) = Damaged name
told_as disk.NoMemory = NoMemory
