-- What a store says of its keys and erases was done in its history.
use Rattle.std.specs.Prelude.{◌≡◌, ◌⊎◌, ℕ, ◌<◌, IsTrue, Some}
use Rattle.lethe_base.specs.Keys.{Bytes}
use Rattle.lethe_base.specs.Ranges.{Ends, in_range}
use Rattle.lethe_base.specs.History.{History, clock_before}
use Rattle.lethe_base.specs.Causes.{done_at}
use Rattle.lethe_base.specs.declared.call.Call.TheVariants.{Put, Delete, Erase}
use Rattle.lethe_base.specs.declared.entry.Body.{Body}
use Rattle.lethe_base.specs.declared.entry.Body.TheVariants as body
use Rattle.lethe_base.specs.declared.entry.Entry.{Entry}
use Rattle.lethe_base.specs.declared.pending.Pending.{Pending}

-- a done put of the key at the place, and behind it a done erase that has its delete key in range
pub record IsErasedPut (h : History) (seq : ℕ) (key : Bytes) : Type 0 where
  pub dkey : ℕ
  pub value : Bytes
  pub put : done_at h seq ≡ Some (Put key dkey value)
  pub place : ℕ
  pub range : Ends
  pub erase : done_at h place ≡ Some (Erase range)
  pub later : seq < place
  pub matched : IsTrue (in_range range dkey)

-- what an entry says of its key is what was done at its place; a tombstone may stand where an erase matched a put
abbrev pub IsPlaced : History → ℕ → Bytes → Body → Type 0
IsPlaced h seq key (body.Put dkey value) = done_at h seq ≡ Some (Put key dkey value)
IsPlaced h seq key body.Tomb = (done_at h seq ≡ Some (Delete key)) ⊎ IsErasedPut h seq key

-- the erase was done at its place, by its range and at its time
pub record IsAccepted (h : History) (erase : Pending) : Type 0 where
  pub done : done_at h erase.seq ≡ Some (Erase erase.range)
  pub timed : erase.time ≡ clock_before h erase.seq

-- each entry that is held, and each erase that is told of, was done at its place
pub record ArePlaced (h : History) (holds : Entry → ℕ → Type 0) (tells : Pending → Type 0) : Type 0 where
  pub entries : (entry : Entry) (swept : ℕ) → holds entry swept → IsPlaced h entry.seq entry.key entry.body
  pub erases : (erase : Pending) → tells erase → IsAccepted h erase
