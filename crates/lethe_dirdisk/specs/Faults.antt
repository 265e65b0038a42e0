-- What is known of a disk that tells nothing of what it holds: how often it failed.
use Rattle.std.specs.Prelude.{ℕ, Result, Ok, Err}
use Rattle.std.specs.FinMap.{empty}
use Rattle.lethe_base.specs.Counts.{counted}
use Rattle.lethe_disk.specs.Disk.{Seen}
use Rattle.lethe_disk.specs.declared.disk.DiskRefused.{DiskRefused}
use Rattle.lethe_disk.specs.declared.disk.DiskRefused.TheVariants.{Failed, NoMemory}

-- the count of faults after a call: one more where the device failed
abbrev pub faults_after : {T : Type 0} → Result T DiskRefused → ℕ → ℕ
faults_after (Ok value) faults = faults
faults_after (Err Failed) faults = counted faults
faults_after (Err NoMemory) faults = faults

-- stands where a disk is asked what it holds, and says nothing of it
abbrev pub untold : Seen
untold = record { directory = empty; moment = 0; left = λ moment c. Unit {0} }
