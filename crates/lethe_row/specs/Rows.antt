-- The changes of a row, and their records.
use Rattle.std.specs.Prelude.{◌≡◌, ◌<◌, ◌^◌, List}
use Rattle.lethe_base.specs.Limits.{IsKey, IsValue}
use Rattle.lethe_base.specs.declared.call.Call.{Call}
use Rattle.lethe_base.specs.declared.call.Call.TheVariants as call
use Rattle.lethe_header.specs.declared.header.Header.{Header}
use Rattle.lethe_segment.specs.declared.record.Record.{Record}
use Rattle.lethe_state.specs.Records.{IsDeleteRecord, erase_record, put_record}
use Rattle.lethe_state.specs.declared.state.State.{State}
use Rattle.lethe_row.specs.declared.asking.Asked.{Asked}
use Rattle.lethe_row.specs.declared.asking.Asked.TheVariants.{Put, Delete, Erase}

-- the call that makes the change
abbrev pub call_of : Asked → Call
call_of (Put key dkey value) = call.Put key dkey value
call_of (Delete key) = call.Delete key
call_of (Erase range) = call.Erase range

-- what is asked is within its limits
abbrev pub IsWithin : Asked → Type 0
IsWithin (Put key dkey value) = IsKey key × (dkey < 2 ^ 64) × IsValue value
IsWithin (Delete key) = IsKey key
IsWithin (Erase range) = (range.lo < range.hi) × (range.hi < 2 ^ 64)

-- the record of the change, as a state makes it of what it remembers
abbrev pub IsRecordOf : State → List Header → Asked → Record → Type 0
IsRecordOf state headers (Put key dkey value) next = next ≡ put_record state key dkey value
IsRecordOf state headers (Delete key) next = IsDeleteRecord state headers key next
IsRecordOf state headers (Erase range) next = next ≡ erase_record state range
