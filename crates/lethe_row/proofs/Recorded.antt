-- The record of a change of a row makes what is stored stand for the history with it.
use Rattle.std.proofs.Common.{◌<◌, ℕ, List, length, sym, subst}
use Rattle.lethe_base.specs.History.{History}
use Rattle.lethe_base.specs.Limits.{max_place}
use Rattle.lethe_base.specs.declared.call.Call.TheVariants as call
use Rattle.lethe_cover.specs.Steps.{with_done}
use Rattle.lethe_segment.specs.declared.record.Record.{Record}
use Rattle.lethe_stored.specs.Files.{Parts}
use Rattle.lethe_stored.specs.Kept.{IsFor}
use Rattle.lethe_stored.specs.Stored.{IsCoherent, Stored, appended}
use Rattle.lethe_state.specs.Records.{headers_in}
use Rattle.lethe_state.specs.Remembered.{IsCurrent, Remembers}
use Rattle.lethe_state.specs.declared.state.State.{State}
use Rattle.lethe_state.proofs.Recording.{delete_recorded, erase_recorded, put_recorded}
use Rattle.lethe_row.specs.Rows.{IsRecordOf, IsWithin, call_of}
use Rattle.lethe_row.specs.declared.asking.Asked.{Asked}
use Rattle.lethe_row.specs.declared.asking.Asked.TheVariants.{Put, Delete, Erase}

pub recorded : (h : History) (s : Stored) (state : State) (levels : List (List Parts)) → Remembers s state levels → IsCurrent s state → IsFor h s → length h < max_place → (caller : ℕ) (asked : Asked) (next : Record)
    → IsWithin asked → IsRecordOf state (headers_in levels) asked next → IsCoherent (appended s next) × IsFor (with_done h caller (call_of asked)) (appended s next)
recorded h s state levels is current stands few caller (Put key dkey value) next within made =
    subst (λ (next : Record). IsCoherent (appended s next) × IsFor (with_done h caller (call.Put key dkey value)) (appended s next)) (sym made)
    (put_recorded h s state levels is current stands few caller key within.0 dkey value within.1 within.2)
recorded h s state levels is current stands few caller (Delete key) next within made = delete_recorded h s state levels is current stands few caller key next within made
recorded h s state levels is current stands few caller (Erase range) next within made =
    subst (λ (next : Record). IsCoherent (appended s next) × IsFor (with_done h caller (call.Erase range)) (appended s next)) (sym made)
    (erase_recorded h s state levels is current stands few caller range within.0 within.1)
