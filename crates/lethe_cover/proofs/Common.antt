-- The names that several of these proofs share: words of the base crate and of this one, laws of the base crate, and lemmas of std.
pub use Rattle.lethe_base.specs.Causes.{IsCause, IsErasedAt, cause_of, done_at, done_call, erases, is_eraser}
pub use Rattle.lethe_base.specs.Covered.{HasErase, IsCovered, IsNoErase}
pub use Rattle.lethe_base.specs.Covers.{Covers}
pub use Rattle.lethe_base.specs.Entries.{IsAscending, by_key, entry_of, pair_of}
pub use Rattle.lethe_base.specs.Fresh.{AreFresh, IsFresh}
pub use Rattle.lethe_base.specs.Held.{Holds, InBuffer, InFiles, IsFiled, IsRecorded, Shows, Tells}
pub use Rattle.lethe_base.specs.History.{Change, History, Map, Pair, after, change_at, clock_before, done, without_range}
pub use Rattle.lethe_base.specs.Keys.{Bytes, key_cmp, same_key}
pub use Rattle.lethe_base.specs.Layout.{Blind, Buffer, Erasing, File, Layout, Record, Written, buffer_of, entries_of, files_of, frozen_records, place_of, runs_of, written}
pub use Rattle.lethe_base.specs.Matching.{IsPut, answer_under, matches, pair_under}
pub use Rattle.lethe_base.specs.NewerAbove.{IsNewerAbove, IsNewestOf, IsOver}
pub use Rattle.lethe_base.specs.Placed.{IsAccepted, IsPlaced}
pub use Rattle.lethe_base.specs.Ranges.{Ends, in_range}
pub use Rattle.lethe_base.specs.SameMap.{IsMap, IsNewest}
pub use Rattle.lethe_base.specs.declared.call.Call.{Call}
pub use Rattle.lethe_base.specs.declared.call.Call.TheVariants.{Delete, Erase, Put, Tick, Work}
pub use Rattle.lethe_base.specs.declared.call.Did.TheVariants.{Done, Failed}
pub use Rattle.lethe_base.specs.declared.entry.Body.{Body}
pub use Rattle.lethe_base.specs.declared.entry.Entry.{Entry}
pub use Rattle.lethe_base.specs.declared.pending.Pending.{Pending}
pub use Rattle.lethe_cover.specs.Changes.{HasTime, IsChange, IsRemembered, IsSaid, followed}
pub use Rattle.lethe_cover.specs.Merged.{IsMerged, bared, body_under, left_of, newer_of, since_under, struck, time_under}
pub use Rattle.lethe_cover.specs.Moves.{IsMove, Move, Moves, files_in, runs_before, runs_then}
pub use Rattle.lethe_cover.specs.Outcomes.{EntriesCover, IsApplied, IsDropped, IsFrom, IsKept, IsOutcome, IsReplaced}
pub use Rattle.lethe_cover.specs.Steps.{IsCounted, accepted, erasing, frozen, next_place, put_entry, recorded, ticked, time_of, tomb_entry, with_done, with_failed}
pub use Rattle.lethe_base.proofs.CauseLaws.{cause_by, cause_is_first, erased_by, first_is_cause}
pub use Rattle.lethe_base.proofs.HeldLaws.{buffer_recorded, shown_held}
pub use Rattle.lethe_base.proofs.Histories.{after-push, change_at-push, clock_before-append, clock_before-end}
pub use Rattle.lethe_base.proofs.LayoutLaws.{none_in}
pub use Rattle.lethe_base.proofs.Newest.{first_is, first_or_rest, same_key-self, same_key-true}
pub use Rattle.std.proofs.Math.Logic.{⊎_elim, ⊎_map}
pub use Rattle.std.proofs.lemmas.Bool.{and_parts, cases_lt}
pub use Rattle.std.proofs.lemmas.Bool.Decides.{nat_tests}
pub use Rattle.std.proofs.lemmas.List.{length-map, length_push}
pub use Rattle.std.proofs.lemmas.List.Elements.{Contains-append_left, Contains-append_right, Contains-push, Contains-push_cases, filter_map-append}
pub use Rattle.std.specs.Cmp.Lexicographic.{nat_list_cmp_total}
pub use Rattle.std.specs.FinMap.Entries.{below_all, find, is_sorted}
