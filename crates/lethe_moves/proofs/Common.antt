-- The names that several of these proofs share.
pub use Rattle.std.proofs.lemmas.Grind.{flat_map-append}
pub use Rattle.std.proofs.lemmas.List.{map-append}
pub use Rattle.std.proofs.lemmas.List.Elements.{All-contains, Contains-append_cases}
pub use Rattle.std.specs.List.{cons_option}
pub use Rattle.std.specs.Ordering.{is_le}
pub use Rattle.std.specs.declared.cmp.Ordering.TheVariants.{Less}
pub use Rattle.lethe_base.specs.Layout.{Tile}
pub use Rattle.lethe_base.specs.Shapes.{IsBare, facts_of, is_tomb, lower_key, oldest_of, upper_key}
pub use Rattle.lethe_base.specs.declared.shape.FileFacts.{FileFacts}
pub use Rattle.lethe_cover.proofs.Common.{⊎_elim, ⊎_map, Buffer, Bytes, Contains-append_left, Contains-append_right, Covers, Entry, Erase, File, History, Holds, InBuffer, InFiles, IsAccepted, IsApplied, IsAscending, IsCounted, IsFiled, IsMove, IsOutcome, IsOver, Layout, Move, Pending, bared, buffer_of, clock_before, done_at, entries_of, files_in, files_of, first_is, first_or_rest, frozen_records, key_cmp, nat_list_cmp_total, none_in, runs_of, struck, written}
pub use Rattle.lethe_cover.specs.Moves.{IsApart}
pub use Rattle.lethe_cover.proofs.FilesInRuns.{files_left, files_right, files_runs, files_singles, singles}
pub use Rattle.lethe_cover.proofs.Lists.{flat_from, flat_in, in_map}
pub use Rattle.lethe_cover.proofs.Reading.{spelled_from, spelled_in}
pub use Rattle.lethe_fade.specs.Spans.{KeyRange, hull, joined, overlaps, range_of}
pub use Rattle.lethe_fade.proofs.MeetingLaws.{key_itself, key_upto}
pub use Rattle.lethe_merge.specs.Merge.{left_of_each, merged}
pub use Rattle.lethe_moves.specs.Files.{IsBounded, IsClearOf, IsLower, IsTight, IsTiled, IsWithin, entries_in, hull_of_files, keys_of}
pub use Rattle.lethe_moves.specs.Made.{AreMade, AreNew}
pub use Rattle.lethe_moves.specs.Merges.{IsBelow, Merge, inputs_of}
pub use Rattle.lethe_moves.specs.Reaches.{Follows}
