-- The files that a flush or a merge makes of a list of entries.
use Rattle.std.specs.Prelude.{◌≡◌, ◌≢◌, ◌↔◌, ℕ, ◌<◌, List, All, AllPairs, Contains}
use Rattle.lethe_base.specs.Layout.{File}
use Rattle.lethe_base.specs.Held.{InFiles}
use Rattle.lethe_base.specs.declared.entry.Entry.{Entry}
use Rattle.lethe_moves.specs.Files.{IsTiled, IsTight, IsClearOf, keys_of}

-- Together the files have these entries and no other, and no key is in two of them. They are swept up to a place.
pub record AreMade (entries : List Entry) (upto : ℕ) (made : List File) : Type 0 where
  pub has : (entry : Entry) → InFiles made entry ↔ Contains entries entry
  pub tiled : All IsTiled made
  pub tight : All (λ file. All IsTight file.tiles) made
  pub apart : AllPairs (λ file other. IsClearOf (keys_of file) other) made
  pub swept : All (λ file. file.swept ≡ upto) made

-- each has a number of its own, above those of all files that were there
pub record AreNew (old made : List File) : Type 0 where
  pub distinct : AllPairs (λ file other. file.no ≢ other.no) made
  pub above : All (λ file. All (λ other. other.no < file.no) old) made
