-- Which files may have a key.
use Rattle.std.specs.Prelude.{◌≡◌, ℕ, List, ◌++◌, All}
use Rattle.lethe_base.specs.Keys.{Bytes}
use Rattle.lethe_file.specs.Finding.{allowed_pages}
use Rattle.lethe_header.specs.declared.header.Header.{Header}

-- at most so many pages of the file are fetched to find the key
abbrev pub bound : Bytes → Header → ℕ
bound key header = allowed_pages key header.tiles

-- some of the files, which stand in a row; no page of another one may have the key
abbrev pub IsNarrowed : {F : Type 0} → (F → Header) → Bytes → List F → List F → Type 0
IsNarrowed {F = F} header key files some = (before : List F) × (behind : List F) × (files ≡ before ++ (some ++ behind)) × All (λ file. bound key (header file) ≡ 0) before × All (λ file. bound key (header file) ≡ 0) behind
