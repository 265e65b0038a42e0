-- What stays as it is while files within another claim take the place of others, and no erase leaves.
use Rattle.std.proofs.Common.{◌≡◌, inl, inr, ℕ, ◌<◌, true, false, refl, sym, ◌∙◌, subst, arith}
use Rattle.std.specs.Prelude.{Contains}
use Rattle.std.specs.Ordering.{is_le}
use Rattle.std.proofs.lemmas.Bool.{and_from, cases_lt}
use Rattle.std.proofs.lemmas.List.Elements.{All-contains}
use Rattle.lethe_base.specs.Keys.{key_cmp}
use Rattle.lethe_cover.proofs.Common.{⊎_elim}
use Rattle.lethe_cover.proofs.Lists.{swapped}
use Rattle.lethe_fade.specs.Claims.{HasLevel, keys_of, meets}
use Rattle.lethe_fade.specs.Spans.{KeyRange, overlaps}
use Rattle.lethe_fade.specs.declared.claim.Claim.{Claim}
use Rattle.lethe_follows.specs.Merged.{at, range_of}
use Rattle.lethe_moves.specs.Files.{IsClearOf}
use Rattle.lethe_moves.proofs.KeyOrder.{IsUpto}
use Rattle.lethe_stored.specs.Files.{StoredFile, IsFile, file_of}
use Rattle.lethe_stored.specs.Levels.{AreRising}
use Rattle.lethe_stored.specs.Stored.{Stored, IsCoherent, count_of, pending_of}
use Rattle.lethe_stored.proofs.Leveled.{from_level, in_level}
use Rattle.lethe_install.proofs.ClaimsApart.{file_proper, inner_apart, keys_apart, spans_itself}
use Rattle.lethe_install.proofs.Swaps.{IsClaimed, IsSwapAt}

abbrev pub number_in : StoredFile → ℕ
number_in file = file.header.no

-- what the stores have in common while another job's outcome is installed
pub record IsStep (claim : Claim) (s t : Stored) : Type 0 where
  pub swaps : (level : ℕ) → IsSwapAt claim s.files t.files level
  pub config : t.manifest.config ≡ s.manifest.config
  pub pending : pending_of t ≡ pending_of s
  pub count : count_of t ≡ count_of s
  pub rising : AreRising t.files

overlap_itself : (range : KeyRange) → IsUpto range.lo range.hi → overlaps range range ≡ true
overlap_itself range proper = and_from (is_le (key_cmp range.lo range.hi)) (is_le (key_cmp range.lo range.hi)) proper proper

module _ (s t : Stored) (coherent : IsCoherent s) (after : IsCoherent t) (claim : Claim) (step : IsStep claim s t) (mine : Claim) (apart : meets claim mine ≡ false) where
  swap : (level : ℕ) → IsSwapAt claim s.files t.files level
  swap level = step.swaps level

  -- a file of both claims isn't there: its level and its keys are in both
  pub not_both : (level : ℕ) (file : StoredFile) → IsUpto (range_of file).lo (range_of file).hi → IsClaimed claim level file → IsClaimed mine level file → ⊥
  not_both level file proper one two =
      let none = inner_apart (keys_of claim) (keys_of mine) (range_of file) (range_of file) (keys_apart claim mine level one.0 two.0 apart) one.1 two.1 in
      let clash = overlap_itself (range_of file) proper in
      let bad : true ≡ false = sym clash ∙ none in
      cc

  -- a file that is claimed stays
  pub still_there : (level : ℕ) (file : StoredFile) → Contains s.files file → file.level ≡ level → IsClaimed mine level file → Contains (at level t.files) file
  still_there level file there at_level own =
      let was = subst (λ files. Contains files file) (swap level).was_is (in_level s.files level file there at_level) in
      subst (λ files. Contains files file) (sym (swap level).now_is) (⊎_elim (λ stays. stays)
      (λ went. absurd (not_both level file (file_proper s.manifest.next file (All-contains (IsFile s.manifest.next) s.files file coherent.each there)) ((swap level).gone_in file went) own))
      (swapped (swap level).before (swap level).gone (swap level).made (swap level).behind file was))

  -- what is made is clear of the keys that are claimed, in a level that both claims have
  pub apart_from : (level shared : ℕ) (file : StoredFile) → IsClaimed claim level file → HasLevel claim shared → HasLevel mine shared → overlaps (keys_of mine) (range_of file) ≡ false
  apart_from level shared file made one two =
      inner_apart (keys_of claim) (keys_of mine) (range_of file) (keys_of mine) (keys_apart claim mine shared one two apart) made.1 (spans_itself (keys_of mine))

  -- What lies below a level of the claim stays clear of its keys.
  pub still_clear : (above : ℕ) → HasLevel mine above → IsUpto (keys_of mine).lo (keys_of mine).hi
      → ((file : StoredFile) → Contains s.files file → above < file.level → IsClearOf (keys_of mine) (file_of file))
      → (file : StoredFile) → Contains t.files file → above < file.level → IsClearOf (keys_of mine) (file_of file)
  still_clear above own proper clear file there deeper =
      let level = file.level in
      let now = subst (λ files. Contains files file) (swap level).now_is (in_level t.files level file there refl) in
      ⊎_elim
      (λ stays. clear file (from_level s.files level file (subst (λ files. Contains files file) (sym (swap level).was_is) stays)).0 deeper)
      (λ came.
      let claimed = (swap level).made_in file came in
      let last = claimed.0.1 in
      elim (cases_lt above claim.first) [
        | inl less ↦ (swap level).clear (keys_of mine) proper above less clear file came
        | inr upto ↦ apart_from level above file claimed (upto, omega (arith, last, deeper)) own
      ])
      (swapped (swap level).before (swap level).made (swap level).gone (swap level).behind file now)
