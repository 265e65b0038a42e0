-- Sources whose cursors weren't asked.
use Rattle.std.proofs.Common.{◌≡◌, List, [], ◌∷◌, ◌++◌, map, All, refl, ap}
use Rattle.std.specs.List.{flat_map}
use Rattle.std.proofs.lemmas.List.Elements.{All-map}
use Rattle.lethe_base.specs.Entries.{IsAscending}
use Rattle.lethe_base.specs.declared.entry.Entry.{Entry}
use Rattle.lethe_merge.specs.declared.source.Head.TheVariants.{Unasked, Ended}
use Rattle.lethe_merge.specs.declared.source.Source.{Source}
use Rattle.lethe_merge.specs.Sources.{IsSound, left_in}

abbrev pub unasked : {C : Type 0} → C → Source C
unasked cursor = record { cursor = cursor; head = Unasked }

module _ {C : Type 0} (tells : Type 0) (may_ask sound : C → Type 0) (left : C → List Entry) (cursors : List C) where
  pub begins-again : All may_ask cursors → All (λ source. may_ask source.cursor) (map unasked cursors)
  begins-again may = All-map (λ (source : Source C). may_ask source.cursor) unasked cursors may

  one : (c : C) → (may_ask c → sound c → IsAscending (left c)) → may_ask c → sound c → IsSound tells sound left (unasked c)
  one c ascends may own = record {
    cursor = own;
    ascending = λ told. ascends may own;
    ended = λ told at. absurd (let clash : Unasked ≡ Ended = at in cc);
  }

  pub begins-sound : ((c : C) → may_ask c → sound c → IsAscending (left c)) → All may_ask cursors → All sound cursors → All (IsSound tells sound left) (map unasked cursors)
  begins-sound ascends may own =
      All-map (IsSound tells sound left) unasked cursors (λ k d within. one _ (ascends _) (may k d within) (own k d within))

pub begins-left : {C : Type 0} (left : C → List Entry) (cursors : List C) → flat_map (left_in left) (map unasked cursors) ≡ flat_map left cursors
begins-left left [] = refl
begins-left left (c ∷ cursors) = ap (λ (rest : List Entry). left c ++ rest) (begins-left left cursors)
