-- The place up to which all pending erases are done, by what a manifest cites.
use Rattle.std.proofs.Common.{◌≡◌, ℕ, ◌+◌, ◌≤◌, false, nat_lt, List, [], ◌∷◌, ◌++◌, map, Contains, Option, Some, None, refl, sym, ap, ◌∙◌, subst, arith}
use Rattle.std.specs.Prelude.{filter_map}
use Rattle.std.proofs.lemmas.Bool.Decides.{nat_tests}
use Rattle.std.proofs.lemmas.List.{map-append}
use Rattle.std.proofs.lemmas.List.Elements.{All-contains}
use Rattle.lethe_base.specs.Layout.{File, files_of, frozen_records}
use Rattle.lethe_base.specs.Shapes.{earlier}
use Rattle.lethe_base.specs.Spent.{done_upto, is_above, least, put_place}
use Rattle.lethe_base.proofs.LeftErases.{bounded, not_above}
use Rattle.lethe_cover.proofs.Lists.{all_from, in_map, map_from}
use Rattle.lethe_manifest.specs.declared.manifest.Cited.{Cited}
use Rattle.lethe_moves.proofs.Times.{earlier-assoc}
use Rattle.lethe_stored.specs.Files.{cited_of, file_of}
use Rattle.lethe_stored.specs.Stored.{IsCoherent, Stored, layout_of, plain, records_in}
use Rattle.lethe_stored.proofs.Leveled.{low_level}
use Rattle.lethe_stored.proofs.Meanings.{frozen_are}
use Rattle.lethe_follows.specs.Leaving.{done_by}
use Rattle.lethe_follows.proofs.Following.{file_from, file_in}

-- The least of some places

pub least-append : (places others : List ℕ) → least (places ++ others) ≡ earlier (least places) (least others)
least-append [] others = refl
least-append (place ∷ places) others = ap (earlier (Some place)) (least-append places others) ∙ sym (earlier-assoc (Some place) (least places) (least others))

-- two bounds are one where the same places aren't above them
same_bound : (a b : Option ℕ) → ((place : ℕ) → is_above a place ≡ false → is_above b place ≡ false) → ((place : ℕ) → is_above b place ≡ false → is_above a place ≡ false) → a ≡ b
same_bound None None to from = refl
same_bound None (Some b) to from = let upto : nat_lt b (b + 1) ≡ false = to (b + 1) refl in absurd (grind (arith, nat_tests))
same_bound (Some a) None to from = let upto : nat_lt a (a + 1) ≡ false = from (a + 1) refl in absurd (grind (arith, nat_tests))
same_bound (Some a) (Some b) to from =
    let below : nat_lt b a ≡ false = to a (grind (arith, nat_tests)) in
    let above : nat_lt a b ≡ false = from b (grind (arith, nat_tests)) in
    ap Some (grind (arith, nat_tests))

-- it doesn't depend on their order
least_same : (places others : List ℕ) → ((place : ℕ) → Contains places place → Contains others place) → ((place : ℕ) → Contains others place → Contains places place) → least places ≡ least others
least_same places others into from = same_bound (least places) (least others) (λ place. within place places others from) (λ place. within place others places into)
  where
    within : (place : ℕ) (some more : List ℕ) → ((bound : ℕ) → Contains more bound → Contains some bound) → is_above (least some) place ≡ false → is_above (least more) place ≡ false
    within place some more there is =
        let IsBound : ℕ → Type 0 = λ bound. place ≤ bound in
        not_above place more (all_from IsBound more (λ bound among. All-contains IsBound some bound (bounded place some is) (there bound among)))

-- The places up to which files are swept

module _ (s : Stored) (coherent : IsCoherent s) where
  abbrev swept_in : List File → List ℕ
  swept_in files = map (λ (file : File). file.swept) files

  abbrev swept_by : List Cited → List ℕ
  swept_by files = map (λ (file : Cited). file.swept) files

  swept_is : least (swept_in (files_of (layout_of s))) ≡ least (swept_by s.manifest.files)
  swept_is = least_same (swept_in (files_of (layout_of s))) (swept_by s.manifest.files)
      (λ place there.
      let file = map_from (λ (file : File). file.swept) (files_of (layout_of s)) place there in
      let stored = file_from s.manifest.config.levels s.files file.0 file.1 in
      let cited = subst (λ files. Contains files (cited_of stored.0)) (sym coherent.files) (in_map cited_of s.files stored.0 stored.1) in
      subst (Contains (swept_by s.manifest.files)) (ap (λ (file : File). file.swept) stored.3 ∙ file.2) (in_map (λ (file : Cited). file.swept) s.manifest.files (cited_of stored.0) cited))
      (λ place there.
      let cited = map_from (λ (file : Cited). file.swept) s.manifest.files place there in
      let stored = map_from cited_of s.files cited.0 (subst (λ files. Contains files cited.0) coherent.files cited.1) in
      let filed = file_in s.manifest.config.levels s.files stored.0 stored.1 (low_level s coherent stored.0 stored.1) in
      subst (Contains (swept_in (files_of (layout_of s)))) (ap (λ (file : Cited). file.swept) stored.2 ∙ cited.2) (in_map (λ (file : File). file.swept) (files_of (layout_of s)) (file_of stored.0) filed))

  records_are : map plain s.active.records ++ frozen_records (layout_of s) ≡ map plain (s.active.records ++ records_in s.frozen)
  records_are = ap (λ records. map plain s.active.records ++ records) (frozen_are s) ∙ sym (map-append plain s.active.records (records_in s.frozen))

  pub done_by_cited : done_upto (layout_of s) ≡ done_by s.manifest.files (s.active.records ++ records_in s.frozen)
  done_by_cited =
      let puts = filter_map put_place (map plain (s.active.records ++ records_in s.frozen)) in
      ap (λ records. least (swept_in (files_of (layout_of s)) ++ filter_map put_place records)) records_are
      ∙ least-append (swept_in (files_of (layout_of s))) puts
      ∙ ap (λ swept. earlier swept (least puts)) swept_is
      ∙ sym (least-append (swept_by s.manifest.files) puts)
