-- The files behind one of a number.
use Rattle.std.proofs.Common.{◌≡◌, ◌≢◌, ◌<◌, ◌+◌, ℕ, Bool, true, false, cond, eqb, List, [], ◌∷◌, ◌++◌, length, get_or, map, drop, Contains, refl, sym, ap, ◌∙◌}
use Rattle.std.proofs.lemmas.Bool.{eq-eqb, ne_eqb}
use Rattle.std.proofs.lemmas.List.{drop_more}
use Rattle.lethe_cover.proofs.Common.{first_is}
use Rattle.lethe_cover.proofs.Lists.{in_rest}
use Rattle.lethe_manifest.specs.declared.manifest.Cited.{Cited}
use Rattle.lethe_stored.specs.Files.{StoredFile, cited_of}
use Rattle.lethe_install.specs.Replaced.{behind}

-- The loop over the cited files

module _ (number : ℕ) (cited : List Cited) (place : ℕ) (file : Cited) (inside : place < length cited) (is : file ≡ get_or cited place file) where
  abbrev rest : List Cited
  rest = drop (place + 1) cited

  either : (b : Bool) → eqb file.no number ≡ b → behind number (drop place cited) ≡ cond b rest (behind number rest)
  either b test =
      ap (behind number) (drop_more cited place file inside ∙ ap (λ (f : Cited). f ∷ rest) (sym is))
      ∙ ap (λ (b : Bool). cond b rest (behind number rest)) test

  pub not_here : file.no ≢ number → behind number (drop place cited) ≡ behind number cited → behind number rest ≡ behind number cited
  not_here other so_far = sym (either false (ne_eqb file.no number other)) ∙ so_far

  pub just_here : file.no ≡ number → behind number (drop place cited) ≡ behind number cited → rest ≡ behind number cited
  just_here same so_far = sym (either true (eq-eqb file.no number same)) ∙ so_far

-- of files that are stored
pub behind_laid : (front : List StoredFile) (file : StoredFile) (back : List StoredFile) → ((other : StoredFile) → Contains front other → other.header.no ≢ file.header.no)
    → behind file.header.no (map cited_of (front ++ file ∷ back)) ≡ map cited_of back
behind_laid [] file back apart =
    ap (λ (b : Bool). cond b (map cited_of back) (behind file.header.no (map cited_of back))) (eq-eqb file.header.no file.header.no refl)
behind_laid (first ∷ front) file back apart =
    let others = map cited_of (front ++ file ∷ back) in
    ap (λ (b : Bool). cond b others (behind file.header.no others)) (ne_eqb first.header.no file.header.no (apart first (first_is first front first refl)))
    ∙ behind_laid front file back (λ other there. apart other (in_rest first front other there))
