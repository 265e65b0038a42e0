-- Two lists item by item, where one is cut or comes in parts.
use Rattle.std.proofs.Common.{◌≡◌, ℕ, List, [], ◌∷◌, ◌++◌, length, map, take, drop, refl, sym, ap, ◌∙◌}
use Rattle.std.specs.List.{zip}
use Rattle.lethe_base.specs.declared.name.Name.{Name}
use Rattle.lethe_file.specs.Agreement.{page_name}
use Rattle.lethe_header.specs.declared.header.PageLine.{PageLine}

module _ {A B : Type 0} where
  zip_none : (xs : List A) → zip {X = B} xs [] ≡ []
  zip_none [] = refl
  zip_none (x ∷ xs) = refl

  pub zip_more : (xs : List A) (ys more : List B) → zip xs (ys ++ more) ≡ zip xs ys ++ zip (drop (length ys) xs) more
  zip_more [] [] more = refl
  zip_more (x ∷ xs) [] more = refl
  zip_more [] (y ∷ ys) more = refl
  zip_more (x ∷ xs) (y ∷ ys) more = ap (λ rest. (x, y) ∷ rest) (zip_more xs ys more)

  pub zip_joined : (xs more : List A) (ys : List B) → zip (xs ++ more) ys ≡ zip xs ys ++ zip more (drop (length xs) ys)
  zip_joined [] more ys = refl
  zip_joined (x ∷ xs) more [] = zip_none (x ∷ (xs ++ more)) ∙ sym (zip_none more)
  zip_joined (x ∷ xs) more (y ∷ ys) = ap (λ rest. (x, y) ∷ rest) (zip_joined xs more ys)

  -- what is behind the other list's end doesn't matter
  pub zip_cut : (xs : List A) (ys : List B) → zip xs (take (length xs) ys) ≡ zip xs ys
  zip_cut [] ys = refl
  zip_cut (x ∷ xs) [] = refl
  zip_cut (x ∷ xs) (y ∷ ys) = ap (λ rest. (x, y) ∷ rest) (zip_cut xs ys)

  pub cut_zip : (xs : List A) (ys : List B) → zip (take (length ys) xs) ys ≡ zip xs ys
  cut_zip [] [] = refl
  cut_zip [] (y ∷ ys) = refl
  cut_zip (x ∷ xs) [] = refl
  cut_zip (x ∷ xs) (y ∷ ys) = ap (λ rest. (x, y) ∷ rest) (cut_zip xs ys)

-- the first of a list, as many as two others have items
pub take_parts : {A B : Type 0} (xs : List A) (ys more : List B) → take (length (ys ++ more)) xs ≡ take (length ys) xs ++ take (length more) (drop (length ys) xs)
take_parts xs [] more = refl
take_parts [] (y ∷ ys) [] = refl
take_parts [] (y ∷ ys) (z ∷ more) = refl
take_parts (x ∷ xs) (y ∷ ys) more = ap (λ rest. x ∷ rest) (take_parts xs ys more)

pub drop_parts : {A B : Type 0} (xs : List A) (ys more : List B) → drop (length (ys ++ more)) xs ≡ drop (length more) (drop (length ys) xs)
drop_parts xs [] more = refl
drop_parts [] (y ∷ ys) [] = refl
drop_parts [] (y ∷ ys) (z ∷ more) = refl
drop_parts (x ∷ xs) (y ∷ ys) more = drop_parts xs ys more

-- what is left of a list, where as many go as the other has, or all
pub drop_as : {A B : Type 0} (xs : List A) (ys : List B) → drop (length (take (length ys) xs)) ys ≡ drop (length xs) ys
drop_as [] [] = refl
drop_as [] (y ∷ ys) = refl
drop_as (x ∷ xs) [] = refl
drop_as (x ∷ xs) (y ∷ ys) = drop_as xs ys

abbrev page_of : PageLine × List ℕ → Name × List ℕ
page_of page = (page_name page.0.no, page.1)

-- pages under their lines' numbers
pub lines_zip : (lines : List PageLine) (pages : List (List ℕ)) (numbers : List ℕ) → map (λ (line : PageLine). line.no) lines ≡ numbers → map page_of (zip lines pages) ≡ zip (map page_name numbers) pages
lines_zip lines pages numbers is = by lines pages ∙ ap (λ (numbers : List ℕ). zip (map page_name numbers) pages) is
  where
    by : (lines : List PageLine) (pages : List (List ℕ)) → map page_of (zip lines pages) ≡ zip (map page_name (map (λ (line : PageLine). line.no) lines)) pages
    by [] pages = refl
    by (line ∷ lines) [] = refl
    by (line ∷ lines) (page ∷ pages) = ap (λ rest. page_of (line, page) ∷ rest) (by lines pages)
