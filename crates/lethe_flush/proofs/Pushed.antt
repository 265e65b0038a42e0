-- What is pushed of a draft that has numbers.
use Rattle.std.proofs.Common.{◌≡◌, ℕ, ◌+◌, ◌-◌, ◌≤◌, inl, inr, List, [], ◌∷◌, ◌++◌, length, map, min, take, drop, All, sym, ap, ◌∙◌, subst, append_assoc, append-nil, length-append, length-take, take-append-drop, arith}
use Rattle.std.specs.List.{range_with_len}
use Rattle.std.proofs.Math.ListN.{drop_of_length-le}
use Rattle.std.proofs.lemmas.Bool.{cases_lt}
use Rattle.std.proofs.lemmas.List.{length-map}
use Rattle.std.proofs.lemmas.List.Elements.{All-append, All-map, All-take}
use Rattle.std.proofs.lemmas.List.FromFn.{length-range_with_len}
use Rattle.lethe_cover.proofs.Lists.{all_from}
use Rattle.lethe_base.specs.Limits.{max_place}
use Rattle.sha2.specs.Sha256.{sha256}
use Rattle.lethe_base.specs.declared.name.Name.{Name}
use Rattle.lethe_build.specs.Drafts.{IsNumbered, header_of, with_numbers}
use Rattle.lethe_build.specs.declared.built.Built.{Built}
use Rattle.lethe_build.specs.declared.draft.Draft.{Draft}
use Rattle.lethe_header.specs.Headers as headers
use Rattle.lethe_header.specs.Headers.{header_bytes}
use Rattle.lethe_header.specs.declared.header.Header.{Header}
use Rattle.lethe_stored.specs.Files.{file_name}
use Rattle.lethe_flush.specs.Added.{IsAdded, file_by, header_by, numbered, numbers_by, pages_by}
use Rattle.lethe_flush.specs.Made.{named_of}
use Rattle.lethe_flush.specs.declared.made.MadeFiles.{MadeFiles}
use Rattle.lethe_flush.proofs.Numbers.{number_in, range_from}

take_all : {X : Type 0} (xs : List X) (n : ℕ) → length xs ≤ n → take n xs ≡ xs
take_all xs n long = sym (append-nil (take n xs)) ∙ ap (λ (rest : List _). take n xs ++ rest) (sym (drop_of_length-le xs long)) ∙ take-append-drop n xs

pub take_min : {X : Type 0} (xs : List X) (n k : ℕ) → k ≡ min (length xs) n → take k xs ≡ take n xs
take_min xs n k is = elim (cases_lt n (length xs)) [
  | inl short ↦ let same : k ≡ n = omega (arith, is, short) in ap (λ (k : ℕ). take k xs) same
  | inr long ↦ let same : k ≡ length xs = omega (arith, is, long) in take_all xs k (omega (arith, same)) ∙ sym (take_all xs n long)
]

pub drop_min : {X : Type 0} (xs : List X) (n k : ℕ) → k ≡ min n (length xs) → drop k xs ≡ drop n xs
drop_min xs n k is = elim (cases_lt n (length xs)) [
  | inl short ↦ let same : k ≡ n = omega (arith, is, short) in ap (λ (k : ℕ). drop k xs) same
  | inr long ↦ let same : k ≡ length xs = omega (arith, is, long) in let low : length xs ≤ k = omega (arith, same) in drop_of_length-le xs low ∙ sym (drop_of_length-le xs long)
]

module _ (draft : Draft) (next : ℕ) (written : List Name) where
  pub numbers_count : length (numbers_by next draft written) ≡ length draft.pages
  numbers_count = omega (
    arith,
    length-append (map number_in (take (length draft.pages) written)) (range_with_len next (length draft.pages - length written)),
    length-map (take (length draft.pages) written) number_in,
    length-take (length draft.pages) written,
    length-range_with_len next (length draft.pages - length written),
  )

  pub numbers_low : All (λ name. name.no ≤ max_place) written → next + (length draft.pages - length written) ≤ max_place → All (λ number. number ≤ max_place) (numbers_by next draft written)
  numbers_low low room = All-append (λ number. number ≤ max_place) (map number_in (take (length draft.pages) written)) (range_with_len next (length draft.pages - length written))
      (All-map (λ number. number ≤ max_place) number_in (take (length draft.pages) written) (All-take (λ (name : Name). name.no ≤ max_place) (length draft.pages) written low))
      (all_from (λ number. number ≤ max_place) (range_with_len next (length draft.pages - length written)) (λ number there. let found = range_from next (length draft.pages - length written) number there in omega (arith, found.1, room)))

module _ (draft : Draft) (next : ℕ) (written : List Name) (there : ℕ) (is : there ≡ min (length written) (length draft.pages)) where
  pub numbers_are : (numbers : List ℕ) → numbers ≡ map number_in (take there written) ++ range_with_len next (length draft.pages - there) → numbers ≡ numbers_by next draft written
  numbers_are numbers at =
      let more : length draft.pages - there ≡ length draft.pages - length written = omega (arith, is) in
      at ∙ (λ i. map number_in (take_min written (length draft.pages) there is i) ++ range_with_len next (more i))

  module _ (level upto : ℕ) (numbers : List ℕ) (number : ℕ) (same : numbers ≡ numbers_by next draft written) (number_is : number ≡ next + (length draft.pages - there)) (file : Built) (of : IsNumbered draft numbers number file)
      (old new : MadeFiles)
      (heads : new.headers.items ≡ old.headers.items ++ record { level = level; header = file.header } ∷ [])
      (cites : new.cited.items ≡ old.cited.items ++ record { level = level; no = file.header.no; swept = upto; digest = file.digest } ∷ [])
      (objects : map named_of new.objects.items ≡ (map named_of old.objects.items ++ (file_name file.header.no, file.header_bytes) ∷ []) ++ numbered next (drop there file.pages))
      (then : new.next ≡ file.header.no + 1)
    where
      header_is : file.header ≡ header_of (header_by next draft written) (with_numbers (numbers_by next draft written) draft.tiles)
      header_is =
          let behind : number ≡ header_by next draft written = omega (arith, number_is, is) in
          of.header ∙ (λ i. header_of (behind i) (with_numbers (same i) draft.tiles))

      bytes_are : file.header_bytes ≡ header_bytes (header_of (header_by next draft written) (with_numbers (numbers_by next draft written) draft.tiles))
      bytes_are = of.bytes ∙ ap header_bytes header_is

      left : drop there file.pages ≡ drop (length written) draft.pages
      left = ap (drop there) of.pages ∙ drop_min draft.pages (length written) there is

      digest_is : file.digest ≡ sha256 (header_bytes (header_of (header_by next draft written) (with_numbers (numbers_by next draft written) draft.tiles)))
      digest_is = of.digest ∙ ap sha256 bytes_are

      pub is_added : IsAdded (file_by level upto next draft written) (pages_by next draft written) old new
      is_added = record {
        spelled = subst headers.HasSpelling header_is of.has_spelling;
        headers_are = heads ∙ ap (λ (h : Header). old.headers.items ++ record { level = level; header = h } ∷ []) header_is;
        cited = cites ∙ (λ i. old.cited.items ++ record { level = level; no = (header_is i).no; swept = upto; digest = digest_is i } ∷ []);
        objects =
            objects
            ∙ append_assoc (map named_of old.objects.items) ((file_name file.header.no, file.header_bytes) ∷ []) (numbered next (drop there file.pages))
            ∙ (λ i. map named_of old.objects.items ++ (file_name (header_is i).no, bytes_are i) ∷ numbered next (left i));
        next = then ∙ ap (λ (h : Header). h.no + 1) header_is;
      }
