-- The file of a draft, taken apart, as it is numbered and pushed.
use Rattle.std.proofs.Common.{◌≡◌, ℕ, ◌+◌, ◌-◌, ◌≤◌, List, [], ◌∷◌, ◌++◌, length, map, drop, All, ap, ◌∙◌, subst, length-append, length-drop, arith}
use Rattle.std.specs.Prelude.{zip}
use Rattle.std.specs.List.{range_with_len}
use Rattle.std.proofs.lemmas.List.{length-map}
use Rattle.std.proofs.lemmas.List.Elements.{All-append, All-map}
use Rattle.std.proofs.lemmas.List.FromFn.{length-range_with_len}
use Rattle.sha2.specs.Sha256.{sha256}
use Rattle.lethe_base.specs.Limits.{max_place}
use Rattle.lethe_base.specs.declared.name.Name.{Name}
use Rattle.lethe_build.specs.declared.built.Built.{Built}
use Rattle.lethe_cover.proofs.Lists.{all_from}
use Rattle.lethe_file.specs.Agreement.{page_name}
use Rattle.lethe_flush.specs.Added as added
use Rattle.lethe_flush.specs.Made.{named_of}
use Rattle.lethe_flush.specs.declared.made.MadeFiles.{MadeFiles}
use Rattle.lethe_flush.proofs.Numbers.{number_in, range_from}
use Rattle.lethe_header.specs.Headers.{HasSpelling, header_bytes}
use Rattle.lethe_header.specs.declared.header.Header.{Header}
use Rattle.lethe_stored.specs.Files.{file_name}
use Rattle.lethe_swept.specs.Drafts.{IsNumbered, tiles_with}
use Rattle.lethe_swept.specs.declared.draft.SweptDraft.{SweptDraft}
use Rattle.lethe_remade.specs.Making.{IsMadeOf, count_unwritten, header_by, number_by, numbers_by}

module _ (draft : SweptDraft) (first : ℕ) (written : List Name) where
  pub numbers_count : length written ≤ length draft.pages → length (numbers_by written first draft) ≡ length draft.pages
  numbers_count few = omega (
    arith,
    few,
    length-append (map number_in written) (range_with_len first (length draft.pages - length written)),
    length-map written number_in,
    length-range_with_len first (length draft.pages - length written),
  )

  pub numbers_low : All (λ name. name.no ≤ max_place) written → first + (length draft.pages - length written) ≤ max_place
      → All (λ number. number ≤ max_place) (numbers_by written first draft)
  numbers_low low room = All-append (λ number. number ≤ max_place) (map number_in written) (range_with_len first (length draft.pages - length written))
      (All-map (λ number. number ≤ max_place) number_in written low)
      (all_from (λ number. number ≤ max_place) (range_with_len first (length draft.pages - length written)) (λ number there.
      let found = range_from first (length draft.pages - length written) number there in omega (arith, found.1, room)))

  -- what is pushed behind no file
  module _ (level upto : ℕ) (numbers : List ℕ) (number : ℕ) (same : numbers ≡ numbers_by written first draft) (number_is : number ≡ number_by written first draft)
      (file : Built) (of : IsNumbered draft numbers number file) (old new : MadeFiles)
      (no_headers : old.headers.items ≡ []) (no_cited : old.cited.items ≡ []) (no_objects : old.objects.items ≡ []) (free : old.next ≡ first)
      (heads : new.headers.items ≡ old.headers.items ++ record { level = level; header = file.header } ∷ [])
      (cites : new.cited.items ≡ old.cited.items ++ record { level = level; no = file.header.no; swept = upto; digest = file.digest } ∷ [])
      (objects : map named_of new.objects.items ≡ (map named_of old.objects.items ++ (file_name file.header.no, file.header_bytes) ∷ [])
      ++ added.numbered old.next (drop (length written) file.pages))
      (then : new.next ≡ file.header.no + 1)
    where
      header_is : file.header ≡ header_by written first draft
      header_is = of.header ∙ (λ i. record { no = number_is i; tiles = tiles_with (same i) draft.tiles })

      bytes_are : file.header_bytes ≡ header_bytes (header_by written first draft)
      bytes_are = of.bytes ∙ ap header_bytes header_is

      digest_is : file.digest ≡ sha256 (header_bytes (header_by written first draft))
      digest_is = of.digest ∙ ap sha256 bytes_are

      left : drop (length written) file.pages ≡ drop (length written) draft.pages
      left = ap (drop (length written)) of.pages

      count : length (drop (length written) draft.pages) ≡ count_unwritten written draft
      count = length-drop (length written) draft.pages

      pub is_made : IsMadeOf level upto written first draft new
      is_made = record {
        spelled = subst HasSpelling header_is of.has_spelling;
        headers = heads ∙ (λ i. no_headers i ++ record { level = level; header = header_is i } ∷ []);
        cited = cites ∙ (λ i. no_cited i ++ record { level = level; no = (header_is i).no; swept = upto; digest = digest_is i } ∷ []);
        objects =
            objects
            ∙ (λ i. (map named_of (no_objects i) ++ (file_name (header_is i).no, bytes_are i) ∷ []) ++ added.numbered (free i) (left i))
            ∙ (λ i. (file_name (number_by written first draft), header_bytes (header_by written first draft))
            ∷ zip (map page_name (range_with_len first (count i))) (drop (length written) draft.pages));
        next = then ∙ ap (λ (h : Header). h.no + 1) header_is;
      }
