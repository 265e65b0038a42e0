-- What is stored is reopened without the erases that are done by the files that are cited then.
use Rattle.std.proofs.Common.{◌≡◌, ℕ, ◌+◌, ◌<◌, ◌≤◌, List, [], ◌∷◌, map, filter, refl, ap, ◌∙◌, arith}
use Rattle.std.proofs.lemmas.List.{append-nil}
use Rattle.lethe_base.specs.Spent.{done_upto, is_above, least}
use Rattle.lethe_base.specs.declared.pending.Pending.{Pending}
use Rattle.lethe_base.proofs.LayoutLaws.{none_in}
use Rattle.lethe_manifest.specs.Manifests.{HasSpelling}
use Rattle.lethe_manifest.specs.declared.manifest.Cited.{Cited}
use Rattle.lethe_stored.specs.Files.{StoredFile}
use Rattle.lethe_stored.specs.Stored.{Stored, IsCoherent, layout_of, pending_of}
use Rattle.lethe_stored.proofs.Lists.{pairs_of_one}
use Rattle.lethe_follows.specs.Filed.{AreNewFiles, reopened}
use Rattle.lethe_follows.specs.Leaving.{kept_erases, leaving}
use Rattle.lethe_follows.proofs.Bounds.{done_by_cited}
use Rattle.lethe_follows.proofs.Erases.{pending_again}
use Rattle.lethe_follows.proofs.Filing.{filed_cited, filed_each, filed_once, filed_pages}
use Rattle.lethe_follows.proofs.LettingGo.{kept_unrecorded}
use Rattle.lethe_recover.specs.Reopening.{left_beside}

module _ (s : Stored) (coherent : IsCoherent s) (made : List StoredFile) (segment number : ℕ) (risen : s.manifest.next ≤ segment) (above : segment < number) (new : AreNewFiles s.manifest.next segment made) where
  abbrev r : Stored
  r = reopened s made segment number

  module _ (erases : List Pending) (spelled : HasSpelling (leaving r erases).manifest) where
    -- it is coherent where its manifest can be written with the erases that are left, however many there were
    pub leaving_coherent : IsCoherent (leaving r erases)
    leaving_coherent = record {
      spelled = spelled;
      cites = refl;
      once = pairs_of_one (segment ∷ []) segment refl;
      active = tt;
      frozen = tt;
      files = filed_cited s coherent made segment (number + 1) new (omega arith) (omega arith);
      each = filed_each s coherent made segment (number + 1) new (omega arith) (omega arith);
      files_once = filed_once s coherent made segment (number + 1) new (omega arith) (omega arith);
      pages_once = filed_pages s coherent made segment (number + 1) new (omega arith) (omega arith);
    }

    -- the bound doesn't depend on the erases
    done_reopened : done_upto (layout_of r) ≡ least (map (λ (file : Cited). file.swept) r.manifest.files)
    done_reopened = done_by_cited (leaving r erases) leaving_coherent ∙ ap least (append-nil (map (λ (file : Cited). file.swept) r.manifest.files))

    pub kept_reopened : kept_erases r ≡ left_beside r.manifest.files (pending_of s)
    kept_reopened =
        kept_unrecorded (done_upto (layout_of r)) (pending_of r)
        ∙ (λ i. filter (λ (erase : Pending). is_above (done_reopened i) erase.seq) (pending_again s [] (λ erase none. absurd (none_in erase none)) i))
