use Rattle.std.proofs.Common.{◌≡◌, ◌<◌, ◌≤◌, List, All, AllPairs, map, refl, sym, ap, subst, ◌∙◌, arith}
use Rattle.std.proofs.lemmas.List.Elements.{All-weaker}
use Rattle.lethe_base.specs.Limits.{max_time}
use Rattle.lethe_base.specs.declared.pending.Pending.{Pending}
use Rattle.lethe_header.specs.declared.header.Header.{Header}
use Rattle.lethe_base.specs.Erases.{IsErase}
use Rattle.lethe_manifest.specs.declared.manifest.Manifest.{Manifest}
use Rattle.lethe_version.specs.Versions.{files_of}
use Rattle.lethe_follows.proofs.Erases.{in_order_ascends}
use Rattle.lethe_advance.specs.Shown.{parts_in}
use Rattle.lethe_recover.specs.Cited.{names_of}
use Rattle.lethe_recover.specs.Flushing.{AreDraftsOfJournal}
use Rattle.lethe_recover.proofs.Journals.{last_fits, count_is}
use Rattle.lethe_recover.proofs.Pending.{pending_each, pending_is, pending_under}
use Rattle.lethe_recover.proofs.Resumed.{heads_of}
use Rattle.lethe_recover.proofs.Uncited.{cites_set}
use Rattle.lethe_recover.proofs.prepared.prepare.Goals as goal

pub drafts_of_journal-requires-clause-erases : goal.drafts_of_journal-requires-clause-erases
drafts_of_journal-requires-clause-erases g c κs within =
    let each : All IsErase c.in_ok-erases.erases.items = subst (All IsErase) (sym c.in_ok-erases.ensures)
    (pending_each c.items.result.now c.args.journal.older c.args.journal.newer (subst (All IsErase) (sym c.items.ensures) c.requires.spelled.erases.each) c.requires.older c.requires.newer) in
    subst (All (λ (erase : Pending). erase.time ≤ max_time)) (sym c.deref-2.ensures.value) (All-weaker IsErase (λ (erase : Pending). erase.time ≤ max_time) (λ erase is. is.time) c.in_ok-erases.erases.items each)

pub returns-clause-ready : goal.returns-clause-ready
returns-clause-ready g c =
    let older = last_fits 0 c.args.journal.older c.requires.older (omega arith) in
    let newer = last_fits 0 c.args.journal.newer c.requires.newer (omega arith) in
    let counted = c.requires.spelled.count in
    let is = c.count-count.ensures in
    record {
      levels = c.in_ok-version.ensures.levels;
      count = omega (arith, older, newer, counted, is);
      each = subst (All IsErase) (sym c.in_ok-erases.ensures)
          (pending_each c.items.result.now c.args.journal.older c.args.journal.newer (subst (All IsErase) (sym c.items.ensures) c.requires.spelled.erases.each) c.requires.older c.requires.newer);
      ascending = subst (AllPairs (λ (a b : Pending). a.seq < b.seq)) (sym c.in_ok-erases.ensures) (in_order_ascends _);
      older = c.in_ok-drafts.ensures.older;
      newer = c.in_ok-drafts.ensures.newer;
      few = c.in_ok-drafts.ensures.few;
    }

pub returns-clause-for_stored : goal.returns-clause-for_stored
returns-clause-for_stored g c = λ s coherent loaded.
    let m = c.args.manifest.now in
    let journal = c.args.journal in
    let headers : List Header = map (λ file. file.header) c.args.files.items in
    let own = heads_of parts_in (λ file. file.header) (λ file. refl) c.args.files.items s.files loaded.files in
    let all : c.in_ok-names.names.items ≡ names_of m headers = c.in_ok-names.ensures ∙ ap (λ files. names_of m (map (λ file. file.header) files)) c.deref.ensures.value in
    record {
      manifest = loaded.manifest;
      rising = loaded.rising;
      cites = cites_set s c.in_ok-cited.cited c.in_ok-names.names.items m headers coherent loaded.manifest own all c.in_ok-cited.ensures;
      files = c.in_ok-version.ensures.files s coherent loaded.manifest loaded.files;
      count = c.count-count.ensures ∙ count_is s m journal loaded.manifest loaded.journal;
      erases = c.in_ok-erases.ensures ∙ (λ i. pending_under ((c.items.ensures ∙ ap (λ (x : Manifest). x.erases) (sym loaded.manifest)) i) journal.older journal.newer)
          ∙ pending_is s journal.older journal.newer loaded.journal.older loaded.journal.newer;
      journal = journal;
      is_journal = loaded.journal;
      drafts = subst (λ (erases : List Pending). AreDraftsOfJournal m.config journal erases (map (λ file. file.header) (files_of c.in_ok-version.version)) c.in_ok-drafts.drafts) c.deref-2.ensures.value c.in_ok-drafts.ensures.made;
    }
