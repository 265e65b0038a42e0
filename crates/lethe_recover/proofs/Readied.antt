-- What was made for a reopening of what is stored leads to its step.
use Rattle.std.proofs.Common.{◌≡◌, List, map, refl}
use Rattle.lethe_disk.specs.declared.disk.Disk.{Ghosts}
use Rattle.lethe_header.specs.declared.header.Header.{Header}
use Rattle.lethe_manifest.specs.declared.manifest.Manifest.{Manifest}
use Rattle.lethe_stored.specs.Stored.{Stored, IsCoherent, count_of, pending_of}
use Rattle.lethe_version.specs.Versions.{files_of, levels_of}
use Rattle.lethe_advance.specs.Shown.{parts_in}
use Rattle.lethe_recover.specs.Flushing.{AreDraftsOfJournal}
use Rattle.lethe_recover.specs.Journals.{IsJournalOf}
use Rattle.lethe_recover.specs.Prepared.{IsReadyFor}
use Rattle.lethe_recover.specs.Reopening.{AreHeadersOf, Reopens}
use Rattle.lethe_recover.specs.declared.journal.Journal.{Journal}
use Rattle.lethe_recover.specs.declared.prepared.Prepared.{Prepared}
use Rattle.lethe_recover.specs.declared.reopening.Reopening.{Reopening}
use Rattle.lethe_recover.proofs.Filed.{heads_are}

pub reopens_of : {D Page Port : Type 0} {kind : Ghosts D Page Port} (s : Stored) (m : Manifest) (prepared : Prepared D Page Port kind) → IsCoherent s → IsReadyFor s m prepared → (made : Reopening)
    → ((s : Stored) (journal : Journal) (heads : List Header) → IsCoherent s → s.manifest ≡ m → prepared.count ≡ count_of s → prepared.erases.items ≡ pending_of s
    → AreHeadersOf s heads → IsJournalOf s journal → AreDraftsOfJournal m.config journal prepared.erases.items heads prepared.drafts → Reopens s made)
    → Reopens s made
reopens_of s m prepared coherent ready made reopens =
    reopens s ready.journal (map (λ file. file.header) (files_of prepared.version)) coherent ready.manifest ready.count ready.erases
    (heads_are parts_in (λ file. file.header) (λ file. refl) (levels_of prepared.version) s coherent ready.files) ready.is_journal ready.drafts
