use Rattle.std.proofs.Common.{◌++◌, List, map, append-nil, subst}
use Rattle.lethe_build.specs.Drafts.{header_of}
use Rattle.lethe_build.specs.declared.draft.Draft.{Draft}
use Rattle.lethe_header.specs.declared.header.Header.{Header}
use Rattle.lethe_version.specs.Versions.{files_of}
use Rattle.lethe_recover.specs.Flushing.{AreDraftsOfRecords}
use Rattle.lethe_recover.proofs.flushing.drafts_of_journal.Goals as goal

pub returns-clause-made : goal.returns-clause-made
returns-clause-made g c =
    let config = c.args.config.now in
    let journal = c.args.journal in
    let erases = c.args.erases.now in
    let heads : List Header = map (λ file. file.header) (files_of c.args.version.now) in
    record {
      older = subst (λ (heads : List Header). AreDraftsOfRecords config journal.older erases heads c.in_ok-older.older.items) (append-nil heads) c.in_ok-older.ensures.made;
      newer = subst (λ (drafts : List Draft). AreDraftsOfRecords config journal.newer erases (heads ++ map (λ draft. header_of 0 draft.tiles) drafts) c.in_ok-newer.newer.items) c.deref.ensures.value c.in_ok-newer.ensures.made;
    }
