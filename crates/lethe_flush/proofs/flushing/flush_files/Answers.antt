use Rattle.std.proofs.Common.{[], All, List}
use Rattle.std.specs.Prelude.{◌↔◌}
use Rattle.lethe_build.specs.Drafts.{header_of}
use Rattle.lethe_stored.specs.Files.{StoredFile}
use Rattle.lethe_flush.specs.Clear.{IsClearOf}
use Rattle.lethe_flush.specs.Flushed.{IsFlushOf}
use Rattle.lethe_flush.specs.Made.{AreFilesOf, headers_of}
use Rattle.lethe_flush.proofs.Finishing.{headers_clear, is_flush}
use Rattle.lethe_flush.proofs.Results.{ok_weaker}
use Rattle.lethe_flush.proofs.flushing.flush_files.Goals as goal

pub returns-clause-made : goal.returns-clause-made
returns-clause-made c = λ fields entries erases alone of.
    let drafts = c.args.drafts.items in
    ok_weaker c.make_files.result (λ made. (files : List StoredFile) × AreFilesOf drafts 0 c.args.upto [] c.args.first made files)
    (λ made. (files : List StoredFile) × IsFlushOf fields entries erases alone c.args.upto c.args.first made files) c.make_files.ensures.made
    (λ made found. (found.0, is_flush fields entries erases alone drafts of c.args.upto c.args.first made found.0 found.1))

pub returns-clause-clear : goal.returns-clause-clear
returns-clause-clear c = λ keys.
    let drafts = c.args.drafts.items in
    ok_weaker c.make_files.result (λ made. (files : List StoredFile) × AreFilesOf drafts 0 c.args.upto [] c.args.first made files)
    (λ made. All (λ draft. IsClearOf keys (header_of 0 draft.tiles)) drafts ↔ All (IsClearOf keys) (headers_of made)) c.make_files.ensures.made
    (λ made found. headers_clear keys drafts 0 c.args.upto [] c.args.first made found.0 found.1)
