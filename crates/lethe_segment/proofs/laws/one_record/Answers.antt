use Rattle.std.proofs.Common.{[], ◌∙◌, sym}
use Rattle.std.proofs.lemmas.List.{append-nil}
use Rattle.lethe_segment.specs.Records.{record_bytes}
use Rattle.lethe_segment.proofs.RecordLaws.{same_record}
use Rattle.lethe_segment.proofs.laws.one_record.Goals as goal

pub returns-clause-different : goal.returns-clause-different
returns-clause-different c = λ a b a_fits b_fits e. (same_record a b [] [] a_fits b_fits (append-nil (record_bytes a) ∙ e ∙ sym (append-nil (record_bytes b)))).0

pub returns-clause-no_prefix : goal.returns-clause-no_prefix
returns-clause-no_prefix c = same_record
