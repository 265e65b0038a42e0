use Rattle.std.proofs.Common.{[], ◌∙◌, sym}
use Rattle.std.proofs.lemmas.List.{append-nil}
use Rattle.lethe_base.specs.Spelling.{entry_bytes}
use Rattle.lethe_base.proofs.EntryLaws.{one_entry}
use Rattle.lethe_base.proofs.laws.one_spelling.Goals as goal

pub returns-clause-different : goal.returns-clause-different
returns-clause-different c = λ a b a_fits b_fits e. (one_entry a b [] [] a_fits b_fits (append-nil (entry_bytes a) ∙ e ∙ sym (append-nil (entry_bytes b)))).0

pub returns-clause-no_prefix : goal.returns-clause-no_prefix
returns-clause-no_prefix c = one_entry
