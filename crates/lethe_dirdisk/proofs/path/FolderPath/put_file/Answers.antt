use Rattle.std.proofs.Common.{◌++◌, ap, ◌∙◌, subst, sym}
use Rattle.std.specs.Prelude.{string_bytes}
use Rattle.std.specs.Str.{IsUtf8}
use Rattle.lethe_dirdisk.proofs.Digits.{text_file_name}
use Rattle.lethe_dirdisk.proofs.path.FolderPath.put_file.Goals as goal

pub unreachable-requires : goal.unreachable-requires
unreachable-requires c = c.in-Err.ensures.cases.0 (subst IsUtf8 (sym c.spell_file_name-text.ensures) (text_file_name c.args.name))

pub returns-clause-file : goal.returns-clause-file
returns-clause-file c = c.put.ensures.file ∙ ap (λ l. string_bytes c.args.self.now.folder ++ l) (c.in-Ok.ensures.cases.0 ∙ c.spell_file_name-text.ensures)
