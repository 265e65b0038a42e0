use Rattle.std.proofs.Common.{◌≡◌, ◌+◌, ◌<◌, ◌++◌, ◌∷◌, [], length, sym, arith, rules}
use Rattle.lethe_manifest.specs.Parts.{file_at}
use Rattle.lethe_manifest.specs.declared.manifest.Cited.{Cited}
use Rattle.lethe_manifest.proofs.Items.{one_more}
use Rattle.lethe_manifest.proofs.parts.read_files.Goals as goal

pub files-preserved : goal.files-preserved
files-preserved c =
    let fewer : length c.files.files.items < c.in_ok-count.count = omega (arith, c.files-test.true, c.len.ensures) in
    let pushed : c.push.new.self.items ≡ c.files.files.items ++ c.in_ok-file.file ∷ [] = search rules in
    rw pushed (one_more (file_at c.args.next c.args.levels) (λ (file : Cited). file.level) c.in_ok-count.count c.args.bytes.now (c.args.start + 4) c.files.files.items c.files.last c.files.at c.files.invariant c.in_ok-file.file c.in_ok-file.end fewer (sym c.in_ok-file.ensures))
