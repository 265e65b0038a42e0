use Rattle.std.proofs.Common.{map}
use Rattle.lethe_version.specs.NewFiles.{shared_in}
use Rattle.lethe_version.proofs.Levels.{Each, IsNext}
use Rattle.lethe_version.proofs.version.Version.with.Given as goal

abbrev pub invariant-loop-old : goal.invariant-loop-old
invariant-loop-old g l = Each (λ k old new. IsNext (λ file. file.header) l.gone (shared_in k l.added.items) k (map (λ one. one.file.value) old.files.items) (map (λ one. one.file.value) new.files.items))
    l.old-index l.self.levels.items l.made.items
