use Rattle.std.proofs.Common.{refl, map}
use Rattle.lethe_disk.specs.Directory.{SameBeside}
use Rattle.lethe_disk.proofs.Moments.{leads_start}
use Rattle.lethe_commit.specs.Place.{name_of}
use Rattle.lethe_advance.proofs.advancing.place_new.Goals as goal

pub returns-then-is_empty-clause-any_moment : goal.returns-then-is_empty-clause-any_moment
returns-then-is_empty-clause-any_moment g c = λ told. leads_start (SameBeside (map name_of c.args.objects.now)) (g.D.Disk.seen c.args.disk.now) (λ d here other none. refl)
