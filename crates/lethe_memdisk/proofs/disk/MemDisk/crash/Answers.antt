use Rattle.lethe_memdisk.specs.Images.{crash_image}
use Rattle.lethe_memdisk.proofs.disk.MemDisk.crash.Goals as goal

pub returns-in_err-objects-clause-image : goal.returns-in_err-objects-clause-image
returns-in_err-objects-clause-image c = crash_image c.args.moment c.args.fill c.args.keep c.args.self.now

pub returns-clause-image : goal.returns-clause-image
returns-clause-image c = crash_image c.args.moment c.args.fill c.args.keep c.args.self.now
