use Rattle.std.proofs.Common.{map, [], None, arith}
use Rattle.lethe_version.specs.Versions.{files_of}
use Rattle.lethe_version.proofs.Vouched.{only_vouched}
use Rattle.lethe_version.proofs.Whole.{search_whole}
use Rattle.lethe_version.proofs.version.Version.find.Goals as goal

pub returns-clause-found : goal.returns-clause-found
returns-clause-found g c = λ told sound.
    (search_whole (λ level. map (λ shared. shared.file.value) level.files.items) c.deref.result.now c.args.self.now.levels.items (λ file. file.header) (λ file. map (λ page. g.D.Disk.page_bytes page.value) file.pages.items) g.D.Disk.tells g.D.Disk.ports_fail c.args.key.now None
    (g.D.Disk.fetches c.args.port.now) (g.D.Disk.fetches c.find_in.new.port) (g.D.Disk.port_faults c.args.port.now) (g.D.Disk.port_faults c.find_in.new.port) c.find_in.result c.deref.ensures.value c.find_in.ensures).found told sound [] (λ k d lt. absurd (omega (arith, lt)))

pub returns-clause-fetches : goal.returns-clause-fetches
returns-clause-fetches g c =
    (search_whole (λ level. map (λ shared. shared.file.value) level.files.items) c.deref.result.now c.args.self.now.levels.items (λ file. file.header) (λ file. map (λ page. g.D.Disk.page_bytes page.value) file.pages.items) g.D.Disk.tells g.D.Disk.ports_fail c.args.key.now None
    (g.D.Disk.fetches c.args.port.now) (g.D.Disk.fetches c.find_in.new.port) (g.D.Disk.port_faults c.args.port.now) (g.D.Disk.port_faults c.find_in.new.port) c.find_in.result c.deref.ensures.value c.find_in.ensures).few

pub returns-clause-damaged : goal.returns-clause-damaged
returns-clause-damaged g c =
    (search_whole (λ level. map (λ shared. shared.file.value) level.files.items) c.deref.result.now c.args.self.now.levels.items (λ file. file.header) (λ file. map (λ page. g.D.Disk.page_bytes page.value) file.pages.items) g.D.Disk.tells g.D.Disk.ports_fail c.args.key.now None
    (g.D.Disk.fetches c.args.port.now) (g.D.Disk.fetches c.find_in.new.port) (g.D.Disk.port_faults c.args.port.now) (g.D.Disk.port_faults c.find_in.new.port) c.find_in.result c.deref.ensures.value c.find_in.ensures).damaged

pub returns-clause-undamaged : goal.returns-clause-undamaged
returns-clause-undamaged g c =
    (search_whole (λ level. map (λ shared. shared.file.value) level.files.items) c.deref.result.now c.args.self.now.levels.items (λ file. file.header) (λ file. map (λ page. g.D.Disk.page_bytes page.value) file.pages.items) g.D.Disk.tells g.D.Disk.ports_fail c.args.key.now None
    (g.D.Disk.fetches c.args.port.now) (g.D.Disk.fetches c.find_in.new.port) (g.D.Disk.port_faults c.args.port.now) (g.D.Disk.port_faults c.find_in.new.port) c.find_in.result c.deref.ensures.value c.find_in.ensures).undamaged

pub returns-clause-vouched : goal.returns-clause-vouched
returns-clause-vouched g c =
    only_vouched (λ file. file.header) c.args.key.now (files_of c.args.self.now) c.find_in.result
    (search_whole (λ level. map (λ shared. shared.file.value) level.files.items) c.deref.result.now c.args.self.now.levels.items (λ file. file.header)
    (λ file. map (λ page. g.D.Disk.page_bytes page.value) file.pages.items) g.D.Disk.tells g.D.Disk.ports_fail c.args.key.now None
    (g.D.Disk.fetches c.args.port.now) (g.D.Disk.fetches c.find_in.new.port) (g.D.Disk.port_faults c.args.port.now) (g.D.Disk.port_faults c.find_in.new.port) c.find_in.result c.deref.ensures.value c.find_in.ensures).vouched
