use Rattle.std.proofs.Common.{[]}
use Rattle.lethe_memdisk.specs.Held.{seen_of}
use Rattle.lethe_loose.specs.Example.{new_stored}
use Rattle.lethe_loose.proofs.NewStore.{may_remove}
use Rattle.lethe_test_disks.proofs.loose.a_page_is_written_and_removed.Goals as goal

pub remove_pages-requires-clause-there : goal.remove_pages-requires-clause-there
remove_pages-requires-clause-there g c κs = λ told. (
  new_stored,
  [],
  may_remove (seen_of c.in_ok-disk.disk) (seen_of c.write_page.new.disk) c.new-written.result c.write_page.new.written c.in_ok-disk.ensures c.new-written.ensures
      (λ may. c.in-Ok.ensures.done told new_stored [] may) (λ coherent later. c.in-Ok.ensures.loose new_stored [] coherent later) (c.in-Ok.ensures.drawn []),
)
