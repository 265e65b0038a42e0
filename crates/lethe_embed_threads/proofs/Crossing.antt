-- What the threads share, what each takes with it, and what it gives back.
use denote.RattleType.{RattleType}
use denote.Param.Send.{IsSend, IsSync, sendable}
use denote.Param.SendFields.{as_row_send, declared_send}
use Rattle.std.proofs.Crossing.{crosses}
use Rattle.std.proofs.MapsCrossing as maps
use Rattle.lethe_dirdisk.proofs.Crossing.{port_send}
use Rattle.lethe_dirdisk.specs.contracts.disk.DirDisk as DirDisk
use Rattle.lethe_dirdisk.specs.contracts.disk.DirDiskDisk.TheImpl as disk
use Rattle.lethe_dirdisk.specs.contracts.page.DirPage as DirPage
use Rattle.lethe_dirdisk.specs.contracts.page.DirPort as DirPort
use Rattle.lethe_disk.specs.declared.disk.Disk.{Ghosts}
use Rattle.lethe_engine.proofs.Crossing.{refused_send, snapshot_sync}
use Rattle.lethe_snapshot.specs.contracts.snapshot.Snapshot as Snapshot
use Rattle.lethe_store.specs.contracts.changes.Changes as Changes
use Rattle.lethe_store.specs.contracts.changes.ChangesLog.TheImpl as changes
use Rattle.lethe_store.specs.contracts.entry.Entry as Entry
use Rattle.lethe_store.specs.contracts.entry.Mark as Mark
use Rattle.lethe_store.specs.contracts.session.Session as Session
use Rattle.lethe_store.specs.contracts.store.Store as Store
use Rattle.lethe_store.proofs.Crossing.{session_send, store_sync}
use Rattle.lethe_embed_threads.specs.contracts.Office as Office
use Rattle.lethe_embed_threads.specs.contracts.Report as Report

page_send : IsSend DirPage.the_row
page_send = search (maps.crosses, crosses, sendable) depth 60

page_sync : IsSync DirPage.the_row
page_sync = search (maps.crosses, crosses, sendable) depth 60

disk_send : IsSend DirDisk.the_row
disk_send = search (maps.crosses, crosses, sendable) depth 60

pub caller_send : IsSend (Session.the_row DirDisk.the_row Changes.the_row DirPage.the_row DirPort.the_row Entry.the_row Mark.the_row disk.ghosts)
caller_send = session_send DirDisk.the_row Changes.the_row DirPage.the_row DirPort.the_row Entry.the_row Mark.the_row disk.ghosts page_send page_sync disk_send port_send

pub shared_sync : IsSync (Store.the_row DirDisk.the_row Changes.the_row DirPage.the_row DirPort.the_row Entry.the_row Mark.the_row disk.ghosts changes.ghosts)
shared_sync = store_sync DirDisk.the_row Changes.the_row DirPage.the_row DirPort.the_row Entry.the_row Mark.the_row disk.ghosts page_send page_sync disk_send changes.ghosts

pub office_send : IsSend Office.the_row
office_send = declared_send Office.the_type (search sendable depth 20, (caller_send, (search (as_row_send, refused_send, crosses, sendable) depth 60, tt)))

pub report_send : IsSend Report.the_row
report_send = declared_send Report.the_type (caller_send, (search (as_row_send, refused_send, crosses, sendable) depth 60, tt))

pub pinned_sync : IsSync (Snapshot.the_row DirDisk.the_row DirPage.the_row DirPort.the_row disk.ghosts)
pinned_sync = snapshot_sync DirDisk.the_row DirPage.the_row DirPort.the_row disk.ghosts page_send page_sync
