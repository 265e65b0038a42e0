-- Threads may share a turn, and a seat may go to another thread, wherever the value may go there.
use denote.RattleType.{RattleType}
use denote.Builtin.{usize, u64}
use denote.Hole.{as_row}
use denote.Param.Send.{Frees, IsSend, IsSync, sendable}
use denote.Param.SendFields.{as_row_sync, declared_sync}
use Rattle.std.proofs.Crossing as heap
use Rattle.std.specs.contracts.option.Option as Option
use Rattle.std.specs.declared.alloc.Allocator.{Ghosts as AllocGhosts}
use Rattle.std_heap.specs.contracts.Global as Heap
use Rattle.std_heap.specs.contracts.GlobalAllocator.TheImpl.{ghosts}
use Rattle.atomic_table.specs.declared.shared.TableRule.{Ghosts as TableGhosts}
use Rattle.atomic_table.specs.contracts.owned.Table as Table
use Rattle.atomic_table.specs.contracts.shared.Seat as Seat
use Rattle.atomic_table.proofs.send_lease.SendLease.TheSendSync as leases
use Rattle.atomic_table.proofs.shared.Shared.TheSendSync as shared
use Rattle.atomic_table.proofs.shared.Seat.TheSendSync as seats
use Rattle.lethe_turn.specs.declared.behind.Behind.{Ghosts as BehindGhosts}
use Rattle.lethe_turn.specs.contracts.turn.Turn as Turn
use Rattle.lethe_turn.specs.contracts.view.View as View
use Rattle.lethe_turn.specs.contracts.view.Opening as Opening
use Rattle.lethe_turn.specs.contracts.view.Ticketed as Ticketed
use Rattle.lethe_turn.specs.contracts.view.TicketedTableRuleOptionViewEntryMarkOpening.TheImpl as rule

number_sync : IsSync usize
number_sync = search sendable

module _ (R : RattleType) (s : IsSend R) where
  option_send : IsSend (Option.the_row R)
  option_send = search sendable depth 12

module _ (S W K P A : RattleType) (gt : TableGhosts P.Denot S.Denot W.Denot K.Denot) (ga : AllocGhosts A.Denot) (s : IsSend S) (a : IsSend A) (y : IsSync A) (f : Frees ga ga.dealloc_token) where
  table_sync : IsSync (as_row (Table.the_field S W K P A gt ga))
  table_sync = declared_sync (Table.the_type S W K P A gt ga) (shared.the_sync S W K P gt s, (number_sync, (number_sync, (leases.the_sync u64 A ga a f, (leases.the_sync S A ga a f, (search (as_row_sync, y) depth 10, tt))))))

module _ (V E M : RattleType) (g : BehindGhosts V.Denot E.Denot M.Denot) (s : IsSend V) where
  pub turn_sync : IsSync (Turn.the_row V E M g)
  turn_sync = declared_sync (Turn.the_type V E M g)
      (table_sync (Option.the_row V) (View.the_row V E M) (Opening.the_row V) (Ticketed.the_row V) Heap.the_row (rule.ghosts V E M g rule.no_dict) ghosts (option_send V s) heap.send heap.sync (record { frees = heap.frees.frees }), tt)

module _ (V E M : RattleType) (s : IsSend V) where
  pub seat_send : IsSend (Seat.the_row (Option.the_row V) (View.the_row V E M))
  seat_send = seats.the_send _ _ (option_send V s)
