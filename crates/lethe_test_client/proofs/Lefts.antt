-- What follows of what a run left.
use Rattle.std.proofs.Common.{Result, Ok, Err}
use Rattle.std.specs.Prelude.{IfOk}
use Rattle.lethe_base.specs.Keys.{Bytes}
use Rattle.lethe_run.specs.Ends.{Ends}
use Rattle.lethe_test_client.specs.Roomy.{IsRoomyDisk, IsRoomySink}
use Rattle.lethe_test_client.specs.Runs.{client_run}
use Rattle.lethe_test_client.specs.declared.client.Left.{Left}

pub of_left : {E : Type 0} (script : Bytes) (P : Left → Type 0) (r : Result Left E) → IfOk r (λ left. Ends (client_run script left.sink left.disk) left.status) → IfOk r (λ left. IsRoomyDisk left.disk)
    → IfOk r (λ left. IsRoomySink left.sink) → ((left : Left) → Ends (client_run script left.sink left.disk) left.status → IsRoomyDisk left.disk → IsRoomySink left.sink → P left) → IfOk r P
of_left script P (Ok left) ends disk sink f = f left ends disk sink
of_left script P (Err e) ends disk sink f = tt
