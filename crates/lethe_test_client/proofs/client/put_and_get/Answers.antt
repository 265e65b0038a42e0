use Rattle.std.proofs.Common.{◌≡◌, ◌⊎◌, [], ◌∷◌, None}
use Rattle.lethe_base.specs.Configuration.{default_fields}
use Rattle.lethe_memdisk.specs.Held.{seen_of}
use Rattle.lethe_stored.specs.Left.{IsLeft}
use Rattle.lethe_test_client.specs.Scripts.{get_text, put_and_get, the_put}
use Rattle.lethe_test_client.proofs.Clients.{get_ends, get_leaves, get_prints}
use Rattle.lethe_test_client.proofs.Lefts.{of_left}
use Rattle.lethe_test_client.proofs.client.put_and_get.Goals as goal

pub returns-clause-ends : goal.returns-clause-ends
returns-clause-ends g c =
    of_left put_and_get (λ left. (left.status ≡ 0) ⊎ (left.status ≡ 7)) c.run_script.result c.run_script.ensures.ends c.run_script.ensures.disk c.run_script.ensures.sink
    (λ left ends disk sink. get_ends left.sink left.disk disk sink left.status ends)

pub returns-clause-printed : goal.returns-clause-printed
returns-clause-printed g c =
    of_left put_and_get (λ left. left.status ≡ 0 → left.sink.bytes ≡ get_text) c.run_script.result c.run_script.ensures.ends c.run_script.ensures.disk c.run_script.ensures.sink
    (λ left ends disk sink. get_prints left.sink left.disk disk sink left.status ends)

pub returns-clause-leaves : goal.returns-clause-leaves
returns-clause-leaves g c =
    of_left put_and_get (λ left. left.status ≡ 0 → IsLeft default_fields (seen_of left.disk) (the_put ∷ []) None) c.run_script.result c.run_script.ensures.ends c.run_script.ensures.disk c.run_script.ensures.sink
    (λ left ends disk sink. get_leaves left.sink left.disk disk sink left.status ends)
