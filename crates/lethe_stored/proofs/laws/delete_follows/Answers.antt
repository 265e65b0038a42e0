use Rattle.lethe_stored.proofs.Changes.{delete_stored, delete_for, blind_stored, blind_for}
use Rattle.lethe_stored.proofs.laws.delete_follows.Goals as goal

pub returns-clause-tombstone : goal.returns-clause-tombstone
returns-clause-tombstone c = λ h s coherent stands few caller key named. (delete_stored h s coherent stands few caller key named, delete_for h s coherent stands few caller key)

pub returns-clause-blind : goal.returns-clause-blind
returns-clause-blind c = λ h s coherent stands few caller key none. (blind_stored h s coherent stands few caller, blind_for h s coherent stands few caller key none)
