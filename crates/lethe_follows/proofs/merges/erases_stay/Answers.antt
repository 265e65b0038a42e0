use Rattle.lethe_stored.proofs.Appended.{pending_appended}
use Rattle.lethe_follows.proofs.ErasesStaying.{pending_flushed, pending_frozen, upto_appended}
use Rattle.lethe_follows.proofs.merges.erases_stay.Goals as goal

pub returns : goal.returns
returns c = record {
  appended = λ s upto next behind rises. upto_appended s upto next behind (pending_appended s next rises);
  frozen = pending_frozen;
  flushed = pending_flushed;
}
