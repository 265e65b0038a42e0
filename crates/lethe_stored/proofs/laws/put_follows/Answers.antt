use Rattle.lethe_stored.proofs.Changes.{put_stored, put_for}
use Rattle.lethe_stored.proofs.laws.put_follows.Goals as goal

pub returns : goal.returns
returns c = λ h s coherent stands few caller key dkey value named fits short. (put_stored h s coherent stands few caller key dkey value named fits short, put_for h s coherent stands few caller key dkey value)
