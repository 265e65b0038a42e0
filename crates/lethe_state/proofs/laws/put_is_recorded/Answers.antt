use Rattle.lethe_state.proofs.Recording.{put_recorded}
use Rattle.lethe_state.proofs.laws.put_is_recorded.Goals as goal

pub returns : goal.returns
returns c = λ h s state levels is current stands few caller key dkey value named. put_recorded h s state levels is current stands few caller key named dkey value
