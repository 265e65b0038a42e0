use Rattle.lethe_fade.proofs.MeetingLaws.{meeting_is_sharing}
use Rattle.lethe_fade.proofs.laws.meeting_is_sharing.Goals as goal

pub returns : goal.returns
returns c = meeting_is_sharing
