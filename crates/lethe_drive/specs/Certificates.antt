-- The certificates that a run answers.
use Rattle.std.specs.Prelude.{List, [], flat_map, option_to_list}
use Rattle.lethe_cert.specs.declared.certificate.Certificate.{Certificate}
use Rattle.lethe_drive.specs.declared.event.Reply.{Reply}
use Rattle.lethe_drive.specs.declared.event.Reply.TheVariants as reply

-- that of a reply: a tick's, where it has one
abbrev pub certificates_of : Reply → List Certificate
certificates_of (reply.Ticked ticked) = option_to_list ticked.certificate
certificates_of (reply.Place place) = []
certificates_of (reply.Got held) = []
certificates_of (reply.Pairs pairs) = []
certificates_of (reply.Flag flag) = []
certificates_of (reply.Job number) = []
certificates_of (reply.Pinned number) = []
certificates_of reply.Unit = []
certificates_of (reply.Refused why) = []
certificates_of reply.NoSuch = []

-- those of the replies, in their order
abbrev pub certificates_in : List Reply → List Certificate
certificates_in replies = flat_map certificates_of replies
