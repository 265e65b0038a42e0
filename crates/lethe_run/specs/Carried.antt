-- What a script that was carried out leaves on the disk.
use Rattle.std.specs.Prelude.{◌≡◌, ◌≤◌, ◌<◌, ◌↔◌, ℕ, not, List, [], ◌∷◌, length, filter, filter_map, slice_get, take, All, Option, Some, None, option_map}
use Rattle.lethe_base.specs.History.{History, Change, after, change_at}
use Rattle.lethe_base.specs.declared.config.Fields.{Fields}
use Rattle.lethe_disk.specs.Directory.{Directory}
use Rattle.lethe_disk.specs.Disk.{Seen}
use Rattle.lethe_stored.specs.Clean.{IsClean}
use Rattle.lethe_stored.specs.Kept.{IsEncoded, IsKept}
use Rattle.lethe_stored.specs.Left.{IsLeft, IsHistoryOr, is_done, without_failed}
use Rattle.lethe_stored.specs.Numbers.{KeepsPace}
use Rattle.lethe_stored.specs.Stored.{Stored, layout_of}
use Rattle.lethe_bound.specs.Limits.{IsLimit}
use Rattle.lethe_core.specs.Merges.{due_shape}
use Rattle.lethe_manifest.specs.declared.manifest.Manifest.{Manifest}
use Rattle.lethe_load.specs.Damaged.{IsGated}
use Rattle.lethe_recover.specs.Opening.{IsKeptInOpening}
use Rattle.lethe_cert.specs.declared.certificate.Certificate.{Certificate}
use Rattle.lethe_engine.specs.Certificates.{HasCommitted}
use Rattle.lethe_engine.specs.StandsFor.{IsKeptFor, IsPrefixFrom}
use Rattle.lethe_engine.specs.Stats.{IsStatOf}
use Rattle.lethe_engine.specs.declared.telling.Stat.{Stat}
use Rattle.lethe_script.specs.declared.order.Order.{Order}
use Rattle.lethe_run.specs.declared.reply.Line.{Line}
use Rattle.lethe_run.specs.declared.reply.Line.TheVariants as line
use Rattle.lethe_run.specs.declared.reply.Reply.{Reply}
use Rattle.lethe_run.specs.declared.reply.Reply.TheVariants as reply
use Rattle.lethe_run.specs.Transcript.{Course, AreServed, ok_place}

-- the change that failed, if one did
abbrev pub failed_in : History → Option Change
failed_in h = slice_get (filter (λ change. not (is_done change.did)) h) 0

-- the manifest that counts has the configuration
pub record HasConfig (config : Fields) (d : Directory) : Type 0 where
  pub manifest : Manifest
  pub gated : IsGated d manifest
  pub is : manifest.config ≡ config

-- Of all that a crash may leave, P holds up to the moment and Q from it on. What a crash before the start may leave is neither more nor less.
pub record GoesThen (P Q : Directory → Type 0) (moment : ℕ) (start finish : Seen) : Type 0 where
  pub from : start.moment ≤ moment
  pub upto : moment ≤ finish.moment
  pub past : (m : ℕ) (c : Directory) → m ≤ start.moment → (finish.left m c ↔ start.left m c)
  pub first : (m : ℕ) (c : Directory) → start.moment ≤ m → m ≤ moment → finish.left m c → P c
  pub then : (m : ℕ) (c : Directory) → moment ≤ m → m ≤ finish.moment → finish.left m c → Q c

-- the changes that the lines answer with `ok` stand in g at their places, as in h
abbrev pub HasDone : History → List Line → History → Type 0
HasDone h lines g = All (λ place. change_at g place ≡ change_at h place) (filter_map ok_place lines)

-- From this moment on, which isn't behind the end, each crash leaves what is kept for a history with all changes that these lines answer with `ok`.
pub record IsLasting (config : Fields) (opened h : History) (finish : Seen) (since : ℕ) (lines : List Line) : Type 0 where
  pub upto : since ≤ finish.moment
  pub each : (m : ℕ) (c : Directory) → since ≤ m → m ≤ finish.moment → finish.left m c → (g : History) × IsPrefixFrom opened h g × HasDone h lines g × IsKept config c g

-- Between these moments no crash leaves a change that these lines answer with `ok`.
pub record IsUnbegun (config : Fields) (opened h : History) (finish : Seen) (from upto : ℕ) (lines : List Line) : Type 0 where
  pub each : (m : ℕ) (c : Directory) → from ≤ m → m ≤ upto → finish.left m c
      → (g : History) × IsPrefixFrom opened h g × All (λ place. length g < place) (filter_map ok_place lines) × IsKept config c g

-- Phase after phase: from a moment on its changes last, and up to there no crash leaves one of a later phase. So each phase's changes last before the first of the next is on the disk.
abbrev pub AreLasting : Fields → History → History → Seen → ℕ → List (List Line) → Type 0
AreLasting config opened h finish from [] = Unit {0}
AreLasting config opened h finish from (lines ∷ more) =
    (since : ℕ) × (from ≤ since) × IsLasting config opened h finish since lines × All (IsUnbegun config opened h finish from since) more × AreLasting config opened h finish since more

-- the certificate of a reply, with its tick's place
abbrev pub certificate_in : Reply → Option (ℕ × Certificate)
certificate_in (reply.Ticked ticked) = option_map (λ certificate. (ticked.place, certificate)) ticked.certificate
certificate_in (reply.Done place) = None
certificate_in (reply.Got point held) = None
certificate_in (reply.Scanned point pairs) = None
certificate_in (reply.Counted point stat) = None
certificate_in (reply.Pinned point number limit) = None
certificate_in (reply.PinGot number point held) = None
certificate_in (reply.PinScanned number point pairs) = None
certificate_in (reply.Unpinned point number) = None
certificate_in (reply.Fault place before after) = None
certificate_in (reply.Stopped at) = None
certificate_in (reply.Exhausted last) = None
certificate_in (reply.Backwards point clock) = None
certificate_in (reply.Barred number limit) = None
certificate_in reply.ReadFault = None
certificate_in (reply.Damaged page) = None

-- and of a line
abbrev pub certificate_of : Line → Option (ℕ × Certificate)
certificate_of (line.Answer caller told) = certificate_in told

abbrev pub certificates_in : List Line → List (ℕ × Certificate)
certificates_in lines = filter_map certificate_of lines

-- At a moment since this one each image had a gated manifest of the certificate's clock and digest, with its tick's place as its count, and was clean for the changes up to there; and each
-- later crash leaves what is kept for a history with the tick.
pub record IsBorneOut (config : Fields) (from : ℕ) (h : History) (finish : Seen) (told : ℕ × Certificate) : Type 0 where
  pub moment : ℕ
  pub since : from ≤ moment
  pub upto : moment ≤ finish.moment
  pub each : (c : Directory) → finish.left moment c → HasCommitted c told.1 told.0 × IsClean config.threshold c (take told.0 h) told.1.clock
  pub kept : (m : ℕ) (c : Directory) → moment ≤ m → m ≤ finish.moment → finish.left m c → IsKeptFor config (take told.0 h) h c

-- What is told of something stored: how it is as a whole, or the limit of a pin.
pub data Look : Type 0 where
  Whole : Stat → Look
  Limit : ℕ → Look

-- it is true of what is stored, at a threshold
abbrev pub IsLookOf : ℕ → Stored → Look → Type 0
IsLookOf threshold stored (Whole stat) = IsStatOf (due_shape (layout_of stored)) stat
IsLookOf threshold stored (Limit limit) = IsLimit threshold (layout_of stored) limit

-- what a reply tells of what is stored, and behind how many places
abbrev pub looked_in : Reply → Option (ℕ × Look)
looked_in (reply.Counted point stat) = Some (point, Whole stat)
looked_in (reply.Pinned point number limit) = Some (point, Limit limit)
looked_in (reply.Ticked ticked) = None
looked_in (reply.Done place) = None
looked_in (reply.Got point held) = None
looked_in (reply.Scanned point pairs) = None
looked_in (reply.PinGot number point held) = None
looked_in (reply.PinScanned number point pairs) = None
looked_in (reply.Unpinned point number) = None
looked_in (reply.Fault place before after) = None
looked_in (reply.Stopped at) = None
looked_in (reply.Exhausted last) = None
looked_in (reply.Backwards point clock) = None
looked_in (reply.Barred number limit) = None
looked_in reply.ReadFault = None
looked_in (reply.Damaged page) = None

-- and a line
abbrev pub look_of : Line → Option (ℕ × Look)
look_of (line.Answer caller told) = looked_in told

abbrev pub looks_in : List Line → List (ℕ × Look)
looks_in lines = filter_map look_of lines

-- At a moment since this one a crash could leave a directory that encodes what stands for the changes up to the point, and of that this is told.
pub record IsSeenOn (config : Fields) (from : ℕ) (h : History) (finish : Seen) (told : ℕ × Look) : Type 0 where
  pub moment : ℕ
  pub since : from ≤ moment
  pub upto : moment ≤ finish.moment
  pub directory : Directory
  pub left : finish.left moment directory
  pub encoded : IsEncoded config directory (without_failed (take told.0 h))
  pub shows : IsLookOf config.threshold encoded.s told.1

-- so it is, unless a change had failed by then
pub record IsSeen (config : Fields) (from : ℕ) (h : History) (finish : Seen) (told : ℕ × Look) : Type 0 where
  pub within : told.0 ≤ length h
  pub unless : failed_in (take told.0 h) ≡ None → IsSeenOn config from h finish told

-- On a disk that was left for a history and a change in one configuration, the lines, in this order, answer the phases over a store of another, which may be the same. The history
-- that was opened is the first, or that with the change carried out, whichever the directory is kept for. Up to the moment at which the store was opened a crash
-- leaves what the disk was left for, or a new store where there was no gate, and from it on what is kept for a prefix of what a crash may make of the last history that
-- is not shorter than the opened one. At the end the disk is left for the last history, and unless a change failed it is of the configuration and clean: each object
-- is a spelling, and none spells a value that was never put or was erased a threshold ago.
pub record IsCarriedOut (config : Fields) (course : Course) (start finish : Seen) (kept : Fields) (left : History) (change : Option Change) (phases : List (List Order)) (lines turned : List (List Line)) : Type 0 where
  pub opened : History
  pub either : IsHistoryOr left change opened
  pub was : IsKept config start.directory opened
  pub history : History
  pub served : AreServed course opened phases lines turned history
  pub moment : ℕ
  pub any_moment : GoesThen (IsKeptInOpening kept config left change start.directory) (IsKeptFor config opened history) moment start finish
  -- from the end of each phase on no crash loses what its lines answer, and up to there none leaves a change of a later one
  pub lasting : AreLasting config opened history finish moment lines
  -- at a moment of the run what each certificate says was so, and from there on no crash loses its tick
  pub certified : All (λ line. All (IsBorneOut config start.moment history finish) (certificates_in line)) lines
  -- what a stat and a pin's limit tell was so of something stored that a crash could leave at a moment of the run
  pub seen : All (λ line. All (IsSeen config start.moment history finish) (looks_in line)) lines
  pub leaves : IsLeft config finish (without_failed history) (failed_in history)
  pub config_is : failed_in history ≡ None → HasConfig config finish.directory
  pub clean : failed_in history ≡ None → IsClean config.threshold finish.directory history (after history).clock
  pub pace : (first : ℕ) → KeepsPace first start.moment start.moment start → KeepsPace first start.moment start.moment finish
