-- The text of each line that is printed.
use Rattle.std.specs.Prelude.{ℕ, List, [], ◌∷◌, ◌++◌, length, Option, Some, None, codes}
use Rattle.std.specs.List.{flat_map}
use Rattle.std.specs.Fmt.{decimal}
use Rattle.lethe_base.specs.Keys.{Bytes}
use Rattle.lethe_base.specs.declared.config.Fields.{Fields}
use Rattle.lethe_base.specs.declared.config.Pick.{Pick}
use Rattle.lethe_base.specs.declared.config.Pick.TheVariants.{So, Sd}
use Rattle.lethe_base.specs.declared.name.Kind.{Kind}
use Rattle.lethe_base.specs.declared.name.Kind.TheVariants.{Gate, Manifest, Segment, File, Page}
use Rattle.lethe_cert.specs.Text.{certificate_text}
use Rattle.lethe_cert.specs.declared.certificate.Certificate.{Certificate}
use Rattle.lethe_engine.specs.declared.telling.Stat.{Stat}
use Rattle.lethe_recover.specs.declared.opening.OpenWhy.{OpenWhy}
use Rattle.lethe_recover.specs.declared.opening.OpenWhy.TheVariants as open_why
use Rattle.lethe_script.specs.declared.refused.BadLine.{BadLine}
use Rattle.lethe_script.specs.Spelling.{field_text}
use Rattle.lethe_script.specs.Words.{why_text}
use Rattle.lethe_run.specs.declared.reply.Line.{Line}
use Rattle.lethe_run.specs.declared.reply.Line.TheVariants.{Answer}
use Rattle.lethe_run.specs.declared.reply.Reply.{Reply}
use Rattle.lethe_run.specs.declared.reply.Reply.TheVariants.{Done, Ticked, Got, Scanned, Counted, Pinned, PinGot, PinScanned, Unpinned, Fault, Stopped, Exhausted, Backwards, Barred, ReadFault, Damaged}

-- with its end
abbrev pub ended : Bytes → Bytes
ended text = text ++ 10 ∷ []

-- a key, its delete key and its value, with a space before each
abbrev pub pair_text : Bytes × ℕ × Bytes → Bytes
pair_text pair = codes " " ++ field_text pair.0 ++ codes " " ++ decimal pair.1 ++ codes " " ++ field_text pair.2

-- what a key has, behind what says where it was looked up
abbrev pub found_text : Option (ℕ × Bytes) → Bytes
found_text None = codes " none"
found_text (Some pair) = codes " val " ++ decimal pair.0 ++ codes " " ++ field_text pair.1

-- what the keys of a range have
abbrev pub pairs_text : List (Bytes × ℕ × Bytes) → Bytes
pairs_text pairs = codes " scan " ++ decimal (length pairs) ++ flat_map pair_text pairs

-- what a store tells of itself
abbrev pub stat_text : Stat → Bytes
stat_text s =
    codes "clock " ++ decimal s.clock ++ codes " pins " ++ decimal s.pins ++ codes " pending " ++ decimal s.pending
    ++ (codes " files " ++ decimal s.files ++ codes " tombs " ++ decimal s.tombs)

-- a tick's certificate with a space before it, if there is one
abbrev pub certificate_part : Option Certificate → Bytes
certificate_part None = []
certificate_part (Some certificate) = codes " " ++ certificate_text certificate

-- a reply, without its caller
abbrev pub reply_text : Reply → Bytes
reply_text (Done place) = codes "ok " ++ decimal place
reply_text (Ticked ticked) = codes "ok " ++ decimal ticked.place ++ codes " clock " ++ decimal ticked.clock ++ certificate_part ticked.certificate
reply_text (Backwards point clock) = codes "backwards " ++ decimal clock
reply_text (Barred number limit) = codes "pinned " ++ decimal number ++ codes " limit " ++ decimal limit
reply_text (Got point held) = codes "at " ++ decimal point ++ found_text held
reply_text (Scanned point pairs) = codes "at " ++ decimal point ++ pairs_text pairs
reply_text (Counted point stat) = codes "at " ++ decimal point ++ codes " stat " ++ stat_text stat
reply_text (Pinned point number limit) = codes "at " ++ decimal point ++ codes " pin " ++ decimal number ++ codes " limit " ++ decimal limit
reply_text (PinGot number point held) = codes "pin " ++ decimal number ++ codes " at " ++ decimal point ++ found_text held
reply_text (PinScanned number point pairs) = codes "pin " ++ decimal number ++ codes " at " ++ decimal point ++ pairs_text pairs
reply_text (Unpinned point number) = codes "at " ++ decimal point ++ codes " unpin " ++ decimal number
reply_text (Fault place before after) = codes "fault " ++ decimal place ++ codes " before " ++ decimal before ++ codes " after " ++ decimal after
reply_text (Stopped at) = codes "stopped " ++ decimal at
reply_text (Exhausted last) = codes "exhausted " ++ decimal last
reply_text ReadFault = codes "readfault"
reply_text (Damaged page) = codes "damaged page " ++ decimal page

abbrev pub line_text : Line → Bytes
line_text (Answer caller reply) = ended (decimal caller ++ codes " " ++ reply_text reply)

-- one line after another
abbrev pub lines_text : List Line → Bytes
lines_text lines = flat_map line_text lines

-- the line of a script that is none
abbrev pub bad_line : BadLine → Bytes
bad_line bad = ended (codes "line " ++ decimal bad.line ++ codes " bad " ++ why_text bad.why)

-- the line for words that are no command
abbrev pub bad_words : Bytes
bad_words = ended (codes "bad words")

-- what an object is called
abbrev pub kind_text : Kind → Bytes
kind_text Gate = codes "gate"
kind_text Manifest = codes "manifest"
kind_text Segment = codes "segment"
kind_text File = codes "file"
kind_text Page = codes "page"

abbrev pub pick_text : Pick → Bytes
pick_text So = codes "so"
pick_text Sd = codes "sd"

-- a configuration, field by field
abbrev pub levels_text : Fields → Bytes
levels_text c = codes "threshold=" ++ decimal c.threshold ++ codes " ratio=" ++ decimal c.ratio ++ codes " levels=" ++ decimal c.levels

abbrev pub files_text : Fields → Bytes
files_text c = codes " page=" ++ decimal c.page ++ codes " tile=" ++ decimal c.tile ++ codes " file=" ++ decimal c.file

abbrev pub buffer_text : Fields → Bytes
buffer_text c = codes " buffer=" ++ decimal c.buffer ++ codes " pick=" ++ pick_text c.pick

abbrev pub config_text : Fields → Bytes
config_text c = levels_text c ++ files_text c ++ buffer_text c

abbrev pub open_fault_line : ℕ → ℕ → Bytes
open_fault_line before after = codes "open fault before " ++ (decimal before ++ (codes " after " ++ (decimal after ++ 10 ∷ [])))

-- the line of a store that wasn't opened with the configuration that was asked for; want of memory has none
abbrev pub open_line : Fields → OpenWhy → Bytes
open_line asked (open_why.Damaged name) = ended (codes "damaged " ++ kind_text name.kind ++ codes " " ++ decimal name.no)
open_line asked (open_why.OtherConfig kept) = ended (codes "other config kept " ++ config_text kept ++ codes " asked " ++ config_text asked)
open_line asked (open_why.Fault before after) = open_fault_line before after
open_line asked (open_why.Exhausted last) = ended (codes "open exhausted " ++ decimal last)
open_line asked open_why.NoMemory = []
