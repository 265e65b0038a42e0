-- How a run may end, what it has written then, and what it leaves on the disk.
use Rattle.std.specs.Prelude.{◌≡◌, ◌⊎◌, ◌≤◌, ◌<◌, ◌+◌, ◌-◌, ℕ, suc, Bool, true, false, List, [], ◌∷◌, ◌++◌, length, take, slice_get, sum_by, Option, Some, None, IfSome, IsSome, IsOk, IsErr, Ok, Err, Contains}
use Rattle.std.specs.Io.KnownBytes.{Appends, Keeps}
use Rattle.lethe_wire.specs.Causes.{AppendsFront}
use Rattle.lethe_base.specs.Counts.{Rose}
use Rattle.lethe_base.specs.Keys.{Bytes}
use Rattle.lethe_base.specs.Limits.{max_place}
use Rattle.lethe_base.specs.History.{History, Change}
use Rattle.lethe_base.specs.declared.config.Fields.{Fields}
use Rattle.lethe_base.specs.declared.name.Name.{Name}
use Rattle.lethe_build.specs.Built.{most_numbers}
use Rattle.lethe_disk.specs.Disk.{Seen}
use Rattle.lethe_engine.specs.Opening.{IsUntold}
use Rattle.lethe_build.specs.Drafts.{numbers_for}
use Rattle.lethe_disk.specs.Goes.{Goes}
use Rattle.lethe_stored.specs.Left.{IsLeft}
use Rattle.lethe_stored.specs.Numbers.{IsNextNumber, KeepsPace}
use Rattle.lethe_load.specs.Refused.{HasReason, HasOtherConfig}
use Rattle.lethe_load.specs.declared.refused.RecoverRefused.{RecoverRefused}
use Rattle.lethe_recover.specs.Opening.{MayNotOpen, IsCut, IsExhausted, IsKeptInOpening, since_start}
use Rattle.lethe_disk.specs.Quiet.{IsQuiet}
use Rattle.lethe_recover.specs.declared.opening.OpenWhy.{OpenWhy}
use Rattle.lethe_recover.specs.declared.opening.OpenWhy.TheVariants as open_why
use Rattle.lethe_script.specs.declared.order.Order.{Order}
use Rattle.lethe_script.specs.declared.refused.BadLine.{BadLine}
use Rattle.lethe_script.specs.Grammar.{script_of}
use Rattle.lethe_script.specs.Slots.{orders_by}
use Rattle.lethe_run.specs.declared.reply.Line.{Line}
use Rattle.lethe_run.specs.Asked.{config_of}
use Rattle.lethe_run.specs.Anywhere.{IsPlausible}
use Rattle.lethe_run.specs.Carried.{IsCarriedOut}
use Rattle.lethe_run.specs.Printed.{bad_words, bad_line, lines_text, open_line}
use Rattle.lethe_run.specs.Transcript.{Course, course, most_of_a_change, text_of, has_refusal}

-- What a run was given, and what it left. Of the source and the sink: what the one had and the other has taken, where they tell it, and
-- whether their counts of faults rose. Of the disk: what it was and is, where its kind tells it, its counts of faults, and whether its ports can fail.
pub record Run : Type 1 where
  pub words : List Bytes
  pub source : Option Bytes
  pub taken_before : Option Bytes
  pub taken : Option Bytes
  pub SourceRose : Type 0
  pub SinkRose : Type 0
  pub Tells : Type 0
  pub start : Seen
  pub finish : Seen
  pub faults_before : ℕ
  pub faults : ℕ
  pub PortsFail : Type 0
  -- the disk is handed back as it came
  pub Unused : Type 0

-- the disk wasn't used: it is handed back as it came, and what each crash leaves is as it was
abbrev pub IsUnused : Run → Type 0
IsUnused run = run.Unused × IsQuiet run.start run.finish

-- the words ask for this configuration
abbrev pub Asks : Run → Fields → Type 0
Asks run config = config_of run.words ≡ Some config

-- the words are a command, or none
abbrev pub IsCommand : Run → Type 0
IsCommand run = IsSome (config_of run.words)

abbrev pub IsNoCommand : Run → Type 0
IsNoCommand run = config_of run.words ≡ None

-- for each configuration, history and change that the disk was left for, where it tells what it holds
abbrev pub OnLeft : Run → (Fields → History → Option Change → Type 0) → Type 0
OnLeft run P = run.Tells → (kept : Fields) (left : History) (change : Option Change) → IsLeft kept run.start left change → P kept left change

-- there are phases of which this holds, and the source's bytes are the script of them, where it tells its bytes
abbrev pub OnScript : Run → (List (List Order) → Type 0) → Type 0
OnScript run P = (phases : List (List Order)) × IfSome run.source (λ bytes. script_of bytes ≡ Ok phases) × P phases

-- what is known of a store of the configuration on the run's disk, on which this number was the next
abbrev pub course_of : Run → Fields → ℕ → Course
course_of run config next = course run.PortsFail (record { config = config; faults = run.faults_before; next = next; moment = run.start.moment }) run.faults run.finish.moment

-- There is one order of each phase's lines, in which they answer these phases as they may on any disk; and on one that tells what it holds they do so over a store of the configuration, and
-- the disk is left so.
pub record Carries (run : Run) (config : Fields) (phases : List (List Order)) (lines : List (List Line)) : Type 0 where
  pub turned : List (List Line)
  pub told : IsPlausible run.PortsFail config run.faults_before run.faults phases lines turned
  pub left : OnLeft run (λ kept left change. (next : ℕ) → IsNextNumber run.start.directory next → IsCarriedOut config (course_of run config next) run.start run.finish kept left change phases lines turned)

-- the directory shows no damage and no other configuration
abbrev pub IsSoundFor : Run → Fields → Type 0
IsSoundFor run config = run.Tells → (why : RecoverRefused) → HasReason config run.start.directory why → ⊥

-- every line of the script was answered, and whether one tells of a change that failed or wasn't made, or of a read that wasn't answered
pub record Answered (run : Run) (config : Fields) (refused : Bool) : Type 0 where
  pub lines : List (List Line)
  pub script : OnScript run (λ phases. Carries run config phases lines)
  pub written : Appends run.taken_before run.taken (text_of lines)
  pub is : has_refusal lines ≡ refused
  pub sound : IsSoundFor run config

-- the script was carried out up to a phase in whose lines the sink failed; those of the phases before it were written whole
pub record StoppedBehind (run : Run) (config : Fields) (text : Bytes) : Type 0 where
  pub before : List (List Line)
  pub last : List Line
  pub script : OnScript run (λ phases. Carries run config (take (suc (length before)) phases) (before ++ last ∷ []))
  pub is : text ≡ text_of (before ++ last ∷ [])
  pub whole : (middle : Option Bytes) × Appends run.taken_before middle (text_of before) × AppendsFront middle run.taken (lines_text last)
  pub sound : IsSoundFor run config

-- of each caller the first orders
abbrev pub IsFrontByCaller : List Order → List Order → Type 0
IsFrontByCaller orders part = (caller : ℕ) → (rest : List Order) × (orders_by caller orders ≡ orders_by caller part ++ rest)

-- whole phases, and of the next one the first orders of each caller
pub record IsFront (phases front : List (List Order)) : Type 0 where
  pub count : ℕ
  pub orders : List Order
  pub part : List Order
  pub there : slice_get phases count ≡ Some orders
  pub cut : IsFrontByCaller orders part
  pub is : front ≡ take count phases ++ part ∷ []

-- none, or such a front
abbrev pub IsBegun : List (List Order) → List (List Order) → Type 0
IsBegun phases front = (front ≡ []) ⊎ IsFront phases front

-- the script was carried out up to a phase in which there was no memory for an order of some caller, who answers no further line, or none of it was
pub record StoppedInside (run : Run) (config : Fields) : Type 0 where
  pub lines : List (List Line)
  pub script : OnScript run (λ phases. (front : List (List Order)) × IsBegun phases front × Carries run config front lines)
  pub written : AppendsFront run.taken_before run.taken (text_of lines)
  pub sound : IsSoundFor run config

-- the bytes are no script, and this is their first bad line
abbrev pub IsNoScript : Run → BadLine → Type 0
IsNoScript run bad = IfSome run.source (λ bytes. script_of bytes ≡ Err bad) × IsUnused run

-- The store wasn't opened, and this is why. The directory shows damage and another configuration, and then nothing was touched; numbers
-- run out where the manifest's next number, those of the files of the journal's records, and two more reach past the last one, and the device
-- was called by then; and whatever came, each crash leaves what the disk was left for, or a new store where there was no gate. Where the directory shows damage or
-- another configuration, that is why, but for a fault and want of memory.
pub record IsNotOpened (run : Run) (config : Fields) (why : OpenWhy) : Type 0 where
  pub script : OnScript run (λ phases. Unit {0})
  pub reason : MayNotOpen run.Tells config run.start.directory run.faults_before run.faults why
  pub untouched : run.Tells → IsUntold why ⊎ IsQuiet run.start run.finish
  pub drawn : run.Tells → (last : ℕ) → why ≡ open_why.Exhausted last
      → (full : IsExhausted run.start.directory)
      × (last < full.s.manifest.next + (sum_by numbers_for full.short.older_drafts + sum_by numbers_for full.short.newer_drafts) + 2) × (run.start.moment < run.finish.moment)
  pub exact : run.Tells → (shown : RecoverRefused) → HasReason config run.start.directory shown → (why ≡ since_start run.faults_before shown) ⊎ IsCut ⊥ run.faults_before run.faults why
  pub quiet : run.Tells → (shown : RecoverRefused) → HasReason config run.start.directory shown → IsQuiet run.start run.finish
  pub any_moment : OnLeft run (λ kept left change. Goes (IsKeptInOpening kept config left change run.start.directory) run.start run.finish)
  pub pace : run.Tells → (first : ℕ) → KeepsPace first run.start.moment run.start.moment run.start → KeepsPace first run.start.moment run.start.moment run.finish

-- it wasn't, and this was written
abbrev pub Refuses : Run → Fields → OpenWhy → Type 0
Refuses run config why = IsNotOpened run config why × Appends run.taken_before run.taken (open_line config why)

-- what was to be written where the sink failed
abbrev pub IsAsked : Run → Bytes → Type 0
IsAsked run text =
    (IsNoCommand run × (text ≡ bad_words) × IsUnused run)
    ⊎ (IsCommand run × (bad : BadLine) × IsNoScript run bad × (text ≡ bad_line bad))
    ⊎ ((config : Fields) × Asks run config × (why : OpenWhy) × IsNotOpened run config why × (text ≡ open_line config why))
    ⊎ ((config : Fields) × Asks run config × StoppedBehind run config text)

-- there was no memory before the first order
abbrev pub IsUnbegun : Run → Fields → Type 0
IsUnbegun run config = Keeps run.taken_before run.taken × (IsUnused run ⊎ IsNotOpened run config open_why.NoMemory)

-- opening met a fault
abbrev pub IsOpenFault : Run → Fields → Type 0
IsOpenFault run config = (before : ℕ) × (after : ℕ) × Refuses run config (open_why.Fault before after)

-- opening found that numbers ran out
abbrev pub IsOpenExhausted : Run → Fields → Type 0
IsOpenExhausted run config = (last : ℕ) × Refuses run config (open_why.Exhausted last)

-- the statuses of a script's end
abbrev pub script_ends : List ℕ
script_ends = 0 ∷ 4 ∷ 5 ∷ 6 ∷ 7 ∷ 8 ∷ 9 ∷ []

pub record Ends (run : Run) (status : ℕ) : Type 0 where
  -- each line was answered, each change is done or is a tick behind the clock or barred by a pin, and each read was answered
  pub answered : status ≡ 0 → (config : Fields) × Asks run config × Answered run config false
  -- `bad words`
  pub bad_words : status ≡ 2 → IsNoCommand run × Appends run.taken_before run.taken bad_words × IsUnused run
  -- `line N bad WHY`
  pub bad_script : status ≡ 3 → IsCommand run × (bad : BadLine) × IsNoScript run bad × Appends run.taken_before run.taken (bad_line bad)
  pub read_fault : status ≡ 4 → IsCommand run × run.SourceRose × Keeps run.taken_before run.taken × IsUnused run
  pub write_fault : status ≡ 5 → run.SinkRose × (text : Bytes) × IsAsked run text × AppendsFront run.taken_before run.taken text
  -- each line was answered, and a change failed or wasn't made or a read wasn't answered, or opening met a fault or numbers that ran out
  pub refused : status ≡ 6 → (config : Fields) × Asks run config × (Answered run config true ⊎ IsOpenFault run config ⊎ IsOpenExhausted run config)
  pub no_memory : status ≡ 7 → (config : Fields) × Asks run config × (IsUnbegun run config ⊎ StoppedInside run config)
  -- `damaged KIND NO`
  pub damaged : status ≡ 8 → (config : Fields) × Asks run config × (name : Name) × Refuses run config (open_why.Damaged name)
  -- `other config kept .. asked ..`
  pub other_config : status ≡ 9 → (config : Fields) × Asks run config × (kept : Fields) × Refuses run config (open_why.OtherConfig kept)
  -- what ends it otherwise, where the words are no command, where the bytes are no script, and where they are one
  pub other_words : IsNoCommand run → Contains (2 ∷ 5 ∷ []) status
  pub no_script : IsCommand run → IfSome run.source (λ bytes. IsErr (script_of bytes) → Contains (3 ∷ 4 ∷ 5 ∷ 7 ∷ []) status)
  pub a_script : IsCommand run → IfSome run.source (λ bytes. IsOk (script_of bytes) → Contains script_ends status)
  -- Where the directory shows damage or another configuration, nothing is touched, whatever the status; nothing is carried out over it, and 6 comes only with a
  -- fault when it is opened.
  pub shown : (config : Fields) → Asks run config → run.Tells → (why : RecoverRefused) → HasReason config run.start.directory why
      → IsQuiet run.start run.finish × (status ≡ 0 → ⊥) × (status ≡ 6 → IsOpenFault run config)
  -- whatever the status, numbers keep pace with the run's device calls, from a number on that none of what a crash leaves at the start has passed
  pub pace : OnLeft run (λ kept left change. (first : ℕ) → KeepsPace first run.start.moment run.start.moment run.start → KeepsPace first run.start.moment run.start.moment run.finish)
  -- Without a fault, and where ports can't fail, the bytes are no script, or there is no memory, or they are one, each line is answered and each change is done or is a tick behind the clock or barred by a pin, on a disk
  -- that was left for a history and is of this configuration, where neither numbers nor places run out.
  pub complete : (config : Fields) → Asks run config → (run.SourceRose → ⊥) → (run.SinkRose → ⊥) → (Rose run.faults_before run.faults → ⊥) → (run.PortsFail → ⊥)
      → Contains (3 ∷ 7 ∷ []) status ⊎ OnScript run (λ phases. OnLeft run (λ kept left change.
      ((other : Fields) → HasOtherConfig config run.start.directory other → ⊥) → (IsExhausted run.start.directory → ⊥)
      → ((next : ℕ) → IsNextNumber run.start.directory next
      → next + (run.finish.moment - run.start.moment) + most_of_a_change + most_numbers (length left + 1 + sum_by (λ orders. length orders) phases) < max_place)
      → length left + 1 + sum_by (λ orders. length orders) phases ≤ max_place → status ≡ 0))
  -- there is no other status
  pub known : Contains (0 ∷ 2 ∷ 3 ∷ 4 ∷ 5 ∷ 6 ∷ 7 ∷ 8 ∷ 9 ∷ []) status
