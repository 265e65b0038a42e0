-- How a run's end follows from what its parts say.
use Rattle.std.proofs.Common.{◌≡◌, ◌<◌, ◌≤◌, ◌+◌, ℕ, suc, List, [], ◌∷◌, ◌++◌, length, take, Option, Some, None, IfSome, IsSome, IfOk, Result, Ok, Err, inl, inr, refl, sym, ap, ◌∙◌, subst, arith, append-nil}
use Rattle.std.specs.Prelude.{sum_by}
use Rattle.std.specs.Io.KnownBytes.{Consumes, IsAtEnd, Appends, Keeps}
use Rattle.std.proofs.lemmas.Bool.{cases_lt, lt-ltb}
use Rattle.std.proofs.lemmas.List.{length-append, take-append-le}
use Rattle.lethe_base.specs.Keys.{Bytes}
use Rattle.lethe_base.specs.History.{History, Change}
use Rattle.lethe_base.specs.declared.config.Fields.{Fields}
use Rattle.lethe_core.specs.StandsNow.{IsOpenOrStopped}
use Rattle.lethe_core.specs.View.{View}
use Rattle.lethe_disk.specs.Disk.{Image, Seen}
use Rattle.lethe_engine.specs.Opening.{IsResumed}
use Rattle.lethe_disk.specs.Goes.{Goes}
use Rattle.lethe_build.specs.Drafts.{numbers_for}
use Rattle.lethe_stored.specs.Left.{IsLeft}
use Rattle.lethe_stored.specs.Numbers.{IsNextNumber, KeepsPace}
use Rattle.lethe_recover.specs.Opening.{MayNotOpen, IsExhausted, IsKeptInOpening}
use Rattle.lethe_recover.specs.declared.opening.OpenWhy.{OpenWhy}
use Rattle.lethe_recover.specs.declared.opening.OpenWhy.TheVariants as open_why
use Rattle.lethe_script.specs.declared.order.Order.{Order}
use Rattle.lethe_script.specs.declared.refused.BadLine.{BadLine}
use Rattle.lethe_script.specs.Grammar.{script_of}
use Rattle.lethe_run.specs.declared.reply.Line.{Line}
use Rattle.lethe_run.specs.Anywhere.{IsPlausible, standing_of}
use Rattle.lethe_run.specs.Carried.{IsCarriedOut}
use Rattle.lethe_run.specs.Ends.{Run, Asks, IsCommand, IsNoCommand, IsUnused, OnScript, Carries, IsBegun, IsSoundFor, course_of, IsNoScript, IsNotOpened}
use Rattle.lethe_run.specs.Printed.{bad_words, bad_line, open_line}
use Rattle.lethe_run.specs.Scripts.{IsToldFrom, ScriptEnds, Serves}
use Rattle.lethe_run.specs.Serving.{IsOn, IsCarried, Point}
use Rattle.lethe_run.specs.Pins.{no_pins, pins_of}
use Rattle.lethe_run.specs.Reasons.{IsShownOf, IsToldOf, IsWhy, Says, status_of}
use Rattle.lethe_run.specs.Status.{EndsWith, status_for}
use Rattle.lethe_run.specs.declared.reason.Reason.{Reason}
use Rattle.lethe_run.specs.declared.reason.Reason.TheVariants as reason
use Rattle.lethe_run.specs.Transcript.{Start, text_of}
use Rattle.lethe_run.proofs.Anywhere.{through_wider}
use Rattle.lethe_run.proofs.Phases.{front_text}
use Rattle.lethe_run.proofs.Refusals.{none_refused, one_refused}

-- what stands behind the limit changes nothing
past_limit : (bytes more : Bytes) → 16777216 < length bytes → script_of (bytes ++ more) ≡ script_of bytes
unfolding script_of
past_limit bytes more long =
    let longer : 16777216 < length (bytes ++ more) = omega (arith, length-append bytes more) in
    rw (lt-ltb 16777216 (length (bytes ++ more)) longer, lt-ltb 16777216 (length bytes) long, take-append-le 16777216 bytes more (omega arith)) refl

-- what was read to the end, or past the limit, is read as all that there was
pub script_read : (all left : Option Bytes) (bytes : Bytes) → Consumes all left bytes → (length bytes ≤ 16777216 → IsAtEnd left)
    → IfSome all (λ all. script_of all ≡ script_of bytes)
script_read None left bytes consumed end = tt
script_read (Some all) None bytes consumed end = absurd consumed
script_read (Some all) (Some rest) bytes consumed end = elim (cases_lt 16777216 (length bytes)) [
  | inl long ↦ ap script_of consumed ∙ past_limit bytes rest long
  | inr short ↦ ap script_of (consumed ∙ ap (λ rest. bytes ++ rest) (end short) ∙ append-nil bytes)
]

-- two facts of a value that is Ok give a third
pub if_ok_both : {T E : Type 0} {P Q R : T → Type 0} (r : Result T E) → IfOk r P → IfOk r Q → ((x : T) → P x → Q x → R x) → IfOk r R
if_ok_both (Ok x) p q f = f x p q
if_ok_both (Err e) p q f = tt

-- a fact of a value that may be there
pub some_then : {X : Type 0} {P Q : X → Type 0} (o : Option X) → IfSome o P → ((x : X) → P x → Q x) → IfSome o Q
some_then None p f = tt
some_then (Some x) p f = f x p

pub some_now : {X : Type 0} {Q : X → Type 0} (o : Option X) → ((x : X) → Q x) → IfSome o Q
some_now None f = tt
some_now (Some x) f = f x

-- the script that was read is the source's
pub on_script : (source : Option Bytes) (bytes : Bytes) (phases : List (List Order)) (P : List (List Order) → Type 0) → IfSome source (λ all. script_of all ≡ script_of bytes) → script_of bytes ≡ Ok phases → P phases
    → (read : List (List Order)) × IfSome source (λ all. script_of all ≡ Ok read) × P read
on_script source bytes phases P same e p = (phases, some_then source same (λ all is. is ∙ e), p)

pub no_script : (source : Option Bytes) (bytes : Bytes) (bad : BadLine) → IfSome source (λ all. script_of all ≡ script_of bytes) → script_of bytes ≡ Err bad → IfSome source (λ all. script_of all ≡ Err bad)
no_script source bytes bad same e = some_then source same (λ all is. is ∙ e)

pub keeps_still : (taken : Option Bytes) → Keeps taken taken
keeps_still None = tt
keeps_still (Some bytes) = refl

-- Words that are no command, and bytes that are no script

is_command : (run : Run) (config : Fields) → Asks run config → IsCommand run
is_command run config asks = subst IsSome (sym asks) refl

pub said_bad_words : (run : Run) (end : Reason) → IsNoCommand run → IsUnused run → Says reason.Words bad_words run.taken_before run.taken run.SinkRose end → IsWhy run end
said_bad_words run end other unused (inl says) = subst (IsWhy run) (sym says.0) (other, says.1, unused)
said_bad_words run end other unused (inr says) = subst (IsWhy run) (sym says.0) (says.1, bad_words, inl (other, refl, unused), says.2)

pub said_bad_script : (run : Run) (end : Reason) (bad : BadLine) (text : Option Bytes) → IfSome text (λ front. IfSome run.source (λ bytes. IsShownOf bytes bad.line front)) → IsNoScript run bad → IsToldOf (reason.Line bad text) (bad_line bad) run.taken_before run.taken run.SinkRose end → (config : Fields) → Asks run config → IsWhy run end
said_bad_script run end bad text shown none (inl (inl says)) config asks = subst (IsWhy run) (sym says.0) (is_command run config asks, none, says.1, shown)
said_bad_script run end bad text shown none (inl (inr says)) config asks = subst (IsWhy run) (sym says.0) (says.1, bad_line bad, inr (inl (is_command run config asks, bad, none, refl)), says.2)
said_bad_script run end bad text shown none (inr silent) config asks = subst (IsWhy run) (sym silent.0) (config, asks, inl (silent.1, inl none.1))

-- A store that wasn't opened

no_memory_why : (run : Run) (config : Fields) (why : OpenWhy) → IsNotOpened run config why → IsNotOpened run config open_why.NoMemory
no_memory_why run config why not = record {
  script = not.script;
  reason = tt;
  untouched = λ told. inl tt;
  drawn = λ told last is. absurd (clash last is);
  exact = λ told shown reason. inr tt;
  quiet = not.quiet;
  any_moment = not.any_moment;
  pace = not.pace;
}
  where
    clash : (last : ℕ) → open_why.NoMemory ≡ open_why.Exhausted last → ⊥
    clash last e = cc

told_by : (run : Run) (why : OpenWhy) (config : Fields) → Asks run config → IsNotOpened run config why → Appends run.taken_before run.taken (open_line config why) → EndsWith run (status_for why)
told_by run (open_why.Damaged name) config asks not written = (config, asks, name, (not, written))
told_by run (open_why.OtherConfig kept) config asks not written = (config, asks, kept, (not, written))
told_by run (open_why.Fault before after) config asks not written = (config, asks, inr (inl (before, after, (not, written))))
told_by run (open_why.Exhausted last) config asks not written = (config, asks, inr (inr (last, (not, written))))
told_by run open_why.NoMemory config asks not written = (config, asks, inl (keeps run.taken_before run.taken written, inr not))
  where
    keeps : (old new : Option Bytes) → Appends old new [] → Keeps old new
    keeps None new a = tt
    keeps (Some xs) None a = absurd a
    keeps (Some xs) (Some ys) a = a ∙ append-nil xs

-- a reason that isn't want of memory
not_memory : (why : OpenWhy) (config : Fields) (end : Reason) → (why ≡ open_why.NoMemory → end ≡ reason.NoMemory) → end ≡ reason.NotOpened why config → why ≡ open_why.NoMemory → ⊥
not_memory why config end memory is none = let silent = memory none in cc

pub said_not_opened : (run : Run) (end : Reason) (why : OpenWhy) (config : Fields) → Asks run config → IsNotOpened run config why → IsToldOf (reason.NotOpened why config) (open_line config why) run.taken_before run.taken run.SinkRose end
    → (why ≡ open_why.NoMemory → end ≡ reason.NoMemory) → IsWhy run end
said_not_opened run end why config asks not (inl (inl says)) memory = subst (IsWhy run) (sym says.0) (asks, (not, says.1), not_memory why config end memory says.0)
said_not_opened run end why config asks not (inl (inr says)) memory = subst (IsWhy run) (sym says.0) (says.1, open_line config why, inr (inr (inl (config, asks, why, not, refl))), says.2)
said_not_opened run end why config asks not (inr silent) memory = subst (IsWhy run) (sym silent.0) (config, asks, inl (silent.1, inr (no_memory_why run config why not)))

-- each reason has its end
pub ends_so : (run : Run) (why : Reason) → IsWhy run why → EndsWith run (status_of why)
ends_so run reason.Nothing e = e
ends_so run reason.Words e = e
ends_so run (reason.Line bad text) e = (e.0, bad, e.1, e.2)
ends_so run reason.Source e = e
ends_so run reason.Sink e = e
ends_so run (reason.NotOpened why asked) e = told_by run why asked e.0 e.1.0 e.1.1
ends_so run reason.NoMemory e = e
ends_so run (reason.Answer line) e = (e.0, e.1, inl e.2)

-- A script that was carried out

module _ (run : Run) (config : Fields) (asks : Asks run config) (phases : List (List Order)) (script : (P : List (List Order) → Type 0) → P phases → OnScript run P) (mid : View) (up : run.faults_before ≤ mid.faults)
    (runs : mid.state.stopped ≡ None) (config_is : mid.state.manifest.config ≡ config) (unpinned : pins_of mid ≡ no_pins)
    (resumed : run.Tells → (kept : Fields) (h : History) (change : Option Change) → IsLeft kept run.start h change → IsResumed config h change run.start mid)
    (moments : run.Tells → (kept : Fields) (h : History) (change : Option Change) → IsLeft kept run.start h change → Goes (IsKeptInOpening kept config h change run.start.directory) run.start mid.disk)
    (sound : IsSoundFor run config) (itself : run.Tells → Image run.start run.start.directory)
    (opened_pace : run.Tells → (first : ℕ) → KeepsPace first run.start.moment run.start.moment run.start → KeepsPace first run.start.moment run.start.moment mid.disk) where
  abbrev begin_at : ℕ → Start
  begin_at next = record { config = config; faults = run.faults_before; next = next; moment = run.start.moment }

  abbrev point : (h : History) (change : Option Change) → IsResumed config h change run.start mid → Point
  point h change r = record { history = r.history; moment = mid.disk.moment }

  on : (h : History) (change : Option Change) (r : IsResumed config h change run.start mid) → run.start.moment ≤ mid.disk.moment → (next : ℕ) → IsNextNumber run.start.directory next → IsOn (begin_at next) (point h change r) r.history mid
  on h change r later next is =
      let stands = r.stands next is in
      record {
        done = (subst (IsOpenOrStopped config mid r.history stands.now.stored) runs stands.now.held).0;
        counted = mid.faults;
        stands = stands;
        faults_since = up;
        moment_since = later;
      }

  carried_out : run.Tells → (kept : Fields) (left : History) (change : Option Change) (r : IsResumed config left change run.start mid) (next : ℕ) → IsNextNumber run.start.directory next → (front : List (List Order)) (lines : List (List Line))
      → Goes (IsKeptInOpening kept config left change run.start.directory) run.start mid.disk → IsCarried (course_of run config next) (begin_at next) (point left change r) front lines mid.disk run.finish
      → IsCarriedOut config (course_of run config next) run.start run.finish kept left change front lines lines
  carried_out told kept left change r next is front lines opening c = record {
    opened = r.history;
    either = r.either;
    was = r.was;
    history = c.history;
    served = c.served;
    moment = mid.disk.moment;
    any_moment = record {
      from = opening.later;
      upto = c.calls.later;
      past = λ m d le.
          let low = opening.later in
          let here = c.calls.past m d (omega (arith, le, low)) in
          let before = opening.past m d le in
          (λ left. before.0 (here.0 left), λ left. here.1 (before.1 left));
      first = λ m d low high left. opening.each m d low high ((c.calls.past m d high).0 left);
      then = c.each;
    };
    lasting = c.lasting;
    certified = c.certified;
    seen = c.seen;
    leaves = c.leaves;
    config_is = c.config_is;
    clean = c.clean;
    pace = λ first before m d low high left most at. elim (cases_lt mid.disk.moment m) [
      | inr early ↦ opened_pace told first before m d low early ((c.calls.past m d early).0 left) most at
      | inl late ↦
          let more = c.pace m d (omega (arith, late)) high left most at in
          let fits = before run.start.moment run.start.directory (omega arith) (omega arith) (itself told) next is in
          omega (arith, more, fits)
    ];
  }

  plausible : (front : List (List Order)) (lines : List (List Line)) → IsToldFrom run.PortsFail mid run.faults front lines → IsPlausible run.PortsFail config run.faults_before run.faults front lines lines
  plausible front lines told = record {
    opened = standing_of mid;
    threshold = ap (λ (fields : Fields). fields.threshold) config_is;
    runs = runs;
    unpinned = unpinned;
    end = told.0.0;
    told = through_wider run.PortsFail mid.faults run.faults run.faults_before run.faults up (omega arith) front (standing_of mid) lines lines told.0.0 told.0.1;
    slots = told.1;
  }

  carries : (front : List (List Order)) (lines : List (List Line)) → IsToldFrom run.PortsFail mid run.faults front lines → Serves run.Tells run.PortsFail mid run.finish run.faults front lines → Carries run config front lines
  carries front lines told served = record {
    turned = lines;
    told = plausible front lines told;
    left = λ told kept left change is next drawn.
        let r = resumed told kept left change is in
        let opening = moments told kept left change is in
        carried_out told kept left change r next drawn front lines opening (served told (begin_at next) (point left change r) (on left change r opening.later next drawn));
  }

  pub script_ended : (why : Reason) → ScriptEnds run.Tells run.PortsFail mid run.finish run.faults run.taken_before run.taken run.SinkRose phases why → IsWhy run why
  script_ended reason.Nothing e = (
    config,
    asks,
    record { lines = e.lines; script = script (λ p. Carries run config p e.lines) (carries phases e.lines e.told e.served); written = e.written; is = none_refused e.lines e.first; sound = sound },
  )
  script_ended (reason.Answer line) e = (
    config,
    asks,
    record { lines = e.lines; script = script (λ p. Carries run config p e.lines) (carries phases e.lines e.told e.served); written = e.written; is = one_refused e.lines line e.first; sound = sound },
    e.first,
  )
  script_ended reason.Sink e = (
    e.0,
    text_of (e.1.before ++ e.1.last ∷ []),
    inr (inr (inr (
      config,
      asks,
      record {
        before = e.1.before;
        last = e.1.last;
        script = script (λ p. Carries run config (take (suc (length e.1.before)) p) (e.1.before ++ e.1.last ∷ [])) (carries (take (suc (length e.1.before)) phases) (e.1.before ++ e.1.last ∷ []) e.1.told e.1.served);
        is = refl;
        whole = e.1.whole;
        sound = sound;
      },
    ))),
    front_text run.taken_before e.1.whole.0 run.taken e.1.before e.1.last e.1.whole.1 e.1.whole.2,
  )
  script_ended reason.NoMemory e = (
    config,
    asks,
    inr (record {
      lines = e.lines;
      script = script (λ p. (front : List (List Order)) × IsBegun p front × Carries run config front e.lines) (e.front, e.begun, carries e.front e.lines e.told e.served);
      written = e.written;
      sound = sound;
    }),
  )
  script_ended reason.Words e = absurd e
  script_ended (reason.Line bad text) e = absurd e
  script_ended reason.Source e = absurd e
  script_ended (reason.NotOpened why asked) e = absurd e

-- where numbers ran out, the manifest's next number, those of the journal's files and two more reach past the last one
pub drawn_by : (Tells : Type 0) (start finish : Seen) (before now : ℕ) (why : OpenWhy) (config : Fields) → MayNotOpen Tells config start.directory before now why → ((last : ℕ) → why ≡ open_why.Exhausted last → start.moment < finish.moment) → Tells → (last : ℕ) → why ≡ open_why.Exhausted last
    → (full : IsExhausted start.directory) × (last < full.s.manifest.next + (sum_by numbers_for full.short.older_drafts + sum_by numbers_for full.short.newer_drafts) + 2) × (start.moment < finish.moment)
drawn_by Tells start finish before now why config may later told last is =
    let full = subst (MayNotOpen Tells config start.directory before now) is may in
    let e : IsExhausted start.directory = full.1 told in
    let all = full.0 in
    let short = e.short.short in
    (e, omega (arith, all, short), later last is)
