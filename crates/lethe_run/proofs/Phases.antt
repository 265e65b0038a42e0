-- One phase after another.
use Rattle.std.proofs.Common.{◌≡◌, ◌≤◌, ℕ, List, take, [], ◌∷◌, ◌++◌, Option, Some, None, refl, sym, ap, ◌∙◌, subst, append_assoc, append-nil}
use Rattle.std.specs.Prelude.{All, length}
use Rattle.std.specs.Io.KnownBytes.{Appends}
use Rattle.std.proofs.Math.Seq.{take-append_seam}
use Rattle.std.proofs.lemmas.List.Elements.{All-append, All-cons, All-nil, All-weaker}
use Rattle.std.proofs.lemmas.Grind.{flat_map-append}
use Rattle.lethe_base.specs.History.{History}
use Rattle.lethe_base.specs.Keys.{Bytes}
use Rattle.lethe_core.specs.View.{View}
use Rattle.lethe_disk.specs.Disk.{Image}
use Rattle.lethe_stored.specs.Clean.{IsClean}
use Rattle.lethe_stored.specs.Left.{without_failed}
use Rattle.lethe_cert.specs.declared.certificate.Certificate.{Certificate}
use Rattle.lethe_engine.specs.StandsFor.{IsKeptFor}
use Rattle.lethe_script.specs.declared.order.Order.{Order}
use Rattle.lethe_wire.specs.Causes.{AppendsFront}
use Rattle.lethe_run.specs.declared.reply.Line.{Line}
use Rattle.lethe_run.specs.Printed.{lines_text}
use Rattle.lethe_run.specs.Carried.{IsBorneOut, IsSeen, certificates_in, looks_in}
use Rattle.lethe_run.specs.Serving.{Advances, IsBorneOn, IsOn, IsPhase, IsCarried, IsServedInTurn, Point}
use Rattle.lethe_run.specs.Transcript.{Course, Start, course, IsServed, AreServed, printed, text_of}
use Rattle.lethe_run.proofs.Images.{still, leaves, has_config, is_clean}
use Rattle.lethe_run.proofs.Lasting.{AreStaying, Stays, begins_now, bound_now, done_behind, done_within, seen_now, staying_lasting, staying_next}
use Rattle.lethe_run.proofs.Seen.{all_seen_later}
use Rattle.lethe_run.proofs.Serving.{advances_then, all_borne_later, served_later, served_printed}

-- what was written

pub appends_then : (old mid new : Option Bytes) (first then : Bytes) → Appends old mid first → Appends mid new then → Appends old new (first ++ then)
appends_then None mid new first then a b = tt
appends_then (Some xs) None new first then a b = absurd a
appends_then (Some xs) (Some ys) None first then a b = absurd b
appends_then (Some xs) (Some ys) (Some zs) first then a b = b ∙ ap (λ l. l ++ then) a ∙ append_assoc xs first then

pub appends_none : (old : Option Bytes) → Appends old old []
appends_none None = tt
appends_none (Some xs) = sym (append-nil xs)

pub front_then : (old mid new : Option Bytes) (first then : Bytes) → Appends old mid first → AppendsFront mid new then → AppendsFront old new (first ++ then)
front_then old mid new first then a b = (first ++ b.0, b.1, ap (λ l. first ++ l) b.2 ∙ sym (append_assoc first b.0 b.1), appends_then old mid new first b.0 a b.3)

-- a whole text, or a front of it, is a front
pub front_whole : (old new : Option Bytes) (text : Bytes) → Appends old new text → AppendsFront old new text
front_whole old new text a = (text, [], sym (append-nil text), a)

pub front_front : (old new : Option Bytes) (text whole rest : Bytes) → whole ≡ text ++ rest → AppendsFront old new text → AppendsFront old new whole
front_front old new text whole rest is b = (b.0, b.1 ++ rest, is ∙ ap (λ l. l ++ rest) b.2 ∙ append_assoc b.0 b.1 rest, b.3)

text_more : (lines : List (List Line)) (more : List Line) → text_of (lines ++ more ∷ []) ≡ text_of lines ++ lines_text more
text_more lines more = flat_map-append lines_text lines (more ∷ []) ∙ ap (λ l. text_of lines ++ l) (append-nil (lines_text more))

pub whole_text : (old mid new : Option Bytes) (lines : List (List Line)) (more : List Line) → Appends old mid (text_of lines) → Appends mid new (lines_text more) → Appends old new (text_of (lines ++ more ∷ []))
whole_text old mid new lines more a b = subst (Appends old new) (sym (text_more lines more)) (appends_then old mid new (text_of lines) (lines_text more) a b)

pub front_text : (old mid new : Option Bytes) (lines : List (List Line)) (more : List Line) → Appends old mid (text_of lines) → AppendsFront mid new (lines_text more) → AppendsFront old new (text_of (lines ++ more ∷ []))
front_text old mid new lines more a b = subst (AppendsFront old new) (sym (text_more lines more)) (front_then old mid new (text_of lines) (lines_text more) a b)

-- what the certificates of a phase say was so, and stays so
abbrev pub AreBorneOn : Start → History → View → List Line → Type 0
AreBorneOn begin h view lines = All (IsBorneOn begin h view) (certificates_in lines)

-- and what its lines tell of something stored
abbrev pub AreSeen : Start → History → View → List Line → Type 0
AreSeen begin h view lines = All (IsSeen begin.config begin.moment h view.disk) (looks_in lines)

-- the phases so far, and what else is shown of the history that they made
pub record SoFar (Ports : Type 0) (begin : Start) (from : Point) (phases : List (List Order)) (lines : List (List Line)) (start now : View) (Shown : History → Type 0) : Type 0 where
  pub history : History
  pub served : AreServed (course Ports begin now.faults now.disk.moment) from.history phases lines lines history
  pub goes : Advances begin from.history history start now
  pub on : IsOn begin from history now
  pub lasting : AreStaying begin from.history history now from.moment lines
  pub certified : All (AreBorneOn begin history now) lines
  pub seen : All (AreSeen begin history now) lines
  pub shown : Shown history

pub so_far_start : (Ports : Type 0) (begin : Start) (from : Point) (view : View) (Shown : History → Type 0) → IsOn begin from from.history view → Shown from.history → SoFar Ports begin from [] [] view view Shown
so_far_start Ports begin from view Shown on shown = record { history = from.history; served = refl; goes = still begin from.history view; on = on; lasting = on.stands.later; certified = All-nil (AreBorneOn begin from.history view); seen = All-nil (AreSeen begin from.history view); shown = shown }

phases_more : (c : Course) (start middle h : History) (phases : List (List Order)) (lines : List (List Line)) (orders : List Order) (more : List Line)
    → AreServed c start phases lines lines middle → IsServed c middle orders more more h → AreServed c start (phases ++ orders ∷ []) (lines ++ more ∷ []) (lines ++ more ∷ []) h
phases_more c start middle h [] [] orders more served last = (h, subst (λ s. IsServed c s orders more more h) served last, refl)
phases_more c start middle h [] (l ∷ lines) orders more served last = absurd served
phases_more c start middle h (p ∷ phases) [] orders more served last = absurd served
phases_more c start middle h (p ∷ phases) (l ∷ lines) orders more served last = (served.0, served.1, phases_more c served.0 middle h phases lines orders more served.2 last)

-- from the end of a phase on each crash has what its lines answer with `ok`
stays_now : (Ports : Type 0) (begin : Start) (from : Point) (start h : History) (orders : List Order) (lines : List Line) (view : View) → IsOn begin from h view
    → IsServedInTurn (course Ports begin view.faults view.disk.moment) start orders lines h → Stays begin from.history h view view.disk.moment lines
stays_now Ports begin from start h orders lines view on served = record {
  had = without_failed h;
  begins = begins_now begin from h view on;
  on = seen_now begin from h view on;
  places = done_within (record { history = h; course = course Ports begin view.faults view.disk.moment }) (length (without_failed h)) (bound_now begin from h view on) orders lines served.answered;
}

pub so_far_more : (Ports : Type 0) (begin : Start) (from : Point) (h : History) (phases : List (List Order)) (lines : List (List Line)) (orders part : List Order) (more : List Line) (start now then : View) (Was Is : History → Type 0) → now.faults ≤ then.faults
    → part ≡ printed orders
    → (so_far : SoFar Ports begin from phases lines start now Was) → IsPhase Ports begin so_far.history h part more now then → Is h
    → SoFar Ports begin from (phases ++ orders ∷ []) (lines ++ more ∷ []) start then Is
so_far_more Ports begin from h phases lines orders part more start now then Was Is le is so_far phase shown =
    let on = phase.goes.stands from so_far.on in
    record {
      history = h;
      served = phases_more (course Ports begin then.faults then.disk.moment) from.history so_far.history h phases lines orders more
          (served_later Ports begin now.faults then.faults now.disk.moment then.disk.moment le phase.goes.calls.later from.history so_far.history phases lines lines so_far.served)
          (served_printed (course Ports begin then.faults then.disk.moment) so_far.history h orders part more is phase.served);
      goes = advances_then begin from.history so_far.history h start now then so_far.goes phase.goes;
      on = on;
      lasting = staying_next begin from so_far.history h now then so_far.on phase.goes phase.served.begins more
          (done_behind (course Ports begin then.faults then.disk.moment) more (length so_far.history) (length h) phase.served.alone) (stays_now Ports begin from so_far.history h part more then on phase.served) lines so_far.lasting;
      certified = All-append (AreBorneOn begin h then) lines (more ∷ [])
          (All-weaker (AreBorneOn begin so_far.history now) (AreBorneOn begin h then) (λ ls is. all_borne_later begin so_far.history h now then phase.goes (certificates_in ls) is) lines so_far.certified)
          (All-cons (AreBorneOn begin h then) more [] phase.certified (All-nil (AreBorneOn begin h then)));
      seen = All-append (AreSeen begin h then) lines (more ∷ [])
          (All-weaker (AreSeen begin so_far.history now) (AreSeen begin h then)
          (λ ls is. all_seen_later begin.config begin.moment so_far.history h phase.served.begins now.disk then.disk phase.goes.calls (looks_in ls) is) lines so_far.seen)
          (All-cons (AreSeen begin h then) more [] phase.seen (All-nil (AreSeen begin h then)));
      shown = shown;
    }

-- at the end of a run what each certificate says was so at its moment
borne_out : (begin : Start) (h : History) (view : View) (told : ℕ × Certificate) → IsBorneOn begin h view told → IsBorneOut begin.config begin.moment h view.disk told
borne_out begin h view told is =
    let begins = is.on.stands.begins in
    let front : is.point.history ≡ take told.0 h = sym (take-append_seam is.point.history begins.0) ∙ ap (take (length is.point.history)) (sym begins.1) ∙ ap (λ n. take n h) is.place in
    record {
      moment = is.point.moment;
      since = is.on.moment_since;
      upto = is.on.stands.later;
      each = λ c left. let each = is.each c left in (each.0, subst (λ l. IsClean begin.config.threshold c l told.1.clock) front each.1);
      kept = λ m c low high left. subst (λ l. IsKeptFor begin.config l h c) front (is.on.stands.images m c low high left);
    }

pub carried : (Ports : Type 0) (begin : Start) (from : Point) (phases : List (List Order)) (lines : List (List Line)) (start now : View) (Shown : History → Type 0) → Image now.disk now.disk.directory → SoFar Ports begin from phases lines start now Shown
    → IsCarried (course Ports begin now.faults now.disk.moment) begin from phases lines start.disk now.disk
carried Ports begin from phases lines start now Shown itself so_far = record {
  history = so_far.history;
  served = so_far.served;
  calls = so_far.goes.calls;
  each = so_far.on.stands.images;
  lasting = staying_lasting begin from.history so_far.history now from.moment lines so_far.lasting;
  certified = All-weaker (AreBorneOn begin so_far.history now) (λ line. All (IsBorneOut begin.config begin.moment so_far.history now.disk) (certificates_in line))
      (λ line is. All-weaker (IsBorneOn begin so_far.history now) (IsBorneOut begin.config begin.moment so_far.history now.disk) (borne_out begin so_far.history now) (certificates_in line) is) lines so_far.certified;
  seen = so_far.seen;
  leaves = leaves begin from so_far.history now so_far.on itself;
  config_is = has_config begin from so_far.history now so_far.on;
  clean = is_clean begin from so_far.history now so_far.on;
  pace = so_far.on.stands.pace;
}
