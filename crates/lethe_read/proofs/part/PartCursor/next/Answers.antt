use Rattle.std.proofs.Common.{◌≡◌, ◌-◌, ◌∷◌, Option, Ok, reverse, set, refl, sym, ap, subst, ◌∙◌, arith}
use Rattle.std.specs.Prelude.{All, Contains, IfSome, flat_map}
use Rattle.std.proofs.lemmas.List.Elements.{All-set}
use Rattle.lethe_base.specs.declared.entry.Entry.{Entry}
use Rattle.lethe_file.proofs.Vouching.{last_given, others_given}
use Rattle.lethe_read.proofs.Refusals.{cause_handed_on, damage_handed_on}
use Rattle.lethe_read.proofs.Runs.{all_taken, any_last, any_taken, any_with, left_given, left_taken, of_last, rest_ascends, sum_taken}
use Rattle.lethe_read.proofs.part.PartCursor.next.Given.{Over}
use Rattle.lethe_read.proofs.part.PartCursor.next.Goals as goal

-- the last cursor gave an entry
given : (g : Over) (c : goal.In-Ok-Some g) → g.D.Disk.tells → All g.C.Cursor.sound c.in-Filed.cursors.items
    → flat_map g.C.Cursor.left (reverse c.in-Filed.cursors.items) ≡ c.in-Ok-Some.entry ∷ flat_map g.C.Cursor.left (reverse (set c.loop-cursor.cursors.items (c.loop-cursor.cursors.len - 1) c.next.new.self))
given g c told sound =
    let run = c.loop-cursor.cursors in
    let some = c.in-Some.ensures.variant.0 refl in
    let last = of_last run.items run.len c.in-Some.cursor.now some run.ok.0 c.in-Some.ensures.value g.C.Cursor.sound (c.loop-cursor.invariant.sound sound) in
    sym (c.loop-cursor.invariant.left told sound)
    ∙ left_given run.items run.len c.in-Some.cursor.now some run.ok.0 c.in-Some.ensures.value g.C.Cursor.left c.next.new.self c.in-Ok-Some.entry
    (rw c.in-Ok-Some.field-0-is at (c.in-Ok-Some.ensures.given told last))

pub returns-in-Ok-Some-clause-given : goal.returns-in-Ok-Some-clause-given
returns-in-Ok-Some-clause-given g c = rw c.in-Filed.is (λ told sound. given g c told sound.each)

pub returns-in-Ok-Some-clause-still_sound : goal.returns-in-Ok-Some-clause-still_sound
returns-in-Ok-Some-clause-still_sound g c = rw c.in-Filed.is (λ sound.
    let run = c.loop-cursor.cursors in
    let all = c.loop-cursor.invariant.sound sound.each in
    let last = of_last run.items run.len c.in-Some.cursor.now (c.in-Some.ensures.variant.0 refl) run.ok.0 c.in-Some.ensures.value g.C.Cursor.sound all in
    record {
      told = sound.told;
      each = All-set g.C.Cursor.sound run.items (run.len - 1) c.next.new.self (c.in-Ok-Some.ensures.still_sound last) all;
      ascending = rest_ascends c.in-Ok-Some.entry _ _ (given g c sound.told sound.each) sound.ascending;
    })

pub returns-in-Ok-Some-clause-fewer : goal.returns-in-Ok-Some-clause-fewer
returns-in-Ok-Some-clause-fewer g c = rw c.in-Filed.is (λ name any.
    let run = c.loop-cursor.cursors in
    c.loop-cursor.invariant.fewer name (any_with run.items run.len c.in-Some.cursor.now (c.in-Some.ensures.variant.0 refl) run.ok.0 c.in-Some.ensures.value (λ cursor. g.C.Cursor.damages cursor name)
    c.next.new.self (c.in-Ok-Some.ensures.fewer name) any))

-- the last cursor is at its end
pub loop-cursor-preserved : goal.loop-cursor-preserved
loop-cursor-preserved g c =
    let run = c.loop-cursor.cursors in
    let rest = c.pop-in-Ok-None.new.self.items in
    let some = c.in-Some.ensures.variant.0 refl in
    let before = c.loop-cursor.invariant in
    record {
      again = all_taken run.items run.len c.in-Some.cursor.now some run.ok.0 c.in-Some.ensures.value c.next.new.self rest c.pop-in-Ok-None.ensures.rest g.C.Cursor.may_ask before.again;
      sound = λ sound. all_taken run.items run.len c.in-Some.cursor.now some run.ok.0 c.in-Some.ensures.value c.next.new.self rest c.pop-in-Ok-None.ensures.rest g.C.Cursor.sound (before.sound sound);
      left = λ told sound.
          let last = of_last run.items run.len c.in-Some.cursor.now some run.ok.0 c.in-Some.ensures.value g.C.Cursor.sound (before.sound sound) in
          left_taken run.items run.len c.in-Some.cursor.now some run.ok.0 c.in-Some.ensures.value c.next.new.self rest c.pop-in-Ok-None.ensures.rest g.C.Cursor.left
          (rw c.in-Ok-None.field-0-is at (c.in-Ok-None.ensures.given told last)).0 ∙ before.left told sound;
      awaited = omega (
        arith,
        before.awaited,
        c.in-Ok-None.ensures.once,
        c.in-Ok-None.ensures.ended (ap Ok c.in-Ok-None.field-0-is),
        sum_taken run.items run.len c.in-Some.cursor.now some run.ok.0 c.in-Some.ensures.value c.next.new.self rest c.pop-in-Ok-None.ensures.rest g.C.Cursor.awaits,
      );
      fewer = λ name any. before.fewer name
          (any_taken run.items run.len c.in-Some.cursor.now some run.ok.0 c.in-Some.ensures.value c.next.new.self rest c.pop-in-Ok-None.ensures.rest (λ cursor. g.C.Cursor.damages cursor name) any);
      gives = λ entry any. before.gives entry
          (any_taken run.items run.len c.in-Some.cursor.now some run.ok.0 c.in-Some.ensures.value c.next.new.self rest c.pop-in-Ok-None.ensures.rest (λ cursor. g.C.Cursor.gives cursor entry) any);
      fetched = omega (arith, before.fetched, c.in-Ok-None.ensures.fetches);
      risen = omega (arith, before.risen, c.in-Ok-None.ensures.cause.later);
    }

pub returns-in-Err-clause-damaged : goal.returns-in-Err-clause-damaged
returns-in-Err-clause-damaged g c = rw c.in-Filed.is (λ name e.
    let run = c.loop-cursor.cursors in
    let told = c.in-Err.ensures.damaged name (damage_handed_on {T = Option Entry} c.port_faults-before.result c.in-Err.why c.since.result name c.since.ensures e) in (
      c.loop-cursor.invariant.fewer name (any_last run.items run.len c.in-Some.cursor.now (c.in-Some.ensures.variant.0 refl) run.ok.0 c.in-Some.ensures.value (λ cursor. g.C.Cursor.damages cursor name) told.0),
      omega (arith, told.1, c.loop-cursor.invariant.fetched),
    ))

pub returns-in-Err-clause-cause : goal.returns-in-Err-clause-cause
returns-in-Err-clause-cause g c =
    cause_handed_on (g.D.Disk.port_faults c.args.port.now) (g.D.Disk.port_faults c.loop-cursor.port) (g.D.Disk.port_faults c.next.new.port) c.port_faults-before.result c.in-Err.why c.since.result
    c.port_faults-before.ensures c.since.ensures c.loop-cursor.invariant.risen c.in-Err.ensures.cause

pub returns-in-Ok-Some-clause-among : goal.returns-in-Ok-Some-clause-among
returns-in-Ok-Some-clause-among g c = rw c.in-Filed.is (
    let run = c.loop-cursor.cursors in
    let entry = c.in-Ok-Some.entry in
    let gives = subst (λ (o : Option Entry). IfSome o (g.C.Cursor.gives c.in-Some.cursor.now)) c.in-Ok-Some.field-0-is c.in-Ok-Some.ensures.among in
    c.loop-cursor.invariant.gives entry (any_last run.items run.len c.in-Some.cursor.now (c.in-Some.ensures.variant.0 refl) run.ok.0 c.in-Some.ensures.value (λ cursor. g.C.Cursor.gives cursor entry) gives))

pub returns-in-Ok-Some-clause-no_more : goal.returns-in-Ok-Some-clause-no_more
returns-in-Ok-Some-clause-no_more g c = rw c.in-Filed.is (λ entry any.
    let run = c.loop-cursor.cursors in
    c.loop-cursor.invariant.gives entry (any_with run.items run.len c.in-Some.cursor.now (c.in-Some.ensures.variant.0 refl) run.ok.0 c.in-Some.ensures.value (λ cursor. g.C.Cursor.gives cursor entry)
    c.next.new.self (c.in-Ok-Some.ensures.no_more entry) any))

pub returns-in-Buffered-clause-among : goal.returns-in-Buffered-clause-among
returns-in-Buffered-clause-among g c = rw c.in-Buffered.is (last_given c.in-Buffered.entries.items c.pop.new.self.items c.pop.result c.pop.ensures.items (Contains c.in-Buffered.entries.items) (λ entry has. has))

pub returns-in-Buffered-clause-no_more : goal.returns-in-Buffered-clause-no_more
returns-in-Buffered-clause-no_more g c = rw c.in-Buffered.is (λ entry has. others_given c.in-Buffered.entries.items c.pop.new.self.items c.pop.result c.pop.ensures.items entry has)
