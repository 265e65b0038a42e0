use Rattle.std.proofs.Common.{ℕ, ◌≡◌, ◌+◌, ◌<◌, ◌≤◌, Bool, List, ◌∷◌, ◌++◌, length, set, take, drop, All, IfNone, IfSome, Option, Some, None, Err, refl, sym, ap, subst, ◌∙◌, arith}
use Rattle.std.specs.Global.{Vec}
use Rattle.std.specs.Prelude.{IsErrOf, sum_by}
use Rattle.std.proofs.lemmas.List.{take_at}
use Rattle.lethe_base.specs.declared.entry.Entry.{Entry}
use Rattle.lethe_base.specs.declared.pending.Pending.{Pending}
use Rattle.lethe_cover.specs.Merged.{bared}
use Rattle.lethe_disk.specs.Reads.{HasReadCause}
use Rattle.lethe_disk.specs.declared.cursor.ReadRefused.{ReadRefused}
use Rattle.lethe_disk.specs.Reads.{refused_since}
use Rattle.lethe_disk.specs.declared.cursor.ReadRefused.TheVariants.{Damaged}
use Rattle.lethe_merge.specs.Sources.{AreSound, HasNone, IsTaken, awaits_in, left_merged}
use Rattle.lethe_merge.specs.declared.source.Source.{Source}
use Rattle.lethe_disk.proofs.Causes.{cause_since, damage_since}
use Rattle.lethe_merge.proofs.Awaits.{IsAwaiting, asked_at_most, asked_damages, awaiting-as, awaiting-asked, awaiting-same, awaiting-taken, awaiting-then, none_awaited}
use Rattle.lethe_merge.proofs.Fills.{filling-all, filling-asked, filling-same}
use Rattle.lethe_merge.proofs.Gives.{IsGiving, bared_alike, giving-asked, giving-same, giving-taken, merged_giving, output_given, taken_given}
use Rattle.lethe_merge.proofs.Skips.{IsTurn, IsSkipping, turn, given-none, given-some, sound-again, skipping-more, merged_as, sound_as}
use Rattle.lethe_merge.proofs.merger.MergerCursor.next.Goals as goal
use Rattle.lethe_merge.proofs.merger.MergerCursor.next.Goals.{in-Unasked+in-Ok, in_default, After-take_least}

pub returns-in-Err-clause-cause : goal.returns-in-Err-clause-cause
returns-in-Err-clause-cause g c =
    let from : g.D.Disk.port_faults c.args.port.now ≤ g.D.Disk.port_faults c.loop-place.port = omega (arith, c.loop-turn.invariant.skipping.risen, c.loop-place.invariant.filling.risen) in
    let cause = cause_since {T = Option Entry} {U = Option Entry} (g.D.Disk.port_faults c.args.port.now) (g.D.Disk.port_faults c.loop-place.port) (g.D.Disk.port_faults c.next.new.port) c.in-Err.why from c.in-Err.ensures.cause in
    subst (λ (why : ReadRefused). HasReadCause {T = Option Entry} (g.D.Disk.port_faults c.args.port.now) (g.D.Disk.port_faults c.next.new.port) (Err why))
    (ap (λ (n : ℕ). refused_since n c.in-Err.why) (sym c.port_faults-before.ensures) ∙ sym c.since.ensures) cause

pub loop-place-preserved : goal.loop-place-preserved
loop-place-preserved g c =
    let tells = g.D.Disk.tells in
    let now = c.loop-place.self.sources.items in
    let place = c.loop-place.place in
    let filling = c.loop-place.invariant.filling in
    let within : place < length now = omega (arith, filling.whole, c.loop-turn.self.sources.ok.0) in
    elim c.match-source.branch [
      | in-Unasked+in-Ok w ↦ rw (w.self-is, w.port-is) (record {
        filling = filling-asked tells g.C.Cursor.may_ask g.C.Cursor.sound g.C.Cursor.left c.loop-turn.self.sources.items (g.D.Disk.port_faults c.loop-turn.port) (g.D.Disk.fetches c.loop-turn.port)
            now _ place c.index_mut-source.result.now w.next.new.self w.in-Ok.next
            (g.D.Disk.port_faults c.loop-place.port) (g.D.Disk.port_faults w.next.new.port) (g.D.Disk.fetches c.loop-place.port) (g.D.Disk.fetches w.next.new.port)
            filling within c.index_mut-source.ensures.value w.in-Unasked.is (ap (set now place) w.keep.ensures) w.in-Ok.ensures.again w.in-Ok.ensures.still_sound w.in-Ok.ensures.given w.in-Ok.ensures.cause.later w.in-Ok.ensures.fetches;
        awaiting = awaiting-asked g.C.Cursor.awaits g.C.Cursor.damages now place c.index_mut-source.result.now (g.D.Disk.fetches c.loop-turn.port) within c.index_mut-source.ensures.value w.in-Unasked.is
            c.loop-turn.self.sources.items _ (g.D.Disk.fetches c.loop-place.port) (g.D.Disk.fetches w.next.new.port) w.next.new.self w.in-Ok.next c.loop-place.invariant.awaiting (ap (set now place) w.keep.ensures)
            w.in-Ok.ensures.once w.in-Ok.ensures.ended w.in-Ok.ensures.fewer;
        giving = giving-asked g.C.Cursor.gives c.loop-turn.self.sources.items now _ place c.index_mut-source.result.now w.next.new.self w.in-Ok.next c.loop-place.invariant.giving within c.index_mut-source.ensures.value
            (ap (set now place) w.keep.ensures) w.in-Ok.ensures.among w.in-Ok.ensures.no_more;
        erases = c.loop-place.invariant.erases;
        alone = c.loop-place.invariant.alone;
      })
      | in_default w ↦ rw (w.self-is, w.port-is) (record {
        filling = filling-same tells g.C.Cursor.may_ask g.C.Cursor.sound g.C.Cursor.left c.loop-turn.self.sources.items (g.D.Disk.port_faults c.loop-turn.port) (g.D.Disk.fetches c.loop-turn.port)
            now _ place c.index_mut-source.result.now (g.D.Disk.port_faults c.loop-place.port) (g.D.Disk.fetches c.loop-place.port)
            filling within c.index_mut-source.ensures.value refl w.in_default.not-Unasked;
        awaiting = awaiting-same g.C.Cursor.awaits g.C.Cursor.damages c.loop-turn.self.sources.items now _ place c.index_mut-source.result.now (g.D.Disk.fetches c.loop-turn.port) (g.D.Disk.fetches c.loop-place.port)
            c.loop-place.invariant.awaiting within c.index_mut-source.ensures.value refl;
        giving = giving-same g.C.Cursor.gives c.loop-turn.self.sources.items now _ place c.index_mut-source.result.now c.loop-place.invariant.giving within c.index_mut-source.ensures.value refl;
        erases = c.loop-place.invariant.erases;
        alone = c.loop-place.invariant.alone;
      })
    ]

-- the slice that was lent is all of the sources
whole : (g : _) (c : After-take_least g)
    → take c.loop-place.self.sources.len (c.take_least.new.sources ++ drop (length c.take_least.new.sources) c.loop-place.self.sources.items) ≡ c.take_least.new.sources
whole g c = take_at c.take_least.new.sources _ c.loop-place.self.sources.len (c.take_least.auto.sources ∙ c.deref_mut.ensures.len)

erases_as : (g : _) (c : After-take_least g) → c.loop-place.self.erases.items ≡ c.args.self.now.erases.items
erases_as g c = ap (λ (v : Vec Pending). v.items) (c.loop-place.invariant.erases ∙ c.loop-turn.invariant.erases)

alone_as : (g : _) (c : After-take_least g) → c.loop-place.self.alone ≡ c.args.self.now.alone
alone_as g c = c.loop-place.invariant.alone ∙ c.loop-turn.invariant.alone

turned : (g : _) (c : After-take_least g) (next : Option Entry) → c.take_least.result ≡ next
    → IsTurn g.D.Disk.tells g.C.Cursor.may_ask g.C.Cursor.sound g.C.Cursor.left c.args.self.now.erases.items c.args.self.now.sources.items c.loop-turn.self.sources.items c.take_least.new.sources next
turned g c next is =
    let old = c.args.self.now in
    let filling = c.loop-place.invariant.filling in
    let over : length c.loop-place.self.sources.items ≤ c.loop-place.place = omega (arith, filling.whole, c.loop-turn.self.sources.ok.0) in
    turn g.D.Disk.tells g.C.Cursor.may_ask g.C.Cursor.sound g.C.Cursor.left old.erases.items old.alone old.sources.items (g.D.Disk.port_faults c.args.port.now) (g.D.Disk.fetches c.args.port.now)
    c.loop-turn.self.sources.items (g.D.Disk.port_faults c.loop-turn.port) (g.D.Disk.fetches c.loop-turn.port) c.loop-turn.invariant.skipping
    c.loop-place.self.sources.items c.take_least.new.sources c.deref_mut.result.now c.deref.result.now c.loop-place.place (g.D.Disk.port_faults c.loop-place.port) (g.D.Disk.fetches c.loop-place.port) next
    filling over c.deref_mut.ensures.value (c.deref.ensures.value ∙ erases_as g c)
    (subst (λ (o : Option Entry). IfNone o (HasNone c.deref_mut.result.now c.take_least.new.sources)) is c.take_least.ensures.none)
    (subst (λ (o : Option Entry). IfSome o (IsTaken c.deref.result.now c.deref_mut.result.now c.take_least.new.sources)) is c.take_least.ensures.some)

same : (g : _) (c : After-take_least g)
    → left_merged g.C.Cursor.left c.take_least.new.sources c.args.self.now.erases.items c.args.self.now.alone
    ≡ left_merged g.C.Cursor.left (take c.loop-place.self.sources.len (c.take_least.new.sources ++ drop (length c.take_least.new.sources) c.loop-place.self.sources.items)) c.loop-place.self.erases.items c.loop-place.self.alone
same g c = merged_as g.C.Cursor.left _ c.take_least.new.sources c.loop-place.self.erases.items c.args.self.now.erases.items c.loop-place.self.alone c.args.self.now.alone (whole g c) (erases_as g c) (alone_as g c)

still_sound : (g : _) (c : After-take_least g) (next : Option Entry) → c.take_least.result ≡ next
    → AreSound g.D.Disk.tells g.C.Cursor.sound g.C.Cursor.left c.args.self.now.sources.items c.args.self.now.erases.items c.args.self.now.alone
    → AreSound g.D.Disk.tells g.C.Cursor.sound g.C.Cursor.left (take c.loop-place.self.sources.len (c.take_least.new.sources ++ drop (length c.take_least.new.sources) c.loop-place.self.sources.items))
    c.loop-place.self.erases.items c.loop-place.self.alone
still_sound g c next is all =
    let old = c.args.self.now in
    sound_as g.C.Cursor.left _ c.take_least.new.sources c.loop-place.self.erases.items old.erases.items c.loop-place.self.alone old.alone (whole g c) (erases_as g c) (alone_as g c) g.D.Disk.tells g.C.Cursor.sound
    (sound-again g.D.Disk.tells g.C.Cursor.may_ask g.C.Cursor.sound g.C.Cursor.left old.erases.items old.alone old.sources.items (g.D.Disk.port_faults c.args.port.now) (g.D.Disk.fetches c.args.port.now)
    c.loop-turn.self.sources.items (g.D.Disk.port_faults c.loop-turn.port) (g.D.Disk.fetches c.loop-turn.port) c.loop-turn.invariant.skipping c.take_least.new.sources next (turned g c next is) all)

again : (g : _) (c : After-take_least g) (next : Option Entry) → c.take_least.result ≡ next
    → All (λ (source : Source g.row.C.Denot). g.C.Cursor.may_ask source.cursor) (take c.loop-place.self.sources.len (c.take_least.new.sources ++ drop (length c.take_least.new.sources) c.loop-place.self.sources.items))
again g c next is = subst (All (λ (source : Source g.row.C.Denot). g.C.Cursor.may_ask source.cursor)) (sym (whole g c)) (turned g c next is).again

-- what is awaited behind the entries that were taken
awaited : (g : _) (c : After-take_least g) (next : Option Entry) → c.take_least.result ≡ next
    → IsAwaiting g.C.Cursor.awaits g.C.Cursor.damages c.args.self.now.sources.items (take c.loop-place.self.sources.len (c.take_least.new.sources ++ drop (length c.take_least.new.sources) c.loop-place.self.sources.items))
    (g.D.Disk.fetches c.args.port.now) (g.D.Disk.fetches c.loop-place.port)
awaited g c next is =
    let old = c.args.self.now.sources.items in
    let start = c.loop-turn.self.sources.items in
    let now = c.loop-place.self.sources.items in
    let new = c.take_least.new.sources in
    let f0 = g.D.Disk.fetches c.args.port.now in
    let f1 = g.D.Disk.fetches c.loop-turn.port in
    let f2 = g.D.Disk.fetches c.loop-place.port in
    let filled : IsAwaiting g.C.Cursor.awaits g.C.Cursor.damages old now f0 f2 =
    awaiting-then g.C.Cursor.awaits g.C.Cursor.damages old start now f0 f1 f2 c.loop-turn.invariant.awaiting c.loop-place.invariant.awaiting in
    let none : IfNone next (HasNone now new) =
    subst (λ (sources : List (Source g.row.C.Denot)). IfNone next (HasNone sources new)) c.deref_mut.ensures.value
    (subst (λ (o : Option Entry). IfNone o (HasNone c.deref_mut.result.now new)) is c.take_least.ensures.none) in
    let some : IfSome next (IsTaken c.deref.result.now now new) =
    subst (λ (sources : List (Source g.row.C.Denot)). IfSome next (IsTaken c.deref.result.now sources new)) c.deref_mut.ensures.value
    (subst (λ (o : Option Entry). IfSome o (IsTaken c.deref.result.now c.deref_mut.result.now new)) is c.take_least.ensures.some) in
    awaiting-as g.C.Cursor.awaits g.C.Cursor.damages old new _ f0 f2 (whole g c)
    (awaiting-then g.C.Cursor.awaits g.C.Cursor.damages old now new f0 f2 f2 filled (awaiting-taken g.C.Cursor.awaits g.C.Cursor.damages c.deref.result.now now new next f2 none some))

-- nothing more may be given behind them
giving : (g : _) (c : After-take_least g) (next : Option Entry) → c.take_least.result ≡ next
    → IsGiving g.C.Cursor.gives c.args.self.now.sources.items (take c.loop-place.self.sources.len (c.take_least.new.sources ++ drop (length c.take_least.new.sources) c.loop-place.self.sources.items))
giving g c next is =
    let old = c.args.self.now.sources.items in
    let now = c.loop-place.self.sources.items in
    let new = c.take_least.new.sources in
    let none : IfNone next (HasNone now new) =
    subst (λ (sources : List (Source g.row.C.Denot)). IfNone next (HasNone sources new)) c.deref_mut.ensures.value
    (subst (λ (o : Option Entry). IfNone o (HasNone c.deref_mut.result.now new)) is c.take_least.ensures.none) in
    let some : IfSome next (IsTaken c.deref.result.now now new) =
    subst (λ (sources : List (Source g.row.C.Denot)). IfSome next (IsTaken c.deref.result.now sources new)) c.deref_mut.ensures.value
    (subst (λ (o : Option Entry). IfSome o (IsTaken c.deref.result.now c.deref_mut.result.now new)) is c.take_least.ensures.some) in
    subst (λ (sources : List (Source g.row.C.Denot)). IsGiving g.C.Cursor.gives old sources) (sym (whole g c))
    (λ entry any. c.loop-turn.invariant.giving entry (c.loop-place.invariant.giving entry (giving-taken g.C.Cursor.gives c.deref.result.now now new next none some entry any)))

at_most : (g : _) (c : After-take_least g) (next : Option Entry) → c.take_least.result ≡ next
    → g.D.Disk.fetches c.loop-place.port ≤ g.D.Disk.fetches c.args.port.now + sum_by (awaits_in g.C.Cursor.awaits) c.args.self.now.sources.items
at_most g c next is = omega (arith, (awaited g c next is).once)

pub returns-in_default-take_least-clause-once : goal.returns-in_default-take_least-clause-once
returns-in_default-take_least-clause-once g c = (awaited g (goal.at.returns-in_default-take_least-clause-once g c).After-take_least None c.in_default-take_least.is).once

pub returns-in_default-take_least-clause-at_most : goal.returns-in_default-take_least-clause-at_most
returns-in_default-take_least-clause-at_most g c = at_most g (goal.at.returns-in_default-take_least-clause-at_most g c).After-take_least None c.in_default-take_least.is

pub returns-in_default-take_least-clause-fewer : goal.returns-in_default-take_least-clause-fewer
returns-in_default-take_least-clause-fewer g c = (awaited g (goal.at.returns-in_default-take_least-clause-fewer g c).After-take_least None c.in_default-take_least.is).fewer

pub returns-in_default-take_least-clause-ended : goal.returns-in_default-take_least-clause-ended
returns-in_default-take_least-clause-ended g c = λ _.
    let at = (goal.at.returns-in_default-take_least-clause-ended g c).After-take_least in
    let now = c.loop-place.self.sources.items in
    let new = c.take_least.new.sources in
    let has : HasNone now new =
    subst (λ (sources : List (Source g.row.C.Denot)). HasNone sources new) c.deref_mut.ensures.value
    (subst (λ (o : Option Entry). IfNone o (HasNone c.deref_mut.result.now new)) c.in_default-take_least.is c.take_least.ensures.none) in
    let over : length now ≤ c.loop-place.place = omega (arith, c.loop-place.invariant.filling.whole, c.loop-turn.self.sources.ok.0) in
    ap (sum_by (awaits_in g.C.Cursor.awaits)) (whole g at ∙ has.same) ∙ none_awaited g.C.Cursor.awaits g.C.Cursor.damages now (filling-all now c.loop-place.place over c.loop-place.invariant.filling.known) has.none

pub returns-in-Some-bare-clause-once : goal.returns-in-Some-bare-clause-once
returns-in-Some-bare-clause-once g c = (awaited g (goal.at.returns-in-Some-bare-clause-once g c).After-take_least (Some c.in-Some.entry) c.in-Some.is).once

pub returns-in-Some-bare-clause-at_most : goal.returns-in-Some-bare-clause-at_most
returns-in-Some-bare-clause-at_most g c = at_most g (goal.at.returns-in-Some-bare-clause-at_most g c).After-take_least (Some c.in-Some.entry) c.in-Some.is

pub returns-in-Some-bare-clause-fewer : goal.returns-in-Some-bare-clause-fewer
returns-in-Some-bare-clause-fewer g c = (awaited g (goal.at.returns-in-Some-bare-clause-fewer g c).After-take_least (Some c.in-Some.entry) c.in-Some.is).fewer

pub returns-clause-at_most : goal.returns-clause-at_most
returns-clause-at_most g c = omega (arith, c.loop-turn.invariant.awaiting.once)

pub returns-in-Err-clause-at_most : goal.returns-in-Err-clause-at_most
returns-in-Err-clause-at_most g c =
    let now = c.loop-place.self.sources.items in
    let within : c.loop-place.place < length now = omega (arith, c.loop-place.invariant.filling.whole, c.loop-turn.self.sources.ok.0, c.loop-place-test.true) in
    asked_at_most g.C.Cursor.awaits g.C.Cursor.damages now c.loop-place.place c.index_mut-source.result.now (g.D.Disk.fetches c.args.port.now) within c.index_mut-source.ensures.value c.in-Unasked.is
    c.args.self.now.sources.items (g.D.Disk.fetches c.loop-place.port) (g.D.Disk.fetches c.next.new.port)
    (awaiting-then g.C.Cursor.awaits g.C.Cursor.damages c.args.self.now.sources.items c.loop-turn.self.sources.items now (g.D.Disk.fetches c.args.port.now) (g.D.Disk.fetches c.loop-turn.port) (g.D.Disk.fetches c.loop-place.port)
    c.loop-turn.invariant.awaiting c.loop-place.invariant.awaiting) c.in-Err.ensures.at_most

pub returns-in-Err-clause-damaged : goal.returns-in-Err-clause-damaged
returns-in-Err-clause-damaged g c = λ name e.
    let now = c.loop-place.self.sources.items in
    let within : c.loop-place.place < length now = omega (arith, c.loop-place.invariant.filling.whole, c.loop-turn.self.sources.ok.0, c.loop-place-test.true) in
    let told = c.in-Err.ensures.damaged name (damage_since {T = Option Entry} {U = Option Entry} c.port_faults-before.result c.in-Err.why name
    (subst (λ (why : ReadRefused). IsErrOf {T = Option Entry} (Err why) (Damaged name)) c.since.ensures e)) in (
      asked_damages g.C.Cursor.awaits g.C.Cursor.damages now c.loop-place.place c.index_mut-source.result.now (g.D.Disk.fetches c.args.port.now) within c.index_mut-source.ensures.value c.in-Unasked.is
          c.args.self.now.sources.items (g.D.Disk.fetches c.loop-place.port) name
          (awaiting-then g.C.Cursor.awaits g.C.Cursor.damages c.args.self.now.sources.items c.loop-turn.self.sources.items now (g.D.Disk.fetches c.args.port.now) (g.D.Disk.fetches c.loop-turn.port) (g.D.Disk.fetches c.loop-place.port)
          c.loop-turn.invariant.awaiting c.loop-place.invariant.awaiting) told.0,
      omega (arith, told.1, c.loop-turn.invariant.skipping.fetched, c.loop-place.invariant.filling.fetched),
    )

pub returns-in_default-take_least-clause-given : goal.returns-in_default-take_least-clause-given
returns-in_default-take_least-clause-given g c = λ told all.
    let at = (goal.at.returns-in_default-take_least-clause-given g c).After-take_least in
    let old = c.args.self.now in
    let ends = given-none g.D.Disk.tells g.C.Cursor.may_ask g.C.Cursor.sound g.C.Cursor.left old.erases.items old.alone old.sources.items (g.D.Disk.port_faults c.args.port.now) (g.D.Disk.fetches c.args.port.now)
    c.loop-turn.self.sources.items (g.D.Disk.port_faults c.loop-turn.port) (g.D.Disk.fetches c.loop-turn.port) c.loop-turn.invariant.skipping c.take_least.new.sources (turned g at None c.in_default-take_least.is) told all in
    (ends.0, sym (same g at) ∙ ends.1)

pub returns-in_default-take_least-clause-again : goal.returns-in_default-take_least-clause-again
returns-in_default-take_least-clause-again g c = again g (goal.at.returns-in_default-take_least-clause-again g c).After-take_least None c.in_default-take_least.is

pub returns-in_default-take_least-clause-still_sound : goal.returns-in_default-take_least-clause-still_sound
returns-in_default-take_least-clause-still_sound g c = still_sound g (goal.at.returns-in_default-take_least-clause-still_sound g c).After-take_least None c.in_default-take_least.is

pub returns-in-Some-bare-clause-given : goal.returns-in-Some-bare-clause-given
returns-in-Some-bare-clause-given g c = λ told all.
    let at = (goal.at.returns-in-Some-bare-clause-given g c).After-take_least in
    let old = c.args.self.now in
    let entry = c.in-Some.entry in
    let output = c.in-Some-bare.entry in
    let kept = sym c.in-Some-bare.is ∙ c.bare.ensures ∙ ap (λ (alone : Bool). bared alone entry entry.body) (alone_as g at) in
    given-some g.D.Disk.tells g.C.Cursor.may_ask g.C.Cursor.sound g.C.Cursor.left old.erases.items old.alone old.sources.items (g.D.Disk.port_faults c.args.port.now) (g.D.Disk.fetches c.args.port.now)
    c.loop-turn.self.sources.items (g.D.Disk.port_faults c.loop-turn.port) (g.D.Disk.fetches c.loop-turn.port) c.loop-turn.invariant.skipping c.take_least.new.sources entry output kept (turned g at (Some entry) c.in-Some.is) told all
    ∙ ap (λ (rest : List Entry). output ∷ rest) (same g at)

pub returns-in-Some-bare-clause-again : goal.returns-in-Some-bare-clause-again
returns-in-Some-bare-clause-again g c = again g (goal.at.returns-in-Some-bare-clause-again g c).After-take_least (Some c.in-Some.entry) c.in-Some.is

pub returns-in-Some-bare-clause-still_sound : goal.returns-in-Some-bare-clause-still_sound
returns-in-Some-bare-clause-still_sound g c = still_sound g (goal.at.returns-in-Some-bare-clause-still_sound g c).After-take_least (Some c.in-Some.entry) c.in-Some.is

pub loop-turn-preserved : goal.loop-turn-preserved
loop-turn-preserved g c =
    let at = (goal.at.loop-turn-preserved g c).After-take_least in
    let old = c.args.self.now in
    let entry = c.in-Some.entry in
    let dropped = sym c.in_default-bare.is ∙ c.bare.ensures ∙ ap (λ (alone : Bool). bared alone entry entry.body) (alone_as g at) in
    record {
      skipping = subst (λ (sources : List (Source g.row.C.Denot)). IsSkipping g.D.Disk.tells g.C.Cursor.may_ask g.C.Cursor.sound g.C.Cursor.left old.erases.items old.alone old.sources.items sources
          (g.D.Disk.port_faults c.args.port.now) (g.D.Disk.port_faults c.loop-place.port) (g.D.Disk.fetches c.args.port.now) (g.D.Disk.fetches c.loop-place.port)) (sym (whole g at))
          (skipping-more g.D.Disk.tells g.C.Cursor.may_ask g.C.Cursor.sound g.C.Cursor.left old.erases.items old.alone old.sources.items (g.D.Disk.port_faults c.args.port.now) (g.D.Disk.fetches c.args.port.now)
          c.loop-turn.self.sources.items (g.D.Disk.port_faults c.loop-turn.port) (g.D.Disk.fetches c.loop-turn.port) c.loop-turn.invariant.skipping c.take_least.new.sources entry
          (g.D.Disk.port_faults c.loop-place.port) (g.D.Disk.fetches c.loop-place.port) dropped (turned g at (Some entry) c.in-Some.is) c.loop-place.invariant.filling.risen c.loop-place.invariant.filling.fetched);
      awaiting = awaited g at (Some entry) c.in-Some.is;
      giving = giving g at (Some entry) c.in-Some.is;
      erases = c.loop-place.invariant.erases ∙ c.loop-turn.invariant.erases;
      alone = c.loop-place.invariant.alone ∙ c.loop-turn.invariant.alone;
    }

pub returns-in_default-take_least-clause-no_more : goal.returns-in_default-take_least-clause-no_more
returns-in_default-take_least-clause-no_more g c =
    merged_giving g.C.Cursor.gives c.args.self.now.sources.items _ (giving g (goal.at.returns-in_default-take_least-clause-no_more g c).After-take_least None c.in_default-take_least.is)

pub returns-in-Some-bare-clause-no_more : goal.returns-in-Some-bare-clause-no_more
returns-in-Some-bare-clause-no_more g c =
    merged_giving g.C.Cursor.gives c.args.self.now.sources.items _ (giving g (goal.at.returns-in-Some-bare-clause-no_more g c).After-take_least (Some c.in-Some.entry) c.in-Some.is)

pub returns-in-Some-bare-clause-among : goal.returns-in-Some-bare-clause-among
returns-in-Some-bare-clause-among g c =
    let at = (goal.at.returns-in-Some-bare-clause-among g c).After-take_least in
    let old = c.args.self.now in
    let entry = c.in-Some.entry in
    let now = c.loop-place.self.sources.items in
    let new = c.take_least.new.sources in
    let kept = sym c.in-Some-bare.is ∙ c.bare.ensures ∙ ap (λ (alone : Bool). bared alone entry entry.body) (alone_as g at) in
    let some : IsTaken c.deref.result.now now new entry =
    subst (λ (sources : List (Source g.row.C.Denot)). IsTaken c.deref.result.now sources new entry) c.deref_mut.ensures.value
    (subst (λ (o : Option Entry). IfSome o (IsTaken c.deref.result.now c.deref_mut.result.now new)) c.in-Some.is c.take_least.ensures.some) in
    output_given g.C.Cursor.gives old.sources.items now entry c.in-Some-bare.entry (λ from any. c.loop-turn.invariant.giving from (c.loop-place.invariant.giving from any))
    (taken_given g.C.Cursor.gives c.deref.result.now now new entry some) (bared_alike old.alone entry entry.body c.in-Some-bare.entry (sym kept))
