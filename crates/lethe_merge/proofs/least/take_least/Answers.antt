use Rattle.std.proofs.Common.{◌≡◌, ◌<◌, ◌+◌, length, set, get_or, Option, Some, None, sym, ap, subst, ◌∙◌, arith}
use Rattle.std.proofs.lemmas.List.{length-set}
use Rattle.lethe_base.specs.declared.entry.Entry.{Entry}
use Rattle.lethe_cover.specs.Merged.{newer_of}
use Rattle.lethe_merge.specs.Sources.{entry_of_key}
use Rattle.lethe_merge.proofs.Heads.{IsTaking, read_again, taking-first, taking-more}
use Rattle.lethe_merge.proofs.least.take_least.Goals as goal
use Rattle.lethe_merge.proofs.least.take_least.Goals.{in-Some-take_of, in_default}

pub loop-place-init : goal.loop-place-init
loop-place-init g c =
    let old = c.args.sources.now in
    let least = c.first_least-least.result in
    taking-first c.args.erases.now old least (get_or old least c.index-sources-least.result) c.in-Some.entry c.strike-left.result _
    c.first_least-least.ensures (read_again old least c.index-sources-least.result c.first_least-least.ensures.0) c.in-Some.ensures.taken c.strike-left.ensures (ap (set old least) c.in-Some.ensures.behind)

pub loop-place-preserved : goal.loop-place-preserved
loop-place-preserved g c =
    let old = c.args.sources.now in
    let now = c.loop-place.sources in
    let place = c.loop-place.place in
    let left = c.loop-place.left in
    let whole = length-set old c.first_least-least.result c.take.new.self in
    let within : place < length old = omega (arith, whole) in
    let here : place < length now = omega (arith, whole) in
    let x = get_or now place c.index-sources-place.result in
    let then = set now place c.take_of.new.self in
    let taken : c.take_of.result ≡ entry_of_key left.key x.head = c.take_of.ensures.taken in
    let more = λ (found : Option Entry) (is : c.take_of.result ≡ found).
    taking-more c.args.erases.now old now then place left x found c.loop-place.invariant within (read_again now place c.index-sources-place.result here)
    (sym is ∙ taken) (ap (set now place) c.take_of.ensures.behind) in
    elim c.match-take_of.branch [
      | in-Some-take_of w ↦
          subst (λ (l : Entry). IsTaking c.args.erases.now old then (place + 1) l.key l)
          (sym (w.left-is ∙ w.newer-left.ensures ∙ ap (λ (s : Entry). newer_of left (Some s)) w.strike.ensures)) (more (Some w.in-Some-take_of.entry) w.in-Some-take_of.is)
      | in_default w ↦
          subst (λ (l : Entry). IsTaking c.args.erases.now old then (place + 1) l.key l) (sym w.left-is) (more None w.in_default.is)
    ]
