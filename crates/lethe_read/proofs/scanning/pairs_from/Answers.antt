use Rattle.std.proofs.Common.{rules, ℕ, ◌-◌, ◌++◌, ◌∷◌, length, [], List, Option, ⊎_elim, sym, ap, ◌∙◌, append_assoc, subst, arith}
use Rattle.std.specs.Prelude.{Contains, IfSome, option_map, slice_get}
use Rattle.std.proofs.lemmas.List.Elements.{filter_map-append}
use Rattle.lethe_base.specs.Entries.{pair_of}
use Rattle.lethe_base.specs.Keys.{Bytes}
use Rattle.lethe_base.specs.declared.entry.Entry.{Entry}
use Rattle.lethe_disk.specs.Reads.{IsNext}
use Rattle.lethe_mem.specs.Pairs.{pairs_of}
use Rattle.lethe_read.specs.Between.{by_keys, is_last_below}
use Rattle.lethe_read.proofs.Listing.{listed_between, none_from}
use Rattle.lethe_read.proofs.Refusals.{cause_handed_on, damage_handed_on}
use Rattle.lethe_read.proofs.scanning.pairs_from.Goals as goal

pub returns-in-Err-clause-cause : goal.returns-in-Err-clause-cause
returns-in-Err-clause-cause g c =
    cause_handed_on (g.D.Disk.port_faults c.args.port.now) (g.D.Disk.port_faults c.loop-turn.port) (g.D.Disk.port_faults c.next.new.port) c.port_faults-before.result c.in-Err.why c.since.result
    c.port_faults-before.ensures c.since.ensures c.loop-turn.invariant.risen c.in-Err.ensures.cause

pub returns-in-Err-clause-damaged : goal.returns-in-Err-clause-damaged
returns-in-Err-clause-damaged g c = λ name e.
    let told = c.in-Err.ensures.damaged name (damage_handed_on {T = Option Entry} c.port_faults-before.result c.in-Err.why c.since.result name c.since.ensures e) in
    (c.loop-turn.invariant.fewer name told.0, omega (arith, told.1, c.loop-turn.invariant.fetched))

pub returns-in-Ok-None-clause-between : goal.returns-in-Ok-None-clause-between
returns-in-Ok-None-clause-between g c =
    let pairs = c.loop-turn.pairs.items in
    let last = c.last.ensures.value ∙ ap (λ l. slice_get l (length l - 1)) c.deref.ensures.value in
    listed_between c.args.lo.now pairs c.loop-turn.invariant.listed c.args.hi.now (ap (λ o. is_last_below o c.args.hi.now) (sym last) ∙ sym c.is_last_below.ensures ∙ c.if-is_last_below.true)

pub loop-turn-init : goal.loop-turn-init
loop-turn-init g c = record {
  again = c.requires;
  sound = λ sound. sound;
  so_far = search rules;
  listed = none_from c.args.lo.now c.new-pairs.result.items c.new-pairs.ensures.items;
  among = λ pair has. absurd (let none = subst (λ (pairs : List (Bytes × ℕ × Bytes)). Contains pairs pair) c.new-pairs.ensures.items has in omega (arith, none.1));
  gives = λ entry may. may;
  awaited = search rules;
  fewer = λ name may. may;
  fetched = omega arith;
  risen = omega arith;
}

pub loop-turn-preserved : goal.loop-turn-preserved
loop-turn-preserved g c =
    let before = c.loop-turn.invariant in
    let entry = c.in-Ok-Some.entry in
    let old = by_keys c.loop-turn.pairs.items in
    let left = g.C.Cursor.left c.next.new.self in
    record {
      again = c.in-Ok-Some.ensures.again;
      sound = λ sound. c.in-Ok-Some.ensures.still_sound (before.sound sound);
      so_far = λ told sound.
          let next = subst (λ (o : Option Entry). IsNext o (g.C.Cursor.left c.loop-turn.cursor) left) c.in-Ok-Some.field-0-is (c.in-Ok-Some.ensures.given told (before.sound sound)) in
          ap (λ l. l ++ pairs_of left) c.in_ok-push_pair-in-Ok-Some.ensures.pairs
          ∙ append_assoc old (pairs_of (entry ∷ [])) (pairs_of left)
          ∙ ap (λ l. old ++ l) (sym (filter_map-append (λ (e : Entry). option_map (λ pair. (e.key, pair)) (pair_of e.body)) (entry ∷ []) left))
          ∙ ap (λ l. old ++ pairs_of l) (sym next)
          ∙ before.so_far told sound;
      listed = c.push_pair.ensures.listed;
      among = λ pair has. ⊎_elim (λ earlier. before.among pair earlier)
          (λ own. (entry, before.gives entry (subst (λ (o : Option Entry). IfSome o (g.C.Cursor.gives c.loop-turn.cursor)) c.in-Ok-Some.field-0-is c.in-Ok-Some.ensures.among), own.0, own.1)) (c.push_pair.ensures.among pair has);
      gives = λ other may. before.gives other (c.in-Ok-Some.ensures.no_more other may);
      awaited = omega (arith, before.awaited, c.in-Ok-Some.ensures.once);
      fewer = λ name may. before.fewer name (c.in-Ok-Some.ensures.fewer name may);
      fetched = omega (arith, before.fetched, c.in-Ok-Some.ensures.fetches);
      risen = omega (arith, before.risen, c.in-Ok-Some.ensures.cause.later);
    }
