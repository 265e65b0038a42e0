use Rattle.std.proofs.Common.{◌≡◌, ◌⊎◌, ℕ, true, false, List, [], Result, Ok, Err, IfOk, ⊎_elim, sym, ap, subst, ◌∙◌, arith}
use Rattle.std.specs.Prelude.{Contains, IsErrAnd, IsErrOf, flat_map, map}
use Rattle.std.specs.Ordering.{is_ge, is_lt}
use Rattle.std.specs.declared.cmp.Ordering.{Ordering}
use Rattle.std.specs.declared.cmp.Ordering.TheVariants.{Less, Equal, Greater}
use Rattle.std.specs.Option.{option_copied}
use Rattle.lethe_base.specs.History.{Pair}
use Rattle.lethe_base.specs.Keys.{Bytes}
use Rattle.lethe_base.specs.declared.entry.Body.TheVariants.{Put, Tomb}
use Rattle.lethe_base.specs.declared.entry.Entry.{Entry}
use Rattle.lethe_base.specs.declared.pending.Pending.{Pending}
use Rattle.lethe_disk.specs.Reads.{HasReadCause}
use Rattle.lethe_disk.specs.declared.cursor.ReadRefused.{ReadRefused}
use Rattle.lethe_disk.specs.declared.cursor.ReadRefused.TheVariants.{ReadFault, NoMemory}
use Rattle.lethe_mem.specs.Pairs.{pairs_of}
use Rattle.lethe_merge.specs.Merge.{merged}
use Rattle.lethe_merge.specs.Sources.{IsMadeOf}
use Rattle.lethe_version.specs.Versions.{IsVouchedBy, entries_of, files_of}
use Rattle.lethe_read.specs.Between.{AreReadBetween, by_keys}
use Rattle.lethe_read.specs.Found.{IsBacked, frozen_entries}
use Rattle.lethe_read.proofs.Filed.{part_left}
use Rattle.lethe_read.proofs.Listing.{none_listed}
use Rattle.lethe_read.proofs.Nothing.{nothing_merged, nothing_read}
use Rattle.lethe_read.proofs.scanning.scan.Goals as goal

pub returns-then-ge-clause-listed : goal.returns-then-ge-clause-listed
returns-then-ge-clause-listed g c = λ told sound. (
  [],
  nothing_read c.args.lo.now c.args.hi.now (g.B.Buffer.entries c.args.active.now) (frozen_entries g.B.Buffer.entries (option_copied c.args.frozen)) (map entries_of (files_of c.args.version.now)) (sym c.ge.ensures ∙ c.if-ge.true),
  ap by_keys c.new.ensures.items ∙ sym (nothing_merged c.args.erases.now),
)

-- the pairs of what the parts have
listed : {T E : Type 0} (pairs : T → List (Bytes × Pair)) (lo hi : Bytes) (active frozen : List Entry) (files : List (List (List Entry))) (entries all : List Entry) (erases copied : List Pending) (result : Result T E)
    → AreReadBetween lo hi active frozen files entries → copied ≡ erases → all ≡ merged entries copied true → IfOk result (λ made. pairs made ≡ pairs_of all)
    → IfOk result (λ made. (x : List Entry) × AreReadBetween lo hi active frozen files x × (pairs made ≡ pairs_of (merged x erases true)))
listed pairs lo hi active frozen files entries all erases copied (Ok made) read same is given = (entries, read, given ∙ ap pairs_of (is ∙ ap (λ (e : List Pending). merged entries e true) same))
listed pairs lo hi active frozen files entries all erases copied (Err why) read same is given = tt

pub returns-clause-listed : goal.returns-clause-listed
returns-clause-listed g c = λ told sound.
    listed (λ pairs. by_keys pairs.items) c.args.lo.now c.args.hi.now (g.B.Buffer.entries c.args.active.now) (frozen_entries g.B.Buffer.entries (option_copied c.args.frozen)) (map entries_of (files_of c.args.version.now))
    (flat_map (part_left g.D.Disk) c.in_ok-parts.parts.items) _ c.args.erases.now c.in_ok-erases.erases.items c.pairs_from.result
    (c.in_ok-parts.ensures.left sound) (c.in_ok-erases.ensures.items_if_clones_equal (λ x y same. same)) c.in_ok-merger.ensures.left
    (c.pairs_from.ensures.listed told (c.in_ok-merger.ensures.sound (c.in_ok-parts.ensures.sound told sound)))

-- a range that begins where it doesn't end has keys
not_both : (r : Ordering) → is_ge r ≡ false → is_lt r ≡ false → ⊥
not_both Less ge lt = cc
not_both Equal ge lt = cc
not_both Greater ge lt = cc

pub returns-clause-unasked : goal.returns-clause-unasked
returns-clause-unasked g c = λ ends. absurd (not_both _ (sym c.ge.ensures ∙ c.if-ge.false) ends)

-- want of memory is no fault of the port
no_fault : {T : Type 0} (result : Result T ReadRefused) (before after : ℕ) → IsErrAnd result (λ e. e ≡ NoMemory) → IsErrOf result (ReadFault before after) → ⊥
no_fault (Ok x) before after short is = absurd short
no_fault (Err e) before after short is = cc

no_cause : {T : Type 0} (count : ℕ) (result : Result T ReadRefused) → IsErrAnd result (λ e. e ≡ NoMemory) → HasReadCause count count result
no_cause count result short = record { later = omega arith; fault = λ before after is. absurd (no_fault result before after short is) }

pub returns-in_err-erases-clause-cause : goal.returns-in_err-erases-clause-cause
returns-in_err-erases-clause-cause g c = no_cause _ c.from_residual-in_err-erases.result c.from_residual-in_err-erases.ensures.1

pub returns-in_err-merger-clause-cause : goal.returns-in_err-merger-clause-cause
returns-in_err-merger-clause-cause g c = no_cause _ c.from_residual-in_err-merger.result c.from_residual-in_err-merger.ensures.1

pub returns-clause-damaged : goal.returns-clause-damaged
returns-clause-damaged g c = λ name e.
    let told = c.pairs_from.ensures.damaged name e in
    (c.in_ok-parts.ensures.damages name (c.in_ok-merger.ensures.damages name told.0), told.1)

pub returns-then-ge-clause-between : goal.returns-then-ge-clause-between
returns-then-ge-clause-between g c = none_listed c.args.lo.now c.args.hi.now c.new.result.items c.new.ensures.items

-- what a put is made of is that put
put_of : (from entry : Entry) (dkey : ℕ) (value : Bytes) → IsMadeOf from entry → entry.body ≡ Put dkey value → from.body ≡ Put dkey value
put_of from entry dkey value made is = ⊎_elim (λ same. sym same ∙ is) (λ tomb. absurd (let clash : Tomb ≡ Put dkey value = sym tomb ∙ is in cc)) made.body

backed_all : {T E : Type 0} (pairs : T → List (Bytes × ℕ × Bytes)) (active frozen : List Entry) (IsFiled Gives : Entry → Type 0) (result : Result T E)
    → ((entry : Entry) → Gives entry → (from : Entry) × IsMadeOf from entry × ((Contains active from ⊎ Contains frozen from) ⊎ IsFiled from))
    → IfOk result (λ made. (pair : Bytes × ℕ × Bytes) → Contains (pairs made) pair → (entry : Entry) × Gives entry × (entry.key ≡ pair.0) × (entry.body ≡ Put pair.1 pair.2))
    → IfOk result (λ made. (pair : Bytes × ℕ × Bytes) → Contains (pairs made) pair → IsBacked pair.0 active frozen IsFiled (pair.1, pair.2))
backed_all pairs active frozen IsFiled Gives (Ok made) given among = λ pair has.
    let one = among pair has in
    let from = given one.0 one.1 in
    record { entry = from.0; of_key = sym from.1.key ∙ one.2; is = put_of from.0 one.0 pair.1 pair.2 from.1 one.3; stands = from.2 }
backed_all pairs active frozen IsFiled Gives (Err why) given among = tt

pub returns-clause-backed : goal.returns-clause-backed
returns-clause-backed g c =
    backed_all (λ pairs. pairs.items) (g.B.Buffer.entries c.args.active.now) (frozen_entries g.B.Buffer.entries (option_copied c.args.frozen)) (IsVouchedBy c.args.version.now) _ c.pairs_from.result
    (λ entry may. let made = c.in_ok-merger.ensures.gives entry may in (made.0, made.1, c.in_ok-parts.ensures.gives made.0 made.2))
    c.pairs_from.ensures.among

pub returns-then-ge-clause-backed : goal.returns-then-ge-clause-backed
returns-then-ge-clause-backed g c = λ pair has. absurd (let none = subst (λ (pairs : List (Bytes × ℕ × Bytes)). Contains pairs pair) c.new.ensures.items has in omega (arith, none.1))
