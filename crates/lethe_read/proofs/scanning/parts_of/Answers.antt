use Rattle.std.proofs.Common.{◌<◌, ◌≤◌, length, map, ⊎_elim, inl, inr, arith}
use Rattle.std.specs.Prelude.{flat_map}
use Rattle.std.specs.Option.{option_copied}
use Rattle.std.proofs.lemmas.Grind.{flat_map-append}
use Rattle.lethe_version.specs.Versions.{IsSound, entries_of, files_of, levels_of}
use Rattle.lethe_read.specs.Found.{frozen_entries}
use Rattle.lethe_read.proofs.Adding.{adds_all, adds_level, all_read}
use Rattle.lethe_read.proofs.Awaiting.{all_awaited, all_told, awaits_all, awaits_level}
use Rattle.lethe_read.proofs.Filed.{IsToldIn, Vouches, pages_in, part_awaits, part_damages, part_gives, part_left, part_sound}
use Rattle.lethe_read.proofs.scanning.parts_of.Goals as goal

pub loop-level-preserved : goal.loop-level-preserved
loop-level-preserved g c =
    let files = map (λ shared. shared.file.value) c.files.result.now in
    let inside : c.loop-level.level < length (levels_of c.args.version.now) = omega (arith, c.loop-level-test.true, c.levels-level-end.ensures) in
    record {
      adds = adds_level g.D.Disk.tells (part_sound g.D.Disk) (part_left g.D.Disk) IsSound entries_of c.args.lo.now c.args.hi.now (levels_of c.args.version.now) c.loop-level.level files inside (c.files.ensures files)
          c.in_ok-parts.parts.items c.loop-level.parts.items c.push_files.new.parts.items c.loop-level.invariant.adds c.in_ok-push_files.ensures.adds;
      awaits = awaits_level (part_awaits g.D.Disk) (part_damages g.D.Disk) (pages_in g.D.Disk c.args.lo.now c.args.hi.now) (IsToldIn g.D.Disk) (levels_of c.args.version.now) c.loop-level.level files inside (c.files.ensures files)
          c.in_ok-parts.parts.items c.loop-level.parts.items c.push_files.new.parts.items c.loop-level.invariant.awaits c.in_ok-push_files.ensures.awaits;
      gives = awaits_level (part_awaits g.D.Disk) (part_gives g.D.Disk) (pages_in g.D.Disk c.args.lo.now c.args.hi.now) (Vouches g.D.Disk) (levels_of c.args.version.now) c.loop-level.level files inside (c.files.ensures files)
          c.in_ok-parts.parts.items c.loop-level.parts.items c.push_files.new.parts.items c.loop-level.invariant.gives c.in_ok-push_files.ensures.gives;
    }

pub returns-clause-left : goal.returns-clause-left
returns-clause-left g c = λ sound.
    let past : length (levels_of c.args.version.now) ≤ c.loop-level.level = omega (arith, c.loop-level-test.false, c.levels-level-end.ensures) in
    all_read g.D.Disk.tells (part_sound g.D.Disk) (part_left g.D.Disk) IsSound entries_of c.args.lo.now c.args.hi.now (g.B.Buffer.entries c.args.active.now) (frozen_entries g.B.Buffer.entries (option_copied c.args.frozen)) (files_of c.args.version.now)
    c.in_ok-parts.parts.items c.loop-level.parts.items c.in_ok-parts.ensures.left
    (adds_all g.D.Disk.tells (part_sound g.D.Disk) (part_left g.D.Disk) IsSound entries_of c.args.lo.now c.args.hi.now (flat_map (λ files. files)) (λ xs ys. flat_map-append (λ files. files) xs ys) (levels_of c.args.version.now)
    c.loop-level.level c.in_ok-parts.parts.items c.loop-level.parts.items past c.loop-level.invariant.adds)
    sound

pub returns-clause-awaits : goal.returns-clause-awaits
returns-clause-awaits g c =
    let past : length (levels_of c.args.version.now) ≤ c.loop-level.level = omega (arith, c.loop-level-test.false, c.levels-level-end.ensures) in
    all_awaited (part_awaits g.D.Disk) (part_damages g.D.Disk) (pages_in g.D.Disk c.args.lo.now c.args.hi.now) (IsToldIn g.D.Disk) (files_of c.args.version.now) c.in_ok-parts.parts.items c.loop-level.parts.items
    c.in_ok-parts.ensures.awaits (awaits_all (part_awaits g.D.Disk) (part_damages g.D.Disk) (pages_in g.D.Disk c.args.lo.now c.args.hi.now) (IsToldIn g.D.Disk) (flat_map (λ files. files)) (λ xs ys. flat_map-append (λ files. files) xs ys)
    (levels_of c.args.version.now) c.loop-level.level c.in_ok-parts.parts.items c.loop-level.parts.items past c.loop-level.invariant.awaits)

pub returns-clause-damages : goal.returns-clause-damages
returns-clause-damages g c =
    let past : length (levels_of c.args.version.now) ≤ c.loop-level.level = omega (arith, c.loop-level-test.false, c.levels-level-end.ensures) in
    all_told (part_awaits g.D.Disk) (part_damages g.D.Disk) (pages_in g.D.Disk c.args.lo.now c.args.hi.now) (IsToldIn g.D.Disk) (files_of c.args.version.now) c.in_ok-parts.parts.items c.loop-level.parts.items
    c.in_ok-parts.ensures.damages (awaits_all (part_awaits g.D.Disk) (part_damages g.D.Disk) (pages_in g.D.Disk c.args.lo.now c.args.hi.now) (IsToldIn g.D.Disk) (flat_map (λ files. files)) (λ xs ys. flat_map-append (λ files. files) xs ys)
    (levels_of c.args.version.now) c.loop-level.level c.in_ok-parts.parts.items c.loop-level.parts.items past c.loop-level.invariant.awaits)

pub returns-clause-gives : goal.returns-clause-gives
returns-clause-gives g c = λ entry any.
    let past : length (levels_of c.args.version.now) ≤ c.loop-level.level = omega (arith, c.loop-level-test.false, c.levels-level-end.ensures) in
    let all = awaits_all (part_awaits g.D.Disk) (part_gives g.D.Disk) (pages_in g.D.Disk c.args.lo.now c.args.hi.now) (Vouches g.D.Disk) (flat_map (λ files. files)) (λ xs ys. flat_map-append (λ files. files) xs ys)
    (levels_of c.args.version.now) c.loop-level.level c.in_ok-parts.parts.items c.loop-level.parts.items past c.loop-level.invariant.gives in
    ⊎_elim (λ buffered. inl (c.in_ok-parts.ensures.gives entry buffered)) (λ filed. inr filed) (all.names entry any)
