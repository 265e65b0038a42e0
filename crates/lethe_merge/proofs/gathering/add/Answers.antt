use Rattle.std.proofs.Common.{◌≡◌, sym, ap, ◌∙◌, subst}
use Rattle.std.specs.declared.cmp.Ordering.TheVariants.{Equal}
use Rattle.lethe_base.specs.Keys.{Bytes, key_cmp}
use Rattle.lethe_cover.specs.Merged.{newer_of}
use Rattle.lethe_mem.proofs.Places.{own_key}
use Rattle.lethe_merge.proofs.Adds.{added}
use Rattle.lethe_merge.proofs.gathering.add.Goals as goal
use Rattle.lethe_merge.proofs.gathering.add.Goals.{in-Some+in_ok-insert-in-Some, in-None+in_ok-copy-in-None+in_ok-insert-in-None}

pub returns : goal.returns
returns c = λ before is. elim c.match-remove_entry.branch [
  | in-Some+in_ok-insert-in-Some w ↦
      ap (λ m. m.entries) w.by_key-is
      ∙ added c.args.first before c.args.by_key.now.entries c.remove_entry.new.self.entries w.insert.new.self.entries w.in-Some.key w.newer.result
      w.in-Some.ensures.same_key is c.remove_entry.ensures.entries (w.newer.ensures ∙ ap (newer_of c.args.first) w.in-Some.ensures.value) w.in_ok-insert-in-Some.ensures.entries
  | in-None+in_ok-copy-in-None+in_ok-insert-in-None w ↦
      let same : key_cmp c.args.first.key w.in_ok-copy-in-None.field-0 ≡ Equal =
      subst (λ (k : Bytes). key_cmp c.args.first.key k ≡ Equal) (sym w.in_ok-copy-in-None.ensures) (own_key c.args.first.key) in
      ap (λ m. m.entries) w.by_key-is
      ∙ added c.args.first before c.args.by_key.now.entries c.remove_entry.new.self.entries w.insert-in-None.new.self.entries w.in_ok-copy-in-None.field-0 c.args.first
      same is c.remove_entry.ensures.entries (ap (newer_of c.args.first) w.in-None.ensures.value) w.in_ok-insert-in-None.ensures.entries
]
