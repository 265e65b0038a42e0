use Rattle.std.proofs.Common.{◌≡◌, ◌<◌, ◌++◌, map, filter, ap, ◌∙◌, arith, rules}
use Rattle.std.specs.Prelude.{Bool}
use Rattle.std.proofs.lemmas.List.Elements.{All-filter}
use Rattle.std.proofs.lemmas.List.Kept.{AllPairs-filter}
use Rattle.lethe_base.specs.Erases.{IsErase}
use Rattle.lethe_base.specs.Spent.{is_above, least}
use Rattle.lethe_base.specs.declared.pending.Pending.{Pending}
use Rattle.lethe_manifest.specs.Followers.{follower}
use Rattle.lethe_manifest.specs.declared.manifest.Cited.{Cited}
use Rattle.lethe_recover.specs.Reopening.{cited_with, left_beside, successor}
use Rattle.lethe_recover.proofs.Spelled.{next_spelled}
use Rattle.lethe_recover.proofs.reopening.step_of.Goals as goal

files_are : (c : goal.After-drop-erases-2) → c.extend_from_slice-2.new.self.items ≡ cited_with c.args.flushes c.args.manifest.now
files_are c =
    c.in_ok-extend_from_slice-2.ensures.items
    ∙ (λ k. (c.in_ok-extend_from_slice.ensures.items ∙ ap (λ l. c.args.flushes.newer.cited.items ++ l) c.deref.ensures.value) k ++ c.items.ensures k)

left_is : (c : goal.After-drop-erases-2) → c.in_ok-to_vec.field-0.items ≡ left_beside c.extend_from_slice-2.new.self.items c.args.erases.items
left_is c =
    c.in_ok-to_vec.ensures.items_if_clones_equal (λ x y same. same) ∙ c.erases_above-left.ensures
    ∙ (λ i. filter (λ (erase : Pending). is_above ((c.swept_upto.ensures ∙ ap (λ files. least (map (λ (file : Cited). file.swept) files)) c.deref-3.ensures.value) i) erase.seq) (c.deref-2.ensures.value i))

manifest_is : (c : goal.After-drop-erases-2)
    → c.in_ok-step.step.manifest ≡ successor c.args.manifest.now c.args.count (left_beside c.extend_from_slice-2.new.self.items c.args.erases.items) c.extend_from_slice-2.new.self.items c.args.flushes.newer.next
manifest_is c = c.in_ok-step.ensures.manifest ∙ (λ i. follower c.args.manifest.now (record {
  no = c.requires.number i;
  count = c.args.count;
  erases = (c.of.ensures ∙ left_is c) i;
  segments = (c.of-2.ensures ∙ c.in_ok-vec.ensures.items) i;
  files = c.of-3.ensures i;
}))

pub returns-clause-is : goal.returns-clause-is
returns-clause-is c = record {
  headers = search rules;
  objects = search rules;
  merged = search rules;
  older = search rules;
  manifest = manifest_is c ∙ ap (λ files. successor c.args.manifest.now c.args.count (left_beside files c.args.erases.items) files c.args.flushes.newer.next) (files_are c);
  gone = search rules;
}

pub returns-clause-spelled : goal.returns-clause-spelled
returns-clause-spelled c =
    let older = c.args.flushes.older in
    let newer = c.args.flushes.newer in
    let number = c.requires.number in
    let free = c.requires.free in
    let erases = c.args.erases.items in
    let cited = c.extend_from_slice-2.new.self.items in
    let stays : Pending → Bool = λ erase. is_above (least (map (λ (file : Cited). file.swept) cited)) erase.seq in
    next_spelled c.args.manifest.now c.args.count (left_beside cited erases) older newer cited c.in_ok-step.step.manifest
    c.requires.spelled c.requires.count (All-filter stays IsErase erases c.requires.erases) (AllPairs-filter (λ (a : Pending) (b : Pending). a.seq < b.seq) stays erases c.requires.ascending)
    c.requires.older c.requires.newer (omega (arith, number, free)) (files_are c) (manifest_is c) c.in_ok-step.ensures.few_erases c.in_ok-step.ensures.few_files
