use Rattle.std.proofs.Common.{◌≡◌, ◌+◌, ◌*◌, ◌<◌, ◌^◌, [], All, length, sym, ap, ◌∙◌, subst, arith}
use Rattle.std.proofs.lemmas.List.{with_items_is, get_or_default}
use Rattle.std.specs.Vec.{with_items}
use Rattle.lethe_tile.specs.Filters.{hash_of}
use Rattle.lethe_tile.proofs.Bits.{SetsKeys, keys_more, keys_all, keys_held}
use Rattle.lethe_tile.proofs.filter.Filter.build.Goals as goal

pub loop-key-preserved : goal.loop-key-preserved
loop-key-preserved c =
    let words = c.loop-key.words in
    let keys = c.args.keys.now in
    let written = c.set_all.new.words in
    let long : length written ≡ length words.items = c.set_all.auto.words ∙ ap length c.deref_mut.ensures.value in
    let back : (with_items words written).items ≡ written = with_items_is words written (omega arith) in
    let read : c.key-item.result ≡ _ = c.key-item.is ∙ get_or_default keys c.loop-key.key-index _ [] c.loop-key-test.true in
    let sets = keys_more words.items written keys c.hash_key.result c.loop-key.key-index c.loop-key.invariant.0 c.loop-key.invariant.1 (λ bit. rw c.deref_mut.ensures.value at (c.set_all.ensures.set bit)) (c.hash_key.ensures ∙ ap hash_of read) in (
      ap (λ ws. 64 * length ws) back ∙ ap (λ n. 64 * n) long ∙ c.loop-key.invariant.0,
      subst (λ ws. SetsKeys ws keys (c.loop-key.key-index + 1)) (sym back) sets,
      subst (All (λ word. word < 2 ^ 64)) (sym back) (c.set_all.ensures.words (subst (All (λ word. word < 2 ^ 64)) (sym c.deref_mut.ensures.value) c.loop-key.invariant.2)),
    )

pub returns-clause-exact : goal.returns-clause-exact
returns-clause-exact c = keys_all c.loop-key.words.items c.args.keys.now c.loop-key.key-index c.loop-key.invariant.1 (omega arith)

pub returns-clause-keys : goal.returns-clause-keys
returns-clause-keys c = keys_held c.loop-key.words.items c.args.keys.now c.loop-key.key-index c.loop-key.invariant.0 c.loop-key.invariant.1 (omega arith)
