use Rattle.std.proofs.Common.{◌≡◌, ◌∙◌, ◌+◌, ◌-◌, ◌++◌, ◌∷◌, [], ap, cond, true, is_ok, drop, length, arith}
use Rattle.std.specs.Option.{option_copied}
use Rattle.std.proofs.lemmas.List.{take_at}
use Rattle.std.proofs.Common.{length-append}
use Rattle.lethe_tree.specs.Shape.{Leaf, link_of}
use Rattle.lethe_tree.specs.Grown.{goes_left}
use Rattle.lethe_tree.proofs.Inserted.{hung}
use Rattle.lethe_tree.proofs.growing.hang.Goals as goal

pub returns-clause-grown : goal.returns-clause-grown
returns-clause-grown c = λ t may.
    let old = c.args.links.now.items in
    let ok : is_ok c.push.result ≡ true = c.push.ensures.succeeds c.requires in
    let pushed : c.push.new.self.items ≡ old ++ link_of Leaf Leaf ∷ [] = c.push.ensures.items ∙ ap (λ b. cond b (old ++ link_of Leaf Leaf ∷ []) old) ok in
    let len : length c.push.new.self.items ≡ length old + 1 = ap (λ l. length l) pushed ∙ length-append old (link_of Leaf Leaf ∷ []) in
    let same : length c.grow.new.links ≡ length c.push.new.self.items = omega arith in
    let full : c.push.new.self.len ≡ length c.push.new.self.items = omega arith in
    let final = take_at c.grow.new.links (drop (length c.grow.new.links) c.push.new.self.items) c.push.new.self.len (omega (arith, same, full)) in
    let told = rw c.deref.ensures.value at c.height_at-height.ensures in
    let grown = rw c.deref_mut.ensures.value at c.grow.ensures in
    hung old c.push.new.self.items c.grow.new.links _ (goes_left c.args.entries.now (option_copied c.args.key)) c.args.root (c.len-new.result - 1) c.height_at-height.result c.grow.result t may pushed
    (omega (arith, len, full, c.len-new.ensures)) (told t may.lies may.root_is) (omega (arith, len, full)) grown final (ap (λ l. length l) final ∙ omega (arith, same, len))
