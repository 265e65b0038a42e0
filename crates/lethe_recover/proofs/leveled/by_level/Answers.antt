use Rattle.std.proofs.Common.{◌≡◌, ◌<◌, ◌+◌, [], ◌∷◌, ◌++◌, length, get_or, rules, arith, refl, sym, ap, ◌∙◌, append_assoc, length-append}
use Rattle.lethe_recover.proofs.ByLevel.{none_at, step_at, level_at}
use Rattle.lethe_recover.proofs.leveled.by_level.Goals as goal

pub loop-file-init : goal.loop-file-init
loop-file-init g c = record {
  rest = search rules;
  place = refl;
  count = c.in_ok-levels.ensures.count;
  each = λ level given lt. c.in_ok-levels.ensures.each level given (let count = c.in_ok-levels.ensures.count in omega (arith, count, lt)) ∙ sym (none_at level c.args.cited.now);
}

pub loop-file-preserved : goal.loop-file-preserved
loop-file-preserved g c =
    let file = c.in-Some.file in
    let files = c.loop-file.yielded in
    let rest = c.next.new.self.rest.items in
    let step : c.loop-file.file-iterator.rest.items ≡ file ∷ rest = search rules in
    let all : (files ++ file ∷ []) ++ rest ≡ c.args.files.items = append_assoc files (file ∷ []) rest ∙ ap (λ l. files ++ l) (sym step) ∙ c.loop-file.invariant.rest in
    let long = ap length all in
    let parts = length-append (files ++ file ∷ []) rest in
    let more = length-append files (file ∷ []) in
    let lengths = c.requires.lengths in
    let within : length files < length c.args.cited.now = omega (arith, long, parts, more, lengths) in
    record {
      rest = all;
      place = ap (λ n. n + 1) c.loop-file.invariant.place ∙ sym more;
      count = c.in_ok-add_to.ensures.count ∙ c.loop-file.invariant.count;
      each = λ other given lt.
          let inside : other < length c.loop-file.levels.items = let same = c.in_ok-add_to.ensures.count in omega (arith, same, lt) in
          step_at c.args.cited.now files file _ (λ k. (get_or c.loop-file.levels.items k given).items) (λ k. (get_or c.add_to.new.levels.items k given).items) _ within
          (λ k ne. ap (λ v. v.items) (c.in_ok-add_to.ensures.others k given ne)) (c.in_ok-add_to.ensures.there given)
          (level_at c.args.cited.now c.loop-file.place (length files) _ c.loop-file.invariant.place) other (c.loop-file.invariant.each other given inside);
    }
