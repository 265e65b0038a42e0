use Rattle.std.proofs.Common.{◌≡◌, ◌<◌, ◌+◌, ◌-◌, [], length, get_or, inl, inr, refl, sym, ap, ◌∙◌, arith}
use Rattle.std.proofs.lemmas.Bool.{cases_lt}
use Rattle.std.proofs.lemmas.List.{get_or_default}
use Rattle.lethe_manifest.specs.declared.manifest.Cited.{Cited}
use Rattle.lethe_load.proofs.Risen.{moved, risen, standing}
use Rattle.lethe_load.proofs.ordering.are_rising.Goals as goal

other : Cited
other = record { level = 0; no = 0; swept = 0; digest = [] }

pub loop-place-preserved : goal.loop-place-preserved
unfolding other
loop-place-preserved g c = λ k d e lt. elim (cases_lt (k + 1) c.loop-place.place) [
  | inl before ↦ c.loop-place.invariant k d e before
  | inr behind ↦
      let cited = c.args.cited.now in
      let files = c.args.files.now in
      let place = c.loop-place.place in
      let inside : place < length files = c.loop-place-test.true in
      let low : place - 1 ≡ k = omega (arith, behind, lt) in
      let high : place ≡ k + 1 = omega (arith, behind, lt) in
      let in_k : k < length files = omega (arith, inside, high) in
      let in_next : k + 1 < length files = omega (arith, inside, high) in
      let a = c.index-files-place.result in
      let b = c.index-files-place-in-loop-place.result in
      moved (get_or cited (place - 1) other).level (get_or cited k d).level (get_or cited place other).level (get_or cited (k + 1) d).level a.header (get_or files k e).header b.header (get_or files (k + 1) e).header
      (ap (λ n. (get_or cited n other).level) low ∙ ap (λ (x : Cited). x.level) (get_or_default cited k other d (omega (arith, in_k, c.requires.count))))
      (ap (λ n. (get_or cited n other).level) high ∙ ap (λ (x : Cited). x.level) (get_or_default cited (k + 1) other d (omega (arith, in_next, c.requires.count))))
      (ap (λ file. file.header) (c.index-files-place.is ∙ ap (λ n. get_or files n a) low ∙ get_or_default files k a e in_k))
      (ap (λ file. file.header) (c.index-files-place-in-loop-place.is ∙ ap (λ n. get_or files n b) high ∙ get_or_default files (k + 1) b e in_next))
      (c.may_stand.ensures.0 c.if-not-may_stand.false)
]

pub returns : goal.returns
returns g c = λ stored cs hs. (
  λ _. risen (λ file. file.header) c.args.cited.now c.args.files.now stored cs hs (λ k e f lt. c.loop-place.invariant k e f (omega (arith, lt, c.loop-place-test.false))) (λ f. f.spelled) c.requires.levels,
  λ _. refl,
)

pub returns-then-not-may_stand : goal.returns-then-not-may_stand
unfolding other
returns-then-not-may_stand g c = λ stored cs hs. (
  λ e. absurd cc,
  λ rising.
      let cited = c.args.cited.now in
      let files = c.args.files.now in
      let place = c.loop-place.place in
      let inside : place < length files = c.loop-place-test.true in
      let one : (place - 1) + 1 ≡ place = omega (arith, c.loop-place.auto.place) in
      let a = c.index-files-place.result in
      let b = c.index-files-place-in-loop-place.result in
      let stand = standing (λ file. file.header) cited files stored cs hs rising (place - 1) other a (omega (arith, inside, one)) in
      let yes = c.may_stand.ensures.1 (moved (get_or cited (place - 1) other).level (get_or cited (place - 1) other).level (get_or cited ((place - 1) + 1) other).level (get_or cited place other).level
      (get_or files (place - 1) a).header a.header (get_or files ((place - 1) + 1) a).header b.header refl (ap (λ n. (get_or cited n other).level) one)
      (ap (λ file. file.header) (sym c.index-files-place.is))
      (ap (λ file. file.header) (ap (λ n. get_or files n a) one ∙ get_or_default files place a b inside ∙ sym c.index-files-place-in-loop-place.is)) stand) in
      let not_so = c.if-not-may_stand.true in
      cc,
)
