use Rattle.std.proofs.Common.{◌≡◌, ℕ, ◌+◌, ◌-◌, ◌<◌, min, List, [], ◌++◌, length, take, drop, sym, ap, ◌∙◌, arith, take-append-drop}
use Rattle.std.proofs.lemmas.List.{take-append-le, take_all, length-take, length-drop, length-append, drop_all, drop-drop}
use Rattle.lethe_wire.proofs.memory.MemSourceSource.read.Goals as goal

-- what is left is what was copied and what stands behind it; where nothing was copied into a place with room, nothing is left
next_read : (all copied into : List ℕ) (at n : ℕ) → n ≡ min (length into) (length all - at) → copied ≡ take n (drop at all)
    → (drop at all ≡ take n (copied ++ drop n into) ++ drop (at + n) all) × (n ≡ 0 → 0 < length (copied ++ drop n into) → drop (at + n) all ≡ [])
next_read all copied into at n few is =
    let long : length copied ≡ n = omega (arith, ap length is, length-take n (drop at all), length-drop at all) in
    let front : take n (copied ++ drop n into) ≡ copied = take-append-le n copied (drop n into) (omega arith) ∙ take_all n copied (omega arith) in (
      sym (take-append-drop n (drop at all)) ∙ ap (λ l. l ++ drop n (drop at all)) (sym is ∙ sym front) ∙ ap (λ l. take n (copied ++ drop n into) ++ l) (drop-drop n at all),
      λ none room. drop_all (at + n) all (omega (arith, length-append copied (drop n into), length-drop n into)),
    )

pub returns-clause-bytes : goal.returns-clause-bytes
returns-clause-bytes c =
    let all = c.self.inside.bytes.items in
    let at = c.self.inside.at in
    let n = c.min-count.result in
    let copied : c.copy_from_slice.new.self ≡ take n (drop at all) =
    c.copy_from_slice.ensures.after ∙ ap (λ l. take (at + n - at) (drop at l)) c.deref-2.ensures.value ∙ ap (λ k. take k (drop at all)) (omega arith) in
    let few : n ≡ min (length c.args.into.now) (length all - at) = omega arith in
    let next = next_read all c.copy_from_slice.new.self c.args.into.now at n few copied in
    (sym (ap (λ w. w.bytes) c.self.view_is) ∙ next.0, next.1)
