-- The clock of a history never goes back.
use Rattle.std.proofs.Common.{◌≡◌, ℕ, zero, suc, ◌+◌, ◌-◌, ◌<◌, ◌≤◌, length, get_or, take, Some, refl, ap, ◌∙◌, sym, subst, arith}
use Rattle.std.proofs.Math.Seq.{take-suc}
use Rattle.std.proofs.lemmas.List.{take_all}
use Rattle.std.proofs.lemmas.Option.{slice_get-get_or}
use Rattle.lethe_base.specs.History.{History, Change, State, IsLegal, after, change_at, changed, clock_before, outcome}
use Rattle.lethe_base.specs.declared.call.Call.{Call}
use Rattle.lethe_base.specs.declared.call.Call.TheVariants.{Put, Delete, Erase, Tick, Work}
use Rattle.lethe_base.specs.declared.call.Did.{Did}
use Rattle.lethe_base.specs.declared.call.Did.TheVariants.{Done, Failed}
use Rattle.lethe_base.proofs.Histories.{after-push}

-- a call that isn't a tick to an earlier time doesn't turn it back
no_back : (s : State) (did : Did) (call : Call) → ((to : ℕ) → call ≡ Tick to → did ≡ Done → s.clock ≤ to) → s.clock ≤ (outcome did call s).clock
no_back s Done (Put key dkey value) forward = omega arith
no_back s Done (Delete key) forward = omega arith
no_back s Done (Erase range) forward = omega arith
no_back s Done (Tick to) forward = forward to refl refl
no_back s Done Work forward = omega arith
no_back s (Failed before now) call forward = omega arith

module _ (h : History) (legal : IsLegal h) where
  one_forward : (place : ℕ) (d : Change) → place < length h → (after (take place h)).clock ≤ (after (take (suc place) h)).clock
  one_forward place d within =
      let change = get_or h place d in
      let there : change_at h (suc place) ≡ Some change = slice_get-get_or h place d within in
      let same : suc place - 1 ≡ place = omega arith in
      let more : after (take (suc place) h) ≡ changed (after (take place h)) change = ap after (take-suc h place d within) ∙ after-push (take place h) change in
      subst (λ (s : State). (after (take place h)).clock ≤ s.clock) (sym more)
      (no_back (after (take place h)) change.did change.call (λ to is did. subst (λ n. (after (take n h)).clock ≤ to) same (legal.forward (suc place) to change there is did)))

  all_forward : (place left : ℕ) (d : Change) → place + left ≡ length h → (after (take place h)).clock ≤ (after h).clock
  all_forward place zero d is = let all = ap (λ (l : History). (after l).clock) (take_all place h (omega arith)) in omega (arith, all)
  all_forward place (suc left) d is = let step = one_forward place d (omega (arith, is)) in let later = all_forward (suc place) left d (omega (arith, is)) in omega (arith, step, later)

  pub clock_within : (place : ℕ) → place ≤ length h → clock_before h place ≤ (after h).clock
  clock_within place within = all_forward (place - 1) (length h - (place - 1)) (record { caller = 0; call = Work; did = Done }) (omega arith)
