-- What is stored without the erases that are spent, with its clock at a later time.
use Rattle.std.proofs.Common.{◌≡◌, ◌<◌, ◌≤◌, ℕ, ◌+◌, ◌-◌, Bool, true, false, cond, [], ◌∷◌, ◌++◌, length, Some, refl, sym, ap, ◌∙◌, subst, arith}
use Rattle.std.specs.Prelude.{min, nat_le, filter_map}
use Rattle.std.proofs.lemmas.List.{length_push}
use Rattle.std.proofs.lemmas.List.Elements.{All-weaker, Contains-append_right}
use Rattle.std.proofs.lemmas.List.Sums.{count_by-le-length, fold-append}
use Rattle.lethe_base.specs.Configuration.{IsConfig}
use Rattle.lethe_base.specs.Covers.{Covers}
use Rattle.lethe_base.specs.History.{History, Change}
use Rattle.lethe_base.specs.Limits.{max_place}
use Rattle.lethe_base.specs.Shapes.{IsValidShape, shape_of}
use Rattle.lethe_base.specs.Spent.{done_upto}
use Rattle.lethe_base.specs.declared.call.Call.TheVariants.{Tick}
use Rattle.lethe_base.specs.declared.call.Did.TheVariants.{Done}
use Rattle.lethe_base.proofs.Histories.{after-push, done_push, legal_push}
use Rattle.lethe_cover.specs.Steps.{with_done, ticked as layout_ticked}
use Rattle.lethe_cover.proofs.Bridge.{numbered_covers}
use Rattle.lethe_cover.proofs.Quiet.{tick_covers}
use Rattle.lethe_manifest.specs.Manifests.{HasSpelling}
use Rattle.lethe_moves.specs.Due.{HasNothingDue}
use Rattle.lethe_moves.specs.Reaches.{Follows}
use Rattle.lethe_moves.proofs.Fresh.{due_fresh}
use Rattle.lethe_stored.specs.Files.{IsFile}
use Rattle.lethe_stored.specs.Kept.{IsFor, certifies, certificates}
use Rattle.lethe_stored.specs.Stored.{Stored, IsCoherent, certificate_number, count_of, erase_of, layout_of, pending_of, records_of}
use Rattle.lethe_stored.proofs.Freezing.{file_later}
use Rattle.lethe_stored.proofs.Numbered.{covers_numbered}
use Rattle.lethe_follows.proofs.Erases.{in_order_again}
use Rattle.lethe_follows.proofs.Following.{follows, length-levels}
use Rattle.lethe_follows.proofs.LettingGo.{kept_for, pending_kept}
use Rattle.lethe_follows.specs.Leaving.{first_erase, kept_erases, kept_of, let_go}
use Rattle.lethe_follows.specs.Ticked.{certificate_at, clocked, clocked_manifest, ticked}

module _ (s : Stored) (to number : ℕ) where
  abbrev c : Stored
  c = clocked s to number

  abbrev t : Stored
  t = ticked s to number

  pub ticked_coherent : IsCoherent s → s.manifest.next ≤ number → HasSpelling t.manifest → IsCoherent t
  ticked_coherent coherent later spelled = record {
    spelled = spelled;
    cites = coherent.cites;
    once = coherent.once;
    active = coherent.active;
    frozen = coherent.frozen;
    files = coherent.files;
    each = All-weaker (IsFile s.manifest.next) (IsFile (number + 1)) (λ file is. file_later s.manifest.next (number + 1) file (omega (arith, later)) is) s.files coherent.each;
    files_once = coherent.files_once;
    pages_once = coherent.pages_once;
  }

  pending_clocked : pending_of c ≡ pending_of s
  pending_clocked = in_order_again (s.manifest.erases ++ filter_map erase_of (records_of s)) (filter_map erase_of (records_of s)) (λ erase is. Contains-append_right s.manifest.erases (filter_map erase_of (records_of s)) erase is)

  pub count_ticked : count_of t ≡ count_of s + 1
  count_ticked = omega arith

  layout_later : layout_of c ≡ record (layout_of s) { clock = to; count = count_of c; next = number + 1; certificate = certificate_number (certificate_at s.manifest to) }
  layout_later = λ i. record (layout_of c) { pending = pending_clocked i }

  -- a tick bounds nothing, so it keeps what would be kept without it
  pub kept_clocked : kept_erases c ≡ kept_erases s
  kept_clocked = ap (λ pending. kept_of pending (done_upto (layout_of s)) (first_erase s)) pending_clocked

  pub pending_ticked : pending_of t ≡ kept_erases s
  pending_ticked = pending_kept c ∙ kept_clocked

  module _ (config : IsConfig s.manifest.config) (h : History) (holds : Follows s.manifest.config.threshold h (layout_of s)) (stands : IsFor h s) (few : length h < max_place) (forward : s.manifest.clock ≤ to)
      (due : HasNothingDue s.manifest.config to (layout_of s)) (caller : ℕ)
    where
      abbrev threshold : ℕ
      threshold = s.manifest.config.threshold

      abbrev change : Change
      change = record { caller = caller; call = Tick to; did = Done }

      covers_then : Covers threshold (with_done h caller (Tick to)) (layout_of c)
      covers_then =
          let fresh = due_fresh s.manifest.config config h (layout_of s) holds (length-levels s.manifest.config.levels s.files) to due in
          let step = tick_covers threshold caller h (layout_of s) stands.covers holds.counted to fresh in
          let later = layout_ticked h (layout_of s) to in
          let numbered = numbered_covers threshold (with_done h caller (Tick to)) later step.0 (number + 1) (certificate_number (certificate_at s.manifest to)) in
          let all = covers_numbered threshold (with_done h caller (Tick to)) (record later { next = number + 1; certificate = certificate_number (certificate_at s.manifest to) }) (count_of c) (number + 1) numbered in
          subst (Covers threshold (with_done h caller (Tick to))) (sym layout_later) all

      fewer : certificate_number s.manifest.certificate < max_place
      fewer =
          let all = count_by-le-length (λ (change : Change). certifies threshold change.did change.call) h in
          let number = stands.certificate in
          omega (arith, all, number, few)

      certified : certificate_number (certificate_at s.manifest to) ≡ certificates threshold (h ++ change ∷ [])
      certified = by (nat_le threshold to) ∙ sym (fold-append count 0 h (change ∷ []))
        where
          count : ℕ → Change → ℕ
          count n c = n + cond (certifies threshold c.did c.call) 1 0

          by : (b : Bool) → certificate_number (cond b (Some (record { number = min (certificate_number s.manifest.certificate + 1) max_place; clock = to; before = to - threshold })) s.manifest.certificate)
              ≡ certificates threshold h + cond b 1 0
          by true = let number = stands.certificate in omega (arith, number, fewer)
          by false = stands.certificate ∙ plus_none (certificates threshold h)
            where
              plus_none : (n : ℕ) → n ≡ n + 0
              plus_none n = omega arith

      pub clocked_for : IsFor (with_done h caller (Tick to)) c
      clocked_for = record {
        legal = legal_push h change stands.legal stands.done few (λ e. cc) (λ then is. let same : to ≡ then = cc in let clock = stands.clock in omega (arith, same, clock, forward));
        done = done_push h change stands.done refl;
        covers = covers_then;
        shape = subst (λ l. IsValidShape (shape_of l)) (sym layout_later) stands.shape;
        clock = sym (ap (λ st. st.clock) (after-push h change));
        count = let count = stands.count in omega (arith, count_ticked, count, length_push h change);
        certificate = certified;
      }

-- The erases that are spent leave first, and then the clock moves.

module _ (s : Stored) (h : History) (coherent : IsCoherent s) (stands : IsFor h s) where
  left_follows : Follows s.manifest.config.threshold h (layout_of (let_go s))
  left_follows =
      let old = follows h s coherent stands in
      let left = kept_for s h stands in
      record {
        covers = left.covers;
        counted = record { count = left.count; places = old.counted.places };
        clock = left.clock;
        ordered = record { tiled = old.ordered.tiled; shape = left.shape; deep = old.ordered.deep };
      }

  ticked_is : (to number : ℕ) → ticked s to number ≡ clocked (let_go s) to number
  ticked_is to number = λ i. record (clocked (let_go s) to number) { manifest = record (clocked_manifest (let_go s) to number) { erases = (kept_clocked s to number ∙ sym (pending_kept s)) i } }

  pub ticked_for : length h < max_place → (to : ℕ) → s.manifest.clock ≤ to → HasNothingDue s.manifest.config to (layout_of (let_go s)) → (caller number : ℕ) → IsFor (with_done h caller (Tick to)) (ticked s to number)
  ticked_for few to forward due caller number = subst (IsFor (with_done h caller (Tick to))) (sym (ticked_is to number))
      (clocked_for (let_go s) to number coherent.spelled.config h left_follows (kept_for s h stands) few forward due caller)
