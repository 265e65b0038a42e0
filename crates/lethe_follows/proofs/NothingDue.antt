-- Where no job is due at a time and no record is as old as level 0 may have it, nothing is due once the erases that are done have left.
use Rattle.std.proofs.Common.{◌≡◌, ℕ, ◌+◌, ◌-◌, ◌<◌, ◌≤◌, Bool, [], ◌++◌, Contains, None, refl, subst, arith}
use Rattle.std.proofs.lemmas.Bool.{or_cases}
use Rattle.std.proofs.lemmas.List.Elements.{All-contains}
use Rattle.lethe_base.specs.History.{History}
use Rattle.lethe_base.specs.Layout.{Erasing}
use Rattle.lethe_base.specs.Shapes.{all_files, shape_of}
use Rattle.lethe_base.specs.Spent.{done_upto, is_above, left_erases}
use Rattle.lethe_base.specs.declared.pending.Pending.{Pending}
use Rattle.lethe_cover.proofs.Common.{⊎_elim}
use Rattle.lethe_cover.proofs.Lists.{all_from}
use Rattle.lethe_fade.specs.Due.{due, overdue_sweeps}
use Rattle.lethe_fade.specs.Expired.{expired}
use Rattle.lethe_fade.specs.LevelTimes.{level_deadline}
use Rattle.lethe_fade.proofs.Powers.{deadlines_rise}
use Rattle.lethe_moves.specs.Due.{HasNothingDue}
use Rattle.lethe_stored.specs.Kept.{IsFor}
use Rattle.lethe_stored.specs.Stored.{Stored, IsCoherent, layout_of, pending_of}
use Rattle.lethe_stored.proofs.Leveled.{from_filter, in_filter}
use Rattle.lethe_follows.specs.Leaving.{first_erase, is_from, is_kept, kept_erases, let_go}
use Rattle.lethe_follows.specs.Young.{AreLaterRecorded, AreLeftYoung, AreYoung, due_shape}
use Rattle.lethe_follows.proofs.Expired.{both_empty, no_first, none_expired}
use Rattle.lethe_follows.proofs.LeftYoung.{erases_young}
use Rattle.lethe_follows.proofs.LettingGo.{pending_kept}
use Rattle.lethe_follows.proofs.Recorded.{no_older}

module _ (h : History) (s : Stored) (coherent : IsCoherent s) (stands : IsFor h s) (recorded : AreLaterRecorded s) (to : ℕ)
    (none : due s.manifest.config (due_shape (layout_of s)) to ≡ None) (young : AreYoung s to)
  where
    abbrev threshold : ℕ
    threshold = s.manifest.config.threshold

    least_time : level_deadline s.manifest.config 0 ≤ threshold
    least_time =
        let rises = deadlines_rise s.manifest.config coherent.spelled.config in
        let upto : level_deadline s.manifest.config 0 ≤ level_deadline s.manifest.config (s.manifest.config.levels - 1) =
        rises.rise 0 (s.manifest.config.levels - 1) (omega arith) in
        let whole : level_deadline s.manifest.config (s.manifest.config.levels - 1) ≡ threshold = rises.whole in
        omega (arith, upto, whole)

    none_due : (expired s.manifest.config to (due_shape (layout_of s)) ≡ []) × (overdue_sweeps s.manifest.config to (due_shape (layout_of s)) ≡ [])
    none_due =
        let merges = expired s.manifest.config to (due_shape (layout_of s)) in
        let sweeps = overdue_sweeps s.manifest.config to (due_shape (layout_of s)) in
        both_empty merges sweeps (no_first (merges ++ sweeps) none)

    pub left_young : AreLeftYoung s to
    left_young = erases_young h s stands recorded to none_due.1 young least_time

    -- an erase that is kept is still to be done, or is no older than one that a segment records
    kept_young : (erase : Pending) → Contains (kept_erases s) erase → to < erase.time + threshold
    kept_young erase there =
        let stays : Pending → Bool = λ erase. is_kept (done_upto (layout_of s)) (first_erase s) erase.seq in
        let is_left : Pending → Bool = λ erase. is_above (done_upto (layout_of s)) erase.seq in
        let found = from_filter stays (pending_of s) erase there in
        ⊎_elim
        (λ above.
        All-contains (λ (erase : Pending). to < erase.time + threshold) (left_erases (layout_of s)) erase left_young (in_filter is_left (pending_of s) erase found.0 above))
        (λ from.
        let older = no_older s h stands erase found.0 from in
        let fresh = young (Erasing older.0) (older.0).time older.1 refl in
        omega (arith, fresh, least_time, older.2))
        (or_cases (is_above (done_upto (layout_of s)) erase.seq) (is_from (first_erase s) erase.seq) found.1)

    pub nothing_due : HasNothingDue s.manifest.config to (layout_of (let_go s))
    nothing_due = record {
      files = all_from _ (all_files (shape_of (layout_of s))) (none_expired s.manifest.config to 0 (layout_of s).levels none_due.0);
      records = λ r time told has. let fresh = young r time told has in omega (arith, fresh, least_time);
      erases = λ erase there. kept_young erase (subst (λ erases. Contains erases erase) (pending_kept s) there);
    }
