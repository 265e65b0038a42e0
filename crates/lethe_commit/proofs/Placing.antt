-- The images of a disk while a manifest is created, and then its gate.
use Rattle.std.proofs.Common.{◌≡◌, ◌≢◌, inl, inr, ℕ, List, [], ◌∷◌, Some, None, Option, refl, sym, ◌∙◌, ap, subst, arith}
use Rattle.std.specs.Prelude.{Result, is_some}
use Rattle.std.specs.FinMap.{insert, remove}
use Rattle.lethe_base.specs.declared.name.Kind.TheVariants.{Gate, Manifest}
use Rattle.lethe_base.specs.declared.name.Name.{Name}
use Rattle.lethe_disk.specs.declared.disk.DiskRefused.{DiskRefused}
use Rattle.lethe_disk.specs.Directory.{Directory, object, IsCreated, IsSame}
use Rattle.lethe_disk.specs.Disk.{Seen, Image, IsSynced, Takes}
use Rattle.lethe_disk.specs.Runs.{Leads, After}
use Rattle.lethe_disk.proofs.Objects.{name_cases, object_inserted, object_beside_insert, object_removed, object_beside_remove, same_directory}
use Rattle.lethe_disk.proofs.Moments.{leads_start, leads_weaker, leads_leads, after_start, after_call, after_same}
use Rattle.lethe_commit.specs.Append.{IsUntouched}
use Rattle.lethe_commit.specs.Clear.{ArePresent, IsCleared}
use Rattle.lethe_commit.specs.Gates.{gate_name}
use Rattle.lethe_commit.specs.Switch.{manifest_name, IsFree, IsPlaced, IsTakenBack, IsUnswitched}

-- Names

pub gate≢manifest : (k n : ℕ) → gate_name k ≢ manifest_name n
gate≢manifest k n e = let kinds : Gate ≡ Manifest = ap (λ (x : Name). x.kind) e in cc

pub manifest≢gate : (k n : ℕ) → manifest_name k ≢ gate_name n
manifest≢gate k n e = gate≢manifest n k (sym e)

pub gate≢gate : (k n : ℕ) → k ≢ n → gate_name k ≢ gate_name n
gate≢gate k n ne e = ne (ap (λ (x : Name). x.no) e)

-- One object

created_itself : (name : Name) (d : Directory) → IsCreated name d d
created_itself name d = record { others = λ other ne. refl }

-- the run of one create
pub after_create : {T : Type 0} (name : Name) (result : Result T DiskRefused) (old new : Seen) → Takes (IsCreated name) result old new → After (IsCreated name) (IsCreated name) old new
after_create name result old new call =
    let start = after_start (IsCreated name) IsSame old (λ d here. refl) (λ d c here same. subst (IsCreated name d) (sym same) (created_itself name d)) in
    after_call (IsCreated name) IsSame (IsCreated name) (IsCreated name) result old old new start call (λ d e c here same made. subst (λ x. IsCreated name x c) same made) (λ d c here made. made)

-- and of a sync behind it
pub after_sync : {T : Type 0} (name : Name) (result : Result T DiskRefused) (old mid new : Seen) → After (IsCreated name) (IsCreated name) old mid → Takes IsSame result mid new → After (IsCreated name) (IsCreated name) old new
after_sync name result old mid new so_far call = after_same (IsCreated name) (IsCreated name) result old mid new so_far call (λ d c here made. made)

-- what was made and removed again was never there
removed_again : (directory : Directory) (name : Name) (bytes : List ℕ) → object directory name ≡ None → remove (insert directory name bytes) name ≡ directory
removed_again directory name bytes none = same_directory _ _ (λ other. elim (name_cases other name) as (λ _. object (remove (insert directory name bytes) name) other ≡ object directory other) [
  | inl same ↦ ap (object (remove (insert directory name bytes) name)) same ∙ object_removed (insert directory name bytes) name ∙ sym (ap (object directory) same ∙ none)
  | inr ne ↦ object_beside_remove (insert directory name bytes) name other ne ∙ object_beside_insert directory name bytes other ne
])

-- The run

pub untouched : (old : Seen) → IsTakenBack old old
untouched old = record { directory = refl; images = λ c here. here }

pub refused_at_once : (old new : Seen) → IsUntouched old new → IsTakenBack old new
refused_at_once old new same = record { directory = same.directory; images = λ c here. (same.images c).0 here }

module _ (number : ℕ) (bytes : List ℕ) (greatest : Option ℕ) (old : Seen) (free : IsFree old number greatest) where
  absent : (d : Directory) → Image old d → object d (gate_name number) ≡ None
  absent d here = free.no_gate d here number (omega arith)

  pub at_start : Leads (IsPlaced number bytes) old old
  at_start = leads_start (IsPlaced number bytes) old (λ d here. record { others = λ other none. refl; either = inl (absent d here) })

  module _ (mid : Seen) (first : Leads (IsCreated (manifest_name number)) old mid) where
    record Made (d c : Directory) : Type 0 where
      others : (other : Name) → other ≢ manifest_name number → object c other ≡ object d other
      no_gate : object c (gate_name number) ≡ None

    made : Leads Made old mid
    made = leads_weaker (IsCreated (manifest_name number)) Made old mid first (λ d c here made. record { others = made.others; no_gate = made.others (gate_name number) (gate≢manifest number number) ∙ absent d here })

    made_placed : (d c : Directory) → Made d c → IsPlaced number bytes d c
    made_placed d c made = record { others = λ other none. made.others other none.0; either = inl made.no_gate }

    -- until the gate is created there is none
    pub no_gate_yet : Leads (IsUnswitched number) old mid
    no_gate_yet = leads_weaker Made (IsUnswitched number) old mid made (λ d c here made. record { others = λ other none. made.others other none.0; no_gate = made.no_gate })

    pub after_manifest : Leads (IsPlaced number bytes) old mid
    after_manifest = leads_weaker Made (IsPlaced number bytes) old mid made (λ d c here made. made_placed d c made)

    module _ (synced : IsSynced mid) (done : mid.directory ≡ insert old.directory (manifest_name number) bytes) where
      record Gated (e c : Directory) : Type 0 where
        whole : object e (manifest_name number) ≡ Some bytes
        others : (other : Name) → other ≢ gate_name number → object c other ≡ object e other

      pub after_gate : (new : Seen) → Leads (IsCreated (gate_name number)) mid new → Leads (IsPlaced number bytes) old new
      after_gate new second =
          let gated : Leads Gated mid new = leads_weaker (IsCreated (gate_name number)) Gated mid new second (λ e c here made. record {
            whole = ap (λ x. object x (manifest_name number)) (synced e here ∙ done) ∙ object_inserted old.directory (manifest_name number) bytes;
            others = made.others;
          }) in
          leads_leads Made Gated (IsPlaced number bytes) old mid new made gated made_placed (λ d e c here made gated. record {
            others = λ other none. gated.others other none.1.0 ∙ made.others other none.0;
            either = inr (gated.others (manifest_name number) (manifest≢gate number number) ∙ gated.whole);
          })

      module _ (here : Image old old.directory) where
        pub gate_is_absent : object mid.directory (gate_name number) ≡ None
        gate_is_absent = ap (λ x. object x (gate_name number)) done
            ∙ object_beside_insert old.directory (manifest_name number) bytes (gate_name number) (gate≢manifest number number) ∙ absent old.directory here

      -- Where the gate was refused for want of memory

      module _ (here : Image old old.directory) (refused : Seen) (same : IsUntouched mid refused) where
        held : refused.directory ≡ insert old.directory (manifest_name number) bytes
        held = same.directory ∙ done

        pub is_present : ArePresent (manifest_name number ∷ []) refused.directory
        is_present = (ap is_some (ap (λ x. object x (manifest_name number)) held ∙ object_inserted old.directory (manifest_name number) bytes), tt)

        record Undone (e c : Directory) : Type 0 where
          no_gate : object e (gate_name number) ≡ None
          cleared : IsCleared (manifest_name number ∷ []) e c

        pub after_undoing : (new : Seen) → Leads (IsPlaced number bytes) old refused → Leads (IsCleared (manifest_name number ∷ [])) refused new → Leads (IsPlaced number bytes) old new
        after_undoing new so_far last =
            let undone : Leads Undone refused new = leads_weaker (IsCleared (manifest_name number ∷ [])) Undone refused new last (λ e c there cleared. record {
              no_gate = ap (λ x. object x (gate_name number)) (synced e ((same.images e).0 there)) ∙ gate_is_absent here;
              cleared = cleared;
            }) in
            leads_leads (IsPlaced number bytes) Undone (IsPlaced number bytes) old refused new so_far undone (λ d c placed. placed) (λ d e c there placed undone. record {
              others = λ other none. undone.cleared.others other (none.0, tt) ∙ placed.others other none;
              either = inl (undone.cleared.others (gate_name number) (gate≢manifest number number, tt) ∙ undone.no_gate);
            })

        -- no image ever had the gate
        pub never_gated : (new : Seen) → Leads (IsCreated (gate_name number)) mid refused → Leads (IsCleared (manifest_name number ∷ [])) refused new → Leads (IsUnswitched number) old new
        never_gated new second last =
            let still : Leads (IsUnswitched number) old refused = record {
              later = omega (arith, no_gate_yet.later, second.later);
              past = λ m c le.
                  let here = second.past m c (omega (arith, le, no_gate_yet.later)) in
                  let before = no_gate_yet.past m c le in
                  (λ left. before.0 (here.0 left), λ left. here.1 (before.1 left));
              each = λ m c low high left. no_gate_yet.each m c low (omega (arith, high, same.moment)) ((second.past m c (omega (arith, high, same.moment))).0 left);
            } in
            leads_leads (IsUnswitched number) (IsCleared (manifest_name number ∷ [])) (IsUnswitched number) old refused new still last (λ d c is. is) (λ d e c there is cleared. record {
              others = λ other none. cleared.others other (none.0, tt) ∙ is.others other none;
              no_gate = cleared.others (gate_name number) (gate≢manifest number number, tt) ∙ is.no_gate;
            })

        pub taken_back : (new : Seen) → new.directory ≡ remove refused.directory (manifest_name number) → IsSynced new → IsTakenBack old new
        taken_back new gone now =
            let back : new.directory ≡ old.directory = gone ∙ ap (λ x. remove x (manifest_name number)) held ∙ removed_again old.directory (manifest_name number) bytes (free.no_manifest old.directory here) in
            record { directory = back; images = λ c there. subst (Image old) (sym (now c there ∙ back)) here }
