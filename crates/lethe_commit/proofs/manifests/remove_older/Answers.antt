use Rattle.std.proofs.Common.{◌≡◌, ℕ, List, [], ◌∷◌, refl, Option, Some, None, sym, ap, subst, ◌∙◌}
use Rattle.std.specs.Prelude.{Contains, IsSome}
use Rattle.lethe_disk.specs.Directory.{Directory, object}
use Rattle.lethe_disk.specs.Runs.{Leads}
use Rattle.lethe_disk.proofs.Moments.{leads_weaker}
use Rattle.lethe_base.specs.declared.name.Name.{Name}
use Rattle.lethe_commit.specs.Clear.{IsCleared, remove_all}
use Rattle.lethe_commit.specs.Gates.{gate_name, IsGreatestOf}
use Rattle.lethe_commit.specs.Switch.{manifest_name, TellsOlder, older_names}
use Rattle.lethe_commit.proofs.Listed.{found_decides}
use Rattle.lethe_commit.proofs.Stages.{on_ok}
use Rattle.lethe_commit.proofs.Exchange.{none_cleared, none_removed, greatest_once, tells_greatest, one_cleared, one_removed, both_present}
use Rattle.lethe_commit.proofs.manifests.remove_older.Goals as goal

-- the greatest that the names tell is the one that was chosen
chosen : (names : List Name) (greatest choice : Option ℕ) (d : Directory) → TellsOlder names greatest d → IsGreatestOf names choice → greatest ≡ choice
chosen names greatest choice d tells is = greatest_once names greatest choice (tells_greatest names greatest d tells) is

chosen_tells : (names : List Name) (greatest choice : Option ℕ) (k : ℕ) (d : Directory) → TellsOlder names greatest d → IsGreatestOf names choice → choice ≡ Some k → (greatest ≡ Some k) × TellsOlder names (Some k) d
chosen_tells names greatest choice k d tells is some =
    let same = chosen names greatest choice d tells is ∙ some in
    (same, subst (λ g. TellsOlder names g d) same tells)

absent_of : (o : Option (List ℕ)) → (IsSome o → ⊥) → o ≡ None
absent_of None none = refl
absent_of (Some b) none = absurd (none refl)

pub returns-in_default-clause-any_moment : goal.returns-in_default-clause-any_moment
returns-in_default-clause-any_moment g c = λ told greatest tells. none_cleared (older_names greatest) (g.D.Disk.seen c.args.disk.now)

pub returns-in_default-clause-done : goal.returns-in_default-clause-done
returns-in_default-clause-done g c = λ told greatest tells.
    let d = (g.D.Disk.seen c.args.disk.now).directory in
    none_removed greatest d (chosen c.args.names.now greatest c.choose.result d tells c.choose.ensures ∙ c.in_default.is)

pub remove_each-requires-after_bounds : goal.remove_each-requires-after_bounds
remove_each-requires-after_bounds g c κs within = λ told.
    let d = (g.D.Disk.seen c.args.disk.now).directory in
    let k = c.in-Some.greatest in
    let tells = (chosen_tells c.args.names.now (c.requires told).0 c.choose.result k d (c.requires told).1 c.choose.ensures c.in-Some.is).1 in
    let there : Contains c.args.names.now (manifest_name k) = (found_decides c.args.names.now (manifest_name k) c.contains.result c.contains.ensures.cases).0 c.if-contains.true in
    both_present k d tells.1 (tells.2.0 there)

pub remove_each-requires-else-contains-after_bounds : goal.remove_each-requires-else-contains-after_bounds
remove_each-requires-else-contains-after_bounds g c κs within = λ told.
    let d = (g.D.Disk.seen c.args.disk.now).directory in
    let k = c.in-Some.greatest in
    ((chosen_tells c.args.names.now (c.requires told).0 c.choose.result k d (c.requires told).1 c.choose.ensures c.in-Some.is).1.1, tt)

pub returns-then-contains-clause-any_moment : goal.returns-then-contains-clause-any_moment
returns-then-contains-clause-any_moment g c = λ told greatest tells.
    let s0 = g.D.Disk.seen c.args.disk.now in
    let s1 = g.D.Disk.seen c.remove_each.new.disk in
    let is = (chosen_tells c.args.names.now greatest c.choose.result c.in-Some.greatest s0.directory tells c.choose.ensures c.in-Some.is).0 in
    subst (λ o. Leads (IsCleared (older_names o)) s0 s1) (sym is) (c.remove_each.ensures.any_moment told)

pub returns-then-contains-clause-done : goal.returns-then-contains-clause-done
returns-then-contains-clause-done g c = λ told greatest tells.
    let s0 = g.D.Disk.seen c.args.disk.now in
    let s1 = g.D.Disk.seen c.remove_each.new.disk in
    let k = c.in-Some.greatest in
    let is = (chosen_tells c.args.names.now greatest c.choose.result k s0.directory tells c.choose.ensures c.in-Some.is).0 in
    on_ok c.remove_each.result (s1.directory ≡ remove_all (older_names (Some k)) s0.directory) (s1.directory ≡ remove_all (older_names greatest) s0.directory) (c.remove_each.ensures.done told)
    (λ e. e ∙ ap (λ o. remove_all (older_names o) s0.directory) (sym is))

pub returns-else-contains-clause-any_moment : goal.returns-else-contains-clause-any_moment
returns-else-contains-clause-any_moment g c = λ told greatest tells.
    let s0 = g.D.Disk.seen c.args.disk.now in
    let s1 = g.D.Disk.seen c.remove_each-else-contains.new.disk in
    let k = c.in-Some.greatest in
    let is = (chosen_tells c.args.names.now greatest c.choose.result k s0.directory tells c.choose.ensures c.in-Some.is).0 in
    subst (λ o. Leads (IsCleared (older_names o)) s0 s1) (sym is)
    (leads_weaker (IsCleared (gate_name k ∷ [])) (IsCleared (older_names (Some k))) s0 s1 (c.remove_each-else-contains.ensures.any_moment told) (λ d c here cleared. one_cleared k d c cleared))

pub returns-else-contains-clause-done : goal.returns-else-contains-clause-done
returns-else-contains-clause-done g c = λ told greatest tells.
    let s0 = g.D.Disk.seen c.args.disk.now in
    let s1 = g.D.Disk.seen c.remove_each-else-contains.new.disk in
    let k = c.in-Some.greatest in
    let known = chosen_tells c.args.names.now greatest c.choose.result k s0.directory tells c.choose.ensures c.in-Some.is in
    let found = found_decides c.args.names.now (manifest_name k) c.contains.result c.contains.ensures.cases in
    let none : object s0.directory (manifest_name k) ≡ None = absent_of (object s0.directory (manifest_name k)) (λ there. let yes = found.1 (known.1.2.1 there) in let no = c.if-contains.false in cc) in
    on_ok c.remove_each-else-contains.result (s1.directory ≡ remove_all (gate_name k ∷ []) s0.directory) (s1.directory ≡ remove_all (older_names greatest) s0.directory) (c.remove_each-else-contains.ensures.done told)
    (λ e. e ∙ one_removed k s0.directory none ∙ ap (λ o. remove_all (older_names o) s0.directory) (sym known.0))
