use Rattle.std.proofs.Common.{◌≡◌, [], filter, sym, ap, subst, ◌∙◌}
use Rattle.std.specs.Prelude.{IsTrue, ◌↔◌}
use Rattle.std.specs.BTreeSet.{contains}
use Rattle.lethe_base.specs.Names.{name_cmp}
use Rattle.lethe_base.specs.declared.name.Name.{Name}
use Rattle.lethe_disk.specs.Directory.{Directory, object, SameBeside}
use Rattle.lethe_disk.specs.Disk.{Seen, Image, IsSynced}
use Rattle.lethe_disk.proofs.Going.{goes_leads, goes_quiet}
use Rattle.lethe_disk.proofs.Quieting.{quiet_itself, on_ok_both}
use Rattle.lethe_commit.specs.Clear.{ArePresent, IsCleared, remove_all}
use Rattle.lethe_commit.proofs.Removals.{cleared_others}
use Rattle.lethe_stored.specs.Stored.{Stored, IsCited}
use Rattle.lethe_stored.specs.Encodes.{Encodes, AreSpare}
use Rattle.lethe_stored.proofs.Frame.{besides}
use Rattle.lethe_stored.proofs.Unique.{one_stored}
use Rattle.lethe_advance.specs.Settled.{IsSettled, HasOnly}
use Rattle.lethe_recover.proofs.Uncited.{test, rest, rest_present, rest_spare, rest_gone}
use Rattle.lethe_recover.proofs.tidying.tidy.Goals as goal

-- what is stored is in the one image
in_image : (disk : Seen) (s : Stored) → IsSettled disk s → (d : Directory) → Image disk d → Encodes d s
in_image disk s settled d here = subst (λ x. Encodes x s) (sym (settled.synced d here)) settled.encodes

pub returns-in_err-rest-clause-any_moment : goal.returns-in_err-rest-clause-any_moment
returns-in_err-rest-clause-any_moment g c = λ told s settled.
    let s0 = g.D.Disk.seen c.args.disk.now in
    goes_quiet (λ x. Encodes x s) s0 s0 (quiet_itself s0) (in_image s0 s settled)

pub clear-requires-after_bounds : goal.clear-requires-after_bounds
clear-requires-after_bounds g c κs within = λ told.
    let asked = c.requires.settled told in
    let s = asked.0 in
    let settled = asked.1 in
    let d = (g.D.Disk.seen c.args.disk.now).directory in
    let set = c.args.cited.now in
    let cites = asked.2 in
    let items : c.deref.result.now ≡ rest s set cites d settled.encodes = c.deref.ensures.value ∙ c.in_ok-rest.ensures ∙ ap (filter (test s set cites)) (c.requires.listed told) in
    subst (λ l. ArePresent l d) (sym items) (rest_present s set cites d settled.encodes)

pub returns-clause-any_moment : goal.returns-clause-any_moment
returns-clause-any_moment g c = λ told s settled.
    let asked = c.requires.settled told in
    let s0 = g.D.Disk.seen c.args.disk.now in
    let s1 = g.D.Disk.seen c.clear.new.disk in
    let d = s0.directory in
    let one : asked.0 ≡ s = one_stored d asked.0 s (asked.1).coherent settled.coherent (asked.1).encodes settled.encodes in
    let set = c.args.cited.now in
    let cites : (name : Name) → IsTrue (contains name_cmp set name) ↔ IsCited s name = subst (λ (x : Stored). (name : Name) → IsTrue (contains name_cmp set name) ↔ IsCited x name) one asked.2 in
    let items : c.deref.result.now ≡ rest s set cites d settled.encodes = c.deref.ensures.value ∙ c.in_ok-rest.ensures ∙ ap (filter (test s set cites)) (c.requires.listed told) in
    let spare : AreSpare s c.deref.result.now = subst (AreSpare s) (sym items) (rest_spare s set cites d settled.encodes) in
    goes_leads (λ x. Encodes x s) (IsCleared c.deref.result.now) s0 s1 (c.clear.ensures.any_moment told) (λ e x here cleared. besides s e x c.deref.result.now (in_image s0 s settled e here) spare cleared.others)

pub returns-clause-done : goal.returns-clause-done
returns-clause-done g c = λ told s settled.
    let asked = c.requires.settled told in
    let s0 = g.D.Disk.seen c.args.disk.now in
    let s1 = g.D.Disk.seen c.clear.new.disk in
    let d = s0.directory in
    let one : asked.0 ≡ s = one_stored d asked.0 s (asked.1).coherent settled.coherent (asked.1).encodes settled.encodes in
    let set = c.args.cited.now in
    let cites : (name : Name) → IsTrue (contains name_cmp set name) ↔ IsCited s name = subst (λ (x : Stored). (name : Name) → IsTrue (contains name_cmp set name) ↔ IsCited x name) one asked.2 in
    let all = rest s set cites d settled.encodes in
    let items : c.deref.result.now ≡ all = c.deref.ensures.value ∙ c.in_ok-rest.ensures ∙ ap (filter (test s set cites)) (c.requires.listed told) in
    on_ok_both c.clear.result (s1.directory ≡ remove_all c.deref.result.now d) (IsSynced s1) (IsSettled s1 s × HasOnly s [] s1.directory) (c.clear.ensures.done told) (c.clear.ensures.synced told) (λ done synced.
    let gone : s1.directory ≡ remove_all all d = done ∙ ap (λ l. remove_all l d) items in
    let others : SameBeside all d s1.directory = λ name none. ap (λ x. object x name) gone ∙ cleared_others all d name none in (
      record {
        synced = synced;
        coherent = settled.coherent;
        encodes = besides s d s1.directory all settled.encodes (rest_spare s set cites d settled.encodes) others;
      },
      subst (HasOnly s []) (sym gone) (rest_gone s set cites d settled.encodes),
    ))
