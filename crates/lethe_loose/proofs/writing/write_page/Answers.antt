use Rattle.std.proofs.Common.{◌≡◌, ◌+◌, ℕ, List, [], ◌∷◌, ◌++◌, append_assoc, refl, sym, ap, ◌∙◌, subst}
use Rattle.lethe_base.specs.declared.name.Name.{Name}
use Rattle.std.specs.Prelude.{zip}
use Rattle.lethe_disk.specs.Directory.{IsCreated}
use Rattle.lethe_file.specs.Agreement.{page_name}
use Rattle.lethe_advance.specs.Settled.{IsSettled, HasOnly, AreDrawn, AreUncited, names_in}
use Rattle.lethe_advance.proofs.Stayed.{came_now}
use Rattle.lethe_loose.proofs.Pages.{stays_settled, zip_push, page_absent, write_moments, settled_more, uncited_more, drawn_more}
use Rattle.lethe_loose.proofs.writing.write_page.Goals as goal

pub returns-in_err-push-clause-any_moment : goal.returns-in_err-push-clause-any_moment
returns-in_err-push-clause-any_moment g c = λ told s left may. stays_settled (g.D.Disk.seen c.args.disk.now) s may.settled

pub place-requires-after_bounds : goal.place-requires-after_bounds
place-requires-after_bounds g c κs within = λ told.
    let asked = c.requires.fresh told in
    page_absent (g.D.Disk.seen c.args.disk.now) asked.0 (asked.1 ++ c.args.written.now) c.args.no asked.2

pub returns-in-Err-clause-any_moment : goal.returns-in-Err-clause-any_moment
returns-in-Err-clause-any_moment g c = λ told s left may.
    write_moments (g.D.Disk.seen c.args.disk.now) s (left ++ c.args.written.now) c.args.no may (g.D.Disk.seen c.place.new.disk) (c.place.ensures.any_moment told)

pub returns-clause-any_moment : goal.returns-clause-any_moment
returns-clause-any_moment g c = λ told s left may.
    write_moments (g.D.Disk.seen c.args.disk.now) s (left ++ c.args.written.now) c.args.no may (g.D.Disk.seen c.place.new.disk) (c.place.ensures.any_moment told)

pub returns-clause-written : goal.returns-clause-written
returns-clause-written g c =
    let names = c.written.inside.names.items in
    let pages = c.written.inside.contents.pages in
    let name = page_name c.args.no in
    ap (λ l. zip l c.with-written-inside.result.pages) c.in_ok-push.ensures.items ∙ ap (zip (names ++ name ∷ [])) c.with-written-inside.ensures
    ∙ zip_push names pages name c.args.bytes.now c.written.invariant ∙ ap (λ l. l ++ (name, c.args.bytes.now) ∷ []) c.written.view_is

-- behind what lay there
more_beside : (left written now : List (Name × List ℕ)) (page : Name × List ℕ) → now ≡ written ++ page ∷ [] → (left ++ written) ++ page ∷ [] ≡ left ++ now
more_beside left written now page is = append_assoc left written (page ∷ []) ∙ ap (λ l. left ++ l) (sym is)

pub returns-clause-done : goal.returns-clause-done
returns-clause-done g c = λ told s left may.
    let s1 = g.D.Disk.seen c.place.new.disk in
    subst (λ l. IsSettled s1 s × HasOnly s l s1.directory) (more_beside left c.args.written.now _ (page_name c.args.no, c.args.bytes.now) (returns-clause-written g c))
    (settled_more (g.D.Disk.seen c.args.disk.now) s (left ++ c.args.written.now) c.args.no may s1 c.args.bytes.now (c.in_default.ensures.synced told) (c.in_default.ensures.done told))

pub returns-clause-loose : goal.returns-clause-loose
returns-clause-loose g c = λ s left coherent later uncited.
    subst (AreUncited s) (more_beside left c.args.written.now _ (page_name c.args.no, c.args.bytes.now) (returns-clause-written g c))
    (uncited_more s (left ++ c.args.written.now) c.args.no c.args.bytes.now coherent later uncited)

pub returns-clause-drawn : goal.returns-clause-drawn
returns-clause-drawn g c = λ left drawn.
    subst (λ l. AreDrawn (c.args.no + 1) (names_in l)) (more_beside left c.args.written.now _ (page_name c.args.no, c.args.bytes.now) (returns-clause-written g c))
    (drawn_more (left ++ c.args.written.now) c.args.no c.args.bytes.now drawn)

-- the other objects

pub returns-in_err-push-clause-beside : goal.returns-in_err-push-clause-beside
returns-in_err-push-clause-beside g c = λ told other apart. refl

pub returns-in-Err-clause-beside : goal.returns-in-Err-clause-beside
returns-in-Err-clause-beside g c = λ told.
    let asked = c.requires.fresh told in
    let laws = g.met.D.Disk g.world.𝓛 g.world.𝓜 g.world.𝓡 ((λ s x. x), (λ x. x), (λ x. x), λ x. x) in
    (came_now (IsCreated (page_name c.args.no)) (g.D.Disk.seen c.args.disk.now) (g.D.Disk.seen c.place.new.disk) asked.2.settled.synced (c.place.ensures.any_moment told) (laws.itself told c.place.new.disk)).others

pub returns-clause-beside : goal.returns-clause-beside
returns-clause-beside g c = λ told.
    let asked = c.requires.fresh told in
    let laws = g.met.D.Disk g.world.𝓛 g.world.𝓜 g.world.𝓡 ((λ s x. x), (λ x. x), (λ x. x), λ x. x) in
    (came_now (IsCreated (page_name c.args.no)) (g.D.Disk.seen c.args.disk.now) (g.D.Disk.seen c.place.new.disk) asked.2.settled.synced (c.place.ensures.any_moment told) (laws.itself told c.place.new.disk)).others
