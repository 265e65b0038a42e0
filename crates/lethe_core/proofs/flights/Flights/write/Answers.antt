use Rattle.std.proofs.Common.{◌≡◌, [], ◌∷◌, ◌++◌, sym, ap, ◌∙◌, subst, arith}
use Rattle.std.proofs.lemmas.Result.{on_err_weaker, on_ok_weaker}
use Rattle.lethe_advance.specs.Settled.{HasOnly, IsSettled}
use Rattle.lethe_disk.proofs.Quieting.{on_ok_both}
use Rattle.lethe_file.specs.Agreement.{page_name}
use Rattle.lethe_loose.specs.Loose.{MayWrite}
use Rattle.lethe_core.specs.Flights.{AreFlights, flying_of}
use Rattle.lethe_core.proofs.Flying.{claimed_at, held_within, job_at, kept_at, written_at, written_is}
use Rattle.lethe_core.proofs.flights.Flights.write.Goals as goal

pub index_mut-flight-requires : goal.index_mut-flight-requires
index_mut-flight-requires g c =
    let within = held_within c.self.inside.flights.items c.args.self.now c.in-Some.place c.self.view_is c.in-Some.ensures.within in
    omega (arith, within, c.self.inside.flights.ok.0)

-- the job's pages are those that were written for the number
pub write_page-requires-clause-fresh : goal.write_page-requires-clause-fresh
write_page-requires-clause-fresh g c κs within told =
    let flight = c.index_mut-flight.result.now in
    let job = job_at c.args.number c.self.inside.flights.items c.args.self.now c.in-Some.place flight c.self.view_is c.in-Some.ensures.within c.in-Some.ensures.there c.index_mut-flight.ensures.value in
    let asked = c.requires.fresh told in
    (asked.0, asked.1, subst (λ written. MayWrite (g.D.Disk.seen c.args.disk.now) asked.0 (asked.1 ++ written) c.args.no) (written_is c.args.number c.args.self.now (flying_of flight) job.1) asked.2)

pub invariant_of-self : goal.invariant_of-self
invariant_of-self g c =
    claimed_at c.write_page.result c.args.number c.self.inside.flights.items c.args.self.now c.in-Some.place c.index_mut-flight.result.now c.write_page.new.written ((page_name c.args.no, c.args.bytes.now) ∷ []) c.self.view_is c.self.invariant
    c.in-Some.ensures.within c.in-Some.ensures.there c.index_mut-flight.ensures.value c.write_page.ensures.written c.write_page.ensures.kept

pub returns-clause-are : goal.returns-clause-are
returns-clause-are g c = (invariant_of-self g c).are

pub returns-clause-written : goal.returns-clause-written
returns-clause-written g c =
    let flight = c.index_mut-flight.result.now in
    on_ok_weaker c.write_page.result
    (λ (more : c.write_page.new.written ≡ c.index_mut-flight.result.now.written ++ (page_name c.args.no, c.args.bytes.now) ∷ []).
    written_at c.args.number c.self.inside.flights.items c.args.self.now c.in-Some.place flight c.write_page.new.written ((page_name c.args.no, c.args.bytes.now) ∷ []) c.self.view_is (subst AreFlights c.self.view_is c.self.invariant.are) c.in-Some.ensures.within c.in-Some.ensures.there
    c.index_mut-flight.ensures.value more)
    c.write_page.ensures.written

pub returns-clause-kept : goal.returns-clause-kept
returns-clause-kept g c = on_err_weaker c.write_page.result
    (λ (same : c.write_page.new.written ≡ c.index_mut-flight.result.now.written).
    kept_at c.self.inside.flights.items c.args.self.now c.in-Some.place c.index_mut-flight.result.now c.write_page.new.written c.self.view_is c.index_mut-flight.ensures.value same)
    c.write_page.ensures.kept

pub returns-clause-any_moment : goal.returns-clause-any_moment
returns-clause-any_moment g c = λ told s left may.
    let flight = c.index_mut-flight.result.now in
    let job = job_at c.args.number c.self.inside.flights.items c.args.self.now c.in-Some.place flight c.self.view_is c.in-Some.ensures.within c.in-Some.ensures.there c.index_mut-flight.ensures.value in
    c.write_page.ensures.any_moment told s left (subst (λ written. MayWrite (g.D.Disk.seen c.args.disk.now) s (left ++ written) c.args.no) (written_is c.args.number c.args.self.now (flying_of flight) job.1) may)

pub returns-clause-done : goal.returns-clause-done
returns-clause-done g c = λ told s left may.
    let flight = c.index_mut-flight.result.now in
    let job = job_at c.args.number c.self.inside.flights.items c.args.self.now c.in-Some.place flight c.self.view_is c.in-Some.ensures.within c.in-Some.ensures.there c.index_mut-flight.ensures.value in
    let own = written_is c.args.number c.args.self.now (flying_of flight) job.1 in
    let done = c.write_page.ensures.done told s left (subst (λ written. MayWrite (g.D.Disk.seen c.args.disk.now) s (left ++ written) c.args.no) own may) in
    on_ok_both c.write_page.result _ _ _ c.write_page.ensures.written done
    (λ (more : c.write_page.new.written ≡ c.index_mut-flight.result.now.written ++ (page_name c.args.no, c.args.bytes.now) ∷ [])
    (only : IsSettled (g.D.Disk.seen c.write_page.new.disk) s × HasOnly s (left ++ c.write_page.new.written) (g.D.Disk.seen c.write_page.new.disk).directory).
    (only.0, subst (λ written. HasOnly s (left ++ written) (g.D.Disk.seen c.write_page.new.disk).directory) (more ∙ sym (ap (λ written. written ++ (page_name c.args.no, c.args.bytes.now) ∷ []) own)) only.1))
