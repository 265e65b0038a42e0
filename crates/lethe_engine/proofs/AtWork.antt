-- A job at work, where one page more is written, where it is installed and where it is given up.
use Rattle.std.proofs.Common.{◌≡◌, ◌≤◌, ◌<◌, ℕ, ◌+◌, ◌-◌, List, [], ◌∷◌, ◌++◌, length, get_or, take, Option, Some, None, Result, Ok, Err, refl, sym, ap, ◌∙◌, subst, length-append, drop-cons, arith}
use Rattle.std.specs.Prelude.{IfSome, IsSome, OnOk, option_map}
use Rattle.std.specs.Option.{option_map_or}
use Rattle.std.specs.List.{zip}
use Rattle.std.proofs.lemmas.List.{length-map, map-append}
use Rattle.std.proofs.lemmas.Option.{IfSome_then}
use Rattle.lethe_base.specs.History.{History}
use Rattle.lethe_base.specs.Limits.{max_place}
use Rattle.lethe_base.specs.declared.config.Fields.{Fields}
use Rattle.lethe_base.specs.declared.name.Name.{Name}
use Rattle.lethe_base.specs.declared.refused.Refused.{Refused}
use Rattle.lethe_disk.specs.declared.disk.Disk.{Ghosts}
use Rattle.lethe_stored.specs.Stored.{Stored}
use Rattle.lethe_advance.specs.Settled.{AreDrawn, names_in}
use Rattle.lethe_job.proofs.Zips.{zip_cut, zip_joined}
use Rattle.lethe_core.specs.Flights.{AreFlights, Flying, company_of, flying_by, with_pages, without}
use Rattle.lethe_core.specs.Merges.{AreFirst, IsInstalledWith}
use Rattle.lethe_job.specs.Jobs.{next_bytes}
use Rattle.lethe_job.specs.MadeOf.{numbers_in, pages_of, written_of}
use Rattle.lethe_job.specs.Works.{AreOutputs, PlainTask, plain_task}
use Rattle.lethe_job.specs.declared.job.Job.{Job}
use Rattle.lethe_job.specs.declared.job.Piece.{Piece}
use Rattle.lethe_job.specs.declared.made.Made.{Made}
use Rattle.lethe_core.specs.Jobs.{AreOutputsOf, IsAtWork}
use Rattle.lethe_core.specs.Running.{Holds, IsFlying, IsSound}
use Rattle.lethe_core.specs.StandsNow.{IsCounted, IsOpenOrStopped, StandsNow}
use Rattle.lethe_core.specs.View.{Face, View, face_of, loose_in}
use Rattle.lethe_core.proofs.Flying.{all_without, flights_without, flying_pages, without_none}
use Rattle.lethe_core.proofs.Removed.{others_left_of}
use Rattle.lethe_engine.specs.Jobs.{IsNextPage, IsShortToInstall, written_face}

-- the value, where there is one
pub some_there : {X : Type 0} (P : X → Type 0) (o : Option X) → IsSome o → IfSome o P → (x : X) × (o ≡ Some x) × P x
some_there P None some is = absurd cc
some_there P (Some x) some is = (x, refl, is)

-- what is said of it
pub some_at : {X : Type 0} (P : X → Type 0) (o : Option X) (x : X) → o ≡ Some x → IfSome o P → P x
some_at P o x is = subst (λ o. IfSome o P) is

-- the first pages with one more are the first pages

names_more : (written : List (Name × List ℕ)) (name : Name) (bytes : List ℕ) → names_in (written ++ (name, bytes) ∷ []) ≡ names_in written ++ name ∷ []
names_more written name bytes = map-append (λ (named : Name × List ℕ). named.0) written ((name, bytes) ∷ [])

first_more : (pages : List (List ℕ)) (names : List Name) (name : Name) → length names < length pages
    → zip (names ++ name ∷ []) (take (length (names ++ name ∷ [])) pages) ≡ zip names (take (length names) pages) ++ (name, get_or pages (length names) []) ∷ []
first_more pages names name left =
    zip_cut (names ++ name ∷ []) pages ∙ zip_joined names (name ∷ []) pages
    ∙ (λ i. sym (zip_cut names pages) i ++ zip (name ∷ []) (drop-cons pages (length names) [] left i))

pub written_more : (made : Made) (written : List (Name × List ℕ)) (name : Name) (at : ℕ) → length written ≡ at → at < length (pages_of made) → written ≡ written_of (names_in written) made
    → written ++ (name, get_or (pages_of made) at []) ∷ [] ≡ written_of (names_in (written ++ (name, get_or (pages_of made) at []) ∷ [])) made
written_more made written name at count left is =
    let page : Name × List ℕ = (name, get_or (pages_of made) at []) in
    let many : length (names_in written) ≡ at = length-map written (λ (named : Name × List ℕ). named.0) ∙ count in
    ap (λ (w : List (Name × List ℕ)). w ++ page ∷ []) is
    ∙ ap (λ (n : ℕ). written_of (names_in written) made ++ (name, get_or (pages_of made) n []) ∷ []) (sym many)
    ∙ sym (first_more (pages_of made) (names_in written) name (omega (arith, many, left)))
    ∙ ap (λ (names : List Name). written_of names made) (sym (names_more written name (get_or (pages_of made) at [])))

module _ {D Page Port : Type 0} {kind : Ghosts D Page Port} (Tells : Type 0) (old : View) (job : Job D Page Port kind) (works : IsAtWork Tells old job) where
  module _ (piece : Piece) (next : IsNextPage job piece) where
    -- there is the page that counts as written
    pub one_more : (new : View) (name : Name) (result : Result (Unit {0}) Refused) → face_of new ≡ written_face job.number (face_of old) (name, next_bytes job) result → OnOk result (IsAtWork Tells new (record job { written = job.written + 1 }))
    one_more new name (Err why) is = tt
    one_more new name (Ok done) is =
        let there = some_there (λ (made : Made). job.written < length (pages_of made)) job.made next.made next.left in
        let made : Made = there.0 in
        let flying : Flying = works.flies.flying in
        let page : Name × List ℕ = (name, get_or (pages_of made) job.written []) in
        let bytes : next_bytes job ≡ get_or (pages_of made) job.written [] =
        ap (λ (o : Option Made). option_map_or (λ (made : Made). get_or (pages_of made) job.written []) o []) there.1 in
        let flies : flying_by job.number new.flights ≡ Some (with_pages flying (page ∷ [])) =
        ap (λ (face : Face). flying_by job.number face.flights) is ∙ flying_pages job.number ((name, next_bytes job) ∷ []) old.flights
        ∙ ap (option_map (λ (flying : Flying). with_pages flying ((name, next_bytes job) ∷ []))) works.flies.is ∙ ap (λ (b : List ℕ). Some (with_pages flying ((name, b) ∷ []))) bytes in
        let was : flying.written ≡ written_of (names_in flying.written) made = some_at (λ (made : Made). flying.written ≡ written_of (names_in flying.written) made) job.made made there.1 works.pages in
        let count = works.count in
        record {
          flies = record {
            flying = with_pages flying (page ∷ []);
            is = flies;
            task = works.flies.task;
            round = works.flies.round ∙ sym (ap (λ (face : Face). face.rounds) is);
          };
          asked = works.asked;
          job_is = record {
            made = works.job_is.made;
            few = IfSome_then job.made next.left (λ made left. omega (arith, left));
            unmade = λ none. absurd (let clash : Some made ≡ None = sym there.1 ∙ none in cc);
          };
          count = omega (arith, count, length-append flying.written (page ∷ []));
          pages = subst (λ o. IfSome o (λ (made : Made). flying.written ++ page ∷ [] ≡ written_of (names_in (flying.written ++ page ∷ [])) made)) (sym there.1)
              (written_more made flying.written name job.written count there.2 was);
        }

  -- what was installed is the outcome of its task
  pub outcome_of : (s : Stored) (new : View)
      → IfSome (flying_by job.number old.flights) (λ flying. (t : Stored) × IsInstalledWith (company_of (without job.number old.flights)) s flying.task t × Holds new t × AreFirst (names_in flying.written) s t)
      → (t : Stored) × IsInstalledWith (company_of (without job.number old.flights)) s (plain_task job.task.value) t × Holds new t
      × IfSome (flying_by job.number old.flights) (λ flying. AreFirst (names_in flying.written) s t)
  outcome_of s new is =
      let company = company_of (without job.number old.flights) in
      let found = some_at (λ (flying : Flying). (t : Stored) × IsInstalledWith company s flying.task t × Holds new t × AreFirst (names_in flying.written) s t) (flying_by job.number old.flights) works.flies.flying works.flies.is is in (
        found.0,
        subst (λ (task : PlainTask). IsInstalledWith company s task found.0) (sym works.flies.task) found.1,
        found.2,
        subst (λ (flying : Option Flying). IfSome flying (λ flying. AreFirst (names_in flying.written) s found.0)) (sym works.flies.is) found.3,
      )

  module _ (made : Made) (is : job.made ≡ Some made) where
    -- the job in flight has what it made
    pub outputs_flying : IfSome (flying_by job.number old.flights) (λ flying. AreOutputsOf Tells flying made)
    outputs_flying =
        let flying : Flying = works.flies.flying in
        subst (λ o. IfSome o (λ flying. AreOutputsOf Tells flying made)) (sym works.flies.is) (record {
          outputs = subst (λ (task : PlainTask). AreOutputs Tells task made) works.flies.task (some_at (AreOutputs Tells (plain_task job.task.value)) job.made made is works.job_is.made);
          some = subst (λ n. n ≤ length (pages_of made)) (sym works.count) (some_at (λ (made : Made). job.written ≤ length (pages_of made)) job.made made is works.job_is.few);
          pages = some_at (λ (made : Made). flying.written ≡ written_of (names_in flying.written) made) job.made made is works.pages;
        })

    -- the numbers that it is short of are the job's
    pub short_flying : IfSome (flying_by job.number old.flights) (λ flying. max_place ≤ old.state.next + (numbers_in made - length flying.written)) → IsShortToInstall old job
    short_flying short =
        let flying : Flying = works.flies.flying in
        let few = some_at (λ (flying : Flying). max_place ≤ old.state.next + (numbers_in made - length flying.written)) (flying_by job.number old.flights) flying works.flies.is short in
        subst (λ o. IfSome o (λ (made : Made). max_place ≤ old.state.next + (numbers_in made - job.written))) (sym is)
        (subst (λ n. max_place ≤ old.state.next + (numbers_in made - n)) works.count few)

-- A store that was stopped forgets a job

module _ (view : View) (number place : ℕ) (stopped : view.state.stopped ≡ Some place) where
  abbrev free : View
  free = record view { flights = without number view.flights }

  left_stopped : (config : Fields) (h : History) (s : Stored) → IsOpenOrStopped config view h s view.state.stopped → IsOpenOrStopped config free h s view.state.stopped
  left_stopped config h s held = subst (IsOpenOrStopped config free h s) (sym stopped) (subst (IsOpenOrStopped config view h s) stopped held)

  pub forgets_now : (config : Fields) (h : History) → StandsNow config h view → StandsNow config h free
  forgets_now config h stands = record {
    legal = stands.legal;
    count = stands.count;
    stored = stands.stored;
    remembers = stands.remembers;
    config_is = stands.config_is;
    stands = stands.stands;
    held = left_stopped config h stands.stored stands.held;
    counted = all_without (λ (flying : Flying). IsCounted flying.task) number view.flights stands.counted;
    recorded = stands.recorded;
    timely = stands.timely;
  }

  -- the names of fewer pages
  fewer : (front : List Name) (next : ℕ) → AreFlights view.flights → AreDrawn next (front ++ names_in (loose_in view.flights)) → AreDrawn next (front ++ names_in (loose_in (without number view.flights)))
  fewer front next are drawn = by (flying_by number view.flights) refl
    where
      by : (found : Option Flying) → flying_by number view.flights ≡ found → AreDrawn next (front ++ names_in (loose_in (without number view.flights)))
      by None none = subst (λ (flights : List Flying). AreDrawn next (front ++ names_in (loose_in flights))) (sym (without_none number view.flights none)) drawn
      by (Some flying) is = (others_left_of number view.flights flying are is).drawn next front drawn

  pub forgets_sound : (Tells : Type 0) → IsSound Tells view → IsSound Tells free
  forgets_sound Tells sound = record {
    writable = sound.writable;
    small = sound.small;
    count = sound.count;
    flights = flights_without number view.flights sound.flights;
    flies = all_without (IsFlying view.state) number view.flights sound.flies;
    loose = fewer [] view.state.next sound.flights sound.loose;
    drawn = λ told. fewer view.retired view.state.next sound.flights (sound.drawn told);
    pins = sound.pins;
    pages = sound.pages;
    held = λ told. let held = sound.held told in (held.0, held.1, λ runs. absurd (let clash : Some place ≡ None = sym stopped ∙ runs in cc));
  }
