-- What is told of something stored.
use Rattle.std.proofs.Common.{◌≡◌, ℕ, List, ◌++◌, length, take, None, sym, ap, ◌∙◌, subst, arith}
use Rattle.std.specs.Prelude.{All}
use Rattle.std.proofs.lemmas.List.{length-append, take-append-le, take_all}
use Rattle.std.proofs.lemmas.List.Elements.{All-weaker}
use Rattle.lethe_base.specs.History.{History}
use Rattle.lethe_base.specs.declared.config.Fields.{Fields}
use Rattle.lethe_disk.specs.Disk.{Image, Seen}
use Rattle.lethe_disk.specs.Runs.{Continues}
use Rattle.lethe_stored.specs.Kept.{IsFor}
use Rattle.lethe_stored.specs.Left.{without_failed}
use Rattle.lethe_stored.specs.Stored.{Stored}
use Rattle.lethe_state.specs.Remembered.{Remembers}
use Rattle.lethe_core.specs.StandsNow.{IsOpenOrStopped}
use Rattle.lethe_core.specs.View.{View}
use Rattle.lethe_run.specs.Carried.{IsLookOf, IsSeen, Look, failed_in}
use Rattle.lethe_run.specs.Serving.{IsOn, Point}
use Rattle.lethe_run.specs.Transcript.{Start}
use Rattle.lethe_run.proofs.Images.{runs_by}

-- it is so now: what the store remembers is what its one image encodes, unless a change has failed
pub seen_here : (begin : Start) (from : Point) (h : History) (view : View) (on : IsOn begin from h view) → Image view.disk view.disk.directory → (point : ℕ) → point ≡ view.state.count → (look : Look)
    → ((s : Stored) → Remembers s view.state view.levels → IsLookOf s.manifest.config.threshold s look) → IsSeen begin.config begin.moment h view.disk (point, look)
seen_here begin from h view on itself point at look shows =
    let now = on.stands.now in
    let all = at ∙ now.count in
    let whole = sym (take_all point h (omega (arith, all))) in
    record {
      within = omega (arith, all);
      unless = λ none.
          let runs : view.state.stopped ≡ None = runs_by begin from h view on view.state.stopped now.held (ap failed_in whole ∙ none) in
          let running = (subst (IsOpenOrStopped begin.config view h now.stored) runs now.held).1 in
          let low = on.moment_since in
          let later = on.stands.later in
          record {
            moment = view.disk.moment;
            since = omega (arith, low, later);
            upto = omega arith;
            directory = view.disk.directory;
            left = itself;
            encoded = record {
              s = now.stored;
              config_is = now.config_is;
              coherent = now.remembers.coherent;
              encodes = running.settled.encodes;
              stands = subst (λ l. IsFor (without_failed l) now.stored) whole now.stands;
            };
            shows = subst (λ (fields : Fields). IsLookOf fields.threshold now.stored look) now.config_is (shows now.stored now.remembers);
          };
    }

-- and stays so
pub seen_later : (config : Fields) (from : ℕ) (h g : History) → (added : History) × (g ≡ h ++ added) → (old new : Seen) → Continues old new → (told : ℕ × Look) → IsSeen config from h old told → IsSeen config from g new told
seen_later config from h g grows old new calls told is =
    let front : take told.0 g ≡ take told.0 h = ap (take told.0) grows.1 ∙ take-append-le told.0 h grows.0 is.within in
    let size = ap length grows.1 ∙ length-append h grows.0 in
    let within = is.within in
    record {
      within = omega (arith, within, size);
      unless = λ none.
          let was = is.unless (ap failed_in (sym front) ∙ none) in
          let upto = was.upto in
          let later = calls.later in
          record {
            moment = was.moment;
            since = was.since;
            upto = omega (arith, upto, later);
            directory = was.directory;
            left = (calls.past was.moment was.directory upto).1 was.left;
            encoded = record {
              s = was.encoded.s;
              config_is = was.encoded.config_is;
              coherent = was.encoded.coherent;
              encodes = was.encoded.encodes;
              stands = subst (λ l. IsFor (without_failed l) was.encoded.s) (sym front) was.encoded.stands;
            };
            shows = was.shows;
          };
    }

pub all_seen_later : (config : Fields) (from : ℕ) (h g : History) → (added : History) × (g ≡ h ++ added) → (old new : Seen) → Continues old new → (told : List (ℕ × Look)) → All (IsSeen config from h old) told → All (IsSeen config from g new) told
all_seen_later config from h g grows old new calls = All-weaker (IsSeen config from h old) (IsSeen config from g new) (seen_later config from h g grows old new calls)
