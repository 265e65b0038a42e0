-- Pins that a run makes and lets go.
use Rattle.std.proofs.Common.{◌≡◌, ◌≢◌, ◌↔◌, ◌⊎◌, ◌<◌, ℕ, ◌+◌, List, [], ◌∷◌, ◌++◌, All, Option, Result, Ok, Err, length, get_or, refl, sym, ap, ◌∙◌, subst}
use Rattle.std.specs.Prelude.{Contains}
use Rattle.std.proofs.lemmas.List.{map-append}
use Rattle.std.proofs.lemmas.List.Elements.{All-contains}
use Rattle.lethe_base.specs.History.{History}
use Rattle.lethe_base.specs.Limits.{max_place}
use Rattle.lethe_base.specs.declared.config.Fields.{Fields}
use Rattle.lethe_base.specs.declared.refused.Refused.{Refused}
use Rattle.lethe_base.specs.declared.refused.Refused.TheVariants.{Exhausted, NoMemory}
use Rattle.lethe_bound.specs.Limits.{IsLimit}
use Rattle.lethe_cover.proofs.Lists.{map_from}
use Rattle.lethe_disk.specs.declared.disk.Disk.{Ghosts}
use Rattle.lethe_pins.specs.Held.{Held, without}
use Rattle.lethe_snapshot.specs.declared.snapshot.Snapshot.{Snapshot}
use Rattle.lethe_stored.specs.Stored.{Stored, layout_of}
use Rattle.lethe_state.specs.Remembered.{Remembers}
use Rattle.lethe_core.specs.Pins.{IsPinOf}
use Rattle.lethe_core.specs.Running.{Holds}
use Rattle.lethe_core.specs.View.{View}
use Rattle.lethe_core.proofs.Pinned.{page_stored, stored_page}
use Rattle.lethe_drive.specs.Moments.{Going, IsKnown, Moment, moment_of, numbers_of}
use Rattle.lethe_drive.specs.Pins.{IsPin, IsReleased, released}
use Rattle.lethe_drive.specs.declared.event.Reply.TheVariants as reply
use Rattle.lethe_drive.proofs.Among.{among, back, front}
use Rattle.lethe_drive.proofs.Knowing.{ok_or_err}

-- what is known of a store stays where its pins alone change
pub known_pinned : (config : Fields) (h : History) (old new : View) (s : Stored) (pins : Held) → new ≡ record old { pins = pins } → (Holds old s → Holds new s) → IsKnown config h old s → IsKnown config h new s
known_pinned config h old new s pins same held known = record {
  config_is = known.config_is;
  stands = known.stands;
  remembers = subst (λ (view : View). Remembers s view.state view.levels) (sym same) known.remembers;
  held = λ runs. held (known.held (sym (ap (λ (view : View). view.state.stopped) same) ∙ runs));
}

module _ (h : History) (old new : View) (s : Stored) (fetches faults begun : ℕ) (there : Option Going) (snapshots : List ℕ) where
  abbrev before : Moment
  before = moment_of old s fetches faults begun there snapshots

  abbrev later : List ℕ → Moment
  later next = moment_of new s fetches faults begun there next

  -- nothing but the pins changes
  all_but : (pins : Held) → new ≡ record old { pins = pins } → (next : List ℕ) → later next ≡ record before { pins = pins; snapshots = next }
  all_but pins same next = ap (λ (view : View). moment_of view s fetches faults begun there next) same

  -- one was made
  pub has_pinned : (number limit : ℕ) → number ≡ old.pins.made + 1 → Remembers s old.state old.levels → IsLimit s.manifest.config.threshold (layout_of s) limit → IsPinOf old new number limit
      → new ≡ record old { pins = new.pins } → (old.pins.made ≡ max_place → ⊥) → (next : List ℕ) → next ≡ snapshots ++ number ∷ [] → IsPin h before (Ok number) h (later next)
  has_pinned number limit number_is remembers limit_is pin same few next pushed = record {
    history = refl;
    answers = record {
      number_is = number_is;
      names = pin.names;
      pages = λ name. (
        λ named. page_stored s remembers.coherent old.levels remembers.files name ((pin.pages name).0 named),
        λ paged. (pin.pages name).1 (stored_page s remembers.coherent old.levels remembers.files name paged),
      );
      limit = limit;
      limit_is = limit_is;
      pins = pin.is;
      snapshots = pushed;
    };
    last = (λ e. absurd (ok_or_err number (Exhausted max_place) e), λ full. absurd (few full));
    same = all_but new.pins same next;
  }

  -- none was
  pub not_pinned : (why : Refused) → (why ≡ Exhausted max_place) ⊎ (why ≡ NoMemory) → new ≡ old → new ≡ record old { pins = new.pins } → ◌↔◌ (why ≡ Exhausted max_place) (old.pins.made ≡ max_place)
      → IsPin h before (Err why) h (later snapshots)
  not_pinned why cause same but full = record {
    history = refl;
    answers = (cause, ap (λ (view : View). moment_of view s fetches faults begun there snapshots) same);
    last = (λ e. full.0 (let both : ◌≡◌ {A = Result ℕ Refused} (Err why) (Err (Exhausted max_place)) = e in cc), λ made. (λ i. Err (full.1 made i)));
    same = all_but new.pins but snapshots;
  }

  -- one was let go
  pub has_released : (number : ℕ) (front back : List ℕ) → snapshots ≡ front ++ number ∷ back → new ≡ record old { pins = record old.pins { pins = without number old.pins.pins } }
      → (next : List ℕ) → next ≡ front ++ back → IsReleased number h before reply.Unit h (later next)
  has_released number front back among same next gone = record {
    front = front;
    back = back;
    among = among;
    is = refl;
    history = refl;
    moment = all_but (record old.pins { pins = without number old.pins.pins }) same next ∙ (λ i. record before { pins = record old.pins { pins = without number old.pins.pins }; snapshots = gone i });
  }

-- By its number

abbrev pub number_of : {D Page Port : Type 0} {kind : Ghosts D Page Port} → Snapshot D Page Port kind → ℕ
number_of snapshot = snapshot.pin.number

module _ {D Page Port : Type 0} {kind : Ghosts D Page Port} (items : List (Snapshot D Page Port kind)) where
  -- there is none
  pub none_of : (number : ℕ) → All (λ snapshot. number_of snapshot ≢ number) items → Contains (numbers_of items) number → ⊥
  none_of number none there =
      let found = map_from number_of items number there in
      All-contains (λ snapshot. number_of snapshot ≢ number) items found.0 none found.1 found.2

  -- with one more
  pub pushed_numbers : (snapshot : Snapshot D Page Port kind) → numbers_of (items ++ snapshot ∷ []) ≡ numbers_of items ++ snapshot.pin.number ∷ []
  pushed_numbers snapshot = map-append number_of items (snapshot ∷ [])

  -- one among the others
  pub among_numbers : (place : ℕ) (within : place < length items) (snapshot : Snapshot D Page Port kind) → snapshot ≡ get_or items place snapshot
      → numbers_of items ≡ numbers_of (front items place within) ++ snapshot.pin.number ∷ numbers_of (back items place within)
  among_numbers place within snapshot is = ap numbers_of (among items place within snapshot is) ∙ map-append number_of (front items place within) (snapshot ∷ back items place within)

  -- without it
  pub left_numbers : (place : ℕ) (within : place < length items) (left : List (Snapshot D Page Port kind)) → left ≡ front items place within ++ back items place within
      → numbers_of left ≡ numbers_of (front items place within) ++ numbers_of (back items place within)
  left_numbers place within left is = ap numbers_of is ∙ map-append number_of (front items place within) (back items place within)

-- All are let go

-- the store behind that
abbrev pub let_go : List ℕ → View → View
let_go numbers view = record view { pins = record view.pins { pins = released numbers view.pins.pins } }
