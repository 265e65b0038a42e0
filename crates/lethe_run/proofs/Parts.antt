-- What the named parts of a run's end have in common.
use Rattle.std.proofs.Common.{◌≡◌, ◌⊎◌, ◌≤◌, ◌<◌, ℕ, suc, ◌+◌, ◌-◌, true, false, List, [], ◌∷◌, ◌++◌, length, take, Some, None, IfSome, Result, Ok, Err, inl, inr, refl, sym, ap, ◌∙◌, subst}
use Rattle.std.specs.Prelude.{IsOk, IsErr, Contains, sum_by, is_some}
use Rattle.lethe_base.specs.Counts.{Rose}
use Rattle.lethe_base.specs.Keys.{Bytes}
use Rattle.lethe_base.specs.Limits.{max_place}
use Rattle.lethe_build.specs.Built.{most_numbers}
use Rattle.lethe_base.specs.History.{History}
use Rattle.lethe_base.specs.declared.config.Fields.{Fields}
use Rattle.lethe_stored.specs.Kept.{IsKept}
use Rattle.lethe_disk.specs.Directory.{Directory}
use Rattle.lethe_load.specs.Refused.{HasReason, HasOtherConfig}
use Rattle.lethe_load.specs.declared.refused.RecoverRefused.{RecoverRefused}
use Rattle.lethe_stored.specs.Numbers.{IsNextNumber, KeepsPace}
use Rattle.lethe_stored.proofs.Numbers.{pace_quiet}
use Rattle.lethe_disk.specs.Quiet.{IsQuiet}
use Rattle.lethe_recover.specs.Opening.{IsExhausted}
use Rattle.lethe_recover.specs.declared.opening.OpenWhy.{OpenWhy}
use Rattle.lethe_recover.specs.declared.opening.OpenWhy.TheVariants as open_why
use Rattle.lethe_script.specs.declared.order.Order.{Order}
use Rattle.lethe_script.specs.Grammar.{script_of}
use Rattle.lethe_run.specs.declared.reply.Line.{Line}
use Rattle.lethe_run.specs.Asked.{config_of}
use Rattle.lethe_run.specs.Ends.{Carries, Run, Asks, IsCommand, IsUnused, IsUnbegun, IsAsked, OnLeft, OnScript, IsNotOpened, IsOpenFault, StoppedInside, script_ends}
use Rattle.lethe_run.specs.Transcript.{most_of_a_change}
use Rattle.lethe_run.proofs.Ending.{some_then, some_now}
use Rattle.lethe_run.proofs.Calm.{true_false, must_open}

ok_no_err : {T E : Type 0} (r : Result T E) (x : T) → r ≡ Ok x → IsErr r → ⊥
ok_no_err (Ok y) x e is = cc
ok_no_err (Err y) x e is = cc

pub err_no_ok : {T E : Type 0} (r : Result T E) (x : E) → r ≡ Err x → IsOk r → ⊥
err_no_ok (Ok y) x e is = cc
err_no_ok (Err y) x e is = cc

-- what is kept for a history has a next number
pub has_next : (config : Fields) (h : History) (d : Directory) → IsKept config d h → (next : ℕ) × IsNextNumber d next
has_next config h d (inl none) = (3, inl (none.0, refl))
has_next config h d (inr kept) = (kept.s.manifest.next, inr (kept.s, kept.coherent, kept.encodes, refl))

module _ (run : Run) where
  -- the words ask for one configuration
  pub for_asked : (P : Fields → Type 0) (config : Fields) → Asks run config → P config → (other : Fields) → Asks run other → P other
  for_asked P config asks p other too = let both : Some config ≡ Some other = sym asks ∙ too in let same : config ≡ other = cc in subst P same p

  pub asked : {T : Type 0} (config : Fields) → Asks run config → config_of run.words ≡ None → T
  asked config asks none = let both : Some config ≡ None = sym asks ∙ none in absurd cc

  pub commanded : {T : Type 0} → IsCommand run → config_of run.words ≡ None → T
  commanded command none = let both : true ≡ false = sym command ∙ ap is_some none in absurd (true_false true refl both)

  abbrev pub Shown : ℕ → Fields → Type 0
  Shown n config = run.Tells → (why : RecoverRefused) → HasReason config run.start.directory why → IsQuiet run.start run.finish × (n ≡ 0 → ⊥) × (n ≡ 6 → IsOpenFault run config)

  abbrev Quiet : Fields → Type 0
  Quiet config = run.Tells → (why : RecoverRefused) → HasReason config run.start.directory why → IsQuiet run.start run.finish

  abbrev Paces : Type 0
  Paces = OnLeft run (λ kept left change. (first : ℕ) → KeepsPace first run.start.moment run.start.moment run.start → KeepsPace first run.start.moment run.start.moment run.finish)

  abbrev Completes : ℕ → Fields → List (List Order) → Type 0
  Completes n config phases = OnLeft run (λ kept left change.
      ((other : Fields) → HasOtherConfig config run.start.directory other → ⊥) → (IsExhausted run.start.directory → ⊥)
      → ((next : ℕ) → IsNextNumber run.start.directory next
      → next + (run.finish.moment - run.start.moment) + most_of_a_change + most_numbers (length left + 1 + sum_by (λ orders. length orders) phases) < max_place)
      → length left + 1 + sum_by (λ orders. length orders) phases ≤ max_place → n ≡ 0)

  abbrev pub Complete : ℕ → Fields → Type 0
  Complete n config = (run.SourceRose → ⊥) → (run.SinkRose → ⊥) → (Rose run.faults_before run.faults → ⊥) → (run.PortsFail → ⊥) → Contains (3 ∷ 7 ∷ []) n ⊎ OnScript run (Completes n config)

  -- a script's own end with this status
  pub ok_script : (P : List (List Order) → Type 0) → OnScript run P → (n : ℕ) → Contains script_ends n
      → (IsCommand run → IfSome run.source (λ bytes. IsErr (script_of bytes) → Contains (3 ∷ 4 ∷ 5 ∷ 7 ∷ []) n)) × (IsCommand run → IfSome run.source (λ bytes. IsOk (script_of bytes) → Contains script_ends n))
  ok_script P s n among = ((λ words. some_then run.source s.1 (λ bytes p is. absurd (ok_no_err (script_of bytes) s.0 p is))), (λ words. some_now run.source (λ bytes is. among)))

  pub not_opened : (config : Fields) (why : OpenWhy) (n : ℕ) → IsNotOpened run config why → (why ≡ open_why.NoMemory → ⊥) → Complete n config
  not_opened config why n not memory source sink calm ports =
      inr (not.script.0, not.script.1, λ told kept left change l same numbers few room. absurd (must_open run config kept left change told l calm same numbers why not.reason memory))

  -- nothing is touched

  pub quiet_shown : (n : ℕ) → (n ≡ 0 → ⊥) → (n ≡ 6 → ⊥) → (config : Fields) → Quiet config → Shown n config
  quiet_shown n zero six config quiet told why reason = (quiet told why reason, zero, λ is. absurd (six is))

  pub unused_quiet : IsUnused run → (config : Fields) → Quiet config
  unused_quiet unused config told why reason = unused.1

  pub asked_quiet : (text : Bytes) → IsAsked run text → (config : Fields) → Asks run config → Quiet config
  asked_quiet text (inl words) config asks = asked config asks words.0
  asked_quiet text (inr (inl bad)) config asks = unused_quiet bad.2.1 config
  asked_quiet text (inr (inr (inl not))) config asks = for_asked Quiet not.0 not.1 not.3.quiet config asks
  asked_quiet text (inr (inr (inr behind))) config asks = for_asked Quiet behind.0 behind.1 (λ told why reason. absurd (behind.2.sound told why reason)) config asks

  pub memory_quiet : (config : Fields) → IsUnbegun run config ⊎ StoppedInside run config → Quiet config
  memory_quiet config (inl unbegun) = elim unbegun.1 [ inl unused ↦ unused_quiet unused config | inr not ↦ not.quiet ]
  memory_quiet config (inr inside) = λ told why reason. absurd (inside.sound told why reason)

  -- numbers keep pace

  pub unused_paces : IsUnused run → Paces
  unused_paces unused told kept left change l first = pace_quiet first run.start run.finish unused.1

  pub opening_paces : (config : Fields) (why : OpenWhy) → IsNotOpened run config why → Paces
  opening_paces config why not told kept left change l = not.pace told

  pub carries_paces : (config : Fields) (phases : List (List Order)) (lines : List (List Line)) → Carries run config phases lines → Paces
  carries_paces config phases lines carries told kept left change l =
      let next = has_next kept l.now.0 run.start.directory l.now.2 in
      (carries.left told kept left change l next.0 next.1).pace

  pub asked_paces : (text : Bytes) → IsAsked run text → Paces
  asked_paces text (inl words) = unused_paces words.2
  asked_paces text (inr (inl bad)) = unused_paces bad.2.1
  asked_paces text (inr (inr (inl not))) = opening_paces not.0 not.2 not.3
  asked_paces text (inr (inr (inr behind))) = carries_paces behind.0 (take (suc (length behind.2.before)) behind.2.script.0) (behind.2.before ++ behind.2.last ∷ []) behind.2.script.2

  pub memory_paces : (config : Fields) → IsUnbegun run config ⊎ StoppedInside run config → Paces
  memory_paces config (inl unbegun) = elim unbegun.1 [ inl unused ↦ unused_paces unused | inr not ↦ opening_paces config open_why.NoMemory not ]
  memory_paces config (inr inside) = carries_paces config inside.script.2.0 inside.lines inside.script.2.2
