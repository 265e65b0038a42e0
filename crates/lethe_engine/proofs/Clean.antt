-- A store that takes changes has a directory that is clean for its history.
use Rattle.std.proofs.Common.{◌≡◌, ◌⊎◌, inl, inr, ℕ, ◌+◌, List, [], ◌∷◌, None, refl, sym, ap, subst, arith}
use Rattle.std.specs.Prelude.{All}
use Rattle.std.proofs.lemmas.List.Elements.{All-append, All-contains, All-map, All-weaker}
use Rattle.lethe_base.specs.Causes.{IsOverdue}
use Rattle.lethe_base.specs.History.{History, after}
use Rattle.lethe_base.specs.Matching.{IsPut}
use Rattle.lethe_base.specs.declared.config.Fields.{Fields}
use Rattle.lethe_base.specs.declared.entry.Entry.{Entry}
use Rattle.lethe_base.specs.declared.name.Kind.TheVariants.{Page}
use Rattle.lethe_base.specs.declared.name.Name.{Name}
use Rattle.lethe_bound.specs.Limits.{IsBounded}
use Rattle.lethe_bound.proofs.Bounds.{bounded_timely}
use Rattle.lethe_cover.proofs.Common.{first_is}
use Rattle.lethe_cover.proofs.Lists.{all_from}
use Rattle.lethe_disk.specs.Directory.{content}
use Rattle.lethe_stored.specs.Clean.{IsClean}
use Rattle.lethe_clean.specs.Copied.{IsCopied, IsTimely}
use Rattle.lethe_clean.proofs.Spelled.{stored_clean}
use Rattle.lethe_core.specs.Pinned.{IsPageUntil}
use Rattle.lethe_core.specs.StandsNow.{StandsNow}
use Rattle.lethe_core.specs.View.{View, beside_in, loose_in, named_in}
use Rattle.lethe_core.proofs.Copying.{loose_copied}
use Rattle.lethe_core.proofs.Standing.{stands_for, stands_holds}

-- a page of which nothing is overdue before the next time isn't overdue now
until_timely : (threshold time : ℕ) (h : History) (name : Name) (bytes : List ℕ) → name.kind ≡ Page → IsPageUntil threshold (time + 1) h bytes → IsTimely threshold time h (name, bytes)
until_timely threshold time h name bytes page is = record {
  page = page;
  entries = is.entries;
  spelled = is.spelled;
  placed = is.placed;
  timely = All-weaker (λ (entry : Entry). IsPut entry.body → IsBounded threshold (time + 1) h (entry.seq ∷ [])) (λ (entry : Entry). IsPut entry.body → IsOverdue threshold h time entry.seq → ⊥)
      (λ entry bounded put. bounded_timely threshold (time + 1) time h (entry.seq ∷ []) (bounded put) (omega arith) entry.seq (first_is entry.seq [] entry.seq refl)) is.entries is.bounded;
}

pub now_clean : (config : Fields) (h : History) (view : View) → All (λ name. name.kind ≡ Page) view.retired → StandsNow config h view → view.state.stopped ≡ None
    → IsClean config.threshold view.disk.directory h (after h).clock
now_clean config h view pages stands runs =
    let s = stands.stored in
    let holds = stands_holds config h view stands runs in
    let running = holds.running in
    let d = view.disk.directory in
    let threshold = s.manifest.config.threshold in
    let same : threshold ≡ config.threshold = ap (λ (fields : Fields). fields.threshold) stands.config_is in
    let left = subst (λ n. All (λ (name : Name). IsPageUntil n ((after h).clock + 1) h (content d name)) view.retired) (sym same) (stands.timely runs).left in
    let Fine = λ (named : Name × List ℕ). IsCopied s named ⊎ IsTimely threshold (after h).clock h named in
    let retired : All Fine (named_in d view.retired) = All-map Fine (λ (name : Name). (name, content d name)) view.retired (all_from (λ (name : Name). Fine (name, content d name)) view.retired (λ name there.
    inr (until_timely threshold (after h).clock h name (content d name) (All-contains (λ (name : Name). name.kind ≡ Page) view.retired name pages there)
    (All-contains (λ (name : Name). IsPageUntil threshold ((after h).clock + 1) h (content d name)) view.retired name left there)))) in
    let job : All Fine (loose_in view.flights) = All-weaker (IsCopied s) Fine (λ named copied. inl copied) (loose_in view.flights) (loose_copied view s running holds.remembers.coherent) in
    subst (λ n. IsClean n d h (after h).clock) same
    (stored_clean h s holds.remembers.coherent (stands_for config h view stands runs) (beside_in view) d running.settled.encodes running.only running.untorn
    (All-append Fine (named_in d view.retired) (loose_in view.flights) retired job))
