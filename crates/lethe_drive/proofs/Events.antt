-- Events of a run, of jobs of earlier rounds too.
use Rattle.std.proofs.Common.{◌≡◌, ◌⊎◌, inl, inr, ◌<◌, ◌≤◌, ◌+◌, ℕ, List, [], ◌∷◌, ◌++◌, Option, Some, None, refl, sym, ap, ◌∙◌, append-nil, subst, arith}
use Rattle.std.specs.Prelude.{IfSome, option_map}
use Rattle.std.proofs.lemmas.List.Elements.{All-push, All-weaker}
use Rattle.std.proofs.lemmas.Option.{none-some, same_Some}
use Rattle.lethe_base.specs.History.{History}
use Rattle.lethe_disk.specs.declared.disk.Disk.{Ghosts}
use Rattle.lethe_core.specs.Jobs.{IsInFlight}
use Rattle.lethe_core.specs.View.{View}
use Rattle.lethe_drive.specs.Driving.{IsTheirs}
use Rattle.lethe_drive.specs.Moments.{Going, going_of, there_of}
use Rattle.lethe_drive.specs.Past.{AreEarlier, IsNoneOf, IsPastGivenUp, IsPastRefused, IsRoundEnded, IsRoundKept, IsTickAsked, Run, all_left, left_of, named_by}
use Rattle.lethe_drive.specs.Steps.{IsEvent, IsStep}
use Rattle.lethe_drive.specs.declared.event.Event.{Event}
use Rattle.lethe_drive.specs.declared.event.Event.TheVariants.{Put, Delete, Erase, Tick, Get, Scan, Freeze, Flush, Begin, WriteOut, Install, Cancel, Pin, Release}
use Rattle.lethe_drive.specs.declared.event.Reply.{Reply}
use Rattle.lethe_drive.specs.declared.jobs.Jobs.{Jobs}
use Rattle.lethe_drive.specs.declared.jobs.Numbered.{Numbered}
use Rattle.lethe_drive.specs.declared.past.Past.{Past}

-- By the job that an event names

same_named : (job number : ℕ) → ◌≡◌ {A = Option ℕ} (Some job) (Some number) → number ≡ job
same_named job number is = sym (same_Some job number is)

module _ (PortsFail : Type 0) (h : History) (old : Run) (reply : Reply) (g : History) (new : Run) where
  module _ (number : ℕ) where
    -- one of an earlier round was given up
    pub cancel_event : (event : Event) (job : ℕ) → event ≡ Cancel job → named_by event ≡ Some number → IsPastGivenUp number h old reply g new → IsEvent PortsFail h old event reply g new
    cancel_event event job is named given =
        let same : number ≡ job = same_named job number (sym (ap named_by is) ∙ named) in
        subst (λ (event : Event). IsEvent PortsFail h old event reply g new) (sym is) (inl (subst (λ (n : ℕ). IsPastGivenUp n h old reply g new) same given))

    -- one was to go on
    pub refused_event : (event : Event) → ((job : ℕ) → event ≡ Cancel job → ⊥) → named_by event ≡ Some number → IsPastRefused number h old reply g new → IsEvent PortsFail h old event reply g new
    refused_event (WriteOut job) other named refused = inl (subst (λ (n : ℕ). IsPastRefused n h old reply g new) (same_named job number named) refused)
    refused_event (Install job) other named refused = inl (subst (λ (n : ℕ). IsPastRefused n h old reply g new) (same_named job number named) refused)
    refused_event (Cancel job) other named refused = absurd (other job refl)
    refused_event (Put key dkey value) other named refused = absurd (none-some number named)
    refused_event (Delete key) other named refused = absurd (none-some number named)
    refused_event (Erase range) other named refused = absurd (none-some number named)
    refused_event (Tick to) other named refused = absurd (none-some number named)
    refused_event (Get key) other named refused = absurd (none-some number named)
    refused_event (Scan lo hi) other named refused = absurd (none-some number named)
    refused_event Freeze other named refused = absurd (none-some number named)
    refused_event Flush other named refused = absurd (none-some number named)
    refused_event Begin other named refused = absurd (none-some number named)
    refused_event Pin other named refused = absurd (none-some number named)
    refused_event (Release pin) other named refused = absurd (none-some number named)

  -- the round goes on, or ends by a tick
  abbrev pub Goes : Event → Type 0
  Goes event = IsRoundKept old new ⊎ (IsTickAsked event × IsRoundEnded old new)

  -- it names none of them, or no job
  pub present_event : (event : Event) → ((number : ℕ) → named_by event ≡ Some number → IsNoneOf number old.past) → IsStep PortsFail h old.now event reply g new.now → Goes event → IsEvent PortsFail h old event reply g new
  present_event (WriteOut job) none step (inl kept) = inr (none job refl, (step, kept))
  present_event (Install job) none step (inl kept) = inr (none job refl, (step, kept))
  present_event (Cancel job) none step (inl kept) = inr (none job refl, (step, kept))
  present_event (Tick to) none step (inl kept) = (step, inl kept)
  present_event (Put key dkey value) none step (inl kept) = (step, kept)
  present_event (Delete key) none step (inl kept) = (step, kept)
  present_event (Erase range) none step (inl kept) = (step, kept)
  present_event (Get key) none step (inl kept) = (step, kept)
  present_event (Scan lo hi) none step (inl kept) = (step, kept)
  present_event Freeze none step (inl kept) = (step, kept)
  present_event Flush none step (inl kept) = (step, kept)
  present_event Begin none step (inl kept) = (step, kept)
  present_event Pin none step (inl kept) = (step, kept)
  present_event (Release pin) none step (inl kept) = (step, kept)
  present_event (Tick to) none step (inr ended) = (step, inr ended.1)
  present_event (WriteOut job) none step (inr ended) = absurd ended.0
  present_event (Install job) none step (inr ended) = absurd ended.0
  present_event (Cancel job) none step (inr ended) = absurd ended.0
  present_event (Put key dkey value) none step (inr ended) = absurd ended.0
  present_event (Delete key) none step (inr ended) = absurd ended.0
  present_event (Erase range) none step (inr ended) = absurd ended.0
  present_event (Get key) none step (inr ended) = absurd ended.0
  present_event (Scan lo hi) none step (inr ended) = absurd ended.0
  present_event Freeze none step (inr ended) = absurd ended.0
  present_event Flush none step (inr ended) = absurd ended.0
  present_event Begin none step (inr ended) = absurd ended.0
  present_event Pin none step (inr ended) = absurd ended.0
  present_event (Release pin) none step (inr ended) = absurd ended.0

  -- Whether the round ends, by what the call says of that

  module _ (event : Event) (rounds : (new.now.rounds ≡ old.now.rounds) ⊎ (IsTickAsked event × (new.now.rounds ≡ old.now.rounds + 1) × (new.now.there ≡ None))) where
    pub kept_event : new.now.rounds ≤ old.now.rounds → new.past ≡ old.past → Goes event
    kept_event few past = elim rounds [ inl kept ↦ inl (record { rounds = kept; past = past }) | inr ended ↦ let more = ended.1 in absurd (omega (arith, few, more)) ]

    pub ended_event : old.now.rounds < new.now.rounds → new.past ≡ old.past ++ all_left old.now.there → Goes event
    ended_event many past = elim rounds [ inl kept ↦ absurd (omega (arith, many, kept)) | inr ended ↦ inr (ended.0, record { rounds = ended.1; there = ended.2; past = past }) ]

-- What is left where a round ends

nothing_left : (there : Option Going) → option_map left_of there ≡ None → all_left there ≡ []
nothing_left None is = refl
nothing_left (Some going) is = absurd (none-some (left_of going) (sym is))

one_left : (there : Option Going) (job : Past) → option_map left_of there ≡ Some job → all_left there ≡ job ∷ []
one_left None job is = absurd (none-some job is)
one_left (Some going) job is = ap (λ (job : Past). job ∷ []) (same_Some (left_of going) job is)

module _ (there : Option Going) (left : Option Past) (is : left ≡ option_map left_of there) (past : List Past) where
  pub left_none : left ≡ None → past ≡ past ++ all_left there
  left_none none = sym (append-nil past) ∙ ap (λ (l : List Past). past ++ l) (sym (nothing_left there (sym is ∙ none)))

  pub left_some : (job : Past) → left ≡ Some job → past ++ job ∷ [] ≡ past ++ all_left there
  left_some job some = ap (λ (l : List Past). past ++ l) (sym (one_left there job (sym is ∙ some)))

-- Jobs of earlier rounds

pub still_earlier : (old new : ℕ) (past : List Past) → old ≤ new → AreEarlier old past → AreEarlier new past
still_earlier old new past more = All-weaker (λ (job : Past). job.round < old) (λ (job : Past). job.round < new) (λ job earlier. omega (arith, earlier, more)) past

-- the job that is there was begun in the present round
left_round : {D Page Port : Type 0} {kind : Ghosts D Page Port} (view : View) (there : Option (Numbered D Page Port kind)) → IfSome there (λ numbered. IsInFlight view numbered.job) → (job : Past)
    → option_map left_of (option_map (λ (numbered : Numbered D Page Port kind). going_of numbered.number numbered.job) there) ≡ Some job → job.round ≡ view.rounds
left_round view None flies job is = absurd (none-some job is)
left_round view (Some numbered) flies job is = ap (λ (job : Past). job.round) (sym (same_Some (left_of (going_of numbered.number numbered.job)) job is)) ∙ flies.round

pub one_earlier : {D Page Port : Type 0} {kind : Ghosts D Page Port} (Tells : Type 0) (view : View) (jobs : Jobs D Page Port kind) → IsTheirs Tells view jobs → (left : Option Past) → left ≡ option_map left_of (there_of jobs)
    → (job : Past) → left ≡ Some job → (past : List Past) → AreEarlier view.rounds past → (rounds : ℕ) → view.rounds < rounds → AreEarlier rounds (past ++ job ∷ [])
one_earlier Tells view jobs is left left_is job some past earlier rounds more =
    let round = left_round view jobs.there is.flies job (sym left_is ∙ some) in
    All-push (λ (job : Past). job.round < rounds) past job (still_earlier view.rounds rounds past (omega (arith, more)) earlier) (omega (arith, more, round))
