-- What a crash leaves, by the calls that are kept.
use Rattle.std.proofs.Common.{◌≡◌, ◌+◌, ◌-◌, ℕ, Bool, true, false, List, [], ◌∷◌, ◌++◌, length, take, drop, Some, None, refl, sym, ap, subst, ◌∙◌, arith, length-drop}
use Rattle.std.specs.Prelude.{◌≢◌, reverse, replicate, Option, IsSomeAnd, unwrap_or}
use Rattle.std.specs.List.{fold}
use Rattle.std.proofs.lemmas.List.{take-append-drop, drop_at, length-take, length-reverse, reverse-append}
use Rattle.lethe_disk.specs.Directory.{Directory, object}
use Rattle.lethe_memdisk.specs.Bytes.{IsRange}
use Rattle.lethe_memdisk.specs.Effects.{Effect, Created, Written, apply, after, torn, crashed}
use Rattle.lethe_memdisk.specs.declared.past.Call.{Call}
use Rattle.lethe_memdisk.specs.declared.past.Call.TheVariants.{Create, Write, Byte, Remove, Sync, Nothing as Unchanged}
use Rattle.lethe_memdisk.specs.Undo.{undone, effect_of, Fits, start_of, effects_of, Follows, torn_call, tear, HasNoSync, IsAtSync}
use Rattle.lethe_memdisk.specs.Past.{kept_of, left_of}
use Rattle.lethe_memdisk.proofs.Undoing.{after_effects, length-effects_of}

-- Two parts of the calls

pub follows_split : (now : Directory) (late early : List Call) → Follows now (late ++ early) → Follows now late × Follows (start_of now late) early
follows_split now [] early follows = (tt, follows)
follows_split now (call ∷ late) early follows =
    let rest = follows_split (undone call now) late early follows.2 in
    ((follows.0, follows.1, rest.0), rest.1)

pub start_split : (now : Directory) (late early : List Call) → start_of now (late ++ early) ≡ start_of (start_of now late) early
start_split now [] early = refl
start_split now (call ∷ late) early = start_split (undone call now) late early

effects_split : (now : Directory) (late early : List Call) → effects_of now (late ++ early) ≡ effects_of now late ++ effects_of (start_of now late) early
effects_split now [] early = refl
effects_split now (call ∷ late) early = ap (λ l. effect_of call now ∷ l) (effects_split (undone call now) late early)

-- One call

range_len : (at len before : ℕ) (o : Option (List ℕ)) → IsSomeAnd o (λ bytes. IsRange at len before (length bytes)) → length (take len (drop at (unwrap_or o []))) ≡ len
range_len at len before None fits = absurd fits
range_len at len before (Some bytes) fits = omega (arith, length-take len (drop at bytes), length-drop at bytes, fits.inside)

made_len : (len : ℕ) (o : Option (List ℕ)) → IsSomeAnd o (λ bytes. length bytes ≡ len) → length (unwrap_or o []) ≡ len
made_len len None fits = absurd fits
made_len len (Some bytes) fits = fits

torn_effect : (fill : ℕ) (keep : Bool) (call : Call) (now : Directory) → Fits call now → torn fill keep (effect_of call now) ≡ torn_call fill keep call
torn_effect fill true (Create name len) now fits = ap (λ n. Created name (replicate n fill)) (made_len len (object now name) fits)
torn_effect fill false (Create name len) now fits = refl
torn_effect fill keep (Write name at len before) now fits = ap (λ n. Written name at (replicate n fill)) (range_len at len (length before.items) (object now name) fits)
torn_effect fill keep (Byte name at before) now fits = ap (λ n. Written name at (replicate n fill)) (range_len at 1 1 (object now name) fits)
torn_effect fill true (Remove name before) now fits = refl
torn_effect fill false (Remove name before) now fits = refl
torn_effect fill keep Sync now fits = refl
torn_effect fill keep Unchanged now fits = refl

crashed_more : (fill : ℕ) (keep : Bool) (start : Directory) (call : Call) (now : Directory) (effects : List Effect) → call ≢ Sync
    → crashed fill keep start (effect_of call now ∷ effects) ≡ apply (torn fill keep (effect_of call now)) (crashed fill keep start effects)
crashed_more fill keep start (Create name len) now effects other = refl
crashed_more fill keep start (Write name at len before) now effects other = refl
crashed_more fill keep start (Byte name at before) now effects other = refl
crashed_more fill keep start (Remove name before) now effects other = refl
crashed_more fill keep start Sync now effects other = absurd (other refl)
crashed_more fill keep start Unchanged now effects other = refl

crashed_at_sync : (fill : ℕ) (keep : Bool) (start now : Directory) (calls : List Call) → IsAtSync calls → crashed fill keep start (effects_of now calls) ≡ after start (effects_of now calls)
crashed_at_sync fill keep start now [] at = refl
crashed_at_sync fill keep start now (call ∷ earlier) at = subst (λ c. crashed fill keep start (effects_of now (c ∷ earlier)) ≡ after start (effects_of now (c ∷ earlier))) (sym at) refl

-- The calls behind the last sync

HasNoSync-push : (calls : List Call) (call : Call) → HasNoSync calls → call ≢ Sync → HasNoSync (calls ++ call ∷ [])
HasNoSync-push [] call none other = (other, tt)
HasNoSync-push (first ∷ calls) call none other = (none.0, HasNoSync-push calls call none.1 other)

reverse_cons : (call : Call) (calls : List Call) → reverse (call ∷ calls) ≡ reverse calls ++ call ∷ []
reverse_cons call calls = reverse-append (call ∷ []) calls

HasNoSync-reverse : (calls : List Call) → HasNoSync calls → HasNoSync (reverse calls)
HasNoSync-reverse [] none = tt
HasNoSync-reverse (call ∷ calls) none = subst HasNoSync (sym (reverse_cons call calls)) (HasNoSync-push (reverse calls) call (HasNoSync-reverse calls none.1) none.0)

-- done to what was before them, the latest last
torn_back : ℕ → Bool → Directory → List Call → Directory
torn_back fill keep base [] = base
torn_back fill keep base (call ∷ earlier) = tear fill keep (torn_back fill keep base earlier) call

torn_back-push : (fill : ℕ) (keep : Bool) (base : Directory) (calls : List Call) (call : Call) → torn_back fill keep base (calls ++ call ∷ []) ≡ torn_back fill keep (tear fill keep base call) calls
unfolding torn_back
torn_back-push fill keep base [] call = refl
torn_back-push fill keep base (late ∷ calls) call = ap (λ d. tear fill keep d late) (torn_back-push fill keep base calls call)

fold-torn : (fill : ℕ) (keep : Bool) (base : Directory) (calls : List Call) → fold (tear fill keep) base calls ≡ torn_back fill keep base (reverse calls)
unfolding torn_back
fold-torn fill keep base [] = refl
fold-torn fill keep base (call ∷ calls) =
    fold-torn fill keep (tear fill keep base call) calls ∙ sym (torn_back-push fill keep base (reverse calls) call) ∙ ap (torn_back fill keep base) (sym (reverse_cons call calls))

torn_crashed : (fill : ℕ) (keep : Bool) (start now : Directory) (late early : List Call) → Follows now late → HasNoSync late
    → torn_back fill keep (crashed fill keep start (effects_of (start_of now late) early)) late ≡ crashed fill keep start (effects_of now (late ++ early))
unfolding torn_back
torn_crashed fill keep start now [] early follows none = refl
torn_crashed fill keep start now (call ∷ late) early follows none =
    let effects = effects_of (undone call now) (late ++ early) in
    ap (λ d. tear fill keep d call) (torn_crashed fill keep start (undone call now) late early follows.2 none.1)
    ∙ ap (λ e. apply e (crashed fill keep start effects)) (sym (torn_effect fill keep call now follows.0))
    ∙ sym (crashed_more fill keep start call now effects none.0)

-- All of it

-- the calls in three parts: up to the last sync, up to the crash, and behind it
pub record InParts (calls synced unsynced later : List Call) : Type 0 where
  pub parts : reverse calls ≡ reverse later ++ (reverse unsynced ++ reverse synced)
  pub at_sync : IsAtSync (reverse synced)
  pub no_sync : HasNoSync unsynced

pub in_parts : (calls front later synced unsynced : List Call) (n s : ℕ) → front ≡ take n calls → later ≡ drop n calls → synced ≡ take s front → unsynced ≡ drop s front → IsAtSync (reverse (take s front)) → HasNoSync (drop s front)
    → InParts calls synced unsynced later
in_parts calls front later synced unsynced n s front_is later_is synced_is unsynced_is at none =
    let whole : calls ≡ front ++ later = sym (take-append-drop n calls) ∙ ap (λ l. l ++ drop n calls) (sym front_is) ∙ ap (λ l. front ++ l) (sym later_is) in
    let inner : front ≡ synced ++ unsynced = sym (take-append-drop s front) ∙ ap (λ l. l ++ drop s front) (sym synced_is) ∙ ap (λ l. synced ++ l) (sym unsynced_is) in
    record {
      parts = ap reverse whole ∙ reverse-append front later ∙ ap (λ l. reverse later ++ l) (ap reverse inner ∙ reverse-append synced unsynced);
      at_sync = subst (λ l. IsAtSync (reverse l)) (sym synced_is) at;
      no_sync = subst HasNoSync (sym unsynced_is) none;
    }

pub follows_later : (now : Directory) (calls synced unsynced later : List Call) → InParts calls synced unsynced later → Follows now (reverse calls) → Follows now (reverse later)
follows_later now calls synced unsynced later p follows = (follows_split now (reverse later) (reverse unsynced ++ reverse synced) (subst (Follows now) p.parts follows)).0

pub follows_unsynced : (now : Directory) (calls synced unsynced later : List Call) → InParts calls synced unsynced later → Follows now (reverse calls) → Follows (start_of now (reverse later)) (reverse unsynced) × Follows (start_of (start_of now (reverse later)) (reverse unsynced)) (reverse synced)
follows_unsynced now calls synced unsynced later p follows =
    follows_split (start_of now (reverse later)) (reverse unsynced) (reverse synced) (follows_split now (reverse later) (reverse unsynced ++ reverse synced) (subst (Follows now) p.parts follows)).1

pub crash_leaves : (fill : ℕ) (keep : Bool) (now : Directory) (calls synced unsynced later : List Call) (n room : ℕ) → InParts calls synced unsynced later → Follows now (reverse calls) → n + length later ≡ length calls
    → fold (tear fill keep) (start_of (start_of now (reverse later)) (reverse unsynced)) unsynced ≡ left_of n fill keep (kept_of now calls room)
crash_leaves fill keep now calls synced unsynced later n room p follows long =
    let start = start_of now (reverse calls) in
    let effects = effects_of now (reverse calls) in
    let then = start_of now (reverse later) in
    let base = start_of then (reverse unsynced) in
    let both = follows_unsynced now calls synced unsynced later p follows in
    let from_start : start_of base (reverse synced) ≡ start =
    sym (start_split then (reverse unsynced) (reverse synced)) ∙ sym (start_split now (reverse later) (reverse unsynced ++ reverse synced)) ∙ ap (start_of now) (sym p.parts) in
    let at_base : base ≡ crashed fill keep start (effects_of base (reverse synced)) =
    sym (after_effects base (reverse synced) both.1) ∙ ap (λ d. after d (effects_of base (reverse synced))) from_start ∙ sym (crashed_at_sync fill keep start base (reverse synced) p.at_sync) in
    let split : effects ≡ effects_of now (reverse later) ++ effects_of then (reverse unsynced ++ reverse synced) =
    ap (effects_of now) p.parts ∙ effects_split now (reverse later) (reverse unsynced ++ reverse synced) in
    let behind : length (effects_of now (reverse later)) ≡ length effects - n =
    let a = length-effects_of now (reverse later) ∙ length-reverse later in
    let b = length-effects_of now (reverse calls) ∙ length-reverse calls in
    omega (arith, a, b, long) in
    let cut : drop (length effects - n) effects ≡ effects_of then (reverse unsynced ++ reverse synced) =
    ap (drop (length effects - n)) split ∙ drop_at (effects_of now (reverse later)) _ (length effects - n) behind in
    fold-torn fill keep base unsynced
    ∙ ap (λ d. torn_back fill keep d (reverse unsynced)) at_base
    ∙ torn_crashed fill keep start then (reverse unsynced) (reverse synced) both.0 (HasNoSync-reverse unsynced p.no_sync)
    ∙ ap (crashed fill keep start) (sym cut)
