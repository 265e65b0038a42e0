-- A call that is undone, and one that is kept.
use Rattle.std.proofs.Common.{◌≡◌, ◌+◌, ◌≤◌, ◌<◌, ℕ, suc, List, [], ◌∷◌, ◌++◌, length, take, drop, Some, None, Vec, refl, sym, ap, subst, ◌∙◌, inl, inr, arith, length-append, length-drop, append_assoc}
use Rattle.std.specs.Prelude.{reverse, unwrap_or, cond, IsSomeAnd, Option, slice_get}
use Rattle.std.proofs.lemmas.List.{take-append-drop, drop-drop, take_at, drop_at, length-take, length-take-le, reverse-append, drop_more}
use Rattle.std.proofs.lemmas.Option.{slice_get_within, get_or_from_slice_get}
use Rattle.std.proofs.lemmas.Bool.{le-leb}
use Rattle.std.specs.declared.alloc.Global.{Global}
use Rattle.std.specs.FinMap.{insert, remove}
use Rattle.lethe_base.specs.declared.name.Name.{Name}
use Rattle.lethe_disk.specs.Directory.{Directory, object, content, written, write_in}
use Rattle.lethe_disk.proofs.Objects.{name_cases, object_inserted, object_beside_insert, object_removed, object_beside_remove, same_directory, insert_again, written_torn}
use Rattle.lethe_memdisk.specs.Bytes.{restored, IsRange}
use Rattle.lethe_memdisk.specs.Objects.{write_to}
use Rattle.lethe_memdisk.specs.Effects.{Effect, Created, Written, Removed, Synced, Nothing, apply, after}
use Rattle.lethe_memdisk.specs.declared.past.Call.{Call}
use Rattle.lethe_memdisk.specs.declared.past.Call.TheVariants.{Create, Write, Byte, Remove, Sync, Nothing as Unchanged}
use Rattle.lethe_memdisk.specs.Undo.{undone, effect_of, Fits, start_of, effects_of, Follows}

-- Bytes

pub restored_written : (old bytes : List ℕ) (at : ℕ) → at ≤ length old → restored (written old at bytes) at (length bytes) (take (length bytes) (drop at old)) ≡ old
restored_written old bytes at fits =
    let torn = written_torn at bytes old fits in
    let middle = take (length bytes) (drop at old) in
    let rest : drop (at + length bytes) old ≡ drop (length bytes) (drop at old) = sym (drop-drop (length bytes) at old) in
    ap (λ l. l ++ middle ++ drop (at + length bytes) (written old at bytes)) torn.before
    ∙ ap (λ l. take at old ++ middle ++ l) (torn.after ∙ rest)
    ∙ append_assoc (take at old) middle (drop (length bytes) (drop at old))
    ∙ ap (λ l. take at old ++ l) (take-append-drop (length bytes) (drop at old))
    ∙ take-append-drop at old

pub taken_written : (old bytes : List ℕ) (at : ℕ) → at ≤ length old → take (length bytes) (drop at (written old at bytes)) ≡ bytes
taken_written old bytes at fits =
    let rest = drop (at + length bytes) old in
    let behind : drop at (written old at bytes) ≡ bytes ++ rest = ap (drop at) (append_assoc (take at old) bytes rest) ∙ drop_at (take at old) (bytes ++ rest) at (length-take-le at old fits) in
    ap (take (length bytes)) behind ∙ take_at bytes rest (length bytes) refl

pub written_range : (old bytes : List ℕ) (at : ℕ) → at ≤ length old → IsRange at (length bytes) (length (take (length bytes) (drop at old))) (length (written old at bytes))
written_range old bytes at fits =
    let front : length (take at old) ≡ at = length-take-le at old fits in
    let long : length (take at old ++ bytes) ≡ at + length bytes = length-append (take at old) bytes ∙ ap (λ n. n + length bytes) front in
    let rest = drop (at + length bytes) old in
    let whole : length (written old at bytes) ≡ length (take at old ++ bytes) + length rest = length-append (take at old ++ bytes) rest in
    let left = length-drop (at + length bytes) old in
    let middle = length-take (length bytes) (drop at old) in
    let behind = length-drop at old in
    record {
      inside = omega (arith, whole, long, left);
      no_more = omega (arith, middle);
      past_end = λ fewer. omega (arith, whole, long, left, middle, behind, fewer);
    }

-- Directories

-- put back, an object that was removed is there again
pub insert_removed : (now : Directory) (name : Name) (bytes : List ℕ) → object now name ≡ Some bytes → insert (remove now name) name bytes ≡ now
insert_removed now name bytes is = same_directory _ _ (λ q. elim (name_cases q name) as (λ _. object (insert (remove now name) name bytes) q ≡ object now q) [
  | inl same ↦ ap (object (insert (remove now name) name bytes)) same ∙ object_inserted (remove now name) name bytes ∙ sym is ∙ sym (ap (object now) same)
  | inr ne ↦ object_beside_insert (remove now name) name bytes q ne ∙ object_beside_remove now name q ne
])

-- without an object that was made, all is as before
pub remove_inserted : (now : Directory) (name : Name) (bytes : List ℕ) → object now name ≡ None → remove (insert now name bytes) name ≡ now
remove_inserted now name bytes is = same_directory _ _ (λ q. elim (name_cases q name) as (λ _. object (remove (insert now name bytes) name) q ≡ object now q) [
  | inl same ↦ ap (object (remove (insert now name bytes) name)) same ∙ object_removed (insert now name bytes) name ∙ sym is ∙ sym (ap (object now) same)
  | inr ne ↦ object_beside_remove (insert now name bytes) name q ne ∙ object_beside_insert now name bytes q ne
])

-- what an object holds, put in again, changes nothing
pub insert_same : (now : Directory) (name : Name) (bytes : List ℕ) → object now name ≡ Some bytes → insert now name bytes ≡ now
insert_same now name bytes is = same_directory _ _ (λ q. elim (name_cases q name) as (λ _. object (insert now name bytes) q ≡ object now q) [
  | inl same ↦ ap (object (insert now name bytes)) same ∙ object_inserted now name bytes ∙ sym is ∙ sym (ap (object now) same)
  | inr ne ↦ object_beside_insert now name bytes q ne
])

pub content_is : (now : Directory) (name : Name) (bytes : List ℕ) → object now name ≡ Some bytes → content now name ≡ bytes
content_is now name bytes is = ap (λ o. unwrap_or o []) is

write_allowed : (now : Directory) (name : Name) (at : ℕ) (bytes old : List ℕ) → object now name ≡ Some old → at ≤ length old → write_to (object now name) now name at bytes ≡ write_in now name at bytes
write_allowed now name at bytes old is fits = ap (λ o. write_to o now name at bytes) is ∙ ap (λ b. cond b (write_in now name at bytes) now) (le-leb at (length old) fits)

some_and : (now : Directory) (name : Name) (bytes : List ℕ) (P : List ℕ → Type 0) → object now name ≡ Some bytes → P bytes → IsSomeAnd (object now name) P
some_and now name bytes P is p = subst (λ o. IsSomeAnd o P) (sym is) p

-- What a new call adds

-- the call, kept with the directory that it made, says what it did and what was before
pub record Adds (call : Call) (effect : Effect) (old new : Directory) : Type 0 where
  pub fits : Fits call new
  pub before : undone call new ≡ old
  pub did : effect_of call new ≡ effect
  pub made : apply effect old ≡ new

pub adds_create : (old : Directory) (name : Name) (len : ℕ) (bytes : List ℕ) → len ≡ length bytes → object old name ≡ None → Adds (Create name len) (Created name bytes) old (insert old name bytes)
adds_create old name len bytes long absent = record {
  fits = some_and (insert old name bytes) name bytes (λ b. length b ≡ len) (object_inserted old name bytes) (sym long);
  before = remove_inserted old name bytes absent;
  did = ap (Created name) (content_is (insert old name bytes) name bytes (object_inserted old name bytes));
  made = refl;
}

-- a write of this range
record Ranges (name : Name) (at len : ℕ) (before bytes held : List ℕ) (old : Directory) : Type 0 where
  fits : IsSomeAnd (object (write_in old name at bytes) name) (λ b. IsRange at len (length before) (length b))
  undo : insert (write_in old name at bytes) name (restored (content (write_in old name at bytes) name) at len before) ≡ old
  did : take len (drop at (content (write_in old name at bytes) name)) ≡ bytes

ranges : (old : Directory) (name : Name) (at : ℕ) (bytes held : List ℕ) → object old name ≡ Some held → at ≤ length held → Ranges name at (length bytes) (take (length bytes) (drop at held)) bytes held old
ranges old name at bytes held is fits =
    let new = write_in old name at bytes in
    let before = take (length bytes) (drop at held) in
    let same : content old name ≡ held = content_is old name held is in
    let here : object new name ≡ Some (written held at bytes) = object_inserted old name _ ∙ ap (λ b. Some (written b at bytes)) same in
    let holds : content new name ≡ written held at bytes = content_is new name _ here in
    record {
      fits = some_and new name (written held at bytes) (λ b. IsRange at (length bytes) (length before) (length b)) here (written_range held bytes at fits);
      undo = ap (λ b. insert new name (restored b at (length bytes) before)) holds ∙ ap (insert new name) (restored_written held bytes at fits)
          ∙ insert_again old name (written (content old name) at bytes) held ∙ insert_same old name held is;
      did = ap (λ b. take (length bytes) (drop at b)) holds ∙ taken_written held bytes at fits;
    }

pub adds_write : (old : Directory) (name : Name) (at len : ℕ) (before : Vec ℕ Global) (bytes held : List ℕ) → len ≡ length bytes → before.items ≡ take (length bytes) (drop at held) → object old name ≡ Some held → at ≤ length held
    → Adds (Write name at len before) (Written name at bytes) old (write_in old name at bytes)
adds_write old name at len before bytes held long was is fits =
    let r : Ranges name at len before.items bytes held old = subst (λ b. Ranges name at len b bytes held old) (sym was) (subst (λ n. Ranges name at n (take (length bytes) (drop at held)) bytes held old) (sym long) (ranges old name at bytes held is fits)) in
    record { fits = r.fits; before = r.undo; did = ap (Written name at) r.did; made = write_allowed old name at bytes held is fits }

pub adds_byte : (old : Directory) (name : Name) (at byte before : ℕ) (held : List ℕ) → before ∷ [] ≡ take 1 (drop at held) → object old name ≡ Some held → at ≤ length held
    → Adds (Byte name at before) (Written name at (byte ∷ [])) old (write_in old name at (byte ∷ []))
adds_byte old name at byte before held was is fits =
    let r : Ranges name at 1 (before ∷ []) (byte ∷ []) held old = subst (λ b. Ranges name at 1 b (byte ∷ []) held old) (sym was) (ranges old name at (byte ∷ []) held is fits) in
    record { fits = r.fits; before = r.undo; did = ap (Written name at) r.did; made = write_allowed old name at (byte ∷ []) held is fits }

pub adds_remove : (old : Directory) (name : Name) (before : Vec ℕ Global) → object old name ≡ Some before.items → Adds (Remove name before) (Removed name) old (remove old name)
adds_remove old name before is = record { fits = tt; before = insert_removed old name before.items is; did = refl; made = refl }

pub adds_sync : (old : Directory) → Adds Sync Synced old old
adds_sync old = record { fits = tt; before = refl; did = refl; made = refl }

pub adds_nothing : (old : Directory) → Adds Unchanged Nothing old old
adds_nothing old = record { fits = tt; before = refl; did = refl; made = refl }

pub reverse_push : (calls new : List Call) (call : Call) → new ≡ calls ++ call ∷ [] → reverse new ≡ call ∷ reverse calls
reverse_push calls new call is = ap reverse is ∙ reverse-append calls (call ∷ [])

pub follows_push : (old new : Directory) (calls : List Call) (call : Call) (effect : Effect) → Follows old calls → Adds call effect old new → Follows new (call ∷ calls)
follows_push old new calls call effect so_far adds =
    (adds.fits, ap (λ d. apply (effect_of call new) d) adds.before ∙ ap (λ e. apply e old) adds.did ∙ adds.made, subst (λ d. Follows d calls) (sym adds.before) so_far)

pub start_push : (old new : Directory) (calls : List Call) (call : Call) (effect : Effect) → Adds call effect old new → start_of new (call ∷ calls) ≡ start_of old calls
start_push old new calls call effect adds = ap (λ d. start_of d calls) adds.before

pub effects_push : (old new : Directory) (calls : List Call) (call : Call) (effect : Effect) → Adds call effect old new → effects_of new (call ∷ calls) ≡ effect ∷ effects_of old calls
effects_push old new calls call effect adds = ap (λ e. e ∷ effects_of (undone call new) calls) adds.did ∙ ap (λ d. effect ∷ effects_of d calls) adds.before

-- Calls that follow

-- what they did, done to what was before them, makes what is now
pub after_effects : (now : Directory) (calls : List Call) → Follows now calls → after (start_of now calls) (effects_of now calls) ≡ now
after_effects now [] follows = refl
after_effects now (call ∷ earlier) follows = ap (apply (effect_of call now)) (after_effects (undone call now) earlier follows.2) ∙ follows.1

pub length-effects_of : (now : Directory) (calls : List Call) → length (effects_of now calls) ≡ length calls
length-effects_of now [] = refl
length-effects_of now (call ∷ earlier) = ap (λ n. suc n) (length-effects_of (undone call now) earlier)

-- Objects that are there

pub adds_to : (call : Call) (effect : Effect) (old new made : Directory) → Adds call effect old new → made ≡ new → Adds call effect old made
adds_to call effect old new made adds is = subst (Adds call effect old) (sym is) adds

-- an object that is there, with a fact on what it holds
pub some_held : (now : Directory) (name : Name) (P : List ℕ → Type 0) → IsSomeAnd (object now name) P → (held : List ℕ) × (object now name ≡ Some held) × P held
some_held now name P here = of (object now name) here
  where
    of : (o : Option (List ℕ)) → IsSomeAnd o P → (held : List ℕ) × (o ≡ Some held) × P held
    of None here = absurd here
    of (Some held) here = (held, refl, here)

-- a byte is in an object that is there
pub byte_held : (now : Directory) (name : Name) (at byte : ℕ) → slice_get (content now name) at ≡ Some byte → (held : List ℕ) × (object now name ≡ Some held) × (at < length held) × (byte ∷ [] ≡ take 1 (drop at held))
byte_held now name at byte is = of (object now name) is
  where
    of : (o : Option (List ℕ)) → slice_get (unwrap_or o []) at ≡ Some byte → (held : List ℕ) × (o ≡ Some held) × (at < length held) × (byte ∷ [] ≡ take 1 (drop at held))
    of None is = absurd cc
    of (Some held) is =
        let inside = slice_get_within held at byte is in
        let first : drop at held ≡ byte ∷ drop (at + 1) held = drop_more held at byte inside ∙ ap (λ b. b ∷ drop (at + 1) held) (get_or_from_slice_get held at byte byte is) in
        (held, refl, inside, sym (ap (take 1) first))

pub write_to_same : (now : Directory) (name : Name) (at : ℕ) (bytes held : List ℕ) → object now name ≡ Some held → at ≤ length held → write_to (object now name) now name at bytes ≡ write_in now name at bytes
write_to_same now name at bytes held is fits = write_allowed now name at bytes held is fits
