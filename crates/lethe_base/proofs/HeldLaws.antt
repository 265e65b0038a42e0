-- What reads see, some object spells.
use Rattle.std.proofs.Common.{◌≡◌, ◌⊎◌, inl, inr, ℕ, Bool, true, false, cond, List, [], ◌∷◌, fold, filter_map, Contains, Some, None, refl, sym, ◌∙◌, subst, arith}
use Rattle.std.proofs.lemmas.List.Elements.{Contains-append_right}
use Rattle.std.specs.Cmp.Lexicographic.{nat_list_cmp_total}
use Rattle.std.specs.FinMap as finmap
use Rattle.lethe_base.specs.declared.entry.Entry.{Entry}
use Rattle.lethe_base.specs.Keys.{Bytes, key_cmp, same_key}
use Rattle.lethe_base.specs.Layout.{Layout, Record, Written, Blind, Erasing, Buffer, written, buffer_of, frozen_records}
use Rattle.lethe_base.specs.Held.{Holds, InBuffer, Shows}

-- the first of some records
contains_first : (r : Record) (records : List Record) → Contains (r ∷ records) r
contains_first r records = (0, omega arith, refl)

from_buffer : (records : List Record) (buffer : Buffer) (key : Bytes) (entry : Entry) → finmap.get (fold (λ b e. finmap.insert b e.key e) buffer (filter_map written records)) key ≡ Some entry
    → (finmap.get buffer key ≡ Some entry) ⊎ Contains records (Written entry)
from_buffer [] buffer key entry is = inl is
from_buffer (Blind place ∷ records) buffer key entry is = elim (from_buffer records buffer key entry is) [
  | inl before ↦ inl before
  | inr there ↦ inr (Contains-append_right (Blind place ∷ []) records (Written entry) there)
]
from_buffer (Erasing erase ∷ records) buffer key entry is = elim (from_buffer records buffer key entry is) [
  | inl before ↦ inl before
  | inr there ↦ inr (Contains-append_right (Erasing erase ∷ []) records (Written entry) there)
]
from_buffer (Written first ∷ records) buffer key entry is = elim (from_buffer records (finmap.insert buffer first.key first) key entry is) [
  | inl before ↦ by (same_key key first.key) (sym (finmap.get-insert nat_list_cmp_total buffer first.key first key) ∙ before)
  | inr there ↦ inr (Contains-append_right (Written first ∷ []) records (Written entry) there)
]
  where
    by : (b : Bool) → cond b (Some first) (finmap.get buffer key) ≡ Some entry → (finmap.get buffer key ≡ Some entry) ⊎ Contains (Written first ∷ records) (Written entry)
    by true e = let same : first ≡ entry = cc in inr (subst (λ x. Contains (Written first ∷ records) (Written x)) same (contains_first (Written first) records))
    by false e = inl e

-- a buffer has entries of its records alone
pub buffer_recorded : (records : List Record) (entry : Entry) → InBuffer (buffer_of records) entry → Contains records (Written entry)
buffer_recorded records entry is = elim (from_buffer records finmap.empty entry.key entry is) [
  | inl before ↦ absurd (let clash : None ≡ Some entry = sym (finmap.get-empty key_cmp entry.key) ∙ before in cc)
  | inr there ↦ there
]

pub shown_held : (l : Layout) (entry : Entry) → Shows l entry → (swept : ℕ) × Holds l entry swept
shown_held l entry is = elim is [
  | inl buffered ↦ elim buffered [
    | inl active ↦ (0, inl (inl (buffer_recorded l.active entry active), refl))
    | inr frozen ↦ (0, inl (inr (buffer_recorded (frozen_records l) entry frozen), refl))
  ]
  | inr filed ↦ (filed.file.swept, inr (filed, refl))
]
