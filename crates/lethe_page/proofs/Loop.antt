-- Reading entries one after another, and what reading all of them gives.
use Rattle.std.proofs.Common.{◌≡◌, ℕ, suc, ◌+◌, ◌-◌, ◌<◌, ◌≤◌, List, [], ◌∷◌, ◌++◌, length, Option, Some, None, Result, Ok, Err, refl, sym, ap, ◌∙◌, append_assoc, arith, length-append}
use Rattle.std.specs.Prelude.{slice_get, option_map}
use Rattle.std.proofs.lemmas.List.{append-nil}
use Rattle.lethe_base.specs.Keys.{Bytes}
use Rattle.lethe_base.specs.Results.{◌>>=◌}
use Rattle.lethe_base.specs.declared.entry.Entry.{Entry}
use Rattle.lethe_page.specs.Reading.{IsRefused, last_key, entry_above, entries_above}
use Rattle.lethe_page.specs.declared.class.Class.{Class}
use Rattle.lethe_page.specs.declared.refused.PageRefused.{PageRefused}
use Rattle.lethe_page.specs.declared.refused.PageRefused.TheVariants.{Short, Kind, Order, Trailing, NoMemory}

abbrev Read : Type 0
Read = Result (List Entry × ℕ) PageRefused

-- the entries that are read behind these, with these
abbrev behind : List Entry → Read → Read
behind entries read = read >>= λ rest. Ok (entries ++ rest.0, rest.1)

-- these entries are read up to a place, and what is read behind them makes them all
pub record IsReadTo (class : Class) (count : ℕ) (bytes : List ℕ) (entries : List Entry) (at : ℕ) : Type 0 where
  pub few : length entries ≤ count
  pub goes_on : entries_above class count None bytes 8 ≡ behind entries (entries_above class (count - length entries) (last_key entries) bytes at)

behind_none : (read : Read) → read ≡ behind [] read
behind_none (Ok rest) = refl
behind_none (Err why) = refl

behind_more : (entries : List Entry) (entry : Entry) (read : Read) → behind entries (read >>= λ rest. Ok (entry ∷ rest.0, rest.1)) ≡ behind (entries ++ entry ∷ []) read
behind_more entries entry (Ok rest) = ap (λ (l : List Entry). let read : Read = Ok (l, rest.1) in read) (sym (append_assoc entries (entry ∷ []) rest.0))
behind_more entries entry (Err why) = refl

last_pushed : (entries : List Entry) (entry : Entry) → slice_get (entries ++ entry ∷ []) (length entries) ≡ Some entry
last_pushed [] entry = refl
last_pushed (e ∷ es) entry = last_pushed es entry

pub last_key_pushed : (entries : List Entry) (entry : Entry) → last_key (entries ++ entry ∷ []) ≡ Some entry.key
last_key_pushed entries entry =
    let place : length (entries ++ entry ∷ []) - 1 ≡ length entries = omega (arith, length-append entries (entry ∷ [])) in
    ap (λ (n : ℕ). option_map (λ (e : Entry). e.key) (slice_get (entries ++ entry ∷ []) n)) place ∙ ap (λ (o : Option Entry). option_map (λ e. e.key) o) (last_pushed entries entry)

pub at_first : (class : Class) (count : ℕ) (bytes : List ℕ) → IsReadTo class count bytes [] 8
at_first class count bytes = record {
  few = omega arith;
  goes_on =
      let all : count ≡ count - 0 = omega arith in
      behind_none (entries_above class count None bytes 8) ∙ ap (λ (n : ℕ). behind [] (entries_above class n None bytes 8)) all;
}

module _ (class : Class) (count : ℕ) (bytes : List ℕ) (entries : List Entry) (at : ℕ) (read : IsReadTo class count bytes entries at) where
  -- while there are fewer entries than counted, one more is read
  one_of : length entries < count → (m : ℕ) × (count ≡ length entries + 1 + m)
      × (entries_above class count None bytes 8 ≡ behind entries (entry_above class (last_key entries) bytes at >>= λ first. entries_above class m (Some first.0.key) bytes first.1 >>= λ rest. Ok (first.0 ∷ rest.0, rest.1)))
  one_of fewer =
      let m = count - length entries - 1 in
      let more : count - length entries ≡ suc m = omega (arith, fewer) in
      (m, omega (arith, fewer), read.goes_on ∙ ap (λ (n : ℕ). behind entries (entries_above class n (last_key entries) bytes at)) more)

  pub one_more : (entry : Entry) (end : ℕ) → length entries < count → entry_above class (last_key entries) bytes at ≡ Ok (entry, end) → IsReadTo class count bytes (entries ++ entry ∷ []) end
  one_more entry end fewer is =
      let one = one_of fewer in
      let m = one.0 in
      let len = length-append entries (entry ∷ []) in
      let rest : count - length (entries ++ entry ∷ []) ≡ m = omega (arith, len, one.1) in
      record {
        few = omega (arith, len, fewer);
        goes_on =
            one.2
            ∙ ap (λ (r : Result (Entry × ℕ) PageRefused). behind entries (r >>= λ first. entries_above class m (Some first.0.key) bytes first.1 >>= λ rest. Ok (first.0 ∷ rest.0, rest.1))) is
            ∙ behind_more entries entry (entries_above class m (Some entry.key) bytes end)
            ∙ ap (λ (key : Option Bytes). behind (entries ++ entry ∷ []) (entries_above class m key bytes end)) (sym (last_key_pushed entries entry))
            ∙ ap (λ (n : ℕ). behind (entries ++ entry ∷ []) (entries_above class n (last_key (entries ++ entry ∷ [])) bytes end)) (sym rest);
      }

  -- where it can't be read, they all can't
  pub fails_there : (why : PageRefused) → length entries < count → entry_above class (last_key entries) bytes at ≡ Err why → entries_above class count None bytes 8 ≡ Err why
  fails_there why fewer is =
      let one = one_of fewer in
      one.2 ∙ ap (λ (r : Result (Entry × ℕ) PageRefused). behind entries (r >>= λ first. entries_above class one.0 (Some first.0.key) bytes first.1 >>= λ rest. Ok (first.0 ∷ rest.0, rest.1))) is

  pub refused_there : (why : PageRefused) → length entries < count → IsRefused why (entry_above class (last_key entries) bytes at) → IsRefused why (entries_above class count None bytes 8)
  refused_there (Short place) fewer is = fails_there (Short place) fewer is
  refused_there (Kind place) fewer is = fails_there (Kind place) fewer is
  refused_there (Order place) fewer is = fails_there (Order place) fewer is
  refused_there (Trailing place) fewer is = fails_there (Trailing place) fewer is
  refused_there NoMemory fewer is = tt

  -- all that are counted are read
  pub at_last : (length entries < count → ⊥) → entries_above class count None bytes 8 ≡ Ok (entries, at)
  at_last none =
      let rest : count - length entries ≡ 0 = omega (arith, read.few) in
      read.goes_on ∙ ap (λ (n : ℕ). behind entries (entries_above class n (last_key entries) bytes at)) rest
      ∙ ap (λ (l : List Entry). let all : Read = Ok (l, at) in all) (append-nil entries)
