-- Files without tombstones and times.
use Rattle.std.proofs.Common.{◌≡◌, false, true, cond, List, [], ◌∷◌, map, filter_map, count_by, Contains, Some, None, refl, subst, arith}
use Rattle.std.proofs.lemmas.List.Sums.{sum_by-cons}
use Rattle.lethe_moves.proofs.Common.{⊎_elim, is_tomb, oldest_of, Entry, Pending, none_in, first_is, first_or_rest, bared, struck, left_of_each, merged}
use Rattle.lethe_cover.proofs.Lists.{in_rest}

-- it is a put without a time
abbrev pub IsPlain : Entry → Type 0
IsPlain entry = (is_tomb entry.body ≡ false) × (entry.since ≡ None)

abbrev AreBare : List Entry → Type 0
AreBare entries = (count_by (λ entry. is_tomb entry.body) entries ≡ 0) × (oldest_of entries ≡ None)

first_bare : (first : Entry) (entries : List Entry) → AreBare (first ∷ entries) → IsPlain first × AreBare entries
first_bare first entries bare = grind (arith, sum_by-cons (λ (entry : Entry). cond (is_tomb entry.body) 1 0) first entries)

pub bare_from : (entries : List Entry) → ((entry : Entry) → Contains entries entry → IsPlain entry) → AreBare entries
bare_from [] each = (refl, refl)
bare_from (first ∷ entries) each =
    grind (arith, each first (first_is first entries first refl), bare_from entries (λ entry there. each entry (in_rest first entries entry there)), sum_by-cons (λ (entry : Entry). cond (is_tomb entry.body) 1 0) first entries)

pub bare_each : (entries : List Entry) → AreBare entries → (entry : Entry) → Contains entries entry → IsPlain entry
bare_each [] bare entry there = absurd (none_in entry there)
bare_each (first ∷ entries) bare entry there =
    let parts = first_bare first entries bare in ⊎_elim (λ same. subst IsPlain same parts.0) (bare_each entries parts.1 entry) (first_or_rest first entries entry there)

plain_put : (left output : Entry) → bared true left left.body ≡ Some output → IsPlain output
plain_put left output is = grind arith

plain_from : (left : List Entry) (output : Entry) → Contains (filter_map (λ entry. bared true entry entry.body) left) output → IsPlain output
plain_from [] output there = absurd (none_in output there)
plain_from (entry ∷ left) output there = grind (arith, plain_from left output, plain_put entry output, λ (z : Entry). first_or_rest z (filter_map (λ entry. bared true entry entry.body) left) output)

-- the entries of an output that is alone are plain
pub merged_plain : (inputs : List Entry) (erases : List Pending) (output : Entry) → Contains (merged inputs erases true) output → IsPlain output
merged_plain inputs erases = plain_from (left_of_each (map (struck erases) inputs))
