-- The entry of a key in a list, and what is left of a key.
use Rattle.std.proofs.Common.{◌≡◌, true, is_lt, List, [], ◌∷◌, Contains, Some, None, sym, ap, ◌∙◌, subst, ◌⊎◌, arith}
use Rattle.lethe_cover.proofs.Common.{below_all, is_sorted, ⊎_elim, Contains-append_right, and_parts, Bytes, key_cmp, same_key, by_key, IsAscending, entry_of, Entry, none_in, first_or_rest, first_is, same_key-self, same_key-true}

entry_of_cases : (key : Bytes) (x : Entry) (entries : List Entry) (entry : Entry) → entry_of key (x ∷ entries) ≡ Some entry → ((same_key key x.key ≡ true) × (x ≡ entry)) ⊎ (entry_of key entries ≡ Some entry)
entry_of_cases key x entries entry is = grind arith

-- the entry of a key stands in the list, under the key
pub entry_in : (key : Bytes) (entries : List Entry) (entry : Entry) → entry_of key entries ≡ Some entry → Contains entries entry × (entry.key ≡ key)
entry_in key [] entry is = absurd (cc)
entry_in key (x ∷ entries) entry is = ⊎_elim (λ first. (first_is x entries entry first.1, ap (λ e. e.key) (sym first.1) ∙ sym (same_key-true key x.key first.0)))
    (λ rest. let more = entry_in key entries entry rest in (Contains-append_right (x ∷ []) entries entry more.0, more.1)) (entry_of_cases key x entries entry is)

below_in : (key : Bytes) (entries : List Entry) (entry : Entry) → below_all key_cmp key (by_key entries) ≡ true → Contains entries entry → is_lt (key_cmp key entry.key) ≡ true
below_in key [] entry below there = absurd (none_in entry there)
below_in key (x ∷ entries) entry below there =
    let parts = and_parts (is_lt (key_cmp key x.key)) (below_all key_cmp key (by_key entries)) below in
    ⊎_elim (λ same. subst (λ e. is_lt (key_cmp key e.key) ≡ true) same parts.0) (below_in key entries entry parts.1) (first_or_rest x entries entry there)

-- each entry is the entry of its key
pub own_entry : (entries : List Entry) (entry : Entry) → IsAscending entries → Contains entries entry → entry_of entry.key entries ≡ Some entry
own_entry [] entry ascending there = absurd (none_in entry there)
own_entry (x ∷ entries) entry ascending there =
    let parts = and_parts (below_all key_cmp x.key (by_key entries)) (is_sorted key_cmp (by_key entries)) ascending in
    ⊎_elim (λ (same : x ≡ entry). grind (arith, same_key-self entry.key))
    (λ rest. let lower = below_in x.key entries entry parts.0 rest in grind (arith, own_entry entries entry parts.1 rest, same_key-true entry.key x.key, same_key-self x.key)) (first_or_rest x entries entry there)

pub no_entry : (key : Bytes) (entries : List Entry) → entry_of key entries ≡ None → (entry : Entry) → Contains entries entry → entry.key ≡ key → ⊥
no_entry key [] is entry there named = none_in entry there
no_entry key (x ∷ entries) is entry there named = ⊎_elim (λ (same : x ≡ entry). grind (arith, same_key-self key)) (λ rest. no_entry key entries (grind arith) entry rest named) (first_or_rest x entries entry there)
