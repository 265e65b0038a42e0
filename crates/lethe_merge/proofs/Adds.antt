-- A map from which a key's entry was taken, and which was given one again, is the map with that entry.
use Rattle.std.proofs.Common.{◌≡◌, cond, List, [], ◌∷◌, Some, IsTrue, refl, sym, ap, ◌∙◌, subst}
use Rattle.std.proofs.lemmas.Bool.{and_parts}
use Rattle.std.specs.BTreeMap.{insert_entry, is_at}
use Rattle.std.specs.Map.{lookup, remove_entry}
use Rattle.std.specs.Cmp.Lexicographic.{nat_list_cmp_total}
use Rattle.std.specs.FinMap.{entries, get, entries_sorted, entries-insert, get-entries}
use Rattle.std.specs.FinMap.Entries.{by_order, put, find, below_all, is_sorted}
use Rattle.std.specs.Ordering.{is_lt, is_eq}
use Rattle.std.specs.declared.cmp.Ordering.{Ordering}
use Rattle.std.specs.declared.cmp.Ordering.TheVariants.{Less, Equal, Greater}
use Rattle.lethe_base.specs.Keys.{Bytes, key_cmp}
use Rattle.lethe_base.specs.declared.entry.Entry.{Entry}
use Rattle.lethe_mem.proofs.Places.{tied, from_T, less_is}
use Rattle.lethe_cover.specs.Merged.{newer_of}
use Rattle.lethe_merge.specs.Merge.{left_by_key}

abbrev pub Pairs : Type 0
Pairs = List (Bytes × Entry)

pub found : (key : Bytes) (es : Pairs) → lookup (is_at (key_cmp key)) es ≡ find key_cmp key es
found key [] = refl
found key (e ∷ es) = ap (cond (is_eq (key_cmp key e.0)) (Some e.1)) (found key es)

-- what stands below all keys comes first, and isn't among them
first_of : (key : Bytes) (v : Entry) (es : Pairs) → IsTrue (below_all key_cmp key es) → insert_entry key_cmp es key v ≡ (key, v) ∷ es
first_of key v [] h = refl
first_of key v (e ∷ es) h = rw (less_is (key_cmp key e.0) (and_parts (is_lt (key_cmp key e.0)) (below_all key_cmp key es) h).0) refl

absent : (key : Bytes) (es : Pairs) → IsTrue (below_all key_cmp key es) → remove_entry (is_at (key_cmp key)) es ≡ es
absent key [] h = refl
absent key (e ∷ es) h =
    let parts = and_parts (is_lt (key_cmp key e.0)) (below_all key_cmp key es) h in
    rw (less_is (key_cmp key e.0) parts.0) (ap (λ rest. e ∷ rest) (absent key es parts.1))

below_more : (key x : Bytes) (es : Pairs) → key_cmp key x ≡ Less → IsTrue (below_all key_cmp x es) → IsTrue (below_all key_cmp key es)
below_more key x [] at h = refl
below_more key x (e ∷ es) at h =
    let parts = and_parts (is_lt (key_cmp x e.0)) (below_all key_cmp x es) h in
    let lower : key_cmp key e.0 ≡ Less = nat_list_cmp_total.trans key x e.0 at (less_is (key_cmp x e.0) parts.0) in
    rw lower (below_more key x es at parts.1)

again : (key : Bytes) (v : Entry) (es : Pairs) → IsTrue (is_sorted key_cmp es) → insert_entry key_cmp (remove_entry (is_at (key_cmp key)) es) key v ≡ put key_cmp key v es
again key v [] h = refl
again key v (e ∷ es) h = by (key_cmp key e.0) refl (again key v es parts.1)
  where
    parts : IsTrue (below_all key_cmp e.0 es) × IsTrue (is_sorted key_cmp es)
    parts = and_parts (below_all key_cmp e.0 es) (is_sorted key_cmp es) h

    by : (o : Ordering) → key_cmp key e.0 ≡ o → insert_entry key_cmp (remove_entry (is_at (key_cmp key)) es) key v ≡ put key_cmp key v es
        → insert_entry key_cmp (cond (is_eq o) es (e ∷ remove_entry (is_at (key_cmp key)) es)) key v ≡ by_order o ((key, v) ∷ e ∷ es) ((e.0, v) ∷ es) (e ∷ put key_cmp key v es)
    by Less at more = rw at (ap (λ (rest : Pairs). (key, v) ∷ e ∷ rest) (absent key es (below_more key e.0 es at parts.0)))
    by Equal at more =
        first_of key v es (subst (λ (k : Bytes). IsTrue (below_all key_cmp k es)) (sym (tied key e.0 at)) parts.0)
        ∙ ap (λ (k : Bytes). (k, v) ∷ es) (tied key e.0 at)
    by Greater at more = rw at (ap (λ (rest : Pairs). e ∷ rest) more)

-- the entry joined with the one of its key that was taken
pub added : (entry : Entry) (before : List Entry) (old middle new : Pairs) (key : Bytes) (v : Entry) → key_cmp entry.key key ≡ Equal → old ≡ entries (left_by_key before)
    → middle ≡ remove_entry (is_at (key_cmp entry.key)) old → v ≡ newer_of entry (lookup (is_at (key_cmp entry.key)) old) → new ≡ insert_entry key_cmp middle key v
    → new ≡ entries (left_by_key (entry ∷ before))
added entry before old middle new key v same is taken left inserted =
    let joined : v ≡ newer_of entry (get (left_by_key before) entry.key) =
    left ∙ ap (newer_of entry) (found entry.key old ∙ ap (find key_cmp entry.key) is ∙ sym (get-entries (left_by_key before) entry.key)) in
    inserted
    ∙ ap (λ (es : Pairs). insert_entry key_cmp es key v) (taken ∙ ap (remove_entry (is_at (key_cmp entry.key))) is)
    ∙ ap (λ (k : Bytes). insert_entry key_cmp (remove_entry (is_at (key_cmp entry.key)) (entries (left_by_key before))) k v) (sym (tied entry.key key same))
    ∙ again entry.key v (entries (left_by_key before)) (from_T (is_sorted key_cmp (entries (left_by_key before))) (entries_sorted (left_by_key before)))
    ∙ ap (λ (v : Entry). put key_cmp entry.key v (entries (left_by_key before))) joined
    ∙ sym (entries-insert nat_list_cmp_total (left_by_key before) entry.key (newer_of entry (get (left_by_key before) entry.key)))
