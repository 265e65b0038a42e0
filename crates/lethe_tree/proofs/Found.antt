-- What a look finds is the entry of the key.
use Rattle.std.proofs.Common.{◌≡◌, ℕ, inl, inr, cond, Option, Some, None, List, [], ◌∷◌, length, slice_get, sym, ap, ◌∙◌, subst}
use Rattle.std.specs.Prelude.{option_and_then}
use Rattle.std.specs.Ordering.{is_eq}
use Rattle.std.specs.declared.cmp.Ordering.TheVariants.{Less, Equal}
use Rattle.lethe_base.specs.Keys.{Bytes, key_cmp}
use Rattle.lethe_base.specs.Entries.{IsAscending, entry_of}
use Rattle.lethe_base.specs.declared.entry.Entry.{Entry}
use Rattle.lethe_mem.proofs.Places.{above_head, own_key, tail_ascends, turned}
use Rattle.lethe_tree.specs.Looked.{Holds, IsFound}
use Rattle.lethe_tree.specs.Tree.{AllBelow, at_each}
use Rattle.lethe_tree.proofs.Ordered.{each_here, got}
use Rattle.lethe_tree.proofs.Hung.{under_stands}

held_is : (entries : List Entry) (key : Bytes) (is : List ℕ) (at : ℕ) → AllBelow (length entries) is → IsAscending (at_each entries is) → Holds entries key is at → entry_of key (at_each entries is) ≡ slice_get entries at
held_is entries key [] at known rising holds = absurd holds.3
held_is entries key (i ∷ is) at known rising holds = by x.0 x.1 (λ s h. held_is entries key is at known.1 s h)
  where
    x : (e : Entry) × (slice_get entries i ≡ Some e)
    x = got entries i known.0

    by : (e : Entry) → slice_get entries i ≡ Some e → (IsAscending (at_each entries is) → Holds entries key is at → entry_of key (at_each entries is) ≡ slice_get entries at) → entry_of key (at_each entries (i ∷ is)) ≡ slice_get entries at
    by e there rest =
        let s = subst IsAscending (each_here entries i is e there) rising in
        elim holds.3 [
          | inl same ↦
              let there_at : slice_get entries at ≡ Some e = ap (slice_get entries) (sym same) ∙ there in
              let held : slice_get entries at ≡ Some holds.0 = holds.1 in
              let one : holds.0 ≡ e = cc in
              let key_is : key ≡ e.key = sym holds.2 ∙ ap (λ (z : Entry). z.key) one in
              let tie : key_cmp key e.key ≡ Equal = subst (λ k. key_cmp key k ≡ Equal) key_is (own_key key) in
              ap (entry_of key) (each_here entries i is e there) ∙ (ap (λ r. cond (is_eq r) (Some e) (entry_of key (at_each entries is))) tie ∙ sym there_at)
          | inr behind ↦
              let low : key_cmp e.key (holds.0).key ≡ Less = under_stands entries e.key at holds.0 is known.1 (above_head e (at_each entries is) s) behind holds.1 in
              let lower : key_cmp e.key key ≡ Less = subst (λ k. key_cmp e.key k ≡ Less) holds.2 low in
              ap (entry_of key) (each_here entries i is e there)
              ∙ (ap (λ r. cond (is_eq r) (Some e) (entry_of key (at_each entries is))) (turned e.key key Less lower)
              ∙ rest (tail_ascends e (at_each entries is) s) (holds.0, holds.1, holds.2, behind))
        ]

pub looked : (entries : List Entry) (key : Bytes) (is : List ℕ) (o : Option ℕ) → AllBelow (length entries) is → IsAscending (at_each entries is) → IsFound entries key is o → entry_of key (at_each entries is) ≡ option_and_then (λ i. slice_get entries i) o
looked entries key is None known rising found = found
looked entries key is (Some at) known rising found = held_is entries key is at known rising found
