-- The map that entries leave: the pairs of the keys that were put.
use Rattle.std.proofs.Common.{◌≡◌, Bool, true, false, cond, List, [], ◌∷◌, Option, Some, None, IsTrue, filter, refl, sym, ap, ◌∙◌}
use Rattle.std.specs.Prelude.{option_and_then, option_map}
use Rattle.std.specs.List.{cons_option}
use Rattle.std.proofs.lemmas.Bool.{and_parts, and_from}
use Rattle.std.specs.Ordering.{is_lt, eq_by_cmp}
use Rattle.std.specs.declared.cmp.Ordering.TheVariants.{Less}
use Rattle.std.specs.Cmp.Lexicographic.{nat_list_cmp_total}
use Rattle.std.specs.FinMap as finmap
use Rattle.std.specs.FinMap.Entries.{below_all}
use Rattle.lethe_base.specs.Keys.{Bytes, key_cmp, same_key}
use Rattle.lethe_base.specs.History.{Pair}
use Rattle.lethe_base.specs.Entries.{by_key, IsAscending, entry_of, Inserts, pair_of, shown}
use Rattle.lethe_base.specs.declared.entry.Entry.{Entry}
use Rattle.lethe_mem.specs.Pairs.{pairs_of, PairsAnswer}
use Rattle.lethe_mem.proofs.Places.{above_head, tail_ascends, tied, to_T, less_is, equal_is}

-- a key with what its body answers, in front of other pairs
abbrev with_pair : Bytes → Option Pair → List (Bytes × Pair) → List (Bytes × Pair)
with_pair key pair rest = cons_option (option_map (λ p. (key, p)) pair) rest

below_with_pair : (x key : Bytes) (pair : Option Pair) (rest : List (Bytes × Pair)) → IsTrue (is_lt (key_cmp x key)) → IsTrue (below_all key_cmp x rest) → IsTrue (below_all key_cmp x (with_pair key pair rest))
below_with_pair x key None rest lt h = h
below_with_pair x key (Some p) rest lt h = and_from _ _ lt h

below_pairs : (x : Bytes) (es : List Entry) → IsTrue (below_all key_cmp x (by_key es)) → IsTrue (below_all key_cmp x (pairs_of es))
below_pairs x [] h = refl
below_pairs x (e ∷ es) h =
    let parts = and_parts (is_lt (key_cmp x e.key)) (below_all key_cmp x (by_key es)) h in
    below_with_pair x e.key (pair_of e.body) (pairs_of es) parts.0 (below_pairs x es parts.1)

sorted_with_pair : (key : Bytes) (pair : Option Pair) (rest : List (Bytes × Pair)) → IsTrue (below_all key_cmp key rest) → IsTrue (finmap.is_sorted key_cmp rest) → IsTrue (finmap.is_sorted key_cmp (with_pair key pair rest))
sorted_with_pair key None rest below s = s
sorted_with_pair key (Some p) rest below s = and_from _ _ below s

-- the pairs of entries in order are in order
pub pairs_sorted : (es : List Entry) → IsAscending es → IsTrue (finmap.is_sorted key_cmp (pairs_of es))
pairs_sorted [] s = refl
pairs_sorted (e ∷ es) s = sorted_with_pair e.key (pair_of e.body) (pairs_of es) (below_pairs e.key es (above_head e es s)) (pairs_sorted es (tail_ascends e es s))

-- a key below all of some has no pair among them
missed : (x : Bytes) (rest : List (Bytes × Pair)) → IsTrue (below_all key_cmp x rest) → finmap.find key_cmp x rest ≡ None
missed x [] h = refl
missed x (p ∷ rest) h =
    let parts = and_parts (is_lt (key_cmp x p.0)) (below_all key_cmp x rest) h in
    let apart : key_cmp x p.0 ≡ Less = less_is _ parts.0 in
    rw apart (missed x rest parts.1)

find_with_pair : (key at : Bytes) (pair : Option Pair) (rest : List (Bytes × Pair)) (b : Bool) → eq_by_cmp key_cmp key at ≡ b → (b ≡ true → finmap.find key_cmp key rest ≡ None)
    → finmap.find key_cmp key (with_pair at pair rest) ≡ cond b pair (finmap.find key_cmp key rest)
find_with_pair key at None rest true t missing = missing refl
find_with_pair key at None rest false t missing = refl
find_with_pair key at (Some p) rest true t missing = rw t refl
find_with_pair key at (Some p) rest false t missing = rw t refl

answered : (b : Bool) (e : Entry) (found : Option Entry) → cond b (pair_of e.body) (option_and_then (λ e. pair_of e.body) found) ≡ option_and_then (λ e. pair_of e.body) (cond b (Some e) found)
answered true e found = refl
answered false e found = refl

-- what the pairs of entries in order have at a key is what the entries answer of it
pub find_pairs : (key : Bytes) (es : List Entry) → IsAscending es → finmap.find key_cmp key (pairs_of es) ≡ shown key es
find_pairs key [] s = refl
find_pairs key (e ∷ es) s =
    let behind : finmap.find key_cmp key (pairs_of es) ≡ shown key es = find_pairs key es (tail_ascends e es s) in
    let missing : eq_by_cmp key_cmp key e.key ≡ true → finmap.find key_cmp key (pairs_of es) ≡ None =
    λ t. ap (λ k. finmap.find key_cmp k (pairs_of es)) (tied key e.key (equal_is _ t)) ∙ missed e.key (pairs_of es) (below_pairs e.key es (above_head e es s)) in
    find_with_pair key e.key (pair_of e.body) (pairs_of es) (eq_by_cmp key_cmp key e.key) refl missing
    ∙ ap (cond (eq_by_cmp key_cmp key e.key) (pair_of e.body)) behind
    ∙ answered (eq_by_cmp key_cmp key e.key) e (entry_of key es)

pub pairs_answer : PairsAnswer
pairs_answer = record { sorted = pairs_sorted; found = find_pairs }

-- a test of the keys, before the pairs are taken or after
pub filter-pairs_of : (p : Bytes → Bool) (es : List Entry) → filter (λ e. p e.0) (pairs_of es) ≡ pairs_of (filter (λ e. p e.key) es)
filter-pairs_of p [] = refl
filter-pairs_of p (e ∷ es) = by_test (p e.key) refl (pair_of e.body) refl (filter-pairs_of p es)
  where
    by_test : (b : Bool) → p e.key ≡ b → (pair : Option Pair) → pair_of e.body ≡ pair
        → filter (λ e. p e.0) (pairs_of es) ≡ pairs_of (filter (λ e. p e.key) es)
        → filter (λ e. p e.0) (with_pair e.key pair (pairs_of es)) ≡ pairs_of (cond b (e ∷ filter (λ e. p e.key) es) (filter (λ e. p e.key) es))
    by_test true t None is rest = rw is rest
    by_test true t (Some pair) is rest = rw (is, t) (ap (λ rest. (e.key, pair) ∷ rest) rest)
    by_test false t None is rest = rest
    by_test false t (Some pair) is rest = rw t rest

-- what entries answer after an insert
pub shown-inserts : (entry : Entry) (old new : List Entry) (key : Bytes) → Inserts entry old new → shown key new ≡ cond (same_key key entry.key) (pair_of entry.body) (shown key old)
shown-inserts entry old new key made = ap (option_and_then (λ e. pair_of e.body)) (made.entries key) ∙ sym (answered (same_key key entry.key) entry (entry_of key old))

-- what the map of entries in order has at a key
pub get-pairs_of : (key : Bytes) (es : List Entry) → IsAscending es → finmap.get (finmap.from_sorted {R = key_cmp} (pairs_of es)) key ≡ shown key es
get-pairs_of key es s = finmap.get-from_sorted key_cmp (pairs_of es) key (to_T _ (pairs_sorted es s)) ∙ find_pairs key es s

-- the map after an insert of a put, and of a tombstone
pub map-inserts_put : (entry : Entry) (old new : List Entry) (pair : Pair) → IsAscending old → Inserts entry old new → pair_of entry.body ≡ Some pair
    → finmap.from_sorted {R = key_cmp} (pairs_of new) ≡ finmap.insert (finmap.from_sorted (pairs_of old)) entry.key pair
map-inserts_put entry old new pair s made is = finmap.same_map nat_list_cmp_total tied _ _ (λ key.
    get-pairs_of key new made.ascending ∙ shown-inserts entry old new key made
    ∙ ap (λ p. cond (same_key key entry.key) p (shown key old)) is
    ∙ ap (cond (same_key key entry.key) (Some pair)) (sym (get-pairs_of key old s))
    ∙ sym (finmap.get-insert nat_list_cmp_total (finmap.from_sorted (pairs_of old)) entry.key pair key))

pub map-inserts_tomb : (entry : Entry) (old new : List Entry) → IsAscending old → Inserts entry old new → pair_of entry.body ≡ None
    → finmap.from_sorted {R = key_cmp} (pairs_of new) ≡ finmap.remove (finmap.from_sorted (pairs_of old)) entry.key
map-inserts_tomb entry old new s made is = finmap.same_map nat_list_cmp_total tied _ _ (λ key.
    get-pairs_of key new made.ascending ∙ shown-inserts entry old new key made
    ∙ ap (λ p. cond (same_key key entry.key) p (shown key old)) is
    ∙ ap (cond (same_key key entry.key) None) (sym (get-pairs_of key old s))
    ∙ sym (finmap.get-remove nat_list_cmp_total (finmap.from_sorted (pairs_of old)) entry.key key))
