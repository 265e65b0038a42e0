-- What a map of objects says of its directory.
use Rattle.std.proofs.Common.{◌≡◌, ℕ, Bool, true, false, cond, List, [], ◌∷◌, Some, None, Vec, refl, sym, ap, subst, arith, ◌∙◌, inl, inr}
use Rattle.std.specs.Prelude.{map, length, Option, option_map, unwrap_or, nat_le}
use Rattle.std.specs.Ordering.{is_eq}
use Rattle.std.specs.declared.alloc.Global.{Global}
use Rattle.std.specs.declared.cmp.Ordering.TheVariants.{Less}
use Rattle.std.specs.BTreeMap as tree
use Rattle.std.specs.BTreeMap.{BTreeMap}
use Rattle.std.specs.Map.{lookup, keys_of}
use Rattle.std.specs.List.{AllByRecursion, AllZip}
use Rattle.std.specs.List.Sorted.{IsStrictlySortedBy}
use Rattle.std.specs.FinMap.{insert, remove, keys, entries, find, put, from_entries, get-from_entries, entries-insert, empty, len-entries, len-empty}
use Rattle.lethe_base.specs.declared.name.Name.{Name}
use Rattle.lethe_base.specs.Names.{name_cmp, name_total}
use Rattle.lethe_disk.specs.Directory.{Directory, object, write_in, written, SameBut}
use Rattle.lethe_disk.proofs.Objects.{name_cases, same_name_false, object_inserted, object_beside_insert, object_removed, object_beside_remove, same_directory}
use Rattle.lethe_memdisk.specs.Bytes.{write_bytes}
use Rattle.lethe_memdisk.specs.Objects.{directory_of, write_to}

abbrev pub Map : Type 0
Map = BTreeMap Name (Vec ℕ Global)

abbrev items_of : Name × Vec ℕ Global → Name × List ℕ
items_of e = (e.0, e.1.items)

abbrev pub held : Option (Vec ℕ Global) → Option (List ℕ)
held o = option_map (λ v. v.items) o

find_items : (name : Name) (es : List (Name × Vec ℕ Global)) → find name_cmp name (map items_of es) ≡ held (lookup (λ k. is_eq (name_cmp name k)) es)
find_items name [] = refl
find_items name (e ∷ es) = elim (is_eq (name_cmp name e.0)) as (λ b. cond b (Some e.1.items) (find name_cmp name (map items_of es)) ≡ held (cond b (Some e.1) (lookup (λ k. is_eq (name_cmp name k)) es))) [
  | true ↦ refl
  | false ↦ find_items name es
]

-- an object is what the map has
pub object_of : (m : Map) (name : Name) → object (directory_of m) name ≡ held (tree.get name_cmp m name)
object_of m name = get-from_entries name_total (map items_of m.entries) name ∙ find_items name m.entries

same_beside : (m n : Map) (name : Name) → ((q : Name) → is_eq (name_cmp name q) ≡ false → tree.get name_cmp n q ≡ tree.get name_cmp m q) → SameBut name (directory_of m) (directory_of n)
same_beside m n name others q ne = object_of n q ∙ ap held (others q (same_name_false name q (λ e. ne (sym e)))) ∙ sym (object_of m q)

-- a change at one name, and the directory that has it
changed_to : (m n : Map) (name : Name) (new : Directory) (w : Option (Vec ℕ Global)) → tree.get name_cmp n name ≡ w → ((q : Name) → is_eq (name_cmp name q) ≡ false → tree.get name_cmp n q ≡ tree.get name_cmp m q)
    → object new name ≡ held w → SameBut name (directory_of m) new → directory_of n ≡ new
changed_to m n name new w is others here beside = same_directory _ _ (λ q. elim (name_cases q name) as (λ _. object (directory_of n) q ≡ object new q) [
  | inl same ↦ ap (object (directory_of n)) same ∙ object_of n name ∙ ap held is ∙ sym here ∙ sym (ap (object new) same)
  | inr ne ↦ same_beside m n name others q ne ∙ sym (beside q ne)
])

pub directory_inserted : (m n : Map) (name : Name) (bytes : Vec ℕ Global) → tree.Updates name_cmp m n name (Some bytes) → directory_of n ≡ insert (directory_of m) name bytes.items
directory_inserted m n name bytes updates = changed_to m n name (insert (directory_of m) name bytes.items) (Some bytes) updates.1 updates.2 (object_inserted (directory_of m) name bytes.items) (object_beside_insert (directory_of m) name bytes.items)

pub directory_removed : (m n : Map) (name : Name) → tree.Updates name_cmp m n name None → directory_of n ≡ remove (directory_of m) name
directory_removed m n name updates = changed_to m n name (remove (directory_of m) name) None updates.1 updates.2 (object_removed (directory_of m) name) (object_beside_remove (directory_of m) name)

-- Names

first_put : (e : Name × List ℕ) (es : List (Name × List ℕ)) → AllByRecursion (λ y. name_cmp e.0 y ≡ Less) (map (λ d. d.0) es) → put name_cmp e.0 e.1 es ≡ e ∷ es
first_put e [] below = refl
first_put e (d ∷ es) below = let less : name_cmp e.0 d.0 ≡ Less = below.0 in rw less refl

keys_items : (es : List (Name × Vec ℕ Global)) → map (λ d. d.0) (map items_of es) ≡ keys_of es
keys_items [] = refl
keys_items (e ∷ es) = ap (λ l. e.0 ∷ l) (keys_items es)

no_length : (es : List (Name × List ℕ)) → length es ≡ 0 → es ≡ []
no_length [] none = refl
no_length (e ∷ es) none = absurd (omega arith)

no_entries : entries (empty {X = List ℕ} {R = name_cmp}) ≡ []
no_entries = no_length _ (sym (len-entries empty) ∙ len-empty name_cmp (List ℕ))

entries_items : (es : List (Name × Vec ℕ Global)) → IsStrictlySortedBy name_cmp (keys_of es) → entries (from_entries {R = name_cmp} (map items_of es)) ≡ map items_of es
unfolding IsStrictlySortedBy
entries_items [] sorted = no_entries
entries_items (e ∷ es) sorted =
    let rest : entries (from_entries {R = name_cmp} (map items_of es)) ≡ map items_of es = entries_items es sorted.1 in
    let below : AllByRecursion (λ y. name_cmp e.0 y ≡ Less) (map (λ d. d.0) (map items_of es)) = subst (AllByRecursion (λ y. name_cmp e.0 y ≡ Less)) (sym (keys_items es)) sorted.0 in
    entries-insert name_total (from_entries {R = name_cmp} (map items_of es)) e.0 e.1.items ∙ ap (put name_cmp e.0 e.1.items) rest ∙ first_put (e.0, e.1.items) (map items_of es) below

pub keys_of_map : (m : Map) → tree.IsOrdered name_cmp m → keys (directory_of m) ≡ tree.keys m
keys_of_map m ordered = ap (map (λ d. d.0)) (entries_items m.entries ordered) ∙ keys_items m.entries

-- Writes

writes_at : (now : Directory) (name : Name) (at : ℕ) (bytes : List ℕ) (b : Bool) (old : List ℕ) → object now name ≡ Some old → (object (cond b (write_in now name at bytes) now) name ≡ Some (cond b (written old at bytes) old)) × SameBut name now (cond b (write_in now name at bytes) now)
writes_at now name at bytes true old is = (object_inserted now name _ ∙ ap (λ o. Some (written (unwrap_or o []) at bytes)) is, object_beside_insert now name _)
writes_at now name at bytes false old is = (is, λ q ne. refl)

-- a write through the map
pub directory_written : (m n : Map) (name : Name) (at : ℕ) (bytes : List ℕ) (old new : Vec ℕ Global) → tree.get name_cmp m name ≡ Some old → tree.Updates name_cmp m n name (Some new) → new.items ≡ write_bytes old.items at bytes
    → directory_of n ≡ write_to (object (directory_of m) name) (directory_of m) name at bytes
directory_written m n name at bytes old new was updates wrote =
    let here : object (directory_of m) name ≡ Some old.items = object_of m name ∙ ap held was in
    let parts = writes_at (directory_of m) name at bytes (nat_le at (length old.items)) old.items here in
    let target = write_to (Some old.items) (directory_of m) name at bytes in
    changed_to m n name target (Some new) updates.1 updates.2 (parts.0 ∙ ap Some (sym wrote)) parts.1 ∙ sym (ap (λ o. write_to o (directory_of m) name at bytes) here)

-- a map that shows the same is the same directory
pub directory_same : (m n : Map) (name : Name) (old new : Vec ℕ Global) → tree.get name_cmp m name ≡ Some old → tree.Updates name_cmp m n name (Some new) → new.items ≡ old.items → directory_of n ≡ directory_of m
directory_same m n name old new was updates same =
    let here : object (directory_of m) name ≡ Some old.items = object_of m name ∙ ap held was in
    changed_to m n name (directory_of m) (Some new) updates.1 updates.2 (here ∙ ap Some (sym same)) (λ q ne. refl)

-- Copies

zip_items : (C : Name → Name → Type 0) (D : Vec ℕ Global → Vec ℕ Global → Type 0) → ((p q : Name) → C p q → q ≡ p) → ((v w : Vec ℕ Global) → D v w → w.items ≡ v.items)
    → (es ds : List (Name × Vec ℕ Global)) → AllZip (λ p q. C p.0 q.0 × D p.1 q.1) es ds → map items_of ds ≡ map items_of es
zip_items C D same_name same_bytes [] [] zip = refl
zip_items C D same_name same_bytes [] (d ∷ ds) zip = absurd zip
zip_items C D same_name same_bytes (e ∷ es) [] zip = absurd zip
zip_items C D same_name same_bytes (e ∷ es) (d ∷ ds) zip =
    let name : d.0 ≡ e.0 = same_name e.0 d.0 zip.0.0 in
    let bytes : d.1.items ≡ e.1.items = same_bytes e.1 d.1 zip.0.1 in
    ap (λ n. (n, d.1.items) ∷ map items_of ds) name ∙ ap (λ b. (e.0, b) ∷ map items_of ds) bytes ∙ ap (λ l. (e.0, e.1.items) ∷ l) (zip_items C D same_name same_bytes es ds zip.1)

-- a clone of a map is the same directory
pub directory_cloned : (C : Name → Name → Type 0) (D : Vec ℕ Global → Vec ℕ Global → Type 0) (m n : Map) → tree.IsClone C D m n → ((p q : Name) → C p q → q ≡ p) → ((v w : Vec ℕ Global) → D v w → w.items ≡ v.items) → directory_of n ≡ directory_of m
directory_cloned C D m n clone same_name same_bytes = ap from_entries (zip_items C D same_name same_bytes m.entries n.entries clone)

pub same_items : {X : Type 0} (C : X → X → Type 0) → ((x y : X) → C x y → y ≡ x) → (xs ys : List X) → AllZip C xs ys → ys ≡ xs
same_items C same [] [] zip = refl
same_items C same [] (y ∷ ys) zip = absurd zip
same_items C same (x ∷ xs) [] zip = absurd zip
same_items C same (x ∷ xs) (y ∷ ys) zip = ap (λ z. z ∷ ys) (same x y zip.0) ∙ ap (λ l. x ∷ l) (same_items C same xs ys zip.1)
