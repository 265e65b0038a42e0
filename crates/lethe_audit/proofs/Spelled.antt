-- What an object spells is one, and so is the list of all entries that are held.
use Rattle.std.proofs.Common.{◌≡◌, ◌↔◌, ℕ, List, [], ◌∷◌, ◌++◌, Contains, Some, refl, sym, ap, ◌∙◌, subst}
use Rattle.std.specs.Prelude.{filter_map, flat_map, is_some}
use Rattle.std.specs.FinMap.{keys}
use Rattle.std.specs.List.{AllZip}
use Rattle.std.proofs.Math.Logic.{⊎_elim}
use Rattle.lethe_base.specs.declared.entry.Entry.{Entry}
use Rattle.lethe_base.specs.declared.name.Kind.{Kind}
use Rattle.lethe_base.specs.declared.name.Kind.TheVariants as kinds
use Rattle.lethe_base.specs.declared.name.Name.{Name}
use Rattle.lethe_base.specs.declared.pending.Pending.{Pending}
use Rattle.lethe_base.proofs.LayoutLaws.{none_in}
use Rattle.lethe_base.proofs.Newest.{first_is, first_or_rest}
use Rattle.lethe_commit.proofs.Listed.{listed}
use Rattle.lethe_cover.proofs.Lists.{flat_from, flat_in, in_rest}
use Rattle.lethe_disk.specs.Directory.{Directory, object}
use Rattle.lethe_disk.proofs.Objects.{one_object}
use Rattle.lethe_manifest.specs.declared.manifest.Manifest.{Manifest}
use Rattle.lethe_page.proofs.PageLaws.{same_page}
use Rattle.lethe_segment.specs.declared.record.Record.{Record}
use Rattle.lethe_segment.proofs.Runs.{same_segment}
use Rattle.lethe_stored.specs.Clean.{IsHeldIn, Spells, entry_of}
use Rattle.lethe_stored.specs.Stored.{erase_of, segment_name}
use Rattle.lethe_audit.specs.Held.{AreHeld, ArePending, HasAllRecords, HasEntries}

-- Lists that agree one by one

-- two that agree with one list are one, where an item agrees with one alone
pub one_zip : {X Y : Type 0} (R : X → Y → Type 0) → ((x : X) (a b : Y) → R x a → R x b → a ≡ b) → (xs : List X) (ys zs : List Y) → AllZip R xs ys → AllZip R xs zs → ys ≡ zs
one_zip R one [] [] [] a b = refl
one_zip R one [] [] (z ∷ zs) a b = absurd b
one_zip R one [] (y ∷ ys) zs a b = absurd a
one_zip R one (x ∷ xs) [] zs a b = absurd a
one_zip R one (x ∷ xs) (y ∷ ys) [] a b = absurd b
one_zip R one (x ∷ xs) (y ∷ ys) (z ∷ zs) a b = let first = one x y z a.0 b.0 in let rest = one_zip R one xs ys zs a.1 b.1 in λ i. first i ∷ rest i

pub zip_left_of : {X Y : Type 0} (R : X → Y → Type 0) (xs : List X) (ys : List Y) (y : Y) → AllZip R xs ys → Contains ys y → (x : X) × Contains xs x × R x y
zip_left_of R [] [] y zipped there = absurd (none_in y there)
zip_left_of R [] (first ∷ ys) y zipped there = absurd zipped
zip_left_of R (x ∷ xs) [] y zipped there = absurd zipped
zip_left_of R (x ∷ xs) (first ∷ ys) y zipped there = ⊎_elim
    (λ (same : first ≡ y). (x, first_is x xs x refl, subst (R x) same zipped.0))
    (λ rest. let more = zip_left_of R xs ys y zipped.1 rest in (more.0, in_rest x xs more.0 more.1, more.2))
    (first_or_rest first ys y there)

pub zip_right_of : {X Y : Type 0} (R : X → Y → Type 0) (xs : List X) (ys : List Y) (x : X) → AllZip R xs ys → Contains xs x → (y : Y) × Contains ys y × R x y
zip_right_of R [] ys x zipped there = absurd (none_in x there)
zip_right_of R (first ∷ xs) [] x zipped there = absurd zipped
zip_right_of R (first ∷ xs) (y ∷ ys) x zipped there = ⊎_elim
    (λ (same : first ≡ x). (y, first_is y ys y refl, subst (λ z. R z y) same zipped.0))
    (λ rest. let more = zip_right_of R xs ys x zipped.1 rest in (more.0, in_rest y ys more.0 more.1, more.2))
    (first_or_rest first xs x there)

-- Objects

pub spells_once : (kind : Kind) (number : ℕ) (bytes : List ℕ) (a b : List Entry) → Spells kind number bytes a → Spells kind number bytes b → a ≡ b
spells_once kinds.Gate number bytes a b x y = x.1 ∙ sym y.1
spells_once kinds.Manifest number bytes a b x y = x.1 ∙ sym y.1
spells_once kinds.Segment number bytes a b x y =
    let records : x.records ≡ y.records = (same_segment number number x.records y.records x.fits y.fits x.ascends y.ascends (sym x.is ∙ y.is)).1 in
    x.those ∙ ap (filter_map entry_of) records ∙ sym y.those
spells_once kinds.File number bytes a b x y = x.1 ∙ sym y.1
spells_once kinds.Page number bytes a b x y = (same_page x.class y.class a b x.spelled y.spelled (sym x.is ∙ y.is)).1

module _ (d : Directory) where
  pub one_entries : (name : Name) (a b : List Entry) → HasEntries d name a → HasEntries d name b → a ≡ b
  one_entries name a b x y =
      spells_once name.kind name.no x.bytes a b x.spelled (subst (λ bytes. Spells name.kind name.no bytes b) (one_object (object d name) y.bytes x.bytes y.there x.there) y.spelled)

  pub one_held : (a b : List Entry) → AreHeld d a → AreHeld d b → a ≡ b
  one_held a b x y = x.joined ∙ ap (flat_map (λ list. list)) (one_zip (HasEntries d) one_entries (keys d) x.lists y.lists x.each y.each) ∙ sym y.joined

  pub held_all : (held : List Entry) → AreHeld d held → (entry : Entry) → Contains held entry ↔ IsHeldIn d entry
  held_all held all entry = (
    (λ there.
        let found = flat_from (λ list. list) all.lists entry (subst (λ l. Contains l entry) all.joined there) in
        let name = zip_left_of (HasEntries d) (keys d) all.lists found.0 all.each found.1 in
        record { name = name.0; bytes = name.2.bytes; there = name.2.there; entries = found.0; spelled = name.2.spelled; among = found.2 }),
    (λ is.
        let list = zip_right_of (HasEntries d) (keys d) all.lists is.name all.each ((listed d is.name).1 (ap is_some is.there)) in
        let same : is.entries ≡ list.0 = one_entries is.name is.entries list.0 (record { bytes = is.bytes; there = is.there; spelled = is.spelled }) list.2 in
        subst (λ l. Contains l entry) (sym all.joined) (flat_in (λ list. list) all.lists list.0 entry list.1 (subst (λ l. Contains l entry) same is.among))),
  )

  -- Erases

  pub one_records : (number : ℕ) (a b : List Record) → HasAllRecords d number a → HasAllRecords d number b → a ≡ b
  one_records number a b x y = (same_segment number number a b x.fits y.fits x.ascends y.ascends (one_object (object d (segment_name number)) _ _ x.there y.there)).1

  pub one_pending : (m : Manifest) (a b : List Pending) → ArePending d m a → ArePending d m b → a ≡ b
  one_pending m a b x y =
      x.joined ∙ ap (λ segments. m.erases ++ flat_map (filter_map erase_of) segments) (one_zip (HasAllRecords d) one_records m.segments x.segments y.segments x.each y.each) ∙ sym y.joined
