-- The entries of a page: what is read stands there, and what stands there is read.
use Rattle.std.proofs.Common.{◌≡◌, ℕ, zero, suc, ◌-◌, true, cond, List, [], ◌∷◌, length, flat_map, All, Option, Some, None, Result, Ok, Err, refl, sym, ap, subst, ◌∙◌, arith}
use Rattle.std.specs.Int.{w8}
use Rattle.std.specs.Ordering.{is_lt}
use Rattle.std.specs.declared.cmp.Ordering.{Ordering}
use Rattle.std.specs.declared.cmp.Ordering.TheVariants.{Less, Equal, Greater}
use Rattle.std.specs.Cmp.Lexicographic.{nat_list_cmp_total}
use Rattle.std.specs.FinMap.Entries.{below_all}
use Rattle.std.proofs.lemmas.Bool.{and_parts, and_from}
use Rattle.lethe_base.specs.Entries.{by_key, IsAscending}
use Rattle.lethe_base.specs.Keys.{Bytes, key_cmp}
use Rattle.lethe_base.specs.Numbers.{number_at, IsBytes}
use Rattle.lethe_base.specs.Reading.{StandsAt, front_at, body_at, entry_at}
use Rattle.lethe_base.specs.Results.{◌>>=◌}
use Rattle.lethe_base.specs.Spelling.{kind_byte, kind_of, entry_bytes, entry_with}
use Rattle.lethe_base.specs.declared.entry.Body.{Body}
use Rattle.lethe_base.specs.declared.entry.Entry.{Entry}
use Rattle.lethe_base.specs.declared.front.BodyKind.{BodyKind}
use Rattle.lethe_base.specs.declared.front.BodyKind.TheVariants as kinds
use Rattle.lethe_base.specs.declared.front.Front.{Front}
use Rattle.lethe_base.specs.declared.reading.EntryRefused.{EntryRefused}
use Rattle.lethe_base.proofs.EntryLaws.{entry_stands, entry_again, entry_first}
use Rattle.lethe_base.proofs.FieldLaws.{first_byte, stands_then, stands_parts}
use Rattle.lethe_base.proofs.ReadingSteps.{bind_ok, met_test, ok_is}
use Rattle.lethe_page.specs.Pages.{class_byte, kind_in, IsIn}
use Rattle.lethe_page.specs.Reading.{part, fixed_at, is_above, front_above, entry_above, entries_above}
use Rattle.lethe_page.specs.declared.class.Class.{Class}
use Rattle.lethe_page.specs.declared.class.Class.TheVariants.{Puts, Tombs}
use Rattle.lethe_page.specs.declared.refused.PageRefused.{PageRefused}
use Rattle.lethe_page.specs.declared.refused.PageRefused.TheVariants.{Order}
use Rattle.lethe_page.proofs.HeadLaws.{fixed_ok, fixed_again}

-- ---- the order of the keys

-- each key is above the one before
abbrev pub Above : Option Bytes → List Entry → Type 0
Above last [] = Unit {0}
Above last (e ∷ es) = (is_above last e.key ≡ true) × Above (Some e.key) es

less_is : (r : Ordering) → is_lt r ≡ true → r ≡ Less
less_is Less h = refl
less_is Equal h = absurd cc
less_is Greater h = absurd cc

below_less : (x y : Bytes) (es : List Entry) → key_cmp x y ≡ Less → below_all key_cmp y (by_key es) ≡ true → below_all key_cmp x (by_key es) ≡ true
below_less x y [] lt h = refl
below_less x y (e ∷ es) lt h =
    let parts = and_parts _ _ h in
    and_from _ _ (ap is_lt (nat_list_cmp_total.trans x y e.key lt (less_is _ parts.0))) (below_less x y es lt parts.1)

above_all : (key : Bytes) (es : List Entry) → Above (Some key) es → below_all key_cmp key (by_key es) ≡ true
above_all key [] h = refl
above_all key (e ∷ es) h = and_from _ _ h.0 (below_less key e.key es (less_is _ h.0) (above_all e.key es h.1))

pub ascending_if : (last : Option Bytes) (es : List Entry) → Above last es → IsAscending es
ascending_if last [] h = refl
ascending_if last (e ∷ es) h = and_from _ _ (above_all e.key es h.1) (ascending_if (Some e.key) es h.1)

above_next : (key : Bytes) (es : List Entry) → below_all key_cmp key (by_key es) ≡ true → IsAscending es → Above (Some key) es
above_next key [] below s = tt
above_next key (e ∷ es) below s = let rest = and_parts _ _ s in ((and_parts _ _ below).0, above_next e.key es rest.0 rest.1)

pub above_if : (es : List Entry) → IsAscending es → Above None es
above_if [] s = tt
above_if (e ∷ es) s = let rest = and_parts _ _ s in (refl, above_next e.key es rest.0 rest.1)

-- ---- one entry

pub part_ok : {A : Type 0} (r : Result A EntryRefused) (x : A) → part r ≡ Ok x → r ≡ Ok x
part_ok (Ok y) x e = ap (λ y. Ok y) (ok_is y x e)
part_ok (Err why) x e = absurd cc

same_some : (m n : ℕ) → Some m ≡ Some n → m ≡ n
same_some m n e = cc

-- one byte for each kind
kind_is : (kind : BodyKind) (class : Class) → kind_byte kind ≡ class_byte class → kind ≡ kind_in class
kind_is kinds.Put Puts e = refl
kind_is kinds.Put Tombs e = absurd (omega (arith, e))
kind_is kinds.Tomb Puts e = absurd (omega (arith, e))
kind_is kinds.Tomb Tombs e = refl

byte_of : (class : Class) → kind_byte (kind_in class) ≡ class_byte class
byte_of Puts = refl
byte_of Tombs = refl

-- where an entry stands, its kind does
kind_there : (bytes : List ℕ) (at end : ℕ) (e : Entry) → StandsAt (entry_bytes e) bytes at end → number_at w8 bytes at ≡ Some (kind_byte (kind_of e.body))
kind_there bytes at end e p = let first = entry_first e in first_byte (kind_byte (kind_of e.body)) first.0 bytes at end (subst (λ (l : List ℕ). StandsAt l bytes at end) first.1 p)

pub front_ok : (class : Class) (last : Option Bytes) (bytes : List ℕ) (at : ℕ) (x : Front × ℕ) → front_above class last bytes at ≡ Ok x → (number_at w8 bytes at ≡ Some (class_byte class)) × (front_at bytes at ≡ Ok x) × (is_above last x.0.key ≡ true)
unfolding front_above
front_ok class last bytes at x e =
    let a = bind_ok (fixed_at w8 (class_byte class) bytes at) (λ _. part (front_at bytes at) >>= λ front. cond (is_above last front.0.key) (Ok front) (Err (Order (front.1 - length front.0.key - 1)))) x e in
    let b = bind_ok (part (front_at bytes at)) (λ front. cond (is_above last front.0.key) (Ok front) (Err (Order (front.1 - length front.0.key - 1)))) x a.2 in
    let g = met_test (is_above last b.0.0.key) b.0 (Order (b.0.1 - length b.0.0.key - 1)) x b.2 in
    (fixed_ok w8 (class_byte class) bytes at a.0 a.1, part_ok (front_at bytes at) b.0 b.1 ∙ ap (λ y. Ok y) g.1, ap (λ (y : Front × ℕ). is_above last y.0.key) (sym g.1) ∙ g.0)

-- an entry by its front and its body, as it is read of itself and in a page
pub read_so : (bytes : List ℕ) (at : ℕ) (front : Front × ℕ) (body : Body × ℕ) → front_at bytes at ≡ Ok front → body_at front.0.kind bytes front.1 ≡ Ok body → entry_at bytes at ≡ Ok (entry_with front.0 body.0, body.1)
unfolding entry_at
read_so bytes at front body f b = rw (f, b) refl

above_so : (class : Class) (last : Option Bytes) (bytes : List ℕ) (at : ℕ) (front : Front × ℕ) (body : Body × ℕ) → number_at w8 bytes at ≡ Some (class_byte class) → front_at bytes at ≡ Ok front → is_above last front.0.key ≡ true → body_at front.0.kind bytes front.1 ≡ Ok body
    → entry_above class last bytes at ≡ Ok (entry_with front.0 body.0, body.1)
unfolding entry_above front_above
above_so class last bytes at front body kind f higher b = rw (fixed_again w8 (class_byte class) bytes at kind, f, higher, b) refl

pub entry_ok : (class : Class) (last : Option Bytes) (bytes : List ℕ) (at : ℕ) (x : Entry × ℕ) → IsBytes bytes → entry_above class last bytes at ≡ Ok x → StandsAt (entry_bytes x.0) bytes at x.1 × IsIn class x.0 × (is_above last x.0.key ≡ true)
unfolding entry_above
entry_ok class last bytes at x fits e =
    let a = bind_ok (front_above class last bytes at) (λ front. part (body_at front.0.kind bytes front.1) >>= λ body. Ok (entry_with front.0 body.0, body.1)) x e in
    let b = bind_ok (part (body_at a.0.0.kind bytes a.0.1)) (λ body. Ok (entry_with a.0.0 body.0, body.1)) x a.2 in
    let made : Entry × ℕ = (entry_with a.0.0 b.0.0, b.0.1) in
    let front = front_ok class last bytes at a.0 a.1 in
    let body : body_at a.0.0.kind bytes a.0.1 ≡ Ok b.0 = part_ok (body_at a.0.0.kind bytes a.0.1) b.0 b.1 in
    let is : made ≡ x = ok_is made x b.2 in
    let whole : entry_at bytes at ≡ Ok made = read_so bytes at a.0 b.0 front.1 body in
    let stands = entry_stands bytes at x fits (whole ∙ ap (λ y. Ok y) is) in
    let kind = same_some _ _ (sym (kind_there bytes at x.1 x.0 stands.0) ∙ front.0) in
    (stands.0, record { kind = kind_is (kind_of x.0.body) class kind; spelled = stands.1 }, ap (λ (y : Entry × ℕ). is_above last y.0.key) (sym is) ∙ front.2)

pub entry_back : (class : Class) (last : Option Bytes) (bytes : List ℕ) (at end : ℕ) (entry : Entry) → IsIn class entry → is_above last entry.key ≡ true → StandsAt (entry_bytes entry) bytes at end → entry_above class last bytes at ≡ Ok (entry, end)
unfolding entry_at
entry_back class last bytes at end entry fits above p =
    let whole = entry_again bytes at end entry fits.spelled p in
    let a = bind_ok (front_at bytes at) (λ front. body_at front.0.kind bytes front.1 >>= λ body. Ok (entry_with front.0 body.0, body.1)) (entry, end) whole in
    let b = bind_ok (body_at a.0.0.kind bytes a.0.1) (λ body. Ok (entry_with a.0.0 body.0, body.1)) (entry, end) a.2 in
    let made : Entry × ℕ = (entry_with a.0.0 b.0.0, b.0.1) in
    let is : made ≡ (entry, end) = ok_is made (entry, end) b.2 in
    let kind : number_at w8 bytes at ≡ Some (class_byte class) = kind_there bytes at end entry p ∙ ap (λ (k : BodyKind). Some (kind_byte k)) fits.kind ∙ ap (λ (n : ℕ). Some n) (byte_of class) in
    let higher : is_above last a.0.0.key ≡ true = ap (λ (y : Entry × ℕ). is_above last y.0.key) is ∙ above in
    subst (λ (y : Entry × ℕ). entry_above class last bytes at ≡ Ok y) {x = made} is (above_so class last bytes at a.0 b.0 kind a.1 higher b.1)

-- ---- all entries

all_more : (class : Class) (e : Entry) (es : List Entry) → IsIn class e → All (IsIn class) es → All (IsIn class) (e ∷ es)
all_more class e es first rest zero d lt = first
all_more class e es first rest (suc k) d lt = rest k d (omega arith)

pub entries_ok : (class : Class) (n : ℕ) (last : Option Bytes) (bytes : List ℕ) (at : ℕ) (x : List Entry × ℕ) → IsBytes bytes → StandsAt [] bytes at at → entries_above class n last bytes at ≡ Ok x
    → StandsAt (flat_map entry_bytes x.0) bytes at x.1 × (length x.0 ≡ n) × All (IsIn class) x.0 × Above last x.0
entries_ok class zero last bytes at x fits here e =
    subst (λ (y : List Entry × ℕ). StandsAt (flat_map entry_bytes y.0) bytes at y.1 × (length y.0 ≡ 0) × All (IsIn class) y.0 × Above last y.0) (ok_is ([], at) x e) (here, refl, (λ k d lt. absurd (omega arith)), tt)
entries_ok class (suc n) last bytes at x fits here e =
    let a = bind_ok (entry_above class last bytes at) (λ first. entries_above class n (Some first.0.key) bytes first.1 >>= λ rest. Ok (first.0 ∷ rest.0, rest.1)) x e in
    let b = bind_ok (entries_above class n (Some a.0.0.key) bytes a.0.1) (λ rest. Ok (a.0.0 ∷ rest.0, rest.1)) x a.2 in
    let made : List Entry × ℕ = (a.0.0 ∷ b.0.0, b.0.1) in
    let first = entry_ok class last bytes at a.0 fits a.1 in
    let behind : StandsAt [] bytes a.0.1 a.0.1 = record { parts = refl; ends = omega arith; within = first.0.within } in
    let rest = entries_ok class n (Some a.0.0.key) bytes a.0.1 b.0 fits behind b.1 in
    subst (λ (y : List Entry × ℕ). StandsAt (flat_map entry_bytes y.0) bytes at y.1 × (length y.0 ≡ suc n) × All (IsIn class) y.0 × Above last y.0) {x = made} (ok_is made x b.2)
    (stands_then (entry_bytes a.0.0) (flat_map entry_bytes b.0.0) bytes at a.0.1 b.0.1 first.0 rest.0, ap suc rest.1, all_more class a.0.0 b.0.0 first.1 rest.2, (first.2, rest.3))

pub entries_back : (class : Class) (entries : List Entry) (last : Option Bytes) (bytes : List ℕ) (at end : ℕ) → All (IsIn class) entries → Above last entries → StandsAt (flat_map entry_bytes entries) bytes at end → entries_above class (length entries) last bytes at ≡ Ok (entries, end)
entries_back class [] last bytes at end each above p = let ends : at ≡ end = omega (arith, p.ends) in ap (λ (n : ℕ). let read : Result (List Entry × ℕ) PageRefused = Ok ([], n) in read) ends
entries_back class (e ∷ es) last bytes at end each above p =
    let parts = stands_parts (entry_bytes e) (flat_map entry_bytes es) bytes at end p in
    let rest = entries_back class es (Some e.key) bytes _ end (λ k d lt. each (suc k) d (omega arith)) above.1 parts.1 in
    rw (entry_back class last bytes at _ e (each 0 e (omega arith)) above.0 parts.0, rest) refl
