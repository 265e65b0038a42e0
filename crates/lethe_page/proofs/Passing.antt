-- Passing over the entries of a page one after another, and what is found of a key on the way.
use Rattle.std.proofs.Common.{◌≡◌, ℕ, ◌+◌, ◌-◌, ◌<◌, ◌≤◌, Bool, true, false, cond, ltb, List, [], ◌∷◌, ◌++◌, length, Option, Some, None, Result, Ok, Err, refl, sym, ap, subst, ◌∙◌, arith, length-append}
use Rattle.std.specs.Prelude.{IfSome}
use Rattle.std.specs.Option.{option_or, is_some}
use Rattle.std.specs.Int.{w8}
use Rattle.std.proofs.lemmas.Bool.{lt-ltb, le-ltb}
use Rattle.std.proofs.lemmas.List.Folds.{find-append}
use Rattle.lethe_base.specs.Keys.{Bytes, same_key}
use Rattle.lethe_base.specs.Reading.{front_at, body_at, entry_at}
use Rattle.lethe_base.specs.Results.{◌>>=◌}
use Rattle.lethe_base.specs.Skipping.{front_end_at, front_end_of, body_end_at}
use Rattle.lethe_base.specs.Spelling.{entry_with}
use Rattle.lethe_base.specs.declared.entry.Body.{Body}
use Rattle.lethe_base.specs.declared.entry.Entry.{Entry}
use Rattle.lethe_base.specs.declared.front.Front.{Front}
use Rattle.lethe_base.specs.declared.reading.EntryRefused.{EntryRefused}
use Rattle.lethe_base.specs.declared.skipping.FrontEnd.{FrontEnd}
use Rattle.lethe_base.proofs.ReadingSteps.{bind_ok, ok_is}
use Rattle.lethe_base.proofs.SkippingLaws.{front_there}
use Rattle.lethe_page.specs.Finding.{ArePassed, IsPlaceOf, IsWithin, entry_of, found_in, key_at, key_in, passed_at}
use Rattle.lethe_page.specs.Pages.{class_byte}
use Rattle.lethe_page.specs.Reading.{IsRefused, fixed_at, head_at, page_at, is_above, last_key, front_above, entry_above, entries_above, part}
use Rattle.lethe_page.specs.declared.class.Class.{Class}
use Rattle.lethe_page.specs.declared.finding.Passed.{Passed}
use Rattle.lethe_page.specs.declared.refused.PageRefused.{PageRefused}
use Rattle.lethe_page.specs.declared.refused.PageRefused.TheVariants.{Short, Kind, Order, Trailing, NoMemory}
use Rattle.lethe_page.proofs.EntryLaws.{front_ok, part_ok, read_so}
use Rattle.lethe_page.proofs.Loop.{IsReadTo, at_first, one_more, fails_there, at_last, last_key_pushed}

-- ---- one entry

-- a part that is passed over is one that is read
part_passed : {A B : Type 0} (r : Result A EntryRefused) (f : A → B) (y : B) → part (r >>= λ x. Ok (f x)) ≡ Ok y → (x : A) × (r ≡ Ok x) × (f x ≡ y)
part_passed (Ok x) f y e = (x, refl, ok_is (f x) y e)
part_passed (Err why) f y e = absurd cc

-- one that can't be passed over can't be read
part_refused : {A B : Type 0} (r : Result A EntryRefused) (f : A → B) (why : PageRefused) → part (r >>= λ x. Ok (f x)) ≡ Err why → part r ≡ Err why
part_refused (Ok x) f why e = absurd cc
part_refused (Err w) f why e = cc

-- the front of the entry that is passed over
pub front_within : (bytes : List ℕ) (at : ℕ) (front : FrontEnd) → part (front_end_at bytes at) ≡ Ok front → (x : Front × ℕ) × (front_at bytes at ≡ Ok x) × (front_end_of x ≡ front) × (key_at bytes front ≡ x.0.key) × IsWithin bytes front
front_within bytes at front e =
    let p = part_passed (front_at bytes at) front_end_of front e in
    let there = front_there bytes at p.0 p.1 in
    (p.0, p.1, p.2, ap (key_at bytes) (sym p.2) ∙ there.is, subst (IsWithin bytes) p.2 (record { ordered = omega (arith, there.ends); within = there.within }))

module _ (class : Class) (last : Option Bytes) (bytes : List ℕ) (at : ℕ) where
  pub kind_refused : (why : PageRefused) → fixed_at w8 (class_byte class) bytes at ≡ Err why → passed_at class last bytes at ≡ Err why
  unfolding front_above
  kind_refused why k = rw k refl

  pub front_refused : (n : ℕ) (why : PageRefused) → fixed_at w8 (class_byte class) bytes at ≡ Ok n → part (front_end_at bytes at) ≡ Err why → passed_at class last bytes at ≡ Err why
  unfolding front_above
  front_refused n why k f = rw (k, part_refused (front_at bytes at) front_end_of why f) refl

  pub order_refused : (n : ℕ) (front : FrontEnd) → fixed_at w8 (class_byte class) bytes at ≡ Ok n → part (front_end_at bytes at) ≡ Ok front → is_above last (key_at bytes front) ≡ false → passed_at class last bytes at ≡ Err (Order (front.key - 1))
  unfolding front_above
  order_refused n front k f lower =
      let x = front_within bytes at front f in
      let read : front_at bytes at ≡ Ok x.0 = x.1 in
      let low : is_above last x.0.0.key ≡ false = ap (is_above last) (sym x.3) ∙ lower in
      rw (k, read, low) (ap (λ (y : FrontEnd). let r : Result Passed PageRefused = Err (Order (y.key - 1)) in r) x.2)

  -- the front of the entry as it is read
  front_passed : (n : ℕ) (front : FrontEnd) → fixed_at w8 (class_byte class) bytes at ≡ Ok n → part (front_end_at bytes at) ≡ Ok front → is_above last (key_at bytes front) ≡ true → (x : Front × ℕ) × (front_above class last bytes at ≡ Ok x) × (front_end_of x ≡ front)
  unfolding front_above
  front_passed n front k f higher =
      let x = front_within bytes at front f in
      let read : front_at bytes at ≡ Ok x.0 = x.1 in
      let high : is_above last x.0.0.key ≡ true = ap (is_above last) (sym x.3) ∙ higher in
      (x.0, rw (k, read, high) refl, x.2)

  pub body_refused : (n : ℕ) (front : FrontEnd) (why : PageRefused) → fixed_at w8 (class_byte class) bytes at ≡ Ok n → part (front_end_at bytes at) ≡ Ok front → is_above last (key_at bytes front) ≡ true → part (body_end_at front.kind bytes front.end) ≡ Err why
      → passed_at class last bytes at ≡ Err why
  body_refused n front why k f higher b =
      let x = front_passed n front k f higher in
      let body : part (body_end_at x.0.0.kind bytes x.0.1) ≡ Err why = ap (λ (y : FrontEnd). part (body_end_at y.kind bytes y.end)) x.2 ∙ b in
      rw (x.1, part_refused (body_at x.0.0.kind bytes x.0.1) (λ (y : Body × ℕ). y.1) why body) refl

  pub all_passed : (n : ℕ) (front : FrontEnd) (end : ℕ) → fixed_at w8 (class_byte class) bytes at ≡ Ok n → part (front_end_at bytes at) ≡ Ok front → is_above last (key_at bytes front) ≡ true → part (body_end_at front.kind bytes front.end) ≡ Ok end
      → passed_at class last bytes at ≡ Ok (record { front = front; end = end })
  all_passed n front end k f higher b =
      let x = front_passed n front k f higher in
      let body = part_passed (body_at x.0.0.kind bytes x.0.1) (λ (y : Body × ℕ). y.1) end (ap (λ (y : FrontEnd). part (body_end_at y.kind bytes y.end)) x.2 ∙ b) in
      let read : body_at x.0.0.kind bytes x.0.1 ≡ Ok body.0 = body.1 in
      rw (x.1, read, body.2) (ap (λ (y : FrontEnd). let r : Result Passed PageRefused = Ok (record { front = y; end = end }) in r) x.2)

abbrev as_passed : Front × ℕ → Body × ℕ → Result Passed PageRefused
as_passed front body = Ok (record { front = front_end_of front; end = body.1 })

abbrev as_read : Front × ℕ → Body × ℕ → Result (Entry × ℕ) PageRefused
as_read front body = Ok (entry_with front.0 body.0, body.1)

body_fails : (front : Front × ℕ) (body : Result (Body × ℕ) PageRefused) (why : PageRefused) → (body >>= as_passed front) ≡ Err why → (body >>= as_read front) ≡ Err why
body_fails front (Ok body) why e = absurd cc
body_fails front (Err w) why e = cc

parts_fail : (bytes : List ℕ) (front : Result (Front × ℕ) PageRefused) (why : PageRefused) → (front >>= λ f. part (body_at f.0.kind bytes f.1) >>= as_passed f) ≡ Err why → (front >>= λ f. part (body_at f.0.kind bytes f.1) >>= as_read f) ≡ Err why
parts_fail bytes (Ok front) why e = body_fails front (part (body_at front.0.kind bytes front.1)) why e
parts_fail bytes (Err w) why e = cc

-- an entry that can't be passed over can't be read
entry_fails : (class : Class) (last : Option Bytes) (bytes : List ℕ) (at : ℕ) (why : PageRefused) → passed_at class last bytes at ≡ Err why → entry_above class last bytes at ≡ Err why
unfolding entry_above
entry_fails class last bytes at why e = parts_fail bytes (front_above class last bytes at) why e

above_read : (class : Class) (last : Option Bytes) (bytes : List ℕ) (at : ℕ) (front : Front × ℕ) (body : Body × ℕ) → front_above class last bytes at ≡ Ok front → body_at front.0.kind bytes front.1 ≡ Ok body → entry_above class last bytes at ≡ Ok (entry_with front.0 body.0, body.1)
unfolding entry_above
above_read class last bytes at front body f b = rw (f, b) refl

-- the entry that is passed over, as it is read of itself and in the page
pub record IsPassed (class : Class) (last : Option Bytes) (bytes : List ℕ) (at : ℕ) (passed : Passed) : Type 0 where
  pub entry : Entry
  pub above : entry_above class last bytes at ≡ Ok (entry, passed.end)
  pub alone : entry_at bytes at ≡ Ok (entry, passed.end)
  pub named : key_at bytes passed.front ≡ entry.key
  pub within : IsWithin bytes passed.front

pub entry_passed : (class : Class) (last : Option Bytes) (bytes : List ℕ) (at : ℕ) (passed : Passed) → passed_at class last bytes at ≡ Ok passed → IsPassed class last bytes at passed
entry_passed class last bytes at passed e =
    let a = bind_ok (front_above class last bytes at) (λ front. part (body_at front.0.kind bytes front.1) >>= λ body. Ok (record { front = front_end_of front; end = body.1 })) passed e in
    let b = bind_ok (part (body_at a.0.0.kind bytes a.0.1)) (λ body. Ok (record { front = front_end_of a.0; end = body.1 })) passed a.2 in
    let made : Passed = record { front = front_end_of a.0; end = b.0.1 } in
    let is : made ≡ passed = ok_is made passed b.2 in
    let front = front_ok class last bytes at a.0 a.1 in
    let body : body_at a.0.0.kind bytes a.0.1 ≡ Ok b.0 = part_ok (body_at a.0.0.kind bytes a.0.1) b.0 b.1 in
    let there = front_there bytes at a.0 front.1 in
    subst (IsPassed class last bytes at) is (record {
      entry = entry_with a.0.0 b.0.0;
      above = above_read class last bytes at a.0 b.0 a.1 body;
      alone = read_so bytes at a.0 b.0 front.1 body;
      named = there.is;
      within = record { ordered = omega (arith, there.ends); within = there.within };
    })

-- ---- the loop

-- so many entries are passed over up to a place, the key of the last of them stands there, and the key was looked for in them
pub record IsPassedTo (class : Class) (count : ℕ) (key : Bytes) (bytes : List ℕ) (found : Option ℕ) (last : Option FrontEnd) (at passed : ℕ) : Type 0 where
  pub entries : List Entry
  pub read : IsReadTo class count bytes entries at
  pub many : length entries ≡ passed
  pub named : last_key entries ≡ key_in bytes last
  pub within : IfSome last (IsWithin bytes)
  pub place : IsPlaceOf key bytes entries found

pub none_passed : (class : Class) (count : ℕ) (key : Bytes) (bytes : List ℕ) → IsPassedTo class count key bytes None None 8 0
none_passed class count key bytes = record {
  entries = [];
  read = at_first class count bytes;
  many = refl;
  named = refl;
  within = tt;
  place = refl;
}

-- the place, with one more entry
abbrev pub or_here : Option ℕ → Bool → ℕ → Option ℕ
or_here (Some place) is at = Some place
or_here None is at = cond is (Some at) None

pub is_here : (found : Option ℕ) (is : Bool) (at : ℕ) → is_some found ≡ false → is ≡ true → Some at ≡ or_here found is at
is_here None is at none e = ap (λ (b : Bool). cond b (Some at) None) (sym e)
is_here (Some place) is at none e = absurd cc

pub not_here : (found : Option ℕ) (is : Bool) (at : ℕ) → is ≡ false → found ≡ or_here found is at
not_here None is at e = ap (λ (b : Bool). cond b (Some at) None) (sym e)
not_here (Some place) is at e = refl

pub found_before : (found : Option ℕ) (is : Bool) (at : ℕ) → is_some found ≡ true → found ≡ or_here found is at
found_before None is at some = absurd cc
found_before (Some place) is at some = refl

place_more : (key : Bytes) (bytes : List ℕ) (entries : List Entry) (found : Option ℕ) (at end : ℕ) (entry : Entry) → entry_at bytes at ≡ Ok (entry, end) → IsPlaceOf key bytes entries found → IsPlaceOf key bytes (entries ++ entry ∷ []) (or_here found (same_key entry.key key) at)
place_more key bytes entries (Some place) at end entry alone p = (p.0, p.1, find-append (λ (e : Entry). same_key e.key key) entries (entry ∷ []) ∙ ap (λ (o : Option Entry). option_or o (entry_of key (entry ∷ []))) p.2)
place_more key bytes entries None at end entry alone p = by (same_key entry.key key) refl
  where
    more : entry_of key (entries ++ entry ∷ []) ≡ entry_of key (entry ∷ [])
    more = find-append (λ (e : Entry). same_key e.key key) entries (entry ∷ []) ∙ ap (λ (o : Option Entry). option_or o (entry_of key (entry ∷ []))) p

    by : (is : Bool) → same_key entry.key key ≡ is → IsPlaceOf key bytes (entries ++ entry ∷ []) (or_here None is at)
    by true is = ((entry, end), alone, more ∙ ap (λ (b : Bool). cond b (Some entry) None) is)
    by false is = more ∙ ap (λ (b : Bool). cond b (Some entry) None) is

module _ (class : Class) (count : ℕ) (key : Bytes) (bytes : List ℕ) (found : Option ℕ) (last : Option FrontEnd) (at passed : ℕ) (so_far : IsPassedTo class count key bytes found last at passed) where
  pub one_passed : (next : Passed) → passed < count → passed_at class (key_in bytes last) bytes at ≡ Ok next → IsPassedTo class count key bytes (or_here found (same_key (key_at bytes next.front) key) at) (Some next.front) next.end (passed + 1)
  one_passed next fewer e =
      let one = entry_passed class (key_in bytes last) bytes at next e in
      let entries = so_far.entries in
      let above : entry_above class (last_key entries) bytes at ≡ Ok (one.entry, next.end) = ap (λ (k : Option Bytes). entry_above class k bytes at) so_far.named ∙ one.above in
      let more = place_more key bytes entries found at next.end one.entry one.alone so_far.place in
      record {
        entries = entries ++ one.entry ∷ [];
        read = one_more class count bytes entries at so_far.read one.entry next.end (omega (arith, so_far.many)) above;
        many = omega (arith, so_far.many, length-append entries (one.entry ∷ []));
        named = last_key_pushed entries one.entry ∙ ap (λ (k : Bytes). Some k) (sym one.named);
        within = one.within;
        place = subst (λ (k : Bytes). IsPlaceOf key bytes (entries ++ one.entry ∷ []) (or_here found (same_key k key) at)) (sym one.named) more;
      }

  pub passing_fails : (why : PageRefused) → passed < count → passed_at class (key_in bytes last) bytes at ≡ Err why → entries_above class count None bytes 8 ≡ Err why
  passing_fails why fewer e =
      let fails = entry_fails class (key_in bytes last) bytes at why e in
      fails_there class count bytes so_far.entries at so_far.read why (omega (arith, so_far.many)) (ap (λ (k : Option Bytes). entry_above class k bytes at) so_far.named ∙ fails)

  pub passed_all : (passed < count → ⊥) → ArePassed class count key bytes found at
  passed_all none = record {
    entries = so_far.entries;
    all = omega (arith, so_far.many, so_far.read.few);
    read = at_last class count bytes so_far.entries at so_far.read (λ fewer. none (omega (arith, so_far.many, fewer)));
    place = so_far.place;
  }

-- ---- the page

pub refused_if : {A : Type 0} (why : PageRefused) (read : Result A PageRefused) → read ≡ Err why → IsRefused why read
refused_if (Short place) read e = e
refused_if (Kind place) read e = e
refused_if (Order place) read e = e
refused_if (Trailing place) read e = e
refused_if NoMemory read e = tt

module _ (key : Bytes) (bytes : List ℕ) where
  pub head_fails : (why : PageRefused) → head_at bytes ≡ Err why → found_in key bytes ≡ Err why
  unfolding page_at
  head_fails why h = rw h refl

  pub entries_fail : (class : Class) (count : ℕ) (why : PageRefused) → head_at bytes ≡ Ok (class, count) → entries_above class count None bytes 8 ≡ Err why → found_in key bytes ≡ Err why
  unfolding page_at
  entries_fail class count why h e = rw (h, e) refl

  module _ (class : Class) (count : ℕ) (found : Option ℕ) (end : ℕ) (head : head_at bytes ≡ Ok (class, count)) (passed : ArePassed class count key bytes found end) where
    pub page_goes_on : end < length bytes → found_in key bytes ≡ Err (Trailing end)
    unfolding page_at
    page_goes_on more =
        let read = passed.read in
        let rest : ltb end (length bytes) ≡ true = lt-ltb end (length bytes) more in
        rw (head, read, rest) refl

    pub page_ends : (entry : Option Entry) → length bytes ≤ end → entry ≡ entry_of key passed.entries → found_in key bytes ≡ Ok (record { class = class; entries = count; entry = entry })
    unfolding page_at
    page_ends entry all is =
        let read = passed.read in
        let none : ltb end (length bytes) ≡ false = le-ltb end (length bytes) all in
        rw (head, read, none, passed.all, is) refl
