-- No option is given twice: told of what comes behind each, and of what came before it.
use Rattle.std.proofs.Common.{◌≡◌, ◌∙◌, ◌&&◌, Bool, cond, true, false, not, refl, sym, ap, ap₂, List, [], ◌∷◌, ◌++◌, Option, Some, None, find, is_none, option_map, option_and_then, true≢false, bytes_eq}
use Rattle.std.specs.List.{list_all}
use Rattle.std.proofs.lemmas.Slice.Eq.{bytes_eq-Decides}
use Rattle.lethe_base.specs.Keys.{Bytes}
use Rattle.lethe_words.specs.Options.{Given, are_options, checked, given_to, is_option, pairs, options_of}

-- each is an option, and none was given before
abbrev pub are_new : List Given → List Given → Bool
are_new before [] = true
are_new before (g ∷ more) = is_option g.0 && (is_none (given_to g.0 before) && are_new (before ++ g ∷ []) more)

-- these, if they are options, behind what was given before
abbrev pub judged : List Given → List Given → Option (List Given)
judged before more = cond (are_new before more) (Some (before ++ more)) None

-- none of these was given before
abbrev apart : List Given → List Given → Bool
apart before more = list_all (λ g. is_none (given_to g.0 before)) more

same_either_way : (a b : Bytes) → bytes_eq a b ≡ bytes_eq b a
same_either_way a b = go (bytes_eq a b) (bytes_eq b a) refl refl
  where
    go : (p q : Bool) → bytes_eq a b ≡ p → bytes_eq b a ≡ q → p ≡ q
    go true true is back = refl
    go false false is back = refl
    go true false is back = absurd (true≢false (sym ((bytes_eq-Decides b a).1 (sym ((bytes_eq-Decides a b).0 is))) ∙ back))
    go false true is back = absurd (true≢false (sym ((bytes_eq-Decides a b).1 (sym ((bytes_eq-Decides b a).0 back))) ∙ is))

none_behind : (g : Given) (before : List Given) (name : Bytes) → is_none (given_to name (before ++ g ∷ [])) ≡ (is_none (given_to name before) && not (bytes_eq g.0 name))
none_behind g [] name = go (bytes_eq g.0 name)
  where
    go : (b : Bool) → is_none (option_map (λ (x : Given). x.1) (cond b (Some g) None)) ≡ not b
    go true = refl
    go false = refl
none_behind g (x ∷ before) name = go (bytes_eq x.0 name) (none_behind g before name)
  where
    go : (b : Bool) → is_none (given_to name (before ++ g ∷ [])) ≡ (is_none (given_to name before) && not (bytes_eq g.0 name))
        → is_none (option_map (λ (y : Given). y.1) (cond b (Some x) (find (λ (y : Given). bytes_eq y.0 name) (before ++ g ∷ []))))
        ≡ (is_none (option_map (λ (y : Given). y.1) (cond b (Some x) (find (λ (y : Given). bytes_eq y.0 name) before))) && not (bytes_eq g.0 name))
    go true e = refl
    go false e = e

none_ahead : (x : Given) (more : List Given) (name : Bytes) → is_none (given_to name (x ∷ more)) ≡ (not (bytes_eq x.0 name) && is_none (given_to name more))
none_ahead x more name = go (bytes_eq x.0 name)
  where
    go : (b : Bool) → is_none (option_map (λ (y : Given). y.1) (cond b (Some x) (find (λ (y : Given). bytes_eq y.0 name) more))) ≡ (not b && is_none (given_to name more))
    go true = refl
    go false = refl

crossed : (p q w m : Bool) → ((p && q) && (w && m)) ≡ ((p && w) && (q && m))
crossed false q w m = refl
crossed true false false m = refl
crossed true false true m = refl
crossed true true w m = refl

apart_behind : (g : Given) (before more : List Given) → apart (before ++ g ∷ []) more ≡ (apart before more && is_none (given_to g.0 more))
apart_behind g before [] = refl
apart_behind g before (x ∷ more) =
    ap₂ ◌&&◌ (none_behind g before x.0) (apart_behind g before more)
    ∙ crossed (is_none (given_to x.0 before)) (not (bytes_eq g.0 x.0)) (apart before more) (is_none (given_to g.0 more))
    ∙ ap (λ b. (is_none (given_to x.0 before) && apart before more) && (not b && is_none (given_to g.0 more))) (same_either_way g.0 x.0)
    ∙ ap (λ b. (is_none (given_to x.0 before) && apart before more) && b) (sym (none_ahead x more g.0))

sorted_out : (k n a w m : Bool) → (k && (n && ((a && (w && m))))) ≡ ((k && (m && a)) && (n && w))
sorted_out false n a w m = refl
sorted_out true false a w false = refl
sorted_out true false false w true = refl
sorted_out true false true w true = refl
sorted_out true true false w false = refl
sorted_out true true false w true = refl
sorted_out true true true false false = refl
sorted_out true true true false true = refl
sorted_out true true true true false = refl
sorted_out true true true true true = refl

new_is : (before more : List Given) → are_new before more ≡ (are_options more && apart before more)
new_is before [] = refl
new_is before (g ∷ more) =
    ap (λ b. is_option g.0 && (is_none (given_to g.0 before) && b)) (new_is (before ++ g ∷ []) more ∙ ap (λ b. are_options more && b) (apart_behind g before more))
    ∙ sorted_out (is_option g.0) (is_none (given_to g.0 before)) (are_options more) (apart before more) (is_none (given_to g.0 more))

-- ---- what stands in front of options is none

abbrev pub are_none : List Given → Bool
are_none front = list_all (λ g. not (is_option g.0)) front

both : (a b : Bool) → (a && b) ≡ true → (a ≡ true) × (b ≡ true)
both true b e = (refl, e)
both false b e = absurd (true≢false (sym e))

not_in_front : (front : List Given) → are_none front ≡ true → (name : Bytes) → is_option name ≡ true → is_none (given_to name front) ≡ true
not_in_front [] others name known = refl
not_in_front (g ∷ front) others name known = none_ahead g front name ∙ go (bytes_eq g.0 name) refl (not_in_front front (both (not (is_option g.0)) _ others).1 name known)
  where
    go : (b : Bool) → bytes_eq g.0 name ≡ b → is_none (given_to name front) ≡ true → (not b && is_none (given_to name front)) ≡ true
    go true is rest = absurd (true≢false (sym (both (not (is_option g.0)) _ others).0 ∙ ap not (ap is_option ((bytes_eq-Decides g.0 name).0 is) ∙ known)))
    go false is rest = rest

front_apart : (front : List Given) → are_none front ≡ true → (more : List Given) → are_options more ≡ true → apart front more ≡ true
front_apart front others [] all = refl
front_apart front others (g ∷ more) all =
    let here = both (is_option g.0) _ all in
    ap₂ ◌&&◌ (not_in_front front others g.0 here.0) (front_apart front others more (both (is_none (given_to g.0 more)) _ here.1).1)

new_behind : (front : List Given) → are_none front ≡ true → (more : List Given) → are_new front more ≡ are_options more
new_behind front others more = new_is front more ∙ go (are_options more) refl
  where
    go : (b : Bool) → are_options more ≡ b → (b && apart front more) ≡ b
    go true is = front_apart front others more is
    go false is = refl

-- options behind what is none
pub judged_is : (front : List Given) → are_none front ≡ true → (words : List Bytes)
    → option_and_then (judged front) (pairs None words) ≡ option_map (λ given. front ++ given) (options_of words)
judged_is front others words = go (pairs None words)
  where
    all : (more : List Given) (b : Bool) → cond b (Some (front ++ more)) None ≡ option_map (λ given. front ++ given) (cond b (Some more) None)
    all more true = refl
    all more false = refl

    go : (o : Option (List Given)) → option_and_then (judged front) o ≡ option_map (λ given. front ++ given) (option_and_then checked o)
    go None = refl
    go (Some more) = ap (λ b. cond b (Some (front ++ more)) None) (new_behind front others more) ∙ all more (are_options more)
