-- The members of an object, one behind another.
use Rattle.std.proofs.Common.{◌≡◌, ℕ, List, [], ◌∷◌, length, String, Global, refl, sym, ap, Bool, true, false, true≢false}
use Rattle.serde_json.specs.Data.{Data, Members, member, no_members, null, boolean, number, string, array, object}
use Rattle.serde_json.specs.View.{members_view}
use Rattle.serde_json.specs.declared.value.Value.{Value}

abbrev rest_of : Members → Members
rest_of no_members = no_members
rest_of (member k d ms) = ms

abbrev members_in : Data → Members
members_in null = no_members
members_in (boolean b) = no_members
members_in (number n) = no_members
members_in (string s) = no_members
members_in (array ds) = no_members
members_in (object ms) = ms

pub rest_same : (k l : List ℕ) (d e : Data) (ms ns : Members) → member k d ms ≡ member l e ns → ms ≡ ns
rest_same k l d e ms ns same = ap rest_of same

pub members_same : (ms ns : Members) → object ms ≡ object ns → ms ≡ ns
members_same ms ns same = ap members_in same

abbrev has_none : Members → Bool
has_none no_members = true
has_none (member k d ms) = false

pub none_left : (es : List (String Global × Value)) → members_view es ≡ no_members → length es ≡ 0
none_left [] same = refl
none_left (e ∷ es) same = absurd (true≢false (sym (ap has_none same)))
