-- The first six fields of a line tell as much as all of them.
use Rattle.std.proofs.Common.{◌≡◌, ℕ, List, [], ◌∷◌, take, refl}
use Rattle.lethe_base.specs.Keys.{Bytes}
use Rattle.lethe_script.specs.Grammar.{fields_say, item_fields, phase_end_of, order_fields, act_of, put_of, get_of, scan_of, del_of, erase_of, stat_of, tick_of, pin_of, pget_of, pscan_of, unpin_of}

put_of_kept : (fields : List Bytes) → put_of (take 4 fields) ≡ put_of fields
unfolding put_of
put_of_kept [] = refl
put_of_kept (a ∷ []) = refl
put_of_kept (a ∷ b ∷ []) = refl
put_of_kept (a ∷ b ∷ c ∷ []) = refl
put_of_kept (a ∷ b ∷ c ∷ d ∷ more) = refl

get_of_kept : (fields : List Bytes) → get_of (take 4 fields) ≡ get_of fields
unfolding get_of
get_of_kept [] = refl
get_of_kept (a ∷ []) = refl
get_of_kept (a ∷ b ∷ more) = refl

scan_of_kept : (fields : List Bytes) → scan_of (take 4 fields) ≡ scan_of fields
unfolding scan_of
scan_of_kept [] = refl
scan_of_kept (a ∷ []) = refl
scan_of_kept (a ∷ b ∷ []) = refl
scan_of_kept (a ∷ b ∷ c ∷ more) = refl

del_of_kept : (fields : List Bytes) → del_of (take 4 fields) ≡ del_of fields
unfolding del_of
del_of_kept [] = refl
del_of_kept (a ∷ []) = refl
del_of_kept (a ∷ b ∷ more) = refl

erase_of_kept : (fields : List Bytes) → erase_of (take 4 fields) ≡ erase_of fields
unfolding erase_of
erase_of_kept [] = refl
erase_of_kept (a ∷ []) = refl
erase_of_kept (a ∷ b ∷ []) = refl
erase_of_kept (a ∷ b ∷ c ∷ more) = refl

stat_of_kept : (fields : List Bytes) → stat_of (take 4 fields) ≡ stat_of fields
unfolding stat_of
stat_of_kept [] = refl
stat_of_kept (a ∷ more) = refl

tick_of_kept : (fields : List Bytes) → tick_of (take 4 fields) ≡ tick_of fields
unfolding tick_of
tick_of_kept [] = refl
tick_of_kept (a ∷ []) = refl
tick_of_kept (a ∷ b ∷ more) = refl

pin_of_kept : (fields : List Bytes) → pin_of (take 4 fields) ≡ pin_of fields
unfolding pin_of
pin_of_kept [] = refl
pin_of_kept (a ∷ []) = refl
pin_of_kept (a ∷ b ∷ more) = refl

pget_of_kept : (fields : List Bytes) → pget_of (take 4 fields) ≡ pget_of fields
unfolding pget_of
pget_of_kept [] = refl
pget_of_kept (a ∷ []) = refl
pget_of_kept (a ∷ b ∷ []) = refl
pget_of_kept (a ∷ b ∷ c ∷ more) = refl

pscan_of_kept : (fields : List Bytes) → pscan_of (take 4 fields) ≡ pscan_of fields
unfolding pscan_of
pscan_of_kept [] = refl
pscan_of_kept (a ∷ []) = refl
pscan_of_kept (a ∷ b ∷ []) = refl
pscan_of_kept (a ∷ b ∷ c ∷ []) = refl
pscan_of_kept (a ∷ b ∷ c ∷ d ∷ more) = refl

unpin_of_kept : (fields : List Bytes) → unpin_of (take 4 fields) ≡ unpin_of fields
unfolding unpin_of
unpin_of_kept [] = refl
unpin_of_kept (a ∷ []) = refl
unpin_of_kept (a ∷ b ∷ more) = refl

act_of_kept : (fields : List Bytes) → act_of (take 5 fields) ≡ act_of fields
unfolding act_of
act_of_kept [] = refl
act_of_kept (command ∷ rest) = rw (put_of_kept rest, get_of_kept rest, scan_of_kept rest, del_of_kept rest, erase_of_kept rest, stat_of_kept rest, tick_of_kept rest, pin_of_kept rest, pget_of_kept rest, pscan_of_kept rest, unpin_of_kept rest) refl

pub fields_say_kept : (n : ℕ) (fields : List Bytes) → fields_say n (take 6 fields) ≡ fields_say n fields
unfolding fields_say item_fields phase_end_of order_fields
fields_say_kept n [] = refl
fields_say_kept n (first ∷ []) = refl
fields_say_kept n (first ∷ field ∷ more) = rw (act_of_kept (field ∷ more)) refl
