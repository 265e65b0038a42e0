-- Fields that are spelled are read as what they spell.
use Rattle.std.proofs.Common.{◌≡◌, ◌≢◌, ℕ, suc, ◌+◌, ◌-◌, ◌/◌, ◌%◌, ◌^◌, ◌<◌, ◌≤◌, ◌&&◌, Bool, true, false, not, List, [], ◌∷◌, length, get_or, take, filter, eqb, leb, cond, Some, Ok}
use Rattle.std.proofs.Common.{lit<, lit≤, inl, inr, refl, ap, ◌∙◌, arith}
use Rattle.std.specs.Prelude.{codes}
use Rattle.std.specs.Str.{bytes_eq}
use Rattle.std.specs.List.{All, AllByRecursion, list_all, slice_split, join_with_byte}
use Rattle.std.specs.Fmt.{decimal}
use Rattle.std.specs.Str.Lines.{strip_carriage_return}
use Rattle.std.proofs.lemmas.Bool.Decides.{nat_tests}
use Rattle.std.proofs.lemmas.List.Sums.{AllPass-from_list_all}
use mathlib.Core.Bool.{false≢true}
use Rattle.std.proofs.lemmas.Bool.{not-true, and_parts, cases_lt, ne_eqb, le-leb, leb-true, lt-ltb}
use Rattle.std.proofs.lemmas.Fmt.{decimal_is_IsNumeral, decimal_digit}
use Rattle.std.proofs.lemmas.Str.Parse.{digit_at}
use Rattle.std.proofs.lemmas.List.{get_or_past}
use Rattle.std.proofs.lemmas.List.Elements.{All-nil, All-head, All-tail, All-cons, All-append, All-weaker, All-get_or, All-from_get_or}
use Rattle.std.proofs.lemmas.List.Splits.{slice_split_at, slice_split_none}
use Rattle.hex.specs.Hex.{lower_digits, encode_with, encode_lower}
use Rattle.hex.proofs.HexLemmas.{decode_of-encode_lower}
use Rattle.lethe_base.specs.Keys.{Bytes}
use Rattle.lethe_base.specs.Limits.{IsKey, IsValue, max_time}
use Rattle.lethe_base.specs.Numbers.{IsBytes}
use Rattle.lethe_script.specs.declared.order.Act.{Act}
use Rattle.lethe_script.specs.declared.order.Act.TheVariants.{Put, Get, Scan, Delete, Erase, Stat, Tick, Pin, PinGet, PinScan, Unpin}
use Rattle.lethe_script.specs.declared.order.Item.TheVariants as item
use Rattle.lethe_script.specs.Fields.{is_allowed, is_comment, is_field, fields, caller_of, is_lower_digit, digit_bytes, field_bytes, text_of, key_of, slot_of, time_of, value_of}
use Rattle.lethe_script.specs.Grammar.{put_fields, put_of, get_of, scan_fields, scan_of, del_of, erase_fields, erase_of, stat_of, tick_of, pin_of, pget_fields, pget_of, pscan_fields, pscan_of, unpin_of, act_of, order_fields, item_fields, fields_say}
use Rattle.lethe_script.specs.Spelling.{is_plain, marked, field_text, act_fields, IsWritableAct}
use Rattle.lethe_script.proofs.Numbers.{number_again}

-- a byte of a line
pub record IsAllowed (byte : ℕ) : Type 0 where
  pub low : 32 ≤ byte
  pub high : byte ≤ 126

-- a byte that prints and is no space
pub record IsPrinted (byte : ℕ) : Type 0 where
  pub low : 33 ≤ byte
  pub high : byte ≤ 126

-- a field as it stands in a line
pub record IsFieldText (bytes : Bytes) : Type 0 where
  pub some : 0 < length bytes
  pub printed : All IsPrinted bytes

no_space : (bytes : Bytes) → All IsPrinted bytes → All (λ byte. eqb byte 32 ≡ false) bytes
no_space bytes h = All-weaker IsPrinted (λ byte. eqb byte 32 ≡ false) (λ byte p. ne_eqb byte 32 (λ e. absurd (omega (arith, p.low)))) bytes h

printed_allowed : (bytes : Bytes) → All IsPrinted bytes → All IsAllowed bytes
printed_allowed bytes h = All-weaker IsPrinted IsAllowed (λ byte p. record { low = omega (arith, p.low); high = p.high }) bytes h

-- fields between spaces are split into the fields
parts_joined : (parts : List Bytes) → 0 < length parts → AllByRecursion IsFieldText parts → slice_split (λ byte. eqb byte 32) (join_with_byte 32 parts) ≡ parts
parts_joined [] some h = absurd (omega arith)
parts_joined (x ∷ []) some h = slice_split_none (λ byte. eqb byte 32) x (no_space x (h.0).printed)
parts_joined (x ∷ y ∷ more) some h =
    slice_split_at (λ byte. eqb byte 32) x 32 (join_with_byte 32 (y ∷ more)) (no_space x (h.0).printed) refl
    ∙ ap (λ parts. x ∷ parts) (parts_joined (y ∷ more) (omega arith) h.1)

all_fields : (parts : List Bytes) → AllByRecursion IsFieldText parts → filter is_field parts ≡ parts
all_fields [] h = refl
all_fields (x ∷ parts) h =
    let some : eqb (length x) 0 ≡ false = ne_eqb (length x) 0 (λ e. absurd (omega (arith, (h.0).some))) in
    ap (λ b. cond (not b) (x ∷ filter is_field parts) (filter is_field parts)) some ∙ ap (λ ps. x ∷ ps) (all_fields parts h.1)

pub fields_joined : (parts : List Bytes) → 0 < length parts → AllByRecursion IsFieldText parts → fields (join_with_byte 32 parts) ≡ parts
fields_joined parts some h = ap (filter is_field) (parts_joined parts some h) ∙ all_fields parts h

pub allowed_joined : (parts : List Bytes) → 0 < length parts → AllByRecursion IsFieldText parts → All IsAllowed (join_with_byte 32 parts)
allowed_joined [] some h = absurd (omega arith)
allowed_joined (x ∷ []) some h = printed_allowed x (h.0).printed
allowed_joined (x ∷ y ∷ more) some h =
    All-append IsAllowed x (32 ∷ join_with_byte 32 (y ∷ more)) (printed_allowed x (h.0).printed)
    (All-cons IsAllowed 32 (join_with_byte 32 (y ∷ more)) (record { low = lit≤ tt; high = lit≤ tt }) (allowed_joined (y ∷ more) (omega arith) h.1))

pub all_allowed : (bytes : Bytes) → All IsAllowed bytes → list_all is_allowed bytes ≡ true
all_allowed [] h = refl
all_allowed (byte ∷ bytes) h =
    let p = All-head IsAllowed byte bytes h in
    let low : leb 32 byte ≡ true = le-leb 32 byte p.low in
    let high : leb byte 126 ≡ true = le-leb byte 126 p.high in
    rw (low, high, all_allowed bytes (All-tail IsAllowed byte bytes h)) refl

-- a line of allowed bytes has no CR to lose, and no LF
pub no_cr : (bytes : Bytes) → All IsAllowed bytes → strip_carriage_return bytes ≡ bytes
no_cr bytes h =
    let other : get_or bytes (length bytes - 1) 0 ≢ 13 = λ e. elim (cases_lt (length bytes - 1) (length bytes)) [
      | inl within ↦ absurd (omega (arith, (All-get_or IsAllowed bytes (length bytes - 1) 0 within h).low, e))
      | inr past ↦ absurd (omega (arith, get_or_past bytes (length bytes - 1) 0 past, e))
    ] in
    ap (λ b. cond b (take (length bytes - 1) bytes) bytes) (ne_eqb _ 13 other)

pub no_lf : (bytes : Bytes) → All IsAllowed bytes → All (λ byte. eqb byte 10 ≡ false) bytes
no_lf bytes h = All-weaker IsAllowed (λ byte. eqb byte 10 ≡ false) (λ byte p. ne_eqb byte 10 (λ e. absurd (omega (arith, p.low)))) bytes h

pub decimal_field : (n : ℕ) → n < 2 ^ 64 → IsFieldText (decimal n)
decimal_field n small =
    let numeral = (decimal_is_IsNumeral n small).0 in
    record {
      some = numeral.0;
      printed = All-from_get_or IsPrinted (decimal n) 0 (λ i lt. let digit = digit_at (decimal n) i numeral.1 lt in record { low = omega (arith, digit.0); high = omega (arith, digit.1) });
    }

command_field : (bytes : Bytes) → 0 < length bytes → list_all (λ byte. leb 33 byte && leb byte 126) bytes ≡ true → IsFieldText bytes
command_field bytes some h = record { some = some; printed = printed bytes h }
  where
    both : (a b : Bool) → (a && b) ≡ true → (a ≡ true) × (b ≡ true)
    both true b h = (refl, h)
    both false b h = absurd cc

    printed : (bytes : Bytes) → list_all (λ byte. leb 33 byte && leb byte 126) bytes ≡ true → All IsPrinted bytes
    printed [] h = All-nil IsPrinted
    printed (byte ∷ bytes) h =
        let (here, after) = both (leb 33 byte && leb byte 126) (list_all (λ byte. leb 33 byte && leb byte 126) bytes) h in
        let (low, high) = both (leb 33 byte) (leb byte 126) here in
        All-cons IsPrinted byte bytes (record { low = leb-true 33 byte low; high = leb-true byte 126 high }) (printed bytes after)

-- The digits of bytes

lower_printed : (byte : ℕ) → is_lower_digit byte ≡ true → IsPrinted byte
lower_printed byte h = record { low = grind (arith, nat_tests); high = grind (arith, nat_tests) }

digits_printed : (digits : Bytes) → list_all is_lower_digit digits ≡ true → All IsPrinted digits
digits_printed digits h = All-weaker (λ byte. is_lower_digit byte ≡ true) IsPrinted lower_printed digits (AllPass-from_list_all is_lower_digit digits h)

table_lower : (d : ℕ) → d < 16 → is_lower_digit (get_or lower_digits d 0) ≡ true
table_lower d lt = All-get_or (λ byte. is_lower_digit byte ≡ true) lower_digits d 0 lt (AllPass-from_list_all is_lower_digit lower_digits refl)

encoded_lower : (bytes : Bytes) → IsBytes bytes → list_all is_lower_digit (encode_lower bytes) ≡ true
unfolding encode_with
encoded_lower [] h = refl
encoded_lower (byte ∷ bytes) h =
    let fits : byte < 256 = h 0 in
    let high : byte / 16 < 16 = omega arith in
    let low : byte % 16 < 16 = omega arith in
    rw (table_lower (byte / 16) high, table_lower (byte % 16) low, encoded_lower bytes (λ i. h (suc i))) refl

-- A key or a value stands in its field

pub marked_again : (bytes : Bytes) → IsBytes bytes → field_bytes (marked bytes) ≡ Some bytes
marked_again bytes h = rw (encoded_lower bytes h, decode_of-encode_lower bytes h) refl

plain_again : (bytes : Bytes) → is_plain bytes ≡ true → field_bytes bytes ≡ Some bytes
plain_again [] h = refl
plain_again (byte ∷ bytes) h =
    let front = (and_parts _ _ h).0 in
    let other : eqb byte 61 ≡ false = not-true (eqb byte 61) (and_parts _ _ front).1 in
    ap (λ b. cond b (digit_bytes bytes) (Some (byte ∷ bytes))) other

text_again : (bytes : Bytes) → IsBytes bytes → field_bytes (field_text bytes) ≡ Some bytes
text_again bytes h = by_form (is_plain bytes) refl
  where
    by_form : (b : Bool) → is_plain bytes ≡ b → field_bytes (cond b bytes (marked bytes)) ≡ Some bytes
    by_form true is = plain_again bytes is
    by_form false is = marked_again bytes h

some_bytes : (bytes : Bytes) → is_plain bytes ≡ true → 0 < length bytes
some_bytes [] h = absurd (false≢true h)
some_bytes (byte ∷ bytes) h = omega arith

text_field : (bytes : Bytes) → IsBytes bytes → IsFieldText (field_text bytes)
text_field bytes h = by_form (is_plain bytes) refl
  where
    by_form : (b : Bool) → is_plain bytes ≡ b → IsFieldText (cond b bytes (marked bytes))
    by_form true is = command_field bytes (omega (arith, some_bytes bytes is)) (and_parts _ _ is).1
    by_form false is = record { some = omega arith; printed = All-cons IsPrinted 61 (encode_lower bytes) (record { low = lit≤ tt; high = lit≤ tt }) (digits_printed (encode_lower bytes) (encoded_lower bytes h)) }

pub key_again : (field key : Bytes) → field_bytes field ≡ Some key → IsKey key → key_of field ≡ Ok key
unfolding key_of text_of
key_again field key is k =
    let short : leb (length key) 255 ≡ true = le-leb (length key) 255 k.short in
    let some : eqb (length key) 0 ≡ false = ne_eqb (length key) 0 (λ e. absurd (omega (arith, k.some))) in
    rw (is, short, some) refl

pub value_again : (field value : Bytes) → field_bytes field ≡ Some value → IsValue value → value_of field ≡ Ok value
unfolding text_of
value_again field value is v =
    let short : leb (length value) 4096 ≡ true = le-leb (length value) 4096 v in
    rw (is, short) refl

slot_again : (slot : ℕ) → slot < 10 → slot_of (decimal slot) ≡ Ok slot
unfolding slot_of
slot_again slot small =
    let digit : decimal slot ≡ (48 + slot) ∷ [] = decimal_digit slot small in
    let low : leb 48 (48 + slot) ≡ true = le-leb 48 (48 + slot) (omega arith) in
    let high : leb (48 + slot) 57 ≡ true = le-leb (48 + slot) 57 (omega arith) in
    let same : 48 + slot - 48 ≡ slot = omega arith in
    rw (digit, low, high) (ap Ok same)

act_again : (act : Act) → IsWritableAct act → act_of (act_fields act) ≡ Ok act
unfolding act_of put_of put_fields get_of scan_of scan_fields del_of erase_of erase_fields stat_of tick_of time_of pin_of pget_of pget_fields pscan_of pscan_fields unpin_of
act_again (Put key dkey value) w = rw (key_again (field_text key) key (text_again key w.0.1) w.0.0, number_again (decimal dkey) dkey w.1 refl, value_again (field_text value) value (text_again value w.2.1) w.2.0) refl
act_again (Get key) w = rw (key_again (field_text key) key (text_again key w.1) w.0) refl
act_again (Scan lo hi) w = rw (key_again (field_text lo) lo (text_again lo w.0.1) w.0.0, key_again (field_text hi) hi (text_again hi w.1.1) w.1.0) refl
act_again (Delete key) w = rw (key_again (field_text key) key (text_again key w.1) w.0) refl
act_again (Erase range) w =
    let low : range.lo < 2 ^ 64 = omega (arith, w.0, w.1) in
    rw (number_again (decimal range.lo) range.lo low refl, number_again (decimal range.hi) range.hi w.1 refl, lt-ltb range.lo range.hi w.0) refl
act_again Stat w = refl
act_again (Tick to) w = rw (number_again (decimal to) to (omega (arith, w)) refl, le-leb to max_time w) refl
act_again (Pin slot) w = rw (slot_again slot w) refl
act_again (PinGet slot key) w = rw (slot_again slot w.0, key_again (field_text key) key (text_again key w.1.1) w.1.0) refl
act_again (PinScan slot lo hi) w =
    rw (slot_again slot w.0, key_again (field_text lo) lo (text_again lo w.1.1) w.1.0, key_again (field_text hi) hi (text_again hi w.2.1) w.2.0) refl
act_again (Unpin slot) w = rw (slot_again slot w) refl

caller_again : (caller : ℕ) → 1 ≤ caller → caller ≤ 8 → caller_of (decimal caller) ≡ Ok caller
unfolding caller_of
caller_again caller some most =
    let digit : decimal caller ≡ (48 + caller) ∷ [] = decimal_digit caller (omega (arith, most)) in
    let low : leb 49 (48 + caller) ≡ true = le-leb 49 (48 + caller) (omega (arith, some)) in
    let high : leb (48 + caller) 56 ≡ true = le-leb (48 + caller) 56 (omega (arith, most)) in
    let same : 48 + caller - 48 ≡ caller = omega arith in
    rw (digit, low, high) (ap Ok same)

-- a caller's digit begins no comment, and isn't `phase`
pub fields_again : (n caller : ℕ) (act : Act) → 1 ≤ caller → caller ≤ 8 → IsWritableAct act
    → fields_say n (decimal caller ∷ act_fields act) ≡ Ok (Some (item.Order (record { line = n; caller = caller; act = act })))
unfolding fields_say item_fields order_fields
fields_again n caller act some most w =
    let digit : decimal caller ≡ (48 + caller) ∷ [] = decimal_digit caller (omega (arith, most)) in
    let no_comment : is_comment (decimal caller) ≡ false = ap is_comment digit ∙ ne_eqb (48 + caller) 35 (λ e. absurd (omega (arith, e))) in
    let no_phase : bytes_eq (decimal caller) (codes "phase") ≡ false = ap (λ field. bytes_eq field (codes "phase")) digit ∙ by_length (48 + caller) in
    rw (no_comment, no_phase, caller_again caller some most, act_again act w) refl
  where
    and_false : (b : Bool) → (b && false) ≡ false
    and_false true = refl
    and_false false = refl

    by_length : (byte : ℕ) → bytes_eq (byte ∷ []) (codes "phase") ≡ false
    by_length byte = and_false _

slot_field : (slot : ℕ) → slot < 10 → IsFieldText (decimal slot)
slot_field slot small = decimal_field slot (omega (arith, small))

pub act_texts : (act : Act) → IsWritableAct act → AllByRecursion IsFieldText (act_fields act)
act_texts (Put key dkey value) w = (command_field _ (lit< tt) refl, (text_field key w.0.1, (decimal_field dkey w.1, (text_field value w.2.1, tt))))
act_texts (Get key) w = (command_field _ (lit< tt) refl, (text_field key w.1, tt))
act_texts (Scan lo hi) w = (command_field _ (lit< tt) refl, (text_field lo w.0.1, (text_field hi w.1.1, tt)))
act_texts (Delete key) w = (command_field _ (lit< tt) refl, (text_field key w.1, tt))
act_texts (Erase range) w = (command_field _ (lit< tt) refl, (decimal_field range.lo (omega (arith, w.0, w.1)), (decimal_field range.hi w.1, tt)))
act_texts Stat w = (command_field _ (lit< tt) refl, tt)
act_texts (Tick to) w = (command_field _ (lit< tt) refl, (decimal_field to (omega (arith, w)), tt))
act_texts (Pin slot) w = (command_field _ (lit< tt) refl, (slot_field slot w, tt))
act_texts (PinGet slot key) w = (command_field _ (lit< tt) refl, (slot_field slot w.0, (text_field key w.1.1, tt)))
act_texts (PinScan slot lo hi) w = (command_field _ (lit< tt) refl, (slot_field slot w.0, (text_field lo w.1.1, (text_field hi w.2.1, tt))))
act_texts (Unpin slot) w = (command_field _ (lit< tt) refl, (slot_field slot w, tt))
