-- The line of a page.
use Rattle.std.proofs.Common.{◌≡◌, ℕ, ◌+◌, ◌≤◌, ◌<◌, max, min, Option, Some, None, List, [], ◌∷◌, ◌++◌, length, fold, take, get_or, All, refl, ◌∙◌, ap, sym, subst, arith}
use Rattle.std.proofs.lemmas.List.{length-map, take_more}
use Rattle.std.proofs.lemmas.List.Elements.{All-head, All-tail}
use Rattle.sha2.specs.Sha256.{sha256}
use Rattle.sha2.proofs.Facts256.{length-sha256}
use Rattle.lethe_base.specs.Limits.{max_place}
use Rattle.lethe_base.specs.Shapes.{earlier, oldest_of}
use Rattle.lethe_base.specs.Spelling.{IsPlace, IsTimeOrNone}
use Rattle.lethe_base.specs.declared.entry.Entry.{Entry}
use Rattle.lethe_page.specs.Pages.{page_bytes, IsIn}
use Rattle.lethe_page.specs.Pages as pages
use Rattle.lethe_page.specs.declared.class.Class.{Class}
use Rattle.lethe_header.specs.Headers.{IsFence}
use Rattle.lethe_header.specs.declared.header.PageLine.{PageLine}
use Rattle.lethe_file.specs.Agreement.{IsFilterOf, entries_in, fence_of, keys_of}
use Rattle.lethe_file.specs.Agreement as agreement
use Rattle.lethe_file.proofs.Pages.{same_entries}
use Rattle.lethe_build.specs.Built.{class_of, spelled}
use Rattle.lethe_build.specs.Parts.{IsLineOf}
use Rattle.lethe_build.proofs.Fences.{page_fence}

-- ---- the greatest place

abbrev pub most_then : ℕ → List Entry → ℕ
most_then most entries = fold (λ most entry. max most entry.seq) most entries

most_within : (entries : List Entry) (class : Class) (most : ℕ) → most ≤ max_place → All (IsIn class) entries → (most ≤ most_then most entries) × (most_then most entries ≤ max_place)
most_within [] class most few each = (omega arith, few)
most_within (e ∷ es) class most few each =
    let place = (All-head (IsIn class) e es each).spelled.front.place in
    let rest = most_within es class (max most e.seq) (omega (arith, few, place.1)) (All-tail (IsIn class) e es each) in
    (omega (arith, rest.0), rest.1)

page_place : (class : Class) (entries : List Entry) → pages.HasSpelling class entries → IsPlace (most_then 0 entries)
page_place class [] page = absurd (omega (arith, page.some))
page_place class (e ∷ es) page =
    let place = (All-head (IsIn class) e es page.each).spelled.front.place in
    let rest = most_within es class (max 0 e.seq) (omega (arith, place.1)) (All-tail (IsIn class) e es page.each) in
    (omega (arith, place.0, rest.0), rest.1)

-- ---- the least time

earlier_time : (time other : Option ℕ) → IsTimeOrNone time → IsTimeOrNone other → IsTimeOrNone (earlier time other)
earlier_time None other is is' = is'
earlier_time (Some time) None is is' = is
earlier_time (Some time) (Some other) is is' = omega (arith, is, is')

page_oldest : (class : Class) (entries : List Entry) → All (IsIn class) entries → IsTimeOrNone (oldest_of entries)
page_oldest class [] each = tt
page_oldest class (e ∷ es) each =
    earlier_time e.since (oldest_of es) (All-head (IsIn class) e es each).spelled.front.time (page_oldest class es (All-tail (IsIn class) e es each))

earlier-assoc : (a b c : Option ℕ) → earlier (earlier a b) c ≡ earlier a (earlier b c)
earlier-assoc None b c = refl
earlier-assoc (Some a) None c = refl
earlier-assoc (Some a) (Some b) None = refl
earlier-assoc (Some a) (Some b) (Some c) = ap Some (let e : min (min a b) c ≡ min a (min b c) = omega arith in e)

oldest-push : (entries : List Entry) (last : Entry) → oldest_of (entries ++ last ∷ []) ≡ earlier (oldest_of entries) last.since
oldest-push [] last = by last.since
  where
    by : (time : Option ℕ) → earlier time None ≡ time
    by None = refl
    by (Some time) = refl
oldest-push (e ∷ es) last = ap (earlier e.since) (oldest-push es last) ∙ sym (earlier-assoc e.since (oldest_of es) last.since)

pub oldest_more : (entries : List Entry) (i : ℕ) (d : Entry) → i < length entries → oldest_of (take (i + 1) entries) ≡ earlier (oldest_of (take i entries)) (get_or entries i d).since
oldest_more entries i d below = ap oldest_of (take_more entries i d below) ∙ oldest-push (take i entries) (get_or entries i d)

-- ---- the line

-- a line whose fields are those of the entries is theirs
pub is_line_of : (entries : List Entry) (line : PageLine) → pages.HasSpelling (class_of entries) entries → line.no ≤ max_place → line.class ≡ class_of entries → line.entries ≡ length entries → line.max_seq ≡ most_then 0 entries
    → line.oldest ≡ oldest_of entries → line.fence ≡ fence_of entries → IsFilterOf (keys_of entries) line.filter → line.digest ≡ sha256 (spelled entries) → IsLineOf entries line
is_line_of entries line page low class len max_seq oldest fence filter digest =
    let class_is : Class = class_of entries in
    let fits : pages.HasSpelling line.class entries = subst (λ (c : Class). pages.HasSpelling c entries) (sym class) page in
    let same : entries_in (spelled entries) ≡ entries = same_entries (class_of entries) entries page in
    let bytes : page_bytes line.class entries ≡ spelled entries = ap (λ (c : Class). page_bytes c entries) class in
    record {
      itself = record {
        no = low;
        some = omega (arith, len, page.some);
        place = subst IsPlace (sym max_seq) (page_place (class_of entries) entries page);
        oldest = subst IsTimeOrNone (sym oldest) (page_oldest (class_of entries) entries page.each);
        fence = subst (IsFence line.class) (sym fence) (page_fence line.class entries fits);
        filter = record { len = omega (arith, filter.len, len, length-map entries (λ (e : Entry). e.key)); each = filter.each };
        digest = ap length digest ∙ length-sha256 (spelled entries);
      };
      class = class;
      len = len;
      fence = fence;
      agrees = record {
        page = subst (agreement.IsPage line) (sym same) (record { spelled = fits; len = sym len; digest = ap sha256 bytes ∙ sym digest });
        spelled = sym bytes ∙ ap (page_bytes line.class) (sym same);
        max_seq = ap (most_then 0) same ∙ sym max_seq;
        oldest = ap oldest_of same ∙ sym oldest;
        fence = ap fence_of same ∙ sym fence;
        filter = subst (λ (es : List Entry). IsFilterOf (keys_of es) line.filter) (sym same) filter;
      };
    }
