-- What is left of a tile's pages: lines that are gone, the page's own, or such as tell of a part of its entries. They follow one another as the tile's lines do.
use Rattle.std.proofs.Common.{◌≡◌, ℕ, ◌+◌, ◌≤◌, List, [], ◌∷◌, Option, Some, None, length, map, get_or, slice_get, All, refl, sym, ap, ◌∙◌, subst, arith}
use Rattle.std.specs.Prelude.{count_by, IsTrue, nat_le}
use Rattle.std.specs.List.{AllZip}
use Rattle.std.proofs.lemmas.Bool.{and_parts, leb-true}
use Rattle.std.proofs.lemmas.List.Elements.{All-head, All-tail}
use Rattle.std.proofs.lemmas.List.Sums.{sum_by-cons}
use Rattle.lethe_base.specs.Spelling.{kind_of}
use Rattle.lethe_base.specs.declared.entry.Body.{Body}
use Rattle.lethe_base.specs.declared.entry.Body.TheVariants.{Put, Tomb}
use Rattle.lethe_base.specs.declared.entry.Entry.{Entry}
use Rattle.lethe_base.specs.declared.front.BodyKind.TheVariants as kinds
use Rattle.lethe_page.specs.Pages as pages
use Rattle.lethe_page.specs.declared.class.Class.{Class}
use Rattle.lethe_page.specs.declared.class.Class.TheVariants.{Puts, Tombs}
use Rattle.lethe_tile.specs.Woven.{dkey_of}
use Rattle.lethe_header.specs.Headers.{IsFence, IsFrom, IsLine, dkey_then, entries_in, is_puts}
use Rattle.lethe_header.specs.declared.header.PageLine.{PageLine}
use Rattle.lethe_file.specs.Agreement.{fence_of}
use Rattle.lethe_build.proofs.Fences.{IsUpTo, fence_from, fence_up, page_fence}
use Rattle.lethe_swept.specs.Drafts.{IsLineFor, numbered}
use Rattle.lethe_swept.specs.Fits.{StandFor, StandsFor, End, Gone, Left, is_fenced, len_of}
use Rattle.lethe_swept.specs.Left.{Placed}
use Rattle.lethe_swept.specs.declared.draft.DraftLine.{DraftLine}
use Rattle.lethe_swept.specs.declared.draft.DraftLine.TheVariants.{Own, New}
use Rattle.lethe_swept.specs.declared.part.Part.{Part}
use Rattle.lethe_swept.specs.declared.part.Part.TheVariants.{Kept, Fresh}
use Rattle.lethe_swept.proofs.Places.{IsPlacedIn}
use Rattle.lethe_swept.proofs.Rules.{HasRoom, LinesFollow, puts_then}

-- ---- a line that stands in the place of another

-- the second fence lies within the first, or there is none
abbrev pub IsFenceWithin : Option (ℕ × ℕ) → Option (ℕ × ℕ) → Type 0
IsFenceWithin None None = Unit {0}
IsFenceWithin None (Some inner) = ⊥
IsFenceWithin (Some outer) None = ⊥
IsFenceWithin (Some outer) (Some inner) = (outer.0 ≤ inner.0) × (inner.1 ≤ outer.1)

-- of the same class, with a fence within the other's
pub record IsLineWithin (line left : PageLine) : Type 0 where
  pub itself : IsLine left
  pub class : left.class ≡ line.class
  pub fence : IsFenceWithin line.fence left.fence

pub within_itself : (fence : Option (ℕ × ℕ)) → IsFenceWithin fence fence
within_itself None = tt
within_itself (Some fence) = (omega arith, omega arith)

-- a put that is fenced has its delete key in the fence
key_within : (fence : ℕ × ℕ) (body : Body) → kind_of body ≡ kinds.Put → IsTrue (is_fenced (Some fence) body) → (fence.0 ≤ dkey_of body) × (dkey_of body ≤ fence.1)
key_within fence (Put dkey value) put fenced =
    let both = and_parts (nat_le fence.0 dkey) (nat_le dkey fence.1) fenced in
    (leb-true fence.0 dkey both.0, leb-true dkey fence.1 both.1)
key_within fence Tomb put fenced = absurd cc

bounds_within : (outer : ℕ × ℕ) (inner : Option (ℕ × ℕ)) → IsFence Puts inner → IsFrom outer.0 inner → IsUpTo outer.1 inner → IsFenceWithin (Some outer) inner
bounds_within outer None is from up = absurd is
bounds_within outer (Some inner) is from up = (from, up)

-- so have all puts of a page
fence_within : (fence : Option (ℕ × ℕ)) (entries : List Entry) → IsFence Puts fence → pages.HasSpelling Puts entries → All (λ entry. IsTrue (is_fenced fence entry.body)) entries → IsFenceWithin fence (fence_of entries)
fence_within None entries is page fenced = absurd is
fence_within (Some fence) entries is page fenced =
    bounds_within fence (fence_of entries) (page_fence Puts entries page)
    (fence_from fence.0 entries (λ k d lt. (key_within fence (get_or entries k d).body (page.each k d lt).kind (fenced k d lt)).0))
    (fence_up fence.1 entries (λ k d lt. (key_within fence (get_or entries k d).body (page.each k d lt).kind (fenced k d lt)).1))

-- ---- the line of a part

-- a line of a draft, with its number 0 where it is new
abbrev pub plain : DraftLine → PageLine
plain (Own line) = line
plain (New line) = line

pub numbered_none : (drafts : List DraftLine) → numbered [] drafts ≡ map plain drafts
numbered_none [] = refl
numbered_none (Own line ∷ drafts) = ap (λ (lines : List PageLine). line ∷ lines) (numbered_none drafts)
numbered_none (New line ∷ drafts) = ap (λ (lines : List PageLine). line ∷ lines) (numbered_none drafts)

-- the page's own line
own_line : (lines : List PageLine) (page : Placed) (place : ℕ) (line : PageLine) → IsPlacedIn lines page → place ≡ page.place → slice_get lines place ≡ Some line → line ≡ page.line
own_line lines page place line there same is = let read : Some line ≡ Some page.line = sym is ∙ ap (slice_get lines) same ∙ there in cc

part_within : (lines : List PageLine) (page : Placed) (part : Part) (draft : DraftLine) → IsPlacedIn lines page → IsLine page.line → StandsFor page part → IsLineFor lines part draft → IsLineWithin page.line (plain draft)
part_within lines page (Kept place) (Own line) there itself stands is =
    subst (IsLineWithin page.line) (sym (own_line lines page place line there stands is)) (record { itself = itself; class = refl; fence = within_itself page.line.fence })
part_within lines page (Kept place) (New line) there itself stands is = absurd is
part_within lines page (Fresh entries) (Own line) there itself stands is = absurd is
part_within lines page (Fresh entries) (New line) there itself stands is =
    let puts : IsFence Puts page.line.fence = subst (λ (class : Class). IsFence class page.line.fence) stands.was itself.fence in
    let spelled : pages.HasSpelling Puts entries = subst (λ (class : Class). pages.HasSpelling class entries) stands.class stands.page.has_spelling in
    record {
      itself = is.0.itself;
      class = is.0.class ∙ stands.class ∙ sym stands.was;
      fence = subst (IsFenceWithin page.line.fence) (sym is.0.fence) (fence_within page.line.fence entries puts spelled stands.fenced);
    }

part_entries : (lines : List PageLine) (page : Placed) (part : Part) (draft : DraftLine) → IsPlacedIn lines page → StandsFor page part → IsLineFor lines part draft → (plain draft).entries ≡ len_of page part
part_entries lines page (Kept place) (Own line) there stands is = ap (λ (l : PageLine). l.entries) (own_line lines page place line there stands is)
part_entries lines page (Kept place) (New line) there stands is = absurd is
part_entries lines page (Fresh entries) (Own line) there stands is = absurd is
part_entries lines page (Fresh entries) (New line) there stands is = is.0.len

-- ---- less stands before a line

room_less : (class : Class) (puts lines puts' lines' : ℕ) → puts' ≤ puts → lines' ≤ lines → HasRoom class puts lines → HasRoom class puts' lines'
room_less Puts puts lines puts' lines' one two room = omega (arith, one, room)
room_less Tombs puts lines puts' lines' one two room = omega (arith, two, room)

pub from_less : (dkey dkey' : ℕ) (outer inner : Option (ℕ × ℕ)) → dkey' ≤ dkey → IsFenceWithin outer inner → IsFrom dkey outer → IsFrom dkey' inner
from_less dkey dkey' None None le within from = tt
from_less dkey dkey' None (Some inner) le within from = absurd within
from_less dkey dkey' (Some outer) None le within from = absurd within
from_less dkey dkey' (Some outer) (Some inner) le within from = omega (arith, le, within.0, from)

pub then_less : (dkey dkey' : ℕ) (outer inner : Option (ℕ × ℕ)) → dkey' ≤ dkey → IsFenceWithin outer inner → dkey_then dkey' inner ≤ dkey_then dkey outer
then_less dkey dkey' None None le within = le
then_less dkey dkey' None (Some inner) le within = absurd within
then_less dkey dkey' (Some outer) None le within = absurd within
then_less dkey dkey' (Some outer) (Some inner) le within = within.1

pub then_more : (class : Class) (dkey : ℕ) (fence : Option (ℕ × ℕ)) → IsFence class fence → IsFrom dkey fence → dkey ≤ dkey_then dkey fence
then_more class dkey None is from = omega arith
then_more Puts dkey (Some fence) is from = omega (arith, is.0, from)
then_more Tombs dkey (Some fence) is from = absurd is

puts_same : (puts puts' : ℕ) (line left : PageLine) → puts' ≤ puts → left.class ≡ line.class → puts_then puts' left ≤ puts_then puts line
puts_same puts puts' line left le same =
    let counts : count_by (λ (l : PageLine). is_puts l.class) (left ∷ []) ≡ count_by (λ (l : PageLine). is_puts l.class) (line ∷ []) = ap (λ (c : Class). count_by (λ (d : Class). is_puts d) (c ∷ [])) same in
    omega (arith, le, counts)

-- ---- the lines of parts that stand for pages

abbrev pub lines_in : List Placed → List PageLine
lines_in pages = map (λ page. page.line) pages

pub parts_follow : (all : List PageLine) (puts lines dkey puts' lines' dkey' : ℕ) (tile : List Placed) (parts : List Part) (count : ℕ) (drafts : List DraftLine) → StandFor tile parts count → AllZip (IsLineFor all) parts drafts
    → All (IsPlacedIn all) tile → puts' ≤ puts → lines' ≤ lines → dkey' ≤ dkey → LinesFollow puts lines dkey (lines_in tile) → LinesFollow puts' lines' dkey' (map plain drafts)
parts_follow all puts lines dkey puts' lines' dkey' tile parts count [] End zip there one two three follow = tt
parts_follow all puts lines dkey puts' lines' dkey' tile parts count (draft ∷ drafts) End zip there one two three follow = absurd zip
parts_follow all puts lines dkey puts' lines' dkey' tile parts count drafts (Gone page rest parts' count' stand) zip there one two three follow =
    let line = page.line in
    let more = then_more line.class dkey line.fence follow.0.fence follow.2 in
    parts_follow all (puts_then puts line) (lines + 1) (dkey_then dkey line.fence) puts' lines' dkey' rest parts' count' drafts stand zip (All-tail (IsPlacedIn all) page rest there)
    (omega (arith, one)) (omega (arith, two)) (omega (arith, three, more)) follow.3
parts_follow all puts lines dkey puts' lines' dkey' tile parts count [] (Left page part rest parts' count' stands stand) zip there one two three follow = absurd zip
parts_follow all puts lines dkey puts' lines' dkey' tile parts count (draft ∷ drafts) (Left page part rest parts' count' stands stand) zip there one two three follow =
    let line = page.line in
    let own = plain draft in
    let is = part_within all page part draft (All-head (IsPlacedIn all) page rest there) follow.0 stands zip.0 in (
      is.itself,
      room_less own.class puts lines puts' lines' one two (subst (λ class. HasRoom class puts lines) (sym is.class) follow.1),
      from_less dkey dkey' line.fence own.fence three is.fence follow.2,
      parts_follow all (puts_then puts line) (lines + 1) (dkey_then dkey line.fence) (puts_then puts' own) (lines' + 1) (dkey_then dkey' own.fence) rest parts' count' drafts stand zip.1 (All-tail (IsPlacedIn all) page rest there)
          (puts_same puts puts' line own one is.class) (omega (arith, two)) (then_less dkey dkey' line.fence own.fence three is.fence) follow.3,
    )

-- they have as many entries as it is said of the parts
pub parts_entries : (all : List PageLine) (tile : List Placed) (parts : List Part) (count : ℕ) (drafts : List DraftLine) → StandFor tile parts count → AllZip (IsLineFor all) parts drafts → All (IsPlacedIn all) tile → entries_in (map plain drafts) ≡ count
parts_entries all tile parts count [] End zip there = refl
parts_entries all tile parts count (draft ∷ drafts) End zip there = absurd zip
parts_entries all tile parts count drafts (Gone page rest parts' count' stand) zip there = parts_entries all rest parts' count' drafts stand zip (All-tail (IsPlacedIn all) page rest there)
parts_entries all tile parts count [] (Left page part rest parts' count' stands stand) zip there = absurd zip
parts_entries all tile parts count (draft ∷ drafts) (Left page part rest parts' count' stands stand) zip there =
    let here = part_entries all page part draft (All-head (IsPlacedIn all) page rest there) stands zip.0 in
    let more = parts_entries all rest parts' count' drafts stand zip.1 (All-tail (IsPlacedIn all) page rest there) in
    omega (arith, here, more, sum_by-cons (λ (l : PageLine). l.entries) (plain draft) (map plain drafts))

-- there are no more parts than pages
pub parts_few : (tile : List Placed) (parts : List Part) (count : ℕ) → StandFor tile parts count → length parts ≤ length tile
parts_few tile parts count End = omega arith
parts_few tile parts count (Gone page rest parts' count' stand) = let more = parts_few rest parts' count' stand in omega (arith, more)
parts_few tile parts count (Left page part rest parts' count' stands stand) = let more = parts_few rest parts' count' stand in omega (arith, more)
