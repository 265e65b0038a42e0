-- The fence of a page: it has what bounds all delete keys of the page for its bounds.
use Rattle.std.proofs.Common.{◌≡◌, ℕ, ◌≤◌, Option, Some, None, List, [], ◌∷◌, fold, All, refl, ◌∙◌, ap, sym, subst, arith}
use Rattle.std.proofs.lemmas.List.Elements.{All-head, All-tail}
use Rattle.lethe_base.specs.Spelling.{kind_of, BodyHasSpelling}
use Rattle.lethe_base.specs.declared.entry.Body.{Body}
use Rattle.lethe_base.specs.declared.entry.Body.TheVariants.{Put, Tomb}
use Rattle.lethe_base.specs.declared.entry.Entry.{Entry}
use Rattle.lethe_base.specs.declared.front.BodyKind.TheVariants as kinds
use Rattle.lethe_page.specs.Pages.{HasSpelling, IsIn}
use Rattle.lethe_page.specs.declared.class.Class.{Class}
use Rattle.lethe_page.specs.declared.class.Class.TheVariants.{Puts, Tombs}
use Rattle.lethe_tile.specs.Woven.{dkey_of}
use Rattle.lethe_header.specs.Headers.{IsFence, IsFrom}
use Rattle.lethe_file.specs.Agreement.{fence_with, fence_of}

-- the fence of these entries and of what was seen before them
abbrev fence_then : Option (ℕ × ℕ) → List Entry → Option (ℕ × ℕ)
fence_then fence entries = fold (λ fence entry. fence_with fence entry.body) fence entries

-- no delete key of the fence is above this one
abbrev pub IsUpTo : ℕ → Option (ℕ × ℕ) → Type 0
IsUpTo most None = Unit {0}
IsUpTo most (Some fence) = fence.1 ≤ most

up_with : (most : ℕ) (fence : Option (ℕ × ℕ)) (body : Body) → IsUpTo most fence → dkey_of body ≤ most → IsUpTo most (fence_with fence body)
up_with most None (Put dkey value) up below = below
up_with most None Tomb up below = tt
up_with most (Some fence) (Put dkey value) up below = omega (arith, up, below)
up_with most (Some fence) Tomb up below = up

up_then : (most : ℕ) (entries : List Entry) (fence : Option (ℕ × ℕ)) → IsUpTo most fence → All (λ e. dkey_of e.body ≤ most) entries → IsUpTo most (fence_then fence entries)
up_then most [] fence up below = up
up_then most (e ∷ es) fence up below =
    up_then most es (fence_with fence e.body) (up_with most fence e.body up (All-head (λ e. dkey_of e.body ≤ most) e es below)) (All-tail (λ e. dkey_of e.body ≤ most) e es below)

pub fence_up : (most : ℕ) (entries : List Entry) → All (λ e. dkey_of e.body ≤ most) entries → IsUpTo most (fence_of entries)
fence_up most entries below = up_then most entries None tt below

from_with : (least : ℕ) (fence : Option (ℕ × ℕ)) (body : Body) → IsFrom least fence → least ≤ dkey_of body → IsFrom least (fence_with fence body)
from_with least None (Put dkey value) from above = above
from_with least None Tomb from above = tt
from_with least (Some fence) (Put dkey value) from above = omega (arith, from, above)
from_with least (Some fence) Tomb from above = from

from_then : (least : ℕ) (entries : List Entry) (fence : Option (ℕ × ℕ)) → IsFrom least fence → All (λ e. least ≤ dkey_of e.body) entries → IsFrom least (fence_then fence entries)
from_then least [] fence from above = from
from_then least (e ∷ es) fence from above =
    from_then least es (fence_with fence e.body) (from_with least fence e.body from (All-head (λ e. least ≤ dkey_of e.body) e es above)) (All-tail (λ e. least ≤ dkey_of e.body) e es above)

pub fence_from : (least : ℕ) (entries : List Entry) → All (λ e. least ≤ dkey_of e.body) entries → IsFrom least (fence_of entries)
fence_from least entries above = from_then least entries None tt above

-- ---- a page of puts has a fence, and a page of tombstones none

first_put : (body : Body) → kind_of body ≡ kinds.Put → BodyHasSpelling body → IsFence Puts (fence_with None body)
first_put (Put dkey value) put fits = (let same : dkey ≤ dkey = omega arith in same, fits.0)
first_put Tomb put fits = absurd cc

next_put : (fence : Option (ℕ × ℕ)) (body : Body) → IsFence Puts fence → BodyHasSpelling body → IsFence Puts (fence_with fence body)
next_put None body is fits = absurd is
next_put (Some fence) (Put dkey value) is fits = (omega (arith, is.0), omega (arith, is.1, fits.0))
next_put (Some fence) Tomb is fits = is

puts_then : (entries : List Entry) (fence : Option (ℕ × ℕ)) → IsFence Puts fence → All (IsIn Puts) entries → IsFence Puts (fence_then fence entries)
puts_then [] fence is puts = is
puts_then (e ∷ es) fence is puts = puts_then es (fence_with fence e.body) (next_put fence e.body is (All-head (IsIn Puts) e es puts).spelled.body) (All-tail (IsIn Puts) e es puts)

tomb_with : (body : Body) → kind_of body ≡ kinds.Tomb → fence_with None body ≡ None
tomb_with (Put dkey value) tomb = absurd cc
tomb_with Tomb tomb = refl

tombs_then : (entries : List Entry) → All (IsIn Tombs) entries → fence_then None entries ≡ None
tombs_then [] tombs = refl
tombs_then (e ∷ es) tombs = ap (λ fence. fence_then fence es) (tomb_with e.body (All-head (IsIn Tombs) e es tombs).kind) ∙ tombs_then es (All-tail (IsIn Tombs) e es tombs)

pub page_fence : (class : Class) (entries : List Entry) → HasSpelling class entries → IsFence class (fence_of entries)
page_fence Puts [] page = absurd (omega (arith, page.some))
page_fence Puts (e ∷ es) page =
    let first = All-head (IsIn Puts) e es page.each in
    puts_then es (fence_with None e.body) (first_put e.body first.kind first.spelled.body) (All-tail (IsIn Puts) e es page.each)
page_fence Tombs entries page = subst (IsFence Tombs) (sym (tombs_then entries page.each)) tt
