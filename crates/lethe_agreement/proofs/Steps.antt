-- The pages of a tile, page by page.
use Rattle.std.proofs.Common.{◌≡◌, ℕ, List, [], ◌∷◌, ◌++◌, length, arith, inl, inr}
use Rattle.lethe_base.specs.Keys.{Bytes}
use Rattle.lethe_header.specs.declared.header.PageLine.{PageLine}
use Rattle.lethe_header.specs.declared.header.TileLine.{TileLine}
use Rattle.lethe_agreement.specs.Soundness.{AreSoundFrom, IsSoundPage, taken_with}

-- what is taken behind these pages
abbrev pub taken_after : (Bytes → Type 0) → List (List ℕ) → Bytes → Type 0
taken_after taken [] = taken
taken_after taken (page ∷ pages) = taken_after (taken_with taken page) pages

pub taken_after-push : (taken : Bytes → Type 0) (pages : List (List ℕ)) (page : List ℕ) (key : Bytes) → taken_with (taken_after taken pages) page key → taken_after taken (pages ++ page ∷ []) key
taken_after-push taken [] page key t = t
taken_after-push taken (first ∷ pages) page key t = taken_after-push (taken_with taken first) pages page key t

pub taken_after-last : (taken : Bytes → Type 0) (pages : List (List ℕ)) (page : List ℕ) (key : Bytes) → taken_after taken (pages ++ page ∷ []) key → taken_with (taken_after taken pages) page key
taken_after-last taken [] page key t = t
taken_after-last taken (first ∷ pages) page key t = taken_after-last (taken_with taken first) pages page key t

-- where fewer keys are taken, what was sound is sound
pub sound_page_with : (tile : TileLine) (line : PageLine) (more fewer : Bytes → Type 0) (page : List ℕ) → ((key : Bytes) → fewer key → more key) → IsSoundPage tile line more page → IsSoundPage tile line fewer page
sound_page_with tile line more fewer page into sound = record { agrees = sound.agrees; within = sound.within; apart = λ k d lt is. sound.apart k d lt (into _ is) }

pub sound_from_with : (tile : TileLine) (more fewer : Bytes → Type 0) (lines : List PageLine) (pages : List (List ℕ)) → ((key : Bytes) → fewer key → more key) → AreSoundFrom tile more lines pages → AreSoundFrom tile fewer lines pages
sound_from_with tile more fewer [] [] into sound = tt
sound_from_with tile more fewer [] (page ∷ pages) into sound = absurd sound
sound_from_with tile more fewer (line ∷ lines) [] into sound = absurd sound
sound_from_with tile more fewer (line ∷ lines) (page ∷ pages) into sound =
    (sound_page_with tile line more fewer page into sound.0, sound_from_with tile (taken_with more page) (taken_with fewer page) lines pages both sound.1)
  where
    both : (key : Bytes) → taken_with fewer page key → taken_with more page key
    both key (inl t) = inl (into key t)
    both key (inr here) = inr here

-- one more page
pub sound_push : (tile : TileLine) (taken : Bytes → Type 0) (lines : List PageLine) (pages : List (List ℕ)) (line : PageLine) (page : List ℕ) → AreSoundFrom tile taken lines pages → IsSoundPage tile line (taken_after taken pages) page
    → AreSoundFrom tile taken (lines ++ line ∷ []) (pages ++ page ∷ [])
sound_push tile taken [] [] line page sound here = (here, tt)
sound_push tile taken [] (first ∷ pages) line page sound here = absurd sound
sound_push tile taken (first ∷ lines) [] line page sound here = absurd sound
sound_push tile taken (first ∷ lines) (one ∷ pages) line page sound here = (sound.0, sound_push tile (taken_with taken one) lines pages line page sound.1 here)

-- a page among sound ones
pub sound_here : (tile : TileLine) (taken : Bytes → Type 0) (before : List PageLine) (done : List (List ℕ)) (line : PageLine) (page : List ℕ) (after : List PageLine) (rest : List (List ℕ)) → length before ≡ length done
    → AreSoundFrom tile taken (before ++ line ∷ after) (done ++ page ∷ rest) → IsSoundPage tile line (taken_after taken done) page
sound_here tile taken [] [] line page after rest same sound = sound.0
sound_here tile taken [] (one ∷ done) line page after rest same sound = absurd (omega (arith, same))
sound_here tile taken (first ∷ before) [] line page after rest same sound = absurd (omega (arith, same))
sound_here tile taken (first ∷ before) (one ∷ done) line page after rest same sound =
    sound_here tile (taken_with taken one) before done line page after rest (omega (arith, same)) sound.1
