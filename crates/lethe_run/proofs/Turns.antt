-- What follows from lines that follow one another.
use Rattle.std.proofs.Common.{◌≡◌, ℕ, suc, ◌-◌, ◌≤◌, Bool, true, false, max, List, [], ◌∷◌, cond, sym, ap, ◌∙◌, arith}
use Rattle.std.specs.Prelude.{filter, filter_map}
use Rattle.lethe_run.specs.declared.reply.Line.{Line}
use Rattle.lethe_run.specs.declared.reply.Line.TheVariants as line
use Rattle.lethe_run.specs.declared.reply.Reply.{Reply}
use Rattle.lethe_run.specs.declared.reply.Reply.TheVariants.{Done, Ticked, Got, Scanned, Counted, Pinned, PinGot, PinScanned, Unpinned, Fault, Stopped, Exhausted, Backwards, Barred, ReadFault, Damaged}
use Rattle.lethe_run.specs.Transcript.{Course, place_of, places_behind, Sees, Follows, InTurn}

module _ (c : Course) (caller : ℕ) (p : Line → Bool) where
  -- whoever they are, the lines that a test picks see all that stood before
  picked : (b : Bool) (seen n m next : ℕ) (reply : Reply) (lines : List Line) → seen ≤ n → Follows c n reply next → next ≤ m
      → ((seen : ℕ) → seen ≤ next → Sees seen m (filter p lines)) → Sees seen m (cond b (line.Answer caller reply ∷ filter p lines) (filter p lines))
  picked false seen n m next (Done place) lines le f end rest = rest seen (omega arith)
  picked false seen n m next (Ticked ticked) lines le f end rest = rest seen (omega arith)
  picked false seen n m next (Backwards point clock) lines le f end rest = rest seen (omega arith)
  picked false seen n m next (Barred number limit) lines le f end rest = rest seen (omega arith)
  picked false seen n m next (Got point held) lines le f end rest = rest seen (omega arith)
  picked false seen n m next (Scanned point pairs) lines le f end rest = rest seen (omega arith)
  picked false seen n m next (Counted point stat) lines le f end rest = rest seen (omega arith)
  picked false seen n m next (Pinned point number limit) lines le f end rest = rest seen (omega arith)
  picked false seen n m next (PinGot number point held) lines le f end rest = rest seen (omega arith)
  picked false seen n m next (PinScanned number point pairs) lines le f end rest = rest seen (omega arith)
  picked false seen n m next (Unpinned point number) lines le f end rest = rest seen (omega arith)
  picked false seen n m next (Fault place b a) lines le f end rest = rest seen (omega arith)
  picked false seen n m next (Stopped at) lines le f end rest = rest seen (omega arith)
  picked false seen n m next (Exhausted last) lines le f end rest = let same = f.1 in rest seen (omega (arith, same))
  picked false seen n m next ReadFault lines le f end rest = rest seen (omega arith)
  picked false seen n m next (Damaged page) lines le f end rest = rest seen (omega arith)
  picked true seen n m next (Done place) lines le f end rest = (omega arith, omega arith, rest (max seen place) (omega arith))
  picked true seen n m next (Ticked ticked) lines le f end rest = (omega arith, omega arith, rest (max seen ticked.place) (omega arith))
  picked true seen n m next (Backwards point clock) lines le f end rest = (omega arith, omega arith, rest (max seen 0) (omega arith))
  picked true seen n m next (Barred number limit) lines le f end rest = (tt, omega arith, rest (max seen 0) (omega arith))
  picked true seen n m next (Got point held) lines le f end rest = (omega arith, omega arith, rest (max seen point) (omega arith))
  picked true seen n m next (Scanned point pairs) lines le f end rest = (omega arith, omega arith, rest (max seen point) (omega arith))
  picked true seen n m next (Counted point stat) lines le f end rest = (omega arith, omega arith, rest (max seen point) (omega arith))
  picked true seen n m next (Pinned point number limit) lines le f end rest = (omega arith, omega arith, rest (max seen point) (omega arith))
  picked true seen n m next (PinGot number point held) lines le f end rest = (tt, omega arith, rest (max seen 0) (omega arith))
  picked true seen n m next (PinScanned number point pairs) lines le f end rest = (tt, omega arith, rest (max seen 0) (omega arith))
  picked true seen n m next (Unpinned point number) lines le f end rest = (omega arith, omega arith, rest (max seen point) (omega arith))
  picked true seen n m next (Fault place b a) lines le f end rest = (omega arith, omega arith, rest (max seen place) (omega arith))
  picked true seen n m next (Stopped at) lines le f end rest = (tt, omega arith, rest (max seen 0) (omega arith))
  picked true seen n m next (Exhausted last) lines le f end rest = let same = f.1 in (tt, omega (arith, same), rest (max seen 0) (omega (arith, same)))
  picked true seen n m next ReadFault lines le f end rest = (tt, omega arith, rest (max seen 0) (omega arith))
  picked true seen n m next (Damaged page) lines le f end rest = (tt, omega arith, rest (max seen 0) (omega arith))

module _ (c : Course) where
  pub follows_up : (n m : ℕ) (reply : Reply) → Follows c n reply m → n ≤ m
  follows_up n m (Done place) f = omega arith
  follows_up n m (Ticked ticked) f = omega arith
  follows_up n m (Backwards point clock) f = omega arith
  follows_up n m (Barred number limit) f = omega arith
  follows_up n m (Got point held) f = omega arith
  follows_up n m (Scanned point pairs) f = omega arith
  follows_up n m (Counted point stat) f = omega arith
  follows_up n m (Pinned point number limit) f = omega arith
  follows_up n m (PinGot number point held) f = omega arith
  follows_up n m (PinScanned number point pairs) f = omega arith
  follows_up n m (Unpinned point number) f = omega arith
  follows_up n m (Fault place b a) f = omega arith
  follows_up n m (Stopped at) f = omega arith
  follows_up n m (Exhausted last) f = let same = f.1 in omega (arith, same)
  follows_up n m ReadFault f = omega arith
  follows_up n m (Damaged page) f = omega arith

  in_turn_up : (n m : ℕ) (lines : List Line) → InTurn c n lines m → n ≤ m
  in_turn_up n m [] t = omega arith
  in_turn_up n m (line.Answer caller reply ∷ lines) t = omega (arith, follows_up n t.0 reply t.1, in_turn_up t.0 m lines t.2)

  pub sees_in_turn : (p : Line → Bool) (seen n m : ℕ) (lines : List Line) → seen ≤ n → InTurn c n lines m → Sees seen m (filter p lines)
  sees_in_turn p seen n m [] le t = tt
  sees_in_turn p seen n m (line.Answer caller reply ∷ lines) le t =
      picked c caller p (p (line.Answer caller reply)) seen n m t.0 reply lines le t.1 (in_turn_up t.0 m lines t.2) (λ seen le. sees_in_turn p seen t.0 m lines le t.2)

  place_taken : (n next m place : ℕ) (lines : List Line) → (place ≡ suc n) → (next ≡ suc n) → next ≤ m → filter_map place_of lines ≡ places_behind next (m - next) → place ∷ filter_map place_of lines ≡ places_behind n (m - n)
  place_taken n next m place lines at step end rest =
      let more : m - n ≡ suc (m - suc n) = omega (arith, step, end) in
      let behind : filter_map place_of lines ≡ places_behind (suc n) (m - suc n) = rest ∙ ap (λ k. places_behind k (m - k)) step in
      ap (λ k. k ∷ filter_map place_of lines) at ∙ ap (λ l. suc n ∷ l) behind ∙ ap (places_behind n) (sym more)

  place_next : (n next m : ℕ) (caller : ℕ) (reply : Reply) (lines : List Line) → Follows c n reply next → next ≤ m → filter_map place_of lines ≡ places_behind next (m - next)
      → filter_map place_of (line.Answer caller reply ∷ lines) ≡ places_behind n (m - n)
  place_next n next m caller (Done place) lines f end rest = place_taken n next m place lines f.0 f.1 end rest
  place_next n next m caller (Ticked ticked) lines f end rest = place_taken n next m ticked.place lines f.0 f.1 end rest
  place_next n next m caller (Fault place b a) lines f end rest = place_taken n next m place lines f.0 f.1 end rest
  place_next n next m caller (Backwards point clock) lines f end rest = rest ∙ ap (λ k. places_behind k (m - k)) f.1
  place_next n next m caller (Barred number limit) lines f end rest = rest ∙ ap (λ k. places_behind k (m - k)) f
  place_next n next m caller (Got point held) lines f end rest = rest ∙ ap (λ k. places_behind k (m - k)) f.1
  place_next n next m caller (Scanned point pairs) lines f end rest = rest ∙ ap (λ k. places_behind k (m - k)) f.1
  place_next n next m caller (Counted point stat) lines f end rest = rest ∙ ap (λ k. places_behind k (m - k)) f.1
  place_next n next m caller (Pinned point number limit) lines f end rest = rest ∙ ap (λ k. places_behind k (m - k)) f.1
  place_next n next m caller (PinGot number point held) lines f end rest = rest ∙ ap (λ k. places_behind k (m - k)) f.1
  place_next n next m caller (PinScanned number point pairs) lines f end rest = rest ∙ ap (λ k. places_behind k (m - k)) f.1
  place_next n next m caller (Unpinned point number) lines f end rest = rest ∙ ap (λ k. places_behind k (m - k)) f.1
  place_next n next m caller (Stopped at) lines f end rest = rest ∙ ap (λ k. places_behind k (m - k)) f.1
  place_next n next m caller (Exhausted last) lines f end rest = rest ∙ ap (λ k. places_behind k (m - k)) f.1
  place_next n next m caller ReadFault lines f end rest = rest ∙ ap (λ k. places_behind k (m - k)) f
  place_next n next m caller (Damaged page) lines f end rest = rest ∙ ap (λ k. places_behind k (m - k)) f

  pub places_in_turn : (n m : ℕ) (lines : List Line) → InTurn c n lines m → filter_map place_of lines ≡ places_behind n (m - n)
  places_in_turn n m [] t = let none : m - n ≡ 0 = omega arith in ap (places_behind n) (sym none)
  places_in_turn n m (line.Answer caller reply ∷ lines) t =
      place_next n t.0 m caller reply lines t.1 (in_turn_up t.0 m lines t.2) (places_in_turn t.0 m lines t.2)
