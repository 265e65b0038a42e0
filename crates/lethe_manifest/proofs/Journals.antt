-- A manifest of one segment, without erases and files, has the spelling of these lists.
use Rattle.std.proofs.Common.{ℕ, ◌<◌, [], ◌∷◌, arith}
use Rattle.std.proofs.lemmas.List.Elements.{All-nil, All-cons}
use Rattle.lethe_base.specs.Erases.{IsErase}
use Rattle.lethe_manifest.specs.Manifests.{AreErases, AreSegments, IsFile, AreFiles}

pub none_erased : AreErases []
none_erased = record { few = omega arith; each = All-nil IsErase; ascending = λ i j d lt inside. absurd (omega (arith, inside)) }

pub one_segment : (next segment : ℕ) → segment < next → AreSegments next (segment ∷ [])
one_segment next segment below = record {
  some = omega arith;
  few = omega arith;
  below = All-cons (λ n. n < next) segment [] below (All-nil (λ n. n < next));
}

pub none_filed : (next levels : ℕ) → AreFiles next levels []
none_filed next levels = record { few = omega arith; each = All-nil (IsFile next levels); ascending = λ i j d lt inside. absurd (omega (arith, inside)) }
