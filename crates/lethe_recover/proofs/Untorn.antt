-- A store of one segment that is untorn.
use Rattle.std.proofs.Common.{◌≡◌, [], ◌∷◌, Some, None, refl, sym, ap, subst, arith}
use Rattle.std.specs.Prelude.{All, option_to_list}
use Rattle.std.proofs.lemmas.List.Elements.{All-nil, All-cons, All-contains, Contains-append_right}
use Rattle.lethe_disk.specs.Directory.{Directory, object}
use Rattle.lethe_commit.specs.Gates.{gate_name}
use Rattle.lethe_stored.specs.Stored.{Stored, segments_of}
use Rattle.lethe_advance.specs.Untorn.{IsPlain, IsUntorn}

-- where no segment is frozen, the active one is all of the journal
pub one_untorn : (s : Stored) (d : Directory) → s.frozen ≡ None → object d (gate_name s.manifest.no) ≡ Some [] → IsPlain d s.active → IsUntorn s d
one_untorn s d one gate plain = record { gate = gate; segments = subst (All (IsPlain d)) (sym only) (All-cons (IsPlain d) s.active [] plain (All-nil (IsPlain d))) }
  where
    only : segments_of s ≡ s.active ∷ []
    only = ap (λ frozen. segments_of (record s { frozen = frozen })) one

pub active_plain : (s : Stored) (d : Directory) → IsUntorn s d → IsPlain d s.active
active_plain s d untorn = All-contains (IsPlain d) (segments_of s) s.active untorn.segments (Contains-append_right (option_to_list s.frozen) (s.active ∷ []) s.active (0, omega arith, refl))
