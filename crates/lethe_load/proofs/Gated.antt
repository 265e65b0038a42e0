-- The manifest of the greatest gate is one.
use Rattle.std.proofs.Common.{◌≡◌, ℕ, List, None, Some, refl, sym, subst, arith}
use Rattle.std.specs.Prelude.{Contains}
use Rattle.std.specs.FinMap.{keys}
use Rattle.lethe_base.specs.declared.name.Name.{Name}
use Rattle.lethe_disk.specs.Directory.{Directory, object}
use Rattle.lethe_disk.proofs.Objects.{absent_of, one_object}
use Rattle.lethe_manifest.specs.declared.manifest.Manifest.{Manifest}
use Rattle.lethe_manifest.specs.Manifests.{manifest_bytes}
use Rattle.lethe_manifest.proofs.ManifestLaws.{same_manifest}
use Rattle.lethe_commit.specs.Gates.{gate_name, HasNoGate, IsGreatestGate}
use Rattle.lethe_commit.specs.Switch.{HasGreatest}
use Rattle.lethe_commit.proofs.Listed.{listed}
use Rattle.lethe_stored.specs.Stored.{Stored, IsCoherent}
use Rattle.lethe_stored.specs.Encodes.{Encodes}
use Rattle.lethe_stored.proofs.Unique.{one_greatest}
use Rattle.lethe_load.specs.Damaged.{IsSpelled, IsGated}

pub no_gate_of : (names : List Name) (d : Directory) → names ≡ keys d → HasNoGate names → HasGreatest None d
no_gate_of names d is none number = absent_of (object d (gate_name number)) (λ there. none number (subst (λ l. Contains l (gate_name number)) (sym is) ((listed d (gate_name number)).1 there)))

pub greatest_of : (names : List Name) (d : Directory) (number : ℕ) → names ≡ keys d → IsGreatestGate names number → HasGreatest (Some number) d
greatest_of names d number is greatest = (
  (listed d (gate_name number)).0 (subst (λ l. Contains l (gate_name number)) is greatest.there),
  λ other above. absent_of (object d (gate_name other)) (λ there.
      let le = greatest.last other (subst (λ l. Contains l (gate_name other)) (sym is) ((listed d (gate_name other)).1 there)) in
      omega (arith, le, above)),
)

pub gated_of : (d : Directory) (number : ℕ) (m : Manifest) → HasGreatest (Some number) d → IsSpelled d number m → IsGated d m
gated_of d number m greatest is = record {
  greatest = subst (λ n. HasGreatest (Some n) d) (sym is.own) greatest;
  is = subst (λ n. IsSpelled d n m) (sym is.own) is;
}

pub one_spelled : (d : Directory) (number : ℕ) (m n : Manifest) → IsSpelled d number m → IsSpelled d number n → m ≡ n
one_spelled d number m n x y = same_manifest m n x.spelled y.spelled (one_object _ (manifest_bytes m) (manifest_bytes n) x.there y.there)

pub one_gated : (d : Directory) (m n : Manifest) → IsGated d m → IsGated d n → m ≡ n
one_gated d m n x y = one_spelled d m.no m n x.is (subst (λ k. IsSpelled d k n) (sym (one_greatest d m.no n.no x.greatest y.greatest)) y.is)

pub encodes_gated : (d : Directory) (s : Stored) → IsCoherent s → Encodes d s → IsGated d s.manifest
encodes_gated d s coherent e = record { greatest = e.greatest; is = record { spelled = coherent.spelled; own = refl; there = e.manifest } }
