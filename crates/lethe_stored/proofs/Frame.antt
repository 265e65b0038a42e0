-- The frame law: what a directory encodes rests on its greatest gate, the manifest of that, and what this cites.
use Rattle.std.proofs.Common.{◌≡◌, ◌≢◌, ◌≤◌, inl, inr, ℕ, suc, List, [], ◌∷◌, Option, Some, None, refl, sym, ap, ◌∙◌, arith}
use Rattle.std.specs.Prelude.{All, Contains, IfSome, is_some}
use Rattle.std.proofs.lemmas.List.Elements.{All-contains}
use Rattle.lethe_base.specs.History.{History}
use Rattle.lethe_base.specs.declared.config.Fields.{Fields}
use Rattle.lethe_base.specs.declared.name.Kind.TheVariants as kinds
use Rattle.lethe_base.specs.declared.name.Name.{Name}
use Rattle.lethe_disk.specs.Directory.{Directory, object, IsNoneOf, SameBeside}
use Rattle.lethe_commit.specs.Gates.{gate_name}
use Rattle.lethe_commit.specs.Switch.{manifest_name}
use Rattle.lethe_stored.specs.Files.{objects_of}
use Rattle.lethe_stored.specs.Stored.{Stored, Segment, IsCoherent, segment_name, part_names, IsCited, IsSpare}
use Rattle.lethe_stored.specs.Encodes.{Encodes, HasParts, HasSegment, HasObject, Agrees, IsBeside, AreSpare}
use Rattle.lethe_stored.specs.Kept.{IsKept}
use Rattle.lethe_stored.proofs.Lists.{all_from}
use Rattle.lethe_stored.proofs.Parts.{active_part, frozen_part, object_part, part_below}

-- Names

pub gate≢segment : (k n : ℕ) → gate_name k ≢ segment_name n
gate≢segment k n e = let same : kinds.Gate ≡ kinds.Segment = ap (λ (x : Name). x.kind) e in cc

pub manifest≢segment : (k n : ℕ) → manifest_name k ≢ segment_name n
manifest≢segment k n e = let same : kinds.Manifest ≡ kinds.Segment = ap (λ (x : Name). x.kind) e in cc

pub same_no : (a b : Name) → a ≡ b → a.no ≡ b.no
same_no a b e = ap (λ (x : Name). x.no) e

-- what isn't in a list is none of it
pub none_of : (names : List Name) (name : Name) → (Contains names name → ⊥) → IsNoneOf names name
none_of [] name out = tt
none_of (first ∷ names) name out = (
  (λ e. out (0, omega arith, sym e)),
  none_of names name (λ there. let lt = there.1 in out (suc there.0, omega arith, there.2)),
)

-- The law

pub moved : (d c : Directory) (segment : Segment) → object c (segment_name segment.no) ≡ object d (segment_name segment.no) → HasSegment d segment → HasSegment c segment
moved d c segment same has = record { bytes = has.bytes; there = same ∙ has.there; holds = has.holds }

pub frozen_moved : (d c : Directory) (o : Option Segment) → ((older : Segment) → o ≡ Some older → object c (segment_name older.no) ≡ object d (segment_name older.no)) → IfSome o (HasSegment d) → IfSome o (HasSegment c)
frozen_moved d c None same has = tt
frozen_moved d c (Some older) same has = moved d c older (same older refl) has

pub objects_moved : (d c : Directory) (objects : List (Name × List ℕ)) → ((named : Name × List ℕ) → Contains objects named → object c named.0 ≡ object d named.0) → All (HasObject d) objects → All (HasObject c) objects
objects_moved d c objects same has = all_from (HasObject c) objects (λ named there. same named there ∙ All-contains (HasObject d) objects named has there)

pub parts_framed : (d c : Directory) (s : Stored) → ((name : Name) → Contains (part_names s) name → object c name ≡ object d name) → HasParts d s → HasParts c s
parts_framed d c s same parts = record {
  active = moved d c s.active (same (segment_name s.active.no) (active_part s)) parts.active;
  frozen = frozen_moved d c s.frozen (λ older is. same (segment_name older.no) (frozen_part s older is)) parts.frozen;
  files = objects_moved d c (objects_of s.files) (λ named there. same named.0 (object_part s named there)) parts.files;
}

pub framed : (s : Stored) (d c : Directory) → Encodes d s → Agrees s d c → Encodes c s
framed s d c e a = record {
  greatest = (ap is_some (a.same (gate_name s.manifest.no) (inl refl)) ∙ e.greatest.0, a.above);
  manifest = a.same (manifest_name s.manifest.no) (inr (inl refl)) ∙ e.manifest;
  parts = parts_framed d c s (λ name is. a.same name (inr (inr is))) e.parts;
}

pub kept_framed : (config : Fields) (h : History) (d c : Directory) → IsKept config d h → IsBeside d c → IsKept config c h
kept_framed config h d c (inl none) b = inl (b.none none.0, none.1)
kept_framed config h d c (inr k) b = inr (record { s = k.s; config_is = k.config_is; coherent = k.coherent; encodes = framed k.s d c k.encodes (b.agrees k.s k.encodes); stands = k.stands })

-- Beside what is cited

pub besides : (s : Stored) (d c : Directory) (names : List Name) → Encodes d s → AreSpare s names → SameBeside names d c → Encodes c s
besides s d c names e spare same = framed s d c e (record {
  same = λ name is. same name (none_of names name (λ there. (spare name there).uncited is));
  above = λ k lt. same (gate_name k) (none_of names (gate_name k) (λ there. (spare (gate_name k) there).no_gate k lt refl)) ∙ e.greatest.1 k lt;
})

-- a name from the next number on is spare
pub fresh_spare : (s : Stored) (name : Name) → IsCoherent s → s.manifest.next ≤ name.no → name.kind ≢ kinds.Gate → IsSpare s name
fresh_spare s name coherent fresh other = record {
  uncited = cited;
  no_gate = λ k lt is. other (ap (λ (n : Name). n.kind) is);
}
  where
    cited : IsCited s name → ⊥
    cited (inl is) = other (ap (λ (n : Name). n.kind) is)
    cited (inr (inl is)) = let same = same_no name (manifest_name s.manifest.no) is in omega (arith, same, fresh, coherent.spelled.no)
    cited (inr (inr part)) = let below = part_below s name coherent part in omega (arith, fresh, below)
