-- What an append, a switch, a clear and a create of an uncited object leave is kept for what it was kept for, or for what they make it.
use Rattle.std.proofs.Common.{◌≡◌, ◌≢◌, ◌<◌, ◌≤◌, ◌⊎◌, inl, inr, ℕ, zero, suc, get_or, map, List, [], ◌∷◌, ◌++◌, Some, None, refl, sym, ap, ◌∙◌, subst, arith}
use Rattle.std.specs.Prelude.{AllPairs, Contains, is_some, option_to_list}
use Rattle.std.proofs.lemmas.Bool.{cases_eq}
use Rattle.lethe_base.specs.History.{History}
use Rattle.lethe_base.specs.declared.config.Fields.{Fields}
use Rattle.lethe_base.specs.declared.name.Kind.TheVariants as kinds
use Rattle.lethe_base.specs.declared.name.Name.{Name}
use Rattle.lethe_disk.specs.Directory.{Directory, object, IsNoneOf, SameBut, IsCreated}
use Rattle.lethe_segment.specs.declared.record.Record.{Record}
use Rattle.lethe_segment.specs.Records.{record_seq, RecordHasSpelling}
use Rattle.lethe_segment.specs.Segments.{last_seq}
use Rattle.lethe_segment.proofs.Loop.{ascends_push}
use Rattle.lethe_manifest.specs.Manifests.{manifest_bytes}
use Rattle.lethe_commit.specs.Append.{HasRecords, IsAppended}
use Rattle.lethe_commit.specs.Clear.{IsCleared}
use Rattle.lethe_commit.specs.Gates.{gate_name}
use Rattle.lethe_commit.specs.Switch.{manifest_name, HasGreatest, new_names, IsSwitched}
use Rattle.lethe_commit.proofs.Placing.{gate≢manifest, manifest≢gate, gate≢gate}
use Rattle.lethe_commit.proofs.Exchange.{manifest≢manifest}
use Rattle.lethe_stored.specs.Files.{objects_of}
use Rattle.lethe_stored.specs.Stored.{Stored, Segment, IsCoherent, number_of, segment_name, part_names, IsCited, IsSpare, appended}
use Rattle.lethe_stored.specs.Encodes.{Encodes, HasParts, AreSpare}
use Rattle.lethe_stored.specs.Kept.{IsFor, IsKept}
use Rattle.lethe_stored.specs.Steps.{addition}
use Rattle.lethe_stored.proofs.Parts.{part_kind, object_apart}
use Rattle.lethe_stored.proofs.Frame.{gate≢segment, manifest≢segment, same_no, frozen_moved, objects_moved, parts_framed, framed, besides, fresh_spare}

-- Appending

-- with one record more it has a spelling, where the record has one and its place is above all others
pub stored_appended : (s : Stored) (next : Record) → IsCoherent s → RecordHasSpelling next → last_seq 0 s.active.records < record_seq next → IsCoherent (appended s next)
stored_appended s next coherent spelled above = record {
  spelled = coherent.spelled;
  cites = coherent.cites;
  once = coherent.once;
  active = ascends_push 0 s.active.records next coherent.active spelled above;
  frozen = coherent.frozen;
  files = coherent.files;
  each = coherent.each;
  files_once = coherent.files_once;
  pages_once = coherent.pages_once;
}

-- the frozen segment has another number than the active one
frozen_apart : (s : Stored) (older : Segment) → IsCoherent s → s.frozen ≡ Some older → older.no ≢ s.active.no
frozen_apart s older coherent is =
    let two : s.manifest.segments ≡ older.no ∷ s.active.no ∷ [] = coherent.cites ∙ ap (λ o. map number_of (option_to_list o) ++ s.active.no ∷ []) is in
    let once = subst (AllPairs (λ a b. a ≢ b)) two coherent.once in
    once 0 1 0 (omega arith) (omega arith)

-- all but the active segment is as it was
pub active_changed : (s : Stored) (d c : Directory) (records : List Record) → IsCoherent s → Encodes d s → SameBut (segment_name s.active.no) d c → HasRecords (segment_name s.active.no) s.active.no records c
    → Encodes c (record s { active = record s.active { records = records } })
active_changed s d c records coherent e others has = record {
  greatest = (
    ap is_some (others (gate_name s.manifest.no) (gate≢segment s.manifest.no s.active.no)) ∙ e.greatest.0,
    λ k lt. others (gate_name k) (gate≢segment k s.active.no) ∙ e.greatest.1 k lt,
  );
  manifest = others (manifest_name s.manifest.no) (manifest≢segment s.manifest.no s.active.no) ∙ e.manifest;
  parts = record {
    active = has;
    frozen = frozen_moved d c s.frozen (λ older is. others (segment_name older.no) (λ same. frozen_apart s older coherent is (same_no (segment_name older.no) (segment_name s.active.no) same))) e.parts.frozen;
    files = objects_moved d c (objects_of s.files) (λ named there. others named.0 (object_apart s s.active.no named there)) e.parts.files;
  };
}

pub append_encodes : (s : Stored) (next : Record) (at : ℕ) (d c : Directory) → IsCoherent s → Encodes d s → IsAppended (segment_name s.active.no) at (addition s next) d c → Encodes c s ⊎ Encodes c (appended s next)
append_encodes s next at d c coherent e left = elim left.either [
  | inl old ↦ inl (active_changed s d c s.active.records coherent e left.written.others old)
  | inr both ↦ inr (active_changed s d c (s.active.records ++ next ∷ []) coherent e left.written.others both)
]

pub append_keeps : (h g : History) (s : Stored) (next : Record) (at : ℕ) (d c : Directory) → IsCoherent s → Encodes d s → IsFor h s → IsCoherent (appended s next) → IsFor g (appended s next)
    → IsAppended (segment_name s.active.no) at (addition s next) d c → IsKept s.manifest.config c h ⊎ IsKept s.manifest.config c g
append_keeps h g s next at d c coherent e stands longer_coherent longer_stands left = elim (append_encodes s next at d c coherent e left) [
  | inl old ↦ inl (inr (record { s = s; config_is = refl; coherent = coherent; encodes = old; stands = stands }))
  | inr new ↦ inr (inr (record { s = appended s next; config_is = refl; coherent = longer_coherent; encodes = new; stands = longer_stands }))
]

-- Switching

part_new : (s : Stored) (number : ℕ) (name : Name) → Contains (part_names s) name → IsNoneOf (new_names number) name
part_new s number name there =
    let kind = part_kind s name there in
    ((λ e. kind.1 (ap (λ (x : Name). x.kind) e)), ((λ e. kind.0 (ap (λ (x : Name). x.kind) e)), tt))

part_old : (s : Stored) (number older : ℕ) (name : Name) → Contains (part_names s) name → IsNoneOf (manifest_name number ∷ gate_name number ∷ gate_name older ∷ manifest_name older ∷ []) name
part_old s number older name there =
    let new = part_new s number name there in
    let old = part_new s older name there in
    (new.0, (new.1.0, (old.1.0, (old.0, tt))))

-- what an older manifest commits isn't the new one's
cited_old : (s : Stored) (number : ℕ) (name : Name) → s.manifest.no < number → IsCited s name → IsNoneOf (new_names number) name
cited_old s number name lt (inl is) = (
  (λ e. gate≢manifest s.manifest.no number (sym is ∙ e)),
  ((λ e. gate≢gate s.manifest.no number (λ same. omega (arith, same, lt)) (sym is ∙ e)), tt),
)
cited_old s number name lt (inr (inl is)) = (
  (λ e. manifest≢manifest s.manifest.no number (λ same. omega (arith, same, lt)) (sym is ∙ e)),
  ((λ e. manifest≢gate s.manifest.no number (sym is ∙ e)), tt),
)
cited_old s number name lt (inr (inr is)) = part_new s number name is

pub switch_encodes : (s t : Stored) (d c : Directory) → Encodes d s → HasParts d t → s.manifest.no < t.manifest.no → IsSwitched t.manifest.no (manifest_bytes t.manifest) (Some s.manifest.no) d c → Encodes c s ⊎ Encodes c t
switch_encodes s t d c e parts lt (inl un) = inl (framed s d c e (record {
  same = λ name is. un.others name (cited_old s t.manifest.no name lt is);
  above = λ k above. elim (cases_eq k t.manifest.no) [
    | inl same ↦ ap (λ n. object c (gate_name n)) same ∙ un.no_gate
    | inr ne ↦ un.others (gate_name k) (gate≢manifest k t.manifest.no, (gate≢gate k t.manifest.no ne, tt)) ∙ e.greatest.1 k above
  ];
}))
switch_encodes s t d c e parts lt (inr new) = inr (record {
  greatest = (
    new.gate,
    λ k above. elim (new.older (gate_name k) (gate≢manifest k t.manifest.no, (gate≢gate k t.manifest.no (λ same. omega (arith, same, above)), tt))) [
      | inl gone ↦ gone
      | inr same ↦ same ∙ e.greatest.1 k (omega (arith, above, lt))
    ],
  );
  manifest = new.manifest;
  parts = parts_framed d c t (λ name is. new.others name (part_old t t.manifest.no s.manifest.no name is)) parts;
})

pub switch_keeps : (h : History) (s t : Stored) (d c : Directory) → IsCoherent s → Encodes d s → IsFor h s → IsCoherent t → HasParts d t → IsFor h t → t.manifest.config ≡ s.manifest.config → s.manifest.no < t.manifest.no
    → IsSwitched t.manifest.no (manifest_bytes t.manifest) (Some s.manifest.no) d c → IsKept s.manifest.config c h
switch_keeps h s t d c s_is e s_for t_is parts t_for same lt left = elim (switch_encodes s t d c e parts lt left) [
  | inl old ↦ inr (record { s = s; config_is = refl; coherent = s_is; encodes = old; stands = s_for })
  | inr new ↦ inr (record { s = t; config_is = same; coherent = t_is; encodes = new; stands = t_for })
]

-- the first switch, where there is no gate
pub first_switch_encodes : (t : Stored) (d c : Directory) → HasGreatest None d → HasParts d t → IsSwitched t.manifest.no (manifest_bytes t.manifest) None d c → HasGreatest None c ⊎ Encodes c t
first_switch_encodes t d c none parts (inl un) = inl (λ k. elim (cases_eq k t.manifest.no) [
  | inl same ↦ ap (λ n. object c (gate_name n)) same ∙ un.no_gate
  | inr ne ↦ un.others (gate_name k) (gate≢manifest k t.manifest.no, (gate≢gate k t.manifest.no ne, tt)) ∙ none k
])
first_switch_encodes t d c none parts (inr new) = inr (record {
  greatest = (
    new.gate,
    λ k above. elim (new.older (gate_name k) (gate≢manifest k t.manifest.no, (gate≢gate k t.manifest.no (λ same. omega (arith, same, above)), tt))) [
      | inl gone ↦ gone
      | inr same ↦ same ∙ none k
    ],
  );
  manifest = new.manifest;
  parts = parts_framed d c t (λ name is. new.others name (part_new t t.manifest.no name is)) parts;
})

pub first_switch_keeps : (t : Stored) (d c : Directory) → HasGreatest None d → IsCoherent t → HasParts d t → IsFor [] t → IsSwitched t.manifest.no (manifest_bytes t.manifest) None d c → IsKept t.manifest.config c []
first_switch_keeps t d c none t_is parts t_for left = elim (first_switch_encodes t d c none parts left) [
  | inl still ↦ inl (still, refl)
  | inr new ↦ inr (record { s = t; config_is = refl; coherent = t_is; encodes = new; stands = t_for })
]

-- Clearing and creating

pub clear_keeps : (config : Fields) (h : History) (d c : Directory) (names : List Name) → IsKept config d h → ((s : Stored) → IsCoherent s → Encodes d s → AreSpare s names) → IsCleared names d c → IsKept config c h
clear_keeps config h d c names (inl none) spare left = inl (
  (λ k. elim (left.either (gate_name k)) [
    | inl gone ↦ gone
    | inr same ↦ same ∙ none.0 k
  ]),
  none.1,
)
clear_keeps config h d c names (inr k) spare left = inr (record { s = k.s; config_is = k.config_is; coherent = k.coherent; encodes = besides k.s d c names k.encodes (spare k.s k.coherent k.encodes) left.others; stands = k.stands })

pub one_name : (name other : Name) → Contains (name ∷ []) other → name ≡ other
one_name name other there = by there.0 there.1 there.2
  where
    by : (k : ℕ) → k < 1 → get_or (name ∷ []) k other ≡ other → name ≡ other
    by zero lt is = is
    by (suc k) lt is = absurd (omega arith)

pub create_keeps : (config : Fields) (h : History) (d c : Directory) (name : Name) → IsKept config d h → name.kind ≢ kinds.Gate → ((s : Stored) → IsCoherent s → Encodes d s → s.manifest.next ≤ name.no) → IsCreated name d c → IsKept config c h
create_keeps config h d c name (inl none) other fresh left = inl ((λ k. left.others (gate_name k) (λ is. other (sym (ap (λ (n : Name). n.kind) is))) ∙ none.0 k), none.1)
create_keeps config h d c name (inr k) other fresh left = inr (record {
  s = k.s;
  config_is = k.config_is;
  coherent = k.coherent;
  encodes = besides k.s d c (name ∷ []) k.encodes (λ x there. subst (IsSpare k.s) (one_name name x there) (fresh_spare k.s name k.coherent (fresh k.s k.coherent k.encodes) other)) (λ x none. left.others x none.0);
  stands = k.stands;
})
