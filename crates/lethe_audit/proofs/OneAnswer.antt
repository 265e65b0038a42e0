-- Of a directory and a certificate there is one answer.
use Rattle.std.proofs.Common.{◌≡◌, ◌⊎◌, inl, inr, ℕ, ◌-◌, ◌^◌, List, [], All, Some, refl, sym, ap, ◌∙◌, subst}
use Rattle.std.specs.Prelude.{None, min}
use Rattle.std.specs.FinMap.{keys}
use Rattle.lethe_base.specs.declared.entry.Entry.{Entry}
use Rattle.lethe_base.specs.declared.name.Name.{Name}
use Rattle.lethe_base.specs.declared.pending.Pending.{Pending}
use Rattle.lethe_cert.specs.declared.certificate.Certificate.{Certificate}
use Rattle.lethe_commit.specs.Gates.{gate_name}
use Rattle.lethe_commit.specs.Switch.{HasGreatest}
use Rattle.lethe_disk.specs.Directory.{Directory, object}
use Rattle.lethe_disk.proofs.Objects.{one_object}
use Rattle.lethe_header.specs.Headers.{header_bytes}
use Rattle.lethe_header.specs.declared.header.Header.{Header}
use Rattle.lethe_header.proofs.HeaderLaws.{same_header}
use Rattle.lethe_manifest.specs.Manifests.{manifest_bytes}
use Rattle.lethe_manifest.specs.declared.manifest.Cited.{Cited}
use Rattle.lethe_manifest.specs.declared.manifest.Manifest.{Manifest}
use Rattle.lethe_manifest.proofs.ManifestLaws.{same_manifest}
use Rattle.lethe_stored.specs.Files.{file_name}
use Rattle.lethe_stored.proofs.Unique.{none_or_some, one_greatest}
use Rattle.lethe_load.specs.Damaged.{IsHeaderOf, IsSpelled}
use Rattle.lethe_audit.specs.Audited.{IsAnswer, IsAudited, IsEmptyGate, IsFilledGate, IsFlawed, IsLate, IsNo, IsOfAnother, IsToldOf, IsWhole, IsYoung, HasOld, HasPending, HasUncited}
use Rattle.lethe_audit.specs.Firsts.{IsFirstBut}
use Rattle.lethe_audit.specs.Held.{AreHeld, ArePending, puts_in}
use Rattle.lethe_audit.specs.Objects.{AreIntact, Citation, HasDigest, HasFirstFlaw, HasFlaw, HasFlawInFile, HasFlawInParts, IsCitedBy, IsIntact, IsIntactFile, IsMisspelled, IsOther, IsSpelling, header_in, pages_in, segments_in}
use Rattle.lethe_audit.specs.declared.answer.Audit.{Audit}
use Rattle.lethe_audit.specs.declared.answer.Audit.TheVariants as answer
use Rattle.lethe_audit.specs.declared.answer.NoWhy.{NoWhy}
use Rattle.lethe_audit.specs.declared.answer.NoWhy.TheVariants as no
use Rattle.lethe_audit.proofs.Firsts.{none_first, one_first}
use Rattle.lethe_audit.proofs.Spelled.{one_held, one_pending}

module _ (d : Directory) where
  -- One object

  abbrev IsFlawOf : Citation → NoWhy → Type 0
  IsFlawOf cited why = ((why ≡ no.Missing cited.name) × (object d cited.name ≡ None)) ⊎ (((why ≡ no.Spelling cited.name) × IsMisspelled d cited.name) ⊎ ((why ≡ no.Digest cited.name) × IsOther d cited))

  flaw_cases : (cited : Citation) (why : NoWhy) → HasFlaw d cited why → IsFlawOf cited why
  flaw_cases cited no.Gate flaw = absurd flaw
  flaw_cases cited no.Manifest flaw = absurd flaw
  flaw_cases cited (no.Missing name) flaw = inl (ap (λ n. no.Missing n) flaw.0, flaw.1)
  flaw_cases cited (no.Spelling name) flaw = inr (inl (ap (λ n. no.Spelling n) flaw.0, flaw.1))
  flaw_cases cited (no.Digest name) flaw = inr (inr (ap (λ n. no.Digest n) flaw.0, flaw.1))
  flaw_cases cited (no.Uncited name) flaw = absurd flaw
  flaw_cases cited (no.Old seq since) flaw = absurd flaw
  flaw_cases cited (no.Pending seq time) flaw = absurd flaw

  gone : (name : Name) (bytes : List ℕ) → object d name ≡ None → object d name ≡ Some bytes → ⊥
  gone name bytes none there = let clash : None ≡ Some bytes = sym none ∙ there in cc

  misspelled_or_spelled : (name : Name) (bytes : List ℕ) → IsMisspelled d name → object d name ≡ Some bytes → IsSpelling name bytes → ⊥
  misspelled_or_spelled name bytes bad there spelled = bad.unspelled (subst (IsSpelling name) (one_object (object d name) bytes bad.bytes there bad.there) spelled)

  pub one_flaw : (cited : Citation) (a b : NoWhy) → HasFlaw d cited a → HasFlaw d cited b → a ≡ b
  one_flaw cited a b x y = by (flaw_cases cited a x) (flaw_cases cited b y)
    where
      by : IsFlawOf cited a → IsFlawOf cited b → a ≡ b
      by (inl p) (inl q) = p.0 ∙ sym q.0
      by (inl p) (inr (inl q)) = absurd (gone cited.name q.1.bytes p.1 q.1.there)
      by (inl p) (inr (inr q)) = absurd (gone cited.name q.1.bytes p.1 q.1.there)
      by (inr (inl p)) (inl q) = absurd (gone cited.name p.1.bytes q.1 p.1.there)
      by (inr (inl p)) (inr (inl q)) = p.0 ∙ sym q.0
      by (inr (inl p)) (inr (inr q)) = absurd (misspelled_or_spelled cited.name q.1.bytes p.1 q.1.there q.1.spelled)
      by (inr (inr p)) (inl q) = absurd (gone cited.name p.1.bytes q.1 p.1.there)
      by (inr (inr p)) (inr (inl q)) = absurd (misspelled_or_spelled cited.name p.1.bytes q.1 p.1.there p.1.spelled)
      by (inr (inr p)) (inr (inr q)) = p.0 ∙ sym q.0

  pub intact_unflawed : (cited : Citation) (why : NoWhy) → IsIntact d cited → HasFlaw d cited why → ⊥
  intact_unflawed cited why intact flaw = by (flaw_cases cited why flaw)
    where
      by : IsFlawOf cited why → ⊥
      by (inl p) = gone cited.name intact.bytes p.1 intact.there
      by (inr (inl p)) = misspelled_or_spelled cited.name intact.bytes p.1 intact.there intact.spelled
      by (inr (inr p)) = p.1.other (subst (HasDigest cited.digest) (one_object (object d cited.name) intact.bytes p.1.bytes intact.there p.1.there) intact.digest)

  one_first_flaw : (items : List Citation) (a b : NoWhy) → HasFirstFlaw d items a → HasFirstFlaw d items b → a ≡ b
  one_first_flaw items a b x y = one_flaw x.0 a b x.2 (subst (λ cited. HasFlaw d cited b) (one_first (IsIntact d) items y.0 x.0 y.1 x.1) y.2)

  all_unflawed : (items : List Citation) (why : NoWhy) → All (IsIntact d) items → HasFirstFlaw d items why → ⊥
  all_unflawed items why all flaw = none_first (IsIntact d) items flaw.0 all flaw.1

  -- Files

  pub one_header : (cited : Cited) (a b : Header) → IsHeaderOf d cited a → IsHeaderOf d cited b → a ≡ b
  one_header cited a b x y = same_header a b x.spelled y.spelled (one_object (object d (file_name cited.no)) (header_bytes a) (header_bytes b) x.there y.there)

  pub header_intact : (cited : Cited) (header : Header) → IsHeaderOf d cited header → IsIntact d (header_in cited)
  header_intact cited header is = record {
    bytes = header_bytes header;
    there = is.there;
    spelled = ([], (record { header = header; spelled = is.spelled; own = is.own; is = refl }, refl));
    digest = is.digest;
  }

  one_in_file : (cited : Cited) (a b : NoWhy) → HasFlawInFile d cited a → HasFlawInFile d cited b → a ≡ b
  one_in_file cited a b (inl x) (inl y) = one_flaw (header_in cited) a b x y
  one_in_file cited a b (inl x) (inr y) = absurd (intact_unflawed (header_in cited) a (header_intact cited y.0 y.1) x)
  one_in_file cited a b (inr x) (inl y) = absurd (intact_unflawed (header_in cited) b (header_intact cited x.0 x.1) y)
  one_in_file cited a b (inr x) (inr y) = one_first_flaw (pages_in x.0) a b x.2 (subst (λ header. HasFirstFlaw d (pages_in header) b) (one_header cited y.0 x.0 y.1 x.1) y.2)

  one_in_parts : (m : Manifest) (a b : NoWhy) → HasFlawInParts d m a → HasFlawInParts d m b → a ≡ b
  one_in_parts m a b (inl x) (inl y) = one_first_flaw (segments_in m) a b x y
  one_in_parts m a b (inl x) (inr y) = absurd (all_unflawed (segments_in m) a y.0 x)
  one_in_parts m a b (inr x) (inl y) = absurd (all_unflawed (segments_in m) b x.0 y)
  one_in_parts m a b (inr x) (inr y) = one_in_file x.1.0 a b x.1.2 (subst (λ cited. HasFlawInFile d cited b) (one_first (IsIntactFile d) m.files y.1.0 x.1.0 y.1.1 x.1.1) y.1.2)

  parts_unflawed : (m : Manifest) (why : NoWhy) → AreIntact d m → HasFlawInParts d m why → ⊥
  parts_unflawed m why intact (inl flaw) = all_unflawed (segments_in m) why intact.segments flaw
  parts_unflawed m why intact (inr flaw) = none_first (IsIntactFile d) m.files flaw.1.0 intact.files flaw.1.1

  -- The manifest

  pub one_spelled : (number : ℕ) (m n : Manifest) → IsSpelled d number m → IsSpelled d number n → m ≡ n
  one_spelled number m n x y = same_manifest m n x.spelled y.spelled (one_object _ (manifest_bytes m) (manifest_bytes n) x.there y.there)

  module _ (c : Certificate) where
    pub one_told : (m n : Manifest) → IsToldOf d c m → IsToldOf d c n → m ≡ n
    one_told m n x y = one_spelled m.no m n x.spelled (subst (λ k. IsSpelled d k n) (one_greatest d n.no m.no y.gate.greatest x.gate.greatest) y.spelled)

    -- How far a look comes: each answer is given where all before it passed

    abbrev HasGate : Type 0
    HasGate = (number : ℕ) × HasGreatest (Some number) d

    abbrev HasEmptyGate : Type 0
    HasEmptyGate = (number : ℕ) × IsEmptyGate d number

    abbrev IsTold : Type 0
    IsTold = (m : Manifest) × IsToldOf d c m

    abbrev IsIntactAll : Type 0
    IsIntactAll = (m : Manifest) × IsToldOf d c m × AreIntact d m

    abbrev IsWholeAll : Type 0
    IsWholeAll = (m : Manifest) × IsWhole d c m

    abbrev AreYoungAll : Type 0
    AreYoungAll = (m : Manifest) × IsWhole d c m × ((held : List Entry) × AreHeld d held × All (IsYoung c.before) held)

    abbrev AtYes : Audit → Type 0
    AtYes a = (audited : IsAudited d c) × (a ≡ answer.Yes (min (puts_in audited.held) (2 ^ 64 - 1)))

    abbrev AtPending : Audit → Type 0
    AtPending a = ((seq : ℕ) × (time : ℕ) × HasPending d c seq time × (a ≡ answer.No (no.Pending seq time))) ⊎ AtYes a

    abbrev AtOld : Audit → Type 0
    AtOld a = ((seq : ℕ) × (since : ℕ) × HasOld d c seq since × (a ≡ answer.No (no.Old seq since))) ⊎ AtPending a

    abbrev AtUncited : Audit → Type 0
    AtUncited a = ((name : Name) × HasUncited d c name × (a ≡ answer.No (no.Uncited name))) ⊎ AtOld a

    abbrev AtFlaw : Audit → Type 0
    AtFlaw a = ((why : NoWhy) × IsFlawed d c why × (a ≡ answer.No why)) ⊎ AtUncited a

    abbrev AtManifest : Audit → Type 0
    AtManifest a = (IsOfAnother d c × (a ≡ answer.No no.Manifest)) ⊎ AtFlaw a

    abbrev AtFilled : Audit → Type 0
    AtFilled a = ((name : Name) × IsFilledGate d name × (a ≡ answer.No (no.Spelling name))) ⊎ AtManifest a

    abbrev AtGate : Audit → Type 0
    AtGate a = (HasGreatest None d × (a ≡ answer.No no.Gate)) ⊎ AtFilled a

    placed_no : (why : NoWhy) → IsNo d c why → AtGate (answer.No why)
    placed_no no.Gate is = inl (is, refl)
    placed_no no.Manifest is = inr (inr (inl (is, refl)))
    placed_no (no.Missing name) is = inr (inr (inr (inl (no.Missing name, is, refl))))
    placed_no (no.Spelling name) (inl gate) = inr (inl (name, gate, refl))
    placed_no (no.Spelling name) (inr is) = inr (inr (inr (inl (no.Spelling name, is, refl))))
    placed_no (no.Digest name) is = inr (inr (inr (inl (no.Digest name, is, refl))))
    placed_no (no.Uncited name) is = inr (inr (inr (inr (inl (name, is, refl)))))
    placed_no (no.Old seq since) is = inr (inr (inr (inr (inr (inl (seq, since, is, refl))))))
    placed_no (no.Pending seq time) is = inr (inr (inr (inr (inr (inr (inl (seq, time, is, refl)))))))

    placed : (a : Audit) → IsAnswer d c a → AtGate a
    placed (answer.No why) is = placed_no why is
    placed (answer.Yes puts) is = inr (inr (inr (inr (inr (inr (inr (is.0, ap (λ n. answer.Yes n) is.1)))))))

    -- What passed

    young_all : (a : Audit) → AtPending a → AreYoungAll
    young_all a (inl p) = (p.2.manifest, p.2.whole, (p.2.held, p.2.all, p.2.young))
    young_all a (inr y) = (y.0.manifest, y.0.whole, (y.0.held, y.0.all, y.0.young))

    whole_all : (a : Audit) → AtOld a → IsWholeAll
    whole_all a (inl o) = (o.2.manifest, o.2.whole)
    whole_all a (inr p) = let young = young_all a p in (young.0, young.1)

    intact_all : (a : Audit) → AtUncited a → IsIntactAll
    intact_all a (inl u) = (u.1.manifest, u.1.told, u.1.intact)
    intact_all a (inr o) = let whole = whole_all a o in (whole.0, whole.1.told, whole.1.intact)

    told_all : (a : Audit) → AtFlaw a → IsTold
    told_all a (inl f) = (f.1.manifest, f.1.told)
    told_all a (inr u) = let intact = intact_all a u in (intact.0, intact.1)

    empty_all : (a : Audit) → AtManifest a → HasEmptyGate
    empty_all a (inl m) = (m.0.number, m.0.gate)
    empty_all a (inr f) = let told = told_all a f in (told.0.no, told.1.gate)

    gate_all : (a : Audit) → AtFilled a → HasGate
    gate_all a (inl f) = (f.1.number, f.1.greatest)
    gate_all a (inr m) = let empty = empty_all a m in (empty.0, empty.1.greatest)

    -- Each reason bars what passes it, and is one

    filled_or_empty : (name : Name) → IsFilledGate d name → HasEmptyGate → ⊥
    filled_or_empty name filled empty =
        let same : empty.0 ≡ filled.number = one_greatest d empty.0 filled.number empty.1.greatest filled.greatest in
        let gate : object d name ≡ Some [] = subst (λ n. object d n ≡ Some []) (ap gate_name same ∙ sym filled.named) empty.1.empty in
        filled.some (one_object (object d name) filled.bytes [] filled.there gate)

    flaw_or_intact : (why : NoWhy) → IsFlawed d c why → IsIntactAll → ⊥
    flaw_or_intact why flawed intact = parts_unflawed flawed.manifest why (subst (AreIntact d) (one_told intact.0 flawed.manifest intact.1 flawed.told) intact.2) flawed.flaw

    uncited_or_whole : (name : Name) → HasUncited d c name → IsWholeAll → ⊥
    uncited_or_whole name uncited whole =
        none_first (IsCitedBy d uncited.manifest) (keys d) name (subst (λ m. All (IsCitedBy d m) (keys d)) (one_told whole.0 uncited.manifest whole.1.told uncited.told) whole.1.cited) uncited.first

    old_or_young : (seq since : ℕ) → HasOld d c seq since → AreYoungAll → ⊥
    old_or_young seq since old young =
        none_first (IsYoung c.before) old.held old.entry (subst (All (IsYoung c.before)) (one_held d young.2.0 old.held young.2.1 old.all) young.2.2) old.first

    same_erases : (m n : Manifest) (a b : List Pending) → IsWhole d c m → IsWhole d c n → ArePending d m a → ArePending d n b → a ≡ b
    same_erases m n a b x y first second = one_pending d m a b first (subst (λ k. ArePending d k b) (one_told n m y.told x.told) second)

    pending_or_late : (seq time : ℕ) → HasPending d c seq time → IsAudited d c → ⊥
    pending_or_late seq time pending audited =
        none_first (IsLate c.before) pending.erases pending.erase
        (subst (All (IsLate c.before)) (same_erases audited.manifest pending.manifest audited.erases pending.erases audited.whole pending.whole audited.pending pending.pending) audited.late) pending.first

    one_filled : (a b : Name) → IsFilledGate d a → IsFilledGate d b → a ≡ b
    one_filled a b x y = x.named ∙ ap gate_name (one_greatest d x.number y.number x.greatest y.greatest) ∙ sym y.named

    one_flawed : (a b : NoWhy) → IsFlawed d c a → IsFlawed d c b → a ≡ b
    one_flawed a b x y = one_in_parts x.manifest a b x.flaw (subst (λ m. HasFlawInParts d m b) (one_told y.manifest x.manifest y.told x.told) y.flaw)

    one_uncited : (a b : Name) → HasUncited d c a → HasUncited d c b → a ≡ b
    one_uncited a b x y = one_first (IsCitedBy d x.manifest) (keys d) a b x.first (subst (λ m. IsFirstBut (IsCitedBy d m) (keys d) b) (one_told y.manifest x.manifest y.told x.told) y.first)

    one_old : (seq since place time : ℕ) → HasOld d c seq since → HasOld d c place time → no.Old seq since ≡ no.Old place time
    one_old seq since place time x y =
        let same : x.entry ≡ y.entry = one_first (IsYoung c.before) x.held x.entry y.entry x.first (subst (λ held. IsFirstBut (IsYoung c.before) held y.entry) (one_held d y.held x.held y.all x.all) y.first) in
        let places : seq ≡ place = sym x.place ∙ ap (λ (e : Entry). e.seq) same ∙ y.place in
        let times : Some since ≡ Some time = sym x.time ∙ ap (λ (e : Entry). e.since) same ∙ y.time in
        let sinces : since ≡ time = cc in
        λ i. no.Old (places i) (sinces i)

    one_due : (seq time place other : ℕ) → HasPending d c seq time → HasPending d c place other → no.Pending seq time ≡ no.Pending place other
    one_due seq time place other x y =
        let lists : y.erases ≡ x.erases = same_erases y.manifest x.manifest y.erases x.erases y.whole x.whole y.pending x.pending in
        let same : x.erase ≡ y.erase = one_first (IsLate c.before) x.erases x.erase y.erase x.first (subst (λ erases. IsFirstBut (IsLate c.before) erases y.erase) lists y.first) in
        let places : seq ≡ place = sym x.place ∙ ap (λ (e : Pending). e.seq) same ∙ y.place in
        let times : time ≡ other = sym x.timed ∙ ap (λ (e : Pending). e.time) same ∙ y.timed in
        λ i. no.Pending (places i) (times i)

    -- The answer

    one_yes : (a b : Audit) → AtYes a → AtYes b → a ≡ b
    one_yes a b x y = x.1 ∙ ap (λ held. answer.Yes (min (puts_in held) (2 ^ 64 - 1))) (one_held d x.0.held y.0.held x.0.all y.0.all) ∙ sym y.1

    one_pending_at : (a b : Audit) → AtPending a → AtPending b → a ≡ b
    one_pending_at a b (inl x) (inl y) = x.3 ∙ ap (λ why. answer.No why) (one_due x.0 x.1 y.0 y.1 x.2 y.2) ∙ sym y.3
    one_pending_at a b (inl x) (inr y) = absurd (pending_or_late x.0 x.1 x.2 y.0)
    one_pending_at a b (inr x) (inl y) = absurd (pending_or_late y.0 y.1 y.2 x.0)
    one_pending_at a b (inr x) (inr y) = one_yes a b x y

    one_old_at : (a b : Audit) → AtOld a → AtOld b → a ≡ b
    one_old_at a b (inl x) (inl y) = x.3 ∙ ap (λ why. answer.No why) (one_old x.0 x.1 y.0 y.1 x.2 y.2) ∙ sym y.3
    one_old_at a b (inl x) (inr y) = absurd (old_or_young x.0 x.1 x.2 (young_all b y))
    one_old_at a b (inr x) (inl y) = absurd (old_or_young y.0 y.1 y.2 (young_all a x))
    one_old_at a b (inr x) (inr y) = one_pending_at a b x y

    one_uncited_at : (a b : Audit) → AtUncited a → AtUncited b → a ≡ b
    one_uncited_at a b (inl x) (inl y) = x.2 ∙ ap (λ name. answer.No (no.Uncited name)) (one_uncited x.0 y.0 x.1 y.1) ∙ sym y.2
    one_uncited_at a b (inl x) (inr y) = absurd (uncited_or_whole x.0 x.1 (whole_all b y))
    one_uncited_at a b (inr x) (inl y) = absurd (uncited_or_whole y.0 y.1 (whole_all a x))
    one_uncited_at a b (inr x) (inr y) = one_old_at a b x y

    one_flaw_at : (a b : Audit) → AtFlaw a → AtFlaw b → a ≡ b
    one_flaw_at a b (inl x) (inl y) = x.2 ∙ ap (λ why. answer.No why) (one_flawed x.0 y.0 x.1 y.1) ∙ sym y.2
    one_flaw_at a b (inl x) (inr y) = absurd (flaw_or_intact x.0 x.1 (intact_all b y))
    one_flaw_at a b (inr x) (inl y) = absurd (flaw_or_intact y.0 y.1 (intact_all a x))
    one_flaw_at a b (inr x) (inr y) = one_uncited_at a b x y

    one_manifest_at : (a b : Audit) → AtManifest a → AtManifest b → a ≡ b
    one_manifest_at a b (inl x) (inl y) = x.1 ∙ sym y.1
    one_manifest_at a b (inl x) (inr y) = let told = told_all b y in absurd (x.0.other told.0 told.1)
    one_manifest_at a b (inr x) (inl y) = let told = told_all a x in absurd (y.0.other told.0 told.1)
    one_manifest_at a b (inr x) (inr y) = one_flaw_at a b x y

    one_filled_at : (a b : Audit) → AtFilled a → AtFilled b → a ≡ b
    one_filled_at a b (inl x) (inl y) = x.2 ∙ ap (λ name. answer.No (no.Spelling name)) (one_filled x.0 y.0 x.1 y.1) ∙ sym y.2
    one_filled_at a b (inl x) (inr y) = absurd (filled_or_empty x.0 x.1 (empty_all b y))
    one_filled_at a b (inr x) (inl y) = absurd (filled_or_empty y.0 y.1 (empty_all a x))
    one_filled_at a b (inr x) (inr y) = one_manifest_at a b x y

    one_gate_at : (a b : Audit) → AtGate a → AtGate b → a ≡ b
    one_gate_at a b (inl x) (inl y) = x.1 ∙ sym y.1
    one_gate_at a b (inl x) (inr y) = let gate = gate_all b y in absurd (none_or_some d gate.0 x.0 gate.1)
    one_gate_at a b (inr x) (inl y) = let gate = gate_all a x in absurd (none_or_some d gate.0 y.0 gate.1)
    one_gate_at a b (inr x) (inr y) = one_filled_at a b x y

    pub one_answer : (a b : Audit) → IsAnswer d c a → IsAnswer d c b → a ≡ b
    one_answer a b x y = one_gate_at a b (placed a x) (placed b y)
