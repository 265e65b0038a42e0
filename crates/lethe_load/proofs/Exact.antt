-- What is read is all that can be, and each refusal has one reason.
use Rattle.std.proofs.Common.{◌≡◌, ◌⊎◌, inl, inr, ℕ, None, Result, Ok, Err, sym, ap, ◌∙◌, subst}
use Rattle.std.specs.Prelude.{IfOk, IfErr, MatchResult}
use Rattle.lethe_base.specs.History.{History}
use Rattle.lethe_base.specs.declared.config.Fields.{Fields}
use Rattle.lethe_base.specs.declared.name.Name.{Name}
use Rattle.lethe_disk.specs.Directory.{Directory}
use Rattle.lethe_header.specs.Headers.{EachFollows}
use Rattle.lethe_manifest.specs.declared.manifest.Manifest.{Manifest}
use Rattle.lethe_commit.specs.Switch.{HasGreatest, manifest_name}
use Rattle.lethe_stored.specs.Levels.{AreRising}
use Rattle.lethe_stored.specs.Stored.{Stored, IsCoherent}
use Rattle.lethe_stored.specs.Encodes.{Encodes}
use Rattle.lethe_stored.specs.Kept.{IsKept}
use Rattle.lethe_stored.proofs.Leveled.{kept_rise}
use Rattle.lethe_stored.proofs.Unique.{none_or_some, one_greatest, one_stored}
use Rattle.lethe_load.specs.declared.refused.RecoverRefused.{RecoverRefused}
use Rattle.lethe_load.specs.declared.refused.RecoverRefused.TheVariants.{Damaged, Fault, NoMemory, OtherConfig}
use Rattle.lethe_load.specs.Damaged.{IsSpelled, IsGated, IsDamaged, IsDamagedManifest, IsDamagedPart, IsDamagedSegment, IsDamagedFile, IsDisordered, IsSoundSegment, IsSoundFile}
use Rattle.lethe_load.specs.Loaded.{Read, nothing, read_of, IsLoaded}
use Rattle.lethe_load.specs.Refused.{HasOtherConfig, HasReason, IsInterrupted, MayRefuse}
use Rattle.lethe_load.proofs.Gated.{one_gated, encodes_gated}
use Rattle.lethe_load.proofs.Firsts.{none_bad, one_segment, one_file, first_file}
use Rattle.lethe_load.proofs.Encoded.{segments_sound, files_sound}

abbrev config_of : Manifest → Fields
config_of m = m.config

-- where a manifest counts and is spelled, it isn't damaged
gated_undamaged : (d : Directory) (m : Manifest) (name : Name) → IsGated d m → IsDamagedManifest d name → ⊥
gated_undamaged d m name gated bad = bad.damaged m (subst (λ n. IsSpelled d n m) (one_greatest d m.no bad.number gated.greatest bad.greatest) gated.is)

none_undamaged : (config : Fields) (d : Directory) (name : Name) → HasGreatest None d → IsDamaged config d name → ⊥
none_undamaged config d name none (inl bad) = none_or_some d bad.number none bad.greatest
none_undamaged config d name none (inr bad) = none_or_some d bad.0.no none bad.1.greatest

segment_sound : (d : Directory) (m : Manifest) (name : Name) → EachFollows (IsSoundSegment d) m.segments → IsDamagedSegment d m.segments name → ⊥
segment_sound d m name each bad = none_bad (IsSoundSegment d) m.segments bad.0 bad.1 each bad.2

file_sound : (d : Directory) (m : Manifest) (name : Name) → EachFollows (IsSoundFile d m.next) m.files → IsDamagedFile d m.next m.files name → ⊥
file_sound d m name each bad = none_bad (IsSoundFile d m.next) m.files bad.before bad.cited each (first_file d m.next m.files name bad)

-- what a directory encodes in order isn't damaged
part_undamaged : (d : Directory) (s : Stored) (name : Name) → IsCoherent s → Encodes d s → AreRising s.files → IsDamagedPart d s.manifest name → ⊥
part_undamaged d s name coherent e rising (inl bad) = segment_sound d s.manifest name (segments_sound d s coherent e) bad
part_undamaged d s name coherent e rising (inr (inl bad)) = file_sound d s.manifest name (files_sound d s coherent e) bad.1
part_undamaged d s name coherent e rising (inr (inr bad)) = bad.falls (subst (λ (t : Stored). AreRising t.files) (one_stored d s bad.s coherent bad.coherent e bad.encodes) rising)

pub encoded_undamaged : (config : Fields) (d : Directory) (s : Stored) (name : Name) → IsCoherent s → Encodes d s → AreRising s.files → IsDamaged config d name → ⊥
encoded_undamaged config d s name coherent e rising (inl bad) = gated_undamaged d s.manifest name (encodes_gated d s coherent e) bad
encoded_undamaged config d s name coherent e rising (inr bad) =
    part_undamaged d s name coherent e rising (subst (λ m. IsDamagedPart d m name) (one_gated d bad.0 s.manifest bad.1 (encodes_gated d s coherent e)) bad.3)

-- what is kept for a history isn't damaged
pub kept_undamaged : (kept : Fields) (h : History) (d : Directory) → IsKept kept d h → (config : Fields) (name : Name) → IsDamaged config d name → ⊥
kept_undamaged kept h d (inl none) config name = none_undamaged config d name none.0
kept_undamaged kept h d (inr k) config name = encoded_undamaged config d k.s name k.coherent k.encodes (kept_rise h k.s k.coherent k.stands)

-- Damage is one

disordered_segments : (d : Directory) (m : Manifest) (name : Name) → IsDisordered d m name → EachFollows (IsSoundSegment d) m.segments
disordered_segments d m name bad = subst (λ (x : Manifest). EachFollows (IsSoundSegment d) x.segments) bad.manifest (segments_sound d bad.s bad.coherent bad.encodes)

disordered_files : (d : Directory) (m : Manifest) (name : Name) → IsDisordered d m name → EachFollows (IsSoundFile d m.next) m.files
disordered_files d m name bad = subst (λ (x : Manifest). EachFollows (IsSoundFile d x.next) x.files) bad.manifest (files_sound d bad.s bad.coherent bad.encodes)

one_part : (d : Directory) (m : Manifest) (a b : Name) → IsDamagedPart d m a → IsDamagedPart d m b → a ≡ b
one_part d m a b (inl x) (inl y) = one_segment d m.segments a b x y
one_part d m a b (inl x) (inr (inl y)) = absurd (segment_sound d m a y.0 x)
one_part d m a b (inl x) (inr (inr y)) = absurd (segment_sound d m a (disordered_segments d m b y) x)
one_part d m a b (inr (inl x)) (inl y) = absurd (segment_sound d m b x.0 y)
one_part d m a b (inr (inl x)) (inr (inl y)) = one_file d m.next m.files a b x.1 y.1
one_part d m a b (inr (inl x)) (inr (inr y)) = absurd (file_sound d m a (disordered_files d m b y) x.1)
one_part d m a b (inr (inr x)) (inl y) = absurd (segment_sound d m b (disordered_segments d m a x) y)
one_part d m a b (inr (inr x)) (inr (inl y)) = absurd (file_sound d m b (disordered_files d m a x) y.1)
one_part d m a b (inr (inr x)) (inr (inr y)) = x.named ∙ sym y.named

module _ (config : Fields) (d : Directory) where
  one_damaged : (a b : Name) → IsDamaged config d a → IsDamaged config d b → a ≡ b
  one_damaged a b (inl x) (inl y) = x.is ∙ ap manifest_name (one_greatest d x.number y.number x.greatest y.greatest) ∙ sym y.is
  one_damaged a b (inl x) (inr y) = absurd (gated_undamaged d y.0 a y.1 x)
  one_damaged a b (inr x) (inl y) = absurd (gated_undamaged d x.0 b x.1 y)
  one_damaged a b (inr x) (inr y) = one_part d x.0 a b x.3 (subst (λ m. IsDamagedPart d m b) (one_gated d y.0 x.0 y.1 x.1) y.3)

  damaged_or_other : (name : Name) (kept : Fields) → IsDamaged config d name → HasOtherConfig config d kept → ⊥
  damaged_or_other name kept (inl bad) other = gated_undamaged d other.manifest name other.gated bad
  damaged_or_other name kept (inr bad) other = other.other (sym other.kept_is ∙ ap config_of (one_gated d other.manifest bad.0 other.gated bad.1) ∙ bad.2)

  one_other : (a b : Fields) → HasOtherConfig config d a → HasOtherConfig config d b → a ≡ b
  one_other a b x y = sym x.kept_is ∙ ap config_of (one_gated d x.manifest y.manifest x.gated y.gated) ∙ y.kept_is

  -- a directory with a reason isn't read
  unread : (read : Read) (why : RecoverRefused) → IsLoaded config d read → HasReason config d why → ⊥
  unread read (Damaged name) (inl none) reason = none_undamaged config d name none.0 reason
  unread read (Damaged name) (inr is) reason = encoded_undamaged config d is.s name is.coherent is.encodes is.rising reason
  unread read (Fault a b) loaded reason = reason
  unread read NoMemory loaded reason = reason
  unread read (OtherConfig kept) (inl none) reason = none_or_some d reason.manifest.no none.0 reason.gated.greatest
  unread read (OtherConfig kept) (inr is) reason =
      reason.other (sym reason.kept_is ∙ ap config_of (one_gated d reason.manifest is.s.manifest reason.gated (encodes_gated d is.s is.coherent is.encodes)) ∙ is.config_is)

  -- The three answers

  module _ {V : Type 0} (shown : V → Read) (before now : ℕ) (Tells : Type 0) (told : Tells) where
    pub only_read : (result : Result V RecoverRefused) → IfOk result (λ v. IsLoaded config d (shown v)) → IfErr result (MayRefuse Tells config d before now) → (s : Stored) → IsCoherent s → Encodes d s → AreRising s.files → s.manifest.config ≡ config
        → MatchResult result (λ v. shown v ≡ read_of s) (IsInterrupted before now)
    only_read (Ok v) (inl none) fails s coherent e rising same = absurd (none_or_some d s.manifest.no none.0 e.greatest)
    only_read (Ok v) (inr is) fails s coherent e rising same = is.all ∙ ap read_of (one_stored d is.s s is.coherent coherent is.encodes e)
    only_read (Err (Damaged name)) ok fails s coherent e rising same = encoded_undamaged config d s name coherent e rising (fails told)
    only_read (Err (Fault a b)) ok fails s coherent e rising same = fails
    only_read (Err NoMemory) ok fails s coherent e rising same = tt
    only_read (Err (OtherConfig kept)) ok fails s coherent e rising same =
        let other = fails told in
        other.other (sym other.kept_is ∙ ap config_of (one_gated d other.manifest s.manifest other.gated (encodes_gated d s coherent e)) ∙ same)

    pub none_read : (result : Result V RecoverRefused) → IfOk result (λ v. IsLoaded config d (shown v)) → IfErr result (MayRefuse Tells config d before now) → HasGreatest None d → MatchResult result (λ v. shown v ≡ nothing) (IsInterrupted before now)
    none_read (Ok v) (inl is) fails none = is.1
    none_read (Ok v) (inr is) fails none = absurd (none_or_some d is.s.manifest.no none is.encodes.greatest)
    none_read (Err (Damaged name)) ok fails none = none_undamaged config d name none (fails told)
    none_read (Err (Fault a b)) ok fails none = fails
    none_read (Err NoMemory) ok fails none = tt
    none_read (Err (OtherConfig kept)) ok fails none = let other = fails told in none_or_some d other.manifest.no none other.gated.greatest

    pub exact_refused : (result : Result V RecoverRefused) → IfOk result (λ v. IsLoaded config d (shown v)) → IfErr result (MayRefuse Tells config d before now) → (why : RecoverRefused) → HasReason config d why
        → MatchResult result (λ v. ⊥) (λ told. (told ≡ why) ⊎ IsInterrupted before now told)
    exact_refused (Ok v) loaded fails why reason = unread (shown v) why loaded reason
    exact_refused (Err (Fault a b)) ok fails why reason = inr fails
    exact_refused (Err NoMemory) ok fails why reason = inr tt
    exact_refused (Err (Damaged name)) ok fails (Damaged other) reason = inl (ap Damaged (one_damaged name other (fails told) reason))
    exact_refused (Err (Damaged name)) ok fails (Fault a b) reason = absurd reason
    exact_refused (Err (Damaged name)) ok fails NoMemory reason = absurd reason
    exact_refused (Err (Damaged name)) ok fails (OtherConfig kept) reason = absurd (damaged_or_other name kept (fails told) reason)
    exact_refused (Err (OtherConfig kept)) ok fails (Damaged name) reason = absurd (damaged_or_other name kept reason (fails told))
    exact_refused (Err (OtherConfig kept)) ok fails (Fault a b) reason = absurd reason
    exact_refused (Err (OtherConfig kept)) ok fails NoMemory reason = absurd reason
    exact_refused (Err (OtherConfig kept)) ok fails (OtherConfig other) reason = inl (ap OtherConfig (one_other kept other (fails told) reason))
