use Rattle.std.specs.Prelude.{Contains}
use Rattle.lethe_base.specs.Keys.{Bytes}
use Rattle.std.proofs.Common.{◌≡◌, ◌↔◌, ◌⊎◌, true, Ok, Some, refl, sym, ap, subst, ◌∙◌}
use Rattle.lethe_disk.specs.Directory.{object}
use Rattle.lethe_disk.proofs.Objects.{one_object}
use Rattle.lethe_disk.proofs.Quieting.{quiet_itself}
use Rattle.lethe_file.specs.Agreement.{entries_in, keys_of, page_name}
use Rattle.lethe_agreement.specs.Soundness as pages
use Rattle.lethe_agreement.specs.Soundness.{IsTaken}
use Rattle.lethe_load.specs.Progress.{IsNextPage}
use Rattle.lethe_load.specs.Refused.{MayFail, IsMissing}
use Rattle.lethe_load.proofs.Refusals.{err_moved, fails_so}
use Rattle.lethe_load.proofs.pages.check_page.Goals as goal

pub returns-then-not-is_free-clause-refused : goal.returns-then-not-is_free-clause-refused
returns-then-not-is_free-clause-refused g c = λ told. (refl, λ next. let yes = c.is_free.ensures.1 next.free in let not_so = c.if-not-is_free.true in cc)

pub returns-then-not-is_free-clause-quiet : goal.returns-then-not-is_free-clause-quiet
returns-then-not-is_free-clause-quiet g c = λ told. quiet_itself (g.D.Disk.seen c.args.disk.now)

pub returns-in_err-bytes-clause-refused : goal.returns-in_err-bytes-clause-refused
returns-in_err-bytes-clause-refused g c =
    let d = (g.D.Disk.seen c.args.disk.now).directory in
    let now = g.D.Disk.faults c.read_object.new.disk in
    err_moved c.from_residual.result c.in_err-bytes.field-0.0 (MayFail g.D.Disk.tells (λ name. (name ≡ page_name c.args.line.now.no) × (IsNextPage d c.args.numbers.now (IsTaken c.args.taken.now) c.args.tile.now c.args.line.now → ⊥)) c.args.listing.now.faults now) c.from_residual.ensures.1
    (fails_so g.D.Disk.tells (IsMissing d (page_name c.args.line.now.no)) (λ name. (name ≡ page_name c.args.line.now.no) × (IsNextPage d c.args.numbers.now (IsTaken c.args.taken.now) c.args.tile.now c.args.line.now → ⊥)) c.args.listing.now.faults now c.in_err-bytes.field-0.0
    (λ told name bad. (bad.0, λ next. let none = sym next.there ∙ bad.1 in cc)) c.in_err-bytes.ensures.refused)

pub returns-then-not-sound-clause-refused : goal.returns-then-not-sound-clause-refused
returns-then-not-sound-clause-refused g c = λ told. (
  refl,
  λ next.
      let d = (g.D.Disk.seen c.args.disk.now).directory in
      let bytes = c.deref.result.now in
      let there : object d (page_name c.args.line.now.no) ≡ Some bytes = c.in_ok-bytes.ensures.found told ∙ ap Some (sym c.deref.ensures.value) in
      let same : next.bytes ≡ bytes = one_object (object d (page_name c.args.line.now.no)) next.bytes bytes next.there there in
      let yes = c.in_ok-sound.ensures.exact.1 (subst (pages.IsSoundPage c.args.tile.now c.args.line.now (IsTaken c.args.taken.now)) same next.sound) in
      let not_so = c.if-not-sound.true in
      cc,
)

pub returns-clause-found : goal.returns-clause-found
returns-clause-found g c = λ told.
    let bytes = c.deref.result.now in
    record {
      free = c.is_free.ensures.0 c.if-not-is_free.false;
      bytes = bytes;
      there = c.in_ok-bytes.ensures.found told ∙ ap Some (sym c.deref.ensures.value);
      sound = c.in_ok-sound.ensures.exact.0 c.if-not-sound.false;
    }

pub returns-clause-keys : goal.returns-clause-keys
returns-clause-keys g c = λ told bytes there.
    let d = (g.D.Disk.seen c.args.disk.now).directory in
    let mine = c.deref.result.now in
    let here : object d (page_name c.args.line.now.no) ≡ Some mine = c.in_ok-bytes.ensures.found told ∙ ap Some (sym c.deref.ensures.value) in
    let same : mine ≡ bytes = one_object (object d (page_name c.args.line.now.no)) mine bytes here there in
    let was : c.is_sound.result ≡ Ok true = c.in_ok-sound.was ∙ ap Ok c.if-not-sound.false in
    subst (λ b. (key : Bytes) → IsTaken c.is_sound.new.taken key ↔ (IsTaken c.args.taken.now key ⊎ Contains (keys_of (entries_in b)) key)) same (c.is_sound.ensures.taken was)
