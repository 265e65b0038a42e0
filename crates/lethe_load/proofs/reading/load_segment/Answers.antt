use Rattle.std.proofs.Common.{◌≡◌, Some, refl, sym, ap, subst, ◌∙◌}
use Rattle.lethe_disk.specs.Directory.{object}
use Rattle.lethe_segment.specs.Heads.{HasHead, IsNoHead}
use Rattle.std.specs.Prelude.{MatchOption}
use Rattle.lethe_stored.specs.Stored.{segment_name}
use Rattle.lethe_load.specs.Refused.{MayFail, IsUnreplayed}
use Rattle.lethe_load.proofs.Replaying.{is_replayed, replay_refused, other_replayed, same_number, same_number_again}
use Rattle.lethe_load.proofs.reading.load_segment.Goals as goal

pub returns-in-Err-clause-refused : goal.returns-in-Err-clause-refused
returns-in-Err-clause-refused g c =
    let d = (g.D.Disk.seen c.args.disk.now).directory in
    let now = g.D.Disk.faults c.read_object.new.disk in
    let bytes = c.deref.result.now in
    subst (MayFail g.D.Disk.tells (IsUnreplayed d c.args.number) c.args.listing.now.faults now) (sym c.refusal_of.ensures)
    (replay_refused g.D.Disk.tells c.args.listing.now.faults now d c.args.number bytes (λ told. c.in_ok-bytes.ensures.found told ∙ ap Some (sym c.deref.ensures.value)) (λ v. v.items) c.replay.result c.in-Err.why c.in-Err.is c.replay.ensures.only)

pub returns-then-eq-clause-found : goal.returns-then-eq-clause-found
returns-then-eq-clause-found g c = λ told.
    let d = (g.D.Disk.seen c.args.disk.now).directory in
    let bytes = c.deref.result.now in
    let there : object d (segment_name c.args.number) ≡ Some bytes = c.in_ok-bytes.ensures.found told ∙ ap Some (sym c.deref.ensures.value) in
    let number = same_number c.segment_number.result c.args.number (sym c.eq.ensures ∙ c.if-eq.true) in
    let same : c.deref-2.result.now ≡ bytes = c.deref-2.ensures.value ∙ sym c.deref.ensures.value in
    let head : HasHead c.args.number bytes = subst (HasHead c.args.number) same (subst (λ r. MatchOption r (IsNoHead c.deref-2.result.now) (λ n. HasHead n c.deref-2.result.now)) number c.segment_number.ensures) in
    is_replayed d c.args.number bytes there c.in-Ok.ensures.found.0 c.in-Ok.records.items c.in-Ok.ensures.found.2 c.in-Ok.ensures.found.3 head

pub returns-clause-refused : goal.returns-clause-refused
returns-clause-refused g c = λ told.
    let d = (g.D.Disk.seen c.args.disk.now).directory in
    let bytes = c.deref-2.result.now in
    let there : object d (segment_name c.args.number) ≡ Some bytes = c.in_ok-bytes.ensures.found told ∙ ap Some (sym c.deref-2.ensures.value) in (
      refl,
      other_replayed d c.args.number bytes there c.segment_number.result c.ranges.number.fits c.segment_number.ensures (λ is.
          let yes = c.eq.ensures ∙ same_number_again c.segment_number.result c.args.number is in
          let no_so = c.if-eq.false in
          cc),
    )
