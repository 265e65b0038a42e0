use Rattle.std.proofs.Common.{◌≡◌, ℕ, List, inl, subst, rules}
use Rattle.lethe_disk.specs.Runs.{Leads}
use Rattle.lethe_disk.proofs.Moments.{leads_start}
use Rattle.lethe_commit.specs.Switch.{IsSwitched, IsUnswitched}
use Rattle.lethe_commit.proofs.Exchange.{itself, greatest_throughout}
use Rattle.lethe_commit.proofs.manifests.switch.Goals as goal
use Rattle.lethe_manifest.specs.Manifests.{manifest_bytes}

pub returns-in_err-bytes-clause-any_moment : goal.returns-in_err-bytes-clause-any_moment
returns-in_err-bytes-clause-any_moment g c = λ told greatest free.
    let s0 = g.D.Disk.seen c.args.disk.now in
    let bytes = manifest_bytes c.args.manifest.now in
    leads_start (IsSwitched c.args.manifest.now.no bytes greatest) s0 (λ d here. inl (itself c.args.manifest.now.no bytes greatest s0 free d here))

pub returns-in_err-bytes-clause-greatest : goal.returns-in_err-bytes-clause-greatest
returns-in_err-bytes-clause-greatest g c = λ told greatest free.
    let s0 = g.D.Disk.seen c.args.disk.now in
    let bytes = manifest_bytes c.args.manifest.now in
    greatest_throughout c.args.manifest.now.no bytes greatest s0 s0 free
    (leads_start (IsSwitched c.args.manifest.now.no bytes greatest) s0 (λ d here. inl (itself c.args.manifest.now.no bytes greatest s0 free d here)))

pub returns-clause-greatest : goal.returns-clause-greatest
returns-clause-greatest g c = λ told greatest free.
    let s0 = g.D.Disk.seen c.args.disk.now in
    let s1 = g.D.Disk.seen c.exchange.new.disk in
    let bytes : c.deref.result.now ≡ manifest_bytes c.args.manifest.now = search rules in
    greatest_throughout c.args.manifest.now.no (manifest_bytes c.args.manifest.now) greatest s0 s1 free
    (subst (λ (l : List ℕ). Leads (IsSwitched c.args.manifest.now.no l greatest) s0 s1) bytes (c.exchange.ensures.any_moment told greatest free))

pub returns-in_err-bytes-clause-unswitched : goal.returns-in_err-bytes-clause-unswitched
returns-in_err-bytes-clause-unswitched g c = λ told refused.
    let free = c.requires.free told in
    leads_start (IsUnswitched c.args.manifest.now.no) (g.D.Disk.seen c.args.disk.now) (itself c.args.manifest.now.no (manifest_bytes c.args.manifest.now) free.0 (g.D.Disk.seen c.args.disk.now) free.1)
