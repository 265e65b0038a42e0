-- The bytes of the two smallest stores are the spellings of their objects.
use Rattle.std.proofs.Common.{◌≡◌, ℕ, [], ◌∷◌, None, refl}
use Rattle.lethe_base.specs.Spelling.{entry_bytes, front_bytes}
use Rattle.lethe_base.specs.declared.config.Fields.{Fields}
use Rattle.lethe_base.specs.declared.entry.Body.TheVariants as body
use Rattle.lethe_segment.specs.declared.record.Record.TheVariants as of
use Rattle.lethe_segment.specs.Records.{record_bytes}
use Rattle.lethe_segment.specs.Segments as segments
use Rattle.lethe_segment.specs.Segments.{segment_bytes}
use Rattle.lethe_manifest.specs.declared.manifest.Manifest.{Manifest}
use Rattle.lethe_manifest.specs.Manifests.{manifest_bytes, head_bytes, times_bytes, sizes_bytes, counts_bytes, parts_bytes}
use Rattle.lethe_stored.specs.Examples.{small, new_manifest, new_segment, put_manifest, put_segment}

abbrev pub empty_manifest : Fields → ℕ → ℕ → ℕ → Manifest
empty_manifest config own next segment = record { no = own; config = config; clock = 0; count = 0; next = next; certificate = None; erases = []; segments = segment ∷ []; files = [] }

pub new_manifest_spelled : new_manifest ≡ manifest_bytes (empty_manifest small 2 3 1)
unfolding manifest_bytes head_bytes times_bytes sizes_bytes counts_bytes parts_bytes
new_manifest_spelled = refl

pub put_manifest_spelled : put_manifest ≡ manifest_bytes (empty_manifest small 4 5 3)
unfolding manifest_bytes head_bytes times_bytes sizes_bytes counts_bytes parts_bytes
put_manifest_spelled = refl

pub new_segment_spelled : new_segment ≡ segment_bytes 1 []
unfolding segment_bytes segments.head_bytes
new_segment_spelled = refl

pub put_segment_spelled : put_segment ≡ segment_bytes 3 (of.Entry (record { seq = 1; key = 97 ∷ []; body = body.Put 5 (120 ∷ []); since = None }) ∷ [])
unfolding segment_bytes segments.head_bytes record_bytes entry_bytes front_bytes
put_segment_spelled = refl
