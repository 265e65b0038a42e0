use Rattle.std.proofs.Common.{◌≡◌, length, rules, subst}
use Rattle.sha2.specs.Sha256.{sha256}
use Rattle.lethe_file.specs.Agreement.{IsFilterOf, fence_of, keys_of}
use Rattle.lethe_base.specs.Shapes.{oldest_of}
use Rattle.lethe_build.specs.Built.{class_of, spelled}
use Rattle.lethe_build.proofs.Lines.{is_line_of, most_then}
use Rattle.lethe_build.proofs.page.line_of.Goals as goal

pub returns-clause-line : goal.returns-clause-line
returns-clause-line c =
    let entries = c.args.entries.items in
    let class : c.class_of-class.result ≡ class_of entries = search rules in
    let len : c.len-count.result ≡ length entries = search rules in
    let max_seq : c.max_seq_of-max_seq.result ≡ most_then 0 entries = search rules in
    let oldest : c.oldest_of-oldest.result ≡ oldest_of entries = search rules in
    let fence : c.fence_of-fence.result ≡ fence_of entries = search rules in
    let keys : c.deref-5.result.now ≡ keys_of entries = search rules in
    let digest : c.digest_of.result ≡ sha256 (spelled entries) = search rules in
    is_line_of entries _ c.requires.page c.requires.number class len max_seq oldest fence (subst (λ ks. IsFilterOf ks c.in_ok-filter.filter) keys c.in_ok-filter.ensures) digest
