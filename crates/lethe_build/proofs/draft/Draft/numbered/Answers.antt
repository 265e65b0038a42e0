use Rattle.std.proofs.Common.{◌≡◌, ◌∙◌, length, ap, sym, refl}
use Rattle.sha2.specs.Sha256.{sha256}
use Rattle.lethe_header.specs.Facts.{lines_of}
use Rattle.lethe_build.specs.Drafts.{header_of}
use Rattle.lethe_build.proofs.Numbering.{spelled_again}
use Rattle.lethe_build.proofs.draft.Draft.numbered.Goals as goal

pub with_numbers-requires : goal.with_numbers-requires
with_numbers-requires c = c.requires.count ∙ c.requires.draft.paged

pub write_header-requires : goal.write_header-requires
write_header-requires c =
    let all : length c.args.numbers.now ≡ length (lines_of c.args.self.tiles) = c.requires.count ∙ c.requires.draft.paged in
    rw c.with_numbers.ensures (spelled_again c.args.self.tiles c.args.numbers.now c.args.no c.requires.draft.spelled c.requires.numbers all c.requires.no)

pub returns : goal.returns
returns c =
    let all : length c.args.numbers.now ≡ length (lines_of c.args.self.tiles) = c.requires.count ∙ c.requires.draft.paged in
    record {
      header = ap (header_of c.args.no) c.with_numbers.ensures;
      pages = refl;
      has_spelling = rw c.with_numbers.ensures (spelled_again c.args.self.tiles c.args.numbers.now c.args.no c.requires.draft.spelled c.requires.numbers all c.requires.no);
      bytes = c.of.ensures ∙ c.in_ok-bytes.ensures;
      digest = c.digest_of-digest.ensures ∙ ap sha256 (c.deref.ensures.value ∙ sym c.of.ensures);
    }
