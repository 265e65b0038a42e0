use Rattle.std.proofs.Common.{◌≡◌, ◌∙◌, ap, refl, sym}
use Rattle.sha2.specs.Sha256.{sha256}
use Rattle.lethe_build.specs.Drafts.{header_of}
use Rattle.lethe_swept.specs.Drafts.{tiles_with}
use Rattle.lethe_swept.proofs.Numbers.{spelled_again}
use Rattle.lethe_swept.proofs.draft.SweptDraft.numbered.Goals as goal

pub write_header-requires : goal.write_header-requires
write_header-requires c =
    let same : c.of.result ≡ tiles_with c.args.numbers.now c.args.self.tiles = c.of.ensures ∙ c.in_ok-tiles_with.ensures ∙ ap (tiles_with c.args.numbers.now) c.into_vec.ensures in
    rw same (spelled_again c.args.self.tiles c.args.numbers.now c.args.no c.requires.draft.has_spelling c.requires.numbers c.requires.no)

pub returns : goal.returns
returns c =
    let same : c.of.result ≡ tiles_with c.args.numbers.now c.args.self.tiles = c.of.ensures ∙ c.in_ok-tiles_with.ensures ∙ ap (tiles_with c.args.numbers.now) c.into_vec.ensures in
    record {
      header = ap (header_of c.args.no) same;
      pages = refl;
      has_spelling = rw same (spelled_again c.args.self.tiles c.args.numbers.now c.args.no c.requires.draft.has_spelling c.requires.numbers c.requires.no);
      bytes = c.of-2.ensures ∙ c.in_ok-bytes.ensures;
      digest = c.digest_of-digest.ensures ∙ ap sha256 (c.deref.ensures.value ∙ sym c.of-2.ensures);
    }
