use Rattle.std.proofs.Common.{map, get_or, All, ◌≢◌, ◌<◌, ◌≤◌, arith}
use Rattle.std.proofs.lemmas.List.Elements.{All-map, All-weaker}
use Rattle.lethe_base.specs.Layout.{File, files_of}
use Rattle.lethe_cover.proofs.Lists.{pairs_from, pairs_map, pairs_to}
use Rattle.lethe_stored.specs.Files.{StoredFile, file_of}
use Rattle.lethe_flush.proofs.laws.flush_is_one.Goals as goal

pub returns : goal.returns
returns c = λ h l alone first fields made files is clear above. record {
  alone = alone;
  clear = clear;
  made = is.woven.made;
  new = record {
    distinct = pairs_to (λ (a b : File). a.no ≢ b.no) (map file_of files) (pairs_map (λ (a b : File). a.no ≢ b.no) file_of files (pairs_from (λ (a b : StoredFile). a.header.no ≢ b.header.no) files is.new.files_once));
    above = All-map (λ (file : File). All (λ (other : File). other.no < file.no) (files_of l)) file_of files
        (λ k d inside.
        let from : first ≤ (get_or files k d).header.no = (is.new.headers k d inside).0 in
        All-weaker (λ (other : File). other.no < first) (λ (other : File). other.no < (get_or files k d).header.no) (λ other below. omega (arith, below, from)) (files_of l) above);
  };
}
