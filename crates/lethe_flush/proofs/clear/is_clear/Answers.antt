use Rattle.std.proofs.Common.{◌≡◌, map}
use Rattle.std.proofs.lemmas.List.Elements.{All-map}
use Rattle.lethe_build.specs.Drafts.{header_of}
use Rattle.lethe_build.specs.declared.draft.Draft.{Draft}
use Rattle.lethe_header.specs.declared.header.Header.{Header}
use Rattle.lethe_fade.specs.Spans.{KeyRange}
use Rattle.lethe_moves.specs.Flushes.{span_of}
use Rattle.lethe_advance.specs.Versions.{files_of}
use Rattle.lethe_flush.specs.Clear.{IsClearOf}
use Rattle.lethe_flush.proofs.Clearness.{clear_files, clear_headers, clear_all, unmapped}
use Rattle.lethe_flush.proofs.clear.is_clear.Goals as goal

abbrev headed : Draft → Header
headed draft = header_of 0 draft.tiles

pub returns-then-are_files_clear : goal.returns-then-are_files_clear
returns-then-are_files_clear g c =
    let keys : KeyRange = record { lo = c.in-Some.lo.now; hi = c.in-Some.hi.now } in
    let same : keys ≡ span_of c.args.buffer.now.entries = λ i. record { lo = c.in-Some.ensures.1 i; hi = c.in-Some.ensures.2 i } in (
      (λ yes. (c.in-Some.ensures.0, clear_all (λ file. file.header) keys (span_of c.args.buffer.now.entries) same (files_of c.args.version.now) (map headed c.args.more.now) (c.are_files_clear.ensures.0 c.if-are_files_clear.true) (All-map (IsClearOf keys) headed c.args.more.now (c.are_drafts_clear.ensures.0 yes)))),
      λ all. c.are_drafts_clear.ensures.1 (unmapped (IsClearOf keys) headed c.args.more.now (clear_headers (λ file. file.header) keys (span_of c.args.buffer.now.entries) same (files_of c.args.version.now) (map headed c.args.more.now) all.1)),
    )

pub returns-else-are_files_clear : goal.returns-else-are_files_clear
returns-else-are_files_clear g c =
    let keys : KeyRange = record { lo = c.in-Some.lo.now; hi = c.in-Some.hi.now } in
    let same : keys ≡ span_of c.args.buffer.now.entries = λ i. record { lo = c.in-Some.ensures.1 i; hi = c.in-Some.ensures.2 i } in (
      (λ yes. absurd (let no = c.if-are_files_clear.false in cc)),
      λ all. c.are_files_clear.ensures.1 (clear_files (λ file. file.header) keys (span_of c.args.buffer.now.entries) same (files_of c.args.version.now) (map headed c.args.more.now) all.1),
    )
