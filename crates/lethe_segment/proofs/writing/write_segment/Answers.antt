use Rattle.std.proofs.Common.{◌≡◌, ◌++◌, sym, ap, subst, ◌∙◌, append-nil}
use Rattle.lethe_segment.specs.Records.{record_bytes, RecordHasSpelling}
use Rattle.lethe_segment.specs.Segments.{head_bytes}
use Rattle.lethe_segment.proofs.Spelling.{spelled_at, one_written}
use Rattle.lethe_segment.proofs.writing.write_segment.Goals as goal

pub loop-record-init : goal.loop-record-init
loop-record-init c = c.in_ok-extend_from_slice.ensures.items ∙ ap (λ l. l ++ c.head.result) c.new-out.ensures.items ∙ c.head.ensures ∙ sym (append-nil (head_bytes c.args.number))

pub write_record-requires : goal.write_record-requires
write_record-requires c = subst RecordHasSpelling (sym c.record-item.is) (spelled_at 0 c.args.records.now c.loop-record.record-index c.record-item.result c.requires c.loop-record-test.true)

pub loop-record-preserved : goal.loop-record-preserved
loop-record-preserved c =
    let body : c.deref.result.now ≡ record_bytes c.record-item.result = c.deref.ensures.value ∙ c.in_ok-body.ensures in
    c.in_ok-extend_from_slice-2.ensures.items ∙ ap (λ l. l ++ c.deref.result.now) c.in_ok-push.ensures.items
    ∙ one_written (head_bytes c.args.number) c.loop-record.out.items c.deref.result.now c.args.records.now c.loop-record.record-index c.record-item.result c.loop-record-test.true c.record-item.is c.loop-record.invariant body
