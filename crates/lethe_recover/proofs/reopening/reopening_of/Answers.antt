use Rattle.std.proofs.Common.{◌≡◌, ◌+◌, [], ◌∷◌, ◌++◌, length, All, sym, ap, subst, arith, length-append}
use Rattle.std.specs.Prelude.{List}
use Rattle.std.proofs.lemmas.List.Elements.{All-append}
use Rattle.lethe_header.specs.Headers as headers
use Rattle.lethe_manifest.specs.Manifests.{HasSpelling}
use Rattle.lethe_manifest.specs.declared.manifest.Manifest.{Manifest}
use Rattle.lethe_header.specs.declared.header.Header.{Header}
use Rattle.lethe_stored.specs.Stored.{Stored, IsCoherent, count_of, pending_of}
use Rattle.lethe_advance.specs.declared.new_header.NewHeader.{NewHeader}
use Rattle.lethe_recover.specs.Flushing.{AreDraftsOfJournal}
use Rattle.lethe_recover.specs.Journals.{IsJournalOf}
use Rattle.lethe_recover.specs.declared.journal.Journal.{Journal}
use Rattle.lethe_advance.specs.Segment.{empty_segment}
use Rattle.lethe_recover.specs.Reopening.{AreHeadersOf, IsStepOf, Reopens}
use Rattle.lethe_flush.proofs.Results.{ok_both, ok_weaker}
use Rattle.lethe_recover.proofs.Stepping.{reopens}
use Rattle.lethe_recover.proofs.reopening.reopening_of.Goals as goal

pub returns-clause-reopens : goal.returns-clause-reopens
returns-clause-reopens c =
    let m = c.args.manifest.now in
    let count = c.args.count in
    let erases = c.args.erases.items in
    let flushes = c.in_ok-flushes.flushes in
    ok_both c.step_of.result (IsStepOf m count erases flushes) (λ made. HasSpelling made.step.manifest)
    (λ made. (s : Stored) (journal : Journal) (heads : List Header) → IsCoherent s → s.manifest ≡ m → count ≡ count_of s → erases ≡ pending_of s
    → AreHeadersOf s heads → IsJournalOf s journal → AreDraftsOfJournal m.config journal erases heads c.args.drafts → Reopens s made)
    c.step_of.ensures.is c.step_of.ensures.spelled
    (λ made is spelled s journal heads coherent same counted pending has journal_is drafts.
    reopens s coherent m same count counted erases pending heads has journal journal_is flushes (c.in_ok-flushes.ensures.made m.config journal erases heads drafts)
    c.in_ok-flushes.ensures.older c.in_ok-flushes.ensures.newer made is spelled)

abbrev IsSpelled : NewHeader → Type 0
IsSpelled new = headers.HasSpelling new.header

abbrev IsZeroth : NewHeader → Type 0
IsZeroth new = new.level ≡ 0

pub returns-clause-headers : goal.returns-clause-headers
returns-clause-headers c =
    let flushes = c.in_ok-flushes.flushes in
    ok_weaker c.step_of.result (IsStepOf c.args.manifest.now c.args.count c.args.erases.items flushes) (λ made. All IsSpelled made.headers.items) c.step_of.ensures.is (λ made is.
    subst (All IsSpelled) (sym is.headers) (All-append IsSpelled flushes.newer.headers.items flushes.older.headers.items c.in_ok-flushes.ensures.newer.headers c.in_ok-flushes.ensures.older.headers))

pub returns-clause-levels : goal.returns-clause-levels
returns-clause-levels c =
    let flushes = c.in_ok-flushes.flushes in
    ok_weaker c.step_of.result (IsStepOf c.args.manifest.now c.args.count c.args.erases.items flushes) (λ made. All IsZeroth made.headers.items) c.step_of.ensures.is (λ made is.
    subst (All IsZeroth) (sym is.headers) (All-append IsZeroth flushes.newer.headers.items flushes.older.headers.items c.in_ok-flushes.ensures.newer.levels c.in_ok-flushes.ensures.older.levels))

pub returns-clause-next : goal.returns-clause-next
returns-clause-next c =
    let m = c.args.manifest.now in
    let flushes = c.in_ok-flushes.flushes in
    ok_weaker c.step_of.result (IsStepOf m c.args.count c.args.erases.items flushes) (λ made. made.step.manifest.next ≡ m.next + length made.step.objects.items + 1) c.step_of.ensures.is (λ made is.
    let next : made.step.manifest.next ≡ flushes.newer.next + 1 + 1 = ap (λ (x : Manifest). x.next) is.manifest in
    let older = c.in_ok-flushes.ensures.older.next in
    let newer = c.in_ok-flushes.ensures.newer.next in
    let long = ap length is.objects in
    let most = length-append (flushes.older.objects.items ++ flushes.newer.objects.items) (empty_segment flushes.newer.next ∷ []) in
    let both = length-append flushes.older.objects.items flushes.newer.objects.items in
    omega (arith, next, older, newer, long, most, both))
