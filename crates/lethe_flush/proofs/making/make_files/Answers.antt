use Rattle.std.proofs.Common.{◌≡◌, List, [], ◌∷◌, rules, sym, subst, arith}
use Rattle.std.proofs.lemmas.List.{nil_from_length}
use Rattle.lethe_build.specs.declared.draft.Draft.{Draft}
use Rattle.lethe_stored.specs.Files.{StoredFile}
use Rattle.lethe_flush.specs.Made.{AreFilesOf}
use Rattle.lethe_flush.proofs.Adding.{IsSoFar, begun, ended, has_room, left_low, one_more, pages_few}
use Rattle.lethe_flush.proofs.Finishing.{cited_level, cited_spelled, headers_level, headers_spelled}
use Rattle.lethe_flush.proofs.making.make_files.Goals as goal
use Rattle.lethe_flush.proofs.making.make_files.Goals.{After-drop-draft-iterator-2}

pub loop-draft-init : goal.loop-draft-init
loop-draft-init c =
    let rest : c.into_iter-draft-iterator.result.rest.items ≡ c.args.drafts.items = search rules in
    subst (λ (rest : List Draft). IsSoFar c.args.drafts.items [] rest c.args.level c.args.upto c.args.written.now c.args.written.now c.args.first c.none-made.result) (sym rest)
    (begun c.args.drafts.items c.args.level c.args.upto c.args.written.now c.args.first c.none-made.result c.requires.drafts c.requires.few c.none-made.ensures.headers c.none-made.ensures.objects c.none-made.ensures.cited c.none-made.ensures.next)

files_of : (c : After-drop-draft-iterator-2) → (files : List StoredFile) × AreFilesOf c.args.drafts.items c.args.level c.args.upto c.args.written.now c.args.first c.loop-draft.made files
files_of c =
    let none : c.loop-draft.draft-iterator.rest.items ≡ [] = nil_from_length _ (omega (arith, c.in-None.ensures.steps.0)) in
    ended c.args.drafts.items c.loop-draft.yielded c.loop-draft.draft-iterator.rest.items c.args.level c.args.upto c.args.written.now c.loop-draft.written.now c.args.first c.loop-draft.made c.requires.written c.loop-draft.invariant none

pub add-requires-clause-written : goal.add-requires-clause-written
add-requires-clause-written c =
    let draft = c.in-Some.draft in
    let step : c.loop-draft.draft-iterator.rest.items ≡ draft ∷ c.next.new.self.rest.items = search rules in
    left_low c.args.drafts.items c.loop-draft.yielded c.next.new.self.rest.items draft c.args.level c.args.upto c.args.written.now c.loop-draft.written.now c.args.first c.requires.written c.loop-draft.made
    (subst (λ (rest : List Draft). IsSoFar c.args.drafts.items c.loop-draft.yielded rest c.args.level c.args.upto c.args.written.now c.loop-draft.written.now c.args.first c.loop-draft.made) step c.loop-draft.invariant)
    (omega (arith, c.requires.numbers))

pub add-requires-clause-room : goal.add-requires-clause-room
add-requires-clause-room c =
    let draft = c.in-Some.draft in
    let step : c.loop-draft.draft-iterator.rest.items ≡ draft ∷ c.next.new.self.rest.items = search rules in
    has_room c.args.drafts.items c.loop-draft.yielded c.next.new.self.rest.items draft c.args.level c.args.upto c.args.written.now c.loop-draft.written.now c.args.first c.requires.written c.loop-draft.made
    (subst (λ (rest : List Draft). IsSoFar c.args.drafts.items c.loop-draft.yielded rest c.args.level c.args.upto c.args.written.now c.loop-draft.written.now c.args.first c.loop-draft.made) step c.loop-draft.invariant)
    c.requires.numbers (omega (arith, c.requires.few, pages_few c.args.drafts.items))

pub loop-draft-preserved : goal.loop-draft-preserved
loop-draft-preserved c =
    let draft = c.in-Some.draft in
    let step : c.loop-draft.draft-iterator.rest.items ≡ draft ∷ c.next.new.self.rest.items = search rules in
    one_more c.args.drafts.items c.loop-draft.yielded c.next.new.self.rest.items draft c.args.level c.args.upto c.args.written.now c.loop-draft.written.now c.args.first c.requires.written c.loop-draft.made
    (subst (λ (rest : List Draft). IsSoFar c.args.drafts.items c.loop-draft.yielded rest c.args.level c.args.upto c.args.written.now c.loop-draft.written.now c.args.first c.loop-draft.made) step c.loop-draft.invariant)
    c.add.new.self c.in_ok-written.written.now c.in_ok-written.ensures.added c.in_ok-written.ensures.left

pub returns-clause-made : goal.returns-clause-made
returns-clause-made c = files_of c

pub returns-clause-headers : goal.returns-clause-headers
returns-clause-headers c = let found = files_of c in headers_spelled c.args.drafts.items c.args.level c.args.upto c.args.written.now c.args.first c.loop-draft.made found.0 found.1

pub returns-clause-cited : goal.returns-clause-cited
returns-clause-cited c = λ levels fits. let found = files_of c in cited_spelled c.args.drafts.items c.args.level c.args.upto c.args.written.now c.args.first c.loop-draft.made found.0 found.1 c.requires.upto levels fits

pub returns-clause-level : goal.returns-clause-level
returns-clause-level c = let found = files_of c in cited_level c.args.drafts.items c.args.level c.args.upto c.args.written.now c.args.first c.loop-draft.made found.0 found.1

pub returns-clause-levels : goal.returns-clause-levels
returns-clause-levels c = let found = files_of c in headers_level c.args.drafts.items c.args.level c.args.upto c.args.written.now c.args.first c.loop-draft.made found.0 found.1
