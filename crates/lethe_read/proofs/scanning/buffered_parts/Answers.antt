use Rattle.std.proofs.Common.{◌≡◌, List, [], ◌∷◌, ◌++◌, length, refl, ap, ◌∙◌}
use Rattle.lethe_file.specs.Damage.{damages_in, gives_in}
use Rattle.lethe_file.specs.Waiting.{IsSoundIn, awaited_in, left_in}
use Rattle.lethe_read.specs.declared.part.Part.TheVariants.{Buffered}
use Rattle.lethe_read.proofs.Awaiting.{one_awaits, one_tells, two_awaits, two_tells}
use Rattle.lethe_read.proofs.Buffered.{one_gives, one_left, one_sound, two_give, two_left, two_sound}
use Rattle.lethe_read.proofs.scanning.buffered_parts.Goals as goal
use Rattle.lethe_read.proofs.scanning.buffered_parts.Goals.{in-Some+in_ok-copies_between-2+in_ok-push-2, in_default}

-- the first part, and the second behind it
first_part : {P : Type 0} (made parts : List P) (first : P) → made ≡ [] → parts ≡ made ++ first ∷ [] → parts ≡ first ∷ []
first_part made parts first none is = is ∙ ap (λ l. l ++ first ∷ []) none

second_part : {P : Type 0} (made parts more : List P) (first second : P) → made ≡ [] → parts ≡ made ++ first ∷ [] → more ≡ parts ++ second ∷ [] → more ≡ first ∷ second ∷ []
second_part made parts more first second none is next = next ∙ ap (λ l. l ++ second ∷ []) (first_part made parts first none is)

pub returns-clause-sound : goal.returns-clause-sound
returns-clause-sound g c =
    let laws = g.met.B.Buffer g.world.𝓛 g.world.𝓜 g.world.𝓡 ((λ s x. x), (λ x. x), (λ x. x), λ x. x) in
    let first = c.in_ok-copies_between.field-0 in
    elim c.match-frozen.branch [
      | in-Some+in_ok-copies_between-2+in_ok-push-2 w ↦
          let second = w.in_ok-copies_between-2.field-0 in
          rw w.parts-is (two_sound (λ cursor. left_in g.D.Disk.page_bytes cursor.unread) c.args.lo.now c.args.hi.now (g.B.Buffer.entries c.args.active.now) (g.B.Buffer.entries w.in-Some.frozen.now)
          g.D.Disk.tells (λ cursor. IsSoundIn g.D.Disk.tells g.D.Disk.page_bytes cursor.unread) w.push-in-Some.new.self.items first second (laws.ascending c.args.active.now) (laws.ascending w.in-Some.frozen.now) c.in_ok-copies_between.ensures w.in_ok-copies_between-2.ensures
          (second_part c.new-parts.result.items c.push.new.self.items w.push-in-Some.new.self.items (Buffered first) (Buffered second) c.new-parts.ensures.items c.in_ok-push.ensures.items w.in_ok-push-2.ensures.items))
      | in_default w ↦
          rw w.parts-is (one_sound (λ cursor. left_in g.D.Disk.page_bytes cursor.unread) c.args.lo.now c.args.hi.now (g.B.Buffer.entries c.args.active.now) []
          g.D.Disk.tells (λ cursor. IsSoundIn g.D.Disk.tells g.D.Disk.page_bytes cursor.unread) c.push.new.self.items first (laws.ascending c.args.active.now) c.in_ok-copies_between.ensures
          (first_part c.new-parts.result.items c.push.new.self.items (Buffered first) c.new-parts.ensures.items c.in_ok-push.ensures.items))
    ]

pub returns-clause-left : goal.returns-clause-left
returns-clause-left g c =
    let first = c.in_ok-copies_between.field-0 in
    elim c.match-frozen.branch [
      | in-Some+in_ok-copies_between-2+in_ok-push-2 w ↦
          let second = w.in_ok-copies_between-2.field-0 in
          rw (w.parts-is, w.in-Some.is) (two_left (λ cursor. left_in g.D.Disk.page_bytes cursor.unread) c.args.lo.now c.args.hi.now (g.B.Buffer.entries c.args.active.now)
          (g.B.Buffer.entries w.in-Some.frozen.now) w.push-in-Some.new.self.items first second c.in_ok-copies_between.ensures w.in_ok-copies_between-2.ensures
          (second_part c.new-parts.result.items c.push.new.self.items w.push-in-Some.new.self.items (Buffered first) (Buffered second) c.new-parts.ensures.items c.in_ok-push.ensures.items w.in_ok-push-2.ensures.items))
      | in_default w ↦
          rw (w.parts-is, w.in_default.is) (one_left (λ cursor. left_in g.D.Disk.page_bytes cursor.unread) c.args.lo.now c.args.hi.now (g.B.Buffer.entries c.args.active.now) []
          c.push.new.self.items first refl c.in_ok-copies_between.ensures
          (first_part c.new-parts.result.items c.push.new.self.items (Buffered first) c.new-parts.ensures.items c.in_ok-push.ensures.items))
    ]

pub returns-clause-awaits : goal.returns-clause-awaits
returns-clause-awaits g c =
    let first = c.in_ok-copies_between.field-0 in
    elim c.match-frozen.branch [
      | in-Some+in_ok-copies_between-2+in_ok-push-2 w ↦
          let second = w.in_ok-copies_between-2.field-0 in
          rw w.parts-is (two_awaits (λ cursor. length (awaited_in g.D.Disk.page_bytes cursor.unread)) (λ cursor. damages_in g.D.Disk.tells g.D.Disk.page_bytes cursor.unread) w.push-in-Some.new.self.items first second
          (second_part c.new-parts.result.items c.push.new.self.items w.push-in-Some.new.self.items (Buffered first) (Buffered second) c.new-parts.ensures.items c.in_ok-push.ensures.items w.in_ok-push-2.ensures.items))
      | in_default w ↦
          rw w.parts-is (one_awaits (λ cursor. length (awaited_in g.D.Disk.page_bytes cursor.unread)) (λ cursor. damages_in g.D.Disk.tells g.D.Disk.page_bytes cursor.unread) c.push.new.self.items first first
          (first_part c.new-parts.result.items c.push.new.self.items (Buffered first) c.new-parts.ensures.items c.in_ok-push.ensures.items))
    ]

pub returns-clause-damages : goal.returns-clause-damages
returns-clause-damages g c =
    let first = c.in_ok-copies_between.field-0 in
    elim c.match-frozen.branch [
      | in-Some+in_ok-copies_between-2+in_ok-push-2 w ↦
          let second = w.in_ok-copies_between-2.field-0 in
          rw w.parts-is (two_tells (λ cursor. length (awaited_in g.D.Disk.page_bytes cursor.unread)) (λ cursor. damages_in g.D.Disk.tells g.D.Disk.page_bytes cursor.unread) w.push-in-Some.new.self.items first second
          (second_part c.new-parts.result.items c.push.new.self.items w.push-in-Some.new.self.items (Buffered first) (Buffered second) c.new-parts.ensures.items c.in_ok-push.ensures.items w.in_ok-push-2.ensures.items))
      | in_default w ↦
          rw w.parts-is (one_tells (λ cursor. length (awaited_in g.D.Disk.page_bytes cursor.unread)) (λ cursor. damages_in g.D.Disk.tells g.D.Disk.page_bytes cursor.unread) c.push.new.self.items first first
          (first_part c.new-parts.result.items c.push.new.self.items (Buffered first) c.new-parts.ensures.items c.in_ok-push.ensures.items))
    ]

pub returns-clause-gives : goal.returns-clause-gives
returns-clause-gives g c =
    let first = c.in_ok-copies_between.field-0 in
    elim c.match-frozen.branch [
      | in-Some+in_ok-copies_between-2+in_ok-push-2 w ↦
          let second = w.in_ok-copies_between-2.field-0 in
          rw (w.parts-is, w.in-Some.is) (λ entry any. two_give (λ cursor. gives_in g.D.Disk.page_bytes cursor.unread) c.args.lo.now c.args.hi.now (g.B.Buffer.entries c.args.active.now) (g.B.Buffer.entries w.in-Some.frozen.now)
          w.push-in-Some.new.self.items entry first second c.in_ok-copies_between.ensures w.in_ok-copies_between-2.ensures
          (second_part c.new-parts.result.items c.push.new.self.items w.push-in-Some.new.self.items (Buffered first) (Buffered second) c.new-parts.ensures.items c.in_ok-push.ensures.items w.in_ok-push-2.ensures.items) any)
      | in_default w ↦
          rw (w.parts-is, w.in_default.is) (λ entry any. one_gives (λ cursor. gives_in g.D.Disk.page_bytes cursor.unread) c.args.lo.now c.args.hi.now (g.B.Buffer.entries c.args.active.now) []
          c.push.new.self.items entry first c.in_ok-copies_between.ensures
          (first_part c.new-parts.result.items c.push.new.self.items (Buffered first) c.new-parts.ensures.items c.in_ok-push.ensures.items) any)
    ]
