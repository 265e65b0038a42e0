-- What the clients' runs come to.
use Rattle.std.proofs.Common.{◌≡◌, ◌⊎◌, ◌∙◌, ◌<◌, ◌*◌, ℕ, suc, take, false, List, [], ◌∷◌, Option, Some, None, refl, sym, ap, subst, arith, length, lit≤, append-nil}
use Rattle.std.specs.Prelude.{All}
use Rattle.std.specs.Fmt.{digits}
use Rattle.std.proofs.lemmas.List.{length-append}
use Rattle.std.proofs.lemmas.List.Elements.{All-cons, All-nil, All-tail}
use Rattle.hex.specs.Hex.{encode_lower}
use Rattle.hex.proofs.HexLemmas.{length-encode_with}
use Rattle.sha2.proofs.Facts256.{length-sha256}
use Rattle.lethe_wire.specs.Memory.{Wired, sink_room}
use Rattle.lethe_base.specs.Configuration.{default_fields}
use Rattle.lethe_base.specs.History.{History}
use Rattle.lethe_base.specs.Keys.{Bytes}
use Rattle.lethe_cert.specs.declared.certificate.Certificate.{Certificate}
use Rattle.lethe_engine.specs.declared.ticking.Ticked.{Ticked}
use Rattle.lethe_manifest.specs.Manifests.{manifest_bytes}
use Rattle.lethe_memdisk.specs.Held.{Held, left_by_crash, seen_of}
use Rattle.lethe_memdisk.specs.Images.{crash_image}
use Rattle.lethe_script.specs.declared.order.Order.{Order}
use Rattle.lethe_stored.specs.Left.{IsLeft, without_failed}
use Rattle.lethe_run.specs.Anywhere.{AreTold, AreToldThrough, Standing, caller_in}
use Rattle.lethe_run.specs.Carried.{IsBorneOut, IsCarriedOut, certificates_in, failed_in}
use Rattle.lethe_run.specs.Ends.{Ends, course_of}
use Rattle.lethe_run.specs.Transcript.{AreServed, Course, InTurn, IsServed, has_refusal, printed, text_of}
use Rattle.lethe_run.specs.Transcript as transcript
use Rattle.lethe_run.specs.declared.reply.Line.{Line}
use Rattle.lethe_run.specs.declared.reply.Line.TheVariants.{Answer}
use Rattle.lethe_run.specs.declared.reply.Reply.TheVariants.{Done}
use Rattle.lethe_run.specs.declared.reply.Reply.TheVariants as replies
use Rattle.lethe_test_client.specs.Roomy.{IsRoomyDisk, IsRoomySink, disk_room}
use Rattle.lethe_test_client.specs.Runs.{client_run, empty_disk}
use Rattle.lethe_test_client.specs.Scripts.{IsTickText, get_order, get_text, put_and_get, put_and_tick, put_order, the_put, the_tick, tick_order, tick_text}
use Rattle.lethe_test_client.proofs.Empty.{first_number, left_for_nothing}
use Rattle.lethe_test_client.proofs.Ending.{IsOver, calm, ended}
use Rattle.lethe_test_client.proofs.Ending as ending
use Rattle.lethe_run.proofs.TurnLaws.{one_order_of_lines, one_order_of_orders}
use Rattle.lethe_test_client.proofs.Lines.{InOneTurn, IsFirstTick, get_answered, get_lines, tick_answered}
use Rattle.lethe_test_client.proofs.Reading.{put_and_get_read, put_and_tick_read}

-- One phase

both_of_one : (first second : Order) → first.caller ≡ 1 → second.caller ≡ 1 → All (λ (order : Order). order.caller ≡ 1) (first ∷ second ∷ [])
both_of_one first second a b =
    All-cons (λ (order : Order). order.caller ≡ 1) first (second ∷ []) a (All-cons (λ (order : Order). order.caller ≡ 1) second [] b (All-nil (λ (order : Order). order.caller ≡ 1)))

-- a line for each of the orders, which are all of one caller
all_of_one : (told : transcript.Told) (orders : List Order) (lines : List Line) → All (λ (order : Order). order.caller ≡ 1) orders → transcript.Answered told orders lines → All (λ line. caller_in line ≡ 1) lines
all_of_one told [] [] of answered = All-nil (λ line. caller_in line ≡ 1)
all_of_one told [] (l ∷ lines) of answered = absurd answered
all_of_one told (order ∷ orders) [] of answered = absurd answered
all_of_one told (order ∷ orders) (Answer caller r ∷ lines) of answered =
    All-cons (λ line. caller_in line ≡ 1) (Answer caller r) lines (answered.0 ∙ of 0 order (omega arith)) (all_of_one told orders lines (All-tail (λ (order : Order). order.caller ≡ 1) order orders of) answered.2)

module _ (course : Course) (orders : List Order) (h : History) (own : All (λ (order : Order). order.caller ≡ 1) orders) (is : printed orders ≡ orders) where
  one_served : (opened : History) (lines turned : List (List Line)) → opened ≡ [] → AreServed course opened (orders ∷ []) lines turned h → (ls : List Line) × (lines ≡ ls ∷ []) × (turned ≡ ls ∷ []) × InOneTurn course orders ls h
  one_served opened [] turned new served = absurd served
  one_served opened (ls ∷ next ∷ more) [] new served = absurd served
  one_served opened (ls ∷ next ∷ more) (ts ∷ turned) new served = absurd served.2
  one_served opened (ls ∷ []) [] new served = absurd served
  one_served opened (ls ∷ []) (ts ∷ next ∷ turned) new served = absurd served.2
  one_served opened (ls ∷ []) (ts ∷ []) new served =
      let there = subst (λ g. IsServed course opened orders ls ts g) (sym served.2) served.1 in
      let first = subst (λ g. IsServed course g orders ls ts h) new there in
      let answered = subst (λ os. transcript.Answered (record { history = h; course = course }) os ls) is first.answered in
      let same : ts ≡ ls = one_order_of_lines ls ts 1 (all_of_one (record { history = h; course = course }) orders ls own answered) first.order in
      (ls, refl, (λ i. same i ∷ []), record { answered = answered; turns = subst (λ ts. InTurn course 0 ts (length h)) same first.turns })

only_one : (orders : List Order) (n : ℕ) → take (suc n) (orders ∷ []) ≡ orders ∷ []
only_one orders n = grind arith

module _ (sink : Wired) (disk : Held) (roomy : IsRoomyDisk disk) (roomy_sink : IsRoomySink sink) where
  abbrev course : Bytes → Course
  course script = course_of (client_run script sink disk) default_fields 3

  carried : (script : Bytes) (phases : List (List Order)) (lines : List (List Line)) (carries : IsOver script sink disk default_fields phases lines)
      → IsCarriedOut default_fields (course script) (seen_of empty_disk) (seen_of disk) default_fields [] None phases lines carries.turned
  carried script phases lines carries = carries.left tt default_fields [] None (left_for_nothing default_fields disk_room) 3 first_number

  -- The put and the get

  abbrev gets : List (List Order)
  gets = (put_order ∷ get_order ∷ []) ∷ []

  -- how the lines are, and what the disk is left for
  record IsGot (lines : List (List Line)) : Type 0 where
    is : lines ≡ get_lines ∷ []
    leaves : IsLeft default_fields (seen_of disk) (the_put ∷ []) None

  get_expected : (lines : List (List Line)) → IsOver put_and_get sink disk default_fields gets lines → IsGot lines
  get_expected lines carries =
      let out = carried put_and_get gets lines carries in
      let one = one_served (course put_and_get) (put_order ∷ get_order ∷ []) out.history (both_of_one put_order get_order refl refl) refl out.opened lines carries.turned out.either out.served in
      let found = get_answered (course put_and_get) out.history one.0 one.3 (calm put_and_get sink disk roomy) in
      record { is = one.1 ∙ ap (λ l. l ∷ []) found.0; leaves = subst (λ h. IsLeft default_fields (seen_of disk) (without_failed h) (failed_in h)) found.1 out.leaves }

  get_printed : text_of (get_lines ∷ []) ≡ get_text
  unfolding digits
  get_printed = refl

  get_unrefused : (lines : List (List Line)) → IsGot lines → has_refusal lines ≡ false
  get_unrefused lines got = ap has_refusal got.is

  get_short : (lines : List (List Line)) → IsGot lines → length (text_of lines) < sink_room
  get_short lines got = let long : length (text_of lines) ≡ 22 = ap (λ l. length (text_of l)) got.is ∙ ap length get_printed in omega (arith, long)

  pub get_ends : (status : ℕ) → Ends (client_run put_and_get sink disk) status → (status ≡ 0) ⊎ (status ≡ 7)
  get_ends = ended put_and_get gets IsGot sink disk put_and_get_read (lit≤ tt) (only_one _) get_expected get_unrefused get_short roomy roomy_sink

  got : (status : ℕ) → Ends (client_run put_and_get sink disk) status → status ≡ 0 → (lines : List (List Line)) × IsGot lines × (sink.bytes ≡ text_of lines)
  got = ending.printed put_and_get gets IsGot sink disk put_and_get_read (lit≤ tt) (only_one _) get_expected get_unrefused get_short roomy roomy_sink

  pub get_prints : (status : ℕ) → Ends (client_run put_and_get sink disk) status → status ≡ 0 → sink.bytes ≡ get_text
  get_prints status ends zero =
      let all = got status ends zero in
      all.2 ∙ ap text_of all.1.is ∙ get_printed

  pub get_leaves : (status : ℕ) → Ends (client_run put_and_get sink disk) status → status ≡ 0 → IsLeft default_fields (seen_of disk) (the_put ∷ []) None
  get_leaves status ends zero = (got status ends zero).1.leaves

  -- The put and the tick

  abbrev ticks : List (List Order)
  ticks = (put_order ∷ tick_order ∷ []) ∷ []

  abbrev tick_lines : Ticked → List Line
  tick_lines ticked = Answer 1 (Done 1) ∷ Answer 1 (replies.Ticked ticked) ∷ []

  pub record IsTick (lines : List (List Line)) : Type 0 where
    pub ticked : Ticked
    pub digest : Bytes
    pub first : IsFirstTick ticked digest
    pub long : length digest ≡ 32
    pub is : lines ≡ tick_lines ticked ∷ []
    pub leaves : IsLeft default_fields (seen_of disk) (the_put ∷ the_tick ∷ []) None

  one_told : (opened end : Standing) (orders : List Order) (ls : List Line) → All (λ (order : Order). order.caller ≡ 1) orders → AreToldThrough ⊥ 0 disk.faults (orders ∷ []) opened (ls ∷ []) (ls ∷ []) end
      → (t : Standing) × AreTold ⊥ 0 disk.faults orders opened ls t
  one_told opened end orders ls own told = (told.0, subst (λ os. AreTold ⊥ 0 disk.faults os opened ls told.0) (one_order_of_orders orders told.1.asked 1 own told.1.are) told.1.told)

  -- a crash at the moment that bears the certificate out leaves a directory whose manifest has the digest
  long_digest : (h : History) (ticked : Ticked) (digest : Bytes) → IsFirstTick ticked digest → All (IsBorneOut default_fields 0 h (seen_of disk)) (certificates_in (tick_lines ticked)) → length digest ≡ 32
  long_digest h ticked digest first all = by ticked.certificate first.certificate all
    where
      by : (o : Option Certificate) → o ≡ Some (record { number = 1; clock = 1000; before = 0; digest = digest })
          → All (IsBorneOut default_fields 0 h (seen_of disk)) (certificates_in (tick_lines (record { place = ticked.place; clock = ticked.clock; certificate = o }))) → length digest ≡ 32
      by None is all = cc
      by (Some certificate) is all =
          let borne = all 0 (ticked.place, certificate) (omega arith) in
          let committed = (borne.each (left_by_crash borne.moment 0 false disk) (crash_image borne.moment 0 false disk)).0 in
          let same : certificate ≡ record { number = 1; clock = 1000; before = 0; digest = digest } = cc in
          ap length (sym (ap (λ c. c.digest) same) ∙ sym committed.digest) ∙ length-sha256 (manifest_bytes committed.manifest)

  tick_expected : (lines : List (List Line)) → IsOver put_and_tick sink disk default_fields ticks lines → IsTick lines
  tick_expected lines carries =
      let orders = put_order ∷ tick_order ∷ [] in
      let out = carried put_and_tick (orders ∷ []) lines carries in
      let own = both_of_one put_order tick_order refl refl in
      let one = one_served (course put_and_tick) orders out.history own refl out.opened lines carries.turned out.either out.served in
      let plain = carries.told in
      let through = subst (λ l. AreToldThrough ⊥ 0 disk.faults (orders ∷ []) plain.opened l carries.turned plain.end) one.1 plain.told in
      let told = one_told plain.opened plain.end orders one.0 own (subst (λ t. AreToldThrough ⊥ 0 disk.faults (orders ∷ []) plain.opened (one.0 ∷ []) t plain.end) one.2 through) in
      let found = tick_answered ⊥ 0 disk.faults (course put_and_tick) out.history plain.opened told.0 one.0 refl plain.unpinned told.1 one.3 (calm put_and_tick sink disk roomy) in
      let same = one.1 ∙ ap (λ l. l ∷ []) {y = tick_lines found.0} found.3 in
      let borne = subst (λ l. All (λ line. All (IsBorneOut default_fields 0 out.history (seen_of disk)) (certificates_in line)) l) same out.certified in
      record {
        ticked = found.0;
        digest = found.1;
        first = found.2;
        long = long_digest out.history found.0 found.1 found.2 (borne 0 (tick_lines found.0) (omega arith));
        is = same;
        leaves = subst (λ h. IsLeft default_fields (seen_of disk) (without_failed h) (failed_in h)) found.4 out.leaves;
      }

  tick_printed : (ticked : Ticked) (digest : Bytes) → IsFirstTick ticked digest → text_of (tick_lines ticked ∷ []) ≡ tick_text digest
  unfolding digits
  tick_printed ticked digest first = ap (λ t. text_of (tick_lines t ∷ [])) whole ∙ spelled digest
    where
      whole : ticked ≡ record { place = 2; clock = 1000; certificate = Some (record { number = 1; clock = 1000; before = 0; digest = digest }) }
      whole = λ i. record { place = first.place i; clock = first.clock i; certificate = first.certificate i }

      spelled : (digest : Bytes) → text_of (tick_lines (record { place = 2; clock = 1000; certificate = Some (record { number = 1; clock = 1000; before = 0; digest = digest }) }) ∷ []) ≡ tick_text digest
      spelled digest = simp append-nil

  tick_unrefused : (lines : List (List Line)) → IsTick lines → has_refusal lines ≡ false
  tick_unrefused lines tick = ap has_refusal tick.is

  tick_short : (lines : List (List Line)) → IsTick lines → length (text_of lines) < sink_room
  tick_short lines tick =
      let text : text_of lines ≡ tick_text tick.digest = ap text_of tick.is ∙ tick_printed tick.ticked tick.digest tick.first in
      let long : length (encode_lower tick.digest) ≡ 64 = length-encode_with _ tick.digest ∙ ap (λ n. 2 * n) tick.long in
      omega (arith, ap length text, length-append (encode_lower tick.digest) (10 ∷ []), long)

  pub tick_ends : (status : ℕ) → Ends (client_run put_and_tick sink disk) status → (status ≡ 0) ⊎ (status ≡ 7)
  tick_ends = ended put_and_tick ticks IsTick sink disk put_and_tick_read (lit≤ tt) (only_one _) tick_expected tick_unrefused tick_short roomy roomy_sink

  tick_told : (status : ℕ) → Ends (client_run put_and_tick sink disk) status → status ≡ 0 → (lines : List (List Line)) × IsTick lines × (sink.bytes ≡ text_of lines)
  tick_told = ending.printed put_and_tick ticks IsTick sink disk put_and_tick_read (lit≤ tt) (only_one _) tick_expected tick_unrefused tick_short roomy roomy_sink

  pub tick_prints : (status : ℕ) → Ends (client_run put_and_tick sink disk) status → status ≡ 0 → IsTickText sink.bytes
  tick_prints status ends zero =
      let all = tick_told status ends zero in
      (all.1.digest, all.1.long, all.2 ∙ ap text_of all.1.is ∙ tick_printed all.1.ticked all.1.digest all.1.first)

  pub tick_leaves : (status : ℕ) → Ends (client_run put_and_tick sink disk) status → status ≡ 0 → IsLeft default_fields (seen_of disk) (the_put ∷ the_tick ∷ []) None
  tick_leaves status ends zero = (tick_told status ends zero).1.leaves
