-- How a client's run ends, from what its lines can be.
use Rattle.std.proofs.Common.{◌≡◌, ◌⊎◌, ◌∙◌, ◌<◌, ◌≤◌, ℕ, suc, take, true, false, List, [], ◌∷◌, ◌++◌, Some, None, Result, Ok, Err, refl, sym, ap, subst, arith, inl, inr, length}
use Rattle.std.specs.Prelude.{Contains, is_ok, is_some, sum_by}
use Rattle.std.proofs.lemmas.Bool.{cases_lt}
use Rattle.std.proofs.lemmas.List.{length-append}
use Rattle.lethe_wire.specs.Causes.{AppendsFront}
use Rattle.lethe_wire.specs.Memory.{Wired, sink_room}
use Rattle.lethe_base.specs.Configuration.{default_fields}
use Rattle.lethe_base.specs.Keys.{Bytes}
use Rattle.lethe_base.specs.declared.config.Fields.{Fields}
use Rattle.lethe_base.proofs.Newest.{first_or_rest}
use Rattle.lethe_memdisk.specs.Held.{Held}
use Rattle.lethe_recover.specs.declared.opening.OpenWhy.{OpenWhy}
use Rattle.lethe_recover.specs.declared.opening.OpenWhy.TheVariants as why
use Rattle.lethe_script.specs.Grammar.{script_of}
use Rattle.lethe_script.specs.declared.order.Order.{Order}
use Rattle.lethe_run.specs.Ends.{Answered, Asks, Carries, Ends, IsAsked, IsNotOpened, OnScript, Run, course_of}
use Rattle.lethe_run.specs.Printed.{open_line}
use Rattle.lethe_run.specs.Transcript.{has_refusal, text_of}
use Rattle.lethe_run.specs.declared.reply.Line.{Line}
use Rattle.lethe_test_client.specs.Roomy.{IsRoomyDisk, IsRoomySink, disk_room}
use Rattle.lethe_test_client.specs.Runs.{client_run}
use Rattle.lethe_test_client.proofs.Empty.{left_for_nothing, not_damaged, not_exhausted, not_other, only_first}
use Rattle.lethe_test_client.proofs.Replies.{IsCalm}
use Rattle.lethe_test_client.proofs.Words.{asks_for_defaults}

same_some : {X : Type 0} {x y : X} → Some x ≡ Some y → x ≡ y
same_some e = cc

same_ok : {X E : Type 0} {x y : X} → ◌≡◌ {A = Result X E} (Ok x) (Ok y) → x ≡ y
same_ok e = cc

-- no disk with room failed, and its calls leave numbers to spare
pub calm : (script : Bytes) (sink : Wired) (disk : Held) → IsRoomyDisk disk → IsCalm (course_of (client_run script sink disk) default_fields 3)
calm script sink disk roomy = record { now = roomy.faultless; ports = λ can. can; spare = omega (arith, roomy.within) }

-- the lines are answered over the empty disk, which was carried out for this configuration
abbrev pub IsOver : Bytes → Wired → Held → Fields → List (List Order) → List (List Line) → Type 0
IsOver script sink disk config phases lines = Carries (client_run script sink disk) config phases lines

module _ (script : Bytes) (phases : List (List Order)) (Expected : List (List Line) → Type 0) (sink : Wired) (disk : Held)
    (read : script_of script ≡ Ok phases)
    (few : sum_by (λ (orders : List Order). length orders) phases ≤ 2)
    (one : (n : ℕ) → take (suc n) phases ≡ phases)
    (sure : (lines : List (List Line)) → IsOver script sink disk default_fields phases lines → Expected lines)
    (unrefused : (lines : List (List Line)) → Expected lines → has_refusal lines ≡ false)
    (short : (lines : List (List Line)) → Expected lines → length (text_of lines) < sink_room)
    (roomy : IsRoomyDisk disk) (roomy_sink : IsRoomySink sink)
  where
    abbrev run : Run
    run = client_run script sink disk

    asked : (config : Fields) → Asks run config → config ≡ default_fields
    asked config asks = same_some (sym asks ∙ asks_for_defaults)

    of_script : (P : List (List Order) → Type 0) → OnScript run P → P phases
    of_script P on = subst P (same_ok (sym on.1 ∙ read)) on.2

    expected : (config : Fields) → Asks run config → (lines : List (List Line)) → OnScript run (λ phases. Carries run config phases lines) → Expected lines
    expected config asks lines on = sure lines (subst (λ c. Carries run c phases lines) (asked config asks) (of_script (λ phases. Carries run config phases lines) on))

    -- what is printed where all was answered
    pub printed : (status : ℕ) → Ends run status → status ≡ 0 → (lines : List (List Line)) × Expected lines × (sink.bytes ≡ text_of lines)
    printed status ends zero =
        let (config, asks, answered) = ends.answered zero in
        (answered.lines, expected config asks answered.lines answered.script, answered.written)

    unopened : (config : Fields) (refusal : OpenWhy) → IsNotOpened run config refusal → refusal ≡ why.NoMemory
    unopened config (why.Damaged name) is = absurd (not_damaged config name (is.reason tt))
    unopened config (why.OtherConfig kept) is = absurd (not_other config kept (is.reason tt))
    unopened config (why.Fault before after) is = absurd (omega (arith, is.reason.2, roomy.faultless))
    unopened config (why.Exhausted last) is = absurd (not_exhausted (is.reason.1 tt))
    unopened config why.NoMemory is = refl

    -- what is written where the sink fails is short
    asked_short : (text : Bytes) → IsAsked run text → length text < sink_room
    asked_short text (inl bad) = absurd (let clash : None ≡ Some default_fields = sym bad.0 ∙ asks_for_defaults in cc)
    asked_short text (inr (inl bad)) = absurd (let clash : Err bad.1 ≡ Ok phases = sym bad.2.0 ∙ read in cc)
    asked_short text (inr (inr (inl shut))) =
        let is : text ≡ [] = shut.4 ∙ ap (open_line shut.0) (unopened shut.0 shut.2 shut.3) in
        omega (arith, ap length is)
    asked_short text (inr (inr (inr behind))) =
        let stopped = behind.2 in
        let on = of_script (λ phases. Carries run behind.0 (take (suc (length stopped.before)) phases) (stopped.before ++ stopped.last ∷ [])) stopped.script in
        let whole = subst (λ phases. Carries run behind.0 phases (stopped.before ++ stopped.last ∷ [])) (one (length stopped.before)) on in
        let lines = sure (stopped.before ++ stopped.last ∷ []) (subst (λ c. Carries run c phases (stopped.before ++ stopped.last ∷ [])) (asked behind.0 behind.1) whole) in
        omega (arith, ap length stopped.is, short (stopped.before ++ stopped.last ∷ []) lines)

    unwritten : (text : Bytes) → length text < sink_room → AppendsFront (Some []) (Some sink.bytes) text → 0 < sink.faults → ⊥
    unwritten text few front some =
        let full = roomy_sink.fault some in
        omega (arith, full, few, ap length front.2, ap length front.3, length-append front.0 front.1)

    -- where the sink never failed, all was answered or there was no memory, by the contract's own premises
    complete : (status : ℕ) → Ends run status → sink.faults ≡ 0 → (status ≡ 0) ⊎ (status ≡ 3) ⊎ (status ≡ 7)
    complete status ends whole = elim (ends.complete default_fields asks_for_defaults (λ rose. omega (arith, rose)) (λ rose. omega (arith, rose, whole)) (λ rose. omega (arith, rose, roomy.faultless)) (λ can. can)) [
      | inl other ↦ elim (first_or_rest 3 (7 ∷ []) status other) [
        | inl bad ↦ inr (inl (sym bad))
        | inr rest ↦ elim (first_or_rest 7 [] status rest) [
          | inl memory ↦ inr (inr (sym memory))
          | inr none ↦ absurd (let lt = none.1 in omega (arith, lt))
        ]
      ]
      | inr on ↦
          let same : on.0 ≡ phases = same_ok (sym on.1 ∙ read) in
          let orders : sum_by (λ (orders : List Order). length orders) on.0 ≤ 2 = omega (arith, few, ap (sum_by (λ (orders : List Order). length orders)) same) in
          inl (on.2 tt default_fields [] None (left_for_nothing default_fields disk_room) (not_other default_fields) not_exhausted (λ next is. omega (arith, only_first next is, roomy.within, orders)) (omega (arith, orders)))
    ]

    -- a status of a script's end is one of these, or the sink failed or the store wasn't opened
    others : (status : ℕ) → Ends run status → 0 < sink.faults → (status ≡ 0) ⊎ (status ≡ 7)
    others status ends some = by (ends.a_script (ap is_some asks_for_defaults) (ap is_ok read))
      where
        refused : (config : Fields) → Asks run config → Answered run config true → ⊥
        refused config asks a = let clash : true ≡ false = sym a.is ∙ unrefused a.lines (expected config asks a.lines a.script) in cc

        six : status ≡ 6 → ⊥
        six is = elim (ends.refused is).2 [
          | inl a ↦ refused (ends.refused is).0 (ends.refused is).1 a
          | inr (inl fault) ↦ let clash = unopened (ends.refused is).0 (why.Fault fault.0 fault.1) fault.2.0 in cc
          | inr (inr out) ↦ let clash = unopened (ends.refused is).0 (why.Exhausted out.0) out.1.0 in cc
        ]

        by : Contains (0 ∷ 4 ∷ 5 ∷ 6 ∷ 7 ∷ 8 ∷ 9 ∷ []) status → (status ≡ 0) ⊎ (status ≡ 7)
        by there = elim (first_or_rest 0 (4 ∷ 5 ∷ 6 ∷ 7 ∷ 8 ∷ 9 ∷ []) status there) [
          | inl zero ↦ inl (sym zero)
          | inr there ↦ elim (first_or_rest 4 (5 ∷ 6 ∷ 7 ∷ 8 ∷ 9 ∷ []) status there) [
            | inl four ↦ absurd (let rose = (ends.read_fault (sym four)).1 in omega (arith, rose))
            | inr there ↦ elim (first_or_rest 5 (6 ∷ 7 ∷ 8 ∷ 9 ∷ []) status there) [
              | inl five ↦ let failed = ends.write_fault (sym five) in absurd (unwritten failed.1 (asked_short failed.1 failed.2) failed.3 some)
              | inr there ↦ elim (first_or_rest 6 (7 ∷ 8 ∷ 9 ∷ []) status there) [
                | inl is ↦ absurd (six (sym is))
                | inr there ↦ elim (first_or_rest 7 (8 ∷ 9 ∷ []) status there) [
                  | inl memory ↦ inr (sym memory)
                  | inr there ↦ elim (first_or_rest 8 (9 ∷ []) status there) [
                    | inl eight ↦ let bad = ends.damaged (sym eight) in absurd (let clash = unopened bad.0 (why.Damaged bad.2) bad.3.0 in cc)
                    | inr there ↦ elim (first_or_rest 9 ([]) status there) [
                      | inl nine ↦ let bad = ends.other_config (sym nine) in absurd (let clash = unopened bad.0 (why.OtherConfig bad.2) bad.3.0 in cc)
                      | inr none ↦ absurd (let lt = none.1 in omega (arith, lt))
                    ]
                  ]
                ]
              ]
            ]
          ]
        ]

    not_three : (status : ℕ) → Ends run status → status ≡ 3 → ⊥
    not_three status ends three = let bad = ends.bad_script three in let clash : Err bad.1 ≡ Ok phases = sym bad.2.0 ∙ read in cc

    pub ended : (status : ℕ) → Ends run status → (status ≡ 0) ⊎ (status ≡ 7)
    ended status ends = elim (cases_lt 0 sink.faults) [
      | inl some ↦ others status ends some
      | inr none ↦ elim (complete status ends (omega (arith, none))) [
        | inl zero ↦ inl zero
        | inr (inl three) ↦ absurd (not_three status ends three)
        | inr (inr seven) ↦ inr seven
      ]
    ]
