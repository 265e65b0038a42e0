-- The named parts of a run's end, by its cases.
use Rattle.std.proofs.Common.{◌≡◌, ◌⊎◌, ℕ, true, inl, inr, refl, arith, lit<}
use Rattle.lethe_base.specs.declared.config.Fields.{Fields}
use Rattle.lethe_load.specs.Refused.{HasReason}
use Rattle.lethe_load.specs.declared.refused.RecoverRefused.{RecoverRefused}
use Rattle.lethe_load.specs.declared.refused.RecoverRefused.TheVariants as shown
use Rattle.lethe_recover.specs.Opening.{since_start}
use Rattle.lethe_recover.specs.declared.opening.OpenWhy.{OpenWhy}
use Rattle.lethe_recover.specs.declared.opening.OpenWhy.TheVariants as open_why
use Rattle.lethe_script.specs.Grammar.{script_of}
use Rattle.lethe_run.specs.declared.status.Status.{Status}
use Rattle.lethe_run.specs.declared.status.Status.TheVariants as status
use Rattle.lethe_run.specs.Ends as ends
use Rattle.lethe_run.specs.Ends.{Run, Ends, Asks, IsNotOpened, IsOpenExhausted, IsOpenFault}
use Rattle.lethe_run.specs.Status.{EndsWith, code_of}
use Rattle.lethe_base.specs.declared.name.Name.{Name}
use Rattle.lethe_run.proofs.Ending.{some_then, some_now}
use Rattle.lethe_run.proofs.Calm.{no_refusal}
use Rattle.lethe_run.proofs.Parts.{asked, asked_paces, asked_quiet, carries_paces, commanded, Complete, err_no_ok, for_asked, has_next, memory_paces, memory_quiet, not_opened, ok_script, opening_paces, quiet_shown, Shown, unused_paces, unused_quiet}

damaged_memory : (name : Name) → open_why.Damaged name ≡ open_why.NoMemory → ⊥
damaged_memory name e = cc

config_memory : (kept : Fields) → open_why.OtherConfig kept ≡ open_why.NoMemory → ⊥
config_memory kept e = cc

fault_memory : (before after : ℕ) → open_why.Fault before after ≡ open_why.NoMemory → ⊥
fault_memory before after e = cc

exhausted_memory : (last : ℕ) → open_why.Exhausted last ≡ open_why.NoMemory → ⊥
exhausted_memory last e = cc

shown_full : (last before : ℕ) (why : RecoverRefused) → open_why.Exhausted last ≡ since_start before why → ⊥
shown_full last before (shown.Damaged name) is = cc
shown_full last before (shown.Fault told now) is = cc
shown_full last before shown.NoMemory is = cc
shown_full last before (shown.OtherConfig kept) is = cc

module _ (run : Run) where
  answered_end : EndsWith run status.Answered → Ends run 0
  answered_end e = record {
    answered = λ is. e;
    bad_words = λ is. absurd (omega (arith, is));
    bad_script = λ is. absurd (omega (arith, is));
    read_fault = λ is. absurd (omega (arith, is));
    write_fault = λ is. absurd (omega (arith, is));
    refused = λ is. absurd (omega (arith, is));
    no_memory = λ is. absurd (omega (arith, is));
    damaged = λ is. absurd (omega (arith, is));
    other_config = λ is. absurd (omega (arith, is));
    other_words = asked run e.0 e.1;
    no_script = (ok_script run _ e.2.script 0 (0, lit< tt, refl)).0;
    a_script = (ok_script run _ e.2.script 0 (0, lit< tt, refl)).1;
    shown = for_asked run (Shown run 0) e.0 e.1 (λ told why reason. absurd (e.2.sound told why reason));
    pace = carries_paces run e.0 e.2.script.0 e.2.lines e.2.script.2;
    complete = λ config asks source sink calm ports. inr (e.2.script.0, e.2.script.1, λ told kept left change l same numbers few room. refl);
    known = (0, lit< tt, refl);
  }

  bad_words_end : EndsWith run status.BadWords → Ends run 2
  bad_words_end e = record {
    answered = λ is. absurd (omega (arith, is));
    bad_words = λ is. e;
    bad_script = λ is. absurd (omega (arith, is));
    read_fault = λ is. absurd (omega (arith, is));
    write_fault = λ is. absurd (omega (arith, is));
    refused = λ is. absurd (omega (arith, is));
    no_memory = λ is. absurd (omega (arith, is));
    damaged = λ is. absurd (omega (arith, is));
    other_config = λ is. absurd (omega (arith, is));
    other_words = λ other. (0, lit< tt, refl);
    no_script = λ command. commanded run command e.0;
    a_script = λ command. commanded run command e.0;
    shown = λ config asks. asked run config asks e.0;
    pace = unused_paces run e.2;
    complete = λ config asks. asked run config asks e.0;
    known = (1, lit< tt, refl);
  }

  bad_script_end : EndsWith run status.BadScript → Ends run 3
  bad_script_end e = record {
    answered = λ is. absurd (omega (arith, is));
    bad_words = λ is. absurd (omega (arith, is));
    bad_script = λ is. e;
    read_fault = λ is. absurd (omega (arith, is));
    write_fault = λ is. absurd (omega (arith, is));
    refused = λ is. absurd (omega (arith, is));
    no_memory = λ is. absurd (omega (arith, is));
    damaged = λ is. absurd (omega (arith, is));
    other_config = λ is. absurd (omega (arith, is));
    other_words = commanded run e.0;
    no_script = λ words. some_now run.source (λ bytes is. (0, lit< tt, refl));
    a_script = λ words. some_then run.source e.2.0 (λ bytes r is. absurd (err_no_ok (script_of bytes) e.1 r is));
    shown = λ config asks. quiet_shown run 3 (λ z. omega (arith, z)) (λ z. omega (arith, z)) config (unused_quiet run e.2.1 config);
    pace = unused_paces run e.2.1;
    complete = λ config asks source sink calm ports. inl (0, lit< tt, refl);
    known = (2, lit< tt, refl);
  }

  read_fault_end : EndsWith run status.ReadFault → Ends run 4
  read_fault_end e = record {
    answered = λ is. absurd (omega (arith, is));
    bad_words = λ is. absurd (omega (arith, is));
    bad_script = λ is. absurd (omega (arith, is));
    read_fault = λ is. e;
    write_fault = λ is. absurd (omega (arith, is));
    refused = λ is. absurd (omega (arith, is));
    no_memory = λ is. absurd (omega (arith, is));
    damaged = λ is. absurd (omega (arith, is));
    other_config = λ is. absurd (omega (arith, is));
    other_words = commanded run e.0;
    no_script = λ words. some_now run.source (λ bytes is. (1, lit< tt, refl));
    a_script = λ words. some_now run.source (λ bytes is. (1, lit< tt, refl));
    shown = λ config asks. quiet_shown run 4 (λ z. omega (arith, z)) (λ z. omega (arith, z)) config (unused_quiet run e.3 config);
    pace = unused_paces run e.3;
    complete = λ config asks source. absurd (source e.1);
    known = (3, lit< tt, refl);
  }

  write_fault_end : EndsWith run status.WriteFault → Ends run 5
  write_fault_end e = record {
    answered = λ is. absurd (omega (arith, is));
    bad_words = λ is. absurd (omega (arith, is));
    bad_script = λ is. absurd (omega (arith, is));
    read_fault = λ is. absurd (omega (arith, is));
    write_fault = λ is. e;
    refused = λ is. absurd (omega (arith, is));
    no_memory = λ is. absurd (omega (arith, is));
    damaged = λ is. absurd (omega (arith, is));
    other_config = λ is. absurd (omega (arith, is));
    other_words = λ other. (1, lit< tt, refl);
    no_script = λ words. some_now run.source (λ bytes is. (2, lit< tt, refl));
    a_script = λ words. some_now run.source (λ bytes is. (2, lit< tt, refl));
    shown = λ config asks. quiet_shown run 5 (λ z. omega (arith, z)) (λ z. omega (arith, z)) config (asked_quiet run e.1 e.2 config asks);
    pace = asked_paces run e.1 e.2;
    complete = λ config asks source sink. absurd (sink e.0);
    known = (4, lit< tt, refl);
  }

  refused_lines_end : (config : Fields) → Asks run config → ends.Answered run config true → Ends run 6
  refused_lines_end config asks a =
      let e : (config : Fields) × Asks run config × (ends.Answered run config true ⊎ IsOpenFault run config ⊎ IsOpenExhausted run config) = (config, asks, inl a) in record {
        answered = λ is. absurd (omega (arith, is));
        bad_words = λ is. absurd (omega (arith, is));
        bad_script = λ is. absurd (omega (arith, is));
        read_fault = λ is. absurd (omega (arith, is));
        write_fault = λ is. absurd (omega (arith, is));
        refused = λ is. e;
        no_memory = λ is. absurd (omega (arith, is));
        damaged = λ is. absurd (omega (arith, is));
        other_config = λ is. absurd (omega (arith, is));
        other_words = asked run config asks;
        no_script = (ok_script run _ a.script 6 (3, lit< tt, refl)).0;
        a_script = (ok_script run _ a.script 6 (3, lit< tt, refl)).1;
        shown = for_asked run (Shown run 6) config asks (λ told why reason. absurd (a.sound told why reason));
        pace = carries_paces run config a.script.0 a.lines a.script.2;
        complete = for_asked run (Complete run 6) config asks (λ source sink calm ports. inr (
          a.script.0,
          a.script.1,
          λ told kept left change l same numbers few room.
              let next = has_next kept l.now.0 run.start.directory l.now.2 in
              absurd (no_refusal run config kept a.script.0 a.lines a.script.2.turned left change calm ports next.0 (few next.0 next.1) room a.is (a.script.2.left told kept left change l next.0 next.1)),
        ));
        known = (5, lit< tt, refl);
      }

  refused_opening_end : (why : OpenWhy) (config : Fields) → Asks run config → IsOpenFault run config ⊎ IsOpenExhausted run config → Shown run 6 config → IsNotOpened run config why → (why ≡ open_why.NoMemory → ⊥) → Ends run 6
  refused_opening_end why config asks f shown not memory =
      let e : (config : Fields) × Asks run config × (ends.Answered run config true ⊎ IsOpenFault run config ⊎ IsOpenExhausted run config) = (config, asks, inr f) in record {
        answered = λ is. absurd (omega (arith, is));
        bad_words = λ is. absurd (omega (arith, is));
        bad_script = λ is. absurd (omega (arith, is));
        read_fault = λ is. absurd (omega (arith, is));
        write_fault = λ is. absurd (omega (arith, is));
        refused = λ is. e;
        no_memory = λ is. absurd (omega (arith, is));
        damaged = λ is. absurd (omega (arith, is));
        other_config = λ is. absurd (omega (arith, is));
        other_words = asked run config asks;
        no_script = (ok_script run _ not.script 6 (3, lit< tt, refl)).0;
        a_script = (ok_script run _ not.script 6 (3, lit< tt, refl)).1;
        shown = for_asked run (Shown run 6) config asks shown;
        pace = opening_paces run config why not;
        complete = for_asked run (Complete run 6) config asks (not_opened run config why 6 not memory);
        known = (5, lit< tt, refl);
      }

  no_memory_end : EndsWith run status.NoMemory → Ends run 7
  no_memory_end e = record {
    answered = λ is. absurd (omega (arith, is));
    bad_words = λ is. absurd (omega (arith, is));
    bad_script = λ is. absurd (omega (arith, is));
    read_fault = λ is. absurd (omega (arith, is));
    write_fault = λ is. absurd (omega (arith, is));
    refused = λ is. absurd (omega (arith, is));
    no_memory = λ is. e;
    damaged = λ is. absurd (omega (arith, is));
    other_config = λ is. absurd (omega (arith, is));
    other_words = asked run e.0 e.1;
    no_script = λ words. some_now run.source (λ bytes is. (3, lit< tt, refl));
    a_script = λ words. some_now run.source (λ bytes is. (4, lit< tt, refl));
    shown = for_asked run (Shown run 7) e.0 e.1 (quiet_shown run 7 (λ z. omega (arith, z)) (λ z. omega (arith, z)) e.0 (memory_quiet run e.0 e.2));
    pace = memory_paces run e.0 e.2;
    complete = λ config asks source sink calm ports. inl (1, lit< tt, refl);
    known = (6, lit< tt, refl);
  }

  damaged_end : EndsWith run status.Damaged → Ends run 8
  damaged_end e = record {
    answered = λ is. absurd (omega (arith, is));
    bad_words = λ is. absurd (omega (arith, is));
    bad_script = λ is. absurd (omega (arith, is));
    read_fault = λ is. absurd (omega (arith, is));
    write_fault = λ is. absurd (omega (arith, is));
    refused = λ is. absurd (omega (arith, is));
    no_memory = λ is. absurd (omega (arith, is));
    damaged = λ is. e;
    other_config = λ is. absurd (omega (arith, is));
    other_words = asked run e.0 e.1;
    no_script = (ok_script run _ e.3.0.script 8 (5, lit< tt, refl)).0;
    a_script = (ok_script run _ e.3.0.script 8 (5, lit< tt, refl)).1;
    shown = for_asked run (Shown run 8) e.0 e.1 (quiet_shown run 8 (λ z. omega (arith, z)) (λ z. omega (arith, z)) e.0 e.3.0.quiet);
    pace = opening_paces run e.0 (open_why.Damaged e.2) e.3.0;
    complete = for_asked run (Complete run 8) e.0 e.1 (not_opened run e.0 (open_why.Damaged e.2) 8 e.3.0 (damaged_memory e.2));
    known = (7, lit< tt, refl);
  }

  other_config_end : EndsWith run status.OtherConfig → Ends run 9
  other_config_end e = record {
    answered = λ is. absurd (omega (arith, is));
    bad_words = λ is. absurd (omega (arith, is));
    bad_script = λ is. absurd (omega (arith, is));
    read_fault = λ is. absurd (omega (arith, is));
    write_fault = λ is. absurd (omega (arith, is));
    refused = λ is. absurd (omega (arith, is));
    no_memory = λ is. absurd (omega (arith, is));
    damaged = λ is. absurd (omega (arith, is));
    other_config = λ is. e;
    other_words = asked run e.0 e.1;
    no_script = (ok_script run _ e.3.0.script 9 (6, lit< tt, refl)).0;
    a_script = (ok_script run _ e.3.0.script 9 (6, lit< tt, refl)).1;
    shown = for_asked run (Shown run 9) e.0 e.1 (quiet_shown run 9 (λ z. omega (arith, z)) (λ z. omega (arith, z)) e.0 e.3.0.quiet);
    pace = opening_paces run e.0 (open_why.OtherConfig e.2) e.3.0;
    complete = for_asked run (Complete run 9) e.0 e.1 (not_opened run e.0 (open_why.OtherConfig e.2) 9 e.3.0 (config_memory e.2));
    known = (8, lit< tt, refl);
  }

  -- what the directory shows isn't that numbers ran out
  not_full : (config : Fields) (last : ℕ) → IsNotOpened run config (open_why.Exhausted last) → run.Tells → (why : RecoverRefused) → HasReason config run.start.directory why → ⊥
  not_full config last not told why reason = elim (not.exact told why reason) [ inl is ↦ shown_full last run.faults_before why is | inr cut ↦ cut.1 ]

  -- each case has the named parts
  pub ends_by_cases : (end : Status) → EndsWith run end → Ends run (code_of end)
  ends_by_cases status.Answered e = answered_end e
  ends_by_cases status.BadWords e = bad_words_end e
  ends_by_cases status.BadScript e = bad_script_end e
  ends_by_cases status.ReadFault e = read_fault_end e
  ends_by_cases status.WriteFault e = write_fault_end e
  ends_by_cases status.Refused e = elim e.2 [
    | inl a ↦ refused_lines_end e.0 e.1 a
    | inr f ↦ elim f [
      | inl fault ↦ refused_opening_end (open_why.Fault fault.0 fault.1) e.0 e.1 (inl fault)
          (λ told why reason. (fault.2.0.quiet told why reason, (λ z. absurd (omega (arith, z))), (λ is. fault))) fault.2.0 (fault_memory fault.0 fault.1)
      | inr full ↦ refused_opening_end (open_why.Exhausted full.0) e.0 e.1 (inr full) (λ told why reason. absurd (not_full e.0 full.0 full.1.0 told why reason)) full.1.0 (exhausted_memory full.0)
    ]
  ]
  ends_by_cases status.NoMemory e = no_memory_end e
  ends_by_cases status.Damaged e = damaged_end e
  ends_by_cases status.OtherConfig e = other_config_end e
