-- The run is that of the client, since each part of it is what the client gave.
use Rattle.std.proofs.Common.{◌≡◌, ℕ, List, [], ◌∷◌, Some, map, sym, ap, subst, ◌∙◌}
use Rattle.std.specs.Prelude.{⊤, codes}
use Rattle.std.specs.String.{string_bytes}
use Rattle.lethe_base.specs.Counts.{Rose}
use Rattle.lethe_base.specs.Keys.{Bytes}
use Rattle.lethe_memdisk.specs.Held.{Held, seen_of}
use Rattle.lethe_run.specs.Ends.{Ends, Run}
use Rattle.lethe_wire.specs.Memory.{Wired}
use Rattle.lethe_test_client.specs.Runs.{client_run, empty_disk, empty_sink}
use Rattle.lethe_test_client.proofs.client.run_script.Goals as goal

abbrev given : List Bytes → Bytes → Wired → Wired → Held → Held → Run
given words source before sink start disk = record {
  words = words;
  source = Some source;
  taken_before = Some before.bytes;
  taken = Some sink.bytes;
  SourceRose = Rose 0 0;
  SinkRose = Rose before.faults sink.faults;
  Tells = ⊤;
  start = seen_of start;
  finish = seen_of disk;
  faults_before = start.faults;
  faults = disk.faults;
  PortsFail = ⊥;
  Unused = disk ≡ start;
}

same_run : (words : List Bytes) (source script : Bytes) (before sink told : Wired) (start disk left : Held) (status : ℕ) → words ≡ codes "run" ∷ [] → source ≡ script → before ≡ empty_sink → start ≡ empty_disk
    → told ≡ sink → left ≡ disk → Ends (given words source before sink start disk) status → Ends (client_run script told left) status
same_run words source script before sink told start disk left status w s b d t l ends =
    let path : given words source before sink start disk ≡ client_run script told left = λ i. given (w i) (s i) (b i) (sym t i) (d i) (sym l i) in
    subst (λ (run : Run). Ends run status) path ends

pub returns-clause-ends : goal.returns-clause-ends
returns-clause-ends g c =
    same_run (map string_bytes c.deref.result.now) c.new-source.result c.args.script.now c.in_ok-sink.sink c.run-ended.new.sink c.into_inner.result c.in_ok-disk.disk c.run-ended.result.disk c.into_inner-2.result c.run-ended.result.status
    (ap (map string_bytes) c.deref.ensures.value ∙ c.in_ok-words.ensures) (c.new-source.ensures ∙ c.in_ok-to_vec.ensures.items_if_clones_equal (λ x y e. e)) c.in_ok-sink.ensures c.in_ok-disk.ensures c.into_inner.ensures.inner c.into_inner-2.ensures.inner c.run-ended.ensures.ends
