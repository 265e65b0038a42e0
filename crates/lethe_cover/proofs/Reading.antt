-- The first match over the parts is the newest entry of the key.
use Rattle.std.proofs.Common.{◌≡◌, ◌⊎◌, inl, inr, ℕ, ◌<◌, ◌≤◌, List, [], ◌∷◌, flat_map, Contains, Option, Some, None, option_and_then, refl, sym, ap, ◌∙◌, arith}
use Rattle.std.specs.Option.{option_or}
use Rattle.std.specs.FinMap as finmap
use Rattle.std.proofs.lemmas.List.Elements.{Contains-append_cases}
use Rattle.lethe_cover.specs.Reads.{found_in, found, answered, AreOnce}
use Rattle.lethe_cover.proofs.Common.{⊎_elim, ⊎_map, Contains-append_left, Contains-append_right, Bytes, History, after, entry_of, answer_under, Layout, File, Record, Written, buffer_of, frozen_records, runs_of, entries_of, InFiles, IsFiled, InBuffer, IsOver, Shows, Covers, Entry, buffer_recorded, none_in, first_is, files_in}
use Rattle.lethe_cover.proofs.ByKey.{entry_in, no_entry}
use Rattle.lethe_cover.proofs.Records.{buffer_keyed}
use Rattle.lethe_cover.proofs.FilesInRuns.{in_more, refiled, runs_file, file_runs}
use Rattle.lethe_cover.proofs.Lists.{Pairs, flat_from, flat_in, pairs_from}

pub spelled_from : (files : List File) (entry : Entry) → Contains (flat_map entries_of files) entry → InFiles files entry
spelled_from files entry there = let found = flat_from entries_of files entry there in record { file = found.0; there = found.1; spelled = found.2 }

pub spelled_in : (files : List File) (entry : Entry) → InFiles files entry → Contains (flat_map entries_of files) entry
spelled_in files entry is = flat_in entries_of files is.file entry is.there is.spelled

-- what is first is of the key, and none of the key is newer
record IsFirst (key : Bytes) (own : Entry → Type 0) (entry : Entry) : Type 0 where
  there : own entry
  named : entry.key ≡ key
  last : (other : Entry) → own other → other.key ≡ key → other.seq ≤ entry.seq

-- a search of two parts, the first of which is over the second
abbrev IsSearch : Bytes → (Entry → Type 0) → Option Entry → Type 0
IsSearch key own None = (entry : Entry) → own entry → entry.key ≡ key → ⊥
IsSearch key own (Some entry) = IsFirst key own entry

search_or : (key : Bytes) (P Q R : Entry → Type 0) (first second : Option Entry) → ((e : Entry) → P e → R e) → ((e : Entry) → Q e → R e) → ((e : Entry) → R e → P e ⊎ Q e)
    → ((e older : Entry) → P e → Q older → e.key ≡ older.key → older.seq < e.seq) → IsSearch key P first → IsSearch key Q second → IsSearch key R (option_or first second)
search_or key P Q R (Some entry) second left right cases over is other_is = record {
  there = left entry is.there;
  named = is.named;
  last = λ other there same. ⊎_elim (λ own. is.last other own same) (λ below. omega (arith, over entry other is.there below (is.named ∙ sym same))) (cases other there);
}
search_or key P Q R None (Some entry) left right cases over none is =
    record { there = right entry is.there; named = is.named; last = λ other there same. ⊎_elim (λ own. absurd (none other own same)) (λ below. is.last other below same) (cases other there) }
search_or key P Q R None None left right cases over none neither = λ entry there same. ⊎_elim (λ own. none entry own same) (λ below. neither entry below same) (cases entry there)

search_run : (key : Bytes) (run : List File) → ((entry other : Entry) → InFiles run entry → InFiles run other → entry.key ≡ other.key → entry ≡ other) → IsSearch key (InFiles run) (entry_of key (flat_map entries_of run))
search_run key run once = by (entry_of key (flat_map entries_of run)) refl
  where
    by : (o : Option Entry) → entry_of key (flat_map entries_of run) ≡ o → IsSearch key (InFiles run) o
    by None at = λ entry there same. no_entry key (flat_map entries_of run) at entry (spelled_in run entry there) same
    by (Some entry) at =
        let is = entry_in key (flat_map entries_of run) entry at in
        let own = spelled_from run entry is.0 in record {
          there = own;
          named = is.1;
          last = λ other there same. let one : other.seq ≡ entry.seq = ap (λ e. e.seq) (once other entry there own (same ∙ sym is.1)) in omega arith;
        }

search_runs : (key : Bytes) (runs : List (List File)) → AreOnce runs → Pairs IsOver runs → IsSearch key (InFiles (files_in runs)) (found_in key runs)
search_runs key [] once falls = λ entry there same. none_in there.file there.there
search_runs key (run ∷ runs) once falls = search_or key (InFiles run) (InFiles (files_in runs)) (InFiles (files_in (run ∷ runs))) (entry_of key (flat_map entries_of run)) (found_in key runs)
    (λ e is. in_more is (Contains-append_left run (files_in runs))) (λ e is. in_more is (Contains-append_right run (files_in runs)))
    (λ e is. ⊎_map (refiled is) (refiled is) (Contains-append_cases run (files_in runs) is.file is.there))
    (λ e older above below same. let two = flat_from (λ files. files) runs below.file below.there in falls.0 two.0 two.1 e older above (refiled below two.2) same)
    (search_run key run (once run (first_is run runs run refl))) (search_runs key runs (λ other there. once other (Contains-append_right (run ∷ []) runs other there)) falls.1)

search_buffer : (key : Bytes) (records : List Record) → IsSearch key (InBuffer (buffer_of records)) (finmap.get (buffer_of records) key)
search_buffer key records = by (finmap.get (buffer_of records) key) refl
  where
    at_key : (e : Entry) → InBuffer (buffer_of records) e → e.key ≡ key → finmap.get (buffer_of records) key ≡ Some e
    at_key e is same = ap (finmap.get (buffer_of records)) (sym same) ∙ is

    by : (o : Option Entry) → finmap.get (buffer_of records) key ≡ o → IsSearch key (InBuffer (buffer_of records)) o
    by None at = λ entry there same. let clash : None ≡ Some entry = sym at ∙ at_key entry there same in cc
    by (Some entry) at =
        let named = buffer_keyed records key entry at in record {
          there = ap (finmap.get (buffer_of records)) named ∙ at;
          named = named;
          last = λ other there same.
              let both : Some entry ≡ Some other = sym at ∙ at_key other there same in
              let place : entry.seq ≡ other.seq = cc in omega arith;
        }

module _ (threshold : ℕ) (h : History) (l : Layout) (covers : Covers threshold h l) (once : AreOnce (runs_of l.levels)) (key : Bytes) where
  search_files : IsSearch key (IsFiled l) (found_in key (runs_of l.levels))
  search_files = by (found_in key (runs_of l.levels)) (search_runs key (runs_of l.levels) once (pairs_from IsOver (runs_of l.levels) covers.newer_above.runs))
    where
      by : (o : Option Entry) → IsSearch key (InFiles (files_in (runs_of l.levels))) o → IsSearch key (IsFiled l) o
      by None none = λ entry there same. none entry (in_more there (file_runs l.levels)) same
      by (Some entry) is = record {
        there = in_more is.there (runs_file l.levels);
        named = is.named;
        last = λ other there same. is.last other (in_more there (file_runs l.levels)) same;
      }

  abbrev Active : Entry → Type 0
  Active = InBuffer (buffer_of l.active)

  abbrev Frozen : Entry → Type 0
  Frozen = InBuffer (buffer_of (frozen_records l))

  search_shown : IsSearch key (Shows l) (found key l)
  search_shown = search_or key Active (λ e. Frozen e ⊎ IsFiled l e) (Shows l) (finmap.get (buffer_of l.active) key) (option_or (finmap.get (buffer_of (frozen_records l)) key) (found_in key (runs_of l.levels)))
      (λ e is. inl (inl is))
      (λ e. ⊎_elim (λ frozen. inl (inr frozen)) (λ filed. inr filed)) (λ e. ⊎_elim (⊎_elim (λ active. inl active) (λ frozen. inr (inl frozen))) (λ filed. inr (inr filed)))
      (λ e older is below same. ⊎_elim (λ frozen. covers.newer_above.active_frozen (Written e) (Written older) (buffer_recorded l.active e is) (buffer_recorded (frozen_records l) older frozen))
      (covers.newer_above.active_files (Written e) older (buffer_recorded l.active e is)) below)
      (search_buffer key l.active)
      (search_or key Frozen (IsFiled l) (λ e. Frozen e ⊎ IsFiled l e) (finmap.get (buffer_of (frozen_records l)) key) (found_in key (runs_of l.levels))
      (λ e is. inl is) (λ e is. inr is) (λ e is. is)
      (λ e older is below same. covers.newer_above.frozen_files (Written e) older (buffer_recorded (frozen_records l) e is) below)
      (search_buffer key (frozen_records l)) search_files)

  pub reads : answered key l ≡ finmap.get (after h).map key
  reads = by (found key l) search_shown
    where
      by : (o : Option Entry) → IsSearch key (Shows l) o → option_and_then (answer_under l.pending) o ≡ finmap.get (after h).map key
      by None none = sym (covers.same_map.absent key none)
      by (Some entry) is = covers.same_map.newest entry (record { shown = is.there; last = λ other there same. is.last other there (same ∙ is.named) }) ∙ ap (finmap.get (after h).map) is.named
