-- Looking through files, one after another.
use Rattle.std.proofs.Common.{◌≡◌, ◌⊎◌, ⊎_elim, inl, inr, ℕ, ◌+◌, ◌<◌, ◌≤◌, List, [], ◌∷◌, ◌++◌, length, get_or, take, drop, map, sum_by}
use Rattle.std.proofs.Common.{All, Option, Some, None, Result, Ok, Err, refl, sym, ap, subst, ◌∙◌, arith, append_assoc}
use Rattle.std.specs.Prelude.{Any, IfOk, IfSome, IsErrOf, IsSomeAnd}
use Rattle.std.proofs.lemmas.List.{map-append}
use Rattle.std.proofs.lemmas.List.{append-nil, take_more, take_all, take-append-drop, get_or-append-add, get_or_append_left, length-append}
use Rattle.std.proofs.lemmas.List.Elements.{All-head, All-tail, All-map}
use Rattle.std.proofs.lemmas.List.Sums.{sum_by-append, sum_by-cons}
use Rattle.std.proofs.lemmas.Result.{IfOk-weaker}
use Rattle.lethe_base.specs.Keys.{Bytes}
use Rattle.lethe_base.specs.declared.entry.Entry.{Entry}
use Rattle.lethe_base.specs.declared.name.Name.{Name}
use Rattle.lethe_disk.specs.Reads.{HasReadCause, IsFault}
use Rattle.lethe_disk.specs.declared.cursor.ReadRefused.{ReadRefused}
use Rattle.lethe_disk.specs.declared.cursor.ReadRefused.TheVariants.{Damaged}
use Rattle.lethe_header.specs.Facts.{lines_of, max_seq_in}
use Rattle.lethe_header.specs.Headers.{HasSpelling}
use Rattle.lethe_header.specs.declared.header.Header.{Header}
use Rattle.lethe_file.specs.Agreement.{FileAgrees, entries_in}
use Rattle.lethe_file.specs.Damage.{IsDamagedFor, IsVouched}
use Rattle.lethe_file.specs.Finding.{IsEntryOf}
use Rattle.lethe_disk.specs.Reads.{refused_since}
use Rattle.lethe_disk.proofs.Causes.{cause_since, damage_since, fault_since}
use Rattle.lethe_file.proofs.Unique.{one_found}
use Rattle.lethe_version.specs.Newest.{IsNewestIn, newer_of}
use Rattle.lethe_version.specs.Probing.{bound, IsNarrowed}
use Rattle.lethe_version.specs.Search.{IsSearch}
use Rattle.lethe_version.proofs.Newer.{newest_kept, newest_lack, newest_next}
use Rattle.lethe_version.proofs.Places.{up_to_header}
use Rattle.lethe_version.proofs.Probed.{none_allowed}
use Rattle.lethe_version.proofs.Vouched.{AreVouching, IsVouchedAt, newer_vouched, wider}

All-left : {X : Type 0} (P : X → Type 0) (xs ys : List X) → All P (xs ++ ys) → All P xs
All-left P xs ys all k d lt = subst P (get_or_append_left xs ys d k lt) (all k d (omega (arith, length-append xs ys, lt)))

All-right : {X : Type 0} (P : X → Type 0) (xs ys : List X) → All P (xs ++ ys) → All P ys
All-right P xs ys all k d lt = subst P (get_or-append-add xs ys k d) (all (length xs + k) d (omega (arith, length-append xs ys, lt)))

Any-left : {X : Type 0} (P : X → Type 0) (xs ys : List X) → Any P xs → Any P (xs ++ ys)
Any-left P xs ys (k, x, lt, is, holds) = (k, x, omega (arith, length-append xs ys, lt), get_or_append_left xs ys x k lt ∙ is, holds)

Any-right : {X : Type 0} (P : X → Type 0) (xs ys : List X) → Any P ys → Any P (xs ++ ys)
Any-right P xs ys (k, x, lt, is, holds) = (length xs + k, x, omega (arith, length-append xs ys, lt), get_or-append-add xs ys k x ∙ is, holds)

no_cause : {T : Type 0} (faults : ℕ) (x : T) → HasReadCause {T = T} faults faults (Ok x)
no_cause faults x = record { later = omega arith; fault = λ before after e. absurd cc }

module _ {F : Type 0} (header : F → Header) (bytes : F → List (List ℕ)) (tells can_fail : Type 0) (key : Bytes) where
  abbrev entries_of : F → List (List Entry)
  entries_of file = map entries_in (bytes file)

  abbrev IsSound : F → Type 0
  IsSound file = FileAgrees (header file).tiles (bytes file)

  abbrev pages_for : F → ℕ
  pages_for file = bound key (header file)

  abbrev IsDamagedAt : Name → F → Type 0
  IsDamagedAt name file = IsDamagedFor tells key (header file).tiles (bytes file) name

  lack_all : (files : List F) → All IsSound files → All (λ file. pages_for file ≡ 0) files → All (λ file. IsEntryOf key file None) (map entries_of files)
  lack_all files sound none = All-map (λ file. IsEntryOf key file None) entries_of files (λ k d lt. none_allowed key (header (get_or files k d)).tiles (bytes (get_or files k d)) (sound k d lt).pages (sound k d lt).tiles (none k d lt))

  zero_sum : (files : List F) → All (λ file. pages_for file ≡ 0) files → sum_by pages_for files ≡ 0
  zero_sum [] none = refl
  zero_sum (file ∷ files) none = omega (arith, sum_by-cons pages_for file files, All-head (λ (f : F). pages_for f ≡ 0) file files none, zero_sum files (All-tail (λ (f : F). pages_for f ≡ 0) file files none))

  -- no file was looked at
  pub none_searched : (newest : Option Entry) (fetches faults : ℕ) → IsSearch header bytes tells can_fail key [] newest fetches fetches faults faults (Ok newest)
  none_searched newest fetches faults = record {
    found = λ told sound earlier is. subst (λ (l : List (List (List Entry))). IsNewestIn key l newest) (sym (append-nil earlier)) is;
    few = omega arith;
    later = omega arith;
    damaged = λ name e. absurd cc;
    vouched = inl refl;
    undamaged = λ told sound name e. absurd cc;
    cause = no_cause faults newest;
    fault = λ (before, after, e). absurd cc;
  }

  -- a file that can't have a newer entry wasn't asked
  pub not_asked : (file : F) (entry : Entry) (fetches faults : ℕ) → max_seq_in (lines_of (header file).tiles) ≤ entry.seq → IsSearch header bytes tells can_fail key (file ∷ []) (Some entry) fetches fetches faults faults (Ok (Some entry))
  not_asked file entry fetches faults old = record {
    found = λ told sound earlier is.
        let agrees = All-head IsSound file [] sound in
        newest_kept key earlier (entries_of file) entry is (λ other has. let le = up_to_header key (lines_of (header file).tiles) (bytes file) agrees.pages other has in omega (arith, le, old));
    few = omega arith;
    later = omega arith;
    damaged = λ name e. absurd cc;
    vouched = inl refl;
    undamaged = λ told sound name e. absurd cc;
    cause = no_cause faults (Some entry);
    fault = λ (before, after, e). absurd cc;
  }

  -- a file was asked, and answered
  pub answered : (file : F) (newest found : Option Entry) (f0 f1 p0 p1 : ℕ) → HasSpelling (header file) → (tells → FileAgrees (header file).tiles (bytes file) → IsEntryOf key (entries_of file) found)
      → IfSome found (λ entry. (entry.key ≡ key) × IsVouched (lines_of (header file).tiles) entry)
      → f1 ≤ f0 + pages_for file → f0 ≤ f1 → p0 ≤ p1 → IsSearch header bytes tells can_fail key (file ∷ []) newest f0 f1 p0 p1 (Ok (newer_of newest found))
  answered file newest found f0 f1 p0 p1 spelled is vouched few later risen = record {
    found = λ told sound earlier before.
        let agrees = All-head IsSound file [] sound in
        newest_next key earlier (entries_of file) newest found before (is told agrees)
        (λ entry same other has.
        let one : other ≡ entry = one_entry agrees entry same other has (is told agrees) in
        let seq : other.seq ≡ entry.seq = ap (λ (e : Entry). e.seq) one in
        omega (arith, seq));
    few = omega (arith, few);
    later = later;
    damaged = λ name e. absurd cc;
    vouched = newer_vouched header key file newest found vouched;
    undamaged = λ told sound name e. absurd cc;
    cause = record { later = risen; fault = λ before after e. absurd cc };
    fault = λ (before, after, e). absurd cc;
  }
    where
      one_entry : FileAgrees (header file).tiles (bytes file) → (entry : Entry) → found ≡ Some entry → (other : Entry) → IsEntryOf key (entries_of file) (Some other) → IsEntryOf key (entries_of file) found → other ≡ entry
      one_entry agrees entry same other has is =
          let both = one_found (header file).tiles (bytes file) key spelled.tiles agrees (Some other) found has is ∙ same in
          cc

  -- a file was asked, and refused
  pub refused : (file : F) (newest : Option Entry) (f0 f1 p0 p1 : ℕ) (why : ReadRefused) → f1 ≤ f0 + pages_for file → f0 ≤ f1
      → ((name : Name) → IsErrOf {T = Option Entry} (Err why) (Damaged name) → IsDamagedFor tells key (header file).tiles (bytes file) name × (f0 < f1))
      → (tells → FileAgrees (header file).tiles (bytes file) → (name : Name) → IsErrOf {T = Option Entry} (Err why) (Damaged name) → ⊥)
      → HasReadCause {T = Option Entry} p0 p1 (Err why) → (IsFault {T = Option Entry} (Err why) → can_fail) → IsSearch header bytes tells can_fail key (file ∷ []) newest f0 f1 p0 p1 (Err why)
  refused file newest f0 f1 p0 p1 why few later damaged undamaged cause fault = record {
    found = λ told sound earlier before. tt;
    few = omega (arith, few);
    later = later;
    damaged = λ name e. let told = damaged name e in ((0, file, omega arith, refl, told.0), told.1);
    vouched = tt;
    undamaged = λ told sound name e. undamaged told (All-head IsSound file [] sound) name e;
    cause = cause;
    fault = fault;
  }

  -- more files were looked through
  module _ (xs ys : List F) (newest mid : Option Entry) (f0 f1 f2 p0 p1 p2 : ℕ) (first : IsSearch header bytes tells can_fail key xs newest f0 f1 p0 p1 (Ok mid)) where
    more_found : (result : Result (Option Entry) ReadRefused) → IsSearch header bytes tells can_fail key ys mid f1 f2 p1 p2 result
        → tells → All IsSound (xs ++ ys) → (earlier : List (List (List Entry))) → IsNewestIn key earlier newest → IfOk result (IsNewestIn key (earlier ++ map entries_of (xs ++ ys)))
    more_found result next told sound earlier is =
        let here = first.found told (All-left IsSound xs ys sound) earlier is in
        let rest = next.found told (All-right IsSound xs ys sound) (earlier ++ map entries_of xs) here in
        let joined : (earlier ++ map entries_of xs) ++ map entries_of ys ≡ earlier ++ map entries_of (xs ++ ys) =
        append_assoc earlier (map entries_of xs) (map entries_of ys) ∙ ap (λ (l : List (List (List Entry))). earlier ++ l) (sym (map-append entries_of xs ys)) in
        subst (λ (l : List (List (List Entry))). IfOk result (IsNewestIn key l)) joined rest

    pub more_searched : (out : Option Entry) → IsSearch header bytes tells can_fail key ys mid f1 f2 p1 p2 (Ok out) → IsSearch header bytes tells can_fail key (xs ++ ys) newest f0 f2 p0 p2 (Ok out)
    more_searched out next = record {
      found = more_found (Ok out) next;
      few = omega (arith, first.few, next.few, sum_by-append pages_for xs ys);
      later = omega (arith, first.later, next.later);
      damaged = λ name e. absurd cc;
      vouched = ⊎_elim
          (λ same. ⊎_elim (λ was. inl (same ∙ was))
          (λ known. inr (subst (AreVouching header key (xs ++ ys)) (sym same) (wider header key xs (xs ++ ys) (λ entry any. Any-left (IsVouchedAt header entry) xs ys any) mid known))) first.vouched)
          (λ known. inr (wider header key ys (xs ++ ys) (λ entry any. Any-right (IsVouchedAt header entry) xs ys any) out known)) next.vouched;
      undamaged = λ told sound name e. absurd cc;
      cause = record { later = omega (arith, first.cause.later, next.cause.later); fault = λ before after e. absurd cc };
      fault = λ (before, after, e). absurd cc;
    }

    pub then_refused : (why : ReadRefused) → IsSearch header bytes tells can_fail key ys mid f1 f2 p1 p2 (Err why) → IsSearch header bytes tells can_fail key (xs ++ ys) newest f0 f2 p0 p2 (Err (refused_since p0 why))
    then_refused why next = record {
      found = λ told sound earlier is. tt;
      few = omega (arith, first.few, next.few, sum_by-append pages_for xs ys);
      later = omega (arith, first.later, next.later);
      damaged = λ name e. let told = next.damaged name (damage_since {T = Option Entry} {U = Option Entry} p0 why name e) in (Any-right (IsDamagedAt name) xs ys told.0, omega (arith, told.1, first.later));
      vouched = tt;
      undamaged = λ told sound name e. next.undamaged told (All-right IsSound xs ys sound) name (damage_since {T = Option Entry} {U = Option Entry} p0 why name e);
      cause = cause_since {T = Option Entry} {U = Option Entry} p0 p1 p2 why first.cause.later next.cause;
      fault = λ e. next.fault (fault_since {T = Option Entry} {U = Option Entry} p0 why e);
    }

  -- what is behind the file that refused wasn't looked at
  pub stopped : (xs ys : List F) (newest : Option Entry) (f0 f1 p0 p1 : ℕ) (why : ReadRefused) → IsSearch header bytes tells can_fail key xs newest f0 f1 p0 p1 (Err why) → IsSearch header bytes tells can_fail key (xs ++ ys) newest f0 f1 p0 p1 (Err why)
  stopped xs ys newest f0 f1 p0 p1 why first = record {
    found = λ told sound earlier is. tt;
    few = omega (arith, first.few, sum_by-append pages_for xs ys);
    later = first.later;
    damaged = λ name e. let told = first.damaged name e in (Any-left (IsDamagedAt name) xs ys told.0, told.1);
    vouched = tt;
    undamaged = λ told sound name e. first.undamaged told (All-left IsSound xs ys sound) name e;
    cause = first.cause;
    fault = first.fault;
  }

  -- the files of which no page may have the key weren't looked at
  pub widened : (files some : List F) (newest : Option Entry) (f0 f1 p0 p1 : ℕ) (result : Result (Option Entry) ReadRefused) → IsNarrowed header key files some
      → IsSearch header bytes tells can_fail key some newest f0 f1 p0 p1 result → IsSearch header bytes tells can_fail key files newest f0 f1 p0 p1 result
  widened files some newest f0 f1 p0 p1 result (before, behind, is, none_before, none_behind) s =
      subst (λ (l : List F). IsSearch header bytes tells can_fail key l newest f0 f1 p0 p1 result) (sym is) wide
    where
      joined : (earlier : List (List (List Entry))) → ((earlier ++ map entries_of before) ++ map entries_of some) ++ map entries_of behind ≡ earlier ++ map entries_of (before ++ (some ++ behind))
      joined earlier =
          append_assoc (earlier ++ map entries_of before) (map entries_of some) (map entries_of behind)
          ∙ append_assoc earlier (map entries_of before) (map entries_of some ++ map entries_of behind)
          ∙ ap (λ (l : List (List (List Entry))). earlier ++ (map entries_of before ++ l)) (sym (map-append entries_of some behind))
          ∙ ap (λ (l : List (List (List Entry))). earlier ++ l) (sym (map-append entries_of before (some ++ behind)))

      wide_found : tells → All IsSound (before ++ (some ++ behind)) → (earlier : List (List (List Entry))) → IsNewestIn key earlier newest → IfOk result (IsNewestIn key (earlier ++ map entries_of (before ++ (some ++ behind))))
      wide_found told sound earlier is =
          let rest = All-right IsSound before (some ++ behind) sound in
          let start = newest_lack key earlier (map entries_of before) newest is (lack_all before (All-left IsSound before (some ++ behind) sound) none_before) in
          let lack = lack_all behind (All-right IsSound some behind rest) none_behind in
          let here = s.found told (All-left IsSound some behind rest) (earlier ++ map entries_of before) start in
          subst (λ (l : List (List (List Entry))). IfOk result (IsNewestIn key l)) (joined earlier)
          (IfOk-weaker result (IsNewestIn key ((earlier ++ map entries_of before) ++ map entries_of some)) (IsNewestIn key (((earlier ++ map entries_of before) ++ map entries_of some) ++ map entries_of behind))
          (λ found is. newest_lack key ((earlier ++ map entries_of before) ++ map entries_of some) (map entries_of behind) found is lack) here)

      wide : IsSearch header bytes tells can_fail key (before ++ (some ++ behind)) newest f0 f1 p0 p1 result
      wide = record {
        found = wide_found;
        few = omega (arith, s.few, sum_by-append pages_for before (some ++ behind), sum_by-append pages_for some behind);
        later = s.later;
        damaged = λ name e. let told = s.damaged name e in (Any-right (IsDamagedAt name) before (some ++ behind) (Any-left (IsDamagedAt name) some behind told.0), told.1);
        vouched = IfOk-weaker result (λ found. (found ≡ newest) ⊎ AreVouching header key some found) (λ found. (found ≡ newest) ⊎ AreVouching header key (before ++ (some ++ behind)) found)
            (λ found either. ⊎_elim (λ same. inl same)
            (λ known. inr (wider header key some (before ++ (some ++ behind)) (λ entry any. Any-right (IsVouchedAt header entry) before (some ++ behind) (Any-left (IsVouchedAt header entry) some behind any)) found known)) either) s.vouched;
        undamaged = λ told sound name e. s.undamaged told (All-left IsSound some behind (All-right IsSound before (some ++ behind) sound)) name e;
        cause = s.cause;
        fault = s.fault;
      }

  -- ---- the functions' own steps

  pub not_asked_of : (file : F) (newest : Option Entry) (fetches faults : ℕ) → IsSomeAnd newest (λ entry. max_seq_in (lines_of (header file).tiles) ≤ entry.seq) → IsSearch header bytes tells can_fail key (file ∷ []) newest fetches fetches faults faults (Ok newest)
  not_asked_of file None fetches faults old = absurd old
  not_asked_of file (Some entry) fetches faults old = not_asked file entry fetches faults old

  pub answered_at : (file seen : F) → seen ≡ file → (newest found out : Option Entry) → out ≡ newer_of newest found → (f0 f1 p0 p1 : ℕ) → HasSpelling (header seen) → (tells → FileAgrees (header seen).tiles (bytes seen) → IsEntryOf key (entries_of seen) found)
      → IfSome found (λ entry. (entry.key ≡ key) × IsVouched (lines_of (header seen).tiles) entry)
      → f1 ≤ f0 + pages_for seen → f0 ≤ f1 → p0 ≤ p1 → IsSearch header bytes tells can_fail key (file ∷ []) newest f0 f1 p0 p1 (Ok out)
  answered_at file seen same newest found out out_is f0 f1 p0 p1 spelled is vouched few later risen =
      subst (λ (o : Option Entry). IsSearch header bytes tells can_fail key (file ∷ []) newest f0 f1 p0 p1 (Ok o)) (sym out_is)
      (subst (λ (f : F). IsSearch header bytes tells can_fail key (f ∷ []) newest f0 f1 p0 p1 (Ok (newer_of newest found))) same (answered seen newest found f0 f1 p0 p1 spelled is vouched few later risen))

  pub refused_at : (file seen : F) → seen ≡ file → (newest : Option Entry) (f0 f1 p0 p1 : ℕ) (why : ReadRefused) → f1 ≤ f0 + pages_for seen → f0 ≤ f1
      → ((name : Name) → IsErrOf {T = Option Entry} (Err why) (Damaged name) → IsDamagedFor tells key (header seen).tiles (bytes seen) name × (f0 < f1))
      → (tells → FileAgrees (header seen).tiles (bytes seen) → (name : Name) → IsErrOf {T = Option Entry} (Err why) (Damaged name) → ⊥)
      → HasReadCause {T = Option Entry} p0 p1 (Err why) → (IsFault {T = Option Entry} (Err why) → can_fail) → IsSearch header bytes tells can_fail key (file ∷ []) newest f0 f1 p0 p1 (Err why)
  refused_at file seen same newest f0 f1 p0 p1 why few later damaged undamaged cause fault =
      subst (λ (f : F). IsSearch header bytes tells can_fail key (f ∷ []) newest f0 f1 p0 p1 (Err why)) same (refused seen newest f0 f1 p0 p1 why few later damaged undamaged cause fault)

  -- a loop over items that stand for files
  module _ {S : Type 0} (files_of : List S → List F) (joins : (xs ys : List S) → files_of (xs ++ ys) ≡ files_of xs ++ files_of ys) (items : List S) (i : ℕ) (item : S) (inside : i < length items) (item_is : item ≡ get_or items i item)
      (newest mid : Option Entry) (f0 f1 f2 p0 p1 p2 : ℕ) (first : IsSearch header bytes tells can_fail key (files_of (take i items)) newest f0 f1 p0 p1 (Ok mid)) where
    one_more : files_of (take (i + 1) items) ≡ files_of (take i items) ++ files_of (item ∷ [])
    one_more = ap files_of (take_more items i item inside ∙ ap (λ (s : S). take i items ++ s ∷ []) (sym item_is)) ∙ joins (take i items) (item ∷ [])

    pub loop_more : (out : Option Entry) → IsSearch header bytes tells can_fail key (files_of (item ∷ [])) mid f1 f2 p1 p2 (Ok out) → IsSearch header bytes tells can_fail key (files_of (take (i + 1) items)) newest f0 f2 p0 p2 (Ok out)
    loop_more out next =
        subst (λ (l : List F). IsSearch header bytes tells can_fail key l newest f0 f2 p0 p2 (Ok out)) (sym one_more)
        (more_searched (files_of (take i items)) (files_of (item ∷ [])) newest mid f0 f1 f2 p0 p1 p2 first out next)

    pub loop_refused : (before : ℕ) (why told : ReadRefused) → before ≡ p0 → told ≡ refused_since before why → IsSearch header bytes tells can_fail key (files_of (item ∷ [])) mid f1 f2 p1 p2 (Err why) → IsSearch header bytes tells can_fail key (files_of items) newest f0 f2 p0 p2 (Err told)
    loop_refused before why told before_is told_is next =
        let here = then_refused (files_of (take i items)) (files_of (item ∷ [])) newest mid f0 f1 f2 p0 p1 p2 first why next in
        let upto = subst (λ (l : List F). IsSearch header bytes tells can_fail key l newest f0 f2 p0 p2 (Err (refused_since p0 why))) (sym one_more) here in
        let all = stopped (files_of (take (i + 1) items)) (files_of (drop (i + 1) items)) newest f0 f2 p0 p2 (refused_since p0 why) upto in
        let whole : files_of (take (i + 1) items) ++ files_of (drop (i + 1) items) ≡ files_of items = sym (joins (take (i + 1) items) (drop (i + 1) items)) ∙ ap files_of (take-append-drop (i + 1) items) in
        let same : refused_since p0 why ≡ told = ap (λ (n : ℕ). refused_since n why) (sym before_is) ∙ sym told_is in
        subst (λ (w : ReadRefused). IsSearch header bytes tells can_fail key (files_of items) newest f0 f2 p0 p2 (Err w)) same
        (subst (λ (l : List F). IsSearch header bytes tells can_fail key l newest f0 f2 p0 p2 (Err (refused_since p0 why))) whole all)

  pub loop_all : {S : Type 0} (files_of : List S → List F) (items : List S) (i : ℕ) (newest : Option Entry) (f0 f1 p0 p1 : ℕ) (result : Result (Option Entry) ReadRefused) → length items ≤ i
      → IsSearch header bytes tells can_fail key (files_of (take i items)) newest f0 f1 p0 p1 result → IsSearch header bytes tells can_fail key (files_of items) newest f0 f1 p0 p1 result
  loop_all {S = S} files_of items i newest f0 f1 p0 p1 result past s = subst (λ (l : List S). IsSearch header bytes tells can_fail key (files_of l) newest f0 f1 p0 p1 result) (take_all i items past) s

  -- the candidates among a level's items
  pub level_searched : {S : Type 0} (view : S → F) (items some : List S) (newest : Option Entry) (f0 f1 p0 p1 : ℕ) (result : Result (Option Entry) ReadRefused) → IsNarrowed (λ s. header (view s)) key items some
      → IsSearch header bytes tells can_fail key (map view some) newest f0 f1 p0 p1 result → IsSearch header bytes tells can_fail key (map view items ++ []) newest f0 f1 p0 p1 result
  level_searched view items some newest f0 f1 p0 p1 result (before, behind, is, none_before, none_behind) s =
      subst (λ (l : List F). IsSearch header bytes tells can_fail key l newest f0 f1 p0 p1 result) (sym (append-nil (map view items)))
      (widened (map view items) (map view some) newest f0 f1 p0 p1 result (
        map view before,
        map view behind,
        ap (map view) is ∙ map-append view before (some ++ behind) ∙ ap (λ (l : List F). map view before ++ l) (map-append view some behind),
        All-map (λ file. pages_for file ≡ 0) view before none_before,
        All-map (λ file. pages_for file ≡ 0) view behind none_behind,
      ) s)
