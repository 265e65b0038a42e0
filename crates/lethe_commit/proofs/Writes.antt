-- What two writes leave of an object, from what each leaves.
use Rattle.std.proofs.Common.{◌≡◌, ◌≤◌, ◌+◌, ◌-◌, ℕ, List, take, drop, refl, sym, ap, subst, ◌∙◌, arith}
use Rattle.std.specs.Prelude.{Result}
use Rattle.std.proofs.lemmas.List.{take-take, drop-drop}
use Rattle.lethe_base.specs.declared.name.Name.{Name}
use Rattle.lethe_disk.specs.declared.disk.DiskRefused.{DiskRefused}
use Rattle.lethe_disk.specs.Directory.{Directory, Torn, IsWritten, IsSame}
use Rattle.lethe_disk.specs.Disk.{Seen, Takes}
use Rattle.lethe_disk.specs.Runs.{After}
use Rattle.lethe_disk.proofs.Moments.{after_start, after_call, after_same}

-- bytes behind a range are the same behind a longer one
drop_further : (m n : ℕ) (a b : List ℕ) → m ≤ n → drop m a ≡ drop m b → drop n a ≡ drop n b
drop_further m n a b le same =
    let sum : m + (n - m) ≡ n = omega (arith, le) in
    ap (λ k. drop k a) (sym sum) ∙ sym (drop-drop (n - m) m a) ∙ ap (λ (l : List ℕ). drop (n - m) l) same ∙ drop-drop (n - m) m b ∙ ap (λ k. drop k b) sum

torn_itself : (at n : ℕ) (bytes : List ℕ) → Torn at n bytes bytes
torn_itself at n bytes = record { before = refl; after = refl; no_shorter = omega arith; no_longer = omega arith }

-- a range inside another
torn_wider : (low at m n : ℕ) (old new : List ℕ) → low ≤ at → at + m ≤ low + n → Torn at m old new → Torn low n old new
torn_wider low at m n old new starts ends torn = record {
  before = sym (take-take low at new starts) ∙ ap (λ (l : List ℕ). take low l) torn.before ∙ take-take low at old starts;
  after = drop_further (at + m) (low + n) new old ends torn.after;
  no_shorter = torn.no_shorter;
  no_longer = omega (arith, torn.no_longer, ends);
}

torn_then : (at n : ℕ) (old mid new : List ℕ) → Torn at n old mid → Torn at n mid new → Torn at n old new
torn_then at n old mid new first second = record {
  before = second.before ∙ first.before;
  after = second.after ∙ first.after;
  no_shorter = omega (arith, first.no_shorter, second.no_shorter);
  no_longer = omega (arith, first.no_longer, second.no_longer);
}

pub written_itself : (name : Name) (at n : ℕ) (d : Directory) → IsWritten name at n d d
written_itself name at n d = record { others = λ other ne. refl; absent = λ none. none; torn = λ bytes is. (bytes, is, torn_itself at n bytes) }

pub written_wider : (name : Name) (low at m n : ℕ) (d c : Directory) → low ≤ at → at + m ≤ low + n → IsWritten name at m d c → IsWritten name low n d c
written_wider name low at m n d c starts ends written = record {
  others = written.others;
  absent = written.absent;
  torn = λ bytes is. let left = written.torn bytes is in (left.0, left.1, torn_wider low at m n bytes left.0 starts ends left.2);
}

pub written_then : (name : Name) (at n : ℕ) (d e c : Directory) → IsWritten name at n d e → IsWritten name at n e c → IsWritten name at n d c
written_then name at n d e c first second = record {
  others = λ other ne. second.others other ne ∙ first.others other ne;
  absent = λ none. second.absent (first.absent none);
  torn = λ bytes is.
      let mid = first.torn bytes is in
      let left = second.torn mid.0 mid.1 in
      (left.0, left.1, torn_then at n bytes mid.0 left.0 mid.2 left.2);
}

-- the run of one write
pub after_write : {T : Type 0} (name : Name) (at n : ℕ) (result : Result T DiskRefused) (old new : Seen) → Takes (IsWritten name at n) result old new → After (IsWritten name at n) (IsWritten name at n) old new
after_write name at n result old new call =
    let start = after_start (IsWritten name at n) IsSame old (λ d here. refl) (λ d c here same. subst (IsWritten name at n d) (sym same) (written_itself name at n d)) in
    after_call (IsWritten name at n) IsSame (IsWritten name at n) (IsWritten name at n) result old old new start call (λ d e c here same written. subst (λ x. IsWritten name at n x c) same written) (λ d c here written. written)

-- and of a sync behind it
pub after_sync : {T : Type 0} (name : Name) (at n : ℕ) (result : Result T DiskRefused) (old mid new : Seen) → After (IsWritten name at n) (IsWritten name at n) old mid → Takes IsSame result mid new → After (IsWritten name at n) (IsWritten name at n) old new
after_sync name at n result old mid new so_far call = after_same (IsWritten name at n) (IsWritten name at n) result old mid new so_far call (λ d c here written. written)
