-- Walks along nodes that name each other by index.
use Rattle.std.proofs.Common.{◌≡◌, ℕ, ◌+◌, ◌≤◌, Bool, true, false, Option, None, Some, List, [], ◌∷◌, ◌++◌, length, map, All, refl, sym, ap, ◌∙◌, subst, arith, append_assoc, length-append}
use Rattle.std.specs.Prelude.{◌||◌}
use Rattle.std.specs.List.{list_any, slice_get}
use Rattle.std.specs.Option.{is_some}
use Rattle.std.proofs.lemmas.List.Elements.{All-nil, All-head, All-tail, All-push}
use Rattle.std.proofs.lemmas.List.{length-map}
use Rattle.slab.specs.Slab.{Slab, get, slab_len}
use Rattle.lethe_due.specs.declared.node.Node.{Node}
use Rattle.lethe_due.specs.declared.due_file.DueFile.{DueFile}
use Rattle.lethe_due.specs.Due.{AreInOrder, first_of}
use Rattle.lethe_due.specs.Linked.{AreLinked, Cell, Heads, Parted, Passed, Path, last_from, node_from, file_of, files_from, walk}

-- what a walk comes to
pub walk_is : (f : ℕ → Option Node) (from : Option ℕ) (cells : List Cell) → Path f from cells None → walk (length cells) f from ≡ map file_of cells
walk_is f from [] path = refl
walk_is f from (cell ∷ cells) path =
    ap (λ (o : Option Node). elim o [ None ↦ [] | Some node ↦ node.file ∷ walk (length cells) f node.next ]) (ap (node_from f) path.1 ∙ path.2)
    ∙ ap (λ l. cell.1 ∷ l) (walk_is f path.0 cells path.3)

-- the files of a list are those of its nodes
pub seen : (nodes : Slab Node) (first : Option ℕ) (linked : AreLinked nodes first) → files_from nodes first ≡ map file_of linked.cells
seen nodes first linked = ap (λ n. walk n (get nodes) first) linked.count ∙ walk_is (get nodes) first linked.cells linked.path

pub path_join : (f : ℕ → Option Node) (a b c : Option ℕ) (xs ys : List Cell) → Path f a xs b → Path f b ys c → Path f a (xs ++ ys) c
path_join f a b c [] ys h k = subst (λ o. Path f o ys c) (sym h) k
path_join f a b c (x ∷ xs) ys h k = (h.0, h.1, h.2, path_join f h.0 b c xs ys h.3 k)

last_push : (behind : Option ℕ) (cells : List Cell) (cell : Cell) → last_from behind (cells ++ cell ∷ []) ≡ Some cell.0
last_push behind [] cell = refl
last_push behind (first ∷ cells) cell = last_push (Some first.0) cells cell

module _ (f : ℕ → Option Node) (first : Option ℕ) (cells : List Cell) (test : DueFile → Bool) (behind from : Option ℕ) where
  -- where the list ends
  heads_none : (back : List Cell) → Path f from back None → node_from f from ≡ None → Heads test back
  heads_none [] on none = tt
  heads_none (cell ∷ back) on none = let some : node_from f from ≡ Some (record { file = cell.1; next = on.0 }) = ap (node_from f) on.1 ∙ on.2 in absurd cc

  pub missing : (place : ℕ) → Passed f first cells test behind from place → node_from f from ≡ None → Parted f first cells test behind from
  missing place so_far none = record {
    front = so_far.front;
    back = so_far.back;
    whole = so_far.whole;
    last = so_far.last;
    to = so_far.to;
    on = so_far.on;
    passed = so_far.passed;
    stopped = heads_none so_far.back so_far.on none;
  }

  -- where a file passes
  heads_some : (back : List Cell) (node : Node) → Path f from back None → node_from f from ≡ Some node → test node.file ≡ true → Heads test back
  heads_some [] node on some is = tt
  heads_some (cell ∷ back) node on some is =
      let there : node_from f from ≡ Some (record { file = cell.1; next = on.0 }) = ap (node_from f) on.1 ∙ on.2 in
      let same : node ≡ record { file = cell.1; next = on.0 } = cc in
      sym (ap (λ (n : Node). test n.file) same) ∙ is

  pub halts : (place : ℕ) (node : Node) → Passed f first cells test behind from place → node_from f from ≡ Some node → test node.file ≡ true → Parted f first cells test behind from
  halts place node so_far some is = record {
    front = so_far.front;
    back = so_far.back;
    whole = so_far.whole;
    last = so_far.last;
    to = so_far.to;
    on = so_far.on;
    passed = so_far.passed;
    stopped = heads_some so_far.back node so_far.on some is;
  }

  -- where as many were passed as there are
  heads_all : (front back : List Cell) (place : ℕ) → cells ≡ front ++ back → length front ≡ place → length cells ≤ place → Heads test back
  heads_all front [] place whole count all = tt
  heads_all front (cell ∷ back) place whole count all = absurd (omega (arith, ap (λ l. length l) whole, length-append front (cell ∷ back), count, all))

  pub ends : (place : ℕ) → Passed f first cells test behind from place → length cells ≤ place → Parted f first cells test behind from
  ends place so_far all = record {
    front = so_far.front;
    back = so_far.back;
    whole = so_far.whole;
    last = so_far.last;
    to = so_far.to;
    on = so_far.on;
    passed = so_far.passed;
    stopped = heads_all so_far.front so_far.back place so_far.whole so_far.count all;
  }

  -- one is passed more
  one_passed : (front back : List Cell) (place : ℕ) (node : Node) → cells ≡ front ++ back → Path f first front from → Path f from back None → All (λ cell. test cell.1 ≡ false) front → length front ≡ place
      → node_from f from ≡ Some node → test node.file ≡ false → Passed f first cells test from node.next (place + 1)
  one_passed front [] place node whole to on passed count some is = let none : node_from f from ≡ None = ap (node_from f) on in absurd cc
  one_passed front (cell ∷ back) place node whole to on passed count some is =
      let there : node_from f from ≡ Some (record { file = cell.1; next = on.0 }) = ap (node_from f) on.1 ∙ on.2 in
      let same : record { file = cell.1; next = on.0 } ≡ node = cc in
      let next : on.0 ≡ node.next = ap (λ (n : Node). n.next) same in
      record {
        front = front ++ cell ∷ [];
        back = back;
        whole = whole ∙ sym (append_assoc front (cell ∷ []) back);
        last = on.1 ∙ sym (last_push None front cell);
        to = path_join f first from node.next front (cell ∷ []) to (on.0, on.1, on.2, next);
        on = subst (λ o. Path f o back None) next on.3;
        passed = All-push (λ cell. test cell.1 ≡ false) front cell passed (ap (λ (n : Node). test n.file) same ∙ is);
        count = omega (arith, length-append front (cell ∷ []), count);
      }

  pub moves : (place : ℕ) (node : Node) → Passed f first cells test behind from place → node_from f from ≡ Some node → test node.file ≡ false → Passed f first cells test from node.next (place + 1)
  moves place node so_far some is = one_passed so_far.front so_far.back place node so_far.whole so_far.to so_far.on so_far.passed so_far.count some is

  -- whether one was found
  pub any_found : Parted f first cells test behind from → is_some from ≡ list_any test (map file_of cells)
  any_found parts = by parts.front parts.back parts.on parts.passed parts.stopped ∙ ap (λ l. list_any test (map file_of l)) (sym parts.whole)
    where
      by : (front back : List Cell) → Path f from back None → All (λ cell. test cell.1 ≡ false) front → Heads test back → is_some from ≡ list_any test (map file_of (front ++ back))
      by [] [] on passed stopped = ap is_some on
      by [] (cell ∷ back) on passed stopped = ap is_some on.1 ∙ ap (λ b. b || list_any test (map file_of back)) (sym stopped)
      by (cell ∷ front) back on passed stopped =
          by front back on (All-tail (λ cell. test cell.1 ≡ false) cell front passed) stopped
          ∙ ap (λ b. b || list_any test (map file_of (front ++ back))) (sym (All-head (λ cell. test cell.1 ≡ false) cell front passed))

pub begins : (f : ℕ → Option Node) (first : Option ℕ) (cells : List Cell) (test : DueFile → Bool) → Path f first cells None → Passed f first cells test None first 0
begins f first cells test path = record {
  front = [];
  back = cells;
  whole = refl;
  last = refl;
  to = refl;
  on = path;
  passed = All-nil (λ cell. test cell.1 ≡ false);
  count = refl;
}

-- the files of a list are in order
pub order_seen : (nodes : Slab Node) (first : Option ℕ) → AreLinked nodes first → AreInOrder (files_from nodes first)
order_seen nodes first linked = subst AreInOrder (sym (seen nodes first linked)) linked.order

-- there are as many as nodes
pub count_seen : (nodes : Slab Node) (first : Option ℕ) → AreLinked nodes first → length (files_from nodes first) ≡ slab_len nodes
count_seen nodes first linked = ap (λ l. length l) (seen nodes first linked) ∙ length-map linked.cells file_of ∙ sym linked.count

-- the node that a list begins with has the first file
pub first_file : (f : ℕ → Option Node) (first : Option ℕ) (cells : List Cell) (node : Node) → Path f first cells None → Some node ≡ node_from f first → Some node.file ≡ slice_get (map file_of cells) 0
first_file f first [] node path is = let none : node_from f first ≡ None = ap (node_from f) path in absurd cc
first_file f first (cell ∷ cells) node path is =
    let there : node_from f first ≡ Some (record { file = cell.1; next = path.0 }) = ap (node_from f) path.1 ∙ path.2 in
    let same : node ≡ record { file = cell.1; next = path.0 } = cc in
    ap (λ (n : Node). Some n.file) same

pub first_is : (files : List DueFile) (file : DueFile) → Some file ≡ slice_get files 0 → Some (file.no, file.oldest) ≡ first_of files
first_is [] file is = absurd cc
first_is (first ∷ files) file is = let same : file ≡ first = cc in ap (λ (f : DueFile). Some (f.no, f.oldest)) same
