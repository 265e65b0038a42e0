-- Nodes that come into a list, and nodes that go.
use Rattle.std.proofs.Common.{◌≡◌, ◌≢◌, ℕ, ◌+◌, true, false, not, cond, Option, None, Some, List, [], ◌∷◌, ◌++◌, length, map, All, AllPairs, refl, sym, ap, ◌∙◌, subst, arith, length-append}
use Rattle.std.specs.Prelude.{◌==◌}
use Rattle.std.proofs.lemmas.Bool.{eqb-true}
use Rattle.std.proofs.lemmas.List.{map-append}
use Rattle.std.proofs.lemmas.List.Elements.{All-nil, All-cons, All-head, All-tail, All-map}
use Rattle.std.proofs.lemmas.List.Kept.{AllPairs-cons}
use Rattle.slab.specs.Slab.{Slab, Updates, get, slab_len}
use Rattle.lethe_due.specs.declared.node.Node.{Node}
use Rattle.lethe_due.specs.declared.due_file.DueFile.{DueFile}
use Rattle.lethe_due.specs.declared.stop.Stop.TheVariants as stop
use Rattle.lethe_due.specs.Due.{AreInOrder, ComesBefore, IsWith, is_linked, without}
use Rattle.lethe_due.specs.Linked.{AreLinked, Cell, Heads, IsRelinked, Path, file_of, last_from, stops_at}
use Rattle.lethe_due.proofs.Ordered.{all_back, all_front, before_all, none_linked, pairs_back, pairs_between, pairs_head, pairs_tail, passed_before, stopped_behind}
use Rattle.lethe_due.proofs.Walked.{path_join}
use Rattle.lethe_due.proofs.Without.{all_stay, others_in_order}

abbrev Apart : Cell → Cell → Type 0
Apart cell other = cell.0 ≢ other.0

abbrev Not : ℕ → Cell → Type 0
Not key cell = cell.0 ≢ key

-- where the nodes of a path are the same, so is the path
pub same_path : (f h : ℕ → Option Node) (a b : Option ℕ) (cells : List Cell) → All (λ cell. h cell.0 ≡ f cell.0) cells → Path f a cells b → Path h a cells b
same_path f h a b [] same path = path
same_path f h a b (cell ∷ cells) same path =
    (path.0, path.1, All-head (λ cell. h cell.0 ≡ f cell.0) cell cells same ∙ path.2, same_path f h path.0 b cells (All-tail (λ cell. h cell.0 ≡ f cell.0) cell cells same) path.3)

-- a path doesn't lead over an index with no node
pub not_over : (f : ℕ → Option Node) (a b : Option ℕ) (cells : List Cell) (key : ℕ) → f key ≡ None → Path f a cells b → All (Not key) cells
not_over f a b [] key none path = All-nil (Not key)
not_over f a b (cell ∷ cells) key none path =
    All-cons (Not key) cell cells (λ same. let e : f cell.0 ≡ f key = ap f same in let there = path.2 in absurd cc) (not_over f path.0 b cells key none path.3)

last_some : (cell : Cell) (cells : List Cell) → (key : ℕ) × (last_from (Some cell.0) cells ≡ Some key)
last_some cell [] = (cell.0, refl)
last_some cell (next ∷ cells) = last_some next cells

-- the last index is one of theirs
last_differs : (key k : ℕ) (cell : Cell) (cells : List Cell) → last_from (Some cell.0) cells ≡ Some key → All (Not k) (cell ∷ cells) → key ≢ k
last_differs key k cell [] last other same = let is : cell.0 ≡ key = cc in All-head (Not k) cell [] other (is ∙ same)
last_differs key k cell (next ∷ cells) last other same = last_differs key k next cells last (All-tail (Not k) cell (next ∷ cells) other) same

module _ (f h : ℕ → Option Node) (first now behind to : Option ℕ) (linked : IsRelinked f h first to now behind) where
  -- a node that isn't on the path stays
  pub stays : (cells : List Cell) (k : ℕ) → behind ≡ last_from None cells → All (Not k) cells → h k ≡ f k
  stays [] k last other = (subst (IsRelinked f h first to now) last linked).1 k
  stays (cell ∷ cells) k last other =
      let key = last_some cell cells in
      (subst (IsRelinked f h first to now) (last ∙ key.1) linked).2 k (λ same. last_differs key.0 k cell cells key.1 other (sym same))

  from_cell : (key : ℕ) (b : Option ℕ) → ((node : Node) → f key ≡ Some node → h key ≡ Some (record node { next = to })) → ((other : ℕ) → other ≢ key → h other ≡ f other)
      → (cell : Cell) (cells : List Cell) (next : Option ℕ) → f cell.0 ≡ Some (record { file = cell.1; next = next }) → Path f next cells b → last_from (Some cell.0) cells ≡ Some key → AllPairs Apart (cell ∷ cells)
      → (after : Option ℕ) × (h cell.0 ≡ Some (record { file = cell.1; next = after })) × Path h after cells to
  from_cell key b there others cell [] next at path last apart =
      let is : cell.0 ≡ key = cc in
      (to, ap h is ∙ there (record { file = cell.1; next = next }) (ap f (sym is) ∙ at), refl)
  from_cell key b there others cell (second ∷ cells) next at path last apart =
      let rest = from_cell key b there others second cells path.0 path.2 path.3 last (pairs_tail Apart cell (second ∷ cells) apart) in
      let differs : key ≢ cell.0 = last_differs key cell.0 second cells last (λ k d lt same. pairs_head Apart cell (second ∷ cells) apart k d lt (sym same)) in
      (Some second.0, others cell.0 (λ same. differs (sym same)) ∙ at ∙ ap (λ (o : Option ℕ). Some (record { file = cell.1; next = o })) path.1, (rest.0, refl, rest.1, rest.2))

  -- the path leads on where it was to
  pub leads_on : (b : Option ℕ) (cells : List Cell) → behind ≡ last_from None cells → AllPairs Apart cells → Path f first cells b → Path h now cells to
  leads_on b [] last apart path = (subst (IsRelinked f h first to now) last linked).0
  leads_on b (cell ∷ cells) last apart path =
      let key = last_some cell cells in
      let is = subst (IsRelinked f h first to now) (last ∙ key.1) linked in
      let rest = from_cell key.0 b is.1 is.2 cell cells path.0 path.2 path.3 key.1 apart in
      (rest.0, is.0 ∙ path.1, rest.1, rest.2)

-- one comes between

apart_front : (front back : List Cell) → AllPairs Apart (front ++ back) → AllPairs Apart front
apart_front [] back apart = λ i j d lt below. absurd (omega (arith, below))
apart_front (first ∷ front) back apart =
    AllPairs-cons Apart first front (all_front (Apart first) front back (pairs_head Apart first (front ++ back) apart)) (apart_front front back (pairs_tail Apart first (front ++ back) apart))

-- no index of the first part is one of the second
apart_parts : (front back : List Cell) → AllPairs Apart (front ++ back) → All (λ cell. All (Not cell.0) front) back
apart_parts [] back apart = λ k d lt. All-nil (Not _)
apart_parts (first ∷ front) back apart = λ k d lt.
    All-cons (Not _) first front (all_back (Apart first) front back (pairs_head Apart first (front ++ back) apart) k d lt) (apart_parts front back (pairs_tail Apart first (front ++ back) apart) k d lt)

abbrev Once : DueFile → DueFile → Type 0
Once file other = file.no ≢ other.no

-- the files with one more, in order
one_in_order : (file : DueFile) (front back : List Cell) → AreInOrder (map file_of (front ++ back)) → is_linked file.no (map file_of (front ++ back)) ≡ false
    → All (λ cell. stops_at (stop.Behind file) cell.1 ≡ false) front → Heads (stops_at (stop.Behind file)) back → AreInOrder (map file_of front ++ file ∷ map file_of back)
one_in_order file front back order none passed stopped =
    let apart = map-append file_of front back in
    let both : AreInOrder (map file_of front ++ map file_of back) = subst AreInOrder apart order in
    let other : All (λ f. f.no ≢ file.no) (map file_of front ++ map file_of back) = subst (All (λ (f : DueFile). f.no ≢ file.no)) apart (none_linked file.no (map file_of (front ++ back)) none) in
    let in_front : All (λ f. f.no ≢ file.no) (map file_of front) = all_front (λ f. f.no ≢ file.no) (map file_of front) (map file_of back) other in
    let in_back : All (λ f. f.no ≢ file.no) (map file_of back) = all_back (λ f. f.no ≢ file.no) (map file_of front) (map file_of back) other in
    let low : All (λ f. stops_at (stop.Behind file) f ≡ false) (map file_of front) = All-map (λ f. stops_at (stop.Behind file) f ≡ false) file_of front passed in
    record {
      once = pairs_between Once file (map file_of front) (map file_of back) in_front (λ k d lt same. in_back k d lt (sym same)) both.once;
      ordered = pairs_between ComesBefore file (map file_of front) (map file_of back) (λ k d lt. passed_before file _ (in_front k d lt) (low k d lt))
          (behind back (pairs_back ComesBefore (map file_of front) (map file_of back) both.ordered) stopped) both.ordered;
    }
  where
    behind : (back : List Cell) → AllPairs ComesBefore (map file_of back) → Heads (stops_at (stop.Behind file)) back → All (ComesBefore file) (map file_of back)
    behind [] pairs stopped = All-nil (ComesBefore file)
    behind (cell ∷ back) pairs stopped =
        let first = stopped_behind file cell.1 stopped in
        All-cons (ComesBefore file) cell.1 (map file_of back) first (λ k d lt. before_all file cell.1 first _ (pairs_head ComesBefore cell.1 (map file_of back) pairs k d lt))

-- a file that is linked, in a new node between
pub one_linked : (old mid new : Slab Node) (first now behind from : Option ℕ) (key : ℕ) (file : DueFile) (linked : AreLinked old first) (front back : List Cell)
    → linked.cells ≡ front ++ back → behind ≡ last_from None front → Path (get old) first front from → Path (get old) from back None → All (λ cell. stops_at (stop.Behind file) cell.1 ≡ false) front
    → Heads (stops_at (stop.Behind file)) back → is_linked file.no (map file_of linked.cells) ≡ false → get old key ≡ None → Updates old mid key (Some (record { file = file; next = from }))
    → slab_len mid ≡ slab_len old + 1 → IsRelinked (get mid) (get new) first (Some key) now behind → slab_len new ≡ slab_len mid
    → (next : AreLinked new now) × IsWith file (map file_of linked.cells) (map file_of next.cells)
one_linked old mid new first now behind from key file linked front back whole last to on passed stopped missing none put more relinked same =
    let cell : Cell = (key, file) in
    let apart : AllPairs Apart (front ++ back) = subst (AllPairs Apart) whole linked.apart in
    let other : All (Not key) (front ++ back) = subst (All (Not key)) whole (not_over (get old) first None linked.cells key none linked.path) in
    let in_front : All (Not key) front = all_front (Not key) front back other in
    let in_back : All (Not key) back = all_back (Not key) front back other in
    let files : map file_of (front ++ cell ∷ back) ≡ map file_of front ++ file ∷ map file_of back = map-append file_of front (cell ∷ back) in
    let before : Path (get mid) first front from = same_path (get old) (get mid) first from front (λ k d lt. put.others _ (in_front k d lt)) to in
    let ahead : Path (get new) now front (Some key) = leads_on (get mid) (get new) first now behind (Some key) relinked from front last (apart_front front back apart) before in
    let here : get new key ≡ Some (record { file = file; next = from }) = stays (get mid) (get new) first now behind (Some key) relinked front key last in_front ∙ put.changed in
    let rest : Path (get new) from back None = same_path (get old) (get new) from None back
    (λ k d lt. stays (get mid) (get new) first now behind (Some key) relinked front _ last (apart_parts front back apart k d lt) ∙ put.others _ (in_back k d lt)) on in (
      record {
        cells = front ++ cell ∷ back;
        path = path_join (get new) now (Some key) None front (cell ∷ back) ahead (from, refl, here, rest);
        apart = pairs_between Apart cell front back in_front (λ k d lt same. in_back k d lt (sym same)) apart;
        count = omega (arith, same, more, linked.count, ap (λ l. length l) whole, length-append front back, length-append front (cell ∷ back));
        order = subst AreInOrder (sym files) (one_in_order file front back (subst (λ (l : List Cell). AreInOrder (map file_of l)) whole linked.order)
            (subst (λ (l : List Cell). is_linked file.no (map file_of l) ≡ false) whole missing) passed stopped);
      },
      record {
        front = map file_of front;
        back = map file_of back;
        was = ap (λ (l : List Cell). map file_of l) whole ∙ map-append file_of front back;
        is = files;
      },
    )

-- one of them goes

all_but : (P : Cell → Type 0) (cell : Cell) (front back : List Cell) → All P (front ++ cell ∷ back) → All P (front ++ back)
all_but P cell [] back all = All-tail P cell back all
all_but P cell (first ∷ front) back all = All-cons P first (front ++ back) (All-head P first (front ++ cell ∷ back) all) (all_but P cell front back (All-tail P first (front ++ cell ∷ back) all))

apart_but : (cell : Cell) (front back : List Cell) → AllPairs Apart (front ++ cell ∷ back) → AllPairs Apart (front ++ back)
apart_but cell [] back apart = pairs_tail Apart cell back apart
apart_but cell (first ∷ front) back apart =
    AllPairs-cons Apart first (front ++ back) (all_but (Apart first) cell front back (pairs_head Apart first (front ++ cell ∷ back) apart))
    (apart_but cell front back (pairs_tail Apart first (front ++ cell ∷ back) apart))

pub without_between : (number : ℕ) (cell : Cell) (front back : List Cell) → All (λ cell. (cell.1.no == number) ≡ false) front → cell.1.no ≡ number → (cell.1.no == number) ≡ true
    → AllPairs Once (map file_of (front ++ cell ∷ back)) → map file_of (front ++ back) ≡ without number (map file_of (front ++ cell ∷ back))
without_between number cell [] back passed is found once =
    sym (all_stay number (map file_of back) (λ k d lt same. pairs_head Once cell.1 (map file_of back) once k d lt (is ∙ sym same)))
    ∙ ap (λ b. cond (not b) (cell.1 ∷ without number (map file_of back)) (without number (map file_of back))) (sym found)
without_between number cell (first ∷ front) back passed is found once =
    ap (λ l. first.1 ∷ l) (without_between number cell front back (All-tail (λ cell. (cell.1.no == number) ≡ false) first front passed) is found (pairs_tail Once first.1 (map file_of (front ++ cell ∷ back)) once))
    ∙ ap (λ b. cond (not b) (first.1 ∷ without number (map file_of (front ++ cell ∷ back))) (without number (map file_of (front ++ cell ∷ back))))
    (sym (All-head (λ cell. (cell.1.no == number) ≡ false) first front passed))

-- a file that goes, with its node
pub one_unlinked : (old mid new : Slab Node) (first now behind from : Option ℕ) (number key : ℕ) (node : Node) (linked : AreLinked old first) (front back : List Cell)
    → linked.cells ≡ front ++ back → behind ≡ last_from None front → Path (get old) first front from → Path (get old) from back None → All (λ cell. (cell.1.no == number) ≡ false) front
    → Heads (λ other. other.no == number) back → from ≡ Some key → get old key ≡ Some node → Updates old mid key None → slab_len mid + 1 ≡ slab_len old
    → IsRelinked (get mid) (get new) first node.next now behind → slab_len new ≡ slab_len mid → (next : AreLinked new now) × (map file_of next.cells ≡ without number (map file_of linked.cells))
one_unlinked old mid new first now behind from number key node linked front [] whole last to on passed stopped is some gone less relinked same = absurd cc
one_unlinked old mid new first now behind from number key node linked front (cell ∷ back) whole last to on passed stopped is some gone less relinked same =
    let here : cell.0 ≡ key = let there = on.1 in cc in
    let nodes : Some (record { file = cell.1; next = on.0 }) ≡ Some node = sym on.2 ∙ ap (get old) here ∙ some in
    let alike : record { file = cell.1; next = on.0 } ≡ node = cc in
    let next : on.0 ≡ node.next = ap (λ (n : Node). n.next) alike in
    let apart : AllPairs Apart (front ++ cell ∷ back) = subst (AllPairs Apart) whole linked.apart in
    let in_front : All (Not key) front = subst (λ k. All (Not k) front) here (All-head (λ (c : Cell). All (Not c.0) front) cell back (apart_parts front (cell ∷ back) apart)) in
    let in_back : All (Not key) back = λ k d lt same. pairs_head Apart cell back (pairs_back Apart front (cell ∷ back) apart) k d lt (here ∙ sym same) in
    let both : AllPairs Apart (front ++ back) = apart_but cell front back apart in
    let once : AllPairs Once (map file_of (front ++ cell ∷ back)) = subst (λ (l : List Cell). AllPairs Once (map file_of l)) whole linked.order.once in
    let files : map file_of (front ++ back) ≡ without number (map file_of linked.cells) = without_between number cell front back passed (eqb-true _ _ stopped) stopped once ∙ ap (λ l. without number (map file_of l)) (sym whole) in
    let before : Path (get mid) first front from = same_path (get old) (get mid) first from front (λ k d lt. gone.others _ (in_front k d lt)) to in
    let ahead : Path (get new) now front node.next = leads_on (get mid) (get new) first now behind node.next relinked from front last (apart_front front back both) before in
    let rest : Path (get new) node.next back None = same_path (get old) (get new) node.next None back
    (λ k d lt. stays (get mid) (get new) first now behind node.next relinked front _ last (apart_parts front back both k d lt) ∙ gone.others _ (in_back k d lt))
    (subst (λ o. Path (get old) o back None) next on.3) in (
      record {
        cells = front ++ back;
        path = path_join (get new) now node.next None front back ahead rest;
        apart = both;
        count = omega (arith, same, less, linked.count, ap (λ l. length l) whole, length-append front back, length-append front (cell ∷ back));
        order = subst AreInOrder (sym files) (others_in_order number (map file_of linked.cells) linked.order);
      },
      files,
    )
