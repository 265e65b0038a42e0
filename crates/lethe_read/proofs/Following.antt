-- Files whose keys follow one another are read as one.
use Rattle.std.proofs.Common.{◌≡◌, ℕ, ◌+◌, ◌-◌, ◌<◌, ◌≤◌, Bool, true, List, [], ◌∷◌, ◌++◌, length, drop, get_or, map, reverse, All, Contains, Some, ⊎_elim, inl, inr, refl, sym, ap, subst, ◌∙◌, arith}
use Rattle.std.specs.Global.{Vec}
use Rattle.std.specs.Prelude.{◌↔◌, ◌⊎◌, Any, flat_map, sum_by}
use Rattle.std.specs.Ordering.{is_le}
use Rattle.std.specs.declared.cmp.Ordering.TheVariants.{Less}
use Rattle.std.proofs.lemmas.List.{drop_all, drop_more}
use Rattle.std.proofs.lemmas.List.Elements.{All-append, All-head, All-nil, All-push, All-tail, Contains-append_cases, Contains-append_left, Contains-append_right, Contains-get_or}
use Rattle.std.proofs.lemmas.List.Sums.{sum_by_push}
use Rattle.lethe_base.specs.Keys.{Bytes, key_cmp}
use Rattle.lethe_base.specs.declared.entry.Entry.{Entry}
use Rattle.lethe_base.specs.declared.name.Name.{Name}
use Rattle.lethe_disk.specs.declared.disk.Disk.{Ghosts}
use Rattle.lethe_file.specs.Between.{AreBetween, numbers_between}
use Rattle.lethe_file.specs.Damage.{damages_in, gives_in}
use Rattle.lethe_file.specs.Waiting.{IsSoundIn, awaited_in}
use Rattle.lethe_file.specs.Waiting as waiting
use Rattle.lethe_file.specs.declared.cursor.FileCursor.{FileCursor}
use Rattle.lethe_file.specs.declared.view.FileView.{FileView}
use Rattle.lethe_file.proofs.Orders.{le_less, less_le}
use Rattle.lethe_header.specs.Facts.{greatest_key, least_key}
use Rattle.lethe_tile.proofs.Orders.{Across, HasLowerKey, all_left, all_right, less_is}
use Rattle.lethe_version.specs.Versions.{IsSound, bytes_of, entries_of}
use Rattle.lethe_version.proofs.Probed.{keys_up}
use Rattle.lethe_read.specs.Parts.{joins}
use Rattle.lethe_read.specs.declared.part.Part.{Part}
use Rattle.lethe_read.specs.declared.part.Part.TheVariants.{Filed}
use Rattle.lethe_read.proofs.Adding.{Any-cases, Any-left, Any-right, adds_file, adds_none, adds_nothing, left_with, only_of}
use Rattle.lethe_read.proofs.Awaiting.{awaits_file, awaits_none, awaits_nothing}
use Rattle.lethe_read.proofs.Fences.{from_least, up_to_greatest}
use Rattle.lethe_read.proofs.Filed.{AddsFiles, AwaitsFiles, GivesFiles, IsToldIn, Vouches, pages_in, part_awaits, part_damages, part_gives, part_left, part_sound}
use Rattle.lethe_read.proofs.Runs.{left_push, run_none, run_push}

-- entries with some more put in between
has_between : (xs ys zs : List Entry) (entry : Entry) → Contains (xs ++ (ys ++ zs)) entry ↔ (Contains (xs ++ zs) entry ⊎ Contains ys entry)
has_between xs ys zs entry = (
  λ has. ⊎_elim (λ first. inl (Contains-append_left xs zs entry first))
      (λ rest. ⊎_elim (λ own. inr own) (λ last. inl (Contains-append_right xs zs entry last)) (Contains-append_cases ys zs entry rest))
      (Contains-append_cases xs (ys ++ zs) entry has),
  λ either. ⊎_elim
      (λ others. ⊎_elim (λ first. Contains-append_left xs (ys ++ zs) entry first) (λ last. Contains-append_right xs (ys ++ zs) entry (Contains-append_right ys zs entry last)) (Contains-append_cases xs zs entry others))
      (λ own. Contains-append_right xs (ys ++ zs) entry (Contains-append_left ys zs entry own)) either,
)

module _ {D Page Port : Type 0} (disk : Ghosts D Page Port) where
  abbrev cursor_left : FileCursor D Page Port → List Entry
  cursor_left cursor = waiting.left_in disk.page_bytes cursor.unread

  -- no key is below the first file's least one, and where there is no file there is none
  abbrev pub AreFrom : List (FileView D Page Port disk) → List Entry → Type 0
  AreFrom [] entries = entries ≡ []
  AreFrom (file ∷ files) entries = All (λ entry. is_le (key_cmp (least_key file.header.tiles) entry.key) ≡ true) entries

  -- the file's keys are below those of what is left of a run
  abbrev pub IsBelow : FileView D Page Port disk → Vec (FileCursor D Page Port) → Type 0
  IsBelow file run = All (λ entry. key_cmp (greatest_key file.header.tiles) entry.key ≡ Less) (part_left disk (Filed run))

  -- the cursor gives the file's entries of the range, each of its pages fetched once
  pub record IsOver (lo hi : Bytes) (file : FileView D Page Port disk) (cursor : FileCursor D Page Port) : Type 0 where
    pub sounds : disk.tells → IsSound file → IsSoundIn disk.tells disk.page_bytes cursor.unread
    pub between : IsSound file → AreBetween lo (Some hi) (entries_of file) (cursor_left cursor)
    pub pages : awaited_in disk.page_bytes cursor.unread ≡ numbers_between lo (Some hi) file.header.tiles
    pub told : (name : Name) → damages_in disk.tells disk.page_bytes cursor.unread name → IsToldIn disk file name
    pub gives : (entry : Entry) → gives_in disk.page_bytes cursor.unread entry → Vouches disk file entry

  -- Cursors over all these files were added: the run has those of the first files, and the parts the others.
  pub record AreAdded (lo hi : Bytes) (files : List (FileView D Page Port disk)) (old parts : List (Part (FileCursor D Page Port))) (run : Vec (FileCursor D Page Port)) : Type 0 where
    pub adds : AddsFiles disk lo hi files old (parts ++ Filed run ∷ [])
    pub awaits : AwaitsFiles disk lo hi files old (parts ++ Filed run ∷ [])
    pub gives : GivesFiles disk lo hi files old (parts ++ Filed run ∷ [])
    pub from : All IsSound files → AreFrom files (part_left disk (Filed run))

  -- and the run may take one over this file
  pub record MayTake (lo hi : Bytes) (file : FileView D Page Port disk) (files : List (FileView D Page Port disk)) (old parts : List (Part (FileCursor D Page Port))) (run : Vec (FileCursor D Page Port)) : Type 0 where
    pub added : AreAdded lo hi files old parts run
    pub below : All IsSound files → IsBelow file run

  module _ (lo hi : Bytes) where
    -- an empty run behind the parts
    begun : (files : List (FileView D Page Port disk)) (old parts : List (Part (FileCursor D Page Port))) (run : Vec (FileCursor D Page Port)) → run.items ≡ [] → AddsFiles disk lo hi files old parts → AwaitsFiles disk lo hi files old parts
        → GivesFiles disk lo hi files old parts → AreAdded lo hi files old parts run
    begun files old parts run none adds awaits gives =
        let nothing : part_left disk (Filed run) ≡ [] = ap (λ l. flat_map cursor_left (reverse l)) none in
        record {
          adds = adds_nothing disk.tells (part_sound disk) (part_left disk) IsSound entries_of lo hi files old parts (parts ++ Filed run ∷ []) (Filed run) refl nothing
              (run_none disk.tells (λ cursor. IsSoundIn disk.tells disk.page_bytes cursor.unread) cursor_left run.items none) adds;
          awaits = awaits_nothing (part_awaits disk) (part_damages disk) (pages_in disk lo hi) (IsToldIn disk) files old parts (parts ++ Filed run ∷ []) (Filed run) refl
              (ap (sum_by (λ (cursor : FileCursor D Page Port). length (awaited_in disk.page_bytes cursor.unread))) none) (λ name (k, cursor, lt, is, told). omega (arith, lt, ap length none)) awaits;
          gives = awaits_nothing (part_awaits disk) (part_gives disk) (pages_in disk lo hi) (Vouches disk) files old parts (parts ++ Filed run ∷ []) (Filed run) refl
              (ap (sum_by (λ (cursor : FileCursor D Page Port). length (awaited_in disk.page_bytes cursor.unread))) none) (λ entry (k, cursor, lt, is, given). omega (arith, lt, ap length none)) gives;
          from = λ agree. from_none files nothing;
        }
      where
        from_none : (files : List (FileView D Page Port disk)) → part_left disk (Filed run) ≡ [] → AreFrom files (part_left disk (Filed run))
        from_none [] nothing = nothing
        from_none (file ∷ files) nothing =
            subst (All (λ entry. is_le (key_cmp (least_key file.header.tiles) entry.key) ≡ true)) (sym nothing) (All-nil (λ (entry : Entry). is_le (key_cmp (least_key file.header.tiles) entry.key) ≡ true))

    -- no file yet
    pub none_added : {S : Type 0} (view : S → FileView D Page Port disk) (items : List S) (old : List (Part (FileCursor D Page Port))) (run : Vec (FileCursor D Page Port)) → run.items ≡ []
        → AreAdded lo hi (map view (drop (length items) items)) old old run
    none_added view items old run none =
        subst (λ l. AreAdded lo hi (map view l) old old run) (sym (drop_all (length items) items (omega arith)))
        (begun [] old old run none (adds_none disk.tells (part_sound disk) (part_left disk) IsSound entries_of lo hi old) (awaits_none (part_awaits disk) (part_damages disk) (pages_in disk lo hi) (IsToldIn disk) old)
        (awaits_none (part_awaits disk) (part_gives disk) (pages_in disk lo hi) (Vouches disk) old))

    -- the run is ended, and an empty one begun
    pub begins : (file : FileView D Page Port disk) (files : List (FileView D Page Port disk)) (old parts more : List (Part (FileCursor D Page Port))) (run ended next made : Vec (FileCursor D Page Port)) → ended ≡ run
        → more ≡ parts ++ Filed ended ∷ [] → next ≡ made → made.items ≡ [] → AreAdded lo hi files old parts run → MayTake lo hi file files old more next
    begins file files old parts more run ended next made same is new empty before =
        let all : more ≡ parts ++ Filed run ∷ [] = is ∙ ap (λ run. parts ++ Filed run ∷ []) same in
        let none : next.items ≡ [] = ap (λ run. run.items) new ∙ empty in
        record {
          added = begun files old more next none (subst (AddsFiles disk lo hi files old) (sym all) before.adds) (subst (AwaitsFiles disk lo hi files old) (sym all) before.awaits) (subst (GivesFiles disk lo hi files old) (sym all) before.gives);
          below = λ agree. subst (All (λ entry. key_cmp (greatest_key file.header.tiles) entry.key ≡ Less)) (sym (ap (λ l. flat_map cursor_left (reverse l)) none))
              (All-nil (λ (entry : Entry). key_cmp (greatest_key file.header.tiles) entry.key ≡ Less));
        }

    -- a cursor over a file, and the run with it
    module _ (file : FileView D Page Port disk) (cursor : FileCursor D Page Port) (over : IsOver lo hi file cursor) (files : List (FileView D Page Port disk)) (old parts : List (Part (FileCursor D Page Port)))
        (run more : Vec (FileCursor D Page Port)) (is : more.items ≡ run.items ++ cursor ∷ []) where
      left_more : part_left disk (Filed more) ≡ cursor_left cursor ++ part_left disk (Filed run)
      left_more = ap (λ l. flat_map cursor_left (reverse l)) is ∙ left_push cursor_left run.items cursor

      in_file : IsSound file → (k : ℕ) (d : Entry) → k < length (cursor_left cursor) → Any (λ page. Contains page (get_or (cursor_left cursor) k d)) (entries_of file)
      in_file agrees k d lt = (((over.between agrees).each (get_or (cursor_left cursor) k d)).0 (Contains-get_or (cursor_left cursor) k d lt)).0

      across : IsSound file → IsBelow file run → Across HasLowerKey (cursor_left cursor) (part_left disk (Filed run))
      across agrees below k d lt j e inside =
          le_less (get_or (cursor_left cursor) k d).key (greatest_key file.header.tiles) (get_or (part_left disk (Filed run)) j e).key
          (up_to_greatest file.header (bytes_of file) file.spelled agrees (get_or (cursor_left cursor) k d) (in_file agrees k d lt)) (below j e inside)

      from_file : IsSound file → IsBelow file run → AreFrom (file ∷ files) (part_left disk (Filed more))
      from_file agrees below =
          let from : Entry → Type 0 = λ entry. is_le (key_cmp (least_key file.header.tiles) entry.key) ≡ true in
          subst (All from) (sym left_more) (All-append from (cursor_left cursor) (part_left disk (Filed run))
          (λ k d lt. from_least file.header (bytes_of file) file.spelled agrees (get_or (cursor_left cursor) k d) (in_file agrees k d lt))
          (λ k d lt. ap is_le (le_less (least_key file.header.tiles) (greatest_key file.header.tiles) (get_or (part_left disk (Filed run)) k d).key (keys_up file.header file.spelled) (below k d lt))))

      has_more : (entry : Entry) → Contains (flat_map (part_left disk) (parts ++ Filed more ∷ [])) entry ↔ (Contains (flat_map (part_left disk) (parts ++ Filed run ∷ [])) entry ⊎ Contains (cursor_left cursor) entry)
      has_more entry =
          subst (λ l. Contains l entry ↔ (Contains (flat_map (part_left disk) (parts ++ Filed run ∷ [])) entry ⊎ Contains (cursor_left cursor) entry))
          (sym (left_with (part_left disk) parts (Filed more) ∙ ap (λ l. flat_map (part_left disk) parts ++ l) left_more))
          (subst (λ l. Contains (flat_map (part_left disk) parts ++ (cursor_left cursor ++ part_left disk (Filed run))) entry ↔ (Contains l entry ⊎ Contains (cursor_left cursor) entry))
          (sym (left_with (part_left disk) parts (Filed run))) (has_between (flat_map (part_left disk) parts) (cursor_left cursor) (part_left disk (Filed run)) entry))

      sound_more : disk.tells → IsSound file → IsBelow file run → All (part_sound disk) (parts ++ Filed run ∷ []) → All (part_sound disk) (parts ++ Filed more ∷ [])
      sound_more tells agrees below all =
          All-push (part_sound disk) parts (Filed more) (all_left (part_sound disk) parts (Filed run ∷ []) all)
          (run_push disk.tells (λ cursor. IsSoundIn disk.tells disk.page_bytes cursor.unread) cursor_left run.items more.items cursor is
          (All-head (part_sound disk) (Filed run) [] (all_right (part_sound disk) parts (Filed run ∷ []) all)) (over.sounds tells agrees) (over.between agrees).ascending (across agrees below))

      awaits_more : sum_by (part_awaits disk) (parts ++ Filed more ∷ []) ≡ sum_by (part_awaits disk) (parts ++ Filed run ∷ []) + pages_in disk lo hi file
      awaits_more =
          let fetches : FileCursor D Page Port → ℕ = λ cursor. length (awaited_in disk.page_bytes cursor.unread) in
          omega (arith, sum_by_push (part_awaits disk) parts (Filed more), sum_by_push (part_awaits disk) parts (Filed run), ap (sum_by fetches) is, sum_by_push fetches run.items cursor, ap length over.pages)

      told_more : (name : Name) → Any (λ part. part_damages disk part name) (parts ++ Filed more ∷ []) → Any (λ part. part_damages disk part name) (parts ++ Filed run ∷ []) ⊎ IsToldIn disk file name
      told_more name any =
          let Tells : Part (FileCursor D Page Port) → Type 0 = λ part. part_damages disk part name in
          let Told : FileCursor D Page Port → Type 0 = λ cursor. damages_in disk.tells disk.page_bytes cursor.unread name in
          ⊎_elim (λ before. inl (Any-left Tells parts (Filed run ∷ []) before))
          (λ last. ⊎_elim (λ here. inl (Any-right Tells parts (Filed run ∷ []) (0, Filed run, omega arith, refl, here))) (λ own. inr (over.told name (only_of Told cursor own)))
          (Any-cases Told run.items (cursor ∷ []) (subst (Any Told) is (only_of Tells (Filed more) last))))
          (Any-cases Tells parts (Filed more ∷ []) any)

      given_more : (entry : Entry) → Any (λ part. part_gives disk part entry) (parts ++ Filed more ∷ []) → Any (λ part. part_gives disk part entry) (parts ++ Filed run ∷ []) ⊎ Vouches disk file entry
      given_more entry any =
          let Gives : Part (FileCursor D Page Port) → Type 0 = λ part. part_gives disk part entry in
          let Given : FileCursor D Page Port → Type 0 = λ cursor. gives_in disk.page_bytes cursor.unread entry in
          ⊎_elim (λ before. inl (Any-left Gives parts (Filed run ∷ []) before))
          (λ last. ⊎_elim (λ here. inl (Any-right Gives parts (Filed run ∷ []) (0, Filed run, omega arith, refl, here))) (λ own. inr (over.gives entry (only_of Given cursor own)))
          (Any-cases Given run.items (cursor ∷ []) (subst (Any Given) is (only_of Gives (Filed more) last))))
          (Any-cases Gives parts (Filed more ∷ []) any)

      taken : MayTake lo hi file files old parts run → AreAdded lo hi (file ∷ files) old parts more
      taken before = record {
        adds = adds_file disk.tells (part_sound disk) (part_left disk) IsSound entries_of lo hi file files old (parts ++ Filed run ∷ []) (parts ++ Filed more ∷ []) (cursor_left cursor) before.added.adds over.between has_more
            (λ tells agree. sound_more tells (All-head IsSound file files agree) (before.below (All-tail IsSound file files agree)));
        awaits = awaits_file (part_awaits disk) (part_damages disk) (pages_in disk lo hi) (IsToldIn disk) file files old (parts ++ Filed run ∷ []) (parts ++ Filed more ∷ []) before.added.awaits awaits_more told_more;
        gives = awaits_file (part_awaits disk) (part_gives disk) (pages_in disk lo hi) (Vouches disk) file files old (parts ++ Filed run ∷ []) (parts ++ Filed more ∷ []) before.added.gives awaits_more given_more;
        from = λ agree. from_file (All-head IsSound file files agree) (before.below (All-tail IsSound file files agree));
      }

    module _ {S : Type 0} (view : S → FileView D Page Port disk) (items : List S) where
      -- a file whose keys are below those of the next one is below a run that has that one's first
      is_below : (item : S) (behind : List S) (run : Vec (FileCursor D Page Port)) → joins (λ s. (view s).header) (item ∷ behind) ≡ true → AreFrom (map view behind) (part_left disk (Filed run)) → IsBelow (view item) run
      is_below item [] run joins from =
          subst (All (λ entry. key_cmp (greatest_key (view item).header.tiles) entry.key ≡ Less)) (sym from) (All-nil (λ (entry : Entry). key_cmp (greatest_key (view item).header.tiles) entry.key ≡ Less))
      is_below item (next ∷ behind) run joins from =
          λ k d lt. less_le (greatest_key (view item).header.tiles) (least_key (view next).header.tiles) (get_or (part_left disk (Filed run)) k d).key (less_is _ joins) (from k d lt)

      -- the item in front of a place
      module _ (place : ℕ) (item : S) (some : 0 < place) (within : place ≤ length items) (is : item ≡ get_or items (place - 1) item) (old parts : List (Part (FileCursor D Page Port))) (run : Vec (FileCursor D Page Port)) where
        next_item : drop (place - 1) items ≡ item ∷ drop place items
        next_item = drop_more items (place - 1) item (omega arith) ∙ ap (λ x. x ∷ drop (place - 1 + 1) items) (sym is) ∙ ap (λ n. item ∷ drop n items) (omega arith)

        pub goes_on : (join : Bool) → join ≡ joins (λ s. (view s).header) (drop (place - 1) items) → join ≡ true → AreAdded lo hi (map view (drop place items)) old parts run
            → MayTake lo hi (view item) (map view (drop place items)) old parts run
        goes_on join told joined before = record {
          added = before;
          below = λ agree. is_below item (drop place items) run (ap (joins (λ s. (view s).header)) (sym next_item) ∙ sym told ∙ joined) (before.from agree);
        }

        pub item_taken : (file : FileView D Page Port disk) (cursor : FileCursor D Page Port) (more : Vec (FileCursor D Page Port)) → file ≡ view item → IsOver lo hi file cursor → more.items ≡ run.items ++ cursor ∷ []
            → MayTake lo hi (view item) (map view (drop place items)) old parts run → AreAdded lo hi (map view (drop (place - 1) items)) old parts more
        item_taken file cursor more same over pushed before =
            subst (λ l. AreAdded lo hi (map view l) old parts more) (sym next_item)
            (taken (view item) cursor (subst (λ file. IsOver lo hi file cursor) same over) (map view (drop place items)) old parts run more pushed before)

      -- all of them, and the last run behind the parts
      module _ (place : ℕ) (none : place ≤ 0) (old parts more : List (Part (FileCursor D Page Port))) (run : Vec (FileCursor D Page Port)) (is : more ≡ parts ++ Filed run ∷ [])
          (added : AreAdded lo hi (map view (drop place items)) old parts run) where
        all : map view (drop place items) ≡ map view items
        all = let first : place ≡ 0 = omega (arith, none) in ap (λ n. map view (drop n items)) first

        pub all_added : AddsFiles disk lo hi (map view items) old more
        all_added = subst (AddsFiles disk lo hi (map view items) old) (sym is) (subst (λ files. AddsFiles disk lo hi files old (parts ++ Filed run ∷ [])) all added.adds)

        pub all_awaited : AwaitsFiles disk lo hi (map view items) old more
        all_awaited = subst (AwaitsFiles disk lo hi (map view items) old) (sym is) (subst (λ files. AwaitsFiles disk lo hi files old (parts ++ Filed run ∷ [])) all added.awaits)

        pub all_given : GivesFiles disk lo hi (map view items) old more
        all_given = subst (GivesFiles disk lo hi (map view items) old) (sym is) (subst (λ files. GivesFiles disk lo hi files old (parts ++ Filed run ∷ [])) all added.gives)
