-- One list where the erases are applied: that it is the merged one, and what has a spelling keeps one.
use Rattle.std.proofs.Common.{◌≡◌, ◌≤◌, ℕ, Bool, true, false, cond, List, [], ◌∷◌, map, All, Option, Some, None, is_some, refl, sym, ap, ◌∙◌, subst, arith}
use Rattle.std.specs.Prelude.{IsSome, IfSome}
use Rattle.std.specs.List.{filter_map, cons_option, list_any}
use Rattle.std.specs.Option.{option_and_then}
use Rattle.std.proofs.lemmas.List.Elements.{All-nil, All-cons, All-head, All-tail}
use Rattle.lethe_base.specs.Entries.{IsAscending, entry_of}
use Rattle.lethe_base.specs.Keys.{Bytes, same_key}
use Rattle.lethe_base.specs.Limits.{max_time}
use Rattle.lethe_base.specs.Matching.{matches}
use Rattle.lethe_base.specs.Shapes.{earlier}
use Rattle.lethe_base.specs.Spelling.{HasSpelling, BodyHasSpelling, IsMarked, IsTimeOrNone, kind_of}
use Rattle.lethe_base.specs.declared.entry.Body.{Body}
use Rattle.lethe_base.specs.declared.entry.Body.TheVariants.{Put, Tomb}
use Rattle.lethe_base.specs.declared.entry.Entry.{Entry}
use Rattle.lethe_base.specs.declared.pending.Pending.{Pending}
use Rattle.lethe_base.proofs.Newest.{same_key-true}
use Rattle.lethe_mem.proofs.Places.{above_head, tail_ascends}
use Rattle.lethe_cover.specs.Merged.{newer_of, left_of, struck, bared, body_under, since_under, time_under}
use Rattle.lethe_merge.specs.Merge.{merged}
use Rattle.lethe_merge.proofs.Merges.{lacks, bared-key, kept_ascends, entry_of-kept, is_merged}
use Rattle.lethe_merge.proofs.Times.{time-any}

-- what an output has of an entry where the erases are applied
abbrev pub settled : List Pending → Bool → Entry → Option Entry
settled erases alone entry = bared alone (struck erases entry) (struck erases entry).body

-- The list is the merged one

-- of keys in order one entry is left each, the entry itself
left_of-ascending : (erases : List Pending) (key : Bytes) (entries : List Entry) → IsAscending entries → left_of key (map (struck erases) entries) ≡ option_and_then (λ e. Some (struck erases e)) (entry_of key entries)
left_of-ascending erases key [] ascending = refl
left_of-ascending erases key (e ∷ es) ascending = by (same_key key e.key) refl (left_of-ascending erases key es (tail_ascends e es ascending))
  where
    by : (t : Bool) → same_key key e.key ≡ t → left_of key (map (struck erases) es) ≡ option_and_then (λ e. Some (struck erases e)) (entry_of key es)
        → cond t (Some (newer_of (struck erases e) (left_of key (map (struck erases) es)))) (left_of key (map (struck erases) es)) ≡ option_and_then (λ e. Some (struck erases e)) (cond t (Some e) (entry_of key es))
    by true at more =
        let none : entry_of key es ≡ None = subst (λ k. entry_of k es ≡ None) (sym (same_key-true key e.key at)) (lacks e es (above_head e es ascending)) in
        ap (λ (o : Option Entry). Some (newer_of (struck erases e) o)) (more ∙ ap (option_and_then (λ e. Some (struck erases e))) none)
    by false at more = more

module _ (erases : List Pending) (alone : Bool) where
  in_two_steps : (o : Option Entry) → option_and_then (settled erases alone) o ≡ option_and_then (λ e. bared alone e e.body) (option_and_then (λ e. Some (struck erases e)) o)
  in_two_steps None = refl
  in_two_steps (Some e) = refl

  pub settled_ascends : (entries : List Entry) → IsAscending entries → IsAscending (filter_map (settled erases alone) entries)
  settled_ascends = kept_ascends (settled erases alone) (λ e. bared-key alone (struck erases e))

  pub settled_merged : (entries : List Entry) → IsAscending entries → filter_map (settled erases alone) entries ≡ merged entries erases alone
  settled_merged entries ascending = is_merged entries erases alone (filter_map (settled erases alone) entries) (record {
    ascending = settled_ascends entries ascending;
    entries = λ key. entry_of-kept (settled erases alone) (λ e. bared-key alone (struck erases e)) key entries ascending
        ∙ in_two_steps (entry_of key entries)
        ∙ ap (option_and_then (λ e. bared alone e e.body)) (sym (left_of-ascending erases key entries ascending));
  })

-- It has a spelling

pub earlier_some : (time other : Option ℕ) → is_some other ≡ true → IsSome (earlier time other)
earlier_some None other some = some
earlier_some (Some time) None some = refl
earlier_some (Some time) (Some other) some = refl

pub earlier_time : (time other : Option ℕ) → IsTimeOrNone time → IsTimeOrNone other → IsTimeOrNone (earlier time other)
earlier_time None other fits fits_other = fits_other
earlier_time (Some time) None fits fits_other = fits
earlier_time (Some time) (Some other) fits fits_other = omega arith

under_time : (erases : List Pending) (seq dkey : ℕ) → All (λ erase. erase.time ≤ max_time) erases → IsTimeOrNone (time_under erases seq dkey)
under_time [] seq dkey times = tt
under_time (erase ∷ erases) seq dkey times =
    earlier_time (cond (matches erase seq dkey) (Some erase.time) None) (time_under erases seq dkey) (first (matches erase seq dkey)) (under_time erases seq dkey (All-tail (λ erase. erase.time ≤ max_time) erase erases times))
  where
    first : (t : Bool) → IsTimeOrNone (cond t (Some erase.time) None)
    first true = All-head (λ erase. erase.time ≤ max_time) erase erases times
    first false = tt

module _ (erases : List Pending) (times : All (λ erase. erase.time ≤ max_time) erases) where
  marked_under : (seq : ℕ) (body : Body) (since : Option ℕ) → IsMarked (kind_of body) since → IsMarked (kind_of (body_under erases seq body)) (since_under erases seq body since)
  marked_under seq Tomb since marked = marked
  marked_under seq (Put dkey value) since marked = by (list_any (λ erase. matches erase seq dkey) erases) (time-any erases seq dkey)
    where
      by : (t : Bool) → t ≡ is_some (time_under erases seq dkey) → IsMarked (kind_of (cond t Tomb (Put dkey value))) (earlier since (time_under erases seq dkey))
      by true is = earlier_some since (time_under erases seq dkey) (sym is)
      by false is = tt

  since_time : (seq : ℕ) (body : Body) (since : Option ℕ) → IsTimeOrNone since → IsTimeOrNone (since_under erases seq body since)
  since_time seq Tomb since fits = fits
  since_time seq (Put dkey value) since fits = earlier_time since (time_under erases seq dkey) fits (under_time erases seq dkey times)

  body_spelled : (seq : ℕ) (body : Body) → BodyHasSpelling body → BodyHasSpelling (body_under erases seq body)
  body_spelled seq Tomb spelled = tt
  body_spelled seq (Put dkey value) spelled = by (list_any (λ erase. matches erase seq dkey) erases)
    where
      by : (t : Bool) → BodyHasSpelling (cond t Tomb (Put dkey value))
      by true = tt
      by false = spelled

  pub struck_spelled : (entry : Entry) → HasSpelling entry → HasSpelling (struck erases entry)
  struck_spelled entry spelled = record {
    front = record {
      place = spelled.front.place;
      marked = marked_under entry.seq entry.body entry.since spelled.front.marked;
      time = since_time entry.seq entry.body entry.since spelled.front.time;
      named = spelled.front.named;
    };
    body = body_spelled entry.seq entry.body spelled.body;
  }

  pub bared_spelled : (alone : Bool) (entry : Entry) → HasSpelling entry → IfSome (bared alone entry entry.body) HasSpelling
  bared_spelled alone entry spelled = by alone entry.body refl
    where
      by : (t : Bool) (body : Body) → entry.body ≡ body → IfSome (bared t entry body) HasSpelling
      by false body is = spelled
      by true (Put dkey value) is = record {
        front = record {
          place = spelled.front.place;
          marked = subst (λ b. IsMarked (kind_of b) None) (sym is) tt;
          time = tt;
          named = spelled.front.named;
        };
        body = spelled.body;
      }
      by true Tomb is = tt

  pub settled_spelled : (alone : Bool) (entries : List Entry) → All HasSpelling entries → All HasSpelling (filter_map (settled erases alone) entries)
  settled_spelled alone [] spelled = All-nil HasSpelling
  settled_spelled alone (entry ∷ entries) spelled =
      by (settled erases alone entry) (bared_spelled alone (struck erases entry) (struck_spelled entry (All-head HasSpelling entry entries spelled))) (settled_spelled alone entries (All-tail HasSpelling entry entries spelled))
    where
      by : (o : Option Entry) → IfSome o HasSpelling → All HasSpelling (filter_map (settled erases alone) entries) → All HasSpelling (cons_option o (filter_map (settled erases alone) entries))
      by None own more = more
      by (Some left) own more = All-cons HasSpelling left (filter_map (settled erases alone) entries) own more
