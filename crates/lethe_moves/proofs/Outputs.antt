-- What the files are that are made of a merged list.
use Rattle.std.proofs.Common.{◌≡◌, Bool, IsTrue, ℕ, ◌<◌, List, All, Contains, ◌∙◌, subst}
use Rattle.lethe_cover.proofs.Merging.{merged_outcome}
use Rattle.lethe_merge.proofs.Merges.{merged_is}
use Rattle.lethe_moves.proofs.Common.{⊎_map, All-contains, InFiles, Bytes, File, entries_of, IsBare, facts_of, Entry, Pending, IsOutcome, merged, IsTight, IsTiled, keys_of, AreMade, AreNew}
use Rattle.lethe_moves.proofs.Bare.{bare_from, merged_plain}
use Rattle.lethe_moves.proofs.Tiled.{ends_held}

-- other words for the outputs
outcome_told : (erases : List Pending) (Alone : Type 0) (inputs P Q : Entry → Type 0) → ((entry : Entry) → P entry → Q entry) → ((entry : Entry) → Q entry → P entry)
    → IsOutcome erases Alone inputs P → IsOutcome erases Alone inputs Q
outcome_told erases Alone inputs P Q to back is = record {
  source = λ output made. is.source output (back output made);
  kept = λ input taken. ⊎_map (λ kept. record { output = kept.output; made = to kept.output kept.made; same = kept.same; newer = kept.newer; since = kept.since })
      (λ dropped. record { alone = dropped.alone; none = λ output made. dropped.none output (back output made); newest = dropped.newest; is = dropped.is; same = dropped.same; nothing = dropped.nothing })
      (is.kept input taken);
  since = λ output time made. is.since output time (back output made);
}

pub above_old : (old made : List File) → AreNew old made → (file other : File) → Contains made file → Contains old other → other.no < file.no
above_old old made new file other there was =
    All-contains (λ other. other.no < file.no) old other (All-contains (λ file. All (λ other. other.no < file.no) old) made file new.above there) was

module _ (Inputs : Entry → Type 0) (inputs : List Entry) (to : (entry : Entry) → Contains inputs entry → Inputs entry) (back : (entry : Entry) → Inputs entry → Contains inputs entry)
    (erases : List Pending) (alone : Bool) (swept : ℕ) (made : List File) (is : AreMade (merged inputs erases alone) swept made)
  where
    pub made_outcome : IsOutcome erases (IsTrue alone) Inputs (InFiles made)
    made_outcome = outcome_told erases (IsTrue alone) Inputs (Contains (merged inputs erases alone)) (InFiles made) (λ entry. (is.has entry).1) (λ entry. (is.has entry).0)
        (merged_outcome Inputs inputs to back erases alone (merged inputs erases alone) (merged_is inputs erases alone))

    -- alone, they have nothing to remember
    pub made_bare : IsTrue alone → (file : File) → Contains made file → IsBare (facts_of 0 file)
    made_bare lone file there = bare_from (entries_of file) (λ entry spelled.
        merged_plain inputs erases entry (subst (λ alone. Contains (merged inputs erases alone) entry) lone ((is.has entry).0 (record { file = file; there = there; spelled = spelled }))))

    -- an input has the key
    abbrev HasInput : Bytes → Type 0
    HasInput key = (input : Entry) × Inputs input × (input.key ≡ key)

    -- each of its two keys is that of an input
    pub made_ends : (file : File) → Contains made file → HasInput (keys_of file).lo × HasInput (keys_of file).hi
    made_ends file there =
        let tight = All-contains (λ file. All IsTight file.tiles) made file is.tight there in
        let ends = ends_held file (All-contains IsTiled made file is.tiled there) (λ tile. All-contains IsTight file.tiles tile tight) in
        let from = λ (entry : Entry) (spelled : Contains (entries_of file) entry). made_outcome.source entry (record { file = file; there = there; spelled = spelled }) in
        let low = from ends.0.0 ends.0.1 in
        let high = from ends.1.0 ends.1.1 in
        ((low.input, low.newest.shown, low.same ∙ ends.0.2), (high.input, high.newest.shown, high.same ∙ ends.1.2))
