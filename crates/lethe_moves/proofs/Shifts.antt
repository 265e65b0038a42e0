-- A merge of files as a move of runs.
use Rattle.std.proofs.Common.{◌≡◌, ◌≢◌, ◌⊎◌, inl, inr, Bool, IsTrue, List, [], ◌∷◌, ◌++◌, append_assoc, AllPairs, Contains, refl, sym, subst}
use Rattle.lethe_moves.proofs.Common.{⊎_elim, ⊎_map, Contains-append_cases, Contains-append_left, Contains-append_right, File, runs_of, IsOver, none_in, IsApart, IsMove, files_in, files_left, files_right, singles, Merge, inputs_of}
use Rattle.lethe_cover.proofs.Lists.{in_middle, swapped}

-- behind level 0 each level is a run
pub runs_above : (above rest : List (List File)) → above ≢ [] → runs_of (above ++ rest) ≡ runs_of above ++ rest
runs_above [] rest some = absurd (some refl)
runs_above (newest ∷ above) rest some = sym (append_assoc (singles newest) above rest)

-- how the files of the two stretches of runs stand from which files go, and into the second of which others come
module _ (alone : Bool) (m : Merge) (above here here_then next next_then below : List (List File)) where
  pub record IsShift : Type 0 where
    pub here_files : files_in here ≡ m.newer ++ (m.sources ++ m.older)
    pub here_left : files_in here_then ≡ m.newer ++ m.older
    pub next_files : files_in next ≡ m.lower ++ (m.met ++ m.higher)
    pub next_left : files_in next_then ≡ m.lower ++ (m.made ++ m.higher)
    pub new : (file : File) → Contains m.made file → Contains (files_in (above ++ (here ++ (next ++ below)))) file → ⊥
    pub once : (file : File) → Contains (files_in here) file → Contains m.met file → ⊥
    pub here_apart : (file other : File) → Contains m.newer file ⊎ Contains m.older file → Contains m.sources other → IsApart file other
    pub next_apart : (file other : File) → Contains m.lower file ⊎ Contains m.higher file → Contains (inputs_of m) other → IsApart file other
    pub below_apart : IsTrue alone → (file other : File) → Contains (files_in below) file → Contains (inputs_of m) other → IsApart file other
    pub here_order : AllPairs IsOver here_then
    pub next_order : AllPairs IsOver next_then

  pub shift_moves : IsShift → IsMove alone (record { above = above; here = here; next = next; below = below; here_then = here_then; next_then = next_then; taken = inputs_of m; made = m.made })
  shift_moves is = record {
    taken_from = λ file there. ⊎_map (λ source. is_in (sym is.here_files) (in_middle m.newer m.sources m.older file source)) (λ met. is_in (sym is.next_files) (in_middle m.lower m.met m.higher file met))
        (Contains-append_cases m.sources m.met file there);
    here_split = λ file there. ⊎_map (is_in (sym is.here_left)) (Contains-append_left m.sources m.met file) (swapped m.newer m.sources [] m.older file (is_in is.here_files there));
    here_from = λ file there. ⊎_elim (is_in (sym is.here_files)) (λ none. absurd (none_in file none)) (swapped m.newer [] m.sources m.older file (is_in is.here_left there));
    next_split = λ file there. ⊎_map (is_in (sym is.next_left)) (Contains-append_right m.sources m.met file) (swapped m.lower m.met m.made m.higher file (is_in is.next_files there));
    next_from = λ file there. ⊎_map (is_in (sym is.next_files)) (λ made. made) (swapped m.lower m.made m.met m.higher file (is_in is.next_left there));
    made_there = λ file there. is_in (sym is.next_left) (in_middle m.lower m.made m.higher file there);
    made_new = is.new;
    here_apart = λ file other there input was. ⊎_elim (is.here_apart file other (Contains-append_cases m.newer m.older file (is_in is.here_left there))) (λ met. absurd (is.once other was met))
        (Contains-append_cases m.sources m.met other input);
    next_apart = λ file other there was input. ⊎_elim (λ left. is.next_apart file other (inl left) input)
        (λ rest. ⊎_elim (λ made. absurd (is.new file made (files_right above (here ++ (next ++ below)) file (files_right here (next ++ below) file (files_left next below file was)))))
        (λ right. is.next_apart file other (inr right) input) (Contains-append_cases m.made m.higher file rest)) (Contains-append_cases m.lower (m.made ++ m.higher) file (is_in is.next_left there));
    alone_apart = is.below_apart;
    here_order = is.here_order;
    next_order = is.next_order;
  }
    where
      is_in : {files others : List File} {file : File} → files ≡ others → Contains files file → Contains others file
      is_in {file = file} same there = subst (λ files. Contains files file) same there
