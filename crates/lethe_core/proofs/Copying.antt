-- The pages that a job makes have no puts but those of its inputs, and so only those of stored files where these are stored.
use Rattle.std.proofs.Common.{◌≡◌, ℕ, Bool, List, [], ◌∷◌, map, All, Contains, Option, Some, None, refl, sym, ◌∙◌, subst}
use Rattle.std.proofs.lemmas.List.Elements.{All-contains, All-head, All-weaker}
use Rattle.std.proofs.lemmas.List.Folds.{flat_map-map}
use Rattle.lethe_base.specs.Layout.{entries_of}
use Rattle.lethe_base.specs.Matching.{IsPut}
use Rattle.lethe_base.specs.declared.entry.Entry.{Entry}
use Rattle.lethe_base.specs.declared.pending.Pending.{Pending}
use Rattle.lethe_build.specs.Built.{spelled}
use Rattle.lethe_build.specs.Parts.{IsLineOf}
use Rattle.lethe_clean.specs.Copied.{IsCopied, IsCopiedOf, IsOriginal}
use Rattle.lethe_clean.proofs.Copied.{copied_stored, page_copied}
use Rattle.lethe_cover.proofs.Common.{first_is, none_in}
use Rattle.lethe_cover.proofs.Lists.{all_from, flat_from, in_map, map_from}
use Rattle.lethe_file.specs.Agreement.{FileAgrees, page_name}
use Rattle.lethe_file.specs.Agreement as agreement
use Rattle.lethe_header.specs.Facts.{lines_of}
use Rattle.lethe_header.specs.declared.header.PageLine.{PageLine}
use Rattle.lethe_job.specs.MadeOf.{pages_of}
use Rattle.lethe_job.specs.Tasks.{AreSound, merge_inputs}
use Rattle.lethe_job.specs.Works.{AreOutputs, Merges, PlainTask, Sweeps, inputs_in}
use Rattle.lethe_job.specs.declared.made.Made.{Made}
use Rattle.lethe_job.specs.declared.made.Made.TheVariants.{Files, Left}
use Rattle.lethe_stored.specs.Clean.{SpellsPage}
use Rattle.lethe_stored.specs.Files.{StoredFile, file_of, lines_in}
use Rattle.lethe_stored.specs.Stored.{IsCoherent, Stored}
use Rattle.lethe_stored.proofs.FileFacts.{as_many, entries_are}
use Rattle.lethe_job.specs.Sweeping.{IsSweptBy}
use Rattle.lethe_swept.specs.Drafts.{IsDraftOf, IsLineFor, IsTileFor}
use Rattle.lethe_swept.specs.Left.{fresh_in, fresh_of, parts_in}
use Rattle.lethe_swept.specs.declared.draft.DraftLine.{DraftLine}
use Rattle.lethe_swept.specs.declared.draft.DraftLine.TheVariants.{Own, New}
use Rattle.lethe_swept.specs.declared.draft.SweptDraft.{SweptDraft}
use Rattle.lethe_swept.specs.declared.part.Part.{Part}
use Rattle.lethe_swept.specs.declared.part.Part.TheVariants.{Kept, Fresh}
use Rattle.lethe_swept.specs.declared.part.SweptFile.{SweptFile}
use Rattle.lethe_swept.specs.declared.part.SweptTile.{SweptTile}
use Rattle.lethe_job.specs.Drafted.{new_pages}
use Rattle.lethe_job.specs.Outcome.{IsDraftLeft, PlainSweep}
use Rattle.lethe_tile.specs.Woven.{joined}
use Rattle.lethe_core.specs.Running.{IsCopiedFrom, IsRunning, IsTasked}
use Rattle.lethe_core.specs.View.{Flying, View, loose_in}
use Rattle.lethe_core.proofs.Installing.{input_stored}
use Rattle.lethe_core.proofs.SweptPuts.{kept_from, new_puts, right_agrees}

-- The pages of a sweep

-- an entry of its file's pages is an original
page_original : (file : StoredFile) → FileAgrees file.header.tiles file.pages → (entry : Entry) → Contains (joined (map agreement.entries_in file.pages)) entry → IsOriginal (file_of file ∷ []) entry
page_original file agrees entry among =
    let many = as_many (lines_in file) file.pages agrees.pages in
    let same : entries_of (file_of file) ≡ joined (map agreement.entries_in file.pages) =
    entries_are file.header.tiles file.pages many ∙ sym (flat_map-map (λ (page : List Entry). page) agreement.entries_in file.pages) in
    record {
      original = entry;
      filed = record {
        file = file_of file;
        there = first_is (file_of file) [] (file_of file) refl;
        spelled = subst (λ (entries : List Entry). Contains entries entry) (sym same) among;
      };
      seq = refl;
      key = refl;
      body = refl;
    }

-- the bytes of a new page spell it
line_spells : (lines : List PageLine) (part : Part) (entries : List Entry) (line : DraftLine) → fresh_of part ≡ Some entries
    → IsLineFor lines part line → SpellsPage (spelled entries) (agreement.entries_in (spelled entries))
line_spells lines (Kept place) entries line fresh is = absurd (let clash : None ≡ Some entries = fresh in cc)
line_spells lines (Fresh own) entries (Own line) fresh is = absurd is
line_spells lines (Fresh own) entries (New line) fresh is =
    let same : own ≡ entries = cc in
    let of = subst (λ (entries : List Entry). IsLineOf entries line) same is.0 in
    record { class = line.class; spelled = of.agrees.page.spelled; is = of.agrees.spelled }

new_page_copied : (file : StoredFile) → FileAgrees file.header.tiles file.pages → (erase : Pending) (alone : Bool) (swept : SweptFile)
    → IsSweptBy alone erase file.header.tiles (map agreement.entries_in file.pages) swept → (draft : SweptDraft) → IsDraftOf file.header.tiles swept draft
    → (number : ℕ) (bytes : List ℕ) → Contains draft.pages bytes → IsCopiedOf (file_of file ∷ []) (page_name number, bytes)
new_page_copied file agrees erase alone swept is draft of number bytes inside =
    let page = map_from spelled (fresh_in swept) bytes (subst (λ (pages : List (List ℕ)). Contains pages bytes) of.pages inside) in
    let part = kept_from fresh_of (parts_in swept) page.0 page.1 in
    let tile = flat_from (λ (tile : SweptTile). tile.parts) swept.tiles part.0 part.1 in
    let drafted = right_agrees (IsTileFor (lines_of file.header.tiles)) swept.tiles draft.tiles tile.0 of.each tile.1 in
    let line = right_agrees (IsLineFor (lines_of file.header.tiles)) (tile.0).parts (drafted.0).lines part.0 (drafted.1).parts tile.2 in
    let spells = line_spells (lines_of file.header.tiles) part.0 page.0 line.0 part.2 line.1 in
    let entries = agreement.entries_in bytes in
    let fresh : Contains (fresh_in swept) entries = subst (λ (pages : List (List Entry)). Contains pages entries) of.entries (in_map agreement.entries_in draft.pages bytes inside) in
    let puts = new_puts erase (map agreement.entries_in file.pages) alone file.header.tiles swept is entries fresh in
    record {
      page = refl;
      entries = entries;
      spelled = subst (λ (bytes : List ℕ). SpellsPage bytes (agreement.entries_in bytes)) page.2 spells;
      copies = All-weaker (λ (entry : Entry). IsPut entry.body → Contains (joined (map agreement.entries_in file.pages)) entry)
          (λ (entry : Entry). IsPut entry.body → IsOriginal (file_of file ∷ []) entry) (λ entry from put. page_original file agrees entry (from put)) entries puts;
    }

left_copied : (task : PlainSweep) → FileAgrees task.file.header.tiles task.file.pages → (made : Option SweptDraft)
    → IsDraftLeft task.alone task.erase task.file.header.tiles (map agreement.entries_in task.file.pages) made
    → (number : ℕ) (bytes : List ℕ) → Contains (new_pages made) bytes → IsCopiedOf (file_of task.file ∷ []) (page_name number, bytes)
left_copied task agrees None left number bytes inside = absurd (none_in bytes inside)
left_copied task agrees (Some draft) left number bytes inside = new_page_copied task.file agrees task.erase task.alone left.swept left.is draft left.made_of number bytes inside

-- The pages of what a task makes, under whatever numbers

pub made_copied : (Tells : Type 0) (task : PlainTask) → AreSound (inputs_in task) → (made : Made) → AreOutputs Tells task made → Tells
    → (number : ℕ) (bytes : List ℕ) → Contains (pages_of made) bytes → IsCopiedOf (map file_of (inputs_in task)) (page_name number, bytes)
made_copied Tells (Merges task) sound (Files drafts) are told number bytes inside =
    page_copied (merge_inputs task) task.erases task.alone task.config drafts.items (are.told told sound) number bytes inside
made_copied Tells (Merges task) sound (Left made) are told number bytes inside = absurd are
made_copied Tells (Sweeps task) sound (Files drafts) are told number bytes inside = absurd are
made_copied Tells (Sweeps task) sound (Left made) are told number bytes inside =
    left_copied task (All-head (λ (file : StoredFile). FileAgrees file.header.tiles file.pages) task.file [] sound) made (are.told told sound) number bytes inside

-- The inputs of a job in flight are stored, so its pages have no put but those of stored files

pub loose_copied : (view : View) (s : Stored) → IsRunning view s → IsCoherent s → All (IsCopied s) (loose_in view.flights)
loose_copied view s running coherent = all_from (IsCopied s) (loose_in view.flights) (λ named there.
    let found = flat_from (λ (flying : Flying). flying.written) view.flights named there in
    let flying = found.0 in
    let tasked = All-contains (IsTasked s) view.flights flying running.tasked found.1 in
    let stored = all_from (Contains s.files) (inputs_in flying.task) (input_stored s coherent flying.task tasked) in
    copied_stored s coherent (inputs_in flying.task) stored named
    (All-contains (IsCopiedOf (map file_of (inputs_in flying.task))) flying.written named (All-contains IsCopiedFrom view.flights flying running.copied found.1) found.2))
