-- The pending erases up to a place stay while records come behind it, a segment is frozen, and files come by a flush.
use Rattle.std.proofs.Common.{◌≡◌, ℕ, ◌<◌, [], ◌∷◌, ◌++◌, cond, List, None, refl, sym, ap, ◌∙◌, append-nil}
use Rattle.std.specs.Prelude.{filter_map, option_to_list}
use Rattle.std.proofs.lemmas.Bool.{lt-leb}
use Rattle.std.proofs.lemmas.List.Elements.{filter-append}
use Rattle.lethe_base.proofs.LeftErases.{is_upto}
use Rattle.lethe_segment.specs.Records.{record_seq}
use Rattle.lethe_segment.specs.declared.record.Record.{Record}
use Rattle.lethe_segment.specs.declared.record.Record.TheVariants as of
use Rattle.lethe_stored.specs.Files.{StoredFile}
use Rattle.lethe_stored.specs.Stored.{Stored, appended, erase_of, froze, in_order, pending_of, records_in}
use Rattle.lethe_follows.specs.Filed.{flushed}
use Rattle.lethe_follows.specs.Merged.{erases_upto}
use Rattle.lethe_follows.proofs.Erases.{pending_again}

-- the erase of a record that comes behind the place isn't up to it
none_upto : (upto : ℕ) (next : Record) → upto < record_seq next → erases_upto upto (option_to_list (erase_of next)) ≡ []
none_upto upto (of.Entry entry) behind = refl
none_upto upto (of.Blind place) behind = refl
none_upto upto (of.Erase erase) behind = ap (λ b. cond b (erase ∷ []) []) (lt-leb erase.seq upto behind)

pub upto_appended : (s : Stored) (upto : ℕ) (next : Record) → upto < record_seq next → pending_of (appended s next) ≡ pending_of s ++ option_to_list (erase_of next)
    → erases_upto upto (pending_of (appended s next)) ≡ erases_upto upto (pending_of s)
upto_appended s upto next behind is =
    ap (erases_upto upto) is ∙ filter-append (is_upto upto) (pending_of s) (option_to_list (erase_of next)) ∙ ap (λ l. erases_upto upto (pending_of s) ++ l) (none_upto upto next behind) ∙ append-nil (erases_upto upto (pending_of s))

pub pending_frozen : (s : Stored) (segment number : ℕ) → s.frozen ≡ None → pending_of (froze s segment number) ≡ pending_of s
pending_frozen s segment number none = ap (λ records. in_order (s.manifest.erases ++ filter_map erase_of records)) (append-nil s.active.records ∙ ap (λ frozen. records_in frozen ++ s.active.records) (sym none))

pub pending_flushed : (s : Stored) (made : List StoredFile) (number : ℕ) → pending_of (flushed s made number) ≡ pending_of s
pending_flushed s made number = pending_again s s.active.records (λ erase there. there)
