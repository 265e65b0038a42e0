-- The pending erases with a record more.
use Rattle.std.proofs.Common.{◌≡◌, ◌<◌, List, [], ◌∷◌, ◌++◌, Option, Some, None, AllPairs, refl, sym, ap, ◌∙◌, append-nil, append_assoc}
use Rattle.std.specs.Prelude.{filter_map, option_to_list}
use Rattle.std.specs.List.{cons_option}
use Rattle.std.proofs.lemmas.List.Elements.{filter_map-append}
use Rattle.lethe_base.specs.declared.pending.Pending.{Pending}
use Rattle.lethe_base.proofs.Newest.{first_is}
use Rattle.lethe_cover.proofs.Lists.{pairs_from, pairs_parts}
use Rattle.lethe_segment.specs.declared.record.Record.{Record}
use Rattle.lethe_segment.specs.declared.record.Record.TheVariants as of
use Rattle.lethe_stored.specs.Stored.{Stored, records_in, records_of, erase_of, in_order, pending_of, appended}
use Rattle.lethe_stored.proofs.InOrder.{each_place, in_order_push}

-- the manifest's erases and those of the records, as they come
abbrev erases_of : Stored → List Pending
erases_of s = s.manifest.erases ++ filter_map erase_of (records_of s)

one_erase : (o : Option Pending) → cons_option o [] ≡ option_to_list o
one_erase None = refl
one_erase (Some erase) = refl

erases_appended : (s : Stored) (r : Record) → erases_of (appended s r) ≡ erases_of s ++ option_to_list (erase_of r)
erases_appended s r =
    ap (λ l. s.manifest.erases ++ l)
    (ap (filter_map erase_of) (sym (append_assoc (records_in s.frozen) s.active.records (r ∷ [])))
    ∙ filter_map-append erase_of (records_of s) (r ∷ [])
    ∙ ap (λ l. filter_map erase_of (records_of s) ++ l) (one_erase (erase_of r)))
    ∙ sym (append_assoc s.manifest.erases (filter_map erase_of (records_of s)) (option_to_list (erase_of r)))

-- a record that is no erase leaves them as they are
pub same_pending : (s : Stored) (r : Record) → erase_of r ≡ None → pending_of (appended s r) ≡ pending_of s
same_pending s r none = ap in_order (erases_appended s r ∙ ap (λ o. erases_of s ++ option_to_list o) none ∙ append-nil (erases_of s))

-- an erase whose place is above theirs comes behind them
pub pending_appended : (s : Stored) (r : Record) → AllPairs (λ a b. a.seq < b.seq) (pending_of s ++ option_to_list (erase_of r)) → pending_of (appended s r) ≡ pending_of s ++ option_to_list (erase_of r)
pending_appended s (of.Entry entry) rise = same_pending s (of.Entry entry) refl ∙ sym (append-nil (pending_of s))
pending_appended s (of.Blind place) rise = same_pending s (of.Blind place) refl ∙ sym (append-nil (pending_of s))
pending_appended s (of.Erase erase) rise =
    let parts = pairs_parts (λ (a b : Pending). a.seq < b.seq) (pending_of s) (erase ∷ []) (pairs_from (λ (a b : Pending). a.seq < b.seq) (pending_of s ++ erase ∷ []) rise) in
    ap in_order (erases_appended s (of.Erase erase))
    ∙ in_order_push (erases_of s) erase (each_place (λ place. place < erase.seq) (erases_of s) (λ other there. parts.2 other erase there (first_is erase [] erase refl)))
