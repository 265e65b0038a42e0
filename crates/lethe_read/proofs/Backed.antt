-- What an answer stands in, on any disk.
use Rattle.std.proofs.Common.{◌≡◌, ◌⊎◌, ℕ, Bool, true, false, cond, List, Contains, Option, Some, None, inl, inr, refl, sym, ◌∙◌}
use Rattle.std.specs.Prelude.{IfSome}
use Rattle.std.specs.List.{list_any}
use Rattle.std.specs.Option.{option_or}
use Rattle.lethe_base.specs.Entries.{entry_of}
use Rattle.lethe_base.specs.Keys.{Bytes}
use Rattle.lethe_base.specs.Matching.{answer_under, matches, pair_under}
use Rattle.lethe_base.specs.declared.entry.Body.{Body}
use Rattle.lethe_base.specs.declared.entry.Body.TheVariants.{Put, Tomb}
use Rattle.lethe_base.specs.declared.entry.Entry.{Entry}
use Rattle.lethe_base.specs.declared.pending.Pending.{Pending}
use Rattle.lethe_cover.proofs.ByKey.{entry_in}
use Rattle.lethe_read.specs.Found.{IsBacked}

-- an entry that answers is a put
is_put : (erases : List Pending) (seq : ℕ) (body : Body) (held : ℕ × Bytes) → pair_under erases seq body ≡ Some held → body ≡ Put held.0 held.1
is_put erases seq (Put dkey value) held is = by (list_any (λ erase. matches erase seq dkey) erases) is
  where
    by : (t : Bool) → cond t None (Some (dkey, value)) ≡ Some held → Put dkey value ≡ Put held.0 held.1
    by true is = absurd cc
    by false is = let same : (dkey, value) ≡ held = cc in λ i. Put (same i).0 (same i).1
is_put erases seq Tomb held is = absurd cc

module _ (key : Bytes) (active frozen : List Entry) (IsFiled : Entry → Type 0) (erases : List Pending) where
  backed : (entry : Entry) (held : Option (ℕ × Bytes)) → held ≡ answer_under erases entry → entry.key ≡ key → (Contains active entry ⊎ Contains frozen entry) ⊎ IsFiled entry → IfSome held (IsBacked key active frozen IsFiled)
  backed entry None is of_key stands = tt
  backed entry (Some held) is of_key stands = record { entry = entry; of_key = of_key; is = is_put erases entry.seq entry.body held (sym is); stands = stands }

  pub backed_filed : (entry : Entry) (held : Option (ℕ × Bytes)) → held ≡ answer_under erases entry → (entry.key ≡ key) × IsFiled entry → IfSome held (IsBacked key active frozen IsFiled)
  backed_filed entry held is filed = backed entry held is filed.0 (inr filed.1)

  -- an entry that a buffer has
  buffered : (first : Option Entry) (entry : Entry) → entry_of key active ≡ first → Some entry ≡ option_or first (entry_of key frozen) → (entry.key ≡ key) × (Contains active entry ⊎ Contains frozen entry)
  buffered None entry none is = let there = entry_in key frozen entry (sym is) in (there.1, inr there.0)
  buffered (Some other) entry some is = let there = entry_in key active entry (some ∙ sym is) in (there.1, inl there.0)

  pub backed_buffered : (entry : Entry) (held : Option (ℕ × Bytes)) → held ≡ answer_under erases entry → Some entry ≡ option_or (entry_of key active) (entry_of key frozen) → IfSome held (IsBacked key active frozen IsFiled)
  backed_buffered entry held is found = let there = buffered (entry_of key active) entry refl found in backed entry held is there.0 (inl there.1)
