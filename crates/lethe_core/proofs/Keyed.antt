-- Entries of one place have one key, and the entries of tiles have different ones.
use Rattle.std.proofs.Common.{◌≡◌, ◌≢◌, inl, inr, ℕ, zero, suc, ◌<◌, Bool, true, false, cond, eqb, List, [], ◌∷◌, Contains, Option, Some, None, refl, sym, ap, ◌∙◌, subst, arith}
use Rattle.std.specs.Prelude.{flat_map, option_and_then}
use Rattle.std.proofs.lemmas.Bool.{cases_eq, eq-eqb}
use Rattle.std.proofs.lemmas.List.Elements.{All-contains}
use Rattle.lethe_base.specs.Causes.{done_at}
use Rattle.lethe_base.specs.History.{History}
use Rattle.lethe_base.specs.Keys.{Bytes}
use Rattle.lethe_base.specs.Layout.{Tile}
use Rattle.lethe_base.specs.Placed.{IsPlaced}
use Rattle.lethe_base.specs.declared.call.Call.{Call}
use Rattle.lethe_base.specs.declared.call.Call.TheVariants.{Put, Delete, Erase, Tick, Work}
use Rattle.lethe_base.specs.declared.entry.Body.{Body}
use Rattle.lethe_base.specs.declared.entry.Body.TheVariants as body
use Rattle.lethe_base.specs.declared.entry.Entry.{Entry}
use Rattle.lethe_cover.proofs.Common.{⊎_elim, first_is}
use Rattle.lethe_cover.proofs.Lists.{Pairs, flat_from, in_rest, pairs_append, pairs_from}
use Rattle.lethe_follows.specs.Merged.{at}
use Rattle.lethe_moves.specs.Files.{IsBounded, IsLower}
use Rattle.lethe_moves.specs.Files as tiles
use Rattle.lethe_moves.proofs.Common.{key_upto}
use Rattle.lethe_moves.proofs.KeyOrder.{IsUpto, not_less}
use Rattle.lethe_stored.specs.Files.{StoredFile}
use Rattle.lethe_stored.proofs.Leveled.{in_level}

-- What was done at a place has one key

abbrev key_in : Call → Option Bytes
key_in (Put key dkey value) = Some key
key_in (Delete key) = Some key
key_in (Erase range) = None
key_in (Tick to) = None
key_in Work = None

keyed : (h : History) (seq : ℕ) (key : Bytes) (b : Body) → IsPlaced h seq key b → option_and_then key_in (done_at h seq) ≡ Some key
keyed h seq key (body.Put dkey value) is = ap (option_and_then key_in) is
keyed h seq key body.Tomb (inl deleted) = ap (option_and_then key_in) deleted
keyed h seq key body.Tomb (inr put) = ap (option_and_then key_in) put.put

pub one_key : (h : History) (a b : Entry) → IsPlaced h a.seq a.key a.body → IsPlaced h b.seq b.key b.body → a.seq ≡ b.seq → a.key ≡ b.key
one_key h a b left right same =
    let one : Some a.key ≡ Some b.key = sym (keyed h a.seq a.key a.body left) ∙ ap (λ seq. option_and_then key_in (done_at h seq)) same ∙ keyed h b.seq b.key b.body right in cc

pub some_place : (h : History) (seq : ℕ) (key : Bytes) (b : Body) → IsPlaced h seq key b → 0 < seq
some_place h zero key b is = absurd (let none : None ≡ Some key = keyed h zero key b is in cc)
some_place h (suc before) key b is = omega arith

-- Pairs

pub pairs_weaker : {X : Type 0} (R Q : X → X → Type 0) (xs : List X) → ((a b : X) → Contains xs a → Contains xs b → R a b → Q a b) → Pairs R xs → Pairs Q xs
pairs_weaker R Q [] goes pairs = tt
pairs_weaker R Q (x ∷ xs) goes pairs = (
  (λ y there. goes x y (first_is x xs x refl) (in_rest x xs y there) (pairs.0 y there)),
  pairs_weaker R Q xs (λ a b left right. goes a b (in_rest x xs a left) (in_rest x xs b right)) pairs.1,
)

-- files of which each two are related, of one level and of two
pub by_level : (R : StoredFile → StoredFile → Type 0) (files : List StoredFile) → ((level : ℕ) → Pairs R (at level files)) → ((a b : StoredFile) → Contains files a → Contains files b → a.level ≢ b.level → R a b) → Pairs R files
by_level R [] same across = tt
by_level R (file ∷ files) same across = (
  (λ other there. ⊎_elim
      (λ one. (here file.level refl (same file.level)) other (in_level files file.level other there (sym one)))
      (λ two. across file other (first_is file files file refl) (in_rest file files other there) two)
      (cases_eq file.level other.level)),
  by_level R files (λ level. rest level (eqb file.level level) (same level)) (λ a b left right. across a b (in_rest file files a left) (in_rest file files b right)),
)
  where
    here : (level : ℕ) → file.level ≡ level → Pairs R (at level (file ∷ files)) → (other : StoredFile) → Contains (at level files) other → R file other
    here level is pairs = (subst (λ b. Pairs R (cond b (file ∷ at level files) (at level files))) (eq-eqb file.level level is) pairs).0

    rest : (level : ℕ) (b : Bool) → Pairs R (cond b (file ∷ at level files) (at level files)) → Pairs R (at level files)
    rest level true pairs = pairs.1
    rest level false pairs = pairs

abbrev pub HasOtherKey : Entry → Entry → Type 0
HasOtherKey entry other = entry.key ≢ other.key

abbrev pub HasOtherPlace : Entry → Entry → Type 0
HasOtherPlace entry other = entry.seq ≢ other.seq

-- no key stands twice in tiles that ascend
pub tiles_once : (files : List Tile) → ((tile : Tile) → Contains files tile → IsBounded tile) → Pairs IsLower files → Pairs HasOtherKey (flat_map tiles.entries_in files)
tiles_once [] bounded lower = tt
tiles_once (tile ∷ rest) bounded lower =
    let own = bounded tile (first_is tile rest tile refl) in
    let behind = λ (other : Tile) (there : Contains rest other). bounded other (in_rest tile rest other there) in
    pairs_append HasOtherKey (tiles.entries_in tile) (flat_map tiles.entries_in rest) (pairs_from HasOtherKey (tiles.entries_in tile) own.once) (tiles_once rest behind lower.1)
    (λ entry other left right same.
    let found = flat_from tiles.entries_in rest other right in
    let high = (All-contains (λ entry. tiles.IsWithin tile.lo tile.hi entry.key) (tiles.entries_in tile) entry own.within left).1 in
    let low = (All-contains (λ entry. tiles.IsWithin found.0.lo found.0.hi entry.key) (tiles.entries_in found.0) other (behind found.0 found.1).within found.2).0 in
    not_less tile.hi found.0.lo (lower.0 found.0 found.1) (key_upto found.0.lo other.key tile.hi low (subst (λ key. IsUpto key tile.hi) same high)))
