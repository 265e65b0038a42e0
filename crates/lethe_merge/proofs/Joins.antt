-- What is left of a key in lists put end to end is what is left of what is left in each.
use Rattle.std.proofs.Common.{◌≡◌, ℕ, Bool, true, false, cond, List, [], ◌∷◌, ◌++◌, nat_lt, Option, Some, None, refl, sym, ap, ◌∙◌, arith}
use Rattle.std.proofs.lemmas.Bool.Decides.{nat_tests}
use Rattle.lethe_base.specs.Keys.{Bytes, same_key}
use Rattle.lethe_base.specs.Shapes.{earlier}
use Rattle.lethe_base.specs.declared.entry.Entry.{Entry}
use Rattle.lethe_cover.specs.Merged.{newer_of, left_of}
use Rattle.lethe_merge.proofs.Times.{earlier-assoc}

lt_trans : (a b c : ℕ) → nat_lt a b ≡ true → nat_lt b c ≡ true → nat_lt a c ≡ true
lt_trans a b c p q = grind (arith, nat_tests)

ge_trans : (a b c : ℕ) → nat_lt a b ≡ false → nat_lt b c ≡ false → nat_lt a c ≡ false
ge_trans a b c p q = grind (arith, nat_tests)

-- of three entries it doesn't matter which two are joined first
newer_of-assoc : (e f g : Entry) → newer_of (newer_of e (Some f)) (Some g) ≡ newer_of e (Some (newer_of f (Some g)))
newer_of-assoc e f g = by (nat_lt e.seq f.seq) (nat_lt f.seq g.seq) (nat_lt e.seq g.seq) refl refl refl
  where
    least : earlier (earlier e.since f.since) g.since ≡ earlier e.since (earlier f.since g.since)
    least = earlier-assoc e.since f.since g.since

    by : (t u v : Bool) → nat_lt e.seq f.seq ≡ t → nat_lt f.seq g.seq ≡ u → nat_lt e.seq g.seq ≡ v
        → newer_of (cond t (record f { since = earlier e.since f.since }) (record e { since = earlier e.since f.since })) (Some g)
        ≡ newer_of e (Some (cond u (record g { since = earlier f.since g.since }) (record f { since = earlier f.since g.since })))
    by true true v p q r = rw (q, lt_trans e.seq f.seq g.seq p q) (ap (λ since. let joined : Entry = record g { since = since } in joined) least)
    by true false v p q r = rw (q, p) (ap (λ since. let joined : Entry = record f { since = since } in joined) least)
    by false true true p q r = rw r (ap (λ since. let joined : Entry = record g { since = since } in joined) least)
    by false true false p q r = rw r (ap (λ since. let joined : Entry = record e { since = since } in joined) least)
    by false false v p q r = rw (ge_trans e.seq f.seq g.seq p q, p) (ap (λ since. let joined : Entry = record e { since = since } in joined) least)

-- what is left of two lists
abbrev pub joined : Option Entry → Option Entry → Option Entry
joined None rest = rest
joined (Some entry) rest = Some (newer_of entry rest)

newer_of-joined : (e : Entry) (l r : Option Entry) → newer_of e (joined l r) ≡ newer_of (newer_of e l) r
newer_of-joined e None r = refl
newer_of-joined e (Some f) None = refl
newer_of-joined e (Some f) (Some g) = sym (newer_of-assoc e f g)

pub left_of-append : (key : Bytes) (xs ys : List Entry) → left_of key (xs ++ ys) ≡ joined (left_of key xs) (left_of key ys)
left_of-append key [] ys = refl
left_of-append key (x ∷ xs) ys = by (same_key key x.key) (left_of-append key xs ys)
  where
    by : (t : Bool) → left_of key (xs ++ ys) ≡ joined (left_of key xs) (left_of key ys)
        → cond t (Some (newer_of x (left_of key (xs ++ ys)))) (left_of key (xs ++ ys)) ≡ joined (cond t (Some (newer_of x (left_of key xs))) (left_of key xs)) (left_of key ys)
    by true more = ap (λ (l : Option Entry). Some (newer_of x l)) more ∙ ap Some (newer_of-joined x (left_of key xs) (left_of key ys))
    by false more = more
