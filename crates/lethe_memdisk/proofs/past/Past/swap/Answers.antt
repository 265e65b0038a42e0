use Rattle.std.proofs.Common.{◌≡◌, ℕ, List, [], true, false, Some, None, ap, sym, ◌∙◌, rules}
use Rattle.std.specs.Prelude.{option_map, is_some, is_none, Option}
use Rattle.std.specs.FinMap.{insert}
use Rattle.lethe_disk.specs.Directory.{Directory, object}
use Rattle.lethe_memdisk.specs.declared.past.Call.{Call}
use Rattle.lethe_memdisk.specs.Past.{kept_of, now_of}
use Rattle.lethe_memdisk.proofs.Keeping.{now_is, room_is}
use Rattle.lethe_memdisk.proofs.Results.{not_err}
use Rattle.lethe_memdisk.proofs.past.Past.swap.Goals as goal

-- whether there is an object
some_there : (o : Option (List ℕ)) (p : Option (List ℕ)) → is_none o ≡ false → o ≡ p → is_some p ≡ true
some_there None p none same = absurd cc
some_there (Some x) None none same = absurd cc
some_there (Some x) (Some y) none same = search rules

none_there : (o : Option (List ℕ)) (p : Option (List ℕ)) → is_none o ≡ true → o ≡ p → is_some p ≡ true → ⊥
none_there None None none same here = cc
none_there None (Some y) none same here = cc
none_there (Some x) p none same here = cc

is_none_map : {A B : Type 0} (f : A → B) (o : Option A) → is_none (option_map f o) ≡ is_none o
is_none_map f None = search rules
is_none_map f (Some x) = search rules

begun : (now : Directory) (calls : List Call) (room : ℕ) → calls ≡ [] → kept_of now calls room ≡ record { start = now; effects = []; room = room }
begun now calls room none = ap (λ l. kept_of now l room) none

pub returns-then-is_none-clause-found : goal.returns-then-is_none-clause-found
returns-then-is_none-clause-found c =
    let now = now_is c.self.inside.objects c.self.inside.calls.items c.self.inside.room _ c.args.self.now c.self.invariant c.self.view_is in
    let none : is_none c.get.result ≡ true = search rules in
    let shown = c.get.ensures ∙ ap (λ d. object d c.args.name) now in
    (λ f. absurd cc, λ here. absurd (none_there _ _ (is_none_map _ c.get.result ∙ none) shown here))

pub returns-clause-found : goal.returns-clause-found
returns-clause-found c =
    let now = now_is c.self.inside.objects c.self.inside.calls.items c.self.inside.room _ c.args.self.now c.self.invariant c.self.view_is in
    let some : is_none c.get.result ≡ false = search rules in
    let shown = c.get.ensures ∙ ap (λ d. object d c.args.name) now in
    (λ t. some_there _ _ (is_none_map _ c.get.result ∙ some) shown, λ here. search rules)

pub returns-clause-done : goal.returns-clause-done
returns-clause-done c = λ t.
    let now = now_is c.self.inside.objects c.self.inside.calls.items c.self.inside.room _ c.args.self.now c.self.invariant c.self.view_is in
    let fine : c.is_err.result ≡ false = c.if-is_err.false in
    let wrote : c.insert.new.self ≡ insert c.self.inside.objects c.args.name c.args.bytes.items = not_err c.insert.result c.insert.ensures.ok (sym c.is_err.ensures.value ∙ fine) in
    let empty : c.clear.new.self.items ≡ [] = c.clear.ensures.items in
    let room = room_is c.self.inside.objects c.self.inside.calls.items c.self.inside.room c.args.self.now c.self.view_is in
    begun c.insert.new.self c.clear.new.self.items c.self.inside.room empty
    ∙ ap (λ (d : Directory). record { start = d; effects = []; room = c.self.inside.room }) (wrote ∙ ap (λ d. insert d c.args.name c.args.bytes.items) now)
    ∙ ap (λ (r : ℕ). record { start = insert (now_of c.args.self.now) c.args.name c.args.bytes.items; effects = []; room = r }) room
