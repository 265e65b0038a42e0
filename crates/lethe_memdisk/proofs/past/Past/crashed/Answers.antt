use Rattle.std.proofs.Common.{◌≡◌, ◌+◌, ◌≤◌, length, ap, sym, ◌∙◌, subst, arith, rules}
use Rattle.std.specs.Prelude.{reverse}
use Rattle.std.specs.List.{fold}
use Rattle.lethe_memdisk.specs.Undo.{start_of, Follows, tear}
use Rattle.lethe_memdisk.specs.Past.{kept_of, left_of}
use Rattle.lethe_memdisk.proofs.Keeping.{len_is}
use Rattle.lethe_memdisk.proofs.Crashing.{in_parts, follows_later, follows_unsynced, crash_leaves}
use Rattle.lethe_memdisk.proofs.past.Past.crashed.Goals as goal

pub split_at-requires : goal.split_at-requires
split_at-requires c =
    let long = len_is c.self.inside.objects c.self.inside.calls.items c.self.inside.room c.args.self.now c.self.view_is in
    let all : c.deref.result.now ≡ c.self.inside.calls.items = search rules in
    subst (λ l. c.args.calls ≤ length l) (sym all) (omega (arith, long, c.requires))

pub undo_all-requires : goal.undo_all-requires
undo_all-requires c =
    let all : c.deref.result.now ≡ c.self.inside.calls.items = search rules in
    let parts = in_parts c.deref.result.now c.split_at.result.0.now c.split_at.result.1.now c.split_at-2.result.0.now c.split_at-2.result.1.now c.args.calls c.last_sync.result
    c.split_at.ensures.front c.split_at.ensures.back c.split_at-2.ensures.front c.split_at-2.ensures.back c.last_sync.ensures.synced c.last_sync.ensures.unsynced in
    let follows = subst (λ l. Follows c.self.inside.objects (reverse l)) (sym all) c.self.invariant.follows in
    subst (λ d. Follows d (reverse c.split_at.result.1.now)) (sym c.in_ok-objects.ensures) (follows_later c.self.inside.objects c.deref.result.now _ _ _ parts follows)

pub undo_all-requires-2 : goal.undo_all-requires-2
undo_all-requires-2 c =
    let all : c.deref.result.now ≡ c.self.inside.calls.items = search rules in
    let parts = in_parts c.deref.result.now c.split_at.result.0.now c.split_at.result.1.now c.split_at-2.result.0.now c.split_at-2.result.1.now c.args.calls c.last_sync.result
    c.split_at.ensures.front c.split_at.ensures.back c.split_at-2.ensures.front c.split_at-2.ensures.back c.last_sync.ensures.synced c.last_sync.ensures.unsynced in
    let follows = subst (λ l. Follows c.self.inside.objects (reverse l)) (sym all) c.self.invariant.follows in
    let then : c.undo_all.new.objects ≡ start_of c.self.inside.objects (reverse c.split_at.result.1.now) = c.in_ok-undo_all.ensures ∙ ap (λ d. start_of d (reverse c.split_at.result.1.now)) c.in_ok-objects.ensures in
    subst (λ d. Follows d (reverse c.split_at-2.result.1.now)) (sym then) (follows_unsynced c.self.inside.objects c.deref.result.now _ _ _ parts follows).0

pub returns : goal.returns
returns c =
    let all : c.deref.result.now ≡ c.self.inside.calls.items = search rules in
    let parts = in_parts c.deref.result.now c.split_at.result.0.now c.split_at.result.1.now c.split_at-2.result.0.now c.split_at-2.result.1.now c.args.calls c.last_sync.result
    c.split_at.ensures.front c.split_at.ensures.back c.split_at-2.ensures.front c.split_at-2.ensures.back c.last_sync.ensures.synced c.last_sync.ensures.unsynced in
    let follows = subst (λ l. Follows c.self.inside.objects (reverse l)) (sym all) c.self.invariant.follows in
    let unsynced = c.split_at-2.result.1.now in
    let later = c.split_at.result.1.now in
    let then : c.undo_all.new.objects ≡ start_of c.self.inside.objects (reverse later) = c.in_ok-undo_all.ensures ∙ ap (λ d. start_of d (reverse later)) c.in_ok-objects.ensures in
    let base : c.undo_all-2.new.objects ≡ start_of (start_of c.self.inside.objects (reverse later)) (reverse unsynced) = c.in_ok-undo_all-2.ensures ∙ ap (λ d. start_of d (reverse unsynced)) then in
    let long : c.args.calls + length later ≡ length c.deref.result.now = omega (arith, c.split_at.ensures.back_len) in
    c.in_ok-tear_all.ensures
    ∙ ap (λ d. fold (tear c.args.fill c.args.keep) d unsynced) base
    ∙ crash_leaves c.args.fill c.args.keep c.self.inside.objects c.deref.result.now _ unsynced later c.args.calls c.self.inside.room parts follows long
    ∙ ap (λ l. left_of c.args.calls c.args.fill c.args.keep (kept_of c.self.inside.objects l c.self.inside.room)) all
    ∙ ap (left_of c.args.calls c.args.fill c.args.keep) c.self.view_is
