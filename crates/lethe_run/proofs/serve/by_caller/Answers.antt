use Rattle.std.proofs.Common.{rules, ◌≡◌, ◌+◌, ◌++◌, ◌∷◌, suc, [], get_or, length, map, true, cond, sym, ap, ◌∙◌, subst, arith}
use Rattle.std.specs.Prelude.{All, is_ok, replicate, slice_set, vec_len}
use Rattle.std.proofs.Math.ListN.{get_or-map}
use Rattle.std.proofs.lemmas.List.{length-map, map-append, map-id, map-set, replicate_more}
use Rattle.std.proofs.lemmas.List.Elements.{All-append, All-cons, All-nil}
use Rattle.std.proofs.lemmas.Iterator.Consumers.{YieldsList-end}
use Rattle.std.proofs.lemmas.Iterator.Adapters.{YieldsList-from_vec}
use Rattle.lethe_script.specs.declared.order.Order.{Order}
use Rattle.lethe_script.specs.Slots.{orders_by}
use Rattle.lethe_run.specs.Callers.{IsCaller, each_own}
use Rattle.lethe_run.proofs.Callers.{own_get, own_set}
use Rattle.lethe_run.proofs.serve.by_caller.Goals as goal

pub callers-init : goal.callers-init
callers-init c =
    let none = c.in_ok-own.ensures.items in
    let size = c.in_ok-own.ensures.len in
    let room = c.in_ok-own.ensures.capacity in
    record {
      none = ap (map (λ list. list.items)) none ∙ ap (λ n. replicate n []) (sym size);
      few = omega (arith, size);
      room = room;
    }

pub unwrap-requires : goal.unwrap-requires
unwrap-requires c =
    let room = c.callers.invariant.room in
    let size = c.len.ensures in
    let more = c.callers-test.true in
    c.push.ensures.succeeds (omega (arith, room, size, more))

pub callers-preserved : goal.callers-preserved
callers-preserved c =
    let ok : is_ok c.push.result ≡ true = ap is_ok c.unwrap.ensures in
    let own = c.callers.own in
    let left = c.push.new.self in
    let pushed : left.items ≡ own.items ++ c.new.result ∷ [] = c.push.ensures.items ∙ ap (λ b. cond b (own.items ++ c.new.result ∷ []) own.items) ok in
    let longer : vec_len left ≡ vec_len own + 1 = c.push.ensures.len ∙ ap (λ b. cond b (vec_len own + 1) (vec_len own)) ok in
    let more = c.callers-test.true in
    let size = c.len.ensures in
    record {
      none = ap (map (λ list. list.items)) pushed ∙ map-append (λ list. list.items) own.items (c.new.result ∷ []) ∙ ap (λ l. l ++ c.new.result.items ∷ []) c.callers.invariant.none
          ∙ ap (λ l. replicate (vec_len own) [] ++ l ∷ []) c.new.ensures.items ∙ replicate_more (vec_len own) [] ∙ ap (λ n. replicate n []) (sym longer);
      few = omega (arith, longer, more, size);
      room = let room = c.callers.invariant.room in let grown = c.push.ensures.capacity in omega (arith, room, grown);
    }

pub loop-order-init : goal.loop-order-init
loop-order-init c =
    let few = c.callers.invariant.few in
    let full = c.callers-test.false in
    let size = c.len.ensures in
    let all : vec_len c.callers.own ≡ 8 = omega (arith, few, full, size) in
    record { own = c.callers.invariant.none ∙ ap (λ n. replicate n []) all; callers = All-nil (λ (order : Order). IsCaller order.caller) }

pub index_mut-requires : goal.index_mut-requires
index_mut-requires c =
    let eight = sym (length-map c.loop-order.own.items (λ list. list.items)) ∙ ap length c.loop-order.invariant.own in
    let size = c.loop-order.own.ok.0 in
    let within = c.index.ensures.within in
    omega (arith, eight, size, within)

pub loop-order-preserved : goal.loop-order-preserved
loop-order-preserved c =
    let own = c.loop-order.own.items in
    let yielded = c.loop-order.yielded in
    let order = c.in-Some.order in
    let index = c.index.result in
    let list = c.push-in-loop-order.new.self in
    let caller = c.index.ensures.index in
    let within = c.index.ensures.within in
    let at : order.caller ≡ suc (0 + index) = omega (arith, caller) in
    let lists = c.loop-order.invariant.own in
    let was : c.index_mut.result.now.items ≡ orders_by (suc (0 + index)) yielded =
    ap (λ list. list.items) c.index_mut.ensures.value ∙ sym (get_or-map (λ list. list.items) own index c.index_mut.result.now) ∙ ap (λ lists. get_or lists index c.index_mut.result.now.items) lists
    ∙ own_get 0 8 index yielded c.index_mut.result.now.items within in
    let ok : is_ok c.push-in-loop-order.result ≡ true = ap is_ok c.in_ok-push.was in
    let pushed : list.items ≡ orders_by (suc (0 + index)) yielded ++ order ∷ [] =
    c.push-in-loop-order.ensures.items ∙ ap (λ b. cond b (c.index_mut.result.now.items ++ order ∷ []) c.index_mut.result.now.items) ok ∙ ap (λ l. l ++ order ∷ []) was in
    record {
      own = map-set (λ list. list.items) own index list ∙ ap (λ l. slice_set l index list.items) lists ∙ ap (slice_set (each_own yielded) index) pushed ∙ own_set 0 8 index yielded order within at;
      callers = All-append (λ (order : Order). IsCaller order.caller) yielded (order ∷ []) c.loop-order.invariant.callers
          (All-cons (λ (order : Order). IsCaller order.caller) order [] (record { from = omega (arith, caller); upto = omega (arith, caller, within) }) (All-nil (λ (order : Order). IsCaller order.caller)));
    }

pub returns-clause-own : goal.returns-clause-own
returns-clause-own c =
    let gives = c.into_iter-order-iterator.ensures.into_iter_gives in
    let ended = YieldsList-end (YieldsList-from_vec c.args.orders.items gives.0 (gives.1 ∙ search rules)) c.loop-order.yielded c.loop-order.order-iterator c.loop-order.yielded_by c.next.result c.next.new.self c.in-None.is c.next.ensures.steps in
    let all : c.args.orders.items ≡ c.loop-order.yielded = sym ended.0 ∙ map-id c.loop-order.yielded in
    c.loop-order.invariant.own ∙ ap each_own (sym all)

pub returns-clause-callers : goal.returns-clause-callers
returns-clause-callers c =
    let gives = c.into_iter-order-iterator.ensures.into_iter_gives in
    let ended = YieldsList-end (YieldsList-from_vec c.args.orders.items gives.0 (gives.1 ∙ search rules)) c.loop-order.yielded c.loop-order.order-iterator c.loop-order.yielded_by c.next.result c.next.new.self c.in-None.is c.next.ensures.steps in
    let all : c.args.orders.items ≡ c.loop-order.yielded = sym ended.0 ∙ map-id c.loop-order.yielded in
    subst (All (λ (order : Order). IsCaller order.caller)) (sym all) c.loop-order.invariant.callers
