use Rattle.std.proofs.Common.{◌≡◌, All, List, map, ap, sym, subst, arith, rules}
use Rattle.std.specs.List.{AllZip}
use Rattle.lethe_base.specs.Configuration.{IsConfig}
use Rattle.lethe_base.specs.Layout as layout
use Rattle.lethe_base.specs.declared.config.Fields.{Fields}
use Rattle.lethe_tile.specs.Woven.{plain, IsCut}
use Rattle.lethe_tile.proofs.Pages.{going_more, going_next, going_none}
use Rattle.lethe_build.specs.Drafts.{IsDraftOf}
use Rattle.lethe_build.specs.Parts.{IsGroup}
use Rattle.lethe_build.proofs.Groups.{are_groups, numbers_fit}
use Rattle.lethe_build.proofs.Loops.{all_drafted, are_drafts, drafts_numbers}
use Rattle.lethe_build.proofs.building.drafts_of.Goals as goal

pub loop-group-init : goal.loop-group-init
loop-group-init c = rw c.in_ok-drafts.ensures.items (going_none IsDraftOf _)

pub draft_of-requires : goal.draft_of-requires
draft_of-requires c =
    let going = rw (c.in-Some.ensures.steps.0) at c.loop-group.invariant in
    let groups = map (λ group. map plain group.items) c.in_ok-groups.groups.items in
    let all : c.into_iter-group-iterator.result.rest.items ≡ c.in_ok-groups.groups.items = search rules in
    let whole : map (λ group. map plain group.items) c.into_iter-group-iterator.result.rest.items ≡ groups = ap (map (λ group. map plain group.items)) all in
    let fields = c.args.config.now in
    let config : IsConfig fields = c.fields.ensures.limits in
    let lengths : IsCut fields.file groups = subst (λ (f : Fields). IsCut f.file groups) c.fields.ensures.fields c.in_ok-groups.ensures.lengths in
    let each = are_groups fields c.args.entries.items _ groups config c.requires.ascending c.requires.spelled c.in_ok-tiles.ensures c.in_ok-groups.ensures.joined lengths in
    going_next IsDraftOf IsGroup _ _ _ (map plain c.in-Some.group.items) going (subst (All IsGroup) (sym whole) each)

pub loop-group-preserved : goal.loop-group-preserved
loop-group-preserved c =
    let going = rw (c.in-Some.ensures.steps.0) at c.loop-group.invariant in
    rw (c.in_ok-push.ensures.items) (going_more IsDraftOf _ _ _ (map plain c.in-Some.group.items) c.in_ok-draft_of.field-0 going c.in_ok-draft_of.ensures)

pub returns-clause-drafts : goal.returns-clause-drafts
returns-clause-drafts c =
    let groups = map (λ group. map plain group.items) c.in_ok-groups.groups.items in
    let all : c.into_iter-group-iterator.result.rest.items ≡ c.in_ok-groups.groups.items = search rules in
    let whole : map (λ group. map plain group.items) c.into_iter-group-iterator.result.rest.items ≡ groups = ap (map (λ group. map plain group.items)) all in
    record {
      tiles = map plain c.in_ok-tiles.tiles.items;
      woven = c.in_ok-tiles.ensures;
      groups = groups;
      consecutive = c.in_ok-groups.ensures.joined;
      lengths = subst (λ (f : Fields). IsCut f.file groups) c.fields.ensures.fields c.in_ok-groups.ensures.lengths;
      each =
          subst (λ (of : List (List layout.Tile)). AllZip IsDraftOf of c.loop-group.drafts.items) whole
          (all_drafted (λ group. map plain group.items) _ c.loop-group.group-iterator.rest.items c.loop-group.drafts.items (omega (arith, c.in-None.ensures.steps.0)) c.loop-group.invariant);
    }

pub returns-clause-each : goal.returns-clause-each
returns-clause-each c =
    are_drafts _ c.loop-group.drafts.items
    (all_drafted (λ group. map plain group.items) _ c.loop-group.group-iterator.rest.items c.loop-group.drafts.items (omega (arith, c.in-None.ensures.steps.0)) c.loop-group.invariant)

pub returns-clause-few : goal.returns-clause-few
returns-clause-few c =
    let groups = map (λ group. map plain group.items) c.in_ok-groups.groups.items in
    let all : c.into_iter-group-iterator.result.rest.items ≡ c.in_ok-groups.groups.items = search rules in
    let whole : map (λ group. map plain group.items) c.into_iter-group-iterator.result.rest.items ≡ groups = ap (map (λ group. map plain group.items)) all in
    let fields = c.args.config.now in
    let config : IsConfig fields = c.fields.ensures.limits in
    let lengths : IsCut fields.file groups = subst (λ (f : Fields). IsCut f.file groups) c.fields.ensures.fields c.in_ok-groups.ensures.lengths in
    let zip : AllZip IsDraftOf groups c.loop-group.drafts.items =
    subst (λ (of : List (List layout.Tile)). AllZip IsDraftOf of c.loop-group.drafts.items) whole
    (all_drafted (λ group. map plain group.items) _ c.loop-group.group-iterator.rest.items c.loop-group.drafts.items (omega (arith, c.in-None.ensures.steps.0)) c.loop-group.invariant) in
    let same = drafts_numbers groups c.loop-group.drafts.items zip in
    let fit = numbers_fit fields c.args.entries.items _ groups config c.requires.ascending c.requires.spelled c.in_ok-tiles.ensures c.in_ok-groups.ensures.joined lengths in
    omega (arith, same, fit)
