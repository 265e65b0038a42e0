use Rattle.std.proofs.Common.{◌≡◌, ◌++◌, ◌∷◌, [], List, length, take, drop, map, ap, sym, subst, ◌∙◌, arith}
use Rattle.std.proofs.lemmas.List.{map-append}
use Rattle.std.specs.declared.alloc.Global.{Global}
use Rattle.std.specs.declared.sync.Arc.{Arc}
use Rattle.lethe_file.specs.Waiting.{Waiting, waiting, waits_for, waits_in}
use Rattle.lethe_file.proofs.Held.{IsHolding, enough, holding_all, holding_met, holding_missed, holding_none}
use Rattle.lethe_file.proofs.holding.hold_tiles.Goals as goal
use Rattle.lethe_file.proofs.holding.hold_tiles.Goals.{then-meets+in_ok-hold_pages+in_ok-push, else-meets}

pub loop-tile-init : goal.loop-tile-init
loop-tile-init g c =
    subst (λ held. IsHolding (λ page. g.D.Disk.page_bytes page.value) c.args.range.now.lo c.args.range.now.hi c.args.tiles.now c.args.pages.now 0 c.args.pages.now (waiting g.D.Disk.page_bytes held)) (sym c.new-held.ensures.items)
    (holding_none (λ page. g.D.Disk.page_bytes page.value) c.args.range.now.lo c.args.range.now.hi c.args.tiles.now c.args.pages.now c.requires)

pub split_at-requires : goal.split_at-requires
split_at-requires g c =
    let fits = enough (λ page. g.D.Disk.page_bytes page.value) c.args.range.now.lo c.args.range.now.hi c.args.tiles.now c.args.pages.now c.loop-tile.tile-index c.loop-tile.rest.now (waiting g.D.Disk.page_bytes c.loop-tile.held.items)
    c.tile-item.result c.loop-tile.invariant c.loop-tile-test.true c.tile-item.is in
    omega (arith, fits, ap length c.items-lines.ensures)

pub loop-tile-preserved : goal.loop-tile-preserved
loop-tile-preserved g c =
    let bytes_of = λ (page : Arc g.row.D-Page.Denot Global). g.D.Disk.page_bytes page.value in
    let lo = c.args.range.now.lo in
    let hi = c.args.range.now.hi in
    let tiles = c.args.tiles.now in
    let pages = c.args.pages.now in
    let place = c.loop-tile.tile-index in
    let rest = c.loop-tile.rest.now in
    let held = waiting g.D.Disk.page_bytes c.loop-tile.held.items in
    let tile = c.tile-item.result in
    let count : length c.items-lines.result.now ≡ length tile.pages = ap length c.items-lines.ensures in
    let own : c.split_at.result.0.now ≡ take (length tile.pages) rest = c.split_at.ensures.front ∙ ap (λ n. take n rest) count in
    let behind : c.split_at.result.1.now ≡ drop (length tile.pages) rest = c.split_at.ensures.back ∙ ap (λ n. drop n rest) count in
    elim c.if-meets.branch [
      | then-meets+in_ok-hold_pages+in_ok-push w ↦
          let pushed = ap (waiting g.D.Disk.page_bytes) (ap (λ v. v.items) w.held-is ∙ w.in_ok-push.ensures.items) ∙ map-append (waits_in g.D.Disk.page_bytes) c.loop-tile.held.items (w.in_ok-hold_pages.field-0 ∷ []) in
          let waits = w.in_ok-hold_pages.ensures ∙ ap (λ lines. waits_for lines (map bytes_of c.split_at.result.0.now)) c.items-lines.ensures in
          holding_met bytes_of lo hi tiles pages place rest held tile c.loop-tile.invariant c.loop-tile-test.true c.tile-item.is (sym c.meets.ensures ∙ w.if-meets.true) c.split_at.result.0.now c.if-meets.rest.now own
          (ap (λ r. r.now) w.rest-is ∙ behind) (waiting g.D.Disk.page_bytes c.if-meets.held.items) (pushed ∙ ap (λ (ws : List Waiting). held ++ ws ∷ []) waits)
      | else-meets w ↦
          holding_missed bytes_of lo hi tiles pages place rest held tile c.loop-tile.invariant c.loop-tile-test.true c.tile-item.is (sym c.meets.ensures ∙ w.if-meets.false) c.if-meets.rest.now
          (ap (λ r. r.now) w.rest-is ∙ behind) (waiting g.D.Disk.page_bytes c.if-meets.held.items) (ap (λ v. waiting g.D.Disk.page_bytes v.items) w.held-is)
    ]

pub returns : goal.returns
returns g c =
    holding_all (λ page. g.D.Disk.page_bytes page.value) g.D.Disk.page_bytes c.args.range.now.lo c.args.range.now.hi c.args.tiles.now c.args.pages.now c.loop-tile.tile-index c.loop-tile.rest.now c.loop-tile.held.items c.reverse.new.self.items
    c.loop-tile.invariant c.loop-tile-test.false c.reverse.ensures.items
