use Rattle.std.proofs.Common.{◌≡◌, List, Option, length, map, reverse, ⊎_elim, ap, subst, arith, ◌∙◌}
use Rattle.std.specs.Prelude.{Contains}
use Rattle.std.specs.Option.{option_copied}
use Rattle.std.proofs.lemmas.List.{length-map}
use Rattle.std.specs.declared.alloc.Global.{Global}
use Rattle.std.specs.declared.sync.Arc.{Arc}
use Rattle.lethe_base.specs.Keys.{Bytes}
use Rattle.lethe_base.specs.declared.entry.Entry.{Entry}
use Rattle.lethe_header.specs.Facts.{lines_of}
use Rattle.lethe_header.specs.declared.header.TileLine.{TileLine}
use Rattle.lethe_file.specs.Agreement.{entries_in}
use Rattle.lethe_file.specs.Between.{AreBetween, numbers_between}
use Rattle.lethe_file.specs.Waiting.{left_of, tiles_between, waiting}
use Rattle.lethe_file.proofs.Filling.{made_between, made_damage, made_numbers, made_sound, made_vouched}
use Rattle.lethe_file.proofs.view.FileView.cursor.Goals as goal

pub returns-clause-left : goal.returns-clause-left
returns-clause-left g c = λ agree.
    let file = c.args.self.now in
    let bytes_of = λ (page : Arc g.row.D-Page.Denot Global). g.D.Disk.page_bytes page.value in
    let pages = map bytes_of file.pages.items in
    let lo = c.in_ok-range.range.lo in
    let hi = c.in_ok-range.range.hi in
    let waits = waiting g.D.Disk.page_bytes c.in_ok-tiles.tiles.items in
    let waits_are : reverse waits ≡ tiles_between lo hi file.header.tiles pages =
    c.in_ok-tiles.ensures ∙ ap (λ (tiles : List TileLine). tiles_between lo hi tiles (map bytes_of c.deref.result.now)) c.items.ensures ∙ ap (λ ps. tiles_between lo hi file.header.tiles (map bytes_of ps)) c.deref.ensures.value in
    let len : length pages ≡ length (lines_of file.header.tiles) = length-map file.pages.items bytes_of ∙ file.paged in
    let between = made_between lo hi file.header.tiles pages waits c.new.result.items c.new.ensures.items waits_are file.spelled.tiles len agree in
    subst (λ (k : Bytes). AreBetween k (option_copied c.args.hi) (map entries_in pages) (left_of lo hi waits c.new.result.items)) c.in_ok-range.ensures.0
    (subst (λ (k : Option Bytes). AreBetween lo k (map entries_in pages) (left_of lo hi waits c.new.result.items)) c.in_ok-range.ensures.1 between)

pub returns-clause-sound : goal.returns-clause-sound
returns-clause-sound g c = λ told agree.
    let file = c.args.self.now in
    let bytes_of = λ (page : Arc g.row.D-Page.Denot Global). g.D.Disk.page_bytes page.value in
    let pages = map bytes_of file.pages.items in
    let lo = c.in_ok-range.range.lo in
    let hi = c.in_ok-range.range.hi in
    let waits = waiting g.D.Disk.page_bytes c.in_ok-tiles.tiles.items in
    let waits_are : reverse waits ≡ tiles_between lo hi file.header.tiles pages =
    c.in_ok-tiles.ensures ∙ ap (λ (tiles : List TileLine). tiles_between lo hi tiles (map bytes_of c.deref.result.now)) c.items.ensures ∙ ap (λ ps. tiles_between lo hi file.header.tiles (map bytes_of ps)) c.deref.ensures.value in
    let len : length pages ≡ length (lines_of file.header.tiles) = length-map file.pages.items bytes_of ∙ file.paged in
    made_sound lo hi file.header.tiles pages waits c.new.result.items c.new.ensures.items waits_are g.D.Disk.tells told file.spelled.tiles len agree

pub returns-clause-pages : goal.returns-clause-pages
returns-clause-pages g c =
    let file = c.args.self.now in
    let bytes_of = λ (page : Arc g.row.D-Page.Denot Global). g.D.Disk.page_bytes page.value in
    let pages = map bytes_of file.pages.items in
    let lo = c.in_ok-range.range.lo in
    let hi = c.in_ok-range.range.hi in
    let waits = waiting g.D.Disk.page_bytes c.in_ok-tiles.tiles.items in
    let waits_are : reverse waits ≡ tiles_between lo hi file.header.tiles pages =
    c.in_ok-tiles.ensures ∙ ap (λ (tiles : List TileLine). tiles_between lo hi tiles (map bytes_of c.deref.result.now)) c.items.ensures ∙ ap (λ ps. tiles_between lo hi file.header.tiles (map bytes_of ps)) c.deref.ensures.value in
    let len : length pages ≡ length (lines_of file.header.tiles) = length-map file.pages.items bytes_of ∙ file.paged in
    made_numbers lo hi file.header.tiles pages waits c.new.result.items c.new.ensures.items waits_are len
    ∙ ap (λ (k : Bytes). numbers_between k hi file.header.tiles) c.in_ok-range.ensures.0
    ∙ ap (λ (k : Option Bytes). numbers_between c.args.lo.now k file.header.tiles) c.in_ok-range.ensures.1

pub returns-clause-damages : goal.returns-clause-damages
returns-clause-damages g c = λ name some.
    let file = c.args.self.now in
    let bytes_of = λ (page : Arc g.row.D-Page.Denot Global). g.D.Disk.page_bytes page.value in
    let pages = map bytes_of file.pages.items in
    let lo = c.in_ok-range.range.lo in
    let hi = c.in_ok-range.range.hi in
    let waits = waiting g.D.Disk.page_bytes c.in_ok-tiles.tiles.items in
    let waits_are : reverse waits ≡ tiles_between lo hi file.header.tiles pages =
    c.in_ok-tiles.ensures ∙ ap (λ (tiles : List TileLine). tiles_between lo hi tiles (map bytes_of c.deref.result.now)) c.items.ensures ∙ ap (λ ps. tiles_between lo hi file.header.tiles (map bytes_of ps)) c.deref.ensures.value in
    made_damage lo hi file.header.tiles pages waits c.new.result.items c.new.ensures.items waits_are g.D.Disk.tells name some

pub returns-clause-gives : goal.returns-clause-gives
returns-clause-gives g c = λ entry may.
    let file = c.args.self.now in
    let bytes_of = λ (page : Arc g.row.D-Page.Denot Global). g.D.Disk.page_bytes page.value in
    let pages = map bytes_of file.pages.items in
    let lo = c.in_ok-range.range.lo in
    let hi = c.in_ok-range.range.hi in
    let waits = waiting g.D.Disk.page_bytes c.in_ok-tiles.tiles.items in
    let waits_are : reverse waits ≡ tiles_between lo hi file.header.tiles pages =
    c.in_ok-tiles.ensures ∙ ap (λ (tiles : List TileLine). tiles_between lo hi tiles (map bytes_of c.deref.result.now)) c.items.ensures ∙ ap (λ ps. tiles_between lo hi file.header.tiles (map bytes_of ps)) c.deref.ensures.value in
    ⊎_elim (λ has. absurd (let none = subst (λ (es : List Entry). Contains es entry) c.new.ensures.items has in omega (arith, none.1)))
    (λ some. made_vouched lo hi file.header.tiles pages waits c.new.result.items c.new.ensures.items waits_are entry some) may
