use Rattle.std.proofs.lemmas.Grind.{common_steps}
use Rattle.std.proofs.Common.{ℕ, List, Vec, Global, length, arith, sym, ap, subst}
use Rattle.tsdb_base.specs.declared.point.Point.{Point}
use Rattle.tsdb_fields.specs.declared.rest.Rest.{Rest}
use Rattle.tsdb_pages.specs.declared.tree.Page.{Page}
use Rattle.tsfile_reader.specs.declared.parts.Pages.{Pages}
use Rattle.tsdb_pages.specs.File.{page_bytes}
use Rattle.tsfile_reader.specs.Page.{AreGood}
use Rattle.tsfile_reader.specs.Parts.{FilePart}
use Rattle.tsfile_reader.specs.Steps.{AreLaterPoints, ReadsPages, StopsBehind}
use Rattle.tsfile_reader.proofs.PageLoop.{first_so_far, next_so_far, none_first, none_later, place_of_next, stop}
use Rattle.tsfile_reader.proofs.parts.read_pages.Goals as goal

pub returns-in-Err : goal.returns-in-Err
returns-in-Err c =
    let t = c.args.data_type in
    let e = c.args.encoding in
    stop (page_bytes e) (AreGood t) c.args.rest (λ (v : Vec Point Global). v.items) c.in-Err.fault c.of_part.result c.args.rest.at (λ (r : Pages × Rest). ReadsPages c.args.version t e c.args.rest r.1 r.0) (λ at. (m : List ℕ) → StopsBehind (FilePart.Chunk m t e) c.args.rest at) c.in-Err.ensures.parts c.of_part.ensures
    (λ none. none_first t e c.args.rest none)

pub pages-init : goal.pages-init
pages-init c =
    let t = c.args.data_type in
    let e = c.args.encoding in
    let p = c.in-Ok.ensures.parts in
    let page : Page = record { points = c.in-Ok.read.0.items } in
    first_so_far c.args.version t e c.args.rest c.in-Ok.read.1 c.in_ok-pages.pages page (c.in_ok-pages.ensures t e page (sym c.deref.ensures.value) (subst (λ (l : List Point). AreGood t l) (sym c.deref.ensures.value) p.1)) p.0

pub pages-preserved : goal.pages-preserved
pages-preserved c =
    let t = c.args.data_type in
    let e = c.args.encoding in
    let p = c.in-Ok-read_next_page.ensures.parts in
    let v = c.in-Ok-read_next_page.points in
    let same = c.deref-in-Ok-read_next_page.ensures.value in
    let page : Page = record { points = c.in-Ok-read_next_page.points.items } in
    let so_far = c.pages.invariant in
    next_so_far c.args.version t e c.args.rest c.pages.left c.in-Ok-read_next_page.behind c.pages.pages c.add_page.new.pages page so_far
    (c.in_ok-add_page-in-Ok-read_next_page.ensures t e c.args.rest.at so_far.pages page (sym same) so_far.read (subst (λ (l : List Point). AreLaterPoints t c.pages.pages l) (sym same) p.1) (place_of_next c.args.version t e c.args.rest c.pages.left c.pages.pages so_far)) p.0

pub returns-in-Err-read_next_page : goal.returns-in-Err-read_next_page
returns-in-Err-read_next_page c =
    let t = c.args.data_type in
    let e = c.args.encoding in
    stop (page_bytes e) (AreLaterPoints t c.pages.pages) c.pages.left (λ (v : Vec Point Global). v.items) c.in-Err-read_next_page.fault c.of_part-in-Err-read_next_page.result c.pages.left.at (λ (r : Pages × Rest). ReadsPages c.args.version t e c.args.rest r.1 r.0) (λ at. (m : List ℕ) → StopsBehind (FilePart.Chunk m t e) c.args.rest at)
    c.in-Err-read_next_page.ensures.parts c.of_part-in-Err-read_next_page.ensures (λ none. none_later c.args.version t e c.args.rest c.pages.left c.pages.pages c.pages.invariant (c.begins_with_mark.ensures.0 c.pages-test.true) none)

pub pages-smaller : goal.pages-smaller
pages-smaller c = grind (arith, common_steps)
