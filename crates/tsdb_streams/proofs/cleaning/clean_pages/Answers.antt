use Rattle.std.proofs.Common.{rules, ◌∙◌, map, sym, ap}
use Rattle.std.proofs.lemmas.List.{take_all}
use Rattle.tsdb_streams.proofs.CleanFacts.{map_push}
use Rattle.tsdb_streams.specs.Clean.{others}
use Rattle.tsdb_streams.specs.Cleaning.{flags_of, is_clean_page, lane_hulls}
use Rattle.tsdb_streams.proofs.cleaning.clean_pages.Goals as goal

pub loop-page-preserved : goal.loop-page-preserved
loop-page-preserved g c =
    let test = is_clean_page c.args.name c.args.kept.now (others c.args.place (map lane_hulls c.args.lanes.now)) c.in-Pages.pages.born.0 in
    map_push test c.items-page-items.result.now c.loop-page.page-index c.page-item.result c.loop-page.flags.items c.push.new.self.items c.is_clean.result
    c.loop-page-test.true c.page-item.is c.loop-page.invariant (search rules) c.is_clean.ensures

pub returns : goal.returns
returns g c =
    let hulls = others c.args.place (map lane_hulls c.args.lanes.now) in
    let test = is_clean_page c.args.name c.args.kept.now hulls c.in-Pages.pages.born.0 in
    c.loop-page.invariant ∙ ap (map test) (take_all c.loop-page.page-index c.items-page-items.result.now c.loop-page-test.false ∙ c.items-page-items.ensures) ∙ ap (flags_of c.args.name c.args.kept.now hulls) (sym c.in-Pages.is)

pub returns-in_default : goal.returns-in_default
returns-in_default g c = c.new-flags.ensures.items ∙ ap (flags_of c.args.name c.args.kept.now (others c.args.place (map lane_hulls c.args.lanes.now))) (sym c.in_default.is)
