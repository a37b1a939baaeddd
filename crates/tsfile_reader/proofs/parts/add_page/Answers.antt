use Rattle.std.proofs.Common.{refl}
use Rattle.tsdb_pages.specs.Trees.{page_points}
use Rattle.tsfile_reader.proofs.Later.{page_added, sum_in}
use Rattle.tsfile_reader.proofs.parts.add_page.Goals as goal

pub returns : goal.returns
returns c = λ t e from before page same read later place.
    page_added c.args.version t e from c.args.place before page c.args.points.now c.args.pages.now (record { entries = c.push.new.self; stats = c.in_ok-pages.field-0 }) c.in_ok-stats.stats (record { place = c.args.place; stats = c.in_ok-stats.stats }) same read later place refl c.in_ok-stats.ensures.found
    (c.in_ok-pages.ensures.found (page_points before) c.args.points.now read.stats c.in_ok-stats.ensures.found) c.in_ok-push.ensures.items c.in_ok-pages.ensures.sum
    (sum_in c.args.version t c.args.points.now c.in_ok-stats.stats later.good.0 c.in_ok-stats.ensures.sum)
