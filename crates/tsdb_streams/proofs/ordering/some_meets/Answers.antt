use Rattle.std.proofs.Common.{rules, sym}
use Rattle.tsdb_aggregate.specs.Pieces.{overlap}
use Rattle.tsdb_streams.proofs.CleanFacts.{found_one, none_more}
use Rattle.tsdb_streams.specs.Cleaning.{page_times}
use Rattle.tsdb_streams.proofs.ordering.some_meets.Goals as goal

pub loop-page-preserved : goal.loop-page-preserved
loop-page-preserved c = none_more page_times (λ hull. overlap hull c.args.times.now) c.args.pages.now c.loop-page.page-index c.page-item.result c.loop-page-test.true c.page-item.is c.loop-page.invariant (search rules)

pub returns-then-overlap : goal.returns-then-overlap
returns-then-overlap c = sym (found_one page_times (λ hull. overlap hull c.args.times.now) c.args.pages.now c.loop-page.page-index c.page-item.result c.loop-page-test.true c.page-item.is (search rules))
