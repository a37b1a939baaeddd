use Rattle.std.proofs.Common.{rules}
use Rattle.tsdb_pages.proofs.Statistics.{has_sum}
use Rattle.tsfile_writer.proofs.Appending.{sums_longer}
use Rattle.tsfile_writer.proofs.layout.OpenChunk.put_page.Goals as goal

pub returns-clause-chunk : goal.returns-clause-chunk
returns-clause-chunk c = search rules

pub returns-clause-sums : goal.returns-clause-sums
returns-clause-sums c = λ sums.
    let t = c.args.data_type in
    sums_longer t c.args.self.now _ (record { place = c.len-place.result; stats = c.in_ok-stats.stats }) c.in_ok-all.ensures.sum
    (has_sum t c.args.points.now c.in_ok-stats.stats c.requires.points c.in_ok-stats.ensures.sum) (search rules) sums
