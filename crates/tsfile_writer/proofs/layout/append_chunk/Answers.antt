use Rattle.std.proofs.lemmas.Grind.{common_steps}
use Rattle.std.proofs.Common.{◌≡◌, ◌+◌, ap, ◌∙◌, length, rules, subst, sym, arith}
use Rattle.std.proofs.lemmas.List.{length-append}
use Rattle.tsdb_pages.specs.File.{HasSum, chunk_start}
use Rattle.tsdb_stats.specs.Statistics.{AreStatsOf}
use Rattle.tsdb_index.specs.declared.marks.TheConstants.{VERSION}
use Rattle.tsdb_pages.proofs.Statistics.{has_sum}
use Rattle.tsfile_writer.proofs.Appending.{sums_begun}
use Rattle.tsfile_writer.proofs.layout.append_chunk.Goals as goal

pub returns-clause-chunk : goal.returns-clause-chunk
returns-clause-chunk c =
    let start = chunk_start c.args.measurement.now c.args.data_type c.args.encoding in
    let place : c.len.result ≡ length c.args.into.now.items + length (chunk_start c.args.measurement.now c.args.data_type c.args.encoding) = c.len.ensures ∙ c.append_chunk_start.new.into.ok.0 ∙ ap length c.in_ok-append_chunk_start.ensures.ok ∙ length-append c.args.into.now.items start in
    record {
      place_is = search rules;
      stats = c.in_ok-stats.ensures.found;
      entry = record { place = c.len.result; stats = c.in_ok-copy.field-0 };
      is = record { place_is = place; stats = subst (AreStatsOf c.args.points.now) (sym c.in_ok-copy.ensures) c.in_ok-stats.ensures.found };
      pages_are = search rules;
    }

pub returns-clause-sums : goal.returns-clause-sums
returns-clause-sums c =
    let t = c.args.data_type in
    let points = c.args.points.now in
    let own : HasSum VERSION c.args.data_type c.in_ok-stats.stats = has_sum t points c.in_ok-stats.stats c.requires.points c.in_ok-stats.ensures.sum in
    sums_begun t _ (record { place = c.len.result; stats = c.in_ok-copy.field-0 }) own (subst (HasSum VERSION t) (sym c.in_ok-copy.ensures) own) (search rules)

pub stats_of-requires : goal.stats_of-requires
stats_of-requires c = search rules

pub returns-in_err-stats-clause-bytes : goal.returns-in_err-stats-clause-bytes
returns-in_err-stats-clause-bytes c = search rules

pub returns-in_err-stats-clause-chunk : goal.returns-in_err-stats-clause-chunk
returns-in_err-stats-clause-chunk c = search rules

pub returns-in_err-stats-clause-sums : goal.returns-in_err-stats-clause-sums
returns-in_err-stats-clause-sums c = search rules

pub returns-in_err-stats-clause-kept : goal.returns-in_err-stats-clause-kept
returns-in_err-stats-clause-kept c = grind (arith, common_steps)

pub returns-in_err-append_chunk_start-clause-bytes : goal.returns-in_err-append_chunk_start-clause-bytes
returns-in_err-append_chunk_start-clause-bytes c = search rules

pub returns-in_err-append_chunk_start-clause-chunk : goal.returns-in_err-append_chunk_start-clause-chunk
returns-in_err-append_chunk_start-clause-chunk c = search rules

pub returns-in_err-append_chunk_start-clause-sums : goal.returns-in_err-append_chunk_start-clause-sums
returns-in_err-append_chunk_start-clause-sums c = search rules

pub returns-in_err-append_chunk_start-clause-kept : goal.returns-in_err-append_chunk_start-clause-kept
returns-in_err-append_chunk_start-clause-kept c = search rules

pub returns-in_err-copy-clause-bytes : goal.returns-in_err-copy-clause-bytes
returns-in_err-copy-clause-bytes c = search rules

pub returns-in_err-copy-clause-chunk : goal.returns-in_err-copy-clause-chunk
returns-in_err-copy-clause-chunk c = search rules

pub returns-in_err-copy-clause-sums : goal.returns-in_err-copy-clause-sums
returns-in_err-copy-clause-sums c = search rules

pub returns-in_err-copy-clause-kept : goal.returns-in_err-copy-clause-kept
returns-in_err-copy-clause-kept c = search rules

pub append_page-requires-clause-suits : goal.append_page-requires-clause-suits
append_page-requires-clause-suits c = search rules

pub append_page-requires-clause-points : goal.append_page-requires-clause-points
append_page-requires-clause-points c = search rules

pub returns-in_err-append_page-clause-kept : goal.returns-in_err-append_page-clause-kept
returns-in_err-append_page-clause-kept c = grind (arith, common_steps)

pub vec-requires : goal.vec-requires
vec-requires c = search rules

pub returns-in_err-pages-clause-bytes : goal.returns-in_err-pages-clause-bytes
returns-in_err-pages-clause-bytes c = search rules

pub returns-in_err-pages-clause-chunk : goal.returns-in_err-pages-clause-chunk
returns-in_err-pages-clause-chunk c = search rules

pub returns-in_err-pages-clause-sums : goal.returns-in_err-pages-clause-sums
returns-in_err-pages-clause-sums c = search rules

pub returns-in_err-pages-clause-kept : goal.returns-in_err-pages-clause-kept
returns-in_err-pages-clause-kept c = grind (arith, common_steps)

pub returns-clause-bytes : goal.returns-clause-bytes
returns-clause-bytes c = grind (arith, common_steps)

pub returns-clause-kept : goal.returns-clause-kept
returns-clause-kept c = grind (arith, common_steps)
