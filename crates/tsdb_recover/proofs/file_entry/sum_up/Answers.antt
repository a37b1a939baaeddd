use Rattle.std.proofs.Common.{◌≡◌, get_or, sym, rules}
use Rattle.tsdb_recover.proofs.Summaries.{all_summed, none_summed, one_summed}
use Rattle.tsdb_recover.proofs.file_entry.sum_up.Goals as goal

pub loop-entry-init : goal.loop-entry-init
loop-entry-init c = none_summed c.args.entries.now c.new-summary.result c.new-summary.ensures

pub loop-entry-preserved : goal.loop-entry-preserved
loop-entry-preserved c =
    let entry = c.entry-item.result in
    let at : get_or c.args.entries.now c.loop-entry.entry-index entry ≡ entry = sym c.entry-item.is in
    one_summed c.args.entries.now c.loop-entry.entry-index entry c.loop-entry.summary c.add.new.self (search rules) at
    c.in_ok-add.ensures c.loop-entry.invariant

pub returns : goal.returns
returns c = all_summed c.args.entries.now c.loop-entry.entry-index c.loop-entry.summary (search rules)
    c.loop-entry.invariant
