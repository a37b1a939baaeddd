use Rattle.std.proofs.Common.{◌++◌, rules}
use Rattle.tsdb_base.proofs.GrowthLemmas.{grew_behind, grew_within}
use Rattle.tsdb_fields.proofs.Appending.{both_written, second_cut}
use Rattle.tsdb_fields.proofs.Parts.{times, ends, numbers}
use Rattle.tsdb_fields.proofs.statistics.write_stats.Goals as goal

pub returns-in_err-write_times-clause-memory : goal.returns-in_err-write_times-clause-memory
returns-in_err-write_times-clause-memory c =
    let s = c.args.stats.now in
    let grew = grew_within c.args.into.now.items (times (s.count, (s.start, s.end))) (ends (s.first, s.last) ++ numbers ((s.least, s.greatest), s.sum)) c.write_times.new.into.items c.in_err-write_times.ensures.memory in
    search (rules, grew)

pub returns-in_err-write_values-clause-memory : goal.returns-in_err-write_values-clause-memory
returns-in_err-write_values-clause-memory c =
    let s = c.args.stats.now in
    let grew = grew_behind c.args.into.now.items (times (s.count, (s.start, s.end))) (ends (s.first, s.last) ++ numbers ((s.least, s.greatest), s.sum)) c.write_times.new.into.items c.write_values.new.into.items c.in_ok-write_times.ensures.ok
    (grew_within c.write_times.new.into.items (ends (s.first, s.last)) (numbers ((s.least, s.greatest), s.sum)) c.write_values.new.into.items c.in_err-write_values.ensures.memory) in
    search (rules, grew)

pub returns-clause-ok : goal.returns-clause-ok
returns-clause-ok c =
    let s = c.args.stats.now in
    both_written c.write_numbers.result c.args.into.now.items (times (s.count, (s.start, s.end))) (ends (s.first, s.last) ++ numbers ((s.least, s.greatest), s.sum)) c.write_times.new.into.items c.write_numbers.new.into.items c.in_ok-write_times.ensures.ok
    (both_written c.write_numbers.result c.write_times.new.into.items (ends (s.first, s.last)) (numbers ((s.least, s.greatest), s.sum)) c.write_values.new.into.items c.write_numbers.new.into.items c.in_ok-write_values.ensures.ok c.write_numbers.ensures.ok)

pub returns-clause-memory : goal.returns-clause-memory
returns-clause-memory c =
    let s = c.args.stats.now in
    second_cut c.write_numbers.result c.args.into.now.items (times (s.count, (s.start, s.end))) (ends (s.first, s.last) ++ numbers ((s.least, s.greatest), s.sum)) c.write_times.new.into.items c.write_numbers.new.into.items c.in_ok-write_times.ensures.ok
    (second_cut c.write_numbers.result c.write_times.new.into.items (ends (s.first, s.last)) (numbers ((s.least, s.greatest), s.sum)) c.write_values.new.into.items c.write_numbers.new.into.items c.in_ok-write_values.ensures.ok c.write_numbers.ensures.memory)
