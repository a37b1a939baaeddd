use Rattle.std.proofs.Common.{◌++◌, rules}
use Rattle.tsdb_base.specs.Fields.{number64}
use Rattle.tsdb_base.specs.Plain.{plain_i64}
use Rattle.tsdb_base.proofs.GrowthLemmas.{grew_behind, grew_within}
use Rattle.tsdb_fields.proofs.Appending.{both_written, second_cut}
use Rattle.tsdb_fields.proofs.statistics.write_times.Goals as goal

pub returns-in_err-put-clause-memory : goal.returns-in_err-put-clause-memory
returns-in_err-put-clause-memory c =
    let s = c.args.stats.now in
    let grew = grew_within c.args.into.now.items (number64 s.count) (plain_i64 s.start ++ plain_i64 s.end) c.put.new.into.items c.in_err-put.ensures.memory in
    search (rules, grew)

pub returns-in_err-put-2-clause-memory : goal.returns-in_err-put-2-clause-memory
returns-in_err-put-2-clause-memory c =
    let s = c.args.stats.now in
    let grew = grew_behind c.args.into.now.items (number64 s.count) (plain_i64 s.start ++ plain_i64 s.end) c.put.new.into.items c.put-2.new.into.items c.in_ok-put.ensures.ok
    (grew_within c.put.new.into.items (plain_i64 s.start) (plain_i64 s.end) c.put-2.new.into.items c.in_err-put-2.ensures.memory) in
    search (rules, grew)

pub returns-clause-ok : goal.returns-clause-ok
returns-clause-ok c =
    let s = c.args.stats.now in
    both_written c.put-3.result c.args.into.now.items (number64 s.count) (plain_i64 s.start ++ plain_i64 s.end) c.put.new.into.items c.put-3.new.into.items c.in_ok-put.ensures.ok
    (both_written c.put-3.result c.put.new.into.items (plain_i64 s.start) (plain_i64 s.end) c.put-2.new.into.items c.put-3.new.into.items c.in_ok-put-2.ensures.ok c.put-3.ensures.ok)

pub returns-clause-memory : goal.returns-clause-memory
returns-clause-memory c =
    let s = c.args.stats.now in
    second_cut c.put-3.result c.args.into.now.items (number64 s.count) (plain_i64 s.start ++ plain_i64 s.end) c.put.new.into.items c.put-3.new.into.items c.in_ok-put.ensures.ok
    (second_cut c.put-3.result c.put.new.into.items (plain_i64 s.start) (plain_i64 s.end) c.put-2.new.into.items c.put-3.new.into.items c.in_ok-put-2.ensures.ok c.put-3.ensures.memory)
