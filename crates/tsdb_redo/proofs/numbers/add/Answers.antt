use Rattle.tsdb_redo.proofs.Runs.{are_runs, first_low, one_more}
use Rattle.tsdb_redo.proofs.Joining.{joined_gone, joined_here, joined_others}
use Rattle.tsdb_redo.proofs.numbers.add.Goals as goal

pub returns : goal.returns
returns c =
    let old = c.args.runs.now in
    let new = c.remove.new.self in
    let first = c.begin_of-first.result in
    let last = c.end_of-last.result in
    let low = first_low old.entries c.args.number first c.begin_of-first.ensures in
    let gone = joined_gone old c.insert.new.self new c.args.number first last c.in_ok-insert.ensures.updates c.remove.ensures.updates in
    let here = joined_here old c.insert.new.self new c.args.number first last low c.in_ok-insert.ensures.updates c.remove.ensures.updates in
    let others = joined_others old c.insert.new.self new c.args.number first last c.in_ok-insert.ensures.updates c.remove.ensures.updates in
    record {
      runs = are_runs old.entries new.entries c.args.number first last c.requires.runs c.requires.within c.requires.free
          c.begin_of-first.ensures c.end_of-last.ensures gone here others;
      named = one_more old.entries new.entries c.args.number first last c.requires.runs c.requires.within c.requires.free
          c.begin_of-first.ensures c.end_of-last.ensures gone here others;
      memory = tt;
    }
