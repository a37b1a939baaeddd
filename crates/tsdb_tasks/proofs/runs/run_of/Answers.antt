use Rattle.std.proofs.Common.{rules}
use Rattle.tsdb_tasks.proofs.Standing.{are_numbers, is_within, not_missing, run_of_first, some_entry}
use Rattle.tsdb_tasks.proofs.runs.run_of.Goals as goal

pub unreachable-requires : goal.unreachable-requires
unreachable-requires c = not_missing c.args.entries.now c.args.numbers.now c.in-Some.first.now (search rules)
    c.requires.run c.in_default-place_of.ensures.none

pub returns-clause-within : goal.returns-clause-within
returns-clause-within c =
    let found = c.in-Some-place_of.ensures.found in
    is_within c.args.entries.now c.args.numbers.now c.in-Some-place_of.place
    (run_of_first c.args.entries.now c.args.numbers.now c.in-Some.first.now c.in-Some-place_of.place
    (some_entry c.args.entries.now c.in-Some-place_of.place found.0) (search rules) c.requires.run c.requires.once
    found.0
    found.1)

pub returns-clause-numbers : goal.returns-clause-numbers
returns-clause-numbers c =
    let found = c.in-Some-place_of.ensures.found in
    are_numbers c.args.entries.now c.args.numbers.now c.in-Some-place_of.place
    (run_of_first c.args.entries.now c.args.numbers.now c.in-Some.first.now c.in-Some-place_of.place
    (some_entry c.args.entries.now c.in-Some-place_of.place found.0) (search rules) c.requires.run c.requires.once
    found.0
    found.1)
