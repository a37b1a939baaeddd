use Rattle.std.proofs.Common.{rules, sym}
use Rattle.tsdb_streams.proofs.CleanFacts.{passed_at, set_more, set_none}
use Rattle.tsdb_streams.specs.Lanes.{is_passed}
use Rattle.tsdb_streams.proofs.cleaning.are_set.Goals as goal

pub loop-place-preserved : goal.loop-place-preserved
loop-place-preserved c =
    let flags = c.args.flags.now in
    let i = c.loop-place.place in
    set_more flags i (is_passed flags i) c.loop-place-test.true (passed_at flags i c.loop-place-test.true) c.loop-place.invariant (search rules)

pub returns-then-not-is_passed : goal.returns-then-not-is_passed
returns-then-not-is_passed c =
    let flags = c.args.flags.now in
    let i = c.loop-place.place in
    sym (set_none flags i (is_passed flags i) c.loop-place-test.true (passed_at flags i c.loop-place-test.true) (search rules))
