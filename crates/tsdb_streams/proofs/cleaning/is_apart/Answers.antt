use Rattle.std.proofs.Common.{rules, ◌∙◌, map, sym}
use Rattle.tsdb_streams.proofs.CleanFacts.{clean_else, clean_from, clean_marked, clean_met, clean_to, marked_test, met_before, met_behind}
use Rattle.tsdb_streams.proofs.MarkTests.{same_tests}
use Rattle.tsdb_streams.specs.Clean.{any_meets, is_marked, others}
use Rattle.tsdb_streams.specs.Cleaning.{lane_hulls}
use Rattle.tsdb_streams.proofs.cleaning.is_apart.Goals as goal
use Rattle.tsdb_streams.proofs.cleaning.is_apart.Goals.{then-not-contains-via-then-not-contains, then-not-contains-via-else-not-contains+then-not-contains-2, then-not-contains-via-else-not-contains+else-not-contains-2+then-meets, then-not-contains-via-else-not-contains+else-not-contains-2+else-meets+then-source_meets}

pub returns-then-not-contains : goal.returns-then-not-contains
returns-then-not-contains g c =
    let path = c.args.kept.now.series.now in
    let range = c.args.kept.now.range in
    let marks = c.args.kept.now.marks.now.marks in
    let times = c.args.times.now in
    let hulls = others c.args.place (map lane_hulls c.args.lanes.now) in
    elim c.then-not-contains.branch [
      | then-not-contains-via-then-not-contains w ↦ clean_from path range marks hulls c.args.born.0 times (search rules)
      | then-not-contains-via-else-not-contains+then-not-contains-2 w ↦ clean_to path range marks hulls c.args.born.0 times (search rules)
      | then-not-contains-via-else-not-contains+else-not-contains-2+then-meets w ↦ clean_marked path range marks hulls c.args.born.0 times (sym (same_tests w.meets.result (is_marked path marks c.args.born.0 times) w.meets.ensures (marked_test path c.args.born.0 times marks)) ∙ w.if-meets.true)
      | then-not-contains-via-else-not-contains+else-not-contains-2+else-meets+then-source_meets w ↦ clean_met path range marks hulls c.args.born.0 times (met_before lane_hulls (any_meets times) c.args.place c.args.lanes.now c.split_at.result.0.now c.split_at.ensures.front (sym w.source_meets.ensures ∙ w.if-source_meets.true))
    ]

pub returns : goal.returns
returns g c =
    let path = c.args.kept.now.series.now in
    let range = c.args.kept.now.range in
    let marks = c.args.kept.now.marks.now.marks in
    let times = c.args.times.now in
    let lanes = c.args.lanes.now in
    let hulls = others c.args.place (map lane_hulls lanes) in
    clean_else path range marks hulls c.args.born.0 times (search rules) (search rules) (sym (same_tests c.meets.result (is_marked path marks c.args.born.0 times) c.meets.ensures (marked_test path c.args.born.0 times marks)) ∙ c.if-meets.false) c.source_meets-2.result
    (met_behind lane_hulls (any_meets times) c.args.place lanes c.split_at.result.0.now c.split_at.result.1.now c.split_at-2.result.1.now c.source_meets-2.result c.split_at.ensures.front c.split_at.ensures.back c.split_at-2.ensures.back (sym c.source_meets.ensures ∙ c.if-source_meets.false) c.source_meets-2.ensures)
