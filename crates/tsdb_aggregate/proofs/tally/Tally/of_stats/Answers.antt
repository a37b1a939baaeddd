use Rattle.std.proofs.Common.{rules, sym, ap, ◌∙◌}
use Rattle.tsdb_base.specs.declared.answers.Aggregate.{Aggregate}
use Rattle.tsdb_aggregate.specs.Pieces.{has_asked}
use Rattle.tsdb_aggregate.specs.Steps.{kept_value}
use Rattle.tsdb_aggregate.proofs.TallyLemmas.{sum_said}
use Rattle.tsdb_aggregate.proofs.tally.Tally.of_stats.Goals as goal
use Rattle.tsdb_aggregate.proofs.tally.Tally.of_stats.Goals.{in-Count, in-FirstValue, in-LastValue, in-MinValue, in-MaxValue, in-MinTime, in-MaxTime, in-Sum}

pub returns : goal.returns
returns c = λ points are asked.
    elim c.match-name.branch [
      | in-Count w ↦ rw w.in-Count.is are.count
      | in-FirstValue w ↦ rw w.in-FirstValue.is (ap kept_value w.kept-is ∙ sym are.first)
      | in-LastValue w ↦ rw w.in-LastValue.is (ap kept_value w.kept-is ∙ sym are.last)
      | in-MinValue w ↦ rw w.in-MinValue.is (ap kept_value w.kept-is ∙ w.lend-kept.ensures ∙ sym are.least)
      | in-MaxValue w ↦ rw w.in-MaxValue.is (ap kept_value w.kept-is ∙ w.lend-kept-in-MaxValue.ensures ∙ sym are.greatest)
      | in-MinTime w ↦ rw w.in-MinTime.is (search rules)
      | in-MaxTime w ↦ rw w.in-MaxTime.is (search rules)
      | in-Sum w ↦ rw w.in-Sum.is (c.stats_sum-sum.ensures w.in-Sum.is
          ∙ sum_said c.args.stats.now.sum _ are.sum (sym (ap (λ (a : Aggregate). has_asked a c.args.stats.now) w.in-Sum.is) ∙ asked))
    ]
