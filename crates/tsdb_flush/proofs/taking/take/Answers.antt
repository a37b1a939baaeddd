use Rattle.std.proofs.Common.{ap, map, sym, subst, ◌∙◌}
use Rattle.std.specs.Arc.{arc_value}
use Rattle.std.specs.Prelude.{All}
use Rattle.std.proofs.lemmas.List.Elements.{All-head}
use Rattle.tsdb_flush.proofs.Jobs.{Has, IsFound, is_job, is_taken}
use Rattle.tsdb_flush.proofs.TakenParts.{some_drawn}
use Rattle.tsdb_flush.specs.TakingSteps.{AreSeriesOf, schema_in}
use Rattle.tsdb_flush.specs.declared.series.PairSeries.{PairSeries}
use Rattle.tsdb_flush.specs.declared.job.FlushJob.{FlushJob}
use Rattle.tsdb_memory.specs.Fits.{HasNoPairPoint}
use Rattle.tsdb_memory.specs.Model.{AreFrozenInTurn, HasKnownSeries, frozen_in}
use Rattle.tsdb_memory.specs.Store.{FrozenPair}
use Rattle.tsdb_memtable.specs.Pairs.{HasRisingSeries, Pair}
use Rattle.tsdb_flush.proofs.taking.take.Goals as goal

pub series_in_order-requires-clause-known : goal.series_in_order-requires-clause-known
series_in_order-requires-clause-known c =
    let series = c.args.memory.now.series in
    subst (HasKnownSeries series) (sym c.pair.ensures)
    (All-head (λ (frozen : FrozenPair). HasKnownSeries series frozen.pair) _ _ (subst (All (λ (frozen : FrozenPair). HasKnownSeries series frozen.pair)) c.oldest-oldest.ensures.are c.sound.ensures.frozen_known))

pub returns-in-Some : goal.returns-in-Some
returns-in-Some c =
    let store = c.args.memory.now in
    let oldest = frozen_in c.oldest-oldest.result.now in
    let series = c.in_ok-in_order.in_order.items in
    let job : FlushJob = record {
      born = c.born.result;
      pair = c.in-Some.pair;
      series = c.in_ok-series.series;
      schemas = c.in_ok-schemas.schemas;
      sequence = c.draw-sequence.result;
      unsequence = c.draw-unsequence.result;
    } in
    let found : IsFound store c.args.next oldest series job.sequence job.unsequence = record {
      newer = c.oldest-oldest.ensures.newer;
      are = c.oldest-oldest.ensures.are;
      all = subst (λ (p : Pair). AreSeriesOf store.series p series) c.pair.ensures c.in_ok-in_order.ensures.all;
      order = c.in_ok-in_order.ensures.order;
      mid = c.draw-sequence.new.next;
      end = c.draw-unsequence.new.next;
      first = rw c.as_slice-all.ensures.value at c.draw-sequence.ensures;
      second = rw c.as_slice-all.ensures.value at c.draw-unsequence.ensures;
    } in
    let has : Has job oldest series = record {
      born = c.born.ensures;
      pair = c.in-Some.ensures;
      numbers = c.in_ok-series.ensures ∙ ap (map (λ (one : PairSeries). one.id)) c.as_slice-all.ensures.value;
      schemas = c.in_ok-schemas.ensures ∙ ap (map schema_in) c.as_slice-all.ensures.value;
    } in
    let taken = is_taken store c.args.next oldest series job c.sound.ensures found has in
    let is = is_job store c.args.next oldest series job c.sound.ensures found has in
    let filled : ¬ HasNoPairPoint oldest.pair =
    (subst (AreFrozenInTurn store.stamp) found.are c.sound.ensures.in_turn).filled.0 in
    record {
      job = is;
      taken = taken;
      some = some_drawn store.series (arc_value job.pair) job.schemas job.series
          (subst HasRisingSeries (c.pair-2.ensures ∙ sym has.pair) c.sound-2.ensures)
          (subst (λ (p : Pair). ¬ HasNoPairPoint p) (sym has.pair) filled) taken.of job.sequence job.unsequence
          is.sequence_drawn is.unsequence_drawn;
    }
