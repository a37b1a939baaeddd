-- The job that is made of the oldest frozen pair, its series in order, and the numbers that were drawn.
use Rattle.std.proofs.Common.{◌≡◌, ℕ, ◌+◌, ◌<◌, List, [], ◌∷◌, ◌++◌, length, map, Option, Some, None, refl, sym, ap, subst, ◌∙◌, arith}
use Rattle.std.specs.Prelude.{All, slice_get}
use Rattle.std.specs.Arc.{arc_value}
use Rattle.std.specs.List.{AllByRecursion as Each, AllZip, range_with_len}
use Rattle.std.proofs.lemmas.List.Elements.{All-head}
use Rattle.tsdb_base.specs.declared.ids.FileNumber.{FileNumber}
use Rattle.tsdb_base.specs.declared.ids.SeriesId.{SeriesId}
use Rattle.tsdb_base.specs.declared.ids.Space.{Space}
use Rattle.tsdb_base.specs.declared.ids.Space.TheVariants.{Sequence, Unsequence}
use Rattle.tsdb_base.specs.declared.point.Point.{Point}
use Rattle.tsdb_flush.specs.BuiltParts.{IsJobOf}
use Rattle.tsdb_flush.proofs.TakenParts.{none_part, some_part}
use Rattle.tsdb_flush.specs.TakingSteps.{AreSeriesOf, HasNumbers, IsDraw, IsSeriesOf, pair_names, schema_in}
use Rattle.tsdb_flush.specs.Taking.{HasPairPoint, IsJobTaken}
use Rattle.tsdb_flush.specs.declared.series.PairSeries.{PairSeries}
use Rattle.tsdb_path.specs.Order.{AreInNameOrder, AreNamesBefore}
use Rattle.tsdb_flush.specs.Jobs.{IsJob}
use Rattle.tsdb_flush.specs.Parts.{HasPointsOfType, IsNumberDrawnFor, IsFormedFlush, schema_names, filled_part}
use Rattle.tsdb_flush.specs.declared.job.FlushJob.{FlushJob}
use Rattle.tsdb_base.proofs.Lists.{among_map, each_among}
use Rattle.tsdb_base.specs.Lists.{EachPair, if_some}
use Rattle.tsdb_model.specs.Commands.{IsSchema}
use Rattle.tsdb_model.specs.declared.command.Schema.{Schema}
use Rattle.tsdb_memory.proofs.Frozen.{image_of}
use Rattle.tsdb_memory.proofs.Raises.{all_at}
use Rattle.tsdb_memory.specs.Model.{HasTypedPoints, IsFormed, IsSoundMemory}
use Rattle.tsdb_memory.specs.StateOfMemory.{number_of}
use Rattle.tsdb_memory.specs.Store as memory
use Rattle.tsdb_memtable.specs.Pairs.{Pair, points_of}
use Rattle.tsdb_base.specs.Points.{IsRising}

abbrev id_of : PairSeries → SeriesId
id_of one = one.id

-- ---- the series in order

zipped : (all : List Schema) (pair : Pair) (R : Schema → SeriesId → Type 0) → ((one : PairSeries) → IsSeriesOf all pair one → R (schema_in one) one.id) → (series : List PairSeries) → Each (IsSeriesOf all pair) series
    → AllZip R (map schema_in series) (map (λ (one : PairSeries). one.id) series)
zipped all pair R gives [] each = tt
zipped all pair R gives (one ∷ series) each = (gives one each.0, zipped all pair R gives series each.1)

mapped : (all : List Schema) (pair : Pair) (P : Schema → Type 0) → ((one : PairSeries) → IsSeriesOf all pair one → P (schema_in one)) → (series : List PairSeries) → Each (IsSeriesOf all pair) series → Each P (map schema_in series)
mapped all pair P gives [] each = tt
mapped all pair P gives (one ∷ series) each = (gives one each.0, mapped all pair P gives series each.1)

names_before : (all : List Schema) (pair : Pair) (a : PairSeries) (series : List PairSeries) → IsSeriesOf all pair a → Each (IsSeriesOf all pair) series → Each (λ b. AreNamesBefore (pair_names a) (pair_names b)) series
    → Each (λ b. AreNamesBefore (schema_names (schema_in a)) (schema_names b)) (map schema_in series)
names_before all pair a [] of each less = tt
names_before all pair a (b ∷ series) of each less = (
  subst (λ (n : List ℕ × List ℕ). AreNamesBefore n (schema_names (schema_in b))) of.names (subst (λ (n : List ℕ × List ℕ). AreNamesBefore (pair_names a) n) each.0.names less.0),
  names_before all pair a series of each.1 less.1,
)

rises : (all : List Schema) (pair : Pair) (series : List PairSeries) → Each (IsSeriesOf all pair) series → AreInNameOrder pair_names series → EachPair (λ a b. AreNamesBefore (schema_names a) (schema_names b)) (map schema_in series)
rises all pair [] each order = tt
rises all pair (one ∷ series) each order = (names_before all pair one series each.0 each.1 order.0, rises all pair series each.1 order.1)

-- ---- the numbers that were drawn

numbers_from : (next mid end : ℕ) (series : List PairSeries) (sequence unsequence : Option FileNumber) → IsDraw Sequence series next mid sequence → IsDraw Unsequence series mid end unsequence
    → map (λ (file : FileNumber). file.0) (if_some sequence ++ if_some unsequence) ≡ range_with_len next (length (map (λ (file : FileNumber). file.0) (if_some sequence ++ if_some unsequence)))
numbers_from next mid end series None None first second = refl
numbers_from next mid end series None (Some late) first second = ap (λ n. n ∷ []) (second.0 ∙ first.0)
numbers_from next mid end series (Some on_time) None first second = ap (λ n. n ∷ []) first.0
numbers_from next mid end series (Some on_time) (Some late) first second =
    ap (λ n. n ∷ late.0 ∷ []) first.0 ∙ ap (λ n. next ∷ n ∷ []) (second.0 ∙ first.1)

module _ (all : List Schema) (pair : Pair) (series : List PairSeries) (are : AreSeriesOf all pair series) where
  abbrev schemas : List Schema
  schemas = map schema_in series

  abbrev numbers : List SeriesId
  numbers = map (λ (one : PairSeries). one.id) series

  drawn : (space : Space) (old new : ℕ) (file : Option FileNumber) → IsDraw space series old new file → IsNumberDrawnFor file (filled_part space pair schemas numbers)
  drawn space old new None draw = none_part all space pair series are.each draw.1
  drawn space old new (Some file) draw = some_part all space pair series are.each draw.2

  -- points of series that are there rise, and no other series has a point
  rising : (space : Space) (number : ℕ) → IsRising (points_of space number pair)
  rising space number = by (points_of space number pair) refl
    where
      by : (points : List Point) → points_of space number pair ≡ points → IsRising points
      by [] at = λ i j d before within. absurd (omega (arith, within))
      by (point ∷ points) at =
          let image = image_of id_of series (record { 0 = number }) (are.numbers.whole (record { 0 = number }) (record { space = space; some = subst (λ (l : List Point). 0 < length l) (sym at) (omega arith) })) in
          subst IsRising at (subst (λ (id : SeriesId). IsRising (points_of space id.0 pair)) image.is ((each_among (IsSeriesOf all pair) series image.element are.each image.among).rising space))

  job_of : HasNumbers all → IsJobOf all pair schemas numbers
  job_of once = record {
    numbered = zipped all pair (λ schema number. number_of all schema.path ≡ Some number.0) (λ one of. once one.id.0 (schema_in one) of.schema) series are.each;
    whole = λ space number some. among_map (λ (id : SeriesId). id.0) numbers (record { 0 = number }) (are.numbers.whole (record { 0 = number }) (record { space = space; some = some }));
    rising = rising;
  }

  flush_of : (next mid end : ℕ) (sequence unsequence : Option FileNumber) → All IsFormed all → HasTypedPoints all pair → AreInNameOrder pair_names series → IsDraw Sequence series next mid sequence → IsDraw Unsequence series mid end unsequence
      → IsFormedFlush pair schemas numbers sequence unsequence
  flush_of next mid end sequence unsequence formed typed order first second = record {
    formed = mapped all pair IsSchema (λ one of. (all_at IsFormed all one.id.0 (schema_in one) formed of.schema).suits) series are.each;
    rising = rises all pair series are.each order;
    typed = zipped all pair (HasPointsOfType pair) (λ one of space. typed space one.id.0 (schema_in one) of.schema) series are.each;
    sequence_drawn = drawn Sequence next mid sequence first;
    unsequence_drawn = drawn Unsequence mid end unsequence second;
  }

-- what is found of memory: the oldest pair, its series in order, and the numbers drawn
pub record IsFound (store : memory.MemoryState) (next : ℕ) (oldest : memory.FrozenPair) (series : List PairSeries) (sequence unsequence : Option FileNumber) : Type 0 where
  pub newer : List memory.FrozenPair
  pub are : store.frozen ≡ oldest ∷ newer
  pub all : AreSeriesOf store.series oldest.pair series
  pub order : AreInNameOrder pair_names series
  pub mid : ℕ
  pub end : ℕ
  pub first : IsDraw Sequence series next mid sequence
  pub second : IsDraw Unsequence series mid end unsequence

-- the job has them
pub record Has (job : FlushJob) (oldest : memory.FrozenPair) (series : List PairSeries) : Type 0 where
  pub born : job.born.0 ≡ oldest.born
  pub pair : arc_value job.pair ≡ oldest.pair
  pub numbers : job.series ≡ map (λ (one : PairSeries). one.id) series
  pub schemas : job.schemas ≡ map schema_in series

module _ (store : memory.MemoryState) (next : ℕ) (oldest : memory.FrozenPair) (series : List PairSeries) (job : FlushJob) (sound : IsSoundMemory store) (found : IsFound store next oldest series job.sequence job.unsequence) (has : Has job oldest series) where
  of_oldest : (P : memory.FrozenPair → Type 0) → All P store.frozen → P oldest
  of_oldest P each = All-head P oldest found.newer (subst (All P) found.are each)

  -- what holds of these holds of those that the job has
  moved : (Q : Pair → List Schema → List SeriesId → Type 0) → Q oldest.pair (map schema_in series) (map (λ (one : PairSeries). one.id) series) → Q (arc_value job.pair) job.schemas job.series
  moved Q q =
      subst (λ (p : Pair). Q p job.schemas job.series) (sym has.pair)
      (subst (λ (s : List Schema). Q oldest.pair s job.series) (sym has.schemas) (subst (Q oldest.pair (map schema_in series)) (sym has.numbers) q))

  pub is_job : IsJob job
  is_job =
      moved (λ pair schemas numbers. IsFormedFlush pair schemas numbers job.sequence job.unsequence)
      (flush_of store.series oldest.pair series found.all next found.mid found.end job.sequence job.unsequence sound.formed
      (of_oldest (λ (frozen : memory.FrozenPair). HasTypedPoints store.series frozen.pair) sound.frozen_typed) found.order found.first found.second)

  pub is_taken : IsJobTaken store next job
  is_taken = record {
    oldest = oldest;
    newer = found.newer;
    are = found.are;
    born = has.born;
    pair = has.pair;
    of = moved (IsJobOf store.series) (job_of store.series oldest.pair series found.all sound.once);
    schemas = moved (λ pair schemas numbers. AllZip (λ schema number. slice_get store.series number.0 ≡ Some schema) schemas numbers)
        (zipped store.series oldest.pair (λ schema number. slice_get store.series number.0 ≡ Some schema) (λ one of. of.schema) series found.all.each);
    filled = moved (λ pair schemas numbers. Each (HasPairPoint pair) numbers) found.all.numbers.filled;
    numbers = numbers_from next found.mid found.end series job.sequence job.unsequence found.first found.second;
  }
