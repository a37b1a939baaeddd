-- A job that was taken is a flush of the state.
use Rattle.std.proofs.Common.{◌≡◌, ◌≢◌, ℕ, ◌+◌, ◌≤◌, List, [], ◌∷◌, ◌++◌, length, map, Option, Some, None, refl, sym, ap, subst, ◌∙◌}
use Rattle.std.specs.Arc.{arc_value}
use Rattle.std.specs.FinMap.{empty, get, get-empty}
use Rattle.std.specs.List.{AllZip, range_with_len}
use Rattle.std.specs.Option.{option_map}
use Rattle.tsdb_base.specs.declared.ids.FileNumber.{FileNumber}
use Rattle.tsdb_base.specs.declared.ids.SeriesId.{SeriesId}
use Rattle.tsdb_base.specs.declared.ids.Space.{Space}
use Rattle.tsdb_base.specs.declared.ids.Space.TheVariants.{Sequence, Unsequence}
use Rattle.tsdb_base.specs.declared.value.Value.{Value}
use Rattle.tsdb_flush.proofs.Memory.{content_of_part}
use Rattle.tsdb_flush.specs.BuiltParts.{HasPartPoint, IsContentOfPart, IsJobOf}
use Rattle.tsdb_flush.proofs.TakenParts.{point_of}
use Rattle.tsdb_flush.specs.Flushes.{IsFlushOf}
use Rattle.tsdb_flush.specs.Taking.{IsJobTaken, job_numbers}
use Rattle.tsdb_flush.specs.Jobs.{IsJob}
use Rattle.tsdb_flush.specs.Parts as jobs
use Rattle.tsdb_flush.specs.declared.job.FlushJob.{FlushJob}
use Rattle.tsdb_memory.proofs.LayerLemmas.Places.{same_content}
use Rattle.tsdb_base.specs.Lists.{Among, if_some}
use Rattle.tsdb_memory.specs.Places.{Content, PointPlace, place_cmp}
use Rattle.tsdb_model.specs.declared.command.Schema.{Schema}
use Rattle.tsdb_memory.specs.StateOfMemory.{IsPairContent, IsFrozenOf, IsMemoryOf, IsPairOf}
use Rattle.tsdb_memory.specs.Store as memory
use Rattle.tsdb_memtable.specs.Pairs.{Pair}
use Rattle.tsdb_memory.specs.Jobs.{IsDrawnFor, drawn_by}
use Rattle.tsdb_base.specs.Limits.{end_of_numbers}
use Rattle.tsdb_memory.specs.State as state
use Rattle.tsdb_memory.specs.Steps.{TakesFlush}

abbrev number_of : FileNumber → ℕ
number_of file = file.0

-- ---- a part is empty exactly where its content is

module _ (series : List Schema) (space : Space) (pair : Pair) (schemas : List Schema) (numbers : List SeriesId) (content : Content) (of : IsJobOf series pair schemas numbers) (shown : IsPairContent series space pair content) where
  abbrev part : List jobs.Filled
  part = jobs.filled_part space pair schemas numbers

  is : IsContentOfPart part content
  is = content_of_part series space pair schemas numbers content of shown

  no_content : part ≡ [] → content ≡ empty
  no_content none = same_content content empty (λ place. by place (get content place) refl ∙ sym (get-empty place_cmp place))
    where
      by : (place : PointPlace) (o : Option Value) → get content place ≡ o → o ≡ None
      by place None at = refl
      by place (Some value) at = absurd (nothing place value ((is place value).0 at))
        where
          nothing : (place : PointPlace) (value : Value) → HasPartPoint part place value → ⊥
          nothing place value has = subst (Among has.filled) none has.in_part

  some_content : part ≢ [] → content ≢ empty
  some_content some none =
      let there = point_of space pair schemas numbers some in
      let place : PointPlace = record { path = there.filled.schema.path; time = there.point.time } in
      let has : get content place ≡ Some there.point.value = (is place there.point.value).1 (record { filled = there.filled; in_part = there.in_part; point = there.point; in_series = there.in_series; path = refl; time = refl; has = refl }) in
      some_none there.point.value (sym has ∙ ap (λ (c : Content). get c place) none ∙ get-empty place_cmp place)
    where
      some_none : (value : Value) → Some value ≡ None → ⊥
      some_none value same = cc

  drawn : (file : Option FileNumber) → jobs.IsNumberDrawnFor file part → IsDrawnFor (option_map number_of file) content
  drawn None is = no_content is
  drawn (Some file) is = some_content is

-- ---- the oldest pair of the state

record Oldest (series : List Schema) (oldest : memory.FrozenPair) (frozen : List state.FrozenContent) : Type 0 where
  pub shown : state.FrozenContent
  pub newer : List state.FrozenContent
  pub are : frozen ≡ shown ∷ newer
  pub of : IsFrozenOf series oldest shown

oldest_of : (series : List Schema) (oldest : memory.FrozenPair) (newer : List memory.FrozenPair) (frozen : List state.FrozenContent) → AllZip (IsFrozenOf series) (oldest ∷ newer) frozen → Oldest series oldest frozen
oldest_of series oldest newer [] zip = absurd zip
oldest_of series oldest newer (shown ∷ others) zip = record { shown = shown; newer = others; are = refl; of = zip.0 }

same_numbers : (sequence unsequence : Option FileNumber) → if_some (option_map number_of sequence) ++ if_some (option_map number_of unsequence) ≡ map number_of (if_some sequence ++ if_some unsequence)
same_numbers None None = refl
same_numbers None (Some late) = refl
same_numbers (Some on_time) None = refl
same_numbers (Some on_time) (Some late) = refl

abbrev flush_of : state.FrozenContent → FlushJob → state.FlushState
flush_of oldest job = record { born = oldest.born; pair = oldest.pair; sequence = option_map number_of job.sequence; unsequence = option_map number_of job.unsequence }

pub taken_flush : (store : memory.MemoryState) (job : FlushJob) (engine : state.EngineState) → IsMemoryOf store engine.store → IsJobTaken store engine.next_file job → IsJob job → engine.next_file + 2 ≤ end_of_numbers
    → (flush : state.FlushState) × IsFlushOf job flush × TakesFlush flush engine × (drawn_by flush ≡ job_numbers job)
taken_flush store job engine is taken whole left = (
  flush_of oldest.shown job,
  record { series = store.series; of = taken.of; born = oldest.of.born ∙ sym taken.born; pair = pair; sequence = refl; unsequence = refl },
  record {
    oldest = oldest.shown;
    newer = oldest.newer;
    are = oldest.are;
    born = refl;
    pair = refl;
    sequence = drawn store.series Sequence (arc_value job.pair) job.schemas job.series oldest.shown.pair.sequence taken.of pair.sequence job.sequence whole.sequence_drawn;
    unsequence = drawn store.series Unsequence (arc_value job.pair) job.schemas job.series oldest.shown.pair.unsequence taken.of pair.unsequence job.unsequence whole.unsequence_drawn;
    numbers = subst (λ (l : List ℕ). l ≡ range_with_len engine.next_file (length l)) (sym same) taken.numbers;
    left = left;
  },
  same,
)
  where
    oldest : Oldest store.series taken.oldest engine.store.frozen
    oldest = oldest_of store.series taken.oldest taken.newer engine.store.frozen (subst (λ (l : List memory.FrozenPair). AllZip (IsFrozenOf store.series) l engine.store.frozen) taken.are is.frozen)

    pair : IsPairOf store.series (arc_value job.pair) oldest.shown.pair
    pair = subst (λ (p : Pair). IsPairOf store.series p oldest.shown.pair) (sym taken.pair) oldest.of.pair

    same : drawn_by (flush_of oldest.shown job) ≡ job_numbers job
    same = same_numbers job.sequence job.unsequence
