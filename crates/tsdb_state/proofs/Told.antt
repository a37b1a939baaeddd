-- What is told of files that are not there, and what is kept of them, is free.
use Rattle.std.proofs.Common.{◌≡◌, ℕ, arith, List, ◌∷◌, ◌++◌, map, refl, sym, ◌∙◌, subst, []}
use Rattle.std.specs.List.{AllByRecursion as Each}
use Rattle.std.specs.Prelude.{IfSome, None}
use Rattle.tsdb_base.specs.declared.ids.Space.{Space}
use Rattle.tsdb_base.specs.declared.ids.Space.TheVariants.{Sequence, Unsequence}
use Rattle.tsdb_base.proofs.Lists.{each_among, each_append, each_both, each_from_among, each_left, each_right}
use Rattle.tsdb_state.specs.Layers.{Layer, survivor, value_in}
use Rattle.tsdb_base.specs.Lists.{Among}
use Rattle.tsdb_state.specs.Marks.{marks_up_to}
use Rattle.tsdb_state.specs.LayerOrder.{IsBelow, Rises}
use Rattle.tsdb_state.specs.Places.{Content, PointPlace}
use Rattle.tsdb_marks.specs.declared.marks.Mark.{Mark}
use Rattle.tsdb_state.proofs.OtherJobs.{inputs_listed}
use Rattle.tsdb_state.proofs.Typed.{AreTyped}
use Rattle.tsdb_state.specs.Jobs.{CompactionsInOrder, Describes, EntriesMatch, HasKind, KeepsItsMarks, NumbersInOrder}
use Rattle.tsdb_state.specs.Jobs.{Stands, job_inputs}
use Rattle.tsdb_state.specs.NewStore.{opened}
use Rattle.tsdb_state.specs.Order.{DoubtInOrder, IsInOrder}
use Rattle.tsdb_state.specs.State.{Compaction, EngineState, KnownFiles, File, StoreState, ToldContents}
use Rattle.tsdb_state.specs.StoreOrder.{LateIsBelow, StoreInOrder}
use Rattle.tsdb_state.specs.Views.{file_layers, pair_layers, sequence_layer, unsequence_layer}
use Rattle.tsdb_state.specs.Worlds.{value_at_place}
use Rattle.tsdb_state.proofs.EngineRecords.{jobs_moved}

module _ (told other : ToldContents) where
  abbrev Same : File → Type 0
  Same file = told file.number ≡ other file.number

  pub layers_same : (files : List File) → Each Same files → file_layers told files ≡ file_layers other files
  layers_same [] same = refl
  layers_same (file ∷ files) same = λ i. record { born = file.born; content = same.0 i } ∷ layers_same files same.1 i

  module _ (state : StoreState) (sequence : Each Same state.sequence) (unsequence : Each Same state.unsequence) where
    files_same : file_layers told state.sequence ≡ file_layers other state.sequence
    files_same = layers_same _ sequence

    late_same : file_layers told state.unsequence ≡ file_layers other state.unsequence
    late_same = layers_same _ unsequence

    pub value_same : (place : PointPlace) → value_at_place told state place ≡ value_at_place other state place
    value_same place = λ i. value_in state.marks place ((files_same i ++
        (map sequence_layer state.frozen ++ sequence_layer (record { born = state.stamp; pair = state.working }) ∷ []))
        ++ (late_same i ++ (map unsequence_layer state.frozen ++ unsequence_layer
        (record { born = state.stamp; pair = state.working }) ∷ [])))

    pub store_same : StoreInOrder told state → StoreInOrder other state
    store_same order = record {
      layers = record {
        rises = subst (λ layers. Rises (layers ++ map sequence_layer state.frozen)) files_same order.layers.rises;
        late = subst (λ layers. LateIsBelow layers state.frozen) late_same order.layers.late;
        below = subst (λ layers. IsBelow state.watermarks (layers ++ map sequence_layer state.frozen)) files_same
            order.layers.below;
        late_below = subst (λ layers. IsBelow state.watermarks (layers ++ map unsequence_layer state.frozen)) late_same
            order.layers.late_below;
        working_below = order.layers.working_below;
        above = order.layers.above;
      };
      stamps = order.stamps;
      series = record {
        formed = order.series.formed;
        once = order.series.once;
        typed = subst (λ (layers : List Layer). AreTyped state.schemas layers)
            (λ i. (files_same i ++ late_same i) ++ ((map sequence_layer state.frozen ++ map unsequence_layer
            state.frozen) ++ pair_layers state.working)) order.series.typed;
      };
      live = λ place value is. order.live place value (value_same _ ∙ is);
      limit = order.limit;
    }

    -- jobs that are out

    abbrev Listed : File → Type 0
    Listed file = Among file (state.sequence ++ state.unsequence)

    listed_same : (files : List File) → Each Listed files → Each Same files
    listed_same files listed = each_from_among _ _ (λ file among. each_among _ _ _
        (each_append _ _ _ sequence unsequence) (each_among _ _ _ listed among))

    stands_same : (job : Compaction) (space : Space) → HasKind space job
        → Stands space told state.sequence state.unsequence job → Stands space other state.sequence state.unsequence job
    stands_same job Sequence kind gap =
        let all = subst (Each Same) gap.run.is sequence in
        let late = layers_same job.unsequence (each_left Same job.unsequence gap.later
        (subst (Each Same) gap.first unsequence)) in
        record {
          run = gap.run;
          place = gap.place;
          later = gap.later;
          first = gap.first;
          below = rw (← layers_same gap.run.before (each_left Same gap.run.before _ all), ← late) gap.below;
          above = rw (
            ← late,
            ← layers_same gap.run.behind (each_right Same job.sequence _
                (each_right Same gap.run.before _ all)),
          ) gap.above;
        }
    stands_same job Unsequence kind run = run

    marked_same : (stamp : ℕ) (marks : List Mark) (job : Compaction) → Each Same (job_inputs job)
        → KeepsItsMarks told stamp marks job → KeepsItsMarks other stamp marks job
    marked_same stamp marks job same marked = record {
      reached = marked.reached;
      older = marked.older;
      same = λ place. each_both _ _ _ (λ file e is. subst (λ (content : Content). survivor job.marks place
          (record { born = file.born; content = content }) ≡ survivor (marks_up_to job.born marks) place
          (record { born = file.born; content = content })) e is) _ same (marked.same place);
    }

    pub jobs_same : (stamp : ℕ) (marks : List Mark) (jobs : List Compaction)
        → CompactionsInOrder told stamp marks state.sequence state.unsequence jobs
        → CompactionsInOrder other stamp marks state.sequence state.unsequence jobs
    jobs_same stamp marks jobs order = jobs_moved _ order.kinds (λ job k kind stands marked. (
      stands_same _ _ kind stands,
      marked_same _ _ _ (listed_same _ (inputs_listed _ _ _ _ _ kind stands)) marked,
    )) order

pub entries_same : (told other : ToldContents) (known entries : KnownFiles) (files : List File)
    → Each (λ file. told file.number ≡ other file.number) files
    → Each (λ file. known file.number ≡ entries file.number) files
    → EntriesMatch told known files → EntriesMatch other entries files
entries_same told other known entries [] same kept match = tt
entries_same told other known entries (file ∷ files) same kept match = (
  subst (λ entry. Describes entry (other file.number)) kept.0 (subst (Describes (known file.number)) same.0 match.0),
  entries_same told other known entries files same.1 kept.1 match.1,
)

pub order_same : (told other : ToldContents) (known entries : KnownFiles) (named : List ℕ) (state : EngineState)
    → IsInOrder told known named state → state.doubt ≡ None
    → Each (λ file. told file.number ≡ other file.number) (state.store.sequence ++ state.store.unsequence)
    → Each (λ file. known file.number ≡ entries file.number) (state.store.sequence ++ state.store.unsequence)
    → IsInOrder other entries named state
order_same told other known entries named state order settled same kept =
    let Is = λ (file : File). told file.number ≡ other file.number in
    let s = state.store in
    let first = each_left _ _ _ same in
    let second = each_right _ _ _ same in
    record {
      store = store_same _ _ s first second order.store;
      flushes = order.flushes;
      compactions = jobs_same _ _ s first second _ _ _ order.compactions;
      numbers = order.numbers;
      entries = entries_same _ _ _ _ _ same kept order.entries;
      rights = order.rights;
      room = order.room;
      doubt = subst (λ doubt. IfSome doubt (DoubtInOrder other named s state.outgoing)) (sym settled) tt;
    }

-- an engine with nothing out
pub opened_in_order : (told : ToldContents) (known : KnownFiles) (named : List ℕ) (next : ℕ) (state : StoreState)
    → StoreInOrder told state
    → NumbersInOrder named next ((state.sequence ++ state.unsequence) ++ []) []
    → EntriesMatch told known (state.sequence ++ state.unsequence) → IsInOrder told known named (opened next state)
opened_in_order told known named next state order numbers match = record {
  store = order;
  flushes = tt;
  compactions = record { kinds = tt; stand = tt; apart = tt; marked = tt };
  numbers = numbers;
  entries = match;
  rights = record { counts = λ number. refl; there = λ number some. absurd (omega arith) };
  room = record {
    sequence = omega arith;
    unsequence = omega arith;
    outgoing = omega arith;
    flushed = tt;
    replaced = tt;
  };
  doubt = tt;
}
