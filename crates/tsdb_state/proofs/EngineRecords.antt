-- Commands and freezes keep an engine in order.
use Rattle.std.proofs.Common.{ℕ, ℤ, ◌+◌, ◌<◌, ◌≤◌, List, ◌∷◌, ◌++◌, refl, arith, []}
use Rattle.std.specs.Prelude.{None}
use Rattle.std.specs.List.{AllByRecursion as Each}
use Rattle.tsdb_base.specs.declared.point.Range.{Range}
use Rattle.tsdb_base.proofs.Lists.{each_append, each_weaker}
use Rattle.tsdb_state.specs.Marks.{purge}
use Rattle.tsdb_log.specs.declared.record.CellRecord.{CellRecord}
use Rattle.tsdb_log.specs.declared.record.LogRecord.{LogRecord}
use Rattle.tsdb_log.specs.declared.record.LogRecord.TheVariants.{Create, Delete, Freeze, Insert}
use Rattle.tsdb_model.specs.declared.command.Schema.{Schema}
use Rattle.tsdb_marks.specs.declared.marks.Mark.{Mark}
use Rattle.tsdb_state.proofs.Creating.{created_in_order}
use Rattle.tsdb_state.proofs.Deleting.{deleted_in_order}
use Rattle.tsdb_state.proofs.Freezing.{froze_in_order, froze_keeps}
use Rattle.tsdb_state.proofs.Inserting.{inserted_in_order}
use Rattle.tsdb_state.proofs.OtherJobs.{born_listed, inputs_listed, marked_delete, marked_purge, marked_up}
use Rattle.tsdb_state.specs.Commands.{KeepsBytes}
use Rattle.tsdb_state.specs.Jobs.{CompactionsInOrder, HasKind, IsFlushOut, KeepsItsMarks, Stands}
use Rattle.tsdb_state.specs.Limit.{IsEmptyPair, empty_pair}
use Rattle.tsdb_state.specs.Order.{DoubtInOrder, IsInOrder}
use Rattle.tsdb_state.specs.Records.{CanCreate, CanDelete, CanFreeze, CanInsert, add_mark, created, cut_pair, deleted}
use Rattle.tsdb_state.specs.Records.{froze, inserted}
use Rattle.tsdb_state.specs.State.{Compaction, EngineState, KnownFiles, File, FlushState, FrozenContent, PairContent, StoreState, ToldContents}
use Rattle.tsdb_state.specs.Steps.{failed}
use Rattle.tsdb_state.specs.Views.{borns_of, working_pair}

-- flushes that are out, where the stamp rises
pub flushes_up : (stamp : ℕ) (frozen : List FrozenContent) (working new : PairContent) (flushes : List FlushState)
    → Each (IsFlushOut stamp frozen working) flushes → Each (IsFlushOut (stamp + 1) frozen new) flushes
flushes_up stamp frozen working new = each_weaker _ _ (λ flush out.
    let reached : flush.born ≤ stamp + 1 = omega (arith, out.reached) in
    let before : ¬ IsEmptyPair new → flush.born < stamp + 1 = λ some. omega (arith, out.reached) in
    search)

-- and where the working pair, which has a point, is frozen
flushes_frozen : (state : StoreState) (flushes : List FlushState) → ¬ IsEmptyPair state.working
    → Each (IsFlushOut state.stamp state.frozen state.working) flushes
    → Each (IsFlushOut state.stamp (state.frozen ++ working_pair state ∷ []) empty_pair) flushes
flushes_frozen state flushes some = each_weaker _ _ (λ flush out. record {
  reached = out.reached;
  before = λ empty. absurd (empty (refl, refl));
  oldest = each_append _ _ _ out.oldest (out.reached, tt);
  pair = each_append _ _ _ out.pair ((λ e. absurd (omega (arith, out.before some, e))), tt);
  sequence = out.sequence;
  unsequence = out.unsequence;
}) flushes

-- compactions that are out, where marks, the stamp and the lists of files change
pub jobs_moved : {told other : ToldContents} {stamp new : ℕ} {marks others : List Mark}
    {sequence unsequence new_sequence new_unsequence : List File} {jobs : List Compaction} (P : Compaction → Type 0)
    → Each P jobs
    → ((job : Compaction) → P job → HasKind job.space job → Stands job.space told sequence unsequence job
    → KeepsItsMarks told stamp marks job
    → Stands job.space other new_sequence new_unsequence job × KeepsItsMarks other new others job)
    → CompactionsInOrder told stamp marks sequence unsequence jobs
    → CompactionsInOrder other new others new_sequence new_unsequence jobs
jobs_moved {told} {other} {stamp} {new} {marks} {others} {sequence} {unsequence} {new_sequence} {new_unsequence} {jobs}
    P have change order =
    let found = all jobs have order.kinds order.stand order.marked in
    record { kinds = order.kinds; stand = found.0; apart = order.apart; marked = found.1 }
  where
    all : (jobs : List Compaction) → Each P jobs → Each (λ job. HasKind job.space job) jobs
        → Each (λ job. Stands job.space told sequence unsequence job) jobs → Each (KeepsItsMarks told stamp marks) jobs
        → Each (λ job. Stands job.space other new_sequence new_unsequence job) jobs
        × Each (KeepsItsMarks other new others) jobs
    all [] have kinds stand marked = (tt, tt)
    all (job ∷ jobs) have kinds stand marked =
        let here = change job have.0 kinds.0 stand.0 marked.0 in
        let rest = all jobs have.1 kinds.1 stand.1 marked.1 in
        ((here.0, rest.0), (here.1, rest.1))

-- a purge looks at the borns of all inputs
pub purge_kept : (told : ToldContents) (stamp : ℕ) (marks : List Mark) (state : StoreState) (job : Compaction)
    → HasKind job.space job → Stands job.space told state.sequence state.unsequence job
    → KeepsItsMarks told stamp marks job
    → KeepsItsMarks told stamp (purge (borns_of state) marks) job
purge_kept told stamp marks state job kind stands marked =
    marked_purge _ _ _ _ _ marked (each_weaker _ _ (born_listed state) _ (inputs_listed _ _ _ _ _ kind stands))

module _ (told : ToldContents) (known : KnownFiles) (named : List ℕ) (state : EngineState)
    (order : IsInOrder told known named state) where
  abbrev old : StoreState
  old = state.store

  -- the state with another store that has the same files, and nothing in doubt
  abbrev with_store : StoreState → EngineState
  with_store store = record state { store = store; doubt = None }

  -- where the stamp rises, and marks may join
  jobs_up : (marks : List Mark) → ((job : Compaction) → HasKind job.space job
      → Stands job.space told old.sequence old.unsequence job
      → KeepsItsMarks told old.stamp old.marks job → KeepsItsMarks told (old.stamp + 1) marks job)
      → CompactionsInOrder told (old.stamp + 1) marks old.sequence old.unsequence state.compactions
  jobs_up marks change = jobs_moved _ order.compactions.kinds
      (λ job k kind stands marked. (stands, change job kind stands marked)) order.compactions

  pub create_step : (schema : Schema) → CanCreate schema old
      → IsInOrder told known named (with_store (created schema old))
  create_step schema can =
      let store = created_in_order told schema old order.store can in
      let flushes = flushes_up old.stamp old.frozen old.working old.working state.flushes order.flushes in
      let jobs = jobs_up old.marks (λ job kind stands. marked_up told old.stamp old.marks job) in
      search

  pub insert_step : (time : ℤ) (cells : List CellRecord) → CanInsert time cells old → KeepsBytes time cells old
      → IsInOrder told known named (with_store (inserted time cells old))
  insert_step time cells can bytes =
      let store = inserted_in_order told time cells old order.store can bytes in
      let flushes = flushes_up old.stamp old.frozen old.working (inserted time cells old).working state.flushes
      order.flushes in
      let jobs = jobs_up old.marks (λ job kind stands. marked_up told old.stamp old.marks job) in
      search

  pub delete_step : (path : List ℕ) (range : Range) → CanDelete path old
      → IsInOrder told known named (with_store (deleted path range old))
  delete_step path range can =
      let store = deleted_in_order told path range old order.store can in
      let flushes = flushes_up old.stamp old.frozen old.working (cut_pair path range old.working) state.flushes
      order.flushes in
      let jobs = jobs_up (deleted path range old).marks (λ job kind stands marked. purge_kept told (old.stamp + 1)
      (add_mark path range (old.stamp + 1) old.marks) old job kind stands
      (marked_delete told old.stamp old.marks path range job marked)) in
      search

  pub freeze_step : CanFreeze old → IsInOrder told known named (with_store (froze old))
  freeze_step can =
      let store = froze_in_order told old order.store can in
      let flushes = flushes_frozen old state.flushes can.some order.flushes in
      search

  -- a record in doubt
  pub fail_step : (item : LogRecord) → DoubtInOrder told named old state.outgoing item
      → IsInOrder told known named (failed item state)
  fail_step item doubt = search

  pub settle_step : IsInOrder told known named (with_store old)
  settle_step = search order

  -- commands and freezes in doubt

  pub create_doubt : (schema : Schema) → CanCreate schema old
      → DoubtInOrder told named old state.outgoing (Create schema.path schema.data_type schema.encoding)
  create_doubt schema can =
      record { can = can; order = created_in_order told schema old order.store can; world = tt; kept = tt }

  pub insert_doubt : (time : ℤ) (cells : List CellRecord) → CanInsert time cells old → KeepsBytes time cells old
      → DoubtInOrder told named old state.outgoing (Insert time cells)
  insert_doubt time cells can bytes = record {
    can = can;
    order = inserted_in_order _ _ _ _ order.store can bytes;
    world = tt;
    kept = tt;
  }

  pub delete_doubt : (path : List ℕ) (range : Range) → CanDelete path old
      → DoubtInOrder told named old state.outgoing (Delete path range)
  delete_doubt path range can =
      record { can = can; order = deleted_in_order told path range old order.store can; world = tt; kept = tt }

  pub freeze_doubt : CanFreeze old → DoubtInOrder told named old state.outgoing Freeze
  freeze_doubt can = record {
    can = can;
    order = froze_in_order _ _ order.store can;
    world = froze_keeps _ _ order.store can;
    kept = tt;
  }
