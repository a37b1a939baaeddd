-- Each step keeps an engine stored.
use Rattle.std.proofs.Common.{◌≡◌, ℕ, ℤ, ◌≤◌, Bool, true, false, List, [], ◌∷◌, ◌++◌, map, None}
use Rattle.std.proofs.Common.{inl, inr, refl, sym, ap, subst, ◌∙◌, arith}
use Rattle.std.specs.Prelude.{IfSome, nat_eq, not}
use Rattle.std.specs.List.{All, AllByRecursion as Each, list_any}
use Rattle.std.proofs.lemmas.List.Elements.{All-append, All-cons, All-nil}
use Rattle.tsdb_base.specs.declared.point.Range.{Range}
use Rattle.tsdb_state.proofs.ImageLemmas.After.{listed_after, named_drawn, named_output}
use Rattle.tsdb_state.proofs.ImageLemmas.Kept.{each_passed, found_bytes, found_with_more, found_without, kept_by_number, whole_as}
use Rattle.tsdb_state.proofs.ImageLemmas.Leaving.{kept_listed, kept_outgoing}
use Rattle.tsdb_state.specs.StoredEngine.{AreOutgoing, IsKeptWhole, IsStored, built_files, kept_bytes, without_numbers}
use Rattle.tsdb_base.proofs.Lists.{each_among, each_append, each_both, each_from_among, each_left}
use Rattle.tsdb_base.proofs.Lists.{each_weaker, with_one_is}
use Rattle.tsdb_base.specs.Lists.{Among, IsWithOne, count}
use Rattle.tsdb_log.specs.Spelling.{IsRecord}
use Rattle.tsdb_log.specs.declared.record.CellRecord.{CellRecord}
use Rattle.tsdb_log.specs.declared.record.LogRecord.{LogRecord}
use Rattle.tsdb_log.specs.declared.record.LogRecord.TheVariants.{Create, Delete, Freeze, Insert}
use Rattle.tsdb_model.specs.declared.command.Schema.{Schema}
use Rattle.tsdb_outside.specs.Files.{StoredFile}
use Rattle.tsdb_state.proofs.ReplayLemmas.Doubts.{replays_more}
use Rattle.tsdb_state.specs.Replays.{Replays}
use Rattle.tsdb_state.specs.Stores.{Recorded, store_steps}
use Rattle.tsdb_state.proofs.EngineCompaction.{begin_step, commit_can, commit_step, end_step}
use Rattle.tsdb_state.proofs.EngineDoubts.{failed_commit_step, failed_flush_step}
use Rattle.tsdb_state.proofs.EngineFlush.{commit_flush_step, end_flush_step, flush_can, take_flush_step}
use Rattle.tsdb_state.proofs.EngineRecords.{create_doubt, create_step, delete_doubt, delete_step, fail_step}
use Rattle.tsdb_state.proofs.EngineRecords.{freeze_doubt, freeze_step, insert_doubt, insert_step, settle_step}
use Rattle.tsdb_state.proofs.EngineRest.{not_among, pin_step, sweep_step, unpin_step}
use Rattle.tsdb_state.proofs.Fresh.{count_here}
use Rattle.tsdb_state.proofs.OtherJobs.{inputs_listed}
use Rattle.tsdb_state.proofs.Numbering.{count_files}
use Rattle.tsdb_state.proofs.Told.{opened_in_order, order_same}
use Rattle.tsdb_state.specs.Commands.{KeepsBytes}
use Rattle.tsdb_state.specs.Jobs.{EntriesMatch, NumbersInOrder, Stands, drawn_by, job_inputs}
use Rattle.tsdb_state.specs.NewStore.{opened}
use Rattle.tsdb_state.specs.Order.{DoubtInOrder, IsInOrder, all_files}
use Rattle.tsdb_state.specs.Records.{CanCreate, CanDelete, CanFollow, CanFreeze, CanInsert, after, names}
use Rattle.tsdb_state.specs.Records.{numbers_of}
use Rattle.tsdb_state.specs.State.{Compaction, EngineState, KnownFiles, File, FlushState, PinState, StoreState, ToldContents}
use Rattle.tsdb_state.specs.StoreOrder.{StoreInOrder}
use Rattle.tsdb_state.specs.Steps.{Begins, CommitsCompaction, CommitsFlush, EndsCompaction, EndsFlush, Sweeps}
use Rattle.tsdb_state.specs.Steps.{TakesFlush, TakesPin, began, committed, committed_flush, compaction_record}
use Rattle.tsdb_state.specs.Steps.{ended, ended_flush, failed, flush_record, pinned}
use Rattle.tsdb_state.specs.Steps.{settled, swept, took_flush, unpinned, wrote}

-- the files that a flush has built have the numbers that it has drawn
pub built_numbers : (born : ℕ) (numbers : List ℕ)
    → numbers_of (map (λ number. record { number = number; born = born }) numbers) ≡ numbers
built_numbers born [] = refl
built_numbers born (number ∷ numbers) = ap (λ rest. number ∷ rest) (built_numbers born numbers)

counted : (n : ℕ) (xs : List ℕ) → Among n xs → 1 ≤ count n xs
counted n [] among = absurd among
counted n (x ∷ xs) (inl is) = subst (λ x. 1 ≤ count n (x ∷ xs)) (sym is) (omega (arith, count_here n xs))
counted n (x ∷ xs) (inr among) = let rest = counted n xs among in omega (arith, rest)

pub no_longer : (a b : ℕ) → a ≡ b → a ≤ b
no_longer a b e = omega arith

module _ (items : List LogRecord) (kept : List StoredFile) (told : ToldContents) (known : KnownFiles) (state : EngineState)
    (stored : IsStored items kept told known state) where
  abbrev listed : List File
  listed = state.store.sequence ++ state.store.unsequence

  abbrev named : List ℕ
  named = stored.named

  abbrev old : Recorded
  old = record { named = named; store = state.store }

  -- a step that appends no record
  same_log : (new : EngineState) → new.store ≡ state.store → IsInOrder told known named new
      → Each (IsKeptWhole kept told) (all_files new) → IfSome new.doubt IsRecord → IsStored items kept told known new
  same_log new same order whole doubt = record {
    named = named;
    good = stored.good;
    replayed = subst (λ store. Replays store_steps store_steps.new_store items (record { named = named; store = store }))
        (sym same) stored.replayed;
    order = order;
    whole = whole;
    doubt = doubt;
  }

  -- a step that appends one
  one_more : (item : LogRecord) (other : EngineState) → other.store ≡ state.store → IsRecord item
      → CanFollow named item state.store → IsInOrder told known (names item ++ named) (wrote item other)
      → Each (IsKeptWhole kept told) (all_files (wrote item other))
      → IsStored (items ++ item ∷ []) kept told known (wrote item other)
  one_more item other same good can order whole = record {
    named = names item ++ named;
    good = All-append IsRecord items (item ∷ []) stored.good (All-cons IsRecord item [] good (All-nil IsRecord));
    replayed = replays_more store_steps items item store_steps.new_store old
        (record { named = names item ++ named; store = after item other.store }) stored.replayed (
          can,
          ap (λ (store : StoreState). record { named = names item ++ named; store = after item store }) same,
        );
    order = order;
    whole = whole;
    doubt = tt;
  }

  -- COMMANDS
  pub create_stored : (schema : Schema) → CanCreate schema state.store
      → IsRecord (Create schema.path schema.data_type schema.encoding)
      → IsStored (items ++ Create schema.path schema.data_type schema.encoding ∷ []) kept told known
      (wrote (Create schema.path schema.data_type schema.encoding) state)
  create_stored schema can good = one_more (Create schema.path schema.data_type schema.encoding) state refl good can
      (create_step told known named state stored.order schema can) stored.whole

  pub insert_stored : (time : ℤ) (cells : List CellRecord) → CanInsert time cells state.store
      → KeepsBytes time cells state.store → IsRecord (Insert time cells)
      → IsStored (items ++ Insert time cells ∷ []) kept told known (wrote (Insert time cells) state)
  insert_stored time cells can bytes good = one_more (Insert time cells) state refl good can
      (insert_step told known named state stored.order time cells can bytes) stored.whole

  pub delete_stored : (path : List ℕ) (range : Range) → CanDelete path state.store → IsRecord (Delete path range)
      → IsStored (items ++ Delete path range ∷ []) kept told known (wrote (Delete path range) state)
  delete_stored path range can good = one_more (Delete path range) state refl good can
      (delete_step told known named state stored.order path range can) stored.whole

  pub freeze_stored : CanFreeze state.store → IsRecord Freeze
      → IsStored (items ++ Freeze ∷ []) kept told known (wrote Freeze state)
  freeze_stored can good = one_more Freeze state refl good can
      (freeze_step told known named state stored.order can) stored.whole

  -- DOUBTS
  pub failed_stored : (item : LogRecord) → DoubtInOrder told named state.store state.outgoing item → IsRecord item
      → IsStored items kept told known (failed item state)
  failed_stored item doubt good = same_log (failed item state) refl
      (fail_step told known named state stored.order item doubt) stored.whole good

  pub create_failed : (schema : Schema) → CanCreate schema state.store
      → IsRecord (Create schema.path schema.data_type schema.encoding)
      → IsStored items kept told known (failed (Create schema.path schema.data_type schema.encoding) state)
  create_failed schema can = failed_stored (Create schema.path schema.data_type schema.encoding)
      (create_doubt told known named state stored.order schema can)

  pub insert_failed : (time : ℤ) (cells : List CellRecord) → CanInsert time cells state.store
      → KeepsBytes time cells state.store → IsRecord (Insert time cells)
      → IsStored items kept told known (failed (Insert time cells) state)
  insert_failed time cells can bytes = failed_stored (Insert time cells)
      (insert_doubt told known named state stored.order time cells can bytes)

  pub delete_failed : (path : List ℕ) (range : Range) → CanDelete path state.store → IsRecord (Delete path range)
      → IsStored items kept told known (failed (Delete path range) state)
  delete_failed path range can = failed_stored (Delete path range)
      (delete_doubt told known named state stored.order path range can)

  pub freeze_failed : CanFreeze state.store → IsRecord Freeze → IsStored items kept told known (failed Freeze state)
  freeze_failed can = failed_stored Freeze (freeze_doubt told known named state stored.order can)

  pub settled_stored : IsStored items kept told known (settled state)
  settled_stored = same_log (settled state) refl (settle_step told known named state stored.order) stored.whole tt

  -- files that are kept go out
  more_outgoing : (built : List File) → Each (IsKeptWhole kept told) built
      → Each (IsKeptWhole kept told) (listed ++ (state.outgoing ++ built))
  more_outgoing built all = each_append (IsKeptWhole kept told) listed (state.outgoing ++ built)
      (kept_listed items kept told known state stored)
      (each_append (IsKeptWhole kept told) state.outgoing built (kept_outgoing items kept told known state stored) all)

  -- the files after a record, where those that it names and those that go out are kept
  listed_more : (item : LogRecord) (built : List File)
      → ((number : ℕ) → Among number (names item) → (born : ℕ)
      → IsKeptWhole kept told (record { number = number; born = born }))
      → Each (IsKeptWhole kept told) built
      → Each (IsKeptWhole kept told) (((after item state.store).sequence ++ (after item state.store).unsequence)
      ++ (state.outgoing ++ built))
  listed_more item built new all = each_append (IsKeptWhole kept told)
      ((after item state.store).sequence ++ (after item state.store).unsequence) (state.outgoing ++ built)
      (listed_after (IsKeptWhole kept told) item state.store new (kept_listed items kept told known state stored))
      (each_append (IsKeptWhole kept told) state.outgoing built (kept_outgoing items kept told known state stored) all)

  -- FLUSHES
  pub take_flush_stored : (flush : FlushState) → TakesFlush flush state
      → IsStored items kept told known (took_flush flush state)
  take_flush_stored flush takes = same_log (took_flush flush state) refl
      (take_flush_step told known named state stored.order flush takes) stored.whole stored.doubt

  pub end_flush_stored : (flush : FlushState) (others : List FlushState) (built : List File)
      → EndsFlush flush others built state → Each (IsKeptWhole kept told) built
      → IsStored items kept told known (ended_flush flush others built state)
  end_flush_stored flush others built ends all = same_log (ended_flush flush others built state) refl
      (end_flush_step told known named state stored.order flush others built ends) (more_outgoing built all)
      stored.doubt

  module _ (flush : FlushState) (others : List FlushState) (commits : CommitsFlush told known flush others state)
      (good : IsRecord (flush_record flush)) (all : Each (IsKeptWhole kept told) (built_files flush)) where
    drawn : (number : ℕ) → Among number (names (flush_record flush)) → Among number (drawn_by flush)
    drawn number among = named_drawn flush.sequence flush.unsequence number among

    is_kept : (number : ℕ) → Among number (names (flush_record flush)) → (born : ℕ)
        → IsKeptWhole kept told (record { number = number; born = born })
    is_kept number among = kept_by_number kept told (built_files flush) all number
        (subst (Among number) (sym (built_numbers flush.born (drawn_by flush))) (drawn number among))

    pub commit_flush_stored : IsStored (items ++ flush_record flush ∷ []) kept told known
        (committed_flush flush others state)
    commit_flush_stored = one_more (flush_record flush) (ended_flush flush others [] state) refl good
        (flush_can told known named state stored.order flush others commits)
        (commit_flush_step told known named state stored.order flush others commits)
        (listed_more (flush_record flush) [] is_kept tt)

    pub flush_failed : IsStored items kept told known
        (failed (flush_record flush) (ended_flush flush others (built_files flush) state))
    flush_failed = same_log (failed (flush_record flush) (ended_flush flush others (built_files flush) state)) refl
        (failed_flush_step told known named state stored.order flush others (built_files flush) commits (record {
          out = commits.out;
          files = λ number. no_longer (count number (numbers_of (built_files flush))) (count number (drawn_by flush))
              (ap (count number) (built_numbers flush.born (drawn_by flush)));
        })
        (each_from_among (λ number. Among number (numbers_of (built_files flush))) (names (flush_record flush))
        (λ number among. subst (Among number) (sym (built_numbers flush.born (drawn_by flush)))
        (drawn number among))))
        (more_outgoing (built_files flush) all) good

  -- COMPACTIONS
  pub begin_stored : (job : Compaction) → Begins told job state → IsStored items kept told known (began job state)
  begin_stored job begins = same_log (began job state) refl
      (begin_step told known named state stored.order job begins) stored.whole stored.doubt

  pub end_stored : (job : Compaction) (others : List Compaction) (built : List File)
      → EndsCompaction job others built state → Each (IsKeptWhole kept told) built
      → IsStored items kept told known (ended job others built state)
  end_stored job others built ends all = same_log (ended job others built state) refl
      (end_step told known named state stored.order job others built ends) (more_outgoing built all) stored.doubt

  module _ (job : Compaction) (others : List Compaction) (output : List File) (place : ℕ)
      (commits : CommitsCompaction told known job others output place state)
      (good : IsRecord (compaction_record job output place)) (all : Each (IsKeptWhole kept told) output) where
    inputs_kept : Each (IsKeptWhole kept told) (job_inputs job)
    inputs_kept = each_weaker (λ file. Among file listed) (IsKeptWhole kept told)
        (λ file. each_among (IsKeptWhole kept told) listed file (kept_listed items kept told known state stored))
        (job_inputs job)
        (inputs_listed told state.store.sequence state.store.unsequence job job.space
        (with_one_is _ job others state.compactions commits.out stored.order.compactions.kinds)
        (with_one_is (λ job. Stands job.space told state.store.sequence state.store.unsequence job) job others
        state.compactions commits.out stored.order.compactions.stand))

    pub commit_stored : IsStored (items ++ compaction_record job output place ∷ []) kept told known
        (committed job others output place state)
    commit_stored = one_more (compaction_record job output place) (ended job others (job_inputs job) state) refl good
        (commit_can told known named state stored.order job others output place commits)
        (commit_step told known named state stored.order job others output place commits)
        (listed_more (compaction_record job output place) (job_inputs job)
        (λ number among. kept_by_number kept told output all number (named_output output number among)) inputs_kept)

    pub commit_failed : IsStored items kept told known
        (failed (compaction_record job output place) (ended job others output state))
    commit_failed = same_log (failed (compaction_record job output place) (ended job others output state)) refl
        (failed_commit_step told known named state stored.order job others output place commits)
        (more_outgoing output all) good

  -- PINS AND SWEEPS
  pub pin_stored : (pin : PinState) → TakesPin known pin state → IsStored items kept told known (pinned pin state)
  pin_stored pin takes = same_log (pinned pin state) refl (pin_step told known named state stored.order pin takes)
      stored.whole stored.doubt

  pub unpin_stored : (pin : PinState) (others : List PinState) → IsWithOne pin others state.pins
      → IsStored items kept told known (unpinned pin others state)
  unpin_stored pin others out = same_log (unpinned pin others state) refl
      (unpin_step told known named state stored.order pin others out) stored.whole stored.doubt

  -- what else is kept is free
  pub others_kept : (others : List StoredFile)
      → Each (λ file. kept_bytes others file.number ≡ kept_bytes kept file.number) (all_files state)
      → IsStored items others told known state
  others_kept others same = record {
    named = named;
    good = stored.good;
    replayed = stored.replayed;
    order = stored.order;
    whole = each_both (λ file. kept_bytes others file.number ≡ kept_bytes kept file.number) (IsKeptWhole kept told)
        (IsKeptWhole others told)
        (λ file as_kept. whole_as (kept_bytes kept) (kept_bytes others) told told file file refl refl
        (λ bytes there. as_kept ∙ there)) (all_files state) same stored.whole;
    doubt = stored.doubt;
  }

  pub more_kept : (more : List StoredFile) → IsStored items (kept ++ more) told known state
  more_kept more = record {
    named = named;
    good = stored.good;
    replayed = stored.replayed;
    order = stored.order;
    whole = each_weaker (IsKeptWhole kept told) (IsKeptWhole (kept ++ more) told)
        (λ file. whole_as (kept_bytes kept) (kept_bytes (kept ++ more)) told told file file refl refl
        (λ bytes. found_with_more kept more file.number bytes)) (all_files state) stored.whole;
    doubt = stored.doubt;
  }

  pub others_told : (other : ToldContents) (entries : KnownFiles) → state.doubt ≡ None
      → Each (λ file. told file.number ≡ other file.number) (all_files state)
      → Each (λ file. known file.number ≡ entries file.number) listed → IsStored items kept other entries state
  others_told other entries none same as_known = record {
    named = named;
    good = stored.good;
    replayed = stored.replayed;
    order = order_same told other known entries named state stored.order none
        (each_left (λ file. told file.number ≡ other file.number) listed state.outgoing same) as_known;
    whole = each_both (λ file. told file.number ≡ other file.number) (IsKeptWhole kept told) (IsKeptWhole kept other)
        (λ file as_told. whole_as (kept_bytes kept) (kept_bytes kept) told other file file refl as_told
        (λ bytes there. there)) (all_files state) same stored.whole;
    doubt = stored.doubt;
  }

  module _ (numbers : List ℕ) (out : AreOutgoing numbers state) where
    abbrev left : List StoredFile
    left = without_numbers numbers kept

    stays : (file : File) → IsKeptWhole kept told file → list_any (nat_eq file.number) numbers ≡ false
        → IsKeptWhole left told file
    stays file whole other = whole_as (kept_bytes kept) (kept_bytes left) told told file file refl refl
        (λ bytes there. ap found_bytes (found_without numbers kept file.number other) ∙ there) whole

    -- a listed file is none that is swept
    not_swept : (file : File) → Among file listed → list_any (nat_eq file.number) numbers ≡ false
    not_swept file among = not_among file.number numbers (λ of_swept.
        let outgoing = counted file.number (numbers_of state.outgoing)
        (each_among (λ n. Among n (numbers_of state.outgoing)) numbers file.number out of_swept) in
        let here = counted file.number (numbers_of listed) (among_numbers file listed among) in
        let differ = stored.order.numbers.differ file.number in
        omega (arith, outgoing, here, differ, count_files file.number listed state.outgoing))
      where
        among_numbers : (file : File) (files : List File) → Among file files → Among file.number (numbers_of files)
        among_numbers file [] among = absurd among
        among_numbers file (first ∷ files) (inl is) = inl (ap (λ (f : File). f.number) is)
        among_numbers file (first ∷ files) (inr among) = inr (among_numbers file files among)

    turned : (b : Bool) → not b ≡ true → b ≡ false
    turned true is = sym is
    turned false is = refl

    pub sweep_stored : Sweeps numbers state → IsStored items left told known (swept numbers state)
    sweep_stored sweeps = record {
      named = named;
      good = stored.good;
      replayed = stored.replayed;
      order = sweep_step told known named state stored.order numbers sweeps;
      whole = each_append (IsKeptWhole left told) listed (swept numbers state).outgoing
          (each_from_among (IsKeptWhole left told) listed (λ file among. stays file
          (each_among (IsKeptWhole kept told) listed file (kept_listed items kept told known state stored) among)
          (not_swept file among)))
          (each_passed (IsKeptWhole kept told) (IsKeptWhole left told)
          (λ (file : File). not (list_any (nat_eq file.number) numbers)) state.outgoing
          (λ file whole is. stays file whole (turned (list_any (nat_eq file.number) numbers) is))
          (kept_outgoing items kept told known state stored));
      doubt = stored.doubt;
    }

-- an engine that was just opened
pub opened_stored : (items : List LogRecord) (kept : List StoredFile) (told : ToldContents) (known : KnownFiles)
    (recorded : Recorded) (next : ℕ) → All IsRecord items
    → Replays store_steps store_steps.new_store items recorded → StoreInOrder told recorded.store
    → Each (IsKeptWhole kept told) (recorded.store.sequence ++ recorded.store.unsequence)
    → NumbersInOrder recorded.named next ((recorded.store.sequence ++ recorded.store.unsequence) ++ []) []
    → EntriesMatch told known (recorded.store.sequence ++ recorded.store.unsequence)
    → IsStored items kept told known (opened next recorded.store)
opened_stored items kept told known recorded next good replayed order whole numbers entries = record {
  named = recorded.named;
  good = good;
  replayed = replayed;
  order = opened_in_order told known recorded.named next recorded.store order numbers entries;
  whole = each_append (IsKeptWhole kept told) (recorded.store.sequence ++ recorded.store.unsequence) [] whole tt;
  doubt = tt;
}
