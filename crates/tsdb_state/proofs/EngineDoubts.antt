-- Commits whose append failed.
use Rattle.std.proofs.Common.{◌≡◌, ℕ, Bool, true, false, cond, List, [], ◌∷◌, ◌++◌, inl, inr, refl, sym}
use Rattle.std.proofs.Common.{subst}
use Rattle.std.specs.Prelude.{◌==◌, Some, IfSome}
use Rattle.std.specs.List.{AllByRecursion as Each}
use mathlib.Core.List.{map-append}
use Rattle.tsdb_base.proofs.Lists.{among_right, each_weaker}
use Rattle.tsdb_base.specs.Lists.{Among}
use Rattle.tsdb_log.specs.declared.record.LogRecord.{LogRecord}
use Rattle.tsdb_state.proofs.CommitNumbers.{IsFileOrNone, count_output}
use Rattle.tsdb_state.proofs.EngineCompaction.{commit_can, commit_doubt, end_step, file}
use Rattle.tsdb_state.proofs.EngineFlush.{end_flush_step, flush_can, flush_doubt}
use Rattle.tsdb_state.proofs.EngineRecords.{fail_step}
use Rattle.tsdb_state.specs.Order.{DoubtInOrder, FollowsWorld, IsInOrder}
use Rattle.tsdb_state.specs.Records.{CanFollow, after, names, new_numbers, numbers_of}
use Rattle.tsdb_state.specs.State.{Compaction, EngineState, KnownFiles, File, FlushState, ToldContents}
use Rattle.tsdb_state.specs.Steps.{CommitsCompaction, CommitsFlush, EndsFlush, compaction_record, ended, ended_flush}
use Rattle.tsdb_state.specs.Steps.{failed}
use Rattle.tsdb_state.specs.Steps.{flush_record, output_number}
use Rattle.tsdb_state.specs.StoreOrder.{StoreInOrder}

out_too : (outgoing built : List File) (numbers : List ℕ) → Each (λ n. Among n (numbers_of built)) numbers
    → Each (λ n. Among n (numbers_of (outgoing ++ built))) numbers
out_too outgoing built = each_weaker _ _ (λ n among. subst (Among n)
    (sym (map-append (λ (f : File). f.number) outgoing built)) (among_right (numbers_of outgoing) _ n among))

-- the number of an output is that of its file
output_named : (job : Compaction) (output : List File) → IsFileOrNone job output
    → Each (λ n. Among n (numbers_of output)) (new_numbers (output_number output ∷ []))
output_named job output (inl none) = subst (λ files. Each (λ n. Among n (numbers_of files))
    (new_numbers (output_number files ∷ []))) (sym none) tt
output_named job output (inr one) = subst (λ files. Each (λ n. Among n (numbers_of files))
    (new_numbers (output_number files ∷ []))) (sym one) (by (job.output == 0))
  where
    by : (b : Bool) → Each (λ n. Among n (job.output ∷ [])) (cond b [] (job.output ∷ []))
    by true = tt
    by false = (inl refl, tt)

module _ (told : ToldContents) (known : KnownFiles) (named : List ℕ) (state : EngineState)
    (order : IsInOrder told known named state) where
  pub failed_flush_step : (flush : FlushState) (others : List FlushState) (built : List File)
      → CommitsFlush told known flush others state → EndsFlush flush others built state
      → Each (λ n. Among n (numbers_of built)) (names (flush_record flush))
      → IsInOrder told known named (failed (flush_record flush) (ended_flush flush others built state))
  failed_flush_step flush others built commits ends built_all = fail_step _ _ _ _
      (end_flush_step _ _ _ _ order _ _ _ ends) _ (flush_doubt _ _ _ _ order _ _ commits _ (out_too _ _ _ built_all))

  pub failed_commit_step : (job : Compaction) (others : List Compaction) (output : List File) (place : ℕ)
      → CommitsCompaction told known job others output place state
      → IsInOrder told known named (failed (compaction_record job output place) (ended job others output state))
  failed_commit_step job others output place commits =
      let of_job = file _ _ _ _ order _ _ _ _ commits in
      fail_step _ _ _ _ (end_step _ _ _ _ order _ _ _ (record
      { out = commits.out; files = λ n. (count_output n job output of_job).1 })) _
      (commit_doubt _ _ _ _ order _ _ _ _ commits _ (out_too _ _ _ (output_named job _ of_job)))

  -- what a record in doubt leads to
  pub doubt_is : (item : LogRecord) → state.doubt ≡ Some item
      → CanFollow named item state.store × StoreInOrder told (after item state.store)
      × FollowsWorld told item state.store
  doubt_is item is =
      let doubt = subst (λ o. IfSome o (DoubtInOrder told named state.store state.outgoing)) is order.doubt in
      (doubt.can, doubt.order, doubt.world)

  -- what a commit appends can follow: it could be in doubt, with its files out
  pub flush_follows : (flush : FlushState) (others : List FlushState) → CommitsFlush told known flush others state
      → CanFollow named (flush_record flush) state.store
  flush_follows flush others commits = flush_can _ _ _ _ order _ _ commits

  pub commit_follows : (job : Compaction) (others : List Compaction) (output : List File) (place : ℕ)
      → CommitsCompaction told known job others output place state
      → CanFollow named (compaction_record job output place) state.store
  commit_follows job others output place commits = commit_can _ _ _ _ order _ _ _ _ commits
