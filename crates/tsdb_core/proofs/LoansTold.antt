-- What a state tells of the inputs of a job is what was told of them at its beginning, while its rights are kept.
use Rattle.std.proofs.Common.{◌≡◌, ℕ, ◌≤◌, List, Option, None, Some, ap, arith, ◌∙◌}
use Rattle.std.specs.Option.{IsSomeAnd}
use Rattle.std.specs.Prelude.{IfSome}
use Rattle.tsdb_base.proofs.Lists.{among_map, each_among, each_from_among}
use Rattle.tsdb_base.specs.Lists.{Among, count}
use Rattle.tsdb_core.proofs.Jobs.{is_there}
use Rattle.tsdb_core.proofs.LoansRights.{IsNamedIn, is_counted, lent_of, named_of}
use Rattle.tsdb_core.specs.Compactions.{job_rights}
use Rattle.tsdb_core.specs.Core.{IsSeen, files_of}
use Rattle.tsdb_core.specs.Loans.{AreRightsKept, LentRight, all_lent, lent_numbers}
use Rattle.tsdb_core.specs.declared.engine.Core.{Core}
use Rattle.tsdb_fileset.specs.Files.{kept_file}
use Rattle.tsdb_fileset.specs.Places.{KeptFile}
use Rattle.tsdb_memory.specs.LogState.{Outside}
use Rattle.tsdb_outside.specs.Files.{NamedFile}
use Rattle.tsdb_outside.specs.declared.disk.Disk as disk
use Rattle.tsdb_outside.specs.declared.faults.Counted as counted_by
use Rattle.tsdb_state.proofs.ImageLemmas.Kept.{kept_by_number}
use Rattle.tsdb_state.specs.Jobs.{held_numbers}
use Rattle.tsdb_state.specs.Order.{all_files}
use Rattle.tsdb_state.specs.Records.{numbers_of}
use Rattle.tsdb_state.specs.State.{EngineState, ToldContents}
use Rattle.tsdb_state.specs.StoredEngine.{IsKeptWhole, kept_bytes}
use Rattle.tsdb_tasks.proofs.Staying.{inputs_last}
use Rattle.tsdb_tasks.specs.CompactionsOutputs.{IsInputRead, TellsInputs, TellsTruth}
use Rattle.tsdb_tasks.specs.Input.{Input}
use Rattle.tsdb_tasks.specs.Job.{Job}

module _ {J F S R P : Type 0} {means : disk.Ghosts J} {counts : counted_by.Ghosts J} (name : R → NamedFile)
    (core : Core J F S R P means counts) (job : Job F S R P) (outside : Outside) (engine : EngineState)
    (seen : IsSeen core outside engine) (lent : List (List LentRight))
    (rights : AreRightsKept (files_of core) (all_lent lent)) (among : Among (job_rights name job) lent) where
  abbrev right_of : Input F S R P → LentRight
  right_of input = record { number = input.number.0; name = name input.right }

  right_among : (input : Input F S R P) → Among input job.inputs → Among (right_of input) (job_rights name job)
  right_among input there = among_map right_of job.inputs input there

  -- the file of an input is kept under the name of its right
  is_named : (input : Input F S R P) → Among input job.inputs → IsNamedIn (files_of core) (right_of input)
  is_named input there = each_among (IsNamedIn (files_of core)) (job_rights name job) (right_of input)
      (named_of (files_of core) (job_rights name job) lent among rights) (right_among input there)

  -- and that right is counted
  is_lent : (input : Input F S R P) → Among input job.inputs
      → 1 ≤ count input.number.0 (lent_numbers (all_lent lent))
  is_lent input there = is_counted input.number.0 (lent_numbers (all_lent lent))
      (among_map (λ (right : LentRight). right.number) (all_lent lent) (right_of input)
      (each_among (λ (right : LentRight). Among right (all_lent lent)) (job_rights name job) (right_of input)
      (lent_of (job_rights name job) lent among) (right_among input there)))

  -- a file on which a right is out is listed, or on its way out, and is kept whole
  is_whole : (input : Input F S R P) → 1 ≤ engine.rights input.number.0
      → IsKeptWhole outside.kept outside.told (record { number = input.number.0; born = input.born.0 })
  is_whole input some =
      let stored = seen.sound.stored in
      let n = input.number.0 in
      let held : 1 ≤ count n (held_numbers engine.compactions engine.pins) =
      omega (arith, some, stored.order.rights.counts n) in
      kept_by_number outside.kept outside.told (all_files engine) stored.whole n
      (is_there n (numbers_of (all_files engine)) (stored.order.rights.there n held)) input.born.0

  is_read : (input : Input F S R P) → Among input job.inputs → IsInputRead name outside.told input
  is_read input there = by (kept_file n (files_of core)) (is_named input there) (rights.counted n) (seen.files.rights n)
      (seen.told n)
    where
      n : ℕ
      n = input.number.0

      by : (o : Option KeptFile) → IsSomeAnd o (λ file. name input.right ≡ file.name)
          → IfSome o (λ file. file.rights ≡ count n (lent_numbers (all_lent lent)))
          → IfSome o (λ file. file.rights ≡ engine.rights n)
          → IfSome o (λ file. (file.name.number ≡ n) × (file.name.bytes ≡ kept_bytes outside.kept n))
          → IsInputRead name outside.told input
      by None is out in_state tells = absurd is
      by (Some file) is out in_state tells =
          let whole = is_whole input (omega (arith, is_lent input there, out, in_state)) in
          record {
            bytes = whole.bytes;
            tree = whole.tree;
            there = ap (λ (f : NamedFile). f.bytes) is ∙ tells.1 ∙ whole.there;
            is_tree = whole.is_tree;
            is_made = whole.is_made;
            is_file = whole.is_file;
            content = whole.content;
          }

  pub job_told : (begun : ToldContents) → TellsTruth name begun job → TellsInputs name outside.told job
  job_told begun truth = inputs_last begun outside.told name job truth
      (each_from_among (IsInputRead name outside.told) job.inputs is_read)
