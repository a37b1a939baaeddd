-- What giving a job up leaves, step by step.
use Rattle.std.proofs.Common.{◌≡◌, ℕ, ◌-◌, ◌≤◌, ◌++◌, length, map, Option, Some, None, ap, ◌∙◌, arith}
use Rattle.std.specs.Option.{option_map}
use Rattle.tsdb_base.specs.declared.ids.Space.{Space}
use Rattle.tsdb_base.specs.declared.ids.Space.TheVariants.{Sequence, Unsequence}
use Rattle.tsdb_tasks.specs.Coming.{outgoing_of}
use Rattle.tsdb_tasks.specs.Files.{NewFile}
use Rattle.tsdb_tasks.proofs.Taken.{all_counted}
use Rattle.tsdb_tasks.specs.Ending.{FreesLate, GivesUp, OutputEnds}
use Rattle.tsdb_tasks.specs.Inputs.{input_numbers}
use Rattle.tsdb_compactions.specs.declared.job.Job.{Job}
use Rattle.tsdb_fileset.specs.Files.{AreKept, KeptFiles, entry_numbers, kept_file, all_numbers}
use Rattle.tsdb_fileset.specs.Places.{KeptFile, place_of_number}
use Rattle.tsdb_fileset.specs.Replacing.{less_compaction}
use Rattle.tsdb_fileset.specs.Room.{less_room}
use Rattle.tsdb_fileset.specs.declared.room.Spare.{Spare}
use Rattle.tsdb_base.specs.Lists.{count, if_some}
use Rattle.tsdb_pin.specs.Changes.{GivesRights, fewer_rights}

pub once_late : (files : KeptFiles) → AreKept files → (n : ℕ) → count n (entry_numbers files.unsequence) ≤ 1
once_late files kept n = by (kept_file n files) (kept n)
  where
    by : (o : Option KeptFile) → count n (all_numbers files) ≡ length (if_some o)
        → count n (entry_numbers files.unsequence) ≤ 1
    by None is = omega (arith, is, all_counted n files)
    by (Some file) is = omega (arith, is, all_counted n files)

less_places : (space : Space) (inputs : ℕ) (spare : Spare) → 1 ≤ inputs
    → record (less_room space spare) { outgoing = (less_room space spare).outgoing - (inputs - 1) }
    ≡ less_compaction space inputs spare
less_places Sequence inputs spare some =
    ap (λ n. record spare { sequence = spare.sequence - 1; outgoing = n }) (both spare.outgoing inputs some)
  where
    both : (x n : ℕ) → 1 ≤ n → x - 1 - (n - 1) ≡ x - n
    both x n some = omega (arith, some)
less_places Unsequence inputs spare some =
    ap (λ n. record spare { unsequence = spare.unsequence - 1; outgoing = n }) (both spare.outgoing inputs some)
  where
    both : (x n : ℕ) → 1 ≤ n → x - 1 - (n - 1) ≡ x - n
    both x n some = omega (arith, some)

module _ {F S R P : Type 0} where
  pub given_up : (old a b c d : KeptFiles) (job : Job F S R P) (file : Option NewFile) → 1 ≤ length job.inputs
      → FreesLate job.unsequence old a → GivesRights (input_numbers job.inputs) a b
      → OutputEnds job.space job.output.0 file b c
      → d ≡ record c { spare = record c.spare { outgoing = c.spare.outgoing - (length job.inputs - 1) } }
      → GivesUp old d job file
  given_up old a b c d job file some freed given ends last = record {
    sequence = ap (λ f. f.sequence) last ∙ ends.sequence ∙ given.lists.sequence ∙ ap (λ f. f.sequence) freed.rest;
    unsequence = record {
      run = freed.freed.run;
      within = freed.freed.within;
      are = freed.freed.are;
      is = ap (λ f. f.unsequence) last ∙ ends.unsequence ∙ given.lists.unsequence ∙ freed.freed.is;
    };
    outgoing = ap (λ f. f.outgoing) last ∙ ends.outgoing
        ∙ ap (λ files. files ++ map outgoing_of (if_some file)) (given.lists.outgoing ∙ ap (λ f. f.outgoing)
        freed.rest);
    here = ap (kept_file job.output.0) last ∙ ends.here;
    gone = λ none. ap (λ f. place_of_number job.output.0 f.places) last ∙ ends.gone none;
    others = λ n apart. ap (λ f. place_of_number n f.places) last ∙ ends.others n apart ∙ given.places n
        ∙ ap (λ f. option_map (λ place. option_map (fewer_rights (count n (input_numbers job.inputs))) place)
        (place_of_number n f.places)) freed.rest;
    room = ap (λ f. f.spare) last
        ∙ ap (λ (s : Spare). record s { outgoing = s.outgoing - (length job.inputs - 1) })
        (ends.room ∙ ap (less_room job.space) (given.room ∙ ap (λ f. f.spare) freed.rest))
        ∙ less_places job.space (length job.inputs) old.spare some;
    store = ap (λ f. f.store) last ∙ ends.store ∙ given.lists.store ∙ ap (λ f. f.store) freed.rest;
  }
