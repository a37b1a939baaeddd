-- The files that a call is given are those of its job.
use Rattle.std.proofs.Common.{◌≡◌, ℕ, ◌+◌, ◌≤◌, List, [], ◌∷◌, ◌++◌, length, Option, None, Some, inl, inr, ⊎_elim}
use Rattle.std.proofs.Common.{false}
use Rattle.std.proofs.Common.{arith, refl, subst, sym, ◌∙◌}
use Rattle.std.specs.List.{AllByRecursion as Each}
use Rattle.std.specs.Option.{option_map}
use Rattle.std.specs.Prelude.{◌⊎◌, IfSome, is_some}
use Rattle.tsdb_base.specs.declared.ids.FileNumber.{FileNumber}
use Rattle.tsdb_base.specs.declared.ids.Space.{Space}
use Rattle.tsdb_base.specs.declared.ids.Space.TheVariants.{Sequence, Unsequence}
use Rattle.tsdb_tasks.specs.Coming.{outgoing_of}
use Rattle.tsdb_tasks.specs.Files.{AreAllThere, AreDone, AreDoneSoFar, AreFilesOfJob, IsOfPart, all_of, file_built}
use Rattle.tsdb_tasks.specs.Files.{new_files}
use Rattle.tsdb_tasks.specs.Files.{NewFile, file_number}
use Rattle.tsdb_core.proofs.Loans.{AreFresh}
use Rattle.tsdb_core.proofs.Parts.{part_listed, part_sent, some_is}
use Rattle.tsdb_core.specs.Ending.{IsNumberedOutput, PartEnds, drawn_for, less_if, numbers_if}
use Rattle.tsdb_core.specs.declared.commit.Commit.{Commit}
use Rattle.tsdb_core.specs.declared.commit.Commit.TheVariants.{Device, Done, Gone}
use Rattle.tsdb_fileset.specs.FlushBuilt.{IsPartDone}
use Rattle.tsdb_fileset.specs.Jobs.{job_part}
use Rattle.tsdb_fileset.specs.Parts.{Filled}
use Rattle.tsdb_fileset.specs.Built.{Built}
use Rattle.tsdb_fileset.specs.FlushJob.{FlushJob}
use Rattle.tsdb_fileset.specs.Flushed.{Flushed}
use Rattle.tsdb_fileset.specs.Files.{Appends, KeptFiles, kept_file}
use Rattle.tsdb_fileset.specs.Places.{OthersStay}
use Rattle.tsdb_fileset.specs.Room.{HasRoom, less_room}
use Rattle.tsdb_fileset.specs.declared.room.Spare.{Spare}
use Rattle.tsdb_base.proofs.Lists.{among_left, among_right, each_append, each_weaker}
use Rattle.tsdb_base.specs.Lists.{Among, if_some}
use Rattle.tsdb_outside.specs.Files.{NamedFile, Store}

module _ {F S R P : Type 0} (file : S → NamedFile) (rights : S → ℕ) where
  -- ---- one part

  module _ (store : Store) (born : ℕ) (part : List Filled) where
    of_done : (number : Option FileNumber) (built : Option (Built F S R P)) → IsPartDone file rights store born part number
        built
        → IsOfPart store born part number (option_map (file_built file) built)
    of_done None None done = tt
    of_done None (Some built) done = absurd done
    of_done (Some number) None done = absurd done
    of_done (Some number) (Some built) done = record {
      bytes = done.bytes;
      names = done.names;
      in_store = done.in_store;
      unread = refl;
      file = done.file;
      kept = done.kept;
      paths = done.paths;
    }

    all_done : (number : Option FileNumber) (built : Option (Built F S R P))
        → IsPartDone file rights store born part number built → is_some number ≡ is_some (option_map (file_built file) built)
    all_done None None done = refl
    all_done None (Some built) done = absurd done
    all_done (Some number) None done = absurd done
    all_done (Some number) (Some built) done = refl

    numbered_done : (number : Option FileNumber) (built : Option (Built F S R P))
        → IsPartDone file rights store born part number built → IfSome built (IsNumberedOutput rights number)
    numbered_done None None done = tt
    numbered_done None (Some built) done = absurd done
    numbered_done (Some number) None done = absurd done
    numbered_done (Some number) (Some built) done = record {
      drawn = λ i. Some (sym done.kept.number_is i);
      unread = done.unread;
    }

    of_part : (number : Option FileNumber) (built : Option (Built F S R P))
        → (built ≡ None) ⊎ IsPartDone file rights store born part number built
        → IsOfPart store born part number (option_map (file_built file) built)
    of_part number built (inl none) =
        subst (λ (b : Option (Built F S R P)). IsOfPart store born part number (option_map (file_built file) b)) (sym
        none) tt
    of_part number built (inr done) = of_done number built done

    numbered : (number : Option FileNumber) (built : Option (Built F S R P))
        → (built ≡ None) ⊎ IsPartDone file rights store born part number built → IfSome built (IsNumberedOutput rights number)
    numbered number built (inl none) =
        subst (λ (b : Option (Built F S R P)). IfSome b (IsNumberedOutput rights number)) (sym none) tt
    numbered number built (inr done) = numbered_done number built done

    -- the file of a part is in the store
    in_store_done : (number : Option FileNumber) (built : Option (Built F S R P))
        → IsPartDone file rights store born part number built → IfSome built (λ one. (file one.sealed).store ≡ store)
    in_store_done None None done = tt
    in_store_done None (Some built) done = absurd done
    in_store_done (Some number) None done = absurd done
    in_store_done (Some number) (Some built) done = done.in_store

    in_store : (number : Option FileNumber) (built : Option (Built F S R P))
        → (built ≡ None) ⊎ IsPartDone file rights store born part number built
        → IfSome built (λ one. (file one.sealed).store ≡ store)
    in_store number built (inl none) =
        subst (λ (b : Option (Built F S R P)). IfSome b (λ one. (file one.sealed).store ≡ store)) (sym none) tt
    in_store number built (inr done) = in_store_done number built done

  -- no job has claimed the file of a part
  fresh_part : (store : Store) (born : ℕ) (part : List Filled) (number : Option FileNumber)
      (built : Option (Built F S R P)) → (built ≡ None) ⊎ IsPartDone file rights store born part number built
      → Each (λ (f : NewFile). f.entry.claimed ≡ false) (if_some (option_map (file_built file) built))
  fresh_part store born part number None done = tt
  fresh_part store born part number (Some built) (inl none) = absurd cc
  fresh_part store born part None (Some built) (inr done) = absurd done
  fresh_part store born part (Some number) (Some built) (inr done) = (done.kept.free, tt)

  pub drawn_part : (number : Option FileNumber) (built : Option (Built F S R P)) → IfSome built (IsNumberedOutput rights
      number)
      → Each (λ (f : NewFile). Among (file_number f) (numbers_if number)) (if_some (option_map (file_built file) built))
  drawn_part number None numbered = tt
  drawn_part None (Some built) numbered = let drawn = numbered.drawn in absurd cc
  drawn_part (Some number) (Some built) numbered = (inl (some_is number.0 built.entry.number.0 numbered.drawn), tt)

  -- ---- both parts

  module _ (store : Store) (job : FlushJob) (files : Flushed F S R P) where
    pub so_far : AreDone file rights store job files → AreDoneSoFar file rights store job files
    so_far done = record { sequence = inr done.sequence; unsequence = inr done.unsequence }

    pub all_there : AreDone file rights store job files → AreAllThere job (new_files file files)
    all_there done = record {
      sequence = all_done store job.born.0 (job_part Sequence job) job.sequence files.sequence done.sequence;
      unsequence = all_done store job.born.0 (job_part Unsequence job) job.unsequence files.unsequence
          done.unsequence;
    }

    pub of_job_done : AreDone file rights store job files → AreFilesOfJob store job (new_files file files)
    of_job_done done = record {
      sequence = of_done store job.born.0 (job_part Sequence job) job.sequence files.sequence done.sequence;
      unsequence = of_done store job.born.0 (job_part Unsequence job) job.unsequence files.unsequence
          done.unsequence;
    }

    module _ (done : AreDoneSoFar file rights store job files) where
      pub of_job : AreFilesOfJob store job (new_files file files)
      of_job = record {
        sequence = of_part store job.born.0 (job_part Sequence job) job.sequence files.sequence done.sequence;
        unsequence = of_part store job.born.0 (job_part Unsequence job) job.unsequence files.unsequence
            done.unsequence;
      }

      pub sequence_numbered : IfSome files.sequence (IsNumberedOutput rights job.sequence)
      sequence_numbered = numbered store job.born.0 (job_part Sequence job) job.sequence files.sequence
          done.sequence

      pub unsequence_numbered : IfSome files.unsequence (IsNumberedOutput rights job.unsequence)
      unsequence_numbered =
          numbered store job.born.0 (job_part Unsequence job) job.unsequence files.unsequence done.unsequence

      pub sequence_in_store : IfSome files.sequence (λ one. (file one.sealed).store ≡ store)
      sequence_in_store = in_store store job.born.0 (job_part Sequence job) job.sequence files.sequence done.sequence

      pub unsequence_in_store : IfSome files.unsequence (λ one. (file one.sealed).store ≡ store)
      unsequence_in_store =
          in_store store job.born.0 (job_part Unsequence job) job.unsequence files.unsequence done.unsequence

      pub all_fresh : AreFresh (new_files file files)
      all_fresh = each_append (λ (f : NewFile). f.entry.claimed ≡ false)
          (if_some (option_map (file_built file) files.sequence)) (if_some (option_map (file_built file) files.unsequence))
          (fresh_part store job.born.0 (job_part Sequence job) job.sequence files.sequence done.sequence)
          (fresh_part store job.born.0 (job_part Unsequence job) job.unsequence files.unsequence done.unsequence)

      pub all_drawn : Each (λ (f : NewFile). Among (file_number f) (drawn_for job)) (all_of (new_files file files))
      all_drawn = each_append _ (if_some (option_map (file_built file) files.sequence))
          (if_some (option_map (file_built file) files.unsequence))
          (each_weaker _ _ (λ (f : NewFile). among_left (numbers_if job.sequence) (numbers_if job.unsequence)
          (file_number f))
          (if_some (option_map (file_built file) files.sequence))
          (drawn_part job.sequence files.sequence sequence_numbered))
          (each_weaker _ _ (λ (f : NewFile). among_right (numbers_if job.sequence) (numbers_if job.unsequence)
          (file_number f))
          (if_some (option_map (file_built file) files.unsequence))
          (drawn_part job.unsequence files.unsequence unsequence_numbered))

-- ---- room for each part

pub room_first : (s u : Option FileNumber) (spare : Spare) → length (if_some s) ≤ spare.sequence
    → length (if_some s) + length (if_some u) ≤ spare.outgoing → IfSome s (λ n. HasRoom Sequence spare)
room_first None u spare places outgoing = tt
room_first (Some s) u spare places outgoing = (omega (arith, places), omega (arith, outgoing))

pub room_second : (s u : Option FileNumber) (spare : Spare) → length (if_some u) ≤ spare.unsequence
    → length (if_some s) + length (if_some u) ≤ spare.outgoing
    → IfSome u (λ n. HasRoom Unsequence (less_if Sequence s spare))
room_second s None spare places outgoing = tt
room_second None (Some u) spare places outgoing = (omega (arith, places), omega (arith, outgoing))
room_second (Some s) (Some u) spare places outgoing = (omega (arith, places), omega (arith, outgoing))

-- ---- the end of one part, for the file that a call is given

module _ {F S R P : Type 0} (file : S → NamedFile) (rights : S → ℕ) (space : Space) (number : Option FileNumber)
    (given : Option (Built F S R P)) (built : Built F S R P) (is : given ≡ Some built)
    (numbered : IfSome given (IsNumberedOutput rights number)) where
  of_built : IsNumberedOutput rights number built
  of_built = subst (λ (b : Option (Built F S R P)). IfSome b (IsNumberedOutput rights number)) is numbered

  pub unread : rights built.sealed ≡ 0
  unread = of_built.unread

  some_as : (P : ℕ → Type 0) (number : Option FileNumber) (n : ℕ) → option_map (λ (m : FileNumber). m.0) number ≡ Some n
      → IfSome number (λ m. P m.0) → P n
  some_as P None n drawn holds = absurd cc
  some_as P (Some m) n drawn holds = subst P (some_is m.0 n drawn) holds

  -- what holds of the number, where there is one, holds of that of the file
  pub of_number : (P : ℕ → Type 0) → IfSome number (λ n. P n.0) → P built.entry.number.0
  of_number P holds = some_as P number built.entry.number.0 of_built.drawn holds

  as_given : (commit : Commit) (old new : KeptFiles) → PartEnds commit space number (Some (file_built file built)) old new
      → PartEnds commit space number (option_map (file_built file) given) old new
  as_given commit old new ends = subst
      (λ (b : Option (Built F S R P)). PartEnds commit space number (option_map (file_built file) b) old new) (sym is)
      ends

  pub listed_as : (commit : Commit) (old new : KeptFiles) → commit ≡ Done → Appends space built.entry old new
      → new.outgoing ≡ old.outgoing → kept_file built.entry.number.0 new ≡ Some (file_built file built).token
      → OthersStay built.entry.number.0 old.places new.places → new.spare ≡ less_room space old.spare
      → new.store ≡ old.store → PartEnds commit space number (option_map (file_built file) given) old new
  listed_as commit old new done appends outgoing kept others room store = as_given commit old new
      (subst (λ c. PartEnds c space number (Some (file_built file built)) old new) (sym done)
      (part_listed old new space number (file_built file built) of_built.drawn appends outgoing kept others room store))

  pub sent_as : (commit : Commit) (old new : KeptFiles) → (commit ≡ Gone) ⊎ (commit ≡ Device)
      → new.sequence ≡ old.sequence → new.unsequence ≡ old.unsequence
      → new.outgoing ≡ old.outgoing ++ outgoing_of (file_built file built) ∷ []
      → kept_file built.entry.number.0 new ≡ Some (file_built file built).token
      → OthersStay built.entry.number.0 old.places new.places → new.spare ≡ less_room space old.spare
      → new.store ≡ old.store → PartEnds commit space number (option_map (file_built file) given) old new
  sent_as commit old new how sequence unsequence outgoing kept others room store = as_given commit old new
      (part_sent old new commit (⊎_elim (λ gone done. not_gone (sym gone ∙ done)) (λ device done. not_device (sym
      device ∙ done))
      how) space number (file_built file built) of_built.drawn sequence unsequence outgoing kept others room store)
    where
      not_gone : Gone ≡ Done → ⊥
      not_gone same = cc

      not_device : Device ≡ Done → ⊥
      not_device same = cc
