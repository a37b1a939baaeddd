-- What the compactions that are out have claimed stays claimed.
use Rattle.std.proofs.Common.{◌≡◌, Bool, true, false, List, ◌++◌, map, refl, sym, ◌∙◌}
use Rattle.std.proofs.lemmas.List.Folds.{list_any-append}
use Rattle.std.specs.List.{list_any}
use Rattle.std.specs.Prelude.{◌==◌, ◌&&◌, ◌||◌}
use Rattle.tsdb_core.specs.Core.{AreClaimed, files_of, is_claimed, is_sequence_claimed}
use Rattle.tsdb_core.specs.Ending.{AreAfterCommit}
use Rattle.tsdb_core.specs.declared.commit.Commit.{Commit}
use Rattle.tsdb_core.specs.declared.commit.Commit.TheVariants.{Device, Done, Gone}
use Rattle.tsdb_core.specs.declared.engine.Core.{Core}
use Rattle.tsdb_tasks.specs.Files.{NewFile, NewFiles}
use Rattle.tsdb_fileset.specs.Files.{KeptFiles}
use Rattle.tsdb_base.proofs.Lists.{each_weaker}
use Rattle.tsdb_base.specs.Lists.{Among, if_some}
use Rattle.tsdb_outside.specs.declared.disk.Disk as disk
use Rattle.tsdb_outside.specs.declared.faults.Counted as counted
use Rattle.tsdb_plan.specs.declared.entry.FileEntry.{FileEntry}
use Rattle.tsdb_state.specs.State.{Compaction, File}

-- each file that is claimed stays so
abbrev pub ClaimsStay : KeptFiles → KeptFiles → Type 0
ClaimsStay old new = (file : File) → is_claimed old file ≡ true → is_claimed new file ≡ true

abbrev pub is_claim_of : File → FileEntry → Bool
is_claim_of file entry = (entry.number.0 == file.number) && entry.claimed

or_grown : (a b c d : Bool) → (a || c) ≡ true → ((a || b) || (c || d)) ≡ true
or_grown true b c d is = refl
or_grown false true c d is = refl
or_grown false false true d is = refl
or_grown false false false d is = absurd cc

pub same_lists : (old new : KeptFiles) → new.sequence ≡ old.sequence → new.unsequence ≡ old.unsequence
    → ClaimsStay old new
same_lists old new first second file is = (λ i. list_any (is_claim_of file) (first i ++ second i)) ∙ is

pub grown_lists : (old new : KeptFiles) (a b : List FileEntry) → new.sequence ≡ old.sequence ++ a
    → new.unsequence ≡ old.unsequence ++ b → ClaimsStay old new
grown_lists old new a b first second file is = (λ i. list_any (is_claim_of file) (first i ++ second i))
    ∙ list_any-append (is_claim_of file) (old.sequence ++ a) (old.unsequence ++ b)
    ∙ (λ i. list_any-append (is_claim_of file) old.sequence a i
    || list_any-append (is_claim_of file) old.unsequence b i)
    ∙ or_grown (list_any (is_claim_of file) old.sequence) (list_any (is_claim_of file) a)
    (list_any (is_claim_of file) old.unsequence) (list_any (is_claim_of file) b)
    (sym (list_any-append (is_claim_of file) old.sequence old.unsequence) ∙ is)

pub after_commit : (commit : Commit) (files : NewFiles) (old new : KeptFiles) → AreAfterCommit commit files old new
    → ClaimsStay old new
after_commit Done files old new after = grown_lists old new
    (map (λ (file : NewFile). file.entry) (if_some files.sequence))
    (map (λ (file : NewFile). file.entry) (if_some files.unsequence)) after.sequence after.unsequence
after_commit Gone files old new after = same_lists old new after.sequence after.unsequence
after_commit Device files old new after = same_lists old new after.sequence after.unsequence

module _ {J F S R P : Type 0} {means : disk.Ghosts J} {counts : counted.Ghosts J} where
  pub claims_stay : (old new : Core J F S R P means counts) (compactions : List Compaction)
      → ClaimsStay (files_of old) (files_of new) → is_sequence_claimed new ≡ is_sequence_claimed old
      → AreClaimed old compactions → AreClaimed new compactions
  claims_stay old new compactions stay same claims = record {
    late = each_weaker (λ (job : Compaction). (file : File) → Among file job.unsequence
        → is_claimed (files_of old) file ≡ true)
        (λ (job : Compaction). (file : File) → Among file job.unsequence → is_claimed (files_of new) file ≡ true)
        (λ job late file among. stay file (late file among)) compactions claims.late;
    sequence = λ free. claims.sequence (sym same ∙ free);
  }
