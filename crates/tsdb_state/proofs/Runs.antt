-- Files that are replaced in a list: the list as what stands before the run, the output, and what stands behind it.
use Rattle.std.proofs.Common.{◌≡◌, ℕ, suc, ◌+◌, ◌≤◌, false, cond, List, [], ◌∷◌, ◌++◌}
use Rattle.std.proofs.Common.{drop}
use Rattle.std.proofs.Common.{length, inl, inr, refl, sym, ap, ◌∙◌, arith}
use Rattle.std.specs.Prelude.{◌⊎◌, ◌==◌}
use Rattle.std.proofs.Math.Seq.{drop-append-add, drop-append_seam, take-append_seam}
use Rattle.std.proofs.lemmas.Bool.Decides.{nat_tests}
use Rattle.tsdb_state.specs.Records.{new_file, numbers_of, replace}
use Rattle.tsdb_state.specs.State.{Compaction, File}
use Rattle.tsdb_state.specs.Steps.{output_number}

pub length_numbers : (files : List File) → length (numbers_of files) ≡ length files
length_numbers [] = refl
length_numbers (file ∷ files) = ap suc (length_numbers files)

-- the list with a run replaced
pub replaced_run : (before run behind output : List File)
    → replace (length before) (length (numbers_of run)) output (before ++ (run ++ behind))
    ≡ before ++ (output ++ behind)
replaced_run before run behind output = λ i. take-append_seam before (run ++ behind) i ++ (output ++ rest i)
  where
    rest : drop (length before + length (numbers_of run)) (before ++ (run ++ behind)) ≡ behind
    rest =
        drop-append-add before (run ++ behind) (length (numbers_of run))
        ∙ ap (λ n. drop n (run ++ behind)) (length_numbers run)
        ∙ drop-append_seam run behind

-- the list without the first files
pub dropped_first : (first later : List File) → drop (length (numbers_of first)) (first ++ later) ≡ later
dropped_first first later = ap (λ n. drop n (first ++ later)) (length_numbers _) ∙ drop-append_seam first _

-- the file of an output
pub output_is : (job : Compaction) (output : List File) → 1 ≤ job.output
    → (output ≡ []) ⊎ (output ≡ record { number = job.output; born = job.born } ∷ [])
    → new_file (output_number output) job.born ≡ output
output_is job output some (inl none) = ap (λ files. new_file (output_number files) job.born) none ∙ sym none
output_is job output some (inr one) =
    ap (λ files. new_file (output_number files) job.born) one
    ∙ ap (λ b. cond b [] (record { number = job.output; born = job.born } ∷ [])) (positive job.output some)
    ∙ sym one
  where
    positive : (n : ℕ) → 1 ≤ n → (n == 0) ≡ false
    positive n h = grind (arith, nat_tests)
