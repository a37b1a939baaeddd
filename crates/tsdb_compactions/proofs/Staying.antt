-- What is told of a job stays the truth while its inputs are told as they were.
use Rattle.std.proofs.Common.{◌≡◌, List, [], ◌∷◌, map, ap, refl, sym, subst, ◌∙◌}
use Rattle.std.specs.List.{AllByRecursion as Each}
use Rattle.std.specs.Prelude.{IsSome}
use Rattle.tsdb_base.proofs.Lists.{each_both, each_weaker}
use Rattle.tsdb_compactions.specs.Jobs.{input_file}
use Rattle.tsdb_compactions.specs.Outputs.{IsInputRead, IsToldAs, TellsInputs, TellsTruth, winner}
use Rattle.tsdb_compactions.specs.declared.job.Input.{Input}
use Rattle.tsdb_compactions.specs.declared.job.Job.{Job}
use Rattle.tsdb_outside.specs.Files.{NamedFile}
use Rattle.tsdb_state.proofs.ReplayLemmas.Stores.{one_told}
use Rattle.tsdb_state.specs.Layers.{value_in}
use Rattle.tsdb_state.specs.Places.{PointPlace}
use Rattle.tsdb_state.specs.State.{ToldContents}
use Rattle.tsdb_state.specs.Stores.{IsTreeContent}
use Rattle.tsdb_state.specs.Views.{file_layers}

module _ {F S R P : Type 0} (told later : ToldContents) where
  same_layers : (inputs : List (Input F S R P)) → Each (IsToldAs told later) inputs
      → file_layers later (map input_file inputs) ≡ file_layers told (map input_file inputs)
  same_layers [] same = refl
  same_layers (input ∷ inputs) same =
      λ i. record { born = input.born.0; content = same.0 i } ∷ same_layers inputs same.1 i

  module _ (name : R → NamedFile) (job : Job F S R P) (same : Each (IsToldAs told later) job.inputs) where
    same_winner : (place : PointPlace) → winner later job place ≡ winner told job place
    same_winner place = ap (value_in job.marks.marks place) (same_layers job.inputs same)

    still_read : (input : Input F S R P) → IsToldAs told later input → IsInputRead name told input → IsInputRead name later input
    still_read input is read = record {
      bytes = read.bytes;
      tree = read.tree;
      there = read.there;
      is_tree = read.is_tree;
      is_made = read.is_made;
      is_file = read.is_file;
      content = subst (IsTreeContent read.tree) (sym is) read.content;
    }

    pub truth_stays : TellsTruth name told job → TellsTruth name later job
    truth_stays truth = record {
      read = each_both (IsToldAs told later)
          (λ (input : Input F S R P). IsSome (name input.right).bytes → IsInputRead name told input)
          (λ input. IsSome (name input.right).bytes → IsInputRead name later input)
          (λ input is read some. still_read input is (read some)) job.inputs same truth.read;
      apart = truth.apart;
      schemas = λ place value is. truth.schemas place value (sym (same_winner place) ∙ is);
    }

    pub inputs_stay : TellsInputs name told job → TellsInputs name later job
    inputs_stay tells = record { truth = truth_stays tells.truth; all = tells.all }

  module _ (name : R → NamedFile) (job : Job F S R P) where
    right_tells : (input : Input F S R P) → IsInputRead name later input → IsSome (name input.right).bytes
    right_tells input read = subst IsSome (sym read.there) refl

    told_again : (input : Input F S R P) → (IsSome (name input.right).bytes → IsInputRead name told input)
        → IsInputRead name later input → IsToldAs told later input
    told_again input before read = one_told (λ number. (name input.right).bytes) later told (input_file input) read
        (before (right_tells input read))

    -- The bytes of a file tell its points. So where all inputs are read, each of them is told as it was.
    pub inputs_last : TellsTruth name told job → Each (IsInputRead name later) job.inputs → TellsInputs name later job
    inputs_last truth read = inputs_stay name job
        (each_both (λ (input : Input F S R P). IsSome (name input.right).bytes → IsInputRead name told input)
        (IsInputRead name later) (IsToldAs told later) told_again job.inputs truth.read read) (record {
          truth = truth;
          all = each_weaker (IsInputRead name later) (λ (input : Input F S R P). IsSome (name input.right).bytes)
              right_tells job.inputs read;
        })
