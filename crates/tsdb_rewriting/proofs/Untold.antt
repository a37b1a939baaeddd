-- A compaction from a store that does not tell what its files hold: it is told that there is nothing.
use Rattle.std.proofs.Common.{◌≡◌, ◌≢◌, Bool, true, false, cond, List, [], ◌∷◌, None, Some, inl, inr, refl, sym, ap, ◌∙◌}
use Rattle.std.proofs.lemmas.Bool.{false≢true}
use Rattle.std.specs.FinMap.{empty, get, get-empty}
use Rattle.std.specs.List.{AllByRecursion as Each}
use Rattle.std.specs.Option.{option_or}
use Rattle.std.specs.Prelude.{IsSome}
use Rattle.tsdb_base.specs.declared.value.Value.{Value}
use Rattle.tsdb_compactions.specs.Outputs.{IsOneTold, TellsTruth}
use Rattle.tsdb_compactions.specs.Jobs.{input_files}
use Rattle.tsdb_compactions.specs.declared.job.Input.{Input}
use Rattle.tsdb_compactions.specs.declared.job.Job.{Job}
use Rattle.tsdb_inner.specs.Inputs.{IsInputOf}
use Rattle.tsdb_base.proofs.Lists.{each_weaker}
use Rattle.tsdb_state.specs.Layers.{survivor, value_in}
use Rattle.tsdb_base.specs.Lists.{EachPair}
use Rattle.tsdb_state.specs.Marks.{survives}
use Rattle.tsdb_state.specs.Places.{Content, PointPlace, place_cmp}
use Rattle.tsdb_marks.specs.declared.marks.Mark.{Mark}
use Rattle.tsdb_outside.specs.Files.{NamedFile, Store, Tells}
use Rattle.tsdb_state.specs.State.{File, ToldContents}
use Rattle.tsdb_state.specs.Views.{file_layer, file_layers}

-- no file has a point
abbrev none_there : Content
none_there = empty

abbrev pub nothing : ToldContents
nothing = λ number. none_there

none_survives : (b : Bool) (place : PointPlace) → cond b (get none_there place) None ≡ None
none_survives true place = get-empty place_cmp place
none_survives false place = refl

no_value : (marks : List Mark) (place : PointPlace) (files : List File)
    → value_in marks place (file_layers nothing files) ≡ None
no_value marks place [] = refl
no_value marks place (file ∷ files) =
    ap (λ o. option_or o (survivor marks place (file_layer nothing file))) (no_value marks place files)
    ∙ none_survives (survives marks place file.born) place

each_pair : {X : Type 0} (P : X → Type 0) (R : X → X → Type 0) → ((a b : X) → P a → P b → R a b) → (xs : List X)
    → Each P xs → EachPair R xs
each_pair P R both [] all = tt
each_pair P R both (x ∷ xs) all =
    (each_weaker P (R x) (λ y has. both x y all.0 has) xs all.1, each_pair P R both xs all.1)

module _ {F S R P : Type 0} (name : R → NamedFile) (laws : (right : R) → Tells (name right)) (store : Store)
    (untold : store.tells ≡ false) where
  tells_none : (input : Input F S R P) → IsInputOf name store input → IsSome (name input.right).bytes → ⊥
  tells_none input of some = absurd (false≢true (sym untold ∙ ap (λ (s : Store). s.tells) (sym of)
      ∙ laws input.right ∙ some))

  pub truth_of_nothing : (job : Job F S R P) → Each (IsInputOf name store) job.inputs → TellsTruth name nothing job
  truth_of_nothing job of = record {
    read = each_weaker (IsInputOf name store) _ (λ input one some. absurd (tells_none input one some)) job.inputs of;
    apart = each_pair (IsInputOf name store) (λ a b. IsOneTold name a b → (name a.right).number ≢ (name b.right).number)
        (λ a b one two told. absurd (by a b one two told)) job.inputs of;
    schemas = λ place value is. absurd (none_is (sym (no_value job.marks.marks place (input_files job)) ∙ is));
  }
    where
      by : (a b : Input F S R P) → IsInputOf name store a → IsInputOf name store b → IsOneTold name a b → ⊥
      by a b one two (inl some) = tells_none a one some
      by a b one two (inr some) = tells_none b two some

      none_is : {value : Value} → None ≡ Some value → ⊥
      none_is is = cc
