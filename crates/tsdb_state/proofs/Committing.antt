-- The end of a compaction: the store stays in order, and has the values that it had.
use Rattle.std.proofs.Common.{◌≡◌, ℕ, ◌≤◌, List, ◌∷◌, ◌++◌, length, map, inl, inr, ⊎_elim, refl, sym, ap, ◌∙◌, subst}
use Rattle.std.proofs.Common.{drop, []}
use Rattle.std.specs.Prelude.{◌⊎◌, Some}
use Rattle.std.specs.List.{AllByRecursion as Each}
use mathlib.Core.List.{map-append}
use Rattle.tsdb_base.specs.declared.ids.Space.{Space}
use Rattle.tsdb_base.specs.declared.ids.Space.TheVariants.{Sequence, Unsequence}
use Rattle.tsdb_state.proofs.LayerLemmas.JobMarks.{output_value}
use Rattle.tsdb_base.proofs.Lists.{each_map}
use Rattle.tsdb_state.proofs.LayerLemmas.Rising.{IsPartOf}
use Rattle.tsdb_state.proofs.LayerLemmas.Values.{value_is_point}
use Rattle.tsdb_state.specs.Layers.{HasPoint, Layer, value_in}
use Rattle.tsdb_state.specs.LayerOrder.{Rises}
use Rattle.tsdb_state.specs.Places.{PointPlace}
use Rattle.tsdb_state.proofs.Replacing.{crossed_both, merged_both}
use Rattle.tsdb_state.proofs.Runs.{dropped_first, output_is, replaced_run}
use Rattle.tsdb_base.specs.Lists.{IsRun}
use Rattle.tsdb_state.specs.Jobs.{HasGap, HasKind, KeepsItsMarks, Stands, job_inputs}
use Rattle.tsdb_state.specs.Records.{new_file, numbers_of, purged, replace, replace_in, replaced}
use Rattle.tsdb_state.specs.State.{Compaction, File, StoreState, ToldContents}
use Rattle.tsdb_state.specs.Steps.{IsOutput, IsOutputPlace, output_number, replacement}
use Rattle.tsdb_state.specs.StoreOrder.{StoreInOrder}
use Rattle.tsdb_state.specs.Views.{file_layer, file_layers}
use Rattle.tsdb_state.specs.Worlds.{KeepsWorld}

map_same : {Y : Type 0} (told : ToldContents) (f g : Layer → Y) (files : List File)
    → Each (λ file. f (file_layer told file) ≡ g (file_layer told file)) files
    → map f (file_layers told files) ≡ map g (file_layers told files)
map_same told f g [] same = refl
map_same told f g (file ∷ files) same = λ i. same.0 i ∷ map_same told f g files same.1 i

module _ (told : ToldContents) (state : StoreState) (job : Compaction) (output : List File)
    (marked : KeepsItsMarks told state.stamp state.marks job) (gives : IsOutput told job output)
    (file : (output ≡ []) ⊎ (output ≡ record { number = job.output; born = job.born } ∷ [])) where
  abbrev input_layers : List Layer
  input_layers = file_layers told (job_inputs job)

  abbrev output_layers : List Layer
  output_layers = file_layers told output

  abbrev one : List File
  one = record { number = job.output; born = job.born } ∷ []

  by_file : (P : List File → Type 0) → P [] → P one → P output
  by_file P none there = ⊎_elim (λ e. subst P (sym e) none) (λ e. subst P (sym e) there) file

  output_rises : Rises output_layers
  output_rises = by_file (λ files. Rises (file_layers told files)) tt ((λ p q v w a b same. absurd b), tt)

  output_reached : Each (λ (f : File). f.born ≤ state.stamp) output
  output_reached = by_file (Each (λ (f : File). f.born ≤ state.stamp)) tt (marked.reached, tt)

  output_born : Each (λ (layer : Layer). layer.born ≡ job.born) output_layers
  output_born =
      by_file (λ files. Each (λ (layer : Layer). layer.born ≡ job.born) (file_layers told files)) tt (refl, tt)

  -- at each place the output has the value that the inputs have
  pub output_has : (p : PointPlace) → value_in state.marks p output_layers ≡ value_in state.marks p input_layers
  output_has p =
      output_value _ _ p _ _ _ (each_map _ _ _ marked.older) output_born (map_same _ _ _ _ (marked.same p)) (gives p)

  output_points : IsPartOf output_layers input_layers
  output_points p value has = value_is_point job.marks p input_layers value
      (sym (gives p) ∙ by_file (λ files. HasPoint (file_layers told files) p value → value_in [] p
      (file_layers told files) ≡ Some value) (λ h. absurd h) only has)
    where
      only : HasPoint (file_layers told one) p value → value_in [] p (file_layers told one) ≡ Some value
      only (inl is) = is
      only (inr h) = absurd h

module _ (told : ToldContents) (state : StoreState) (job : Compaction) (output : List File) (place : ℕ)
    (order : StoreInOrder told state) (marked : KeepsItsMarks told state.stamp state.marks job)
    (gives : IsOutput told job output) (some : 1 ≤ job.output)
    (file : (output ≡ []) ⊎ (output ≡ record { number = job.output; born = job.born } ∷ [])) where
  abbrev inputs : List Layer
  inputs = file_layers told (job_inputs job)

  abbrev outputs : List Layer
  outputs = file_layers told output

  new_is : new_file (output_number output) job.born ≡ output
  new_is = output_is job _ some file

  inputs_are : inputs ≡ file_layers told job.sequence ++ file_layers told job.unsequence
  inputs_are = map-append _ _ _

  abbrev After : Space → StoreState
  After space = replace_in space (replacement job output place) state

  abbrev Both : StoreState → Type 0
  Both new = StoreInOrder told (purged new) × KeepsWorld told state (purged new)

  -- the list of the output's space
  list_is : (run all : List File) (before behind : List File) → all ≡ before ++ (run ++ behind) → place ≡ length before
      → replace place (length (numbers_of run)) (new_file (output_number output) job.born) all
      ≡ before ++ (output ++ behind)
  list_is run all before behind is at =
      (λ i. replace (at i) (length (numbers_of run)) (new_is i) (is i))
      ∙ replaced_run before run behind output

  rises : Rises outputs
  rises = output_rises _ state _ _ marked gives file

  reached : Each (λ (f : File). f.born ≤ state.stamp) output
  reached = output_reached _ state _ _ marked gives file

  value : (p : PointPlace) (layers : List Layer) → inputs ≡ layers
      → value_in state.marks p outputs ≡ value_in state.marks p layers
  value p layers are = output_has _ state _ _ marked gives file p ∙ ap (value_in state.marks p) are

  part : (layers : List Layer) → inputs ≡ layers → IsPartOf outputs layers
  part layers are = subst (IsPartOf outputs) are (output_points _ state _ _ marked gives file)

  -- the store after the record, before its marks are purged
  pub crossed_is : (gap : HasGap told state.sequence state.unsequence job) → place ≡ job.place
      → After Sequence ≡ record state {
        sequence = gap.run.before ++ (output ++ gap.run.behind);
        unsequence = gap.later;
      }
  crossed_is gap at = λ i. record state {
    sequence = list_is job.sequence _ _ gap.run.behind gap.run.is (at ∙ sym gap.place) i;
    unsequence = (ap (drop (length (numbers_of job.unsequence))) gap.first ∙ dropped_first job.unsequence _) i;
  }

  pub merged_is : (run : IsRun job.unsequence state.unsequence) → place ≡ length run.before
      → After Unsequence ≡ record state { unsequence = run.before ++ (output ++ run.behind) }
  merged_is run at = λ i. record state { unsequence = list_is job.unsequence _ _ run.behind run.is at i }

  by_space : (space : Space) → HasKind space job → Stands space told state.sequence state.unsequence job
      → IsOutputPlace space job state place → Both (After space)
  by_space Sequence kind gap at =
      let new : StoreState = record state {
        sequence = gap.run.before ++ (output ++ gap.run.behind);
        unsequence = gap.later;
      } in
      let same : state ≡ record state {
        sequence = gap.run.before ++ (job.sequence ++ gap.run.behind);
        unsequence = job.unsequence ++ gap.later;
      } = λ i. record state { sequence = gap.run.is i; unsequence = gap.first i } in
      let both = crossed_both told state gap.run.before job.sequence gap.run.behind job.unsequence gap.later output
      gap.below gap.above (λ p. value p _ inputs_are) (part _ inputs_are) rises reached
      (subst (StoreInOrder told) same order) in
      subst Both (sym (crossed_is gap at))
      (both.0, subst (λ (old : StoreState). KeepsWorld told old (purged new)) (sym same) both.1)
  by_space Unsequence kind run at =
      let new : StoreState = record state { unsequence = at.0.before ++ (output ++ at.0.behind) } in
      let late_only : inputs ≡ file_layers told job.unsequence =
      ap (λ files. file_layers told (files ++ job.unsequence)) kind.0 in
      let same : state ≡ record state { unsequence = at.0.before ++ (job.unsequence ++ at.0.behind) } = λ i. record
      state { unsequence = at.0.is i } in
      let both = merged_both told state at.0.before job.unsequence at.0.behind output (λ p. value p _ late_only)
      (part _ late_only) reached (subst (StoreInOrder told) same order) in
      subst Both (sym (merged_is at.0 at.1))
      (both.0, subst (λ (old : StoreState). KeepsWorld told old (purged new)) (sym same) both.1)

  pub committed_in_order : HasKind job.space job → Stands job.space told state.sequence state.unsequence job
      → IsOutputPlace job.space job state place → StoreInOrder told (replaced (replacement job output place) state)
  committed_in_order kind stands at = (by_space job.space kind stands at).0

  pub committed_keeps : HasKind job.space job → Stands job.space told state.sequence state.unsequence job
      → IsOutputPlace job.space job state place
      → KeepsWorld told state (replaced (replacement job output place) state)
  committed_keeps kind stands at = (by_space job.space kind stands at).1
