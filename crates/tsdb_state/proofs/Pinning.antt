-- A pin stands for the world at its step: what it leaves out has no survivor at its places.
use Rattle.std.proofs.Common.{◌≡◌, ℕ, ℤ, Bool, true, false, cond, List, [], ◌∷◌, ◌++◌, map, refl, sym}
use Rattle.std.proofs.Common.{ap, ◌∙◌}
use Rattle.std.proofs.Common.{arith}
use Rattle.std.specs.Prelude.{◌&&◌, nat_lt, Option, Some, None}
use Rattle.std.specs.FinMap.{empty_of_len, get, get-empty, get-retain_keys, len, retain_keys}
use Rattle.std.specs.List.{AllByRecursion as Each, filter}
use Rattle.std.specs.Option.{option_or}
use Rattle.std.proofs.lemmas.Bool.{false≢true}
use Rattle.std.proofs.lemmas.Bool.Decides.{nat_tests}
use mathlib.Core.List.{map-append}
use Rattle.tsdb_base.specs.declared.point.Range.{Range}
use Rattle.tsdb_base.specs.declared.value.Value.{Value}
use Rattle.tsdb_base.proofs.Lists.{any_among, each_left, each_right}
use Rattle.tsdb_state.proofs.LayerLemmas.Places.{path_itself, place_cmp-IsAntisymmetric}
use Rattle.tsdb_state.proofs.LayerLemmas.Values.{no_survivor, or_none, value_append}
use Rattle.tsdb_state.specs.Layers.{Layer, survivor, value_in}
use Rattle.tsdb_state.specs.Marks.{survives}
use Rattle.tsdb_state.specs.Places.{Content, PointPlace, is_within, place_cmp}
use Rattle.tsdb_model.specs.World.{World, is_in, value_at}
use Rattle.tsdb_marks.specs.declared.marks.Mark.{Mark}
use Rattle.tsdb_state.specs.Jobs.{Describes, EntriesMatch}
use Rattle.tsdb_state.specs.State.{ColumnState, EngineState, KnownFiles, File, FromFile, FromPart, FrozenContent, PinState}
use Rattle.tsdb_state.specs.State.{StoreState, ToldContents}
use Rattle.tsdb_state.specs.Steps.{PinStandsFor, TakesPin, file_sources, has_series, part_sources, part_within}
use Rattle.tsdb_state.specs.Steps.{source_layer, sources_of}
use Rattle.tsdb_state.specs.Views.{all_layers, file_layer, file_layers, sequence_layer, sequence_layers}
use Rattle.tsdb_state.specs.Views.{unsequence_layer, unsequence_layers, working_pair}
use Rattle.tsdb_state.specs.Worlds.{StandsFor}

-- marks that leave the same at a place
marks_alike : (marks others : List Mark) (place : PointPlace) (layers : List Layer)
    → ((born : ℕ) → survives marks place born ≡ survives others place born)
    → value_in marks place layers ≡ value_in others place layers
marks_alike marks others place [] alike = refl
marks_alike marks others place (layer ∷ layers) alike =
    let rest = marks_alike marks others place layers alike in
    λ i. option_or (rest i) (cond (alike layer.born i) (get layer.content place) None)

-- a first layer without a survivor
without_first : (marks : List Mark) (place : PointPlace) (layer : Layer) (layers : List Layer)
    → get layer.content place ≡ None → value_in marks place (layer ∷ layers) ≡ value_in marks place layers
without_first marks place layer layers none =
    ap (option_or (value_in marks place layers)) (no_survivor _ _ _ none)
    ∙ or_none _

zero_is : (n : ℕ) → nat_lt 0 n ≡ false → n ≡ 0
zero_is n e = grind (arith, nat_tests)

module _ (told : ToldContents) (known : KnownFiles) (marks : List Mark) (path : List ℕ) (range : Range) (time : ℤ)
    (within : is_in range time ≡ true) where
  abbrev here : PointPlace
  here = record { path = path; time = time }

  -- files without the series

  no_point : (file : File) → Describes (known file.number) (told file.number) → has_series known path file ≡ false
      → get (told file.number) here ≡ None
  no_point file describes none = by (get (told file.number) here) refl
    where
      by : (o : Option Value) → get (told file.number) here ≡ o → o ≡ None
      by None e = refl
      by (Some v) e = absurd (false≢true (sym none ∙ any_among _ _ _ ((describes.series path).1 (here, v, refl, e))
          (path_itself path)))

  files_value : (files : List File) → EntriesMatch told known files
      → value_in marks here (map (source_layer told) (file_sources known path files))
      ≡ value_in marks here (file_layers told files)
  files_value [] match = refl
  files_value (file ∷ files) match = by (has_series known path file) refl (files_value files match.1)
    where
      by : (b : Bool) → has_series known path file ≡ b
          → value_in marks here (map (source_layer told) (file_sources known path files))
          ≡ value_in marks here (file_layers told files)
          → value_in marks here (map (source_layer told) (map FromFile
          (cond b (file ∷ filter (has_series known path) files) (filter (has_series known path) files))))
          ≡ value_in marks here (file_layer told file ∷ file_layers told files)
      by true e rest = ap (λ o. option_or o (survivor marks here (file_layer told file))) rest
      by false e rest =
          rest
          ∙ sym (without_first marks here (file_layer told file) (file_layers told files) (no_point file match.0 e))

  -- parts cut to the range

  is_inside : is_within path range here ≡ true
  is_inside = λ i. path_itself path i && within i

  inside : (content : Content) → get (retain_keys content (is_within path range)) here ≡ get content here
  inside content =
      get-retain_keys content (is_within path range) here (λ x e. ap (is_within path range)
      (sym (place_cmp-IsAntisymmetric here x e)))
      ∙ ap (λ b. cond b (get content here) None) is_inside

  abbrev has_some : Layer → Bool
  has_some layer = nat_lt 0 (len (retain_keys layer.content (is_within path range)))

  no_part : (layer : Layer) → has_some layer ≡ false → get layer.content here ≡ None
  no_part layer none =
      sym (inside _)
      ∙ ap (λ content. get content here) (empty_of_len (retain_keys layer.content (is_within path range))
      (zero_is _ none))
      ∙ get-empty place_cmp here

  parts_value : (layers : List Layer)
      → value_in marks here (map (source_layer told) (part_sources path range layers)) ≡ value_in marks here layers
  parts_value [] = refl
  parts_value (layer ∷ layers) = by (has_some layer) refl (parts_value layers)
    where
      by : (b : Bool) → has_some layer ≡ b
          → value_in marks here (map (source_layer told) (part_sources path range layers)) ≡ value_in marks here layers
          → value_in marks here (map (source_layer told) (map (λ layer. FromPart (part_within path range layer))
          (cond b (layer ∷ filter has_some layers) (filter has_some layers))))
          ≡ value_in marks here (layer ∷ layers)
      by true e rest = λ i. option_or (rest i) (cond (survives marks here layer.born) (inside layer.content i) None)
      by false e rest = rest ∙ sym (without_first marks here layer layers (no_part layer e))

  -- one space
  row_is : (f : FrozenContent → Layer) (files : List File) (frozen : List FrozenContent) (working : FrozenContent)
      → EntriesMatch told known files
      → value_in marks here (map (source_layer told)
      (file_sources known path files ++ part_sources path range (map f (frozen ++ working ∷ []))))
      ≡ value_in marks here (file_layers told files ++ (map f frozen ++ f working ∷ []))
  row_is f files frozen working match =
      ap (value_in marks here) (map-append (source_layer told) (file_sources known path files)
      (part_sources path range (map f (frozen ++ working ∷ []))))
      ∙ value_append marks here (map (source_layer told) (file_sources known path files))
      (map (source_layer told) (part_sources path range (map f (frozen ++ working ∷ []))))
      ∙ (λ i. option_or (parts_value (map f (frozen ++ working ∷ [])) i) (files_value _ match i))
      ∙ sym (value_append marks here (file_layers told files) (map f (frozen ++ working ∷ [])))
      ∙ ap (λ layers. value_in marks here (file_layers told files ++ layers)) (map-append f _ (working ∷ []))

  sources_are : (state : StoreState) → EntriesMatch told known (state.sequence ++ state.unsequence)
      → value_in marks here (map (source_layer told) (sources_of known state path range))
      ≡ value_in marks here (all_layers told state)
  sources_are state match =
      let low = file_sources known path state.sequence ++ part_sources path range
      (map sequence_layer (state.frozen ++ working_pair state ∷ [])) in
      let high = file_sources known path state.unsequence ++ part_sources path range
      (map unsequence_layer (state.frozen ++ working_pair state ∷ [])) in
      ap (value_in marks here) (map-append (source_layer told) low high)
      ∙ value_append marks here (map (source_layer told) low) (map (source_layer told) high)
      ∙ (λ i. option_or (row_is unsequence_layer state.unsequence state.frozen (working_pair state)
      (each_right (λ (file : File). Describes (known file.number) (told file.number)) state.sequence state.unsequence
      match) i) (row_is sequence_layer state.sequence state.frozen (working_pair state)
      (each_left (λ (file : File). Describes (known file.number) (told file.number)) state.sequence state.unsequence
      match) i))
      ∙ sym (value_append marks here (sequence_layers told state) (unsequence_layers told state))

module _ (told : ToldContents) (known : KnownFiles) (state : EngineState)
    (match : EntriesMatch told known (state.store.sequence ++ state.store.unsequence)) (world : World)
    (stands : StandsFor told state.store world) where
  abbrev store : StoreState
  store = state.store

  abbrev At : List ℕ → ℤ → PointPlace
  At path time = record { path = path; time = time }

  columns_stand : (marks : List Mark) (range : Range) (columns : List ColumnState)
      → Each (λ column. (time : ℤ) (born : ℕ) → survives marks (At column.path time) born
      ≡ survives store.marks (At column.path time) born) columns
      → Each (λ column. column.sources ≡ sources_of known store column.path range) columns
      → Each (λ column. (time : ℤ) → is_in range time ≡ true → value_at world column.path time
      ≡ value_in marks (At column.path time) (map (source_layer told) column.sources)) columns
  columns_stand marks range [] alike are = tt
  columns_stand marks range (column ∷ columns) alike are = (
    λ time within. stands.values (At column.path time)
        ∙ sym (marks_alike marks store.marks (At column.path time) (map (source_layer told) column.sources)
        (alike.0 time) ∙ ap (λ sources. value_in store.marks (At column.path time) (map (source_layer told) sources))
        are.0 ∙ sources_are told known store.marks column.path range time within store match),
    columns_stand marks range columns alike.1 are.1,
  )

  pub pin_stands : (pin : PinState) → TakesPin known pin state → PinStandsFor told pin world
  pin_stands pin takes = columns_stand _ _ _ takes.marks takes.columns
