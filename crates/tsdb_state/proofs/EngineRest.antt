-- Pins and sweeps keep an engine in order.
use Rattle.std.proofs.Common.{◌≡◌, ℕ, ◌≤◌, Bool, true, false, cond, List, ◌∷◌, ◌++◌, map, inl, inr, refl}
use Rattle.std.proofs.Common.{sym, ap, ◌∙◌, subst, arith, [], ⊎_elim}
use Rattle.std.specs.FinMap.{len, retain_keys}
use Rattle.std.specs.Prelude.{◌||◌, nat_eq, nat_lt, not, Option, Some, None, IfSome}
use Rattle.std.specs.List.{AllByRecursion as Each, filter, flat_map, list_any}
use Rattle.std.proofs.lemmas.Bool.Decides.{nat_tests}
use Rattle.tsdb_base.specs.declared.point.Range.{Range}
use Rattle.tsdb_base.proofs.Lists.{count_append, each_among, each_from_among, each_weaker}
use Rattle.tsdb_state.specs.Layers.{Layer}
use Rattle.tsdb_state.specs.Places.{is_within}
use Rattle.tsdb_base.specs.Lists.{Among, IsWithOne, count}
use Rattle.tsdb_log.specs.declared.record.LogRecord.{LogRecord}
use Rattle.tsdb_state.proofs.Counting.{some_of_sum}
use Rattle.tsdb_state.proofs.Holding.{held_by_pin, held_with_pin, rights_returned, rights_taken, swept_rights}
use Rattle.tsdb_state.proofs.Numbering.{count_files, count_filter, count_flat, swept_numbers}
use Rattle.tsdb_state.specs.Jobs.{held_numbers, pin_numbers, source_file_numbers}
use Rattle.tsdb_state.specs.Order.{DoubtInOrder, IsInOrder, all_files}
use Rattle.tsdb_state.specs.Records.{names, numbers_of}
use Rattle.tsdb_state.specs.State.{ColumnState, EngineState, KnownFiles, File, FromFile, FromPart, FrozenContent, PinState, SourceState}
use Rattle.tsdb_state.specs.State.{StoreState, ToldContents}
use Rattle.tsdb_state.specs.Steps.{Sweeps, TakesPin, file_sources, part_sources, part_within, pinned}
use Rattle.tsdb_state.specs.Steps.{sources_of, swept, unpinned}
use Rattle.tsdb_state.specs.Views.{sequence_layer, unsequence_layer, working_pair}

files_only : (files : List File) → flat_map source_file_numbers (map FromFile files) ≡ numbers_of files
files_only [] = refl
files_only (file ∷ files) = ap (λ numbers. file.number ∷ numbers) (files_only files)

parts_only : (f : Layer → Layer) (layers : List Layer)
    → flat_map source_file_numbers (map (λ layer. FromPart (f layer)) layers) ≡ []
parts_only f [] = refl
parts_only f (layer ∷ layers) = parts_only f layers

module _ (known : KnownFiles) (state : StoreState) (path : List ℕ) (range : Range) where
  of_files : (n : ℕ) (files : List File) → count n (flat_map source_file_numbers (file_sources known path files))
      ≤ count n (numbers_of files)
  of_files n files =
      subst (λ numbers. count n numbers ≤ count n (numbers_of files)) (sym (files_only _)) (count_filter n _ _)

  of_parts : (n : ℕ) (layers : List Layer) → count n (flat_map source_file_numbers (part_sources path range layers)) ≡ 0
  of_parts n layers = ap (count n) (parts_only (part_within path range)
      (filter (λ layer. nat_lt 0 (len (retain_keys layer.content (is_within path range)))) layers))

  abbrev parts : (FrozenContent → Layer) → List SourceState
  parts f = part_sources path range (map f (state.frozen ++ working_pair state ∷ []))

  sources_listed : (n : ℕ) → count n (flat_map source_file_numbers (sources_of known state path range))
      ≤ count n (numbers_of (state.sequence ++ state.unsequence))
  sources_listed n = omega (
    arith,
    count_flat source_file_numbers n (file_sources known path state.sequence ++ parts sequence_layer)
        (file_sources known path state.unsequence ++ parts unsequence_layer),
    count_flat source_file_numbers n (file_sources known path state.sequence) (parts sequence_layer),
    count_flat source_file_numbers n (file_sources known path state.unsequence) (parts unsequence_layer),
    of_files n state.sequence,
    of_files n state.unsequence,
    of_parts n (map sequence_layer (state.frozen ++ working_pair state ∷ [])),
    of_parts n (map unsequence_layer (state.frozen ++ working_pair state ∷ [])),
    count_files n state.sequence state.unsequence,
  )

columns_listed : (known : KnownFiles) (state : StoreState) (range : Range) (n : ℕ) (columns : List ColumnState)
    → Each (λ column. column.sources ≡ sources_of known state column.path range) columns
    → 1 ≤ count n (flat_map (λ column. flat_map source_file_numbers column.sources) columns)
    → 1 ≤ count n (numbers_of (state.sequence ++ state.unsequence))
columns_listed known state range n [] are h = absurd (omega arith)
columns_listed known state range n (column ∷ columns) are h =
    let here : count n (flat_map source_file_numbers column.sources)
    ≤ count n (numbers_of (state.sequence ++ state.unsequence)) =
    rw are.0 (sources_listed known state column.path range n) in
    ⊎_elim (λ some. omega (arith, here, some)) (columns_listed known state range n columns are.1) (some_of_sum _ _
    (subst (λ m. 1 ≤ m) (count_append n (flat_map source_file_numbers column.sources)
    (flat_map (λ (column : ColumnState). flat_map source_file_numbers column.sources) columns)) h))

-- what is not swept stays

pub not_among : (n : ℕ) (numbers : List ℕ) → (Among n numbers → ⊥) → list_any (nat_eq n) numbers ≡ false
not_among n [] never = refl
not_among n (m ∷ numbers) never = by (nat_eq n m) refl (not_among n numbers (λ h. never (inr h)))
  where
    turned : (n m : ℕ) → nat_eq n m ≡ true → m ≡ n
    turned n m e = grind (arith, nat_tests)

    by : (b : Bool) → nat_eq n m ≡ b → list_any (nat_eq n) numbers ≡ false
        → (nat_eq n m || list_any (nat_eq n) numbers) ≡ false
    by true e rest = absurd (never (inl (turned n m e)))
    by false e rest = ap (λ b. b || list_any (nat_eq n) numbers) e ∙ rest

abbrev left : List ℕ → List File → List File
left numbers outgoing = filter (λ file. not (list_any (nat_eq file.number) numbers)) outgoing

stays : (n : ℕ) (numbers : List ℕ) (outgoing : List File) → (Among n numbers → ⊥) → Among n (numbers_of outgoing)
    → Among n (numbers_of (left numbers outgoing))
stays n numbers [] never among = absurd among
stays n numbers (file ∷ outgoing) never (inl is) =
    let out : list_any (nat_eq file.number) numbers ≡ false = subst (λ m. list_any (nat_eq m) numbers ≡ false) (sym is)
    (not_among n _ never) in
    rw out (inl is)
stays n numbers (file ∷ outgoing) never (inr among) = by (list_any (nat_eq file.number) numbers)
    (stays n numbers outgoing never among)
  where
    by : (b : Bool) → Among n (numbers_of (left numbers outgoing))
        → Among n (numbers_of (cond (not b) (file ∷ left numbers outgoing) (left numbers outgoing)))
    by true h = h
    by false h = inr h

doubt_stays : (told : ToldContents) (named : List ℕ) (state : StoreState) (outgoing : List File) (numbers : List ℕ)
    (doubt : Option LogRecord) → Each (λ number. IfSome doubt (λ item. Among number (names item) → ⊥)) numbers
    → IfSome doubt (DoubtInOrder told named state outgoing)
    → IfSome doubt (DoubtInOrder told named state (left numbers outgoing))
doubt_stays told named state outgoing numbers None settled order = order
doubt_stays told named state outgoing numbers (Some item) settled order = record {
  can = order.can;
  order = order.order;
  world = order.world;
  kept = each_from_among _ _ (λ n among. stays n numbers outgoing (λ h. each_among _ _ n settled h among)
      (each_among _ _ n order.kept among));
}

module _ (told : ToldContents) (known : KnownFiles) (named : List ℕ) (state : EngineState)
    (order : IsInOrder told known named state) where
  pub pin_step : (pin : PinState) → TakesPin known pin state → IsInOrder told known named (pinned pin state)
  pin_step pin takes =
      let rights = rights_taken state.rights (all_files state) _ (pin_numbers pin)
      (held_numbers state.compactions (pin ∷ state.pins)) order.rights
      (λ n. held_with_pin n pin state.compactions state.pins) (λ n h. omega (
        arith,
        count_files n (state.store.sequence ++ state.store.unsequence) state.outgoing,
        columns_listed known state.store pin.range n pin.columns takes.columns h,
      )) in
      search

  pub unpin_step : (pin : PinState) (others : List PinState) → IsWithOne pin others state.pins
      → IsInOrder told known named (unpinned pin others state)
  unpin_step pin others out =
      let rights = rights_returned state.rights (all_files state) (all_files state) _ (pin_numbers pin)
      (held_numbers state.compactions others) order.rights (λ n. held_by_pin n pin others state.pins state.compactions
      out) (λ n. omega arith) in
      search

  pub sweep_step : (numbers : List ℕ) → Sweeps numbers state → IsInOrder told known named (swept numbers state)
  sweep_step numbers sweeps =
      let numbers_left = swept_numbers named numbers state order.numbers in
      let rights = swept_rights numbers state sweeps.free order.rights in
      let doubt = doubt_stays told named state.store state.outgoing numbers state.doubt sweeps.settled order.doubt in
      search

  -- no job and no pin has a right on a file that is swept
  pub swept_free : (numbers : List ℕ) → Sweeps numbers state
      → Each (λ number. count number (held_numbers state.compactions state.pins) ≡ 0) numbers
  swept_free numbers sweeps = each_weaker _ _ (λ number free. sym (order.rights.counts number) ∙ free) _ sweeps.free
