-- A purge leaves the values of a state, and its order.
use Rattle.std.proofs.Common.{◌≡◌, ℕ, ◌++◌, map, refl, List, subst}
use Rattle.std.specs.List.{AllByRecursion as Each}
use Rattle.tsdb_base.proofs.Lists.{among_left, among_map, among_right, each_append, each_filter, each_from_among}
use Rattle.tsdb_base.proofs.Lists.{each_map, pairs_filter}
use Rattle.tsdb_state.proofs.LayerLemmas.Moves.{value_purge}
use Rattle.tsdb_state.specs.Layers.{Layer}
use Rattle.tsdb_base.specs.Lists.{Among}
use Rattle.tsdb_state.specs.Marks.{is_any_older, purge}
use Rattle.tsdb_state.specs.Places.{PointPlace}
use Rattle.tsdb_state.proofs.Values.{AreReached, stored, stored_late, value_by_parts}
use Rattle.tsdb_state.specs.Records.{purged}
use Rattle.tsdb_state.specs.State.{File, FrozenContent, StoreState, ToldContents}
use Rattle.tsdb_state.specs.StoreOrder.{StampsInOrder}
use Rattle.tsdb_state.specs.Views.{borns_of, file_layers}
use Rattle.tsdb_state.specs.Worlds.{value_at_place}

module _ (told : ToldContents) (state : StoreState) where
  abbrev born_of : File → ℕ
  born_of file = file.born

  abbrev Listed : Layer → Type 0
  Listed layer = Among layer.born (borns_of state)

  files_listed : (files : List File)
      → ((file : File) → Among file files → Among file (state.sequence ++ state.unsequence))
      → Each Listed (file_layers told files)
  files_listed files listed =
      each_map _ _ _ (each_from_among _ _ (λ file among. among_left _ _ _ (among_map _ _ _ (listed file among))))

  pairs_listed : (f : FrozenContent → Layer) → ((pair : FrozenContent) → pair.born ≡ (f pair).born)
      → Each Listed (map f state.frozen)
  pairs_listed f same = each_map _ f _ (each_from_among _ _ (λ pair among. subst (λ born. Among born (borns_of state))
      (same pair) (among_right _ _ _ (among_map _ _ _ among))))

  pub stored_listed : Each Listed (stored told state.sequence state.frozen)
  stored_listed = each_append _ _ _ (files_listed _ (λ file. among_left _ _ _)) (pairs_listed _ (λ pair. refl))

  pub late_listed : Each Listed (stored_late told state.unsequence state.frozen)
  late_listed = each_append _ _ _ (files_listed _ (λ file. among_right _ _ _)) (pairs_listed _ (λ pair. refl))

  pub value_purged : (place : PointPlace) → AreReached state.marks state.stamp
      → value_at_place told (purged state) place ≡ value_at_place told state place
  value_purged place reached = value_by_parts told told state (purged state) place reached
      (each_filter _ (is_any_older (borns_of state)) _ reached) refl refl
      (value_purge _ state.marks place _ stored_listed) (value_purge _ state.marks place _ late_listed)

  pub stamps_purged : StampsInOrder state.stamp state.marks state.sequence state.unsequence state.frozen state.working
      → StampsInOrder state.stamp (purge (borns_of state) state.marks) state.sequence state.unsequence state.frozen
      state.working
  stamps_purged stamps =
      let versions = each_filter _ (is_any_older (borns_of state)) state.marks stamps.versions in
      let rise = pairs_filter _ (is_any_older (borns_of state)) state.marks stamps.versions_rise in
      search
