-- A new store is in order, and stands for the world without series.
use Rattle.std.proofs.Common.{◌≡◌, ℕ, List, [], refl, sym, ◌∙◌, inl, arith, None}
use Rattle.std.specs.Cmp.Lexicographic.{slice_cmp}
use Rattle.std.specs.FinMap.{empty, get, get-empty}
use Rattle.std.specs.Option.{option_map}
use Rattle.std.specs.Ordering.{int_cmp, nat_cmp}
use Rattle.tsdb_state.proofs.LayerLemmas.Values.{value_none}
use Rattle.tsdb_state.specs.Places.{PointPlace}
use Rattle.tsdb_model.specs.World.{Series, points_of_series}
use Rattle.tsdb_state.proofs.Values.{none_in, none_in_pair}
use Rattle.tsdb_state.specs.NewStore.{new_store}
use Rattle.tsdb_state.specs.State.{ToldContents}
use Rattle.tsdb_state.specs.StoreOrder.{StoreInOrder}
use Rattle.tsdb_state.specs.Views.{all_layers}
use Rattle.tsdb_state.specs.Worlds.{StandsFor, value_at_place}

no_value : (told : ToldContents) (place : PointPlace) → value_at_place told new_store place ≡ None
no_value told place = value_none [] place (all_layers told new_store) (none_in_pair place)

pub new_store_in_order : (told : ToldContents) → StoreInOrder told new_store
new_store_in_order told = record {
  layers = record {
    rises = tt;
    late = tt;
    below = λ place value has. absurd has;
    late_below = λ place value has. absurd has;
    working_below = λ place value has. absurd (none_in place value has);
    above = λ place value has. absurd (none_in place value has);
  };
  stamps = record {
    sequence_born = tt;
    unsequence_born = tt;
    frozen_born = tt;
    frozen_rise = tt;
    two = omega arith;
    filled = tt;
    working_born = λ some. tt;
    versions = tt;
    versions_rise = tt;
  };
  series = record { formed = tt; once = tt; typed = λ place value has. absurd (none_in_pair place value has) };
  live = λ place value is. absurd (let none = no_value told place in cc);
  limit = inl (refl, refl);
}

pub new_store_stands : (told : ToldContents) → StandsFor told new_store empty
new_store_stands told = record {
  types = λ path. type_in_empty path;
  values = λ place. value_in_empty place ∙ sym (no_value told _);
}
  where
    type_in_empty : (path : List ℕ)
        → option_map (λ (s : Series). s.data_type)
        (get (empty {X = Series} {R = slice_cmp nat_cmp}) path) ≡ None
    type_in_empty path = λ i. option_map (λ (s : Series). s.data_type) (get-empty (slice_cmp nat_cmp) path i)

    value_in_empty : (place : PointPlace)
        → get (points_of_series (get (empty {X = Series} {R = slice_cmp nat_cmp}) place.path))
        place.time ≡ None
    value_in_empty place =
        (λ i. get (points_of_series (get-empty (slice_cmp nat_cmp) place.path i)) place.time)
        ∙ get-empty int_cmp place.time
