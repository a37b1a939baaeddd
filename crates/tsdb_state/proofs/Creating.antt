-- A series that joins: the order stays, and the state stands for the plain map's world after it.
use Rattle.std.proofs.Common.{◌≡◌, ℕ, Bool, true, false, cond, List, refl, sym, ap, ◌∙◌}
use Rattle.std.specs.Prelude.{Option, Some, None, is_some}
use Rattle.std.specs.Cmp.Lexicographic.{nat_list_cmp_total}
use Rattle.std.specs.FinMap.{get, get-empty, get-insert}
use Rattle.std.specs.Option.{option_or}
use Rattle.std.specs.Ordering.{int_cmp}
use Rattle.tsdb_base.specs.declared.answers.Answer.TheVariants.{Done, Exists}
use Rattle.tsdb_base.proofs.Lists.{each_append, pairs_push}
use Rattle.tsdb_state.proofs.LayerLemmas.Places.{is_path_same}
use Rattle.tsdb_state.proofs.LayerLemmas.Values.{or_none}
use Rattle.tsdb_state.specs.Places.{PointPlace, is_path}
use Rattle.tsdb_model.specs.Apply.{accepted, reply_of}
use Rattle.tsdb_model.specs.World.{Series, World, new_series, points_of_series, value_at}
use Rattle.tsdb_model.specs.declared.command.Command.TheVariants.{Create}
use Rattle.tsdb_model.specs.declared.command.Schema.{Schema}
use Rattle.tsdb_model.specs.declared.reply.Reply.TheVariants.{Plain}
use Rattle.tsdb_state.proofs.Series.{free_apart, series_kept, type_kept, type_push}
use Rattle.tsdb_state.proofs.Stamps.{stamps_up, value_stamp}
use Rattle.tsdb_state.proofs.Worlds.{type_in}
use Rattle.tsdb_state.specs.Records.{CanCreate, created}
use Rattle.tsdb_state.specs.State.{SeriesEntry, StoreState, ToldContents}
use Rattle.tsdb_state.specs.StoreOrder.{StoreInOrder}
use Rattle.tsdb_state.specs.Worlds.{StandsFor, type_at, value_at_place}

module _ (told : ToldContents) (schema : Schema) (state : StoreState) (order : StoreInOrder told state)
    (can : CanCreate schema state) where
  abbrev entry : SeriesEntry
  entry = record { schema = schema; live = true }

  created_value : (place : PointPlace) → value_at_place told (created schema state) place ≡ value_at_place told state place
  created_value place = value_stamp told state place order.stamps.versions

  pub created_in_order : StoreInOrder told (created schema state)
  created_in_order = record {
    layers = order.layers;
    stamps = stamps_up _ _ _ _ _ _ _ order.stamps;
    series = record {
      formed = each_append _ _ _ order.series.formed (can.formed, tt);
      once = pairs_push _ _ _ order.series.once (free_apart _ entry can.free);
      typed = λ place value has. series_kept _ _ _ _ (order.series.typed place value has);
    };
    live = λ place value is. type_kept state.schemas entry place.path _
        (order.live place value (sym (created_value _) ∙ is));
    limit = order.limit;
  }

  module _ (world : World) (stands : StandsFor told state world) where
    none_there : (found : Option Series) → type_in found ≡ None → found ≡ None
    none_there None e = refl
    none_there (Some s) e = absurd (cc)

    not_there : get world schema.path ≡ None
    not_there = none_there _ (stands.types schema.path ∙ can.free)

    pub created_reply : reply_of world (Create schema) ≡ Plain Done
    created_reply = ap (λ o. Plain (cond (is_some o) Exists Done)) not_there

    found : (path : List ℕ) → get (accepted world (Create schema)) path
        ≡ cond (is_path path schema.path) (Some (new_series schema.data_type)) (get world path)
    found path = get-insert nat_list_cmp_total world schema.path (new_series schema.data_type) path

    pub created_stands : StandsFor told (created schema state) (accepted world (Create schema))
    created_stands = record {
      types =
          λ path. ap type_in (found _)
          ∙ by_type path (is_path path schema.path) refl
          ∙ sym (type_push state.schemas entry path);
      values =
          λ place. ap (λ o. get (points_of_series o) place.time) (found _)
          ∙ by_value place (is_path place.path schema.path) refl
          ∙ stands.values place
          ∙ sym (created_value _);
    }
      where
        by_type : (path : List ℕ) (b : Bool) → is_path path schema.path ≡ b
            → type_in (cond b (Some (new_series schema.data_type)) (get world path))
            ≡ option_or (type_at state.schemas path) (cond b (Some schema.data_type) None)
        by_type path true e = ap (λ o. option_or o (Some schema.data_type))
            (sym (ap (type_at state.schemas) (is_path_same _ _ e) ∙ can.free))
        by_type path false e = stands.types path ∙ sym (or_none (type_at state.schemas path))

        by_value : (place : PointPlace) (b : Bool) → is_path place.path schema.path ≡ b
            → get (points_of_series (cond b (Some (new_series schema.data_type)) (get world place.path))) place.time
            ≡ value_at world place.path place.time
        by_value place true e =
            get-empty int_cmp place.time
            ∙ sym (ap (λ o. get (points_of_series o) place.time) (ap (get world) (is_path_same _ _ e) ∙ not_there) ∙ get-empty
            int_cmp place.time)
        by_value place false e = refl
