-- A deletion: the order stays, and the points in the range are gone, wherever they were.
use Rattle.std.proofs.Common.{◌≡◌, ℕ, ◌+◌, ◌<◌, ◌≤◌, Bool, true, false, cond, List, ◌∷◌, ◌++◌, map, inl, inr, refl, sym}
use Rattle.std.proofs.Common.{ap, ◌∙◌, arith, []}
use Rattle.std.specs.Prelude.{not, int_lt, Option, Some, None, is_some, IsSome}
use Rattle.std.specs.FinMap.{get}
use Rattle.std.specs.List.{AllByRecursion as Each}
use Rattle.std.proofs.lemmas.Bool.{false≢true}
use Rattle.tsdb_base.specs.Values.{type_of}
use Rattle.tsdb_base.specs.declared.answers.Answer.TheVariants.{Done, NoPath}
use Rattle.tsdb_base.specs.declared.point.Range.{Range}
use Rattle.tsdb_base.specs.declared.value.DataType.{DataType}
use Rattle.tsdb_base.specs.declared.value.Value.{Value}
use Rattle.tsdb_base.proofs.Lists.{each_append, each_map, each_weaker, pairs_push}
use Rattle.tsdb_state.proofs.LayerLemmas.Places.{get_cut}
use Rattle.tsdb_state.specs.Layers.{HasPoint, Layer, value_in}
use Rattle.tsdb_base.specs.Lists.{EachPair}
use Rattle.tsdb_state.specs.Places.{Content, PointPlace, cut_content, is_within}
use Rattle.tsdb_model.specs.Apply.{accepted, reply_of}
use Rattle.tsdb_model.specs.World.{Series, World}
use Rattle.tsdb_model.specs.declared.command.Command.TheVariants.{Delete}
use Rattle.tsdb_model.specs.declared.reply.Reply.TheVariants.{Plain}
use Rattle.tsdb_marks.specs.declared.marks.Mark.{Mark}
use Rattle.tsdb_state.proofs.Cutting.{mark_of, cut_limit, cut_point, cut_points, marked_value}
use Rattle.tsdb_state.proofs.Purges.{stamps_purged, value_purged}
use Rattle.tsdb_state.proofs.Stamps.{stamps_up}
use Rattle.tsdb_state.proofs.Values.{AreReached, joined, reached_more, stored, stored_late, value_is}
use Rattle.tsdb_state.proofs.Worlds.{change_type, cut_at, type_in}
use Rattle.tsdb_state.specs.Records.{CanDelete, add_mark, cut_pair, deleted}
use Rattle.tsdb_state.specs.State.{File, FrozenContent, StoreState, ToldContents}
use Rattle.tsdb_state.specs.StoreOrder.{StampsInOrder, StoreInOrder}
use Rattle.tsdb_state.specs.Views.{file_layers, pair_layers, layer_of, sequence_layer, unsequence_layer}
use Rattle.tsdb_state.specs.Worlds.{StandsFor, type_at, value_at_place}
use Rattle.tsdb_state.proofs.LayerLemmas.Rising.{part_append, part_itself}

older_files : (told : ToldContents) (stamp : ℕ) (files : List File) → Each (λ file. file.born ≤ stamp) files
    → Each (λ layer. layer.born < stamp + 1) (file_layers told files)
older_files told stamp files old = each_map _ _ _ (each_weaker _ _ (λ file h. omega (arith, h)) _ old)

module _ (told : ToldContents) (path : List ℕ) (range : Range) (state : StoreState) (order : StoreInOrder told state)
    (can : CanDelete path state) where
  -- the state before its marks are purged
  abbrev marked : StoreState
  marked = record state {
    stamp = state.stamp + 1;
    marks = add_mark path range (state.stamp + 1) state.marks;
    working = cut_pair path range state.working;
  }

  marks_reached : AreReached marked.marks (state.stamp + 1)
  marks_reached = by (int_lt range.to range.from)
    where
      by : (b : Bool)
          → AreReached (cond b state.marks (state.marks ++ mark_of path range (state.stamp + 1) ∷ [])) (state.stamp + 1)
      by true = reached_more _ _ order.stamps.versions
      by false = each_append _ _ _ (reached_more _ _ order.stamps.versions) (omega arith, tt)

  marks_rise : EachPair (λ (mark later : Mark). mark.version.0 < later.version.0) marked.marks
  marks_rise = by (int_lt range.to range.from)
    where
      by : (b : Bool) → EachPair (λ (mark later : Mark). mark.version.0 < later.version.0)
          (cond b state.marks (state.marks ++ mark_of path range (state.stamp + 1) ∷ []))
      by true = order.stamps.versions_rise
      by false = pairs_push _ _ _ order.stamps.versions_rise
          (each_weaker _ _ (λ mark h. omega (arith, h)) _ order.stamps.versions)

  abbrev Older : Layer → Type 0
  Older layer = layer.born < state.stamp + 1

  pairs_older : (f : FrozenContent → Layer) → ((pair : FrozenContent) → (f pair).born ≡ pair.born)
      → Each Older (map f state.frozen)
  pairs_older f same =
      each_map _ f _ (each_weaker _ _ (λ pair h. omega (arith, same pair, h)) _ order.stamps.frozen_born)

  abbrev at : PointPlace → Bool
  at place = is_within path range place

  marked_is : (place : PointPlace) → value_at_place told marked place ≡ cond (at place) None (value_at_place told state place)
  marked_is place =
      value_is told marked _ marks_reached
      ∙ (λ i. joined (get_cut state.working.sequence path range place i)
      (get_cut state.working.unsequence path range place i) (marked_value path range _ state.marks place _
      (each_append _ _ _ (older_files told _ _ order.stamps.sequence_born) (pairs_older sequence_layer (λ p. refl))) i)
      (marked_value path range _ state.marks place _ (each_append _ _ _
      (older_files told _ _ order.stamps.unsequence_born) (pairs_older unsequence_layer (λ p. refl))) i))
      ∙ all (at place) (get state.working.sequence place) (get state.working.unsequence place)
      (value_in state.marks place (stored told state.sequence state.frozen))
      (value_in state.marks place (stored_late told state.unsequence state.frozen))
      ∙ ap (cond (at place) None) (sym (value_is told state _ order.stamps.versions))
    where
      all : (w : Bool) (a b c d : Option Value)
          → joined (cond (not w) a None) (cond (not w) b None) (cond w None c) (cond w None d)
          ≡ cond w None (joined a b c d)
      all true a b c d = refl
      all false a b c d = refl

  pub deleted_value : (place : PointPlace)
      → value_at_place told (deleted path range state) place ≡ cond (at place) None (value_at_place told state place)
  deleted_value place = value_purged told marked place marks_reached ∙ marked_is _

  marked_stamps : StampsInOrder (state.stamp + 1) marked.marks state.sequence state.unsequence state.frozen
      marked.working
  marked_stamps =
      let up = stamps_up state.stamp state.marks state.sequence state.unsequence state.frozen state.working
      marked.working order.stamps in
      let versions = marks_reached in
      let rise = marks_rise in
      search

  pub deleted_in_order : StoreInOrder told (deleted path range state)
  deleted_in_order = record {
    layers = record {
      rises = order.layers.rises;
      late = order.layers.late;
      below = order.layers.below;
      late_below = order.layers.late_below;
      working_below =
          λ place value has. order.layers.working_below place value (one state.working.unsequence place value has);
      above = λ place value has. order.layers.above place value (one state.working.sequence place value has);
    };
    stamps = stamps_purged told marked marked_stamps;
    series = record {
      formed = order.series.formed;
      once = order.series.once;
      typed = λ place value has. order.series.typed place value
          (part_append files (pairs ++ pair_layers marked.working) files (pairs ++ pair_layers state.working)
          (part_itself files) (part_append pairs (pair_layers marked.working) pairs (pair_layers state.working)
          (part_itself pairs) (cut_points path range state.working)) place value has);
    };
    live = λ place value is. live place value (at place) (sym (deleted_value _) ∙ is);
    limit = cut_limit _ _ _ order.limit;
  }
    where
      files : List Layer
      files = file_layers told state.sequence ++ file_layers told state.unsequence

      pairs : List Layer
      pairs = map sequence_layer state.frozen ++ map unsequence_layer state.frozen

      one : (content : Content) (place : PointPlace) (value : Value)
          → HasPoint (layer_of (cut_content path range content)) place value
          → HasPoint (layer_of content) place value
      one content place value (inl h) = inl (cut_point _ _ _ _ _ h)
      one content place value (inr h) = absurd h

      live : (place : PointPlace) (value : Value) (w : Bool) → cond w None (value_at_place told state place) ≡ Some value
          → type_at state.schemas place.path ≡ Some (type_of value)
      live place value true is = absurd (cc)
      live place value false is = order.live place value is

  module _ (world : World) (stands : StandsFor told state world) where
    pub deleted_reply : reply_of world (Delete path range) ≡ Plain Done
    deleted_reply = ap (λ b. Plain (cond b Done NoPath)) (by (get world path) (type_at state.schemas path)
        (stands.types path) can.there)
      where
        by : (o : Option Series) (t : Option DataType) → type_in o ≡ t → IsSome t → is_some o ≡ true
        by None None e h = absurd (false≢true h)
        by None (Some t) e h = absurd (cc)
        by (Some s) t e h = refl

    pub deleted_stands : StandsFor told (deleted path range state) (accepted world (Delete path range))
    deleted_stands = record {
      types = λ q. change_type _ _ q _ (λ s. refl) ∙ stands.types q;
      values = λ place. cut_at _ _ _ _ ∙ ap (cond (at place) None) (stands.values place) ∙ sym (deleted_value _);
    }
