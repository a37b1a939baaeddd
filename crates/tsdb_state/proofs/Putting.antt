-- A point that is put into the working pair: the order stays, and its place alone has a new value.
use Rattle.std.proofs.Common.{⊎_elim, ◌≡◌, ℤ, ◌≤ℤ◌, ◌<ℤ◌, Bool, true, false, cond, List, inl, inr}
use Rattle.std.proofs.Common.{refl, sym, ap, ◌∙◌, subst, arith}
use Rattle.std.specs.Prelude.{◌⊎◌, Option, Some, None, IfSome, int_lt}
use Rattle.std.specs.FinMap.{get}
use Rattle.std.specs.Option.{IsSomeAnd}
use Rattle.std.specs.Ordering.{eq_by_cmp}
use Rattle.std.proofs.lemmas.Int.{ints}
use Rattle.tsdb_base.specs.declared.ids.Space.TheVariants.{Sequence, Unsequence}
use Rattle.tsdb_base.specs.declared.value.Value.{Value}
use Rattle.tsdb_state.proofs.LayerLemmas.Places.{get_put, is_place}
use Rattle.tsdb_state.proofs.LayerLemmas.Values.{value_none}
use Rattle.tsdb_state.specs.Layers.{HasPoint, Layer, value_in}
use Rattle.tsdb_state.specs.LayerOrder.{IsAbove, IsBelow, WatermarkMap}
use Rattle.tsdb_state.specs.Places.{Content, PointPlace, place_cmp, put_content}
use Rattle.tsdb_memtable.specs.Watermarks.{space_by}
use Rattle.tsdb_path.specs.Nodes.{device_of}
use Rattle.tsdb_state.proofs.Values.{AreReached, joined, stored, stored_late, value_is}
use Rattle.tsdb_state.specs.Records.{put_in_pair, put_in_space}
use Rattle.tsdb_state.specs.State.{File, FrozenContent, PairContent, StoreState, ToldContents}
use Rattle.tsdb_state.specs.StoreOrder.{LayersInOrder}
use Rattle.tsdb_state.specs.Views.{layer_of, pair_layers}
use Rattle.tsdb_state.specs.Worlds.{value_at_place}

-- what holds of the points of a content, and of one more
pub put_holds : (P : PointPlace → Value → Type 0) (content : Content) (place : PointPlace) (value : Value)
    → ((q : PointPlace) (w : Value) → HasPoint (layer_of content) q w → P q w) → P place value
    → (q : PointPlace) (w : Value) → HasPoint (layer_of (put_content place value content)) q w → P q w
put_holds P content place value all one q w (inr none) = absurd none
put_holds P content place value all one q w (inl is) = by (eq_by_cmp place_cmp q place) refl
    (sym (get_put _ _ _ q) ∙ is)
  where
    by : (b : Bool) → eq_by_cmp place_cmp q place ≡ b → cond b (Some value) (get content q) ≡ Some w → P q w
    by true e is =
        let same : value ≡ w = cc in
        subst (λ p. P p w) (sym (is_place q place e)) (subst (P place) same one)
    by false e is = all q w (inl is)

-- the two cases of the watermark rule

above_watermark : (last time : ℤ) → int_lt last time ≡ true → last <ℤ time
above_watermark last time e = grind (arith, ints)

at_most_watermark : (last time : ℤ) → int_lt last time ≡ false → time ≤ℤ last
at_most_watermark last time e = grind (arith, ints)

not_both : (last time : ℤ) → last <ℤ time → time ≤ℤ last → ⊥
not_both last time h k = grind (arith, ints)

-- the space of a place: above the watermark, or at most at it
pub data Goes (watermarks : WatermarkMap) (place : PointPlace) (value : Value) (pair new : PairContent) : Type 0 where
  Early : IfSome (get watermarks (device_of place.path)) (λ last. last <ℤ place.time)
      → new ≡ record pair { sequence = put_content place value pair.sequence } → Goes watermarks place value pair new
  Late : IsSomeAnd (get watermarks (device_of place.path)) (λ last. place.time ≤ℤ last)
      → new ≡ record pair { unsequence = put_content place value pair.unsequence } → Goes watermarks place value pair new

pub goes : (watermarks : WatermarkMap) (place : PointPlace) (value : Value) (pair : PairContent)
    → Goes watermarks place value pair (put_in_pair watermarks place value pair)
goes watermarks place value pair = by (get watermarks (device_of place.path)) refl
  where
    if_early : (o : Option ℤ) → get watermarks (device_of place.path) ≡ o
        → IfSome o (λ last. last <ℤ place.time)
        → IfSome (get watermarks (device_of place.path)) (λ last. last <ℤ place.time)
    if_early o e h = subst (λ o. IfSome o (λ last. last <ℤ place.time)) (sym e) h

    tested : (last : ℤ) (b : Bool) → get watermarks (device_of place.path) ≡ Some last → int_lt last place.time ≡ b
        → Goes watermarks place value pair (put_in_space (cond b Sequence Unsequence) place value pair)
    tested last true e t = Early (if_early (Some last) e (above_watermark _ _ t)) refl
    tested last false e t =
        Late (subst (λ o. IsSomeAnd o (λ last. place.time ≤ℤ last)) (sym e) (at_most_watermark _ _ t)) refl

    by : (o : Option ℤ) → get watermarks (device_of place.path) ≡ o
        → Goes watermarks place value pair (put_in_space (space_by o place.time) place value pair)
    by None e = Early (if_early None e tt) refl
    by (Some last) e = tested last (int_lt last place.time) e refl

module _ (told : ToldContents) (watermarks : WatermarkMap) (sequence unsequence : List File) (frozen : List FrozenContent)
    (pair : PairContent) (place : PointPlace) (value : Value) where
  abbrev In : PairContent → Type 0
  In pair = LayersInOrder told watermarks sequence unsequence frozen pair

  pub put_in_order : In pair → In (put_in_pair watermarks place value pair)
  put_in_order order = by (put_in_pair watermarks place value pair) (goes _ _ _ _)
    where
      by : (new : PairContent) → Goes watermarks place value pair new → In new
      by new (Early above is) =
          let held : IsAbove watermarks (layer_of (put_content place value pair.sequence)) = put_holds
          (λ q w. IfSome (get watermarks (device_of q.path)) (λ last. last <ℤ q.time)) pair.sequence place value
          order.above above in
          let new_order : In (record pair { sequence = put_content place value pair.sequence }) = search in
          subst In (sym is) new_order
      by new (Late below is) =
          let held : IsBelow watermarks (layer_of (put_content place value pair.unsequence)) = put_holds
          (λ q w. IsSomeAnd (get watermarks (device_of q.path)) (λ last. q.time ≤ℤ last)) pair.unsequence place value
          order.working_below below in
          let new_order : In (record pair { unsequence = put_content place value pair.unsequence }) = search in
          subst In (sym is) new_order

-- what is above the watermark has no late point

contradiction : (o : Option ℤ) (time : ℤ) → IfSome o (λ last. last <ℤ time) → IsSomeAnd o (λ last. time ≤ℤ last) → ⊥
contradiction None time above below = below
contradiction (Some last) time above below = not_both _ _ above below

no_late : (watermarks : WatermarkMap) (layers : List Layer) (place : PointPlace)
    → IfSome (get watermarks (device_of place.path)) (λ last. last <ℤ place.time) → IsBelow watermarks layers
    → (value : Value) → HasPoint layers place value → ⊥
no_late watermarks layers place above below value has = contradiction _ _ above (below place value has)

none_is : (o : Option Value) → ((value : Value) → o ≡ Some value → ⊥) → o ≡ None
none_is None never = refl
none_is (Some value) never = absurd (never value refl)

module _ (told : ToldContents) (state : StoreState) (place : PointPlace) (value : Value)
    (order : LayersInOrder told state.watermarks state.sequence state.unsequence state.frozen state.working)
    (reached : AreReached state.marks state.stamp) where
  abbrev new_pair : PairContent
  new_pair = put_in_pair state.watermarks place value state.working

  -- the state with another working pair
  abbrev pub with_working : PairContent → StoreState
  with_working pair = record state { working = pair }

  abbrev below_at : PointPlace → Option Value
  below_at q = value_in state.marks q (stored told state.sequence state.frozen)

  abbrev late_at : PointPlace → Option Value
  late_at q = value_in state.marks q (stored_late told state.unsequence state.frozen)

  abbrev Is : PairContent → PointPlace → Type 0
  Is new q =
      value_at_place told (with_working new) q ≡ cond (eq_by_cmp place_cmp q place) (Some value) (value_at_place told state q)

  here_or : (b : Bool) (w s l u : Option Value) → (b ≡ true → l ≡ None) → (b ≡ true → u ≡ None)
      → joined (cond b (Some value) w) l s u ≡ cond b (Some value) (joined w l s u)
  here_or true w s l u e f = (λ i. joined (Some value) (e refl i) s (f refl i))
  here_or false w s l u e f = refl

  here_late : (b : Bool) (w s l u : Option Value)
      → joined w (cond b (Some value) l) s u ≡ cond b (Some value) (joined w l s u)
  here_late true w s l u = refl
  here_late false w s l u = refl

  pub put_value : (q : PointPlace) → Is new_pair q
  put_value q = by new_pair (goes _ _ _ _)
    where
      at_place : (layers : List Layer) → IsBelow state.watermarks layers
          → IfSome (get state.watermarks (device_of place.path)) (λ last. last <ℤ place.time)
          → eq_by_cmp place_cmp q place ≡ true → (value : Value) → HasPoint layers q value → ⊥
      at_place layers below above e value has =
          no_late _ _ _ above below _ (subst (λ (p : PointPlace). HasPoint layers p value) (is_place q _ e) has)

      by : (new : PairContent) → Goes state.watermarks place value state.working new → Is new q
      by new (Early above is) = subst (λ new. Is new q) (sym is)
          (value_is told (with_working (record state.working { sequence = put_content place value state.working.sequence })) q
          reached ∙ ap (λ o. joined o (get state.working.unsequence q) (below_at q) (late_at q)) (get_put _ _ _ q)
          ∙ here_or _ _ _ _ _ (λ e. none_is _ (λ v has. at_place (layer_of state.working.unsequence) order.working_below
          above e v (inl has))) (λ e. value_none _ q _ (λ v has. at_place
          (stored_late told state.unsequence state.frozen) order.late_below above e v has))
          ∙ ap (cond (eq_by_cmp place_cmp q place) (Some value)) (sym (value_is told state q reached)))
      by new (Late below is) = subst (λ new. Is new q) (sym is)
          (value_is told (with_working (record state.working { unsequence = put_content place value state.working.unsequence }))
          q reached ∙ ap (λ o. joined (get state.working.sequence q) o (below_at q) (late_at q))
          (get_put state.working.unsequence place value q) ∙ here_late (eq_by_cmp place_cmp q place)
          (get state.working.sequence q) (below_at q) (get state.working.unsequence q) (late_at q)
          ∙ ap (cond (eq_by_cmp place_cmp q place) (Some value)) (sym (value_is told state q reached)))

-- what holds of the points of a pair, and of one more, in whichever space it goes
pub pair_holds : (P : PointPlace → Value → Type 0) (watermarks : WatermarkMap) (place : PointPlace) (value : Value) (pair : PairContent)
    → ((q : PointPlace) (w : Value) → HasPoint (pair_layers pair) q w → P q w) → P place value
    → (q : PointPlace) (w : Value) → HasPoint (pair_layers (put_in_pair watermarks place value pair)) q w → P q w
pair_holds P watermarks place value pair all one q w has =
    by (put_in_pair watermarks place value pair) (goes _ _ _ _) has
  where
    split : (new : PairContent) → HasPoint (pair_layers new) q w
        → HasPoint (layer_of new.sequence) q w ⊎ HasPoint (layer_of new.unsequence) q w
    split new (inl h) = inl (inl h)
    split new (inr (inl h)) = inr (inl h)
    split new (inr (inr h)) = absurd h

    first : (q : PointPlace) (w : Value) → HasPoint (layer_of pair.sequence) q w → P q w
    first q w (inl h) = all q w (inl h)
    first q w (inr h) = absurd h

    second : (q : PointPlace) (w : Value) → HasPoint (layer_of pair.unsequence) q w → P q w
    second q w (inl h) = all q w (inr (inl h))
    second q w (inr h) = absurd h

    by : (new : PairContent) → Goes watermarks place value pair new → HasPoint (pair_layers new) q w → P q w
    by new (Early above is) h = ⊎_elim (put_holds P _ _ _ first one q w) (second q w)
        (split (record pair { sequence = put_content place value pair.sequence })
        (subst (λ (p : PairContent). HasPoint (pair_layers p) q w) is h))
    by new (Late below is) h = ⊎_elim (first q w) (put_holds P _ _ _ second one q w)
        (split (record pair { unsequence = put_content place value pair.unsequence })
        (subst (λ (p : PairContent). HasPoint (pair_layers p) q w) is h))
