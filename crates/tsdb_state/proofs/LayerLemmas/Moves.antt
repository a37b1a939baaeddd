-- Points that are put, ranges that are cut, marks that join, and marks that are purged.
use Rattle.std.proofs.Common.{◌≡◌, ℕ, ℤ, ◌<ℤ◌, Bool, true, false, cond, List, [], ◌∷◌, ◌++◌, inl, inr, refl, ap}
use Rattle.std.proofs.Common.{◌∙◌, arith}
use Rattle.std.specs.Prelude.{◌≢◌, ◌⊎◌, ◌&&◌, nat_lt, Option, Some, None}
use Rattle.std.specs.FinMap.{get}
use Rattle.std.specs.List.{AllByRecursion as Each, list_any}
use Rattle.std.specs.Option.{option_or}
use Rattle.std.specs.Ordering.{eq_by_cmp}
use Rattle.std.proofs.lemmas.Int.{ints}
use Rattle.tsdb_base.specs.declared.value.Value.{Value}
use Rattle.tsdb_base.proofs.Lists.{any_among}
use Rattle.tsdb_state.proofs.LayerLemmas.Places.{get_put, is_place, place_itself}
use Rattle.tsdb_state.proofs.LayerLemmas.Tests.{absorbed, clear_alike, clear_filter}
use Rattle.tsdb_state.proofs.LayerLemmas.Values.{no_survivor, or_none, value_append, value_is_point}
use Rattle.tsdb_state.specs.Layers.{Layer, survivor, value_in}
use Rattle.tsdb_base.specs.Lists.{Among}
use Rattle.tsdb_state.specs.Marks.{purge, survives}
use Rattle.tsdb_state.specs.LayerOrder.{IsBeforeInTime}
use Rattle.tsdb_state.specs.Places.{Content, PointPlace, place_cmp, put_content}
use Rattle.tsdb_marks.specs.declared.marks.Mark.{Mark}

-- a purge leaves the survivors of what is as old as one of its borns
purge_test : (borns : List ℕ) (born version : ℕ) → Among born borns
    → (list_any (λ old. nat_lt old version) borns && nat_lt born version) ≡ nat_lt born version
purge_test borns born version among =
    absorbed (list_any (λ old. nat_lt old version) borns) (nat_lt born version) (any_among _ _ _ among)

pub survives_purge : (borns : List ℕ) (marks : List Mark) (place : PointPlace) (born : ℕ) → Among born borns
    → survives (purge borns marks) place born ≡ survives marks place born
survives_purge borns marks place born among =
    clear_filter (nat_lt born) (λ version. list_any (λ old. nat_lt old version) borns) marks place
    ∙ clear_alike _ _ marks place (λ version. purge_test _ _ version among)

pub survivor_purge : (borns : List ℕ) (marks : List Mark) (place : PointPlace) (layer : Layer) → Among layer.born borns
    → survivor (purge borns marks) place layer ≡ survivor marks place layer
survivor_purge borns marks place layer among =
    ap (λ b. cond b (get layer.content place) None) (survives_purge _ _ _ _ among)

pub value_purge : (borns : List ℕ) (marks : List Mark) (place : PointPlace) (layers : List Layer)
    → Each (λ layer. Among layer.born borns) layers
    → value_in (purge borns marks) place layers ≡ value_in marks place layers
value_purge borns marks place [] among = refl
value_purge borns marks place (layer ∷ layers) among =
    let rest = value_purge borns marks place layers among.1 in
    let first = survivor_purge _ _ _ _ among.0 in
    λ i. option_or (rest i) (first i)

-- a layer without a point at the place
pub value_without : (marks : List Mark) (place : PointPlace) (below : List Layer) (layer : Layer) (above : List Layer)
    → get layer.content place ≡ None
    → value_in marks place (below ++ layer ∷ above) ≡ value_in marks place (below ++ above)
value_without marks place below layer above none =
    simp (value_append, no_survivor marks place layer none, or_none {X = Value})

-- a layer in place of another with the same survivor
pub value_layer : (marks : List Mark) (place : PointPlace) (below : List Layer) (layer other : Layer) (above : List Layer)
    → survivor marks place layer ≡ survivor marks place other
    → value_in marks place (below ++ layer ∷ above) ≡ value_in marks place (below ++ other ∷ above)
value_layer marks place below layer other above same = simp (value_append, same)

-- the highest survivor is the value
pub value_top : (marks : List Mark) (place : PointPlace) (value : Value) (below : List Layer) (layer : Layer)
    (above : List Layer)
    → survivor marks place layer ≡ Some value → value_in marks place above ≡ None
    → value_in marks place (below ++ layer ∷ above) ≡ Some value
value_top marks place value below layer above is none = simp (value_append, none, is)

pub put_survives : (marks : List Mark) (place : PointPlace) (value : Value) (born : ℕ) (content : Content)
    → survives marks place born ≡ true
    → survivor marks place (record { born = born; content = put_content place value content }) ≡ Some value
put_survives marks place value born content lives =
    (λ i. cond (lives i) (get (put_content place value content) place) None)
    ∙ get_put _ _ _ _
    ∙ ap (λ b. cond b (Some value) (get content place)) (place_itself _)

pub put_elsewhere : (marks : List Mark) (place other : PointPlace) (value : Value) (born : ℕ) (content : Content)
    → other ≢ place
    → survivor marks other (record { born = born; content = put_content place value content })
    ≡ survivor marks other (record { born = born; content = content })
put_elsewhere marks place other value born content apart =
    ap (λ o. cond (survives marks other born) o None) (get_put _ _ _ _ ∙ by (eq_by_cmp place_cmp other place) refl)
  where
    by : (b : Bool) → eq_by_cmp place_cmp other place ≡ b → cond b (Some value) (get content other) ≡ get content other
    by true e = absurd (apart (is_place _ _ e))
    by false e = refl

-- a run before another in time has no place with it

shares_none : (time : ℤ) → time <ℤ time → ⊥
shares_none time h = grind (arith, ints)

pub before_none : (marks : List Mark) (place : PointPlace) (earlier later : List Layer) → IsBeforeInTime earlier later
    → (value_in marks place earlier ≡ None) ⊎ (value_in marks place later ≡ None)
before_none marks place earlier later before = by (value_in marks place earlier) (value_in marks place later) refl refl
  where
    by : (a b : Option Value) → value_in marks place earlier ≡ a → value_in marks place later ≡ b
        → (a ≡ None) ⊎ (b ≡ None)
    by None b first second = inl refl
    by (Some v) None first second = inr refl
    by (Some v) (Some w) first second = absurd (shares_none _
        (before place place v w (value_is_point _ _ _ v first) (value_is_point _ _ _ w second) refl))
