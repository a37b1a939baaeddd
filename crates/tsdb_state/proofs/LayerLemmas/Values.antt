-- The value of layers in the moves that steps make of them.
use Rattle.std.proofs.Common.{◌≡◌, Bool, true, false, cond, List, [], ◌∷◌, ◌++◌, map, inl, inr, ⊎_elim, refl, sym, ap}
use Rattle.std.proofs.Common.{◌∙◌}
use Rattle.std.specs.Prelude.{◌⊎◌, Option, Some, None}
use Rattle.std.specs.FinMap.{get}
use Rattle.std.specs.Option.{option_or}
use Rattle.tsdb_base.specs.declared.value.Value.{Value}
use Rattle.tsdb_state.specs.Layers.{HasPoint, Layer, survivor, value_in}
use Rattle.tsdb_state.specs.Marks.{survives}
use Rattle.tsdb_state.specs.Places.{PointPlace}
use Rattle.tsdb_marks.specs.declared.marks.Mark.{Mark}

pub or_none : {X : Type 0} (a : Option X) → option_or a None ≡ a
or_none None = refl
or_none (Some x) = refl

pub or_assoc : {X : Type 0} (a b c : Option X) → option_or (option_or a b) c ≡ option_or a (option_or b c)
or_assoc None b c = refl
or_assoc (Some x) b c = refl

pub value_append : (marks : List Mark) (place : PointPlace) (xs ys : List Layer)
    → value_in marks place (xs ++ ys) ≡ option_or (value_in marks place ys) (value_in marks place xs)
value_append marks place [] ys = sym (or_none _)
value_append marks place (x ∷ xs) ys =
    ap (λ o. option_or o (survivor marks place x)) (value_append marks place xs ys)
    ∙ or_assoc (value_in marks place ys) (value_in marks place xs) (survivor marks place x)

-- the last of some values
abbrev pub top : List (Option Value) → Option Value
top [] = None
top (x ∷ xs) = option_or (top xs) x

-- layers of equal survivors have one value
pub value_of_survivors : (marks others : List Mark) (place : PointPlace) (xs ys : List Layer)
    → map (survivor marks place) xs ≡ map (survivor others place) ys
    → value_in marks place xs ≡ value_in others place ys
value_of_survivors marks others place xs ys same = last marks xs ∙ ap top same ∙ sym (last others ys)
  where
    last : (marks : List Mark) (xs : List Layer) → value_in marks place xs ≡ top (map (survivor marks place) xs)
    last marks [] = refl
    last marks (x ∷ xs) = ap (λ o. option_or o (survivor marks place x)) (last marks xs)

-- the middle of a list of layers in place of another of the same value
pub value_middle : (marks others : List Mark) (place : PointPlace) (a b xs ys : List Layer)
    → value_in marks place a ≡ value_in others place a → value_in marks place b ≡ value_in others place b
    → value_in marks place xs ≡ value_in others place ys
    → value_in marks place (a ++ (xs ++ b)) ≡ value_in others place (a ++ (ys ++ b))
value_middle marks others place a b xs ys first last middle = simp (value_append, first, last, middle)

-- runs side by side, of which one has no value, change places
pub value_swap : (marks : List Mark) (place : PointPlace) (xs ys : List Layer)
    → (value_in marks place xs ≡ None) ⊎ (value_in marks place ys ≡ None)
    → value_in marks place (xs ++ ys) ≡ value_in marks place (ys ++ xs)
value_swap marks place xs ys (inl none) = simp (value_append, none, or_none {X = Value})
value_swap marks place xs ys (inr none) = simp (value_append, none, or_none {X = Value})

-- a layer without a point at the place has no value there
pub no_survivor : (marks : List Mark) (place : PointPlace) (layer : Layer) → get layer.content place ≡ None
    → survivor marks place layer ≡ None
no_survivor marks place layer none = by (survives marks place layer.born)
  where
    by : (b : Bool) → cond b (get layer.content place) None ≡ None
    by true = none
    by false = refl

-- what survives is a point
pub survivor_is : (marks : List Mark) (place : PointPlace) (layer : Layer) (value : Value)
    → survivor marks place layer ≡ Some value → get layer.content place ≡ Some value
survivor_is marks place layer value is = by (survives marks place layer.born) is
  where
    by : (b : Bool) → cond b (get layer.content place) None ≡ Some value → get layer.content place ≡ Some value
    by true e = e
    by false e = absurd (cc)

pub value_is_point : (marks : List Mark) (place : PointPlace) (layers : List Layer) (value : Value)
    → value_in marks place layers ≡ Some value → HasPoint layers place value
value_is_point marks place [] value is = absurd (none is)
  where
    none : None ≡ Some value → ⊥
    none e = cc
value_is_point marks place (layer ∷ layers) value is = by (value_in marks place layers)
    (λ e. value_is_point marks place layers value e) is
  where
    by : (o : Option Value) → (o ≡ Some value → HasPoint layers place value)
        → option_or o (survivor marks place layer) ≡ Some value → HasPoint (layer ∷ layers) place value
    by None rest e = inl (survivor_is _ _ _ _ e)
    by (Some v) rest e = inr (rest e)

-- no point at the place, no value
pub value_none : (marks : List Mark) (place : PointPlace) (layers : List Layer)
    → ((value : Value) → ¬ HasPoint layers place value) → value_in marks place layers ≡ None
value_none marks place layers none = by (value_in marks place layers) refl
  where
    by : (o : Option Value) → value_in marks place layers ≡ o → o ≡ None
    by None e = refl
    by (Some value) e = absurd (none value (value_is_point _ _ _ _ e))

pub has_left : (xs ys : List Layer) (place : PointPlace) (value : Value) → HasPoint xs place value
    → HasPoint (xs ++ ys) place value
has_left [] ys place value has = absurd has
has_left (x ∷ xs) ys place value (inl is) = inl is
has_left (x ∷ xs) ys place value (inr has) = inr (has_left xs ys place value has)

pub has_right : (xs ys : List Layer) (place : PointPlace) (value : Value) → HasPoint ys place value
    → HasPoint (xs ++ ys) place value
has_right [] ys place value has = has
has_right (x ∷ xs) ys place value has = inr (has_right xs ys place value has)

pub has_cases : (xs ys : List Layer) (place : PointPlace) (value : Value) → HasPoint (xs ++ ys) place value
    → HasPoint xs place value ⊎ HasPoint ys place value
has_cases [] ys place value has = inr has
has_cases (x ∷ xs) ys place value (inl is) = inl (inl is)
has_cases (x ∷ xs) ys place value (inr has) = ⊎_elim (λ h. inl (inr h)) (λ h. inr h) (has_cases xs ys place value has)
