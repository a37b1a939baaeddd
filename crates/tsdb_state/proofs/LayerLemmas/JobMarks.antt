-- The marks at a job's beginning against those of now: an output has the value of its inputs, whatever was deleted
-- since.
use Rattle.std.proofs.Common.{◌≡◌, ℕ, ◌≤◌, Bool, true, false, cond, List, [], ◌∷◌, map, refl, sym, ap, ◌∙◌, arith}
use Rattle.std.specs.Prelude.{◌&&◌, ◌||◌, nat_le, nat_lt, Option, None}
use Rattle.std.specs.FinMap.{get}
use Rattle.std.specs.List.{AllByRecursion as Each, list_any}
use Rattle.std.specs.Option.{option_or}
use Rattle.std.proofs.lemmas.Bool.Decides.{nat_tests}
use Rattle.tsdb_base.proofs.Lists.{any_among}
use Rattle.tsdb_state.proofs.LayerLemmas.Tests.{absorbed, clear_alike, clear_either, clear_filter, second_true}
use Rattle.tsdb_state.proofs.LayerLemmas.Values.{value_of_survivors}
use Rattle.tsdb_state.specs.Layers.{Layer, survivor, value_in}
use Rattle.tsdb_base.specs.Lists.{Among}
use Rattle.tsdb_state.specs.Marks.{marks_up_to, purge, survives}
use Rattle.tsdb_state.specs.Places.{PointPlace}
use Rattle.tsdb_marks.specs.declared.marks.Mark.{Mark}

split_test : (old born version : ℕ) → old ≤ born
    → nat_lt old version ≡ ((nat_le version born && nat_lt old version) || nat_lt born version)
split_test old born version h = grind (arith, nat_tests)

-- marks are those up to a stamp, and the newer ones
survives_up_to : (marks : List Mark) (place : PointPlace) (old born : ℕ) → old ≤ born
    → survives marks place old ≡ (survives (marks_up_to born marks) place old && survives marks place born)
survives_up_to marks place old born h =
    clear_alike (nat_lt old) (λ version. (nat_le version born && nat_lt old version) || nat_lt born version) marks place
    (λ version. split_test old born version h)
    ∙ clear_either (λ version. nat_le version born && nat_lt old version) (nat_lt born) marks place
    ∙ ap (λ b. b && survives marks place born) (sym (clear_filter (nat_lt old) (λ version. nat_le version born) marks
    place))

cond_both : {X : Type 0} (a b : Bool) (o : Option X) → cond (a && b) o None ≡ cond b (cond a o None) None
cond_both true true o = refl
cond_both true false o = refl
cond_both false true o = refl
cond_both false false o = refl

pub survivor_up_to : (marks : List Mark) (place : PointPlace) (born : ℕ) (layer : Layer) → layer.born ≤ born
    → survivor marks place layer
    ≡ cond (survives marks place born) (survivor (marks_up_to born marks) place layer) None
survivor_up_to marks place born layer h =
    ap (λ b. cond b (get layer.content place) None) (survives_up_to marks place layer.born born h)
    ∙ cond_both (survives (marks_up_to born marks) place layer.born) (survives marks place born)
    (get layer.content place)

cond_or : {X : Type 0} (b : Bool) (o p : Option X)
    → option_or (cond b o None) (cond b p None) ≡ cond b (option_or o p) None
cond_or true o p = refl
cond_or false o p = refl

pub none_by : {X : Type 0} (b : Bool) → ◌≡◌ {A = Option X} None (cond b None None)
none_by true = refl
none_by false = refl

-- the value of layers no younger than a stamp is that under the marks up to it, where nothing newer covers the place
pub value_up_to : (marks : List Mark) (place : PointPlace) (born : ℕ) (layers : List Layer)
    → Each (λ layer. layer.born ≤ born) layers
    → value_in marks place layers
    ≡ cond (survives marks place born) (value_in (marks_up_to born marks) place layers) None
value_up_to marks place born [] older = none_by (survives marks place born)
value_up_to marks place born (layer ∷ layers) older =
    let rest = value_up_to marks place born layers older.1 in
    let first = survivor_up_to marks place born layer older.0 in
    (λ i. option_or (rest i) (first i))
    ∙ cond_or (survives marks place born) (value_in (marks_up_to born marks) place layers)
    (survivor (marks_up_to born marks) place layer)

-- layers of one born
pub value_of_born : (marks : List Mark) (place : PointPlace) (born : ℕ) (layers : List Layer)
    → Each (λ layer. layer.born ≡ born) layers
    → value_in marks place layers ≡ cond (survives marks place born) (value_in [] place layers) None
value_of_born marks place born [] same = none_by (survives marks place born)
value_of_born marks place born (layer ∷ layers) same =
    let rest = value_of_born marks place born layers same.1 in
    let first : survivor marks place layer ≡ cond (survives marks place born) (survivor [] place layer) None =
    ap (λ b. cond (survives marks place b) (get layer.content place) None) same.0 in
    (λ i. option_or (rest i) (first i))
    ∙ cond_or (survives marks place born) (value_in [] place layers) (survivor [] place layer)

-- the output of a job has the value of its inputs under the marks of now
pub output_value : (marks at_beginning : List Mark) (place : PointPlace) (born : ℕ) (inputs output : List Layer)
    → Each (λ layer. layer.born ≤ born) inputs → Each (λ layer. layer.born ≡ born) output
    → map (survivor at_beginning place) inputs ≡ map (survivor (marks_up_to born marks) place) inputs
    → value_in [] place output ≡ value_in at_beginning place inputs
    → value_in marks place output ≡ value_in marks place inputs
output_value marks at_beginning place born inputs output older same kept is =
    value_of_born marks place born output same
    ∙ ap (λ o. cond (survives marks place born) o None) (is ∙ value_of_survivors at_beginning (marks_up_to born marks)
    place inputs inputs kept)
    ∙ sym (value_up_to marks place born inputs older)

-- a purge leaves the survivors up to a stamp of what is as old as one of its borns
purge_up_to : (borns : List ℕ) (born old version : ℕ) → Among old borns
    → (list_any (λ b. nat_lt b version) borns && (nat_le version born && nat_lt old version))
    ≡ (nat_le version born && nat_lt old version)
purge_up_to borns born old version among =
    absorbed (list_any (λ b. nat_lt b version) borns) (nat_le version born && nat_lt old version)
    (λ e. any_among (λ b. nat_lt b version) borns old among (second_true (nat_le version born) (nat_lt old version) e))

pub survivor_purged_up_to : (borns : List ℕ) (marks : List Mark) (born : ℕ) (place : PointPlace) (layer : Layer)
    → Among layer.born borns
    → survivor (marks_up_to born (purge borns marks)) place layer ≡ survivor (marks_up_to born marks) place layer
survivor_purged_up_to borns marks born place layer among = ap (λ b. cond b (get layer.content place) None)
    (clear_filter (nat_lt layer.born) (λ version. nat_le version born) (purge borns marks) place ∙ clear_filter
    (λ version. nat_le version born && nat_lt layer.born version) (λ version. list_any (λ b. nat_lt b version) borns)
    marks place ∙ clear_alike (λ version. list_any (λ b. nat_lt b version) borns &&
    (nat_le version born && nat_lt layer.born version)) (λ version. nat_le version born && nat_lt layer.born version)
    marks place (λ version. purge_up_to borns born layer.born version among)
    ∙ sym (clear_filter (nat_lt layer.born) (λ version. nat_le version born) marks place))
