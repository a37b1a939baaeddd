-- The order of places is total, and tells places apart. What a content has after a put and a cut.
use Rattle.std.proofs.Common.{◌≡◌, ℕ, true, cond, List, refl, sym, ap}
use Rattle.std.specs.Prelude.{not, Some, None}
use Rattle.std.specs.Cmp.{IsTotalOrder, int_cmp_total, on_total, then_total, tied_itself}
use Rattle.std.specs.Cmp.Lexicographic.{nat_list_cmp_total, slice_cmp}
use Rattle.std.specs.FinMap.{IsAntisymmetric, get, get-insert, get-retain_keys, int_cmp-IsAntisymmetric}
use Rattle.std.specs.FinMap.{nat_cmp-IsAntisymmetric, same_map, slice_cmp-IsAntisymmetric}
use Rattle.std.specs.Ordering.{eq_by_cmp, is_eq, nat_cmp, ordering_then}
use Rattle.std.specs.declared.cmp.Ordering.{Ordering}
use Rattle.std.specs.declared.cmp.Ordering.TheVariants.{Less, Equal, Greater}
use Rattle.tsdb_base.specs.declared.point.Range.{Range}
use Rattle.tsdb_base.specs.declared.value.Value.{Value}
use Rattle.tsdb_state.specs.Places.{Content, PointPlace, cut_content, is_path, is_within, place_cmp, put_content}

pub place_cmp_total : IsTotalOrder place_cmp
unfolding place_cmp
place_cmp_total =
    then_total (on_total (λ (p : PointPlace). p.path) nat_list_cmp_total) (on_total (λ (p : PointPlace). p.time) int_cmp_total)

both_equal : (r s : Ordering) → ordering_then r s ≡ Equal → (r ≡ Equal) × (s ≡ Equal)
both_equal Less s e = absurd (cc)
both_equal Equal s e = (refl, e)
both_equal Greater s e = absurd (cc)

pub paths_same : IsAntisymmetric (slice_cmp nat_cmp)
paths_same = slice_cmp-IsAntisymmetric nat_cmp-IsAntisymmetric

pub place_cmp-IsAntisymmetric : IsAntisymmetric place_cmp
unfolding place_cmp
place_cmp-IsAntisymmetric p q e =
    let both = both_equal _ _ e in
    let paths = paths_same p.path q.path both.0 in
    let times = int_cmp-IsAntisymmetric p.time q.time both.1 in
    λ i. record { path = paths i; time = times i }

pub tied : (r : Ordering) → is_eq r ≡ true → r ≡ Equal
tied Less h = absurd (cc)
tied Equal h = refl
tied Greater h = absurd (cc)

-- two places are tied exactly where they are one
pub is_place : (p q : PointPlace) → eq_by_cmp place_cmp p q ≡ true → p ≡ q
is_place p q e = place_cmp-IsAntisymmetric p q (tied (place_cmp p q) e)

pub place_itself : (p : PointPlace) → eq_by_cmp place_cmp p p ≡ true
place_itself p = ap is_eq (tied_itself place_cmp_total p)

pub path_itself : (p : List ℕ) → is_path p p ≡ true
path_itself p = ap is_eq (tied_itself nat_list_cmp_total p)

pub is_path_same : (p q : List ℕ) → is_path p q ≡ true → p ≡ q
is_path_same p q e = paths_same p q (tied (slice_cmp nat_cmp p q) e)

pub get_put : (content : Content) (place : PointPlace) (value : Value) (q : PointPlace)
    → get (put_content place value content) q ≡ cond (eq_by_cmp place_cmp q place) (Some value) (get content q)
get_put content place value q = get-insert place_cmp_total content place value q

pub get_cut : (content : Content) (path : List ℕ) (range : Range) (q : PointPlace)
    → get (cut_content path range content) q ≡ cond (not (is_within path range q)) (get content q) None
get_cut content path range q = get-retain_keys content (λ place. not (is_within path range place)) q
    (λ x e. ap (λ (p : PointPlace). not (is_within path range p)) (sym (place_cmp-IsAntisymmetric q x e)))

pub same_content : (a b : Content) → ((q : PointPlace) → get a q ≡ get b q) → a ≡ b
same_content a b alike = same_map place_cmp_total place_cmp-IsAntisymmetric a b alike
