-- Two lists of hulls in order of device bytes, walked side by side.
use Rattle.std.proofs.Common.{◌≡◌, ℕ, zero, suc, ◌+◌, ◌-◌, ◌<◌, ◌≤◌, List, [], ◌∷◌, ◌++◌, length, take, drop, get_or, ◌↔◌, ◌∙◌, Less, Equal, Greater, sym, ap, ⊎_elim, subst, arith}
use Rattle.std.specs.Prelude.{ℤ, All, Any, ◌≤ℤ◌}
use Rattle.std.specs.Ordering.{nat_cmp}
use Rattle.std.specs.Cmp.Lexicographic.{slice_cmp}
use Rattle.std.proofs.lemmas.Cmp.{nat_list_cmp_total, tied_itself}
use Rattle.std.proofs.lemmas.Map.Lookups.{exact_bytes}
use Rattle.std.specs.Ordering.{ordering_reverse}
use Rattle.std.proofs.lemmas.List.Elements.{All-more, All-weaker}
use Rattle.std.proofs.lemmas.List.{take_more, length-take-le, get_or-take, get_or_read}
use Rattle.std.proofs.lemmas.List.Quantifiers.{all_pairs_push}
use Rattle.std.proofs.lemmas.Bool.{cases_eq}
use Rattle.std.proofs.lemmas.Int.{ints}
use Rattle.std.proofs.lemmas.Slice.{first_rest}
use Rattle.tsdb_plan.specs.declared.entry.Hull.{Hull}
use Rattle.tsdb_plan.specs.Files.{AreHullsRising}
use Rattle.tsdb_plan.specs.Steps.{Reaches}
use Rattle.tsdb_plan.proofs.ListFacts.{Any-head, Any-tail, Any-cases, Any-weaker, Any-with_All, AllPairs-head, AllPairs-tail}

-- the one is before the other in order of device bytes
abbrev IsBefore : Hull → Hull → Type 0
IsBefore a b = slice_cmp nat_cmp a.device b.device ≡ Less

-- the two have one device, and the first ends at or after the start of the second
abbrev Meets : Hull → Hull → Type 0
Meets a b = (a.device ≡ b.device) × (b.from ≤ℤ a.to)

before_differs : (a b : Hull) → IsBefore a b → a.device ≡ b.device → ⊥
before_differs a b h e = let tied : slice_cmp nat_cmp b.device b.device ≡ Equal = tied_itself nat_list_cmp_total b.device in let same : slice_cmp nat_cmp a.device b.device ≡ slice_cmp nat_cmp b.device b.device = ap (λ d. slice_cmp nat_cmp d b.device) e in cc

greater_is_before : (a b : Hull) → slice_cmp nat_cmp a.device b.device ≡ Greater → IsBefore b a
greater_is_before a b h = nat_list_cmp_total.antisymm b.device a.device ∙ ap (λ o. ordering_reverse o) h

-- a hull before all of a list meets none of it
none_ahead : (a : Hull) (br : List Hull) → All (IsBefore a) br → Any (Meets a) br → ⊥
none_ahead a br all any =
    let none = Any-with_All (IsBefore a) (Meets a) (λ _. ⊥) (λ b before meets. before_differs a b before meets.0) br all any in none.4

-- so the first of the one list may go
pub without_late : (a : Hull) (ar br : List Hull) → All (IsBefore a) br → Reaches (a ∷ ar) br ↔ Reaches ar br
without_late a ar br all = (
  λ h. ⊎_elim (λ here. absurd (none_ahead a br all here)) (λ there. there) (Any-cases (λ x. Any (Meets x) br) a ar h),
  λ h. Any-tail (λ x. Any (Meets x) br) a ar h,
)

-- and the first of the other
pub without_early : (ar : List Hull) (b : Hull) (br : List Hull) → All (IsBefore b) ar → Reaches ar (b ∷ br) ↔ Reaches ar br
without_early ar b br all = (
  λ h. Any-with_All (IsBefore b) (λ a. Any (Meets a) (b ∷ br)) (λ a. Any (Meets a) br)
      (λ a before any. ⊎_elim (λ here. absurd (before_differs b a before (sym here.0))) (λ there. there) (Any-cases (Meets a) b br any)) ar all h,
  λ h. Any-weaker (λ a. Any (Meets a) br) (λ a. Any (Meets a) (b ∷ br)) (λ a any. Any-tail (Meets a) b br any) ar h,
)

chain : (a b : Hull) (xs : List Hull) → IsBefore a b → All (IsBefore b) xs → All (IsBefore a) (b ∷ xs)
chain a b xs first others zero d l = first
chain a b xs first others (suc k) d l = nat_list_cmp_total.trans a.device b.device (get_or xs k d).device first (others k d (omega arith))

-- the steps of the walk: the lesser of two devices goes, and of two equal ones both go
pub step_less : (a b : Hull) (ar br : List Hull) → AreHullsRising (b ∷ br) → slice_cmp nat_cmp a.device b.device ≡ Less → Reaches (a ∷ ar) (b ∷ br) ↔ Reaches ar (b ∷ br)
step_less a b ar br rising less = without_late a ar (b ∷ br) (chain a b br less (AllPairs-head IsBefore b br rising))

pub step_greater : (a b : Hull) (ar br : List Hull) → AreHullsRising (a ∷ ar) → slice_cmp nat_cmp a.device b.device ≡ Greater → Reaches (a ∷ ar) (b ∷ br) ↔ Reaches (a ∷ ar) br
step_greater a b ar br rising greater = without_early (a ∷ ar) b br (chain b a ar (greater_is_before a b greater) (AllPairs-head IsBefore a ar rising))

pub step_found : (a b : Hull) (ar br : List Hull) → slice_cmp nat_cmp a.device b.device ≡ Equal → b.from ≤ℤ a.to → Reaches (a ∷ ar) (b ∷ br)
step_found a b ar br equal meets =
    Any-head (λ x. Any (Meets x) (b ∷ br)) a ar (Any-head (Meets a) b br (exact_bytes a.device b.device equal, meets))

pub step_equal : (a b : Hull) (ar br : List Hull) → AreHullsRising (a ∷ ar) → AreHullsRising (b ∷ br) → slice_cmp nat_cmp a.device b.device ≡ Equal → (b.from ≤ℤ a.to → ⊥) → Reaches (a ∷ ar) (b ∷ br) ↔ Reaches ar br
step_equal a b ar br rising_a rising_b equal apart =
    let same : a.device ≡ b.device = exact_bytes a.device b.device equal in
    let a_first : All (IsBefore b) ar = All-weaker (IsBefore a) (IsBefore b) (λ x h. ap (λ d. slice_cmp nat_cmp d x.device) (sym same) ∙ h) ar (AllPairs-head IsBefore a ar rising_a) in
    let b_first : All (IsBefore a) br = All-weaker (IsBefore b) (IsBefore a) (λ x h. ap (λ d. slice_cmp nat_cmp d x.device) same ∙ h) br (AllPairs-head IsBefore b br rising_b) in
    let early = without_early ar b br a_first in (
      λ h. ⊎_elim
          (λ here. ⊎_elim (λ meets. absurd (apart meets.1)) (λ there. absurd (none_ahead a br b_first there)) (Any-cases (Meets a) b br here))
          (λ there. early.0 there)
          (Any-cases (λ x. Any (Meets x) (b ∷ br)) a ar h),
      λ h. Any-tail (λ x. Any (Meets x) (b ∷ br)) a ar (early.1 h),
    )

-- what is left of a list behind its first item, as the code reads it
abbrev pub rest : List Hull → List Hull
rest xs = take (length xs - 1) (drop 1 xs)

pub head_and_rest : (xs : List Hull) (x : Hull) → 0 < length xs → x ≡ get_or xs 0 x → xs ≡ x ∷ rest xs
head_and_rest xs x l e = first_rest xs x l ∙ ap (λ y. y ∷ rest xs) (sym e)

-- one turn of the walk, where what is left of the lists reaches exactly where the whole lists do
pub walk_less : (late early xs ys : List Hull) (a b : Hull) (ar br : List Hull) → xs ≡ a ∷ ar → ys ≡ b ∷ br → AreHullsRising xs → AreHullsRising ys → Reaches late early ↔ Reaches xs ys → slice_cmp nat_cmp a.device b.device ≡ Less → AreHullsRising ar × (Reaches late early ↔ Reaches ar ys)
walk_less late early xs ys a b ar br ex ey rx ry same less =
    let rising_ys : AreHullsRising (b ∷ br) = subst AreHullsRising ey ry in
    let step : Reaches (a ∷ ar) (b ∷ br) ↔ Reaches ar (b ∷ br) = step_less a b ar br rising_ys less in
    let step_ys : Reaches (a ∷ ar) ys ↔ Reaches ar ys = subst (λ l. Reaches (a ∷ ar) l ↔ Reaches ar l) (sym ey) step in
    let step_xs : Reaches xs ys ↔ Reaches ar ys = subst (λ l. Reaches l ys ↔ Reaches ar ys) (sym ex) step_ys in
    (AllPairs-tail IsBefore a ar (subst AreHullsRising ex rx), (λ h. step_xs.0 (same.0 h), λ h. same.1 (step_xs.1 h)))

pub walk_greater : (late early xs ys : List Hull) (a b : Hull) (ar br : List Hull) → xs ≡ a ∷ ar → ys ≡ b ∷ br → AreHullsRising xs → AreHullsRising ys → Reaches late early ↔ Reaches xs ys → slice_cmp nat_cmp a.device b.device ≡ Greater → AreHullsRising br × (Reaches late early ↔ Reaches xs br)
walk_greater late early xs ys a b ar br ex ey rx ry same greater =
    let rising_xs : AreHullsRising (a ∷ ar) = subst AreHullsRising ex rx in
    let step : Reaches (a ∷ ar) (b ∷ br) ↔ Reaches (a ∷ ar) br = step_greater a b ar br rising_xs greater in
    let step_xs : Reaches xs (b ∷ br) ↔ Reaches xs br = subst (λ l. Reaches l (b ∷ br) ↔ Reaches l br) (sym ex) step in
    let step_ys : Reaches xs ys ↔ Reaches xs br = subst (λ l. Reaches xs l ↔ Reaches xs br) (sym ey) step_xs in
    (AllPairs-tail IsBefore b br (subst AreHullsRising ey ry), (λ h. step_ys.0 (same.0 h), λ h. same.1 (step_ys.1 h)))

pub walk_equal : (late early xs ys : List Hull) (a b : Hull) (ar br : List Hull) → xs ≡ a ∷ ar → ys ≡ b ∷ br → AreHullsRising xs → AreHullsRising ys → Reaches late early ↔ Reaches xs ys → slice_cmp nat_cmp a.device b.device ≡ Equal → (b.from ≤ℤ a.to → ⊥) → AreHullsRising ar × AreHullsRising br × (Reaches late early ↔ Reaches ar br)
walk_equal late early xs ys a b ar br ex ey rx ry same equal apart =
    let rising_xs : AreHullsRising (a ∷ ar) = subst AreHullsRising ex rx in
    let rising_ys : AreHullsRising (b ∷ br) = subst AreHullsRising ey ry in
    let step : Reaches (a ∷ ar) (b ∷ br) ↔ Reaches ar br = step_equal a b ar br rising_xs rising_ys equal apart in
    let step_xs : Reaches xs (b ∷ br) ↔ Reaches ar br = subst (λ l. Reaches l (b ∷ br) ↔ Reaches ar br) (sym ex) step in
    let step_ys : Reaches xs ys ↔ Reaches ar br = subst (λ l. Reaches xs l ↔ Reaches ar br) (sym ey) step_xs in
    (AllPairs-tail IsBefore a ar rising_xs, AllPairs-tail IsBefore b br rising_ys, (λ h. step_ys.0 (same.0 h), λ h. same.1 (step_ys.1 h)))

pub walk_found : (late early xs ys : List Hull) (a b : Hull) (ar br : List Hull) → xs ≡ a ∷ ar → ys ≡ b ∷ br → Reaches late early ↔ Reaches xs ys → slice_cmp nat_cmp a.device b.device ≡ Equal → b.from ≤ℤ a.to → Reaches late early
walk_found late early xs ys a b ar br ex ey same equal meets =
    let found : Reaches (a ∷ ar) (b ∷ br) = step_found a b ar br equal meets in
    let found_xs : Reaches xs (b ∷ br) = subst (λ l. Reaches l (b ∷ br)) (sym ex) found in
    same.1 (subst (λ l. Reaches xs l) (sym ey) found_xs)

-- a rising prefix with one hull more, from its last hull
pub rising_more : (hulls : List Hull) (n : ℕ) (x y : Hull) → 1 ≤ n → n < length hulls → x ≡ get_or hulls (n - 1) x → y ≡ get_or hulls n y → AreHullsRising (take n hulls) → IsBefore x y → AreHullsRising (take (n + 1) hulls)
rising_more hulls n x y some l ex ey rising before =
    let e : take (n + 1) hulls ≡ take n hulls ++ y ∷ [] = take_more hulls n y l ∙ ap (λ h. take n hulls ++ h ∷ []) (sym ey) in
    let len : length (take n hulls) ≡ n = length-take-le n hulls (omega arith) in
    let last : (d : Hull) → get_or (take n hulls) (n - 1) d ≡ x = λ d. get_or-take n hulls (n - 1) d (omega arith) ∙ sym (get_or_read hulls (n - 1) x (omega arith) ex d) in
    let each : (k : ℕ) (d : Hull) → k < length (take n hulls) → IsBefore (get_or (take n hulls) k d) y = λ k d m.
    ⊎_elim
    (λ (here : k ≡ n - 1). let at : get_or (take n hulls) k d ≡ x = ap (λ j. get_or (take n hulls) j d) here ∙ last d in subst (λ (h : Hull). IsBefore h y) (sym at) before)
    (λ other. let step : IsBefore (get_or (take n hulls) k d) (get_or (take n hulls) (n - 1) d) = rising k (n - 1) d (omega arith) (omega arith) in
    nat_list_cmp_total.trans (get_or (take n hulls) k d).device x.device y.device (subst (λ (h : Hull). IsBefore (get_or (take n hulls) k d) h) (last d) step) before)
    (cases_eq k (n - 1)) in
    subst AreHullsRising (sym e) (all_pairs_push IsBefore (take n hulls) y rising each)

-- two neighbours that do not rise
pub not_rising : (hulls : List Hull) (n : ℕ) (x y : Hull) → 1 ≤ n → n < length hulls → x ≡ get_or hulls (n - 1) x → y ≡ get_or hulls n y → (IsBefore x y → ⊥) → AreHullsRising hulls → ⊥
not_rising hulls n x y some l ex ey never rising =
    let step : IsBefore (get_or hulls (n - 1) x) (get_or hulls n x) = rising (n - 1) n x (omega arith) l in
    let first : IsBefore x (get_or hulls n x) = subst (λ (h : Hull). IsBefore h (get_or hulls n x)) (sym ex) step in
    never (subst (λ (h : Hull). IsBefore x h) (sym (get_or_read hulls n y l ey x)) first)

-- a bound of a prefix, and of one hull more
pub least_more : (hulls : List Hull) (n : ℕ) (hull : Hull) (old new : ℤ) → n < length hulls → hull ≡ get_or hulls n hull → All (λ h. old ≤ℤ h.from) (take n hulls) → new ≤ℤ old → new ≤ℤ hull.from → All (λ h. new ≤ℤ h.from) (take (n + 1) hulls)
least_more hulls n hull old new l e all below here =
    All-more (λ h. new ≤ℤ h.from) hulls n hull l (All-weaker (λ (h : Hull). old ≤ℤ h.from) (λ (h : Hull). new ≤ℤ h.from) (λ h above. omega (arith, ints)) (take n hulls) all) (subst (λ (h : Hull). new ≤ℤ h.from) e here)

pub greatest_more : (hulls : List Hull) (n : ℕ) (hull : Hull) (old new : ℤ) → n < length hulls → hull ≡ get_or hulls n hull → All (λ h. h.to ≤ℤ old) (take n hulls) → old ≤ℤ new → hull.to ≤ℤ new → All (λ h. h.to ≤ℤ new) (take (n + 1) hulls)
greatest_more hulls n hull old new l e all above here =
    All-more (λ h. h.to ≤ℤ new) hulls n hull l (All-weaker (λ (h : Hull). h.to ≤ℤ old) (λ (h : Hull). h.to ≤ℤ new) (λ h below. omega (arith, ints)) (take n hulls) all) (subst (λ (h : Hull). h.to ≤ℤ new) e here)
