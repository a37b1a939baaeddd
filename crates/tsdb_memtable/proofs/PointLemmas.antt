-- Rising points, where a time splits them, and what a put leaves.
use Rattle.std.proofs.Common.{◌≡◌, ◌≢◌, ℕ, suc, ◌+◌, ◌-◌, ◌<◌, ◌≤◌, Bool, true, false, cond, not, List, [], ◌∷◌, ◌++◌, length, take, drop, get_or, append-nil, get_or-take, length-take, length-drop, set, ⊎_elim, refl, sym, ap, subst, ◌∙◌, arith}
use Rattle.std.specs.Prelude.{ℤ, ◌<ℤ◌, ◌≤ℤ◌, ◌&&◌, int_lt, int_le}
use Rattle.std.specs.List.{All, filter}
use Rattle.std.specs.List.Sorted.{IsPartitionPoint, IsPartitionedBy}
use Rattle.std.proofs.lemmas.Bool.{false≢true, cases_Bool, cases_lt}
use Rattle.std.proofs.lemmas.Int.{ints, by_lt_z}
use Rattle.std.proofs.lemmas.List.{take-append-drop, get_or-drop, take-set, drop-set, drop_more, get_or_default}
use Rattle.std.proofs.lemmas.List.Elements.{All-head, All-tail, All-cons, All-append, All-weaker, All-from_all_within, All-from_get_or, filter-append, filter_agree, filter_passes}
use Rattle.std.proofs.lemmas.List.Kept.{AllPairs-filter, AllPairs-cons}
use Rattle.tsdb_base.specs.declared.point.Point.{Point}
use Rattle.tsdb_base.specs.declared.point.Range.{Range}
use Rattle.tsdb_base.specs.Points.{IsRising}
use Rattle.tsdb_memtable.specs.Points.{is_before, is_after, is_point_within, is_outside, with_point}
use Rattle.tsdb_memtable.specs.Steps.{is_from, is_until}

-- times

lt-true : (a b : ℤ) → int_lt a b ≡ true → a <ℤ b
lt-true a b h = grind (arith, ints)

true-lt : (a b : ℤ) → a <ℤ b → int_lt a b ≡ true
true-lt a b h = grind (arith, ints)

le-false : (a b : ℤ) → int_lt a b ≡ false → b ≤ℤ a
le-false a b h = grind (arith, ints)

false-le : (a b : ℤ) → b ≤ℤ a → int_lt a b ≡ false
false-le a b h = grind (arith, ints)

not-true : (b : Bool) → not b ≡ true → b ≡ false
not-true true h = absurd (false≢true h)
not-true false h = refl

-- filters that keep all, or none

filter-all : {X : Type 0} (p : X → Bool) (xs : List X) → All (λ x. p x ≡ true) xs → filter p xs ≡ xs
filter-all p [] h = refl
filter-all p (x ∷ xs) h = rw (All-head (λ x. p x ≡ true) x xs h) (ap (λ r. x ∷ r) (filter-all p xs (All-tail (λ x. p x ≡ true) x xs h)))

filter-none : {X : Type 0} (p : X → Bool) (xs : List X) → All (λ x. p x ≡ false) xs → filter p xs ≡ []
filter-none p [] h = refl
filter-none p (x ∷ xs) h = rw (All-head (λ x. p x ≡ false) x xs h) (filter-none p xs (All-tail (λ x. p x ≡ false) x xs h))

-- rising points

tail-rising : (x : Point) (xs : List Point) → IsRising (x ∷ xs) → IsRising xs
tail-rising x xs rising = λ i j d lt within. rising (suc i) (suc j) d (omega arith) (omega arith)

head-rising : (x : Point) (xs : List Point) → IsRising (x ∷ xs) → All (λ y. x.time <ℤ y.time) xs
head-rising x xs rising = All-from_get_or (λ y. x.time <ℤ y.time) xs x (λ i lt. rising 0 (suc i) x (omega arith) (omega arith))

append-rising : (xs ys : List Point) → IsRising xs → IsRising ys → All (λ x. All (λ y. x.time <ℤ y.time) ys) xs → IsRising (xs ++ ys)
append-rising [] ys a b h = b
append-rising (x ∷ xs) ys a b h =
    let P : Point → Type 0 = λ x. All (λ y. x.time <ℤ y.time) ys in
    AllPairs-cons (λ (a b : Point). a.time <ℤ b.time) x (xs ++ ys)
    (All-append (λ y. x.time <ℤ y.time) xs ys (head-rising x xs a) (All-head P x xs h))
    (append-rising xs ys (tail-rising x xs a) b (All-tail P x xs h))

pub with_point-rising : (point : Point) (xs : List Point) → IsRising xs → IsRising (with_point point xs)
with_point-rising point xs rising =
    let t = point.time in
    let before = filter (is_before t) xs in
    let after = filter (is_after t) xs in
    let R : Point → Point → Type 0 = λ a b. a.time <ℤ b.time in
    let above : All (λ y. t <ℤ y.time) after = All-weaker (λ y. is_after t y ≡ true) (λ y. t <ℤ y.time) (λ y h. lt-true t y.time h) after (filter_passes (is_after t) xs) in
    let below : All (λ x. x.time <ℤ t) before = All-weaker (λ x. is_before t x ≡ true) (λ x. x.time <ℤ t) (λ x h. lt-true x.time t h) before (filter_passes (is_before t) xs) in
    append-rising before (point ∷ after) (AllPairs-filter R (is_before t) xs rising)
    (AllPairs-cons R point after above (AllPairs-filter R (is_after t) xs rising))
    (All-weaker (λ x. x.time <ℤ t) (λ x. All (λ y. x.time <ℤ y.time) (point ∷ after))
    (λ x lt. All-cons (λ y. x.time <ℤ y.time) point after lt (All-weaker (λ y. t <ℤ y.time) (λ y. x.time <ℤ y.time) (λ y above. omega (arith, ints)) after above)) before below)

-- the place of a time

pub before-parted : (time : ℤ) (xs : List Point) → IsRising xs → IsPartitionedBy (is_before time) xs
before-parted time xs rising = λ i j d le within h.
    let P : ℕ → Type 0 = λ k. is_before time (get_or xs k d) ≡ true in
    ⊎_elim (λ (lt : i < j). let less : (get_or xs i d).time <ℤ (get_or xs j d).time = rising i j d lt within in let early : (get_or xs j d).time <ℤ time = lt-true _ _ h in true-lt (get_or xs i d).time time (omega (arith, ints)))
    (λ (ge : j ≤ i). let same : j ≡ i = omega arith in subst P same h) (cases_lt i j)

pub until-parted : (time : ℤ) (xs : List Point) → IsRising xs → IsPartitionedBy (is_until time) xs
until-parted time xs rising = λ i j d le within h.
    let P : ℕ → Type 0 = λ k. is_until time (get_or xs k d) ≡ true in
    ⊎_elim (λ (lt : i < j).
    let less : (get_or xs i d).time <ℤ (get_or xs j d).time = rising i j d lt within in
    let early : (get_or xs j d).time ≤ℤ time = le-false _ _ (not-true _ h) in
    ap not (false-le time (get_or xs i d).time (omega (arith, ints))))
    (λ (ge : j ≤ i). let same : j ≡ i = omega arith in subst P same h) (cases_lt i j)

two-parts : (us vs xs ys zs : List Point) → xs ≡ us → ys ≡ vs → xs ++ ys ≡ zs → us ++ vs ≡ zs
two-parts us vs xs ys zs p q e = sym (ap (λ l. l ++ ys) p ∙ ap (λ l. us ++ l) q) ∙ e

-- where a test splits the points, the first part is what passes, and the second what does not
pub split : (p : Point → Bool) (xs : List Point) (i : ℕ) → IsPartitionPoint (λ x. p x ≡ true) (λ x. p x ≡ false) xs i → i ≤ length xs
    → (take i xs ≡ filter p xs) × (drop i xs ≡ filter (λ x. not (p x)) xs)
split p xs i point le =
    let q : Point → Bool = λ x. not (p x) in
    let Early : Point → Type 0 = λ x. p x ≡ true in
    let Late : Point → Type 0 = λ x. p x ≡ false in
    let early : All Early (take i xs) = All-from_all_within Early (take i xs) (λ k d low high. let lt : k < i = omega (arith, length-take i xs) in subst Early (sym (get_or-take i xs k d lt)) (point.0 k d low lt)) in
    let late : All Late (drop i xs) = All-from_all_within Late (drop i xs) (λ k d low high. subst Late (sym (get_or-drop i xs k d)) (point.1 (i + k) d (omega arith) (omega (arith, length-drop i xs)))) in
    let parts : (p : Point → Bool) → filter p (take i xs) ++ filter p (drop i xs) ≡ filter p xs = λ p. sym (filter-append p (take i xs) (drop i xs)) ∙ ap (filter p) (take-append-drop i xs) in (
      sym (append-nil (take i xs)) ∙ two-parts _ _ _ _ _ (filter-all p _ early) (filter-none p _ late) (parts p),
      two-parts [] (drop i xs) _ _ _ (filter-none q _ (All-weaker Early (λ x. q x ≡ false) (λ x h. ap not h) _ early)) (filter-all q _ (All-weaker Late (λ x. q x ≡ true) (λ x h. ap not h) _ late)) (parts q),
    )

-- where the last point is before a time, all are
pub all-before : (time : ℤ) (xs : List Point) (x : Point) → IsRising xs → 0 < length xs → get_or xs (length xs - 1) x ≡ x → is_before time x ≡ true
    → IsPartitionPoint (λ y. is_before time y ≡ true) (λ y. is_before time y ≡ false) xs (length xs)
all-before time xs x rising some last before = (
  λ k d low lt. before-parted time xs rising k (length xs - 1) d (omega arith) (omega arith) (ap (is_before time) (get_or_default xs (length xs - 1) d x (omega arith) ∙ last) ∙ before),
  λ k d low lt. absurd (omega (arith, low, lt)),
)

-- the points at a time and after it

after-from : (time : ℤ) (xs : List Point) → filter (is_after time) (filter (is_from time) xs) ≡ filter (is_after time) xs
after-from time [] = refl
after-from time (x ∷ xs) =
    let others = after-from time xs in
    ⊎_elim (λ (q : is_before time x ≡ true). let not_after : is_after time x ≡ false = let lt = lt-true x.time time q in false-le time x.time (omega (arith, ints)) in rw (q, not_after) others)
    (λ (q : is_before time x ≡ false). rw q (elim (is_after time x) as (λ b. cond b (x ∷ filter (is_after time) (filter (is_from time) xs)) (filter (is_after time) (filter (is_from time) xs)) ≡ cond b (x ∷ filter (is_after time) xs) (filter (is_after time) xs)) [ true ↦ ap (λ r. x ∷ r) others | false ↦ others ]))
    (cases_Bool (is_before time x))

all-after : (time : ℤ) (xs : List Point) → All (λ y. time <ℤ y.time) xs → filter (is_after time) xs ≡ xs
all-after time xs h = filter-all (is_after time) xs (All-weaker (λ y. time <ℤ y.time) (λ y. is_after time y ≡ true) (λ y lt. true-lt time y.time lt) xs h)

-- behind a point at the time stand those after it
after-one : (time : ℤ) (x : Point) (xs : List Point) → IsRising (x ∷ xs) → x.time ≡ time → filter (is_after time) (x ∷ xs) ≡ xs
after-one time x xs rising same =
    let skip : is_after time x ≡ false = false-le time x.time (omega (arith, ints)) in
    let P : ℤ → Type 0 = λ t. All (λ y. t <ℤ y.time) xs in
    rw skip (all-after time xs (subst P same (head-rising x xs rising)))

-- where no point stands at the time, those from it on stand after it
after-none : (time : ℤ) (xs : List Point) → IsRising xs → All (λ x. is_from time x ≡ true) xs → ((x : Point) (rest : List Point) → xs ≡ x ∷ rest → x.time ≢ time) → filter (is_after time) xs ≡ xs
after-none time [] rising from none = refl
after-none time (x ∷ xs) rising from none =
    let le : time ≤ℤ x.time = le-false x.time time (not-true _ (All-head (λ x. is_from time x ≡ true) x xs from)) in
    let lt : time <ℤ x.time = by_lt_z time x.time (λ lt. lt) (λ ge. absurd (none x xs refl (omega (arith, ints)))) in
    all-after time (x ∷ xs) (All-cons (λ y. time <ℤ y.time) x xs lt (All-weaker (λ y. x.time <ℤ y.time) (λ y. time <ℤ y.time) (λ y above. omega (arith, ints)) xs (head-rising x xs rising)))

-- a put

pub with_point-inserted : (point : Point) (xs : List Point) (i : ℕ) → IsRising xs → i ≤ length xs → take i xs ≡ filter (is_before point.time) xs → drop i xs ≡ filter (is_from point.time) xs
    → (i < length xs → (get_or xs i point).time ≢ point.time) → take i xs ++ point ∷ drop i xs ≡ with_point point xs
with_point-inserted point xs i rising le front back none =
    let t = point.time in
    let from = filter (is_from t) xs in
    let R : Point → Point → Type 0 = λ a b. a.time <ℤ b.time in
    let apart : (x : Point) (rest : List Point) → from ≡ x ∷ rest → x.time ≢ t = λ x rest e same.
    let head : drop i xs ≡ x ∷ rest = back ∙ e in
    let lt : i < length xs = omega (arith, length-drop i xs, ap length head) in
    none lt (ap (λ l. (get_or l 0 point).time) (sym (drop_more xs i point lt) ∙ head) ∙ same)
    in
    let behind : filter (is_after t) xs ≡ drop i xs = sym (after-from t xs) ∙ after-none t from (AllPairs-filter R (is_from t) xs rising) (filter_passes (is_from t) xs) apart ∙ sym back in
    rw (front, behind) refl

pub with_point-replaced : (point : Point) (xs : List Point) (i : ℕ) → IsRising xs → i < length xs → take i xs ≡ filter (is_before point.time) xs → drop i xs ≡ filter (is_from point.time) xs
    → (get_or xs i point).time ≡ point.time → set xs i point ≡ with_point point xs
with_point-replaced point xs i rising lt front back same =
    let t = point.time in
    let from = filter (is_from t) xs in
    let R : Point → Point → Type 0 = λ a b. a.time <ℤ b.time in
    let parts : from ≡ get_or xs i point ∷ drop (i + 1) xs = sym back ∙ drop_more xs i point lt in
    let rest_rising : IsRising (get_or xs i point ∷ drop (i + 1) xs) = subst IsRising parts (AllPairs-filter R (is_from t) xs rising) in
    let behind : filter (is_after t) xs ≡ drop (i + 1) xs = sym (after-from t xs) ∙ ap (filter (is_after t)) parts ∙ after-one t (get_or xs i point) (drop (i + 1) xs) rest_rising same in
    sym (take-append-drop i (set xs i point)) ∙ ap (λ l. l ++ drop i (set xs i point)) (take-set xs i point ∙ front) ∙ ap (λ l. filter (is_before t) xs ++ l) (drop-set xs i point lt ∙ ap (λ l. point ∷ l) (sym behind))

-- the points of a range

le-lt : (a b : ℤ) → int_le b a ≡ not (int_lt a b)
le-lt a b = grind (arith, ints)

within-tests : (range : Range) (x : Point) → is_point_within range x ≡ (is_from range.from x && is_until range.to x)
within-tests range x = ap (λ b. b && int_le x.time range.to) (le-lt x.time range.from) ∙ ap (λ b. is_from range.from x && b) (le-lt range.to x.time)

filter-both : (p q : Point → Bool) (xs : List Point) → filter q (filter p xs) ≡ filter (λ x. p x && q x) xs
filter-both p q [] = refl
filter-both p q (x ∷ xs) =
    let others = filter-both p q xs in
    elim (p x) as (λ b. filter q (cond b (x ∷ filter p xs) (filter p xs)) ≡ cond (b && q x) (x ∷ filter (λ x. p x && q x) xs) (filter (λ x. p x && q x) xs)) [
      | true ↦ ap (λ r. cond (q x) (x ∷ r) r) others
      | false ↦ others
    ]

-- where no point is in the range, all are outside
pub none-within : (range : Range) (xs : List Point) → length (filter (is_point_within range) xs) ≡ 0 → filter (is_outside range) xs ≡ xs
none-within range [] none = refl
none-within range (x ∷ xs) none =
    elim (is_point_within range x) as (λ b. length (cond b (x ∷ filter (is_point_within range) xs) (filter (is_point_within range) xs)) ≡ 0 → cond (not b) (x ∷ filter (is_outside range) xs) (filter (is_outside range) xs) ≡ x ∷ xs) [
      | true ↦ λ h. absurd (omega (arith, h))
      | false ↦ λ h. ap (λ r. x ∷ r) (none-within range xs h)
    ] none

pub within-both : (range : Range) (xs : List Point) → filter (is_until range.to) (filter (is_from range.from) xs) ≡ filter (is_point_within range) xs
within-both range xs = filter-both (is_from range.from) (is_until range.to) xs ∙ sym (filter_agree (is_point_within range) (λ x. is_from range.from x && is_until range.to x) (within-tests range) xs)
