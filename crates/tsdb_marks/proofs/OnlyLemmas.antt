-- The marks of some series, found by their versions.
use Rattle.std.proofs.Common.{◌≡◌, ℕ, zero, suc, ◌+◌, ◌-◌, ◌<◌, ◌≤◌, ⊎_elim, Bool, true, false, cond, List, [], ◌∷◌, ◌++◌, length, take, drop, get_or, append-nil, append_assoc, refl, sym, ap, ◌∙◌, subst, arith, length-take, get_or-take, take-suc, Option, None, Some, Bor}
use Rattle.std.specs.Prelude.{nat_eq, nat_lt, ◌||◌}
use Rattle.std.specs.Option.{IfSome}
use Rattle.std.specs.List.{All, AllPairs, Contains, filter}
use Rattle.std.specs.List.Sorted.{IsNonDecreasing, IsPartitionPoint, IsPartitionedBy}
use Rattle.std.proofs.lemmas.Bool.{cases_lt, cases_Bool, false≢true, eq-eqb, ne_eqb, ltb-true, ltb-false, lt-ltb}
use Rattle.std.proofs.lemmas.List.{get_or_default, take-append-drop}
use Rattle.std.proofs.lemmas.List.Elements.{All-head, All-tail, All-nil, All-push, All-weaker, All-from_get_or, All-from_all_within, filter_passes, filter-append}
use Rattle.std.proofs.lemmas.List.Folds.{list_any-append, list_any_at}
use Rattle.tsdb_marks.specs.declared.marks.Mark.{Mark}
use Rattle.tsdb_marks.specs.Lists.{is_of}
use Rattle.tsdb_marks.specs.Model.{has_version, is_mark_of, versions_of}
use Rattle.tsdb_marks.proofs.ModelLemmas.{versions-append}

abbrev pub Rising : List Mark → Type 0
Rising marks = AllPairs (λ (a b : Mark). a.version.0 < b.version.0) marks

-- the versions of the marks of each of these series, one series behind another
abbrev pub versions_in : List (List ℕ) → List Mark → List ℕ
versions_in [] marks = []
versions_in (path ∷ series) marks = versions_of (filter (is_mark_of path) marks) ++ versions_in series marks

pub versions_in-push : (series : List (List ℕ)) (path : List ℕ) (marks : List Mark) → versions_in (series ++ path ∷ []) marks ≡ versions_in series marks ++ versions_of (filter (is_mark_of path) marks)
versions_in-push [] path marks = append-nil (versions_of (filter (is_mark_of path) marks))
versions_in-push (x ∷ series) path marks = ap (λ (vs : List ℕ). versions_of (filter (is_mark_of x) marks) ++ vs) (versions_in-push series path marks) ∙ sym (append_assoc (versions_of (filter (is_mark_of x) marks)) (versions_in series marks) (versions_of (filter (is_mark_of path) marks)))

or-false : (b : Bool) → (b || false) ≡ b
or-false true = refl
or-false false = refl

-- one version more

has-push : (versions : List ℕ) (v : ℕ) (m : Mark) → has_version (versions ++ v ∷ []) m ≡ (has_version versions m || nat_eq v m.version.0)
has-push [] v m = or-false (nat_eq v m.version.0)
has-push (x ∷ versions) v m = elim (nat_eq x m.version.0) as (λ b. (b || has_version (versions ++ v ∷ []) m) ≡ ((b || has_version versions m) || nat_eq v m.version.0)) [ true ↦ refl | false ↦ has-push versions v m ]

has-other : (versions : List ℕ) (v : ℕ) (m : Mark) → nat_eq v m.version.0 ≡ false → has_version (versions ++ v ∷ []) m ≡ has_version versions m
has-other versions v m other = has-push versions v m ∙ ap (λ b. has_version versions m || b) other ∙ or-false (has_version versions m)

-- a mark behind all versions has none of them
has-none : (versions : List ℕ) (v : ℕ) (m : Mark) → All (λ x. x < v) versions → v ≤ m.version.0 → has_version versions m ≡ false
has-none [] v m below le = refl
has-none (x ∷ versions) v m below le =
    let P : ℕ → Type 0 = λ x. x < v in
    let lt = All-head P x versions below in
    ap (λ b. b || has_version versions m) (ne_eqb x m.version.0 (λ e. omega (arith, e, lt, le))) ∙ has-none versions v m (All-tail P x versions below) le

pub has-below : (versions : List ℕ) (v : ℕ) (m : Mark) → All (λ x. x < v) versions → has_version versions m ≡ true → m.version.0 < v
has-below versions v m below has = ⊎_elim (λ lt. lt) (λ (ge : v ≤ m.version.0). absurd (false≢true (sym (has-none versions v m below ge) ∙ has))) (cases_lt m.version.0 v)

pub filter_all_agree : (p q : Mark → Bool) (marks : List Mark) → All (λ m. p m ≡ q m) marks → filter p marks ≡ filter q marks
filter_all_agree p q [] all = refl
filter_all_agree p q (x ∷ marks) all =
    let P : Mark → Type 0 = λ m. p m ≡ q m in
    rw (All-head P x marks all) (ap (λ rest. cond (q x) (x ∷ rest) rest) (filter_all_agree p q marks (All-tail P x marks all)))

pub with_none : (versions : List ℕ) (v : ℕ) (marks : List Mark) → All (λ m. nat_eq v m.version.0 ≡ false) marks → filter (has_version (versions ++ v ∷ [])) marks ≡ filter (has_version versions) marks
with_none versions v marks all = filter_all_agree (has_version (versions ++ v ∷ [])) (has_version versions) marks (All-weaker (λ (m : Mark). nat_eq v m.version.0 ≡ false) (λ (m : Mark). has_version (versions ++ v ∷ []) m ≡ has_version versions m) (λ m other. has-other versions v m other) marks all)

none_above : (versions : List ℕ) (v : ℕ) (marks : List Mark) → All (λ x. x < v) versions → All (λ m. v ≤ m.version.0) marks → filter (has_version versions) marks ≡ []
none_above versions v [] below all = refl
none_above versions v (x ∷ marks) below all =
    let P : Mark → Type 0 = λ m. v ≤ m.version.0 in
    rw (has-none versions v x below (All-head P x marks all)) (none_above versions v marks below (All-tail P x marks all))

tail-rising : (x : Mark) (marks : List Mark) → Rising (x ∷ marks) → Rising marks
tail-rising x marks rising = λ j k d lt within. rising (suc j) (suc k) d (omega (arith, lt)) (omega (arith, within))

tail-above : (x : Mark) (marks : List Mark) → Rising (x ∷ marks) → All (λ m. x.version.0 < m.version.0) marks
tail-above x marks rising = All-from_get_or (λ (m : Mark). x.version.0 < m.version.0) marks x (λ i within. rising 0 (suc i) x (omega arith) (omega arith))

pub with_one : (versions : List ℕ) (v : ℕ) (marks : List Mark) (k : ℕ) (m : Mark) → Rising marks → All (λ x. x < v) versions → k < length marks → m ≡ get_or marks k m → m.version.0 ≡ v
    → filter (has_version (versions ++ v ∷ [])) marks ≡ filter (has_version versions) marks ++ m ∷ []
with_one versions v [] k m rising below lt is same = absurd (omega (arith, lt))
with_one versions v (x ∷ marks) zero m rising below lt is same =
    let here : x.version.0 ≡ v = ap (λ (y : Mark). y.version.0) (sym is) ∙ same in
    let above = tail-above x marks rising in
    let none_x : has_version versions x ≡ false = has-none versions v x below (omega (arith, here)) in
    let yes_x : has_version (versions ++ v ∷ []) x ≡ true = has-push versions v x ∙ ap (λ b. b || nat_eq v x.version.0) none_x ∙ eq-eqb v x.version.0 (sym here) in
    let two = none_above (versions ++ v ∷ []) (v + 1) marks (All-push (λ x. x < v + 1) versions v (All-weaker (λ x. x < v) (λ x. x < v + 1) (λ x lt. omega (arith, lt)) versions below) (omega arith)) (All-weaker (λ (m : Mark). x.version.0 < m.version.0) (λ (m : Mark). v + 1 ≤ m.version.0) (λ m lt. omega (arith, lt, here)) marks above) in
    let one = none_above versions v marks below (All-weaker (λ (m : Mark). x.version.0 < m.version.0) (λ (m : Mark). v ≤ m.version.0) (λ m lt. omega (arith, lt, here)) marks above) in
    rw (yes_x, none_x, two, one) (ap (λ y. y ∷ []) (sym is))
with_one versions v (x ∷ marks) (suc k) m rising below lt is same =
    let others = with_one versions v marks k m (tail-rising x marks rising) below (omega (arith, lt)) is same in
    let less : x.version.0 < (get_or marks k x).version.0 = rising 0 (suc k) x (omega arith) lt in
    let there : (get_or marks k x).version.0 ≡ v = ap (λ (y : Mark). y.version.0) (get_or_default marks k x m (omega (arith, lt)) ∙ sym is) ∙ same in
    let same_x : has_version (versions ++ v ∷ []) x ≡ has_version versions x = has-other versions v x (ne_eqb v x.version.0 (λ e. omega (arith, e, less, there))) in
    rw same_x (elim (has_version versions x) as (λ b. cond b (x ∷ filter (has_version (versions ++ v ∷ [])) marks) (filter (has_version (versions ++ v ∷ [])) marks) ≡ cond b (x ∷ filter (has_version versions) marks) (filter (has_version versions) marks) ++ m ∷ []) [
      | true ↦ ap (λ rest. x ∷ rest) others
      | false ↦ others
    ])

-- the place of a version

abbrev pub is_older : ℕ → Mark → Bool
is_older v m = nat_lt m.version.0 v

pub parted_marks : (v : ℕ) (marks : List Mark) → Rising marks → IsPartitionedBy (is_older v) marks
parted_marks v marks rising = λ i j d le within h.
    let P : ℕ → Type 0 = λ k. is_older v (get_or marks k d) ≡ true in
    ⊎_elim (λ (lt : i < j). let less = rising i j d lt within in lt-ltb (get_or marks i d).version.0 v (let low = ltb-true (get_or marks j d).version.0 v h in omega (arith, less, low)))
    (λ (ge : j ≤ i). let same : j ≡ i = omega arith in subst P same h) (cases_lt i j)

pub no_version : (v : ℕ) (marks : List Mark) (place : ℕ) → Rising marks → IsPartitionPoint (λ m. is_older v m ≡ true) (λ m. is_older v m ≡ false) marks place
    → ((d : Mark) → place < length marks → nat_eq v (get_or marks place d).version.0 ≡ false) → All (λ m. nat_eq v m.version.0 ≡ false) marks
no_version v marks place rising point not_here = λ k d lt.
    let at = (get_or marks k d).version.0 in
    ⊎_elim (λ (low : k < place). let less = ltb-true at v (point.0 k d (omega arith) low) in ne_eqb v at (λ e. omega (arith, e, less)))
    (λ (high : place ≤ k). ⊎_elim (λ (far : place < k).
    let more = rising place k d far lt in
    let least = ltb-false (get_or marks place d).version.0 v (point.1 place d (omega arith) (omega (arith, far, lt))) in
    ne_eqb v at (λ e. omega (arith, e, more, least)))
    (λ (near : k ≤ place). let same : place ≡ k = omega (arith, high, near) in let P : ℕ → Type 0 = λ n. nat_eq v (get_or marks n d).version.0 ≡ false in subst P same (not_here d (omega (arith, lt, same)))) (cases_lt place k)) (cases_lt k place)

-- a version that stands twice

pub with_again : (versions : List ℕ) (k v : ℕ) (marks : List Mark) → k < length versions → get_or versions k v ≡ v → filter (has_version (versions ++ v ∷ [])) marks ≡ filter (has_version versions) marks
with_again versions k v marks lt is = filter_all_agree (has_version (versions ++ v ∷ [])) (has_version versions) marks (λ i d within. same (get_or marks i d)) where
  same : (m : Mark) → has_version (versions ++ v ∷ []) m ≡ has_version versions m
  same m = ⊎_elim (λ (yes_it : nat_eq v m.version.0 ≡ true).
      let P : ℕ → Type 0 = λ n. nat_eq n m.version.0 ≡ true in
      let there : has_version versions m ≡ true = list_any_at (λ v. nat_eq v m.version.0) versions k v lt (subst P (sym is) yes_it) in
      has-push versions v m ∙ ap (λ b. b || nat_eq v m.version.0) there ∙ sym there)
      (λ (no_it : nat_eq v m.version.0 ≡ false). has-other versions v m no_it) (cases_Bool (nat_eq v m.version.0))

pub all_below : (versions : List ℕ) (place v : ℕ) → IsNonDecreasing versions → place < length versions → get_or versions (place - 1) v < v → All (λ x. x < v) (take place versions)
all_below versions place v sorted within less = All-from_all_within (λ x. x < v) (take place versions) (λ k d low high.
    let lt : k < place = omega (arith, high, length-take place versions) in
    let le = sorted k (place - 1) v (omega (arith, lt)) (omega (arith, within)) in
    let at : get_or (take place versions) k d ≡ get_or versions k v = get_or-take place versions k d lt ∙ get_or_default versions k d v (omega (arith, lt, within)) in
    omega (arith, at, le, less))

-- the versions of the wanted marks are those of these series

own_none : (q : Mark → Bool) (marks : List Mark) (m : Mark) → All (λ x. m.version.0 < x.version.0) marks → has_version (versions_of (filter q marks)) m ≡ false
own_none q [] m all = refl
own_none q (x ∷ marks) m all =
    let P : Mark → Type 0 = λ x. m.version.0 < x.version.0 in
    let lt = All-head P x marks all in
    let others = own_none q marks m (All-tail P x marks all) in
    elim (q x) as (λ b. has_version (versions_of (cond b (x ∷ filter q marks) (filter q marks))) m ≡ false) [
      | true ↦ ap (λ b. b || has_version (versions_of (filter q marks)) m) (ne_eqb x.version.0 m.version.0 (λ e. omega (arith, e, lt))) ∙ others
      | false ↦ others
    ]

own : (q : Mark → Bool) (marks : List Mark) (k : ℕ) (m : Mark) → Rising marks → k < length marks → get_or marks k m ≡ m → has_version (versions_of (filter q marks)) m ≡ q m
own q [] k m rising lt is = absurd (omega (arith, lt))
own q (x ∷ marks) zero m rising lt is =
    let P : Mark → Type 0 = λ m. has_version (versions_of (filter q (x ∷ marks))) m ≡ q m in
    subst P is (own_first q x marks rising)
  where
    own_first : (q : Mark → Bool) (x : Mark) (marks : List Mark) → Rising (x ∷ marks) → has_version (versions_of (filter q (x ∷ marks))) x ≡ q x
    own_first q x marks rising = elim (q x) as (λ b. has_version (versions_of (cond b (x ∷ filter q marks) (filter q marks))) x ≡ b) [
      | true ↦ ap (λ b. b || has_version (versions_of (filter q marks)) x) (eq-eqb x.version.0 x.version.0 refl)
      | false ↦ own_none q marks x (tail-above x marks rising)
    ]
own q (x ∷ marks) (suc k) m rising lt is =
    let others = own q marks k m (tail-rising x marks rising) (omega (arith, lt)) is in
    let less : x.version.0 < (get_or marks k m).version.0 = rising 0 (suc k) m (omega arith) lt in
    let there = ap (λ (y : Mark). y.version.0) is in
    elim (q x) as (λ b. has_version (versions_of (cond b (x ∷ filter q marks) (filter q marks))) m ≡ q m) [
      | true ↦ ap (λ b. b || has_version (versions_of (filter q marks)) m) (ne_eqb x.version.0 m.version.0 (λ e. omega (arith, e, less, there))) ∙ others
      | false ↦ others
    ]

pub versions_in-has : (series : List (List ℕ)) (marks : List Mark) (m : Mark) → Rising marks → Contains marks m → has_version (versions_in series marks) m ≡ is_of series m
versions_in-has [] marks m rising there = refl
versions_in-has (path ∷ series) marks m rising there =
    list_any-append (λ v. nat_eq v m.version.0) (versions_of (filter (is_mark_of path) marks)) (versions_in series marks)
    ∙ ap (λ b. b || has_version (versions_in series marks) m) (own (is_mark_of path) marks there.0 m rising there.1 there.2)
    ∙ ap (λ b. is_mark_of path m || b) (versions_in-has series marks m rising there)

pub kept_below : (versions : List ℕ) (v : ℕ) (marks : List Mark) → All (λ x. x < v) versions → All (λ (m : Mark). m.version.0 < v) (filter (has_version versions) marks)
kept_below versions v marks below = All-weaker (λ (m : Mark). has_version versions m ≡ true) (λ (m : Mark). m.version.0 < v) (λ m has. has-below versions v m below has) (filter (has_version versions) marks) (filter_passes (has_version versions) marks)

pub filter_nothing : (marks : List Mark) → [] ≡ filter (has_version []) marks
filter_nothing [] = refl
filter_nothing (x ∷ marks) = filter_nothing marks

-- one more of the series
pub gathered : (series : List (List ℕ)) (i n : ℕ) (path : List ℕ) (marks : List Mark) (old a b : List ℕ) → i < length series → path ≡ get_or series i path → old ≡ versions_in (take i series) marks
    → a ≡ versions_of (filter (is_mark_of path) (take n marks)) → b ≡ versions_of (filter (is_mark_of path) (drop n marks)) → (old ++ a) ++ b ≡ versions_in (take (i + 1) series) marks
gathered series i n path marks old a b lt is before front back =
    let q = is_mark_of path in
    let parts : a ++ b ≡ versions_of (filter q marks) =
    ap (λ (xs : List ℕ). xs ++ b) front ∙ ap (λ (xs : List ℕ). versions_of (filter q (take n marks)) ++ xs) back
    ∙ sym (versions-append (filter q (take n marks)) (filter q (drop n marks))) ∙ ap versions_of (sym (filter-append q (take n marks) (drop n marks)) ∙ ap (filter q) (take-append-drop n marks))
    in
    let more : take (i + 1) series ≡ take i series ++ path ∷ [] = ap (λ n. take n series) (let e : i + 1 ≡ suc i = omega arith in e) ∙ take-suc series i path lt ∙ ap (λ x. take i series ++ x ∷ []) (sym is) in
    append_assoc old a b ∙ ap (λ (xs : List ℕ). xs ++ (a ++ b)) before ∙ ap (λ (xs : List ℕ). versions_in (take i series) marks ++ xs) parts ∙ sym (ap (λ ps. versions_in ps marks) more ∙ versions_in-push (take i series) path marks)

-- a step of the loop over the versions

pub take_next : (versions : List ℕ) (place v : ℕ) → place < length versions → v ≡ get_or versions place v → take (place + 1) versions ≡ take place versions ++ v ∷ []
take_next versions place v lt is = ap (λ n. take n versions) (let e : place + 1 ≡ suc place = omega arith in e) ∙ take-suc versions place v lt ∙ ap (λ x. take place versions ++ x ∷ []) (sym is)

pub below_here : (versions : List ℕ) (place v p : ℕ) → IsNonDecreasing versions → place < length versions → p ≡ get_or versions (place - 1) p → p < v → All (λ x. x < v) (take place versions)
below_here versions place v p sorted within is less =
    let same : get_or versions (place - 1) v ≡ p = get_or_default versions (place - 1) v p (omega (arith, within)) ∙ sym is in
    all_below versions place v sorted within (omega (arith, same, less))

pub none_before : (versions : List ℕ) (place v : ℕ) → place ≡ 0 → All (λ x. x < v) (take place versions)
none_before versions place v first = let P : ℕ → Type 0 = λ n. All (λ x. x < v) (take n versions) in subst P (sym first) (All-nil (λ x. x < v))

pub again_here : (versions : List ℕ) (place v p : ℕ) (marks : List Mark) → IsNonDecreasing versions → place < length versions → (place ≡ 0 → ⊥) → v ≡ get_or versions place v → p ≡ get_or versions (place - 1) p → v ≤ p
    → filter (has_version (take (place + 1) versions)) marks ≡ filter (has_version (take place versions)) marks
again_here versions place v p marks sorted within some is before le =
    let first : 0 < place = ⊎_elim (λ (lt : 0 < place). lt) (λ (ge : place ≤ 0). absurd (some (omega (arith, ge)))) (cases_lt 0 place) in
    let same : get_or versions (place - 1) v ≡ p = get_or_default versions (place - 1) v p (omega (arith, within)) ∙ sym before in
    let up = sorted (place - 1) place v (omega arith) within in
    let at : get_or (take place versions) (place - 1) v ≡ v = get_or-take place versions (place - 1) v (omega (arith, first)) ∙ (let e : get_or versions (place - 1) v ≡ v = omega (arith, up, same, le, is) in e) in
    ap (λ vs. filter (has_version vs) marks) (take_next versions place v within is) ∙ with_again (take place versions) (place - 1) v marks (omega (arith, length-take place versions, within, first)) at

pub newer_some : (o : Option (Bor Mark)) (v : ℕ) (only : List Mark) → IfSome o (λ m. m.now.version.0 ≡ v) → All (λ (kept : Mark). kept.version.0 < v) only → IfSome o (λ m. All (λ (kept : Mark). kept.version.0 < m.now.version.0) only)
newer_some None v only is below = tt
newer_some (Some m) v only is below = All-weaker (λ (kept : Mark). kept.version.0 < v) (λ (kept : Mark). kept.version.0 < m.now.version.0) (λ kept lt. omega (arith, lt, is)) only below
