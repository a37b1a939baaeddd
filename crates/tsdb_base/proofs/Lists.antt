-- Facts on lists: what holds of each element, pairs, membership, counts, and runs.
use Rattle.std.proofs.Common.{◌≡◌, ℕ, ◌+◌, Bool, true, false, cond, List, [], ◌∷◌, ◌++◌, map, inl, inr, ⊎_elim}
use Rattle.std.proofs.Common.{refl, sym, ap, ◌∙◌, subst, arith}
use Rattle.std.specs.Prelude.{◌⊎◌, ◌||◌}
use Rattle.std.specs.List.{AllByRecursion as Each, filter, list_any}
use Rattle.tsdb_base.specs.Lists.{Among, EachPair, IsRun, IsWithOne, count}

pub each_append : {X : Type 0} (P : X → Type 0) (xs ys : List X) → Each P xs → Each P ys → Each P (xs ++ ys)
each_append P [] ys first second = second
each_append P (x ∷ xs) ys first second = (first.0, each_append P xs ys first.1 second)

pub each_left : {X : Type 0} (P : X → Type 0) (xs ys : List X) → Each P (xs ++ ys) → Each P xs
each_left P [] ys all = tt
each_left P (x ∷ xs) ys all = (all.0, each_left P xs ys all.1)

pub each_right : {X : Type 0} (P : X → Type 0) (xs ys : List X) → Each P (xs ++ ys) → Each P ys
each_right P [] ys all = all
each_right P (x ∷ xs) ys all = each_right P xs ys all.1

pub each_weaker : {X : Type 0} (P Q : X → Type 0) → ((x : X) → P x → Q x) → (xs : List X) → Each P xs → Each Q xs
each_weaker P Q weaker [] all = tt
each_weaker P Q weaker (x ∷ xs) all = (weaker x all.0, each_weaker P Q weaker xs all.1)

pub each_both : {X : Type 0} (P Q R : X → Type 0) → ((x : X) → P x → Q x → R x) → (xs : List X) → Each P xs → Each Q xs
    → Each R xs
each_both P Q R both [] first second = tt
each_both P Q R both (x ∷ xs) first second = (both x first.0 second.0, each_both P Q R both xs first.1 second.1)

pub each_all : {X : Type 0} (P : X → Type 0) → ((x : X) → P x) → (xs : List X) → Each P xs
each_all P all [] = tt
each_all P all (x ∷ xs) = (all x, each_all P all xs)

pub each_among : {X : Type 0} (P : X → Type 0) (xs : List X) (x : X) → Each P xs → Among x xs → P x
each_among P [] x all among = absurd among
each_among P (y ∷ ys) x all (inl is) = subst P is all.0
each_among P (y ∷ ys) x all (inr among) = each_among P ys x all.1 among

pub each_from_among : {X : Type 0} (P : X → Type 0) (xs : List X) → ((x : X) → Among x xs → P x) → Each P xs
each_from_among P [] all = tt
each_from_among P (x ∷ xs) all = (all x (inl refl), each_from_among P xs (λ y among. all y (inr among)))

pub each_map : {X Y : Type 0} (P : Y → Type 0) (f : X → Y) (xs : List X) → Each (λ x. P (f x)) xs → Each P (map f xs)
each_map P f [] all = tt
each_map P f (x ∷ xs) all = (all.0, each_map P f xs all.1)

pub each_of_map : {X Y : Type 0} (P : Y → Type 0) (f : X → Y) (xs : List X) → Each P (map f xs) → Each (λ x. P (f x)) xs
each_of_map P f [] all = tt
each_of_map P f (x ∷ xs) all = (all.0, each_of_map P f xs all.1)

pub each_filter : {X : Type 0} (P : X → Type 0) (test : X → Bool) (xs : List X) → Each P xs → Each P (filter test xs)
each_filter P test [] all = tt
each_filter P test (x ∷ xs) all = by (test x) (each_filter P test xs all.1)
  where
    by : (b : Bool) → Each P (filter test xs) → Each P (cond b (x ∷ filter test xs) (filter test xs))
    by true rest = (all.0, rest)
    by false rest = rest

pub pairs_filter : {X : Type 0} (R : X → X → Type 0) (test : X → Bool) (xs : List X) → EachPair R xs
    → EachPair R (filter test xs)
pairs_filter R test [] all = tt
pairs_filter R test (x ∷ xs) all = by (test x) (pairs_filter R test xs all.1)
  where
    by : (b : Bool) → EachPair R (filter test xs) → EachPair R (cond b (x ∷ filter test xs) (filter test xs))
    by true rest = (each_filter _ _ _ all.0, rest)
    by false rest = rest

pub pairs_push : {X : Type 0} (R : X → X → Type 0) (xs : List X) (y : X) → EachPair R xs → Each (λ x. R x y) xs
    → EachPair R (xs ++ y ∷ [])
pairs_push R [] y pairs last = (tt, tt)
pairs_push R (x ∷ xs) y pairs last = (each_append _ _ _ pairs.0 (last.0, tt), pairs_push R xs y pairs.1 last.1)

-- an element between others
pub each_middle : {X : Type 0} (P : X → Type 0) (xs : List X) (y : X) (ys : List X) → Each P (xs ++ y ∷ ys) → P y
each_middle P xs y ys all = (each_right P xs (y ∷ ys) all).0

pub each_without : {X : Type 0} (P : X → Type 0) (xs : List X) (y : X) (ys : List X) → Each P (xs ++ y ∷ ys)
    → Each P (xs ++ ys)
each_without P xs y ys all = each_append P _ _ (each_left P _ _ all) (each_right P xs (y ∷ ys) all).1

pub pairs_left : {X : Type 0} (R : X → X → Type 0) (xs ys : List X) → EachPair R (xs ++ ys) → EachPair R xs
pairs_left R [] ys pairs = tt
pairs_left R (x ∷ xs) ys pairs = (each_left _ _ _ pairs.0, pairs_left R xs ys pairs.1)

pub pairs_right : {X : Type 0} (R : X → X → Type 0) (xs ys : List X) → EachPair R (xs ++ ys) → EachPair R ys
pairs_right R [] ys pairs = pairs
pairs_right R (x ∷ xs) ys pairs = pairs_right R xs ys pairs.1

pub pairs_without : {X : Type 0} (R : X → X → Type 0) (xs : List X) (y : X) (ys : List X) → EachPair R (xs ++ y ∷ ys)
    → EachPair R (xs ++ ys)
pairs_without R [] y ys pairs = pairs.1
pairs_without R (x ∷ xs) y ys pairs = (each_without _ _ y _ pairs.0, pairs_without R xs y ys pairs.1)

-- an element is related to all others, where the relation has no direction
pub pairs_of_one : {X : Type 0} (R : X → X → Type 0) → ((a b : X) → R a b → R b a) → (xs : List X) (y : X) (ys : List X)
    → EachPair R (xs ++ y ∷ ys) → Each (R y) (xs ++ ys)
pairs_of_one R turn [] y ys pairs = pairs.0
pairs_of_one R turn (x ∷ xs) y ys pairs = (turn x y (each_middle _ _ y _ pairs.0), pairs_of_one R turn xs y ys pairs.1)

pub with_one_each : {X : Type 0} (P : X → Type 0) (x : X) (others all : List X) → IsWithOne x others all → Each P all
    → Each P others
with_one_each P x others all out each =
    subst (Each P) (sym out.without) (each_without P _ x _ (subst (Each P) out.with_it each))

pub with_one_is : {X : Type 0} (P : X → Type 0) (x : X) (others all : List X) → IsWithOne x others all → Each P all
    → P x
with_one_is P x others all out each = each_middle P _ x _ (subst (Each P) out.with_it each)

pub with_one_pairs : {X : Type 0} (R : X → X → Type 0) (x : X) (others all : List X) → IsWithOne x others all
    → EachPair R all → EachPair R others
with_one_pairs R x others all out pairs =
    subst (EachPair R) (sym out.without) (pairs_without R _ x _ (subst (EachPair R) out.with_it pairs))

pub with_one_apart : {X : Type 0} (R : X → X → Type 0) → ((a b : X) → R a b → R b a) → (x : X) (others all : List X)
    → IsWithOne x others all → EachPair R all → Each (R x) others
with_one_apart R turn x others all out pairs =
    subst (Each (R x)) (sym out.without) (pairs_of_one R turn _ x _ (subst (EachPair R) out.with_it pairs))

-- membership

pub among_left : {X : Type 0} (xs ys : List X) (x : X) → Among x xs → Among x (xs ++ ys)
among_left [] ys x among = absurd among
among_left (y ∷ xs) ys x (inl is) = inl is
among_left (y ∷ xs) ys x (inr among) = inr (among_left xs ys x among)

pub among_right : {X : Type 0} (xs ys : List X) (x : X) → Among x ys → Among x (xs ++ ys)
among_right [] ys x among = among
among_right (y ∷ xs) ys x among = inr (among_right xs ys x among)

pub among_map : {X Y : Type 0} (f : X → Y) (xs : List X) (x : X) → Among x xs → Among (f x) (map f xs)
among_map f [] x among = absurd among
among_map f (y ∷ xs) x (inl is) = inl (ap f is)
among_map f (y ∷ xs) x (inr among) = inr (among_map f xs x among)

-- counts

pub count_append : (n : ℕ) (xs ys : List ℕ) → count n (xs ++ ys) ≡ count n xs + count n ys
count_append n [] ys = omega arith
count_append n (x ∷ xs) ys = let rest = count_append n xs ys in omega arith

-- an element of the list passes a test that holds of it
pub any_among : {X : Type 0} (test : X → Bool) (xs : List X) (x : X) → Among x xs → test x ≡ true
    → list_any test xs ≡ true
any_among test [] x among pass = absurd among
any_among test (y ∷ xs) x (inl is) pass = ap (λ b. b || list_any test xs) (ap test is ∙ pass)
any_among test (y ∷ xs) x (inr among) pass = ap (λ b. test y || b) (any_among test xs x among pass) ∙ by (test y)
  where
    by : (b : Bool) → (b || true) ≡ true
    by true = refl
    by false = refl

-- two runs of one list that share nothing: the one stands before the other or behind it

-- a run that begins a list, beside one that begins later
pub first_apart : {X : Type 0} (run rest before other behind : List X) (o : X)
    → ((x : X) → Among x run → Among x (o ∷ other) → ⊥)
    → run ++ rest ≡ before ++ (o ∷ other ++ behind) → IsRun (o ∷ other) rest
first_apart [] rest before other behind o share is = record { before = before; behind = behind; is = is }
first_apart (r ∷ run) rest [] other behind o share is = absurd (share r (inl refl) (inl (cc)))
first_apart (r ∷ run) rest (b ∷ before) other behind o share is = first_apart run rest before other behind o
    (λ x h k. share x (inr h) k) (cc)

-- and it ends before that one
pub ends_before : {X : Type 0} (run rest before : List X) (o : X) (other behind : List X)
    → ((x : X) → Among x run → Among x (o ∷ other) → ⊥)
    → run ++ rest ≡ before ++ (o ∷ other ++ behind) → (more : List X) × (before ≡ run ++ more)
ends_before [] rest before o other behind share is = (before, refl)
ends_before (r ∷ run) rest [] o other behind share is = absurd (share r (inl refl) (inl (cc)))
ends_before (r ∷ run) rest (b ∷ before) o other behind share is =
    let ends = ends_before run rest before o other behind (λ x h k. share x (inr h) k) (cc) in
    let first : b ≡ r = cc in
    (ends.0, λ i. first i ∷ ends.1 i)

pub runs_apart : {X : Type 0} (r : X) (run : List X) (o : X) (other a b c d : List X)
    → ((x : X) → Among x (r ∷ run) → Among x (o ∷ other) → ⊥)
    → a ++ (r ∷ run ++ b) ≡ c ++ (o ∷ other ++ d) → IsRun (o ∷ other) a ⊎ IsRun (o ∷ other) b
runs_apart r run o other [] b [] d share is = absurd (share r (inl refl) (inl (cc)))
runs_apart r run o other [] b (c ∷ cs) d share is = inr (first_apart run b cs other d o (λ x h k. share x (inr h) k)
    (cc))
runs_apart r run o other (a ∷ front) b [] d share is =
    let ends = ends_before other d front r run b (λ x h k. share x k (inr h)) (cc) in
    let first : a ≡ o = cc in
    inl (record { before = []; behind = ends.0; is = λ i. first i ∷ ends.1 i })
runs_apart r run o other (a ∷ front) b (c ∷ cs) d share is = ⊎_elim
    (λ h. inl (record { before = a ∷ h.before; behind = h.behind; is = ap (λ xs. a ∷ xs) h.is })) (λ h. inr h)
    (runs_apart r run o other front b cs d share (cc))

pub filter_append : {X : Type 0} (test : X → Bool) (xs ys : List X)
    → filter test (xs ++ ys) ≡ filter test xs ++ filter test ys
filter_append test [] ys = refl
filter_append test (x ∷ xs) ys = by (test x) (filter_append test xs ys)
  where
    by : (b : Bool) → filter test (xs ++ ys) ≡ filter test xs ++ filter test ys
        → cond b (x ∷ filter test (xs ++ ys)) (filter test (xs ++ ys))
        ≡ cond b (x ∷ filter test xs) (filter test xs) ++ filter test ys
    by true e = ap (λ zs. x ∷ zs) e
    by false e = e
