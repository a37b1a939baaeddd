-- Words on lists: pairs of elements, how often a number stands in a list, and runs of a list.
use Rattle.std.specs.Prelude.{◌≡◌, ◌⊎◌, ℕ, ◌+◌, ◌==◌, cond, List, [], ◌∷◌, ◌++◌, Option, Some, None, ⊤}
use Rattle.std.specs.List.{AllByRecursion as Each}

-- it holds of each element and each later one
abbrev pub EachPair : {X : Type 0} → (X → X → Type 0) → List X → Type 0
EachPair R [] = ⊤
EachPair R (x ∷ xs) = Each (R x) xs × EachPair R xs

-- it is one of the elements
abbrev pub Among : {X : Type 0} → X → List X → Type 0
Among x [] = ⊥
Among x (y ∷ ys) = (y ≡ x) ⊎ Among x ys

-- how often the number stands in the list
abbrev pub count : ℕ → List ℕ → ℕ
count n [] = 0
count n (x ∷ xs) = cond (x == n) 1 0 + count n xs

-- the elements stand side by side in the list, between some others
pub record IsRun {X : Type 0} (run all : List X) : Type 0 where
  pub before : List X
  pub behind : List X
  pub is : all ≡ before ++ (run ++ behind)

-- the list with one element more, at some place
pub record IsWithOne {X : Type 0} (x : X) (others all : List X) : Type 0 where
  pub before : List X
  pub behind : List X
  pub with_it : all ≡ before ++ x ∷ behind
  pub without : others ≡ before ++ behind

-- the element, where there is one
abbrev pub if_some : {X : Type 0} → Option X → List X
if_some None = []
if_some (Some x) = x ∷ []
