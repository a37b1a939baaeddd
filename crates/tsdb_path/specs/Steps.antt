-- How the reading takes the parts one by one.
use Rattle.std.specs.Prelude.{◌≡◌, ℕ, ◌+◌, ◌++◌, List, [], ◌∷◌, Option, length, sum_by, All, MatchOption}
use Rattle.tsdb_path.specs.declared.fault.PathFault.{PathFault}
use Rattle.tsdb_path.specs.declared.fault.PathFault.TheVariants.{Empty, NotRoot, BadNode, TooLong, Memory}
use Rattle.tsdb_path.specs.Nodes.{parts, IsNode}
use Rattle.tsdb_path.specs.Refusals.{IsTooLong}

-- why no bytes or too many are refused
abbrev pub RefusesLength : List ℕ → PathFault → Type 0
RefusesLength bytes Empty = bytes ≡ []
RefusesLength bytes NotRoot = ⊥
RefusesLength bytes (BadNode at) = ⊥
RefusesLength bytes (TooLong at) = IsTooLong bytes at
RefusesLength bytes Memory = ⊥

-- the first part, and the bytes behind its dot, where there is one
pub record IsFirstSplit (bytes first : List ℕ) (more : Option (List ℕ)) : Type 0 where
  pub parted : MatchOption more (parts bytes ≡ first ∷ []) (λ rest. parts bytes ≡ first ∷ parts rest)
  pub lengths : MatchOption more (length bytes ≡ length first) (λ rest. length bytes ≡ length first + 1 + length rest)

-- a node stands before, and `more` is what stands behind its dot, where there is one
pub record TakesNode (bytes : List ℕ) (more : Option (List ℕ)) : Type 0 where
  pub first : List ℕ
  pub node : IsNode first
  pub split : IsFirstSplit bytes first more

-- the first part is this one
pub record BeginsWithPart (bytes first : List ℕ) : Type 0 where
  pub others : List (List ℕ)
  pub parted : parts bytes ≡ first ∷ others

-- the first part is no node
pub record BeginsBadly (bytes : List ℕ) : Type 0 where
  pub first : List ℕ
  pub begins : BeginsWithPart bytes first
  pub bad : ¬ IsNode first

-- `rest` is what stands behind the first `count` nodes and their dots
pub record IsBehindNodes (bytes rest : List ℕ) (count : ℕ) : Type 0 where
  pub prefix : List (List ℕ)
  pub parted : parts bytes ≡ prefix ++ parts rest
  pub good : All IsNode prefix
  pub size : length prefix ≡ count
  pub lengths : sum_by (λ part. length part + 1) prefix + length rest ≡ length bytes
