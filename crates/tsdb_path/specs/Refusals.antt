-- Why bytes are refused, and where: of the reasons in their order the first that holds. Each is a fact on all of
-- the bytes and on their parts between dots, and each leaves out those before it.
use Rattle.std.specs.Prelude.{◌≡◌, ◌≢◌, ◌⊎◌, Result, Err, IfErr, ℕ, ◌+◌, ◌<◌, ◌≤◌, List, [], ◌∷◌, ◌++◌, length, sum_by}
use Rattle.std.specs.Prelude.{All}
use Rattle.tsdb_path.specs.declared.fault.PathFault.{PathFault}
use Rattle.tsdb_path.specs.declared.fault.PathFault.TheVariants.{Empty, NotRoot, BadNode, TooLong, Memory}
use Rattle.tsdb_path.specs.Nodes.{IsNode, IsName, IsPath, IsRooted, parts, node_count, child_of}

-- 1 to 255 bytes
pub record HasFittingLength (bytes : List ℕ) : Type 0 where
  pub some : 0 < length bytes
  pub short : length bytes ≤ 255

-- more than 255 bytes, which is found at 255
pub record IsTooLong (bytes : List ℕ) (at : ℕ) : Type 0 where
  pub long : 255 < length bytes
  pub place : at ≡ 255

-- bytes of a fitting length whose first node isn't `root`
pub record IsNotRooted (bytes : List ℕ) : Type 0 where
  pub fits : HasFittingLength bytes
  pub unrooted : ¬ IsRooted (parts bytes)

-- the parts are `prefix`, all of them nodes, then `next`, whose first byte is at `at`, and some more:
-- each part before takes its bytes and a dot
pub record StandsAfterNodes (prefix : List (List ℕ)) (next : List ℕ) (bytes : List ℕ) (at : ℕ) : Type 0 where
  pub fits : HasFittingLength bytes
  pub rooted : IsRooted (parts bytes)
  pub back : List (List ℕ)
  pub parted : parts bytes ≡ prefix ++ next ∷ back
  pub good : All IsNode prefix
  pub place : at ≡ sum_by (λ part. length part + 1) prefix

-- the first part that is no node begins at `at`, and at most 16 nodes stand before it
pub record HasBadNodeAt (bytes : List ℕ) (at : ℕ) : Type 0 where
  pub prefix : List (List ℕ)
  pub next : List ℕ
  pub stands : StandsAfterNodes prefix next bytes at
  pub bad : ¬ IsNode next
  pub few : length prefix ≤ 16

-- a 17th node begins at `at`
pub record HasNodeTooManyAt (bytes : List ℕ) (at : ℕ) : Type 0 where
  pub prefix : List (List ℕ)
  pub next : List ℕ
  pub stands : StandsAfterNodes prefix next bytes at
  pub good : IsNode next
  pub full : length prefix ≡ 16

-- why bytes that are no path are refused; out of memory is answered for a path alone
abbrev pub RefusesPath : List ℕ → PathFault → Type 0
RefusesPath bytes Empty = bytes ≡ []
RefusesPath bytes NotRoot = IsNotRooted bytes
RefusesPath bytes (BadNode at) = HasBadNodeAt bytes at
RefusesPath bytes (TooLong at) = IsTooLong bytes at ⊎ HasNodeTooManyAt bytes at
RefusesPath bytes Memory = IsPath bytes

-- a name of a fitting length that is no node, which is found at its first byte
pub record IsNoNode (bytes : List ℕ) (at : ℕ) : Type 0 where
  pub fits : HasFittingLength bytes
  pub bad : ¬ IsNode bytes
  pub place : at ≡ 0

-- why bytes that are no name are refused; out of memory is answered for a name alone
abbrev pub RefusesName : List ℕ → PathFault → Type 0
RefusesName bytes Empty = bytes ≡ []
RefusesName bytes NotRoot = ⊥
RefusesName bytes (BadNode at) = IsNoNode bytes at
RefusesName bytes (TooLong at) = IsTooLong bytes at
RefusesName bytes Memory = IsName bytes

-- 16 nodes stand in the path, so that the name would be a 17th, which begins behind the path and a dot
pub record IsFull (path name : List ℕ) (at : ℕ) : Type 0 where
  pub short : length (child_of path name) ≤ 255
  pub full : node_count path ≡ 16
  pub place : at ≡ length path + 1

-- why a path takes no further node of this name; out of memory is answered alone where it could take it
abbrev pub RefusesChild : List ℕ → List ℕ → PathFault → Type 0
RefusesChild path name Empty = ⊥
RefusesChild path name NotRoot = ⊥
RefusesChild path name (BadNode at) = ⊥
RefusesChild path name (TooLong at) = IsTooLong (child_of path name) at ⊎ IsFull path name at
RefusesChild path name Memory = IsPath (child_of path name)

-- each of these reasons, but out of memory, is the answer wherever it holds
abbrev pub AnswersEach : {T : Type 0} → (PathFault → Type 0) → Result T PathFault → Type 0
AnswersEach reasons result = (fault : PathFault) → reasons fault → fault ≢ Memory → result ≡ Err fault

-- no reason is answered but out of memory
abbrev pub AnswersMemoryAlone : {T : Type 0} → Result T PathFault → Type 0
AnswersMemoryAlone result = IfErr result (λ fault. fault ≡ Memory)
