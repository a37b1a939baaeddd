-- The oldest frozen pair, by what is in memory.
use Rattle.std.proofs.Common.{◌≡◌, ℕ, List, [], ◌∷◌, map, Option, None, Some, ap, ◌∙◌}
use Rattle.std.specs.Option.{option_map}
use Rattle.std.specs.Prelude.{slice_get}
use Rattle.tsdb_memory.specs.Model.{frozen_in}
use Rattle.tsdb_memory.specs.Store.{FrozenPair}
use Rattle.tsdb_memory.specs.declared.store.FrozenPair as declared

-- the born of the first of the pairs
abbrev Born : List FrozenPair → Option ℕ
Born frozen = option_map (λ pair. pair.born) (slice_get frozen 0)

pub born_first : (pairs : List declared.FrozenPair) (pair : declared.FrozenPair) (frozen : List FrozenPair) (born : ℕ)
    → map frozen_in pairs ≡ frozen → Some pair ≡ slice_get pairs 0 → born ≡ (frozen_in pair).born
    → Some born ≡ option_map (λ pair. pair.born) (slice_get frozen 0)
born_first [] pair frozen born are first is = absurd cc
born_first (other ∷ pairs) pair frozen born are first is =
    ap Some (is ∙ ap (λ (p : declared.FrozenPair). (frozen_in p).born) same_pair) ∙ ap Born are
  where
    same_pair : pair ≡ other
    same_pair = cc

pub born_none : (pairs : List declared.FrozenPair) (frozen : List FrozenPair) → map frozen_in pairs ≡ frozen
    → None ≡ slice_get pairs 0 → None ≡ option_map (λ (pair : FrozenPair). pair.born) (slice_get frozen 0)
born_none [] frozen are none = ap Born are
born_none (other ∷ pairs) frozen are none = absurd cc
