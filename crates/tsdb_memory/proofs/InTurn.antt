-- Frozen pairs, which were frozen one after another: what changes keep of that.
use Rattle.std.proofs.Common.{ℕ, ◌+◌, ◌≤◌, List, [], ◌∷◌, ◌++◌, arith}
use Rattle.tsdb_base.proofs.Lists.{each_append, each_weaker, pairs_push}
use Rattle.tsdb_memory.specs.Fits.{HasNoPairPoint}
use Rattle.tsdb_memory.specs.Model.{AreFrozenInTurn}
use Rattle.tsdb_memory.specs.Store.{FrozenPair}
use Rattle.tsdb_memtable.specs.Pairs.{Pair}

pub none_in_turn : AreFrozenInTurn 0 []
none_in_turn = record { filled = tt; rising = tt; reached = tt }

-- one change more is counted
pub later_in_turn : (stamp : ℕ) (frozen : List FrozenPair) → AreFrozenInTurn stamp frozen
    → AreFrozenInTurn (stamp + 1) frozen
later_in_turn stamp frozen are = record {
  filled = are.filled;
  rising = are.rising;
  reached = each_weaker (λ (pair : FrozenPair). pair.born ≤ stamp) (λ pair. pair.born ≤ stamp + 1)
      (λ pair h. omega (arith, h)) frozen are.reached;
}

-- the oldest has left
pub left_in_turn : (stamp : ℕ) (oldest : FrozenPair) (frozen : List FrozenPair)
    → AreFrozenInTurn stamp (oldest ∷ frozen) → AreFrozenInTurn stamp frozen
left_in_turn stamp oldest frozen are =
    record { filled = are.filled.1; rising = are.rising.1; reached = are.reached.1 }

-- a pair with a point is frozen behind the others, at this stamp
pub pushed_in_turn : (stamp : ℕ) (frozen : List FrozenPair) (pair : Pair) → ¬ HasNoPairPoint pair
    → AreFrozenInTurn stamp frozen → AreFrozenInTurn stamp (frozen ++ record { born = stamp; pair = pair } ∷ [])
pushed_in_turn stamp frozen pair some are = record {
  filled = each_append (λ (f : FrozenPair). ¬ HasNoPairPoint f.pair) frozen (record { born = stamp; pair = pair } ∷ [])
      are.filled (some, tt);
  rising = pairs_push (λ (a b : FrozenPair). a.born ≤ b.born) frozen (record { born = stamp; pair = pair }) are.rising
      are.reached;
  reached = each_append (λ (f : FrozenPair). f.born ≤ stamp) frozen (record { born = stamp; pair = pair } ∷ [])
      are.reached (omega arith, tt);
}
