-- What each turn keeps holds of each value that is reached by turns.
use Rattle.std.proofs.Common.{ℕ}
use Rattle.tsdb_turn.specs.Values.{IsReached, IsKeptByTurns, at_start, by_turn}
use Rattle.tsdb_turn.specs.declared.logged.Logged as logged

pub reached_keeps : {V Entry Account : Type 0} (means : logged.Ghosts V Entry Account) (seats : ℕ) (R : V → V → Type 0) → IsKeptByTurns means seats R
    → (start value : V) → R start start → IsReached means seats start value → R start value
reached_keeps means seats R keeps start value first at_start = first
reached_keeps means seats R keeps start value first (by_turn {entered} n made before extends) =
    keeps n start entered value made (reached_keeps means seats R keeps start entered first before) extends
