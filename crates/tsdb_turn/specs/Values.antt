-- What a pass learns of the value when it enters, and what it owes of the value when it leaves. Here `start` is the
-- value with which the turn was opened, and `number` the number of the pass.
use Rattle.std.specs.Prelude.{◌≡◌, ◌≢◌, ℕ, ◌<◌, ◌≤◌, List, ◌++◌, All}
use Rattle.tsdb_turn.specs.declared.logged.Logged as logged

module _ {V Entry Account : Type 0} (means : logged.Ghosts V Entry Account) where
  -- what others may have done to the value since this pass left it as `last`
  pub record Follows (number : ℕ) (start last value : V) : Type 0 where
    -- the value comes from the start
    pub origin : means.comes_from value start
    -- the list that the pass last saw is a prefix of the value's
    pub more : List Entry
    pub list : means.entries_of value ≡ means.entries_of last ++ more
    -- behind that prefix no entry has this number
    pub others : All (λ e. means.number_of e ≢ number) more
    -- the account of this number is as the pass left it
    pub account : means.account_of value number ≡ means.account_of last number
    -- the reach did not fall
    pub reach : means.reach_of last ≤ means.reach_of value

  -- what a pass may do to the value that it took as `entered`
  pub record Extends (number : ℕ) (start entered value : V) : Type 0 where
    -- the value still comes from the start
    pub origin : means.comes_from value start
    -- the list is the entered one and some more entries
    pub more : List Entry
    pub list : means.entries_of value ≡ means.entries_of entered ++ more
    -- each of these has this number
    pub own : All (λ e. means.number_of e ≡ number) more
    -- the accounts of all other numbers are as entered
    pub accounts : (other : ℕ) → other ≢ number → means.account_of value other ≡ means.account_of entered other
    -- the reach did not fall
    pub reach : means.reach_of entered ≤ means.reach_of value

  -- no entry has a number that no pass has
  abbrev pub IsNumbered : ℕ → V → Type 0
  IsNumbered seats value = All (λ e. means.number_of e < seats) (means.entries_of value)

  -- the value is left by a number of turns, one after another, the first of which entered the start
  pub data IsReached (seats : ℕ) (start : V) : V → Type 0 where
    at_start : IsReached seats start start
    by_turn : {entered value : V} → (number : ℕ) → number < seats → IsReached seats start entered
        → Extends number start entered value → IsReached seats start value

  -- what each turn keeps: the value comes from the start, by turns, and its entries have the numbers of passes
  pub record IsTurnKept (seats : ℕ) (start value : V) : Type 0 where
    pub numbers : IsNumbered seats value
    pub reached : IsReached seats start value

  -- Each turn keeps R: where it holds of the start and of the value that a pass entered, it holds of each value that
  -- this pass may leave.
  abbrev pub IsKeptByTurns : ℕ → (V → V → Type 0) → Type 0
  IsKeptByTurns seats R =
      (number : ℕ) (start entered value : V) → number < seats → R start entered → Extends number start entered value
      → R start value
