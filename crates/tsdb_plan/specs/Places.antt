-- The first and the last place of a list at which something holds.
use Rattle.std.specs.Prelude.{ℕ, ◌-◌, ◌<◌, ◌≤◌, List, length}
use Rattle.std.specs.List.{AllWithin, HoldsAt}

-- the first place at which it holds, or the list's length where there is none
pub record IsFirstPlace {X : Type 0} (P : X → Type 0) (xs : List X) (place : ℕ) : Type 0 where
  pub within : place ≤ length xs
  pub none_before : AllWithin (λ x. ¬ P x) xs 0 place
  pub there : place < length xs → HoldsAt P xs place

-- one past the last place at which it holds, or 0 where there is none
pub record IsPastLast {X : Type 0} (P : X → Type 0) (xs : List X) (past : ℕ) : Type 0 where
  pub within : past ≤ length xs
  pub none_behind : AllWithin (λ x. ¬ P x) xs past (length xs)
  pub there : 0 < past → HoldsAt P xs (past - 1)
