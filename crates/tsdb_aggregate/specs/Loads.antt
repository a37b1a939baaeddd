-- What a loader holds of each piece, and what calls that load pieces leave.
use Rattle.std.specs.Prelude.{◌≡◌, ℕ, ◌+◌, ◌≤◌, List, Option, None, Result, slice_index_or}
use Rattle.tsdb_base.specs.declared.point.Point.{Point}
use Rattle.tsdb_merge.specs.Causes.{HasPullCause}
use Rattle.tsdb_merge.specs.declared.points.PullFault.{PullFault}

-- a piece's surviving points, where they are told, and what a load of it costs, told or not: one for a page, nothing for
-- a part in memory
pub record Held : Type 0 where
  pub points : Option (List Point)
  pub cost : ℕ

-- what is held of the piece at a place
abbrev pub held_at : List Held → ℕ → Held
held_at held place = slice_index_or held place (record { points = None; cost = 0 })

-- what is held of each piece, two counts of faults, and what all loads so far have cost
pub record LoaderState : Type 0 where
  pub held : List Held
  pub failures : ℕ
  pub damages : ℕ
  pub loads : ℕ

-- loads that cost no more than `most`, which `pages` counts too; no count falls, what is held stays, and a fault has its
-- cause
pub record Spends {T : Type 0} (most : ℕ) (before now : LoaderState) (pages pages_now : ℕ)
    (result : Result T PullFault) : Type 0 where
  pub held : now.held ≡ before.held
  pub most_loads : now.loads ≤ before.loads + most
  pub loads_later : before.loads ≤ now.loads
  pub count_is : pages_now + before.loads ≡ pages + now.loads
  pub cause : HasPullCause before.failures now.failures before.damages now.damages result
