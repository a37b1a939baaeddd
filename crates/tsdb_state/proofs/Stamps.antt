-- Borns and versions where the stamp rises.
use Rattle.std.proofs.Common.{◌≡◌, ℕ, ◌+◌, List, refl, arith}
use Rattle.tsdb_base.proofs.Lists.{each_weaker}
use Rattle.tsdb_marks.specs.declared.marks.Mark.{Mark}
use Rattle.tsdb_state.proofs.Values.{AreReached, reached_more, value_by_parts}
use Rattle.tsdb_state.specs.Places.{PointPlace}
use Rattle.tsdb_state.specs.State.{File, FrozenContent, PairContent, StoreState, ToldContents}
use Rattle.tsdb_state.specs.StoreOrder.{StampsInOrder}
use Rattle.tsdb_state.specs.Worlds.{value_at_place}

-- with a raised stamp, whatever the working pair has
pub stamps_up : (stamp : ℕ) (marks : List Mark) (sequence unsequence : List File) (frozen : List FrozenContent)
    (working new : PairContent)
    → StampsInOrder stamp marks sequence unsequence frozen working
    → StampsInOrder (stamp + 1) marks sequence unsequence frozen new
stamps_up stamp marks sequence unsequence frozen working new stamps = record {
  sequence_born = each_weaker _ _ (λ file h. omega (arith, h)) sequence stamps.sequence_born;
  unsequence_born = each_weaker _ _ (λ file h. omega (arith, h)) unsequence stamps.unsequence_born;
  frozen_born = each_weaker _ _ (λ pair h. omega (arith, h)) frozen stamps.frozen_born;
  frozen_rise = stamps.frozen_rise;
  two = stamps.two;
  filled = stamps.filled;
  working_born = λ some. each_weaker _ _ (λ pair h. omega (arith, h)) frozen stamps.frozen_born;
  versions = reached_more marks stamp stamps.versions;
  versions_rise = stamps.versions_rise;
}

-- a raised stamp leaves the values, since no mark is newer than the old one
pub value_stamp : (told : ToldContents) (state : StoreState) (place : PointPlace) → AreReached state.marks state.stamp
    → value_at_place told (record state { stamp = state.stamp + 1 }) place ≡ value_at_place told state place
value_stamp told state place reached = value_by_parts told told state (record state { stamp = state.stamp + 1 }) place
    reached (reached_more state.marks state.stamp reached) refl refl refl refl
