-- What holds of a pair as it is kept.
use Rattle.std.specs.Prelude.{◌≡◌, ℕ, ◌+◌, ◌*◌, ◌≤◌}
use Rattle.std.specs.List.{sum_by}
use Rattle.std.specs.Map.{values_of}
use Rattle.tsdb_base.specs.declared.ids.Space.TheVariants.{Sequence, Unsequence}
use Rattle.tsdb_memtable.specs.declared.pair.Pair.TheInside.{Inside}
use Rattle.tsdb_memtable.specs.declared.series.Totals.{Totals}
use Rattle.tsdb_base.specs.Limits.{max_point_bytes}
use Rattle.tsdb_memtable.specs.Limits.{max_bytes}
use Rattle.tsdb_memtable.specs.Pairs.{HasRisingSeries, Pair, byte_count, space_count}

-- for how many points there is room in all
abbrev pub spare_count : Pair → ℕ
spare_count pair = sum_by (λ series. series.spare) (values_of pair)

-- how many bytes there are where all room is used
abbrev pub most_of : Totals → ℕ
most_of totals = totals.bytes + totals.spare * max_point_bytes

abbrev pub HasRoomFor : Totals → ℕ → Type 0
HasRoomFor totals cells = most_of totals + cells * max_point_bytes ≤ max_bytes

-- no number of the part is greater than that of the whole
pub record IsPartOfTotals (part whole : Totals) : Type 0 where
  pub sequence : part.sequence ≤ whole.sequence
  pub unsequence : part.unsequence ≤ whole.unsequence
  pub bytes : part.bytes ≤ whole.bytes
  pub spare : part.spare ≤ whole.spare

-- the totals of a part can become others without passing what is counted
pub record CanSwap (old before after : Totals) : Type 0 where
  pub part : IsPartOfTotals before old
  pub sequence : old.sequence + after.sequence ≤ max_bytes + before.sequence
  pub unsequence : old.unsequence + after.unsequence ≤ max_bytes + before.unsequence
  pub most : most_of old + most_of after ≤ max_bytes + most_of before

-- the new totals are the old ones without what was before, and with what is after
pub record IsSwap (old before after new : Totals) : Type 0 where
  pub sequence : new.sequence + before.sequence ≡ old.sequence + after.sequence
  pub unsequence : new.unsequence + before.unsequence ≡ old.unsequence + after.unsequence
  pub bytes : new.bytes + before.bytes ≡ old.bytes + after.bytes
  pub spare : new.spare + before.spare ≡ old.spare + after.spare

-- the totals are those of the pair
pub record AreTotals (pair : Pair) (totals : Totals) : Type 0 where
  pub sequence : totals.sequence ≡ space_count Sequence pair
  pub unsequence : totals.unsequence ≡ space_count Unsequence pair
  pub bytes : totals.bytes ≡ byte_count pair
  pub spare : totals.spare ≡ spare_count pair

pub record IsPairKept (inside : Inside) : Type 0 where
  pub totals : AreTotals inside.series.entries inside.totals
  pub most : most_of inside.totals ≤ max_bytes
  pub rising : HasRisingSeries inside.series.entries
