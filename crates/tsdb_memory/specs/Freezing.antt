-- What a freeze does to watermarks: that of each device rises to the last of its times in the sequence part.
use Rattle.std.specs.Prelude.{◌≡◌, ℕ, ℤ, ◌≤ℤ◌, cond, List, [], ◌∷◌, Option, Some, All, slice_get}
use Rattle.tsdb_base.specs.declared.ids.Space.TheVariants.{Sequence}
use Rattle.tsdb_base.specs.declared.point.Point.{Point}
use Rattle.tsdb_base.specs.Lists.{Among}
use Rattle.tsdb_model.specs.declared.command.Schema.{Schema}
use Rattle.tsdb_memory.specs.Store.{MemoryState}
use Rattle.tsdb_memory.specs.declared.freezing.Freezing.{Freezing}
use Rattle.tsdb_memory.specs.declared.freezing.Raise.{Raise}
use Rattle.tsdb_memtable.specs.Pairs.{Pair, points_of}
use Rattle.tsdb_memtable.specs.Watermarks.{HasPlace, Watermarks, is_device, later_time}
use Rattle.tsdb_path.specs.Nodes.{device_of}

-- a series of the device has a point of this time in the sequence part of the pair
pub record HasPairTime (series : List Schema) (pair : Pair) (device : List ℕ) (time : ℤ) : Type 0 where
  pub number : ℕ
  pub schema : Schema
  pub point : Point
  pub at : slice_get series number ≡ Some schema
  pub among : Among point (points_of Sequence number pair)
  pub of_device : device_of schema.path ≡ device
  pub is : point.time ≡ time

-- the raise is of the device of the series, to the last of its times
pub record IsRaiseOf (series : List Schema) (pair : Pair) (number : ℕ) (raise : Raise) : Type 0 where
  pub had : HasPairTime series pair raise.device raise.time
  pub of_series : had.number ≡ number
  pub reaches : (point : Point) → Among point (points_of Sequence number pair)
      → point.time ≤ℤ raise.time

-- one of the raises is of the device, and reaches the time
pub record IsReachedByRaise (raises : List Raise) (device : List ℕ) (time : ℤ) : Type 0 where
  pub raise : Raise
  pub among : Among raise raises
  pub of_device : raise.device ≡ device
  pub reaches : time ≤ℤ raise.time

-- each is a time that its device has in the sequence part, and each such time is reached by one of them
pub record AreRaises (series : List Schema) (pair : Pair) (raises : List Raise) : Type 0 where
  pub had : (raise : Raise) → Among raise raises → HasPairTime series pair raise.device raise.time
  pub reaches : (device : List ℕ) (time : ℤ) → HasPairTime series pair device time → IsReachedByRaise raises device time

-- each device has a place among the watermarks
abbrev pub HaveWatermarkPlaces : Watermarks → List Raise → Type 0
HaveWatermarkPlaces watermarks raises = All (λ raise. HasPlace watermarks raise.device) raises

-- these are the raises of the working pair, and their devices have places
pub record IsFreezeOf (store : MemoryState) (freezing : Freezing) : Type 0 where
  pub raises : AreRaises store.series store.working freezing.raises.items
  pub places : HaveWatermarkPlaces store.watermarks freezing.raises.items

-- the watermark of a device after these raises, one after another
abbrev pub raised_by : List ℕ → List Raise → Option ℤ → Option ℤ
raised_by device [] last = last
raised_by device (raise ∷ raises) last = raised_by device raises
    (cond (is_device raise.device device) (later_time last raise.time) last)
