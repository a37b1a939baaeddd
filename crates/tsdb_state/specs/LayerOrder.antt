-- The order of layers in time, device by device, and against the watermarks of devices.
use Rattle.std.specs.Prelude.{◌≡◌, ℤ, ◌<ℤ◌, ◌≤ℤ◌, List, [], ◌∷◌, IfSome}
use Rattle.std.specs.Cmp.Lexicographic.{slice_cmp}
use Rattle.std.specs.FinMap.{FinMap, get}
use Rattle.std.specs.Option.{IsSomeAnd}
use Rattle.std.specs.Ordering.{nat_cmp}
use Rattle.tsdb_base.specs.declared.value.Value.{Value}
use Rattle.tsdb_state.specs.Layers.{HasPoint, Layer}
use Rattle.tsdb_state.specs.Places.{PointPlace}
use Rattle.tsdb_path.specs.Nodes.{device_of}

-- the last flushed time of each device that has one
abbrev pub WatermarkMap : Type 0
WatermarkMap = FinMap (slice_cmp nat_cmp) ℤ

-- for each device, each time of the earlier layers is less than each time of the later ones
abbrev pub IsBeforeInTime : List Layer → List Layer → Type 0
IsBeforeInTime earlier later = (p q : PointPlace) (v w : Value)
    → HasPoint earlier p v → HasPoint later q w → device_of p.path ≡ device_of q.path → p.time <ℤ q.time

-- each layer is before all that stand behind it
abbrev pub Rises : List Layer → Type 0
Rises [] = Unit {0}
Rises (layer ∷ layers) = IsBeforeInTime (layer ∷ []) layers × Rises layers

-- each time is at most the watermark of its device, which is there
abbrev pub IsBelow : WatermarkMap → List Layer → Type 0
IsBelow watermarks layers = (place : PointPlace) (value : Value) → HasPoint layers place value
    → IsSomeAnd (get watermarks (device_of place.path)) (λ last. place.time ≤ℤ last)

-- each time is greater than the watermark of its device, where there is one
abbrev pub IsAbove : WatermarkMap → List Layer → Type 0
IsAbove watermarks layers = (place : PointPlace) (value : Value) → HasPoint layers place value
    → IfSome (get watermarks (device_of place.path)) (λ last. last <ℤ place.time)
