-- How often a place in the file system has failed, and which directory it took up. It tells nothing else.
use Rattle.std.specs.Prelude.{ℕ, List}
use Rattle.std.specs.Arc.{arc_value}
use Rattle.std.specs.Option.{option_map}
use Rattle.std.specs.String.{string_bytes}
use Rattle.std.specs.declared.option.Option.{Option}
use Rattle.fs_outside.specs.declared.place.FsPlace.{FsPlace}

abbrev pub place_faults : {R : Type 0} → FsPlace R → ℕ
place_faults p = p.faults

-- the directory whose store was taken up last, or none before the first
abbrev pub place_asked : {R : Type 0} → FsPlace R → Option (List ℕ)
place_asked p = option_map (λ path. string_bytes (arc_value path)) p.asked
