use Rattle.std.proofs.Common.{◌≡◌, ◌+◌, take}
use Rattle.tsdb_plan.specs.Files.{total_bytes}
use Rattle.tsdb_plan.proofs.cross_plan.fits.Given as goal

-- the room that is left and the bytes so far are the room at first
abbrev pub invariant-loop-file : goal.invariant-loop-file
invariant-loop-file l = l.left + total_bytes (take l.file-index l.files) ≡ l.room
