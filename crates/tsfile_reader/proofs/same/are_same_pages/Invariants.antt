use Rattle.std.proofs.Common.{◌≡◌, take}
use Rattle.tsfile_reader.proofs.same.are_same_pages.Given as goal

abbrev pub invariant-loop-i : goal.invariant-loop-i
invariant-loop-i l = take l.i l.pages ≡ take l.i l.others
