use Rattle.std.proofs.Common.{◌+◌, refl}
use Rattle.tsdb_path.proofs.Dots.{tail_is, first_split, one_part}
use Rattle.tsdb_path.proofs.scan.split_first.Goals as goal

pub returns-in-Some : goal.returns-in-Some
returns-in-Some c =
    rw (tail_is c.args.bytes.now (c.in-Some.end + 1))
    (first_split c.args.bytes.now c.in-Some.end c.in-Some.ensures.found.0 c.in-Some.ensures.found.1 c.in-Some.ensures.first)

pub returns-in-None : goal.returns-in-None
returns-in-None c = record { parted = one_part c.args.bytes.now c.in-None.ensures.none; lengths = refl }
