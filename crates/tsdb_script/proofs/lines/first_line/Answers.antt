use Rattle.std.proofs.Common.{arith, add-one}
use Rattle.std.proofs.Math.Seq.{take-length, drop-length}
use Rattle.tsdb_script.proofs.LinesLemmas.{lines_of-found, lines_of-one}
use Rattle.tsdb_script.proofs.lines.first_line.Goals as goal

pub returns-then-byte-eq10-clause-first : goal.returns-then-byte-eq10-clause-first
returns-then-byte-eq10-clause-first c =
    rw (c.split_at.ensures.front, c.split_at.ensures.back, add-one)
    (lines_of-found c.args.text.now c.loop-at.at c.loop-at-test.true c.loop-at.invariant c.if-byte-eq10.true)

pub returns-clause-first : goal.returns-clause-first
returns-clause-first c =
    rw (c.split_at-2.ensures.front, c.split_at-2.ensures.back, take-length, drop-length)
    (lines_of-one c.args.text.now c.requires (λ k lt. c.loop-at.invariant k (omega arith)))
