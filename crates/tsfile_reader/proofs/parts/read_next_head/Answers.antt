use Rattle.std.proofs.Common.{arith}
use Rattle.tsfile_reader.proofs.Later.{no_later_head}
use Rattle.tsfile_reader.proofs.parts.read_next_head.Goals as goal

pub returns-then-ge : goal.returns-then-ge
returns-then-ge c = record {
  parts =
      let h = c.in_ok-head in
      no_later_head c.args.rest.bytes.now h.behind.bytes.now c.args.last.now h.head h.ensures.parts.0.bytes h.ensures.parts.1 (λ less. grind (arith, less));
}

pub returns : goal.returns
returns c = record { parts = (c.in_ok-head.ensures.parts.0, (c.in_ok-head.ensures.parts.1, grind arith)) }
