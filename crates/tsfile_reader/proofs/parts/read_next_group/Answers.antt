use Rattle.std.proofs.Common.{arith}
use Rattle.tsfile_reader.proofs.Later.{no_later_group}
use Rattle.tsfile_reader.proofs.parts.read_next_group.Goals as goal

pub returns-then-ge : goal.returns-then-ge
returns-then-ge c = record {
  parts =
      let d = c.in_ok-device in
      no_later_group c.args.rest.bytes.now d.behind.bytes.now d.device c.args.last.now d.ensures.parts.0.bytes d.ensures.parts.1 (λ less. grind (arith, less));
}

pub returns : goal.returns
returns c = record { parts = (c.in_ok-device.ensures.parts.0, (c.in_ok-device.ensures.parts.1, grind arith)) }
