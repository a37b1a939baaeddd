use Rattle.std.proofs.Common.{length, ◌≤◌, ◌∙◌, arith}
use Rattle.std.proofs.lemmas.List.{length-take-le}
use Rattle.mem_outside.proofs.Moves.{moved_prefix}
use Rattle.mem_outside.proofs.streams.Unread.take.Goals as goal

pub returns-clause-bytes : goal.returns-clause-bytes
returns-clause-bytes c =
    let fits : c.min-count.result ≤ length c.args.into.now = omega arith in
    moved_prefix c.args.self.now.bytes.items c.deref.result.now c.copy_from_slice.new.self c.args.into.now
    c.args.self.now.taken c.min-count.result c.deref.ensures.value c.copy_from_slice.ensures.after
    (c.copy_from_slice.ensures.len ∙ length-take-le c.min-count.result c.args.into.now fits)
