use Rattle.std.proofs.Common.{◌≡◌, ◌+◌, ◌%◌, set, arith, length-set}
use Rattle.std.proofs.lemmas.List.{set_comm, drop-set}
use Rattle.tsdb_print.proofs.digits.write_pair.Goals as goal

pub returns : goal.returns
returns c =
    let at = c.args.at in
    let buffer = c.args.buffer.now in
    let ones = 48 + c.args.pair % 10 in
    let behind : at + 1 + 1 ≡ at + 2 = omega arith in
    rw (set_comm buffer at (at + 1) _ _ (λ x. omega arith), drop-set (set buffer (at + 1) ones) at _ (omega (arith, length-set buffer (at + 1) ones)), drop-set buffer (at + 1) _ (omega arith), behind)
