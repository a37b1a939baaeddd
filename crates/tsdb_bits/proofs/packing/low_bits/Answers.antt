use Rattle.std.proofs.Common.{ℕ, ◌-◌, arith, ap, ◌∙◌}
use Rattle.std.specs.Prelude.{bit_and}
use Rattle.std.proofs.lemmas.Nat.{and_mask, one_shl}
use Rattle.tsdb_bits.proofs.packing.low_bits.Goals as goal

pub returns : goal.returns
returns c =
    let w = c.args.width in
    let word = c.args.word in
    ap (λ (m : ℕ). bit_and word (m - 1)) (one_shl w 128 (omega arith)) ∙ and_mask word w
