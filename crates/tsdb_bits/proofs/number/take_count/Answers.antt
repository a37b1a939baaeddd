use Rattle.std.proofs.Common.{sym, ◌∙◌, arith}
use Rattle.tsdb_bits.proofs.LebLaws.{leb_prefix_free}
use Rattle.tsdb_bits.proofs.number.take_count.Goals as goal

pub returns-then-count-gt-MAX_LIST_VALUES-clause-none : goal.returns-then-count-gt-MAX_LIST_VALUES-clause-none
returns-then-count-gt-MAX_LIST_VALUES-clause-none c = λ count rest few e.
    let same = leb_prefix_free c.in_ok-count.count count c.in_ok-count.rest.now rest (sym c.in_ok-count.ensures.found ∙ e) in
    omega (arith, same.0, few, c.if-count-gt-MAX_LIST_VALUES.true)
