use Rattle.std.proofs.Common.{List, ℕ, ◌++◌, ap, sym, ◌∙◌}
use Rattle.tsdb_bits.proofs.LebLaws.{leb_small}
use Rattle.tsdb_bits.proofs.leb.put_leb.Goals as goal

pub returns-then-value-lt128-clause-ok : goal.returns-then-value-lt128-clause-ok
returns-then-value-lt128-clause-ok c =
    c.in_ok-push.ensures.items ∙ ap (λ (t : List ℕ). c.args.into.now.items ++ t) (sym (leb_small c.args.value c.if-value-lt128.true))
