use Rattle.std.proofs.Common.{refl, ◌∙◌, rules}
use Rattle.std.specs.Int.{w64}
use Rattle.std.proofs.lemmas.Int.{to_z-of_z}
use Rattle.tsdb_stats.proofs.Joining.{stats-append}
use Rattle.tsdb_stats.proofs.statistics.join.Goals as goal

pub returns-clause-found : goal.returns-clause-found
returns-clause-found c = λ before behind l r.
    stats-append before behind c.args.left.now c.args.right.now _ l r refl
    (to_z-of_z w64 c.args.left.now.start (search rules)) (to_z-of_z w64 c.args.right.now.end (search rules)) c.in_ok-copy.ensures.same c.in_ok-copy-2.ensures.same
    (c.value_of.ensures ∙ (rw (c.number.ensures, c.number-2.ensures) at c.lesser_of-least.ensures))
    (c.value_of-2.ensures ∙ (rw (c.number-3.ensures, c.number-4.ensures) at c.greater_of-greatest.ensures))
    c.join_sums.ensures
