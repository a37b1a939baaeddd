use Rattle.std.proofs.Common.{rules, ◌≡◌, ◌+◌, sym, subst}
use Rattle.tsdb_aggregate.specs.Steps.{IsChosen, kept_value}
use Rattle.tsdb_aggregate.proofs.TallyLemmas.{joined}
use Rattle.tsdb_aggregate.proofs.tally.Tally.join.Goals as goal

pub returns-then-loses_to : goal.returns-then-loses_to
returns-then-loses_to c = λ xs ys first second.
    let sum : c.in-Some.count ≡ c.args.self.now.count + c.args.later.count = search rules in
    joined c.args.name xs ys _ _ _ _ _ _ _ _ _ sum (sym (subst (IsChosen c.args.name (kept_value c.args.self.now.kept) (kept_value c.args.later.kept)) c.if-loses_to.true c.loses_to.ensures)) c.in_ok-self.ensures first second

pub returns-else-loses_to : goal.returns-else-loses_to
returns-else-loses_to c = λ xs ys first second.
    let sum : c.in-Some.count ≡ c.args.self.now.count + c.args.later.count = search rules in
    joined c.args.name xs ys _ _ _ _ _ _ _ _ _ sum (sym (subst (IsChosen c.args.name (kept_value c.args.self.now.kept) (kept_value c.args.later.kept)) c.if-loses_to.false c.loses_to.ensures)) c.in_ok-self.ensures first second
