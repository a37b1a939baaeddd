use Rattle.tsdb_serving.proofs.laws.a_core_with_loans_can_serve.Goals as goal

pub returns-clause-none : goal.returns-clause-none
returns-clause-none g c = λ store. (λ ready. record { out = ready; handed = tt }, λ lent. lent.out)

pub returns-clause-some : goal.returns-clause-some
returns-clause-some g c = λ store loans lent. (_, lent.out)
