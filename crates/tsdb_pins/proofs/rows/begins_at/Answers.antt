use Rattle.std.proofs.Common.{rules, ◌≡◌}
use Rattle.std.proofs.lemmas.Bool.{false≢true}
use Rattle.tsdb_pins.proofs.RowLemmas.{begins_not, begins_of, of_begins}
use Rattle.tsdb_pins.proofs.rows.begins_at.Goals as goal

pub returns-in-Some : goal.returns-in-Some
returns-in-Some c = (
  λ h. begins_of _ _ c.in-Some.first c.args.time c.first_of.ensures c.in-Some.is (search (rules, h)),
  λ b. let same : c.in-Some.first ≡ c.args.time = of_begins _ _ c.in-Some.first c.args.time c.first_of.ensures c.in-Some.is b in search (rules, same),
)

pub returns-in-None : goal.returns-in-None
returns-in-None c = (λ h. absurd (false≢true h), λ b. absurd (begins_not _ _ _ c.first_of.ensures c.in-None.is b))
