use Rattle.std.proofs.Common.{sym, ◌∙◌}
use Rattle.tsdb_querying.proofs.Pinned.{ends_pin, keeps_without}
use Rattle.tsdb_serving.proofs.Swept.{loan_swept}
use Rattle.tsdb_serving.specs.declared.loan.Loan.TheVariants as loan
use Rattle.tsdb_querying.proofs.pinning.unpin.Goals as goal

pub sweep-requires-clause-store : goal.sweep-requires-clause-store
sweep-requires-clause-store g c = λ lifetimes lives. c.requires.store ∙ sym c.unpin.ensures.rest.store

pub returns-clause-ends : goal.returns-clause-ends
returns-clause-ends g c = loan_swept g.F.Right.ReadRight.file (g.F.Port.Port.store c.args.port.now) (loan.Pin c.args.pin)
    c.args.core.now c.unpin.new.self c.sweep.new.core c.sweep.ensures.listed c.sweep.ensures.keeps_all
    (ends_pin c.args.core.now c.unpin.new.self c.args.pin c.unpin.ensures g.F.Right.ReadRight.file
    (g.F.Port.Port.store c.args.port.now))

pub returns-clause-log : goal.returns-clause-log
returns-clause-log g c = c.sweep.ensures.listed.logged ∙ c.unpin.ensures.rest.logged

pub returns-clause-keeps : goal.returns-clause-keeps
returns-clause-keeps g c = λ others loans files at next one serving. c.sweep.ensures.listed.serving others files at next
    (keeps_without c.args.core.now c.unpin.new.self c.args.pin c.unpin.ensures others loans files at next one serving)
