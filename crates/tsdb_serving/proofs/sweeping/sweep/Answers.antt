use Rattle.std.proofs.Common.{◌≡◌, length, rules, sym, subst, ◌∙◌}
use Rattle.std.proofs.lemmas.List.{nil_from_length}
use Rattle.std.specs.List.{AllByRecursion as Each}
use Rattle.tsdb_core.proofs.Out.{swept_handed}
use Rattle.tsdb_core.specs.Core.{files_of}
use Rattle.tsdb_serving.proofs.Swept.{idle_keeps, only_read, sweep_keeps}
use Rattle.tsdb_serving.specs.Sweeping.{IsRead}
use Rattle.tsdb_serving.proofs.sweeping.sweep.Goals as goal

pub returns-then-is_empty-clause-swept : goal.returns-then-is_empty-clause-swept
returns-then-is_empty-clause-swept g c = λ calm sure.
    let none : length c.outgoing.result.now ≡ 0 = search rules in
    subst (Each (IsRead (files_of c.args.core.now))) (sym (nil_from_length c.outgoing.result.now none)
    ∙ c.outgoing.ensures.files) tt

pub returns-then-is_empty-clause-listed : goal.returns-then-is_empty-clause-listed
returns-then-is_empty-clause-listed g c = idle_keeps c.args.core.now

pub returns-then-is_empty-clause-keeps_all : goal.returns-then-is_empty-clause-keeps_all
returns-then-is_empty-clause-keeps_all g c = λ store out kept. kept

pub returns-clause-swept : goal.returns-clause-swept
returns-clause-swept g c = only_read c.args.core.now c.sweep.new.self c.sweep.result c.sweep.ensures.swept
    c.outgoing.ensures.kept (g.F.Port.Counted.faults c.args.port.now) (g.F.Port.Counted.faults c.sweep.new.port)
    c.sweep.ensures.cause

pub returns-clause-listed : goal.returns-clause-listed
returns-clause-listed g c = sweep_keeps c.args.core.now c.sweep.new.self c.sweep.result c.sweep.ensures.swept

pub returns-clause-keeps_all : goal.returns-clause-keeps_all
returns-clause-keeps_all g c = swept_handed c.args.core.now c.sweep.new.self c.sweep.result c.sweep.ensures.swept
