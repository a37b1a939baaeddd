use Rattle.std.proofs.Common.{subst, sym, ◌∙◌}
use Rattle.tsdb_querying.proofs.Out.{pin_is_held}
use Rattle.tsdb_querying.proofs.Selected.{over_pin}
use Rattle.tsdb_querying.specs.Flushing.{IsReady}
use Rattle.tsdb_querying.specs.Out.{nothing_out}
use Rattle.tsdb_querying.specs.Reading.{AreColumnsOf}
use Rattle.use_core.proofs.reading.read.Goals as goal

pub select-lines-requires-clause-nodes : goal.select-lines-requires-clause-nodes
select-lines-requires-clause-nodes g c = λ lifetimes lives. c.in-Ok.ensures.taken.nodes

pub select-lines-requires-clause-of_store : goal.select-lines-requires-clause-of_store
select-lines-requires-clause-of_store g c = λ lifetimes lives.
    subst (λ store. AreColumnsOf g.F.Right.ReadRight.file store c.in-Ok.pin.columns) (sym c.requires.ready.of_store)
    c.in-Ok.ensures.taken.of_store

pub unpin-requires-clause-held : goal.unpin-requires-clause-held
unpin-requires-clause-held g c = λ lifetimes lives. pin_is_held g.F.Right.ReadRight.file c.pin.new.core c.in-Ok.pin
    (g.F.Port.Port.store c.args.port.now) nothing_out
    (c.in-Ok.ensures.taken.turn.lends (g.F.Port.Port.store c.args.port.now) nothing_out c.requires.ready)

pub unpin-requires-clause-store : goal.unpin-requires-clause-store
unpin-requires-clause-store g c = λ lifetimes lives. c.select-lines.ensures.same_store
    ∙ (c.in-Ok.ensures.taken.turn.lends (g.F.Port.Port.store c.args.port.now) nothing_out c.requires.ready).of_store

pub returns-in-Ok-lines-clause-ready : goal.returns-in-Ok-lines-clause-ready
returns-in-Ok-lines-clause-ready g c =
    let store = g.F.Port.Port.store c.select-lines.new.port in
    subst (λ s. IsReady s c.unpin.new.core) c.select-lines.ensures.same_store
    (over_pin g.F.Right.ReadRight.file store c.args.core.now c.pin.new.core c.unpin.new.core c.in-Ok.pin
    (c.in-Ok.ensures.taken.turn.lends store) c.unpin.ensures.ends.back nothing_out
    (subst (λ s. IsReady s c.args.core.now) (sym c.select-lines.ensures.same_store) c.requires.ready))

pub returns-in-Err-lines-clause-ready : goal.returns-in-Err-lines-clause-ready
returns-in-Err-lines-clause-ready g c =
    let store = g.F.Port.Port.store c.select-lines.new.port in
    subst (λ s. IsReady s c.unpin.new.core) c.select-lines.ensures.same_store
    (over_pin g.F.Right.ReadRight.file store c.args.core.now c.pin.new.core c.unpin.new.core c.in-Ok.pin
    (c.in-Ok.ensures.taken.turn.lends store) c.unpin.ensures.ends.back nothing_out
    (subst (λ s. IsReady s c.args.core.now) (sym c.select-lines.ensures.same_store) c.requires.ready))

pub returns-in-Err-clause-ready : goal.returns-in-Err-clause-ready
returns-in-Err-clause-ready g c = c.in-Err.ensures.not.keeps_all (g.F.Port.Port.store c.args.port.now) nothing_out
    c.requires.ready
