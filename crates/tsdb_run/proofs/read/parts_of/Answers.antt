use Rattle.std.proofs.Common.{◌≡◌, ◌<◌, length, rules}
use Rattle.tsdb_run.specs.WordSteps.{nothing, argument_of}
use Rattle.tsdb_run.proofs.ReadLemmas.{at_end, kept, none_follows, refused}
use Rattle.tsdb_run.proofs.read.parts_of.Goals as goal

pub returns-in_err-part-clause-none : goal.returns-in_err-part-clause-none
returns-in_err-part-clause-none c =
    let some : 0 < length c.loop-rest.rest.now = search rules in
    rw c.from_residual.ensures
    (λ asked follows. none_follows c.loop-rest.seen c.loop-rest.rest.now asked some c.in_err-part.ensures.none ((c.loop-rest.invariant asked).0 follows))

pub returns-then-not-take-clause-none : goal.returns-then-not-take-clause-none
returns-then-not-take-clause-none c =
    refused nothing c.loop-rest.seen c.take.new.self (argument_of c.in_ok-part.part) c.take.result c.args.words.now c.loop-rest.rest.now c.in_ok-part.behind.now
    c.in_ok-part.ensures.found c.take.ensures c.if-not-take.true c.loop-rest.invariant

pub loop-rest-preserved : goal.loop-rest-preserved
loop-rest-preserved c =
    kept nothing c.loop-rest.seen c.take.new.self (argument_of c.in_ok-part.part) c.take.result c.args.words.now c.loop-rest.rest.now c.in_ok-part.behind.now
    c.in_ok-part.ensures.found c.take.ensures c.if-not-take.false c.loop-rest.invariant

pub returns-clause-found : goal.returns-clause-found
returns-clause-found c =
    let none : length c.loop-rest.rest.now ≡ 0 = search rules in
    λ asked. let same = c.loop-rest.invariant asked in let end = at_end c.loop-rest.seen c.loop-rest.rest.now none asked in
    (λ follows. end.0 (same.0 follows), λ completes. same.1 (end.1 completes))
