use Rattle.std.proofs.Common.{◌∙◌, Ok, refl, subst, sym}
use Rattle.tsdb_recover.specs.Adopting.{adopting_files, wanted_file}
use Rattle.tsdb_state.specs.StoredEngine.{kept_bytes}
use Rattle.tsdb_recover.proofs.Causes.{cause_then, none_yet}
use Rattle.tsdb_recover.proofs.Steps.{fewer_left, goes_nowhere, goes_then, takes_then}
use Rattle.tsdb_recover.proofs.Trees.{damaged_next, said_next, said_none}
use Rattle.tsdb_recover.specs.Damage.{IsFileDamaged}
use Rattle.tsdb_recover.proofs.taking.adopt_all.Goals as goal

pub next-init : goal.next-init
next-init g c = record {
  goes_on = goes_nowhere c.args.adopting.now;
  taking = λ stored recorded is up. up;
  same_store = refl;
  same_port = refl;
  cause = none_yet (g.F.Counted.faults c.args.files.now) (g.F.Port.Counted.faults c.args.port.now);
}

pub next-smaller : goal.next-smaller
next-smaller g c =
    fewer_left c.args.adopting.now c.next.adopting c.adopt_next.new.adopting c.requires.some.0 c.requires.some.1
    c.next.invariant.goes_on c.adopt_next.ensures.goes_on
    c.in-Ok.ensures.one_more

pub next-preserved : goal.next-preserved
next-preserved g c = record {
  goes_on = goes_then c.args.adopting.now c.next.adopting c.adopt_next.new.adopting c.next.invariant.goes_on
      c.adopt_next.ensures.goes_on;
  taking = takes_then c.args.adopting.now c.next.adopting c.adopt_next.new.adopting
      (g.F.Files.at_rest c.args.files.now) (g.F.Files.at_rest c.next.files) (g.F.Files.at_rest c.adopt_next.new.files)
      c.next.invariant.goes_on c.next.invariant.taking c.adopt_next.ensures.taking;
  same_store = c.adopt_next.ensures.same_store ∙ c.next.invariant.same_store;
  same_port = c.adopt_next.ensures.same_port ∙ c.next.invariant.same_port;
  cause = cause_then (g.F.Counted.faults c.args.files.now) (g.F.Counted.faults c.next.files)
      (g.F.Counted.faults c.adopt_next.new.files) (g.F.Port.Counted.faults c.args.port.now)
      (g.F.Port.Counted.faults c.next.port) (g.F.Port.Counted.faults c.adopt_next.new.port) (Ok tt)
      c.next.invariant.cause.later c.next.invariant.cause.port_later c.in-Ok.ensures.cause;
}

pub adopt_next-requires-clause-some : goal.adopt_next-requires-clause-some
adopt_next-requires-clause-some g c κs within =
    (c.requires.some.0, c.next.invariant.goes_on.adopting c.requires.some.0 c.requires.some.1)

pub adopt_next-requires-clause-port : goal.adopt_next-requires-clause-port
adopt_next-requires-clause-port g c κs within =
    c.next.invariant.same_port ∙ c.requires.port ∙ sym c.next.invariant.same_store

pub adopt_next-requires-clause-store : goal.adopt_next-requires-clause-store
adopt_next-requires-clause-store g c κs within =
    c.next.invariant.same_store ∙ c.requires.store ∙ sym c.next.invariant.goes_on.store

pub adopt_next-requires-clause-wanted : goal.adopt_next-requires-clause-wanted
adopt_next-requires-clause-wanted g c κs within = λ recorded is.
    said_next c.in-Some.number.0 (wanted_file (adopting_files c.next.adopting) recorded.store)
    (c.in-Some.ensures.first recorded is.opening)

pub returns-in-Err-clause-goes_on : goal.returns-in-Err-clause-goes_on
returns-in-Err-clause-goes_on g c =
    goes_then c.args.adopting.now c.next.adopting c.adopt_next.new.adopting c.next.invariant.goes_on
    c.adopt_next.ensures.goes_on

pub returns-in-Err-clause-taking : goal.returns-in-Err-clause-taking
returns-in-Err-clause-taking g c =
    takes_then c.args.adopting.now c.next.adopting c.adopt_next.new.adopting
    (g.F.Files.at_rest c.args.files.now) (g.F.Files.at_rest c.next.files) (g.F.Files.at_rest c.adopt_next.new.files)
    c.next.invariant.goes_on c.next.invariant.taking c.adopt_next.ensures.taking

pub returns-in-Err-clause-damaged : goal.returns-in-Err-clause-damaged
returns-in-Err-clause-damaged g c = λ part at is stored recorded adopting up.
    let files = adopting_files c.next.adopting in
    let here = c.next.invariant.goes_on.adopting recorded adopting in
    let reached = c.next.invariant.taking stored recorded adopting up in
    let found = c.in-Err.ensures.damaged part at is in
    subst (λ p. IsFileDamaged (kept_bytes stored) recorded.store p at) (sym found.0)
    (damaged_next stored recorded.store files c.in-Some.number.0 at here.first
    (said_next c.in-Some.number.0 (wanted_file files recorded.store) (c.in-Some.ensures.first recorded here.opening))
    reached.taken.whole (found.1 stored reached.others (c.in-Some.ensures.free recorded here)))

pub returns-in-Err-clause-same_store : goal.returns-in-Err-clause-same_store
returns-in-Err-clause-same_store g c = c.adopt_next.ensures.same_store ∙ c.next.invariant.same_store

pub returns-in-Err-clause-same_port : goal.returns-in-Err-clause-same_port
returns-in-Err-clause-same_port g c = c.adopt_next.ensures.same_port ∙ c.next.invariant.same_port

pub returns-in-Err-clause-cause : goal.returns-in-Err-clause-cause
returns-in-Err-clause-cause g c =
    cause_then (g.F.Counted.faults c.args.files.now) (g.F.Counted.faults c.next.files)
    (g.F.Counted.faults c.adopt_next.new.files) (g.F.Port.Counted.faults c.args.port.now)
    (g.F.Port.Counted.faults c.next.port) (g.F.Port.Counted.faults c.adopt_next.new.port) _
    c.next.invariant.cause.later c.next.invariant.cause.port_later c.in-Err.ensures.cause

pub returns-clause-goes_on : goal.returns-clause-goes_on
returns-clause-goes_on g c = c.next.invariant.goes_on

pub returns-clause-all : goal.returns-clause-all
returns-clause-all g c =
    let here = c.next.invariant.goes_on.adopting c.requires.some.0 c.requires.some.1 in
    record {
      recorded = c.requires.some.0;
      is = here;
      all = said_none (wanted_file (adopting_files c.next.adopting) c.requires.some.0.store)
          (c.in_default.ensures.first c.requires.some.0 here.opening);
    }

pub returns-clause-taking : goal.returns-clause-taking
returns-clause-taking g c = c.next.invariant.taking
