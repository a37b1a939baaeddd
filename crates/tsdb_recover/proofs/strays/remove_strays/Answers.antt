use Rattle.std.proofs.Common.{◌∙◌, Ok, [], refl, sym, take}
use Rattle.tsdb_recover.specs.Adopting.{adopting_files}
use Rattle.tsdb_outside.specs.Files.{plain_numbers}
use Rattle.tsdb_recover.proofs.Causes.{cause_then, none_yet}
use Rattle.tsdb_recover.proofs.Gone.{less_in, next_gone, none_in, then_in}
use Rattle.tsdb_recover.proofs.strays.remove_strays.Goals as goal

pub loop-number-init : goal.loop-number-init
loop-number-init g c = record {
  gone = none_in (adopting_files c.args.adopting.now) (g.F.Files.at_rest c.args.files.now)
      (g.F.Files.at_rest c.args.files.now)
      refl;
  same_store = refl;
  same_port = refl;
  no_fault = refl;
  cause = none_yet (g.F.Counted.faults c.args.files.now) (g.F.Port.Counted.faults c.args.port.now);
}

pub remove_if_stray-requires-clause-port : goal.remove_if_stray-requires-clause-port
remove_if_stray-requires-clause-port g c κs within =
    c.loop-number.invariant.same_port ∙ c.requires.port ∙ sym c.loop-number.invariant.same_store

pub loop-number-preserved : goal.loop-number-preserved
loop-number-preserved g c = record {
  gone = next_gone c.args.numbers.now c.loop-number.number-index (record { 0 = 0 }) (adopting_files c.args.adopting.now)
      (g.F.Files.at_rest c.args.files.now) (g.F.Files.at_rest c.loop-number.files)
      (g.F.Files.at_rest c.remove_if_stray.new.files) c.loop-number-test.true c.loop-number.invariant.gone
      c.in-Ok.ensures.gone;
  same_store = c.remove_if_stray.ensures.same_store ∙ c.loop-number.invariant.same_store;
  same_port = c.remove_if_stray.ensures.same_port ∙ c.loop-number.invariant.same_port;
  no_fault = c.in-Ok.ensures.no_fault ∙ c.loop-number.invariant.no_fault;
  cause = cause_then (g.F.Counted.faults c.args.files.now) (g.F.Counted.faults c.loop-number.files)
      (g.F.Counted.faults c.remove_if_stray.new.files) (g.F.Port.Counted.faults c.args.port.now)
      (g.F.Port.Counted.faults c.loop-number.port) (g.F.Port.Counted.faults c.remove_if_stray.new.port) (Ok tt)
      c.loop-number.invariant.cause.later c.loop-number.invariant.cause.port_later c.in-Ok.ensures.cause;
}

pub returns-in-Err-clause-others : goal.returns-in-Err-clause-others
returns-in-Err-clause-others g c =
    let files = adopting_files c.args.adopting.now in
    let a = g.F.Files.at_rest c.args.files.now in
    let b = g.F.Files.at_rest c.loop-number.files in
    then_in [] [] files a b (g.F.Files.at_rest c.remove_if_stray.new.files)
    (less_in (plain_numbers
    (take c.loop-number.number-index c.args.numbers.now)) files a b c.loop-number.invariant.gone)
    c.in-Err.ensures.others

pub returns-in-Err-clause-same_store : goal.returns-in-Err-clause-same_store
returns-in-Err-clause-same_store g c = c.remove_if_stray.ensures.same_store ∙ c.loop-number.invariant.same_store

pub returns-in-Err-clause-same_port : goal.returns-in-Err-clause-same_port
returns-in-Err-clause-same_port g c = c.remove_if_stray.ensures.same_port ∙ c.loop-number.invariant.same_port

pub returns-in-Err-clause-cause : goal.returns-in-Err-clause-cause
returns-in-Err-clause-cause g c =
    cause_then (g.F.Counted.faults c.args.files.now) (g.F.Counted.faults c.loop-number.files)
    (g.F.Counted.faults c.remove_if_stray.new.files) (g.F.Port.Counted.faults c.args.port.now)
    (g.F.Port.Counted.faults c.loop-number.port) (g.F.Port.Counted.faults c.remove_if_stray.new.port) _
    c.loop-number.invariant.cause.later c.loop-number.invariant.cause.port_later c.in-Err.ensures.cause
