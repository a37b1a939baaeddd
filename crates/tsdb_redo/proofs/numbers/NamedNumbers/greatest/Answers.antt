use Rattle.std.proofs.Common.{arith, max, subst, sym}
use Rattle.tsdb_redo.specs.NamedNumbers.{IsGreatest, Named}
use Rattle.tsdb_redo.proofs.Greatest.{newest_end, with_newest, without_newest}
use Rattle.tsdb_redo.proofs.numbers.NamedNumbers.greatest.Goals as goal

pub returns-in-Some : goal.returns-in-Some
returns-in-Some c =
    let named : Named = record { runs = c.self.inside.runs.entries; newest = c.self.inside.newest } in
    record {
      number = subst (λ n. IsGreatest c.args.self.now n) (sym c.max.ensures)
          (subst (λ named. IsGreatest named (max c.last_of-last.result c.in-Some.newest)) c.self.view_is
          (with_newest named c.in-Some.newest c.last_of-last.result c.in-Some.is c.last_of-last.ensures.number));
      end = omega (
        arith,
        c.max.ensures,
        c.last_of-last.ensures.end,
        newest_end named c.in-Some.newest c.in-Some.is c.self.invariant,
      );
    }

pub returns-in-None : goal.returns-in-None
returns-in-None c = record {
  number = subst (λ named. IsGreatest named c.last_of-last.result) c.self.view_is
      (without_newest (record { runs = c.self.inside.runs.entries; newest = c.self.inside.newest })
      c.last_of-last.result c.in-None.is c.last_of-last.ensures.number);
  end = c.last_of-last.ensures.end;
}
