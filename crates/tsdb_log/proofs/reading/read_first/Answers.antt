use Rattle.std.proofs.Common.{rules}
use Rattle.std.proofs.Common.{◌≡◌, ap, arith, length}
use Rattle.tsdb_log.proofs.Exits.{no_kind}
use Rattle.tsdb_log.proofs.reading.read_first.Goals as goal

pub returns-in_default-kind : goal.returns-in_default-kind
returns-in_default-kind c = record {
  exact = no_kind c.args.payload.now (λ n more e low high.
      let begins = c.in-Some.ensures.cases.0 in
      let same : n ≡ c.in-Some.kind.now = cc in
      absurd (omega arith));
}

pub returns-in_default : goal.returns-in_default
returns-in_default c = record {
  exact = no_kind c.args.payload.now (λ n more e low high. let none = c.in_default.ensures.cases in
      absurd (omega (arith, none, ap length e)));
}

pub returns-in-4 : goal.returns-in-4
returns-in-4 c = search rules
