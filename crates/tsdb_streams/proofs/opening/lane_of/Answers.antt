use Rattle.std.proofs.Common.{◌∙◌, ap, refl}
use Rattle.tsdb_streams.proofs.FillLemmas.{left_from}
use Rattle.tsdb_streams.proofs.IndexedFacts.{finds}
use Rattle.tsdb_streams.proofs.OpenFacts.{found_entry, found_none, no_points, pages_true, part_true}
use Rattle.tsdb_streams.proofs.opening.lane_of.Goals as goal

pub returns-in-Some : goal.returns-in-Some
returns-in-Some g c = λ names found.
    let file = g.R.ReadRight.file in
    let name = file c.args.right.now in
    record {
      left = λ pages truth keep points e. ap (λ flags. left_from (pages name.number) flags (keep c.args.born.0) 0) c.new.ensures.items ∙ e;
      truth = λ pages truth. pages_true file pages _ (found_entry pages names name truth c.args.found c.in-Some.entry c.in-Some.is (finds name.bytes names c.args.found found));
      told = λ pages told. told;
      new = (refl, refl, c.new.ensures.items, refl);
    }

pub returns-in-None : goal.returns-in-None
returns-in-None g c = λ names found.
    let file = g.R.ReadRight.file in
    let name = file c.args.right.now in
    record {
      left = λ pages truth keep points e. no_points _ _ points (found_none pages names name truth c.args.found c.in-None.is (finds name.bytes names c.args.found found)) e;
      truth = λ pages truth. part_true file pages _;
      told = λ pages told. tt;
      new = (refl, refl);
    }
