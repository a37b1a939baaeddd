use Rattle.tsdb_flush.proofs.part.PartBuilder.begin.Goals as goal

pub returns : goal.returns
returns c = record {
  ok = λ part is before. record {
    given = c.in_ok-begin.ensures.ok part is.given;
    in_range = tt;
    before = before;
    sound = is.sound;
    counted = is.points;
    hulls = is.hulls;
    paths = is.paths;
  };
}
