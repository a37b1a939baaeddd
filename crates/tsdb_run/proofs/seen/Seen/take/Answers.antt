use Rattle.std.proofs.lemmas.Bool.{false≢true}
use Rattle.tsdb_run.proofs.SeenLemmas.{adds_directory, adds_none, adds_pair, adds_workers}
use Rattle.tsdb_run.specs.Words.{Pair, Workers}
use Rattle.tsdb_run.proofs.seen.Seen.take.Goals as goal

pub returns-in-End : goal.returns-in-End
returns-in-End c = rw c.in-End.is c.end.ensures

pub returns-in-Directory : goal.returns-in-Directory
returns-in-Directory c =
    let s = c.args.self.now in
    rw c.in-Directory.is
    (adds_directory s.directory c.keep.new.kept s.pair_points s.workers s.ended c.keep.result c.in-Directory.word c.keep.ensures)

pub returns-then-not-self : goal.returns-then-not-self
returns-then-not-self c =
    let s = c.args.self.now in
    let keep = c.keep-then-not-self in
    rw c.in-Pair.is
    (adds_pair s.directory s.pair_points keep.new.kept s.workers s.ended keep.result c.in-Pair.number c.if-not-self.true keep.ensures)

pub returns-else-not-self : goal.returns-else-not-self
returns-else-not-self c = rw c.in-Pair.is (adds_none c.args.self.now (Pair c.in-Pair.number) c.if-not-self.false false≢true)

pub returns-then-not-self-2 : goal.returns-then-not-self-2
returns-then-not-self-2 c =
    let s = c.args.self.now in
    let keep = c.keep-then-not-self-2 in
    rw c.in-Workers.is
    (adds_workers s.directory s.pair_points s.workers keep.new.kept s.ended keep.result c.in-Workers.number c.if-not-self-2.true keep.ensures)

pub returns-else-not-self-2 : goal.returns-else-not-self-2
returns-else-not-self-2 c = rw c.in-Workers.is (adds_none c.args.self.now (Workers c.in-Workers.number) c.if-not-self-2.false false≢true)
