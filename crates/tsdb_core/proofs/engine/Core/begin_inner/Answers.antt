use Rattle.std.proofs.Common.{◌≡◌}
use Rattle.tsdb_core.proofs.Beginnings.{inner_kind}
use Rattle.tsdb_core.proofs.BeginningsExits.{answer_of, begun_of, same_world}
use Rattle.tsdb_core.specs.Beginnings.{IsInnerRuns}
use Rattle.tsdb_core.proofs.engine.Core.begin_inner.Goals as goal

pub returns-in-Some-clause-answer : goal.returns-in-Some-clause-answer
returns-in-Some-clause-answer g c = answer_of (IsInnerRuns c.args.space c.args.self.now) c.in-Some.runs
    c.args.self.now.next_file c.begin.result c.in-Some.ensures.found c.begin.ensures.answer

pub returns-in-Some-clause-begun : goal.returns-in-Some-clause-begun
returns-in-Some-clause-begun g c = begun_of g.F.Right.ReadRight.file c.args.space
    (IsInnerRuns c.args.space c.args.self.now) c.in-Some.runs c.args.self.now c.begin.new.self c.begin.result
    c.in-Some.ensures.found c.begin.ensures.begun

pub returns-in-Some-clause-world : goal.returns-in-Some-clause-world
returns-in-Some-clause-world g c = same_world g.F.Right.ReadRight.file c.args.space (λ these. these ≡ c.in-Some.runs)
    c.args.self.now c.begin.new.self c.begin.result c.begin.ensures.begun

pub returns-in-Some-clause-kind : goal.returns-in-Some-clause-kind
returns-in-Some-clause-kind g c = inner_kind g.F.Right.ReadRight.file c.args.space c.args.self.now c.begin.new.self
    c.begin.result
    (begun_of g.F.Right.ReadRight.file c.args.space (IsInnerRuns c.args.space c.args.self.now) c.in-Some.runs
    c.args.self.now c.begin.new.self c.begin.result c.in-Some.ensures.found c.begin.ensures.begun)
