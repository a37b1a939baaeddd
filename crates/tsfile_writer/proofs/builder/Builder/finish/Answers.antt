use Rattle.std.proofs.lemmas.Grind.{common_steps}
use Rattle.std.proofs.Common.{[], ◌∷◌, ◌++◌, subst, arith}
use Rattle.tsdb_path.specs.Nodes.{device_of, measurement_of}
use Rattle.tsfile_writer.specs.Building.{IsGiven}
use Rattle.tsfile_writer.proofs.Closing.{file_whole}
use Rattle.tsfile_writer.proofs.builder.Builder.finish.Goals as goal

pub returns-clause-file : goal.returns-clause-file
returns-clause-file c = λ given was.
    let self = c.args.self in
    let path = c.in-Some.last.path in
    let closed = c.in_ok-close.ensures.ok given (subst (IsGiven given self.bytes.items self.entries.items) c.in-Some.is was) in
    let made = c.in_ok-bytes.ensures in
    let whole = file_whole given (device_of path) (measurement_of path) c.close.new.into.items c.in_ok-bytes.bytes.items made.0 made.1 c.close.new.entries.items closed made.2 made.3 in
    (whole.0, whole.1, whole.2.0, whole.3)

pub returns-clause-version : goal.returns-clause-version
returns-clause-version c =
    let self = c.args.self in
    let path = c.in-Some.last.path in
    let given = c.requires.0 ++ c.requires.1 ∷ [] in
    let closed = c.in_ok-close.ensures.ok given (subst (IsGiven given self.bytes.items self.entries.items) c.in-Some.is c.requires.2) in
    let made = c.in_ok-bytes.ensures in
    let whole = file_whole given (device_of path) (measurement_of path) c.close.new.into.items c.in_ok-bytes.bytes.items made.0 made.1 c.close.new.entries.items closed made.2 made.3 in
    whole.2.1

pub unreachable-requires : goal.unreachable-requires
unreachable-requires c = grind (arith, common_steps)

pub append_end-requires : goal.append_end-requires
append_end-requires c = grind (arith, common_steps)
