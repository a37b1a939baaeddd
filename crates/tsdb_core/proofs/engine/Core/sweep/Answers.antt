use Rattle.std.proofs.Common.{[], ◌∷◌}
use Rattle.tsdb_core.proofs.Seen.{doubt_told, is_swept, none_told}
use Rattle.tsdb_core.proofs.Worlds.{swept_keeps}
use Rattle.tsdb_core.proofs.engine.Core.sweep.Goals as goal

pub returns-clause-swept : goal.returns-clause-swept
returns-clause-swept g c = is_swept c.args.self.now c.sweep.new.self
    (c.files_in_doubt-first.result.0 ∷ c.files_in_doubt-first.result.1 ∷ []) c.sweep.result
    (doubt_told c.args.self.now c.files_in_doubt-first.result.0 c.files_in_doubt-first.result.1 c.files_in_doubt-first.ensures.named)
    (none_told c.args.self.now c.files_in_doubt-first.result.0 c.files_in_doubt-first.result.1 c.files_in_doubt-first.ensures.none)
    c.sweep.ensures.count c.sweep.ensures.swept c.sweep.ensures.failed

pub returns-clause-world : goal.returns-clause-world
returns-clause-world g c = swept_keeps c.args.self.now (record c.args.self.now { files = c.sweep.new.self }) c.sweep.result
    (is_swept c.args.self.now c.sweep.new.self
    (c.files_in_doubt-first.result.0 ∷ c.files_in_doubt-first.result.1 ∷ []) c.sweep.result
    (doubt_told c.args.self.now c.files_in_doubt-first.result.0 c.files_in_doubt-first.result.1 c.files_in_doubt-first.ensures.named)
    (none_told c.args.self.now c.files_in_doubt-first.result.0 c.files_in_doubt-first.result.1 c.files_in_doubt-first.ensures.none)
    c.sweep.ensures.count c.sweep.ensures.swept c.sweep.ensures.failed)
