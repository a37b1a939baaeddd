use Rattle.std.proofs.Common.{ap, refl, subst, sym}
use Rattle.tsdb_tasks.specs.Ending.{IsOutIn}
use Rattle.tsdb_core.proofs.Replacements.{abandoned_from}
use Rattle.tsdb_core.specs.Core.{files_of}
use Rattle.tsdb_core.proofs.engine.Core.abandon.Goals as goal

pub returns : goal.returns
returns g c = abandoned_from g.F.Right.ReadRight.file g.F.Sealed.SealedFile.file g.F.Sealed.SealedFile.rights c.args.job
    c.args.output c.args.self.now c.free_sequence.new.self
    (record c.free_sequence.new.self { files = c.give_up.new.files }) c.requires.out c.sound.ensures.kept
    c.free_sequence.ensures refl c.give_up.ensures

pub give_up-requires-clause-out : goal.give_up-requires-clause-out
give_up-requires-clause-out g c = λ lifetimes lives.
    subst (λ files. IsOutIn g.F.Right.ReadRight.file files c.args.job) (sym (ap files_of c.free_sequence.ensures))
    c.requires.out.kept.held

pub give_up-requires-clause-output : goal.give_up-requires-clause-output
give_up-requires-clause-output g c = λ lifetimes lives. c.requires.output
