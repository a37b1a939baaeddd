use Rattle.std.proofs.Common.{Ok, ap, subst, sym}
use Rattle.std.specs.Option.{option_map}
use Rattle.tsdb_memory.specs.LogState.{memory_of}
use Rattle.tsdb_rewriting.proofs.Ended.{abandon_ends, commit_ends, committed_as, given_up, made_in, made_numbered}
use Rattle.tsdb_rewriting.proofs.Outputs.{output_numbered, output_tells}
use Rattle.tsdb_rewriting.specs.Rewriting.{IsEndOf, IsOutputOfStore}
use Rattle.tsdb_serving.specs.TasksFiles.{file_built}
use Rattle.tsdb_rewriting.proofs.turns.commit_or_give_up.Goals as goal

pub list-requires-clause-output : goal.list-requires-clause-output
list-requires-clause-output g c = λ lifetimes lives. c.requires.whole c.if-whole.true

pub abandon-requires-clause-output : goal.abandon-requires-clause-output
abandon-requires-clause-output g c = λ lifetimes lives. made_numbered g.F.Right.ReadRight.file g.F.Sealed.SealedFile.file
    g.F.Sealed.SealedFile.rights c.args.job c.args.output c.requires.made

pub returns-then-whole-clause-answer : goal.returns-then-whole-clause-answer
returns-then-whole-clause-answer g c =
    let file = g.F.Sealed.SealedFile.file in
    subst (λ whole. IsEndOf whole c.args.job c.args.core.now c.list.new.core c.list.result) (sym c.if-whole.true)
    (committed_as g.F.Right.ReadRight.file c.args.core.now c.list.new.core c.args.job
    (option_map (file_built file) c.args.output) c.list.result c.list.ensures
    (output_numbered file g.F.Right.ReadRight.file g.F.Sealed.SealedFile.rights c.args.job c.args.output
    (c.requires.whole c.if-whole.true)))

pub returns-then-whole-clause-frozen : goal.returns-then-whole-clause-frozen
returns-then-whole-clause-frozen g c = c.list.ensures.frozen

pub returns-then-whole-clause-ends : goal.returns-then-whole-clause-ends
returns-then-whole-clause-ends g c = λ store of.
    let file = g.F.Sealed.SealedFile.file in
    commit_ends g.J.Disk.lawful g.F.Right.ReadRight.file store c.args.core.now c.list.new.core c.args.job c.requires.out
    c.sound.ensures.kept (option_map (file_built file) c.args.output) c.list.result c.list.ensures
    (λ told. output_tells file g.F.Sealed.SealedFile.tells store told c.args.output
    (subst (λ s. IsOutputOfStore file s c.args.output) (sym of) c.requires.in_store))

pub returns-then-whole-clause-same_store : goal.returns-then-whole-clause-same_store
returns-then-whole-clause-same_store g c = c.list.ensures.ends.store

pub returns-then-whole-clause-cause : goal.returns-then-whole-clause-cause
returns-then-whole-clause-cause g c = c.list.ensures.cause.failed

pub returns-clause-answer : goal.returns-clause-answer
returns-clause-answer g c = subst (λ whole. IsEndOf whole c.args.job c.args.core.now c.abandon.new.self (Ok tt))
    (sym c.if-whole.false)
    (given_up c.args.core.now c.abandon.new.self c.args.job
    (option_map (file_built g.F.Sealed.SealedFile.file) c.args.output) c.abandon.ensures)

pub returns-clause-frozen : goal.returns-clause-frozen
returns-clause-frozen g c = ap (λ logged. (memory_of logged).frozen) c.abandon.ensures.logged

pub returns-clause-ends : goal.returns-clause-ends
returns-clause-ends g c = λ store of.
    let file = g.F.Sealed.SealedFile.file in
    abandon_ends g.J.Disk.lawful g.F.Right.ReadRight.file store c.args.core.now c.abandon.new.self c.args.job
    c.requires.out c.sound.ensures.kept
    (option_map (file_built file) c.args.output)
    (λ told known compaction is tells. made_in g.F.Right.ReadRight.file file g.F.Sealed.SealedFile.rights c.args.job known
    compaction is tells c.args.output c.requires.made
    (output_tells file g.F.Sealed.SealedFile.tells store told c.args.output
    (subst (λ s. IsOutputOfStore file s c.args.output) (sym of) c.requires.in_store))) c.abandon.ensures

pub returns-clause-same_store : goal.returns-clause-same_store
returns-clause-same_store g c = c.abandon.ensures.ends.store
