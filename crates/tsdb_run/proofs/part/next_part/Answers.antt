use Rattle.std.proofs.Common.{rules}
use Rattle.tsdb_run.proofs.PartLemmas.{if_none, no_part}
use Rattle.tsdb_run.proofs.part.next_part.Goals as goal

pub returns-in-None-clause-none : goal.returns-in-None-clause-none
returns-in-None-clause-none c =
    if_none c.workers.result
    (λ none. no_part c.args.words.now c.in_ok-word.behind.now c.in_ok-word.word.now c.is_directory.result c.is_end.result (search rules)
    (search rules) c.if-is_directory.false (search rules) c.if-is_end.false c.in-None.ensures.none none)
    c.workers.ensures.none
