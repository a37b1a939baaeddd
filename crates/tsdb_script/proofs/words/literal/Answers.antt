use Rattle.std.proofs.Common.{rules}
use Rattle.tsdb_script.proofs.words.literal.Goals as goal

pub returns-in_err-content-in-Text-clause-found : goal.returns-in_err-content-in-Text-clause-found
returns-in_err-content-in-Text-clause-found c = search rules

pub returns-in_err-content-in-Text-clause-bad : goal.returns-in_err-content-in-Text-clause-bad
returns-in_err-content-in-Text-clause-bad c = search rules

pub returns-in_err-number-in-Word-3-clause-found : goal.returns-in_err-number-in-Word-3-clause-found
returns-in_err-number-in-Word-3-clause-found c = search rules

pub returns-in_err-number-in-Word-3-clause-bad : goal.returns-in_err-number-in-Word-3-clause-bad
returns-in_err-number-in-Word-3-clause-bad c = search rules

pub returns-in_ok-content-in-Text-clause-found : goal.returns-in_ok-content-in-Text-clause-found
returns-in_ok-content-in-Text-clause-found c = search rules

pub returns-in_ok-content-in-Text-clause-bad : goal.returns-in_ok-content-in-Text-clause-bad
returns-in_ok-content-in-Text-clause-bad c = search rules

pub returns-in-Word-clause-found : goal.returns-in-Word-clause-found
returns-in-Word-clause-found c = search rules

pub returns-in-Word-clause-bad : goal.returns-in-Word-clause-bad
returns-in-Word-clause-bad c = search rules

pub returns-in-Word-2-clause-found : goal.returns-in-Word-2-clause-found
returns-in-Word-2-clause-found c = search rules

pub returns-in-Word-2-clause-bad : goal.returns-in-Word-2-clause-bad
returns-in-Word-2-clause-bad c = search rules

pub returns-in_ok-number-in-Word-3-clause-found : goal.returns-in_ok-number-in-Word-3-clause-found
returns-in_ok-number-in-Word-3-clause-found c = search rules

pub returns-in_ok-number-in-Word-3-clause-bad : goal.returns-in_ok-number-in-Word-3-clause-bad
returns-in_ok-number-in-Word-3-clause-bad c = search rules
