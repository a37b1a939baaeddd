use Rattle.tsdb_script.proofs.TokenLemmas.{same_tokens, same_kind, not_both}
use Rattle.tsdb_script.proofs.laws.one_reading.Goals as goal

pub returns-clause-tokens : goal.returns-clause-tokens
returns-clause-tokens c = same_tokens

pub returns-clause-kind : goal.returns-clause-kind
returns-clause-kind c = same_kind

pub returns-clause-either : goal.returns-clause-either
returns-clause-either c = not_both
