use Rattle.tsdb_script.proofs.StatementLemmas.{statement_ok, statement_err, parts_ok}
use Rattle.tsdb_script.proofs.parser.statement.Goals as goal

pub returns-clause-found : goal.returns-clause-found
returns-clause-found c = statement_ok c.args.tokens.now.items c.read_by_form.result c.read_by_form.ensures

pub returns-clause-bad : goal.returns-clause-bad
returns-clause-bad c = statement_err c.args.tokens.now.items c.read_by_form.result c.read_by_form.ensures

pub returns-clause-parts : goal.returns-clause-parts
returns-clause-parts c = parts_ok c.args.tokens.now.items c.read_by_form.result (statement_ok c.args.tokens.now.items c.read_by_form.result c.read_by_form.ensures)
