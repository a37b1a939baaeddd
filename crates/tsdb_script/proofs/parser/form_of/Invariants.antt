use Rattle.std.proofs.Common.{◌≡◌, length}
use Rattle.tsdb_script.specs.declared.form.TheConstants.{FORMS}
use Rattle.tsdb_script.specs.Parse.{form_at}
use Rattle.tsdb_script.proofs.parser.form_of.Given as goal

abbrev pub invariant-loop-form : goal.invariant-loop-form
invariant-loop-form l = form_at l.forms l.tokens.items ≡ form_at FORMS.now l.tokens.items

abbrev pub decreases-loop-form : goal.decreases-loop-form
decreases-loop-form l = length l.forms
