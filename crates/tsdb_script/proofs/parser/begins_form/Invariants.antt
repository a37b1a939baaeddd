use Rattle.std.proofs.Common.{◌≡◌, length}
use Rattle.std.specs.List.{list_any}
use Rattle.tsdb_script.specs.declared.form.TheConstants.{FORMS}
use Rattle.tsdb_script.specs.Forms.{is_at, places}
use Rattle.tsdb_script.specs.Tokens.{starts}
use Rattle.tsdb_script.proofs.parser.begins_form.Given as goal

abbrev pub invariant-loop-form : goal.invariant-loop-form
invariant-loop-form l = list_any (λ form. starts (λ place. is_at place l.token) (places form)) l.forms ≡ list_any (λ form. starts (λ place. is_at place l.token) (places form)) FORMS.now

abbrev pub decreases-loop-form : goal.decreases-loop-form
decreases-loop-form l = length l.forms
