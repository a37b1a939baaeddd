use Rattle.std.proofs.Common.{sym, ◌∙◌, true≢false, rules}
use Rattle.tsdb_script.specs.LineSteps.{script_line_at}
use Rattle.tsdb_script.proofs.LineLemmas.{within, bad_session, bad_room, bad_first_word, bad_form, bad_meaning}
use Rattle.tsdb_script.proofs.WordLists.{passed_on}
use Rattle.tsdb_script.proofs.line.read_command.Goals as goal

pub returns-in_err-session-clause-bad : goal.returns-in_err-session-clause-bad
returns-in_err-session-clause-bad c =
    let are = rw c.content.ensures at c.in_ok-read_tokens.ensures.tokens in
    passed_on _ _ _ _ c.from_residual-in_err-session.ensures.1 c.in_err-session.ensures.bad
    (bad_session (script_line_at c.args.line.now c.args.script.now c.args.end) (within _ c.requires.says c.requires.line_bytes c.requires.script_bytes) _ are)

pub returns-then-not-has_room-clause-bad : goal.returns-then-not-has_room-clause-bad
returns-then-not-has_room-clause-bad c =
    let are = rw c.content.ensures at c.in_ok-read_tokens.ensures.tokens in
    bad_room (script_line_at c.args.line.now c.args.script.now c.args.end) (within _ c.requires.says c.requires.line_bytes c.requires.script_bytes) _ are _ _ c.in_ok-session.ensures.found
    (λ room. true≢false (sym (c.has_room.ensures.1 room) ∙ c.if-not-has_room.true))

pub returns-then-not-begins_statement-clause-bad : goal.returns-then-not-begins_statement-clause-bad
returns-then-not-begins_statement-clause-bad c =
    let are = rw c.content.ensures at c.in_ok-read_tokens.ensures.tokens in
    bad_first_word (script_line_at c.args.line.now c.args.script.now c.args.end) (within _ c.requires.says c.requires.line_bytes c.requires.script_bytes) _ are _ _ c.in_ok-session.ensures.found
    (c.has_room.ensures.0 c.if-not-has_room.false) (λ begin. true≢false (sym (c.begins_statement.ensures.1 begin) ∙ c.if-not-begins_statement.true))

pub returns-in_err-syntax-clause-bad : goal.returns-in_err-syntax-clause-bad
returns-in_err-syntax-clause-bad c =
    let are = rw c.content.ensures at c.in_ok-read_tokens.ensures.tokens in
    passed_on _ _ _ _ c.from_residual-in_err-syntax.ensures.1 c.in_err-syntax.ensures.bad
    (bad_form (script_line_at c.args.line.now c.args.script.now c.args.end) (within _ c.requires.says c.requires.line_bytes c.requires.script_bytes) _ are _ _ c.in_ok-session.ensures.found
    (c.has_room.ensures.0 c.if-not-has_room.false) (c.begins_statement.ensures.0 c.if-not-begins_statement.false))

pub returns-in_err-command-clause-bad : goal.returns-in_err-command-clause-bad
returns-in_err-command-clause-bad c =
    let are = rw c.content.ensures at c.in_ok-read_tokens.ensures.tokens in
    passed_on _ _ _ _ c.from_residual-in_err-command.ensures.1 c.in_err-command.ensures.bad
    (bad_meaning (script_line_at c.args.line.now c.args.script.now c.args.end) (within _ c.requires.says c.requires.line_bytes c.requires.script_bytes) _ are _ _ c.in_ok-session.ensures.found
    (c.has_room.ensures.0 c.if-not-has_room.false) (c.begins_statement.ensures.0 c.if-not-begins_statement.false) _ c.in_ok-syntax.ensures.found)

pub returns-in_err-read_tokens-clause-command : goal.returns-in_err-read_tokens-clause-command
returns-in_err-read_tokens-clause-command c = search rules

pub returns-in_err-read_tokens-clause-bad : goal.returns-in_err-read_tokens-clause-bad
returns-in_err-read_tokens-clause-bad c = search rules

pub returns-in_err-session-clause-command : goal.returns-in_err-session-clause-command
returns-in_err-session-clause-command c = search rules

pub has_room-requires : goal.has_room-requires
has_room-requires c = search rules

pub returns-then-not-has_room-clause-command : goal.returns-then-not-has_room-clause-command
returns-then-not-has_room-clause-command c = search rules

pub returns-then-not-begins_statement-clause-command : goal.returns-then-not-begins_statement-clause-command
returns-then-not-begins_statement-clause-command c = search rules

pub returns-in_err-syntax-clause-command : goal.returns-in_err-syntax-clause-command
returns-in_err-syntax-clause-command c = search rules

pub command_of-requires-clause-parts : goal.command_of-requires-clause-parts
command_of-requires-clause-parts c = search rules

pub returns-in_err-command-clause-command : goal.returns-in_err-command-clause-command
returns-in_err-command-clause-command c = search rules

pub returns-clause-command : goal.returns-clause-command
returns-clause-command c = search rules

pub returns-clause-bad : goal.returns-clause-bad
returns-clause-bad c = search rules
