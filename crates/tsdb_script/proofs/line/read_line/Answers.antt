use Rattle.std.proofs.Common.{rules}
use Rattle.tsdb_script.proofs.line.read_line.Goals as goal

pub returns-then-end-gt-MAX_SCRIPT_BYTES-clause-command : goal.returns-then-end-gt-MAX_SCRIPT_BYTES-clause-command
returns-then-end-gt-MAX_SCRIPT_BYTES-clause-command c = search rules

pub returns-then-end-gt-MAX_SCRIPT_BYTES-clause-skipped : goal.returns-then-end-gt-MAX_SCRIPT_BYTES-clause-skipped
returns-then-end-gt-MAX_SCRIPT_BYTES-clause-skipped c = search rules

pub returns-then-end-gt-MAX_SCRIPT_BYTES-clause-bad : goal.returns-then-end-gt-MAX_SCRIPT_BYTES-clause-bad
returns-then-end-gt-MAX_SCRIPT_BYTES-clause-bad c = search rules

pub returns-then-is_skipped-clause-command : goal.returns-then-is_skipped-clause-command
returns-then-is_skipped-clause-command c = search rules

pub returns-then-is_skipped-clause-skipped : goal.returns-then-is_skipped-clause-skipped
returns-then-is_skipped-clause-skipped c = search rules

pub returns-then-is_skipped-clause-bad : goal.returns-then-is_skipped-clause-bad
returns-then-is_skipped-clause-bad c = search rules

pub returns-then-line-gt-MAX_LINE_BYTES-clause-command : goal.returns-then-line-gt-MAX_LINE_BYTES-clause-command
returns-then-line-gt-MAX_LINE_BYTES-clause-command c = search rules

pub returns-then-line-gt-MAX_LINE_BYTES-clause-skipped : goal.returns-then-line-gt-MAX_LINE_BYTES-clause-skipped
returns-then-line-gt-MAX_LINE_BYTES-clause-skipped c = search rules

pub returns-then-line-gt-MAX_LINE_BYTES-clause-bad : goal.returns-then-line-gt-MAX_LINE_BYTES-clause-bad
returns-then-line-gt-MAX_LINE_BYTES-clause-bad c = search rules

pub read_command-requires-clause-says : goal.read_command-requires-clause-says
read_command-requires-clause-says c = search rules

pub read_command-requires-clause-line_bytes : goal.read_command-requires-clause-line_bytes
read_command-requires-clause-line_bytes c = search rules

pub read_command-requires-clause-script_bytes : goal.read_command-requires-clause-script_bytes
read_command-requires-clause-script_bytes c = search rules

pub read_command-requires-clause-sessions : goal.read_command-requires-clause-sessions
read_command-requires-clause-sessions c = search rules

pub read_command-requires-clause-good : goal.read_command-requires-clause-good
read_command-requires-clause-good c = search rules

pub returns-in_err-numbered-clause-command : goal.returns-in_err-numbered-clause-command
returns-in_err-numbered-clause-command c = search rules

pub returns-in_err-numbered-clause-skipped : goal.returns-in_err-numbered-clause-skipped
returns-in_err-numbered-clause-skipped c = search rules

pub returns-in_err-numbered-clause-bad : goal.returns-in_err-numbered-clause-bad
returns-in_err-numbered-clause-bad c = search rules

pub returns-clause-command : goal.returns-clause-command
returns-clause-command c = search rules

pub returns-clause-skipped : goal.returns-clause-skipped
returns-clause-skipped c = search rules

pub returns-clause-bad : goal.returns-clause-bad
returns-clause-bad c = search rules
