use Rattle.std.proofs.Common.{sym, ◌∙◌, arith, inl, inr}
use Rattle.std.proofs.lemmas.Bool.{lt-ltb}
use Rattle.tsdb_script.specs.Reading.{sessions_of}
use Rattle.tsdb_script.proofs.SessionLemmas.{contains_is, as_many, room, room_known}
use Rattle.tsdb_script.proofs.line.has_room.Goals as goal

pub returns-then-sessions-lt-MAX_SESSIONS : goal.returns-then-sessions-lt-MAX_SESSIONS
returns-then-sessions-lt-MAX_SESSIONS c =
    let script = c.args.script.now in (
      λ less. room c.args.sessions.now (sessions_of script) c.args.session c.requires (omega (arith, as_many script, c.if-script-lt-MAX_COMMANDS.true)) (inl c.if-sessions-lt-MAX_SESSIONS.true),
      λ has. lt-ltb _ _ c.if-sessions-lt-MAX_SESSIONS.true,
    )

pub returns-else-sessions-lt-MAX_SESSIONS : goal.returns-else-sessions-lt-MAX_SESSIONS
returns-else-sessions-lt-MAX_SESSIONS c =
    let script = c.args.script.now in
    let is = c.contains.ensures.value ∙ contains_is c.args.sessions.now c.args.session in (
      λ known. room c.args.sessions.now (sessions_of script) c.args.session c.requires (omega (arith, as_many script, c.if-script-lt-MAX_COMMANDS.true)) (inr (sym is ∙ known)),
      λ has. is ∙ room_known c.args.sessions.now (sessions_of script) c.args.session c.requires (omega (arith, c.if-sessions-lt-MAX_SESSIONS.false)) has,
    )
