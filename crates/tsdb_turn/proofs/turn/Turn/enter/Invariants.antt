use Rattle.tsdb_turn.specs.Steps.{Learns}
use Rattle.tsdb_turn.proofs.turn.Turn.enter.Given as goal

-- the turn of which the seat learns
abbrev pub ghosts-wait : goal.ghosts-wait
ghosts-wait g a = record { learns = Learns g.V.Logged a.self.now }
