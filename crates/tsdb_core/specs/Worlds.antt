-- Which world a core stands for, and what its calls make of it.
use Rattle.tsdb_memory.specs.MapAnswers.{IsMapAnswer}
use Rattle.tsdb_base.specs.declared.answers.Answer.{Answer}
use Rattle.tsdb_core.specs.Core.{IsSeen}
use Rattle.tsdb_core.specs.declared.engine.Core.{Core}
use Rattle.tsdb_memory.specs.LogState.{Outside}
use Rattle.tsdb_model.specs.Apply.{after_reply}
use Rattle.tsdb_model.specs.World.{World}
use Rattle.tsdb_model.specs.declared.command.Command.{Command}
use Rattle.tsdb_model.specs.declared.reply.Reply.TheVariants.{Plain}
use Rattle.tsdb_outside.specs.declared.disk.Disk as disk
use Rattle.tsdb_outside.specs.declared.faults.Counted as counted
use Rattle.tsdb_state.specs.State.{EngineState}
use Rattle.tsdb_state.specs.Worlds.{StandsFor}

module _ {J F S R P : Type 0} {means : disk.Ghosts J} {counts : counted.Ghosts J} where
  -- The core stands for the world: a state that it shows does.
  pub record IsWorldOf (core : Core J F S R P means counts) (world : World) : Type 0 where
    pub outside : Outside
    pub state : EngineState
    pub seen : IsSeen core outside state
    pub stands : StandsFor outside.told state.store world

  -- The answer to a command is the plain map's, and the core stands for the map's world after it.
  pub record CoreFollowsMap (old new : Core J F S R P means counts) (command : Command) (answer : Answer) : Type 0 where
    pub answers : (world : World) → IsWorldOf old world → IsMapAnswer world command answer
    pub world : (world : World) → IsWorldOf old world → IsWorldOf new (after_reply world command (Plain answer))

  -- The core stands for the same worlds.
  abbrev pub CoreKeepsWorld : Core J F S R P means counts → Core J F S R P means counts → Type 0
  CoreKeepsWorld old new = (world : World) → IsWorldOf old world → IsWorldOf new world
