-- A core may cross threads where its journal and its files may.
use denote.RattleType.{RattleType}
use denote.Param.Send.{IsSend, sendable}
use denote.Param.SendFields.{as_row_send, declared_send}
use Rattle.std.proofs.Crossing.{crosses}
use Rattle.tsdb_core.specs.contracts.engine.Core as core
use Rattle.tsdb_fileset.proofs.Crossing.{files_send}
use Rattle.tsdb_fileset.specs.contracts.files.KeptFiles as kept
use Rattle.tsdb_memory.proofs.Crossing.{logged_send}
use Rattle.tsdb_memory.specs.contracts.logged_memory.LoggedMemory as logged
use Rattle.tsdb_outside.specs.declared.disk.Disk as disk
use Rattle.tsdb_outside.specs.declared.faults.Counted as counted
use Rattle.tsdb_outside.specs.declared.files.Files as files
use Rattle.tsdb_outside.specs.declared.files.Port as port
use Rattle.tsdb_outside.specs.declared.files.ReadRight as right
use Rattle.tsdb_outside.specs.declared.files.SealedFile as sealed

module _ (J F S R P : RattleType) (j : IsSend J) (f : IsSend F) (s : IsSend S) (r : IsSend R) (p : IsSend P)
    (means : disk.Ghosts J.Denot) (counts : counted.Ghosts J.Denot)
    (fg : files.Ghosts F.Denot S.Denot R.Denot P.Denot) (cf : counted.Ghosts F.Denot)
    (sg : sealed.Ghosts S.Denot) (rg : right.Ghosts R.Denot) (pg : port.Ghosts P.Denot S.Denot R.Denot)
    (cp : counted.Ghosts P.Denot) where
  -- field by field: a search over the whole core takes too many steps
  pub core_send : IsSend (core.the_row J F S R P means counts fg cf sg rg pg cp)
  core_send = declared_send (core.the_type J F S R P means counts fg cf sg rg pg cp) (
    search (sendable, crosses) depth 20,
    (
      as_row_send (logged.the_field J means counts) (logged_send J means counts j),
      (
        as_row_send (kept.the_field F S R P fg cf sg rg pg cp) (files_send F S R P f s r p fg cf sg rg pg cp),
        (search sendable, (search sendable, (search sendable, (search sendable, tt)))),
      ),
    ),
  )
