-- The kept files may cross threads where their tokens may.
use denote.RattleType.{RattleType}
use denote.Param.Send.{IsSend, sendable}
use Rattle.std.proofs.Crossing.{crosses}
use Rattle.std.proofs.MapsCrossing as maps
use Rattle.tsdb_fileset.specs.contracts.files.KeptFiles as kept
use Rattle.tsdb_outside.specs.declared.faults.Counted as counted
use Rattle.tsdb_outside.specs.declared.files.Files as files
use Rattle.tsdb_outside.specs.declared.files.Port as port
use Rattle.tsdb_outside.specs.declared.files.ReadRight as right
use Rattle.tsdb_outside.specs.declared.files.SealedFile as sealed

module _ (F S R P : RattleType) (f : IsSend F) (s : IsSend S) (r : IsSend R) (p : IsSend P)
    (fg : files.Ghosts F.Denot S.Denot R.Denot P.Denot) (cf : counted.Ghosts F.Denot)
    (sg : sealed.Ghosts S.Denot) (rg : right.Ghosts R.Denot) (pg : port.Ghosts P.Denot S.Denot R.Denot)
    (cp : counted.Ghosts P.Denot) where
  pub files_send : IsSend (kept.the_row F S R P fg cf sg rg pg cp)
  files_send = search (sendable, crosses, maps.crosses) depth 40 fits 20000
