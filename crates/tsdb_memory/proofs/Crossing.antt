-- What is in memory behind its log may cross threads where the journal may.
use denote.RattleType.{RattleType}
use denote.Param.Send.{IsSend, sendable}
use Rattle.std.proofs.Crossing.{crosses}
use Rattle.std.proofs.MapsCrossing as maps
use Rattle.tsdb_marks.proofs.Crossing.{marks_send}
use Rattle.tsdb_memory.specs.contracts.logged_memory.LoggedMemory as logged
use Rattle.tsdb_memory.specs.contracts.store.MemoryStore as store
use Rattle.tsdb_memtable.proofs.Crossing.{pair_send, pair_sync}
use Rattle.tsdb_outside.specs.declared.disk.Disk as disk
use Rattle.tsdb_outside.specs.declared.faults.Counted as counted

store_send : IsSend store.the_row
store_send = search (sendable, crosses, maps.crosses, pair_send, pair_sync, marks_send) depth 40 fits 20000

-- as a field has it
pub logged_send : (J : RattleType) (means : disk.Ghosts J.Denot) (counts : counted.Ghosts J.Denot) → IsSend J
    → IsSend (logged.the_field J means counts).row
logged_send J means counts j = search (sendable, crosses, store_send) depth 40
