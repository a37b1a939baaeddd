use Rattle.std.proofs.Common.{◌≡◌, Some, subst, sym}
use Rattle.tsdb_outside.specs.Files.{StoredFile}
use Rattle.tsdb_recover.specs.Core.{next_of}
use Rattle.tsdb_state.proofs.ImageLemmas.Kept.{each_passed}
use Rattle.tsdb_state.specs.Stores.{BytesByNumber, HoldsKept}
use Rattle.tsdb_state.specs.NewStore.{opened}
use Rattle.tsdb_run.proofs.laws.a_recovered_core_serves.Goals as goal

-- this is held of a file
abbrev Held : BytesByNumber → StoredFile → Type 0
Held files file = files file.number ≡ Some file.bytes

pub returns : goal.returns
returns g c = λ bytes stored at recovered. record {
  outside = recovered.outside;
  state = opened (next_of c.args._core.now) recovered.recorded.store;
  seen = recovered.seen;
  lent = record { flushes = tt; compactions = tt; pins = tt };
  stands = recovered.stands;
  doubt = tt;
  -- whoever holds all of them holds those that are listed
  held = λ files holds. subst (λ kept. HoldsKept kept files) (sym recovered.kept)
      (each_passed (Held files) (Held files) _ stored (λ file has listed. has) holds);
}
