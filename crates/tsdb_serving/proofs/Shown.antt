-- A listing answers the command that asks for it.
use Rattle.std.proofs.Common.{Result, Ok, Err, inl, inr, refl}
use Rattle.std.specs.Prelude.{IfOk}
use Rattle.tsdb_base.specs.declared.answers.Answer.TheVariants.{Done}
use Rattle.tsdb_base.specs.declared.fault.Memory.{Memory}
use Rattle.tsdb_core.specs.Listings.{TellsStore}
use Rattle.tsdb_core.specs.declared.engine.Core.{Core}
use Rattle.tsdb_model.specs.History.{state_after}
use Rattle.tsdb_model.specs.declared.command.Command.TheVariants.{ShowFiles}
use Rattle.tsdb_model.specs.declared.reply.Listing.{Listing}
use Rattle.tsdb_model.specs.declared.reply.Reply.TheVariants.{Files, Plain}
use Rattle.tsdb_outside.specs.Disk.{IsLawful}
use Rattle.tsdb_outside.specs.declared.disk.Disk as disk
use Rattle.tsdb_outside.specs.declared.faults.Counted as counted
use Rattle.tsdb_serving.proofs.Parts.{unchanged, unchanged_left}
use Rattle.tsdb_serving.proofs.Possible.{possible}
use Rattle.tsdb_serving.specs.Serving.{ServesCommand, IsDrawn}

module _ {J F S R P : Type 0} {means : disk.Ghosts J} {counts : counted.Ghosts J}
    (laws : (journal : J) → IsLawful (means.state journal)) where
  pub shown : (core : Core J F S R P means counts) (result : Result Listing Memory) → IfOk result (TellsStore core)
      → IfOk result (λ listing. ServesCommand core core ShowFiles (Files listing))
  shown core (Ok listing) tells = λ loans files at next serving. record {
    allowed = (
      refl,
      possible serving.outside.told serving.outside.known serving.seen.sound.stored.named serving.state
          serving.seen.sound.stored.order at serving.stands.world serving.stands.stamp listing
          (tells serving.outside serving.state serving.seen),
    );
    served = unchanged laws (IsDrawn core core) loans core core files at next (state_after at ShowFiles (Plain Done)) refl
        (λ outside engine seen. seen) serving;
    settled = λ change is. absurd cc;
    doubtful = inr (inl (unchanged_left laws (IsDrawn core core) loans core core files at next
        (state_after at ShowFiles (Plain Done)) refl (λ outside engine seen. seen) serving));
    unwritten = λ change. absurd cc;
  }
  shown core (Err fault) tells = tt
