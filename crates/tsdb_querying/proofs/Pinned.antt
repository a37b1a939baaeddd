-- A pin that is taken is out, and one that is given back is out no longer.
use Rattle.std.proofs.Common.{◌≡◌, ℕ, List, map, arith, sym, subst, ap}
use Rattle.tsdb_base.specs.declared.point.Range.{Range}
use Rattle.tsdb_frames.proofs.CallLemmas.{same_keeps_to_slot}
use Rattle.tsdb_memory.proofs.LogLemmas.Changed.{room_itself}
use Rattle.tsdb_memory.specs.LogState.{log_of, memory_of}
use Rattle.tsdb_memory.specs.Rows.{ChangesRoom}
use Rattle.tsdb_memory.specs.StateOfMemory.{series_entry}
use Rattle.tsdb_memory.specs.declared.logged_memory.LoggedMemory.{LoggedMemory}
use Rattle.tsdb_model.specs.declared.command.Item.{Item}
use Rattle.tsdb_outside.specs.Disk.{IsLawful}
use Rattle.tsdb_outside.specs.Files.{NamedFile, Store}
use Rattle.tsdb_outside.specs.declared.disk.Disk as disk
use Rattle.tsdb_outside.specs.declared.faults.Counted as counted
use Rattle.tsdb_pin.specs.Items.{AreFit}
use Rattle.tsdb_pin.specs.Pins.{IsPinFor}
use Rattle.tsdb_pin.specs.StateOfPin.{IsPinOf}
use Rattle.tsdb_pin.specs.declared.pin.Pin.{Pin}
use Rattle.tsdb_pins.proofs.Held.{columns_of}
use Rattle.tsdb_pins.proofs.Named.{have_nodes}
use Rattle.tsdb_pins.specs.Reading.{HaveNodes}
use Rattle.tsdb_querying.proofs.Answered.{map_pin, tells_world}
use Rattle.tsdb_querying.specs.Pinning.{LendsPin}
use Rattle.tsdb_serving.proofs.Flushes.{kept_series, same_faults}
use Rattle.tsdb_serving.proofs.Jobs.{pin_back}
use Rattle.tsdb_serving.proofs.Lent.{HasPartner, pin_partner, without_pin}
use Rattle.tsdb_serving.proofs.Out.{no_pin, pin_joins}
use Rattle.tsdb_serving.proofs.Parts.{same_seen}
use Rattle.tsdb_serving.specs.Core.{files_of, logged_of, store_of}
use Rattle.tsdb_serving.specs.CoreType.{Core}
use Rattle.tsdb_serving.specs.Flushing.{EndsLoan, LendsOne, StaysIdle}
use Rattle.tsdb_serving.specs.Loans.{pins_in}
use Rattle.tsdb_serving.specs.Pins.{IsNotPinned, IsPinned, IsUnpinned}
use Rattle.tsdb_serving.specs.Places.{AreOfStore}
use Rattle.tsdb_serving.specs.Serving.{KeepsWithout, ServesWith, log_under}
use Rattle.tsdb_serving.specs.declared.loan.Loan.TheVariants as loan
use Rattle.tsdb_state.specs.Steps.{pinned, unpinned}

module _ {J F S R P : Type 0} {means : disk.Ghosts J} {counts : counted.Ghosts J} where
  -- where log and memory are as they were, no room has changed
  same_room : (old new : Core J F S R P means counts) → logged_of new ≡ logged_of old
      → ChangesRoom (memory_of (logged_of old)) (memory_of (logged_of new))
  same_room old new same = subst (λ (logged : LoggedMemory J means counts).
      ChangesRoom (memory_of (logged_of old)) (memory_of logged)) (sym same) (room_itself (memory_of (logged_of old)))

  -- no pin was taken
  pub stays_unpinned : ((journal : J) → IsLawful (means.state journal)) → (old new : Core J F S R P means counts)
      → IsNotPinned old new → StaysIdle old new
  stays_unpinned laws old new not = record {
    keeps_all = λ store. no_pin old new not store;
    log = ap (λ logged. log_of logged) not.rest.logged;
    memory = same_room old new not.rest.logged;
    next = not.rest.next;
    limit = not.rest.limit;
    keeps = λ loans files at next serving. same_seen laws loans old new files at next not.step serving;
  }

  module _ (name : R → NamedFile) (old new : Core J F S R P means counts) (pin : Pin F S R P)
      (took : IsPinned name old new pin) where
    serves_pin : ServesWith (loan.Pin pin) old new
    serves_pin loans files at next serving = let step = took.step serving.outside serving.state serving.seen in record {
      outside = serving.outside;
      state = pinned step.shown serving.state;
      seen = step.seen;
      lent = record {
        flushes = serving.lent.flushes;
        compactions = serving.lent.compactions;
        pins = (step.is, serving.lent.pins);
      };
      stands = serving.stands;
      doubt = serving.doubt;
      held = serving.held;
    }

    lends_one : LendsOne name (loan.Pin pin) 0 old new
    lends_one = record {
      lends = λ store. pin_joins name old new pin took store;
      log = ap (λ logged. log_of logged) took.rest.logged;
      memory = same_room old new took.rest.logged;
      next = let next = took.rest.next in omega (arith, next);
      limit = took.rest.limit;
      serves = serves_pin;
    }

    pub lends_pin : (device : List ℕ) (items : List Item) (range : Range) → AreOfStore (store_of new) (files_of new).places
        → AreFit (map series_entry (memory_of (logged_of old)).series) device items
        → IsPinFor name (files_of old) (memory_of (logged_of old)) device items range pin
        → LendsPin name device items range old new pin
    lends_pin device items range of fit is =
        let nodes : HaveNodes pin.columns = have_nodes name (files_of old) (memory_of (logged_of old)) device range items
        pin.columns is.columns in
        record {
          fit = fit;
          is = is;
          nodes = nodes;
          of_store = columns_of name (files_of new) (store_of old)
              (subst (λ store. AreOfStore store (files_of new).places) took.rest.store of) pin.columns took.held;
          turn = lends_one;
          tells = λ loans files at next serving. tells_world name old new pin took nodes loans files at next serving;
          replies = λ loans files at next serving.
              map_pin name old pin device items range fit is loans files at next serving;
        }

  module _ (old new : Core J F S R P means counts) (pin : Pin F S R P) (gave : IsUnpinned old new pin) where
    pub keeps_without : KeepsWithout (loan.Pin pin) old new
    keeps_without others loans files at next one serving =
        let found : HasPartner IsPinOf pin (pins_in others) serving.state.pins = pin_partner others loans
        serving.state.flushes serving.state.compactions serving.state.pins serving.lent pin one in
        record {
          outside = serving.outside;
          state = unpinned found.partner found.rest serving.state;
          seen = gave.step serving.outside serving.state found.partner found.rest serving.seen found.fits found.one;
          lent = without_pin others loans serving.state.flushes serving.state.compactions serving.state.pins
              serving.lent pin one;
          stands = serving.stands;
          doubt = serving.doubt;
          held = serving.held;
        }

    pub ends_pin : (name : R → NamedFile) (store : Store) → EndsLoan name store (loan.Pin pin) old new
    ends_pin name store = record {
      back = pin_back name store old new pin gave;
      slot = same_keeps_to_slot (log_under old) (log_under new) (ap (λ logged. log_of logged) gave.rest.logged);
      next = gave.rest.next;
      limit = gave.rest.limit;
      kept = kept_series old new gave.rest.logged;
      later = same_faults old new (ap (λ logged. log_of logged) gave.rest.logged);
    }
