-- What a query answers: what a pin tells and replies, and that nothing is changed.
use Rattle.std.proofs.Common.{◌≡◌, ◌≢◌, ◌⊎◌, ℕ, List, [], ◌++◌, map, Option, Result, inl, inr, refl, sym, ap}
use Rattle.std.proofs.Common.{subst, ◌∙◌}
use Rattle.std.specs.List.{AllByRecursion as Each}
use Rattle.std.specs.Prelude.{IsErrOf}
use Rattle.tsdb_base.proofs.Lists.{among_left}
use Rattle.tsdb_base.specs.Causes.{Rose}
use Rattle.tsdb_base.specs.declared.answers.Answer.{Answer}
use Rattle.tsdb_base.specs.declared.answers.Answer.TheVariants as answer
use Rattle.tsdb_base.specs.declared.point.Range.{Range}
use Rattle.tsdb_frames.specs.Frames.{disk_of}
use Rattle.tsdb_frames.specs.declared.frames.Frames.{Frames}
use Rattle.tsdb_memory.specs.LogState.{log_of, memory_of}
use Rattle.tsdb_memory.specs.StateOfMemory.{series_entry}
use Rattle.tsdb_model.specs.Apply.{reply_of}
use Rattle.tsdb_model.specs.Folds.{rows}
use Rattle.tsdb_model.specs.History.{IsAllowed, IsChange, IsMapReply, state_after}
use Rattle.tsdb_model.specs.State as plain
use Rattle.tsdb_model.specs.declared.command.Command.{Command}
use Rattle.tsdb_model.specs.declared.command.Command.TheVariants.{Select}
use Rattle.tsdb_model.specs.declared.command.Item.{Item}
use Rattle.tsdb_model.specs.declared.reply.Reply.{Reply}
use Rattle.tsdb_model.specs.declared.reply.Reply.TheVariants.{Files, Lines, Plain, Values}
use Rattle.tsdb_outside.specs.Disk.{IsLawful}
use Rattle.tsdb_outside.specs.Files.{NamedFile, StoredFile}
use Rattle.tsdb_outside.specs.Moments.{LeavesOnly}
use Rattle.tsdb_outside.specs.declared.disk.Disk as disk
use Rattle.tsdb_outside.specs.declared.faults.Counted as counted
use Rattle.tsdb_outside.specs.declared.faults.StoreFault.{StoreFault}
use Rattle.tsdb_outside.specs.declared.faults.StoreFault.TheVariants as store
use Rattle.tsdb_pin.specs.Items.{AreFit, AreItemsRefused}
use Rattle.tsdb_pin.specs.Pins.{IsPinFor}
use Rattle.tsdb_pin.specs.declared.pin.Pin.{Pin}
use Rattle.tsdb_pin.specs.declared.pin.PinFault.{PinFault}
use Rattle.tsdb_pin.specs.declared.pin.PinFault.TheVariants as fault
use Rattle.tsdb_pins.proofs.Items.{pin_columns, pin_values}
use Rattle.tsdb_pins.proofs.Replies.{fault_replied, rows_replied, types_of, values_replied}
use Rattle.tsdb_pins.specs.Files.{HasReason}
use Rattle.tsdb_pins.specs.Reading.{HaveNodes, SeriesPages}
use Rattle.tsdb_pins.specs.Replies.{IsMapFault, IsMapPin}
use Rattle.tsdb_querying.proofs.Telling.{TellsColumns, pages_told, tells_columns}
use Rattle.tsdb_querying.specs.Answers.{answer_to, refusal_of}
use Rattle.tsdb_querying.specs.Pinning.{HasRead, IsReadReply, TellsWorld}
use Rattle.tsdb_serving.proofs.Held.{held_more, wider}
use Rattle.tsdb_serving.proofs.Parts.{more_files}
use Rattle.tsdb_serving.proofs.Steps.{idle, image_left}
use Rattle.tsdb_serving.specs.Core.{files_of, logged_of}
use Rattle.tsdb_serving.specs.CoreType.{Core}
use Rattle.tsdb_serving.specs.Pins.{IsPinStep, IsPinned}
use Rattle.tsdb_serving.specs.Serving.{IsAnsweredBy, IsDrawn, IsServing, KeepsState, LeavesEither, ServesCommand}
use Rattle.tsdb_serving.specs.Serving.{disk_under, slot_under}
use Rattle.tsdb_serving.specs.declared.loan.Loan.{Loan}
use Rattle.tsdb_state.specs.Order.{all_files as state_files_of}
use Rattle.tsdb_state.specs.StoredEngine.{IsKeptWhole}

-- the map's reply is allowed to a query
allowed_reply : (at : plain.State) (device : List ℕ) (items : List Item) (range : Range) (reply : Reply)
    → reply_of at.world (Select device items range) ≡ reply → IsMapReply at (Select device items range) reply
allowed_reply at device items range reply is = record {
  not_listing = λ same. absurd cc;
  same = sym is;
  rises = λ change done. absurd cc;
}

-- a reply that is read is allowed to a query, and changes nothing
read_allowed : (at : plain.State) (device : List ℕ) (items : List Item) (range : Range) (reply : Reply)
    → HasRead (reply_of at.world (Select device items range)) reply → IsReadReply reply
    → IsAllowed at (Select device items range) reply
read_allowed at device items range (Lines lines) (inl is) kind =
    allowed_reply at device items range (Lines lines) (sym is)
read_allowed at device items range (Lines lines) (inr (inl is)) kind = absurd cc
read_allowed at device items range (Lines lines) (inr (inr is)) kind = absurd cc
read_allowed at device items range (Values values) (inl is) kind =
    allowed_reply at device items range (Values values) (sym is)
read_allowed at device items range (Values values) (inr (inl is)) kind = absurd cc
read_allowed at device items range (Values values) (inr (inr is)) kind = absurd cc
read_allowed at device items range (Files listing) has kind = absurd kind
read_allowed at device items range (Plain answer.Done) has kind = absurd kind
read_allowed at device items range (Plain answer.NoPath) has kind = absurd kind
read_allowed at device items range (Plain answer.WrongType) has kind = absurd kind
read_allowed at device items range (Plain answer.Exists) has kind = absurd kind
read_allowed at device items range (Plain answer.Device) has kind = λ same. absurd cc
read_allowed at device items range (Plain answer.Memory) has kind = tt
read_allowed at device items range (Plain (answer.Full counter)) has kind = absurd kind

read_stays : (at : plain.State) (device : List ℕ) (items : List Item) (range : Range) (reply : Reply)
    → IsReadReply reply → state_after at (Select device items range) reply ≡ at
read_stays at device items range (Lines lines) kind = refl
read_stays at device items range (Values values) kind = refl
read_stays at device items range (Files listing) kind = absurd kind
read_stays at device items range (Plain answer.Done) kind = absurd kind
read_stays at device items range (Plain answer.NoPath) kind = absurd kind
read_stays at device items range (Plain answer.WrongType) kind = absurd kind
read_stays at device items range (Plain answer.Exists) kind = absurd kind
read_stays at device items range (Plain answer.Device) kind = refl
read_stays at device items range (Plain answer.Memory) kind = refl
read_stays at device items range (Plain (answer.Full counter)) kind = absurd kind

pub never_full : (reply : Reply) → IsReadReply reply → (counter : ℕ) → reply ≢ Plain (answer.Full counter)
never_full reply kind counter is = subst IsReadReply is kind

-- what a fault is answered
pub fault_kind : (why : StoreFault) (result : Answer) → result ≡ answer_to why → IsReadReply (Plain result)
fault_kind store.Failed result is = subst (λ (a : Answer). IsReadReply (Plain a)) (sym is) tt
fault_kind store.Memory result is = subst (λ (a : Answer). IsReadReply (Plain a)) (sym is) tt

pub fault_read : (why : StoreFault) (result : Answer) → result ≡ answer_to why
    → (Plain result ≡ Plain answer.Device) ⊎ (Plain result ≡ Plain answer.Memory)
fault_read store.Failed result is = inl (ap Plain is)
fault_read store.Memory result is = inr (ap Plain is)

pub is_failed : (why : StoreFault) → Plain (answer_to why) ≡ Plain answer.Device → why ≡ store.Failed
is_failed store.Failed same = refl
is_failed store.Memory same = absurd cc

-- a read that failed without a fault would have found a file that is not whole
pub has_risen : {Told : Type 0} {T : Type 0} (before now : ℕ) (result : Result T StoreFault)
    → HasReason Told before now result → Told → IsErrOf result store.Failed → Rose before now
has_risen before now result reason told failed = reason.failed failed told

-- a refusal is no fault, and not for want of numbers
pub refusal_no_device : (why : PinFault) (result : Answer) → result ≡ refusal_of why → result ≢ answer.Device
refusal_no_device fault.NoPath result is device = absurd cc
refusal_no_device fault.WrongType result is device = absurd cc
refusal_no_device fault.Memory result is device = absurd cc

pub refusal_no_full : (why : PinFault) (result : Answer) → result ≡ refusal_of why → (counter : ℕ)
    → result ≢ answer.Full counter
refusal_no_full fault.NoPath result is counter full = absurd cc
refusal_no_full fault.WrongType result is counter full = absurd cc
refusal_no_full fault.Memory result is counter full = absurd cc

refusal_allowed : (at : plain.State) (device : List ℕ) (items : List Item) (range : Range) (why : PinFault)
    → IsMapFault at.world device items range why → IsAllowed at (Select device items range) (Plain (refusal_of why))
refusal_allowed at device items range fault.NoPath is =
    allowed_reply at device items range (Plain answer.NoPath) is
refusal_allowed at device items range fault.WrongType is =
    allowed_reply at device items range (Plain answer.WrongType) is
refusal_allowed at device items range fault.Memory is = tt

refusal_stays : (at : plain.State) (device : List ℕ) (items : List Item) (range : Range) (why : PinFault)
    → state_after at (Select device items range) (Plain (refusal_of why)) ≡ at
refusal_stays at device items range fault.NoPath = refl
refusal_stays at device items range fault.WrongType = refl
refusal_stays at device items range fault.Memory = refl

module _ {J F S R P : Type 0} {means : disk.Ghosts J} {counts : counted.Ghosts J}
    (laws : (journal : J) → IsLawful (means.state journal)) where
  -- a command that changes nothing, after which log and state are as before it
  pub unmoved : (old new : Core J F S R P means counts) → log_of (logged_of new) ≡ log_of (logged_of old)
      → (asked : Command) (reply : Reply) → ¬ IsChange asked → (loans : List (Loan F S R P)) (files : List StoredFile)
      (at : plain.State) (next : Option plain.State) → IsServing loans old files at next
      → IsServing loans new files at next → state_after at asked reply ≡ at → IsAllowed at asked reply
      → IsAnsweredBy (IsDrawn old new) loans old new files at next asked reply
  unmoved old new same asked reply none loans files at next serving still stays may =
      let after = state_after at asked (Plain answer.Done) in
      record {
        allowed = may;
        served = record {
          put = [];
          numbers = tt;
          differ = tt;
          doubt = next;
          may = inr (inl refl);
          serving = subst (λ state. IsServing loans new (files ++ []) state next) (sym stays)
              (more_files laws loans new files [] at next still);
          moments = subst (λ (log : Frames J means counts). LeavesOnly (disk_under old) (disk_of log)
              (LeavesEither (files ++ []) (slot_under old) at next after)) (sym same)
              (idle (disk_under old) (LeavesEither (files ++ []) (slot_under old) at next after)
              (laws old.logged.frames.journal)
              (λ image left. inl (wider files (files ++ []) (slot_under old) at next image
              (held_more files files [] (λ there holds. holds))
              (image_left laws loans old files at next image serving left))));
        };
        settled = λ change. absurd (none change);
        doubtful = inr (inl refl);
        unwritten = λ change. absurd (none change);
      }

  -- a refusal is the map's
  pub refused : (old new : Core J F S R P means counts) → log_of (logged_of new) ≡ log_of (logged_of old)
      → KeepsState old new → (device : List ℕ) (items : List Item) (range : Range) (why : PinFault)
      → AreItemsRefused (map series_entry (memory_of (logged_of old)).series) device items why
      → ServesCommand old new (Select device items range) (Plain (refusal_of why))
  refused old new same keeps device items range why is loans files at next serving = unmoved old new same
      (Select device items range) (Plain (refusal_of why)) (λ change. absurd cc) loans files at next serving
      (keeps loans files at next serving) (refusal_stays at device items range why)
      (refusal_allowed at device items range why
      (fault_replied (map series_entry (memory_of (logged_of old)).series) at.world device
      (types_of serving.outside.told (memory_of (logged_of old)) serving.state.store at.world serving.seen.sound.memory
      serving.stands.world) items range why is))

  -- what was read of a pin is the map's reply
  pub replied : (old new : Core J F S R P means counts) → log_of (logged_of new) ≡ log_of (logged_of old)
      → KeepsState old new → (device : List ℕ) (items : List Item) (range : Range) (reply : Reply) → IsReadReply reply
      → ((loans : List (Loan F S R P)) (files : List StoredFile) (at : plain.State) (next : Option plain.State)
      → IsServing loans old files at next → HasRead (reply_of at.world (Select device items range)) reply)
      → ServesCommand old new (Select device items range) reply
  replied old new same keeps device items range reply kind read loans files at next serving = unmoved old new same
      (Select device items range) reply (λ change. absurd cc) loans files at next serving
      (keeps loans files at next serving) (read_stays at device items range reply kind)
      (read_allowed at device items range reply (read loans files at next serving) kind)

module _ {J F S R P : Type 0} {means : disk.Ghosts J} {counts : counted.Ghosts J} (name : R → NamedFile)
    (old mid : Core J F S R P means counts) (pin : Pin F S R P) (took : IsPinned name old mid pin)
    (nodes : HaveNodes pin.columns) (loans : List (Loan F S R P)) (files : List StoredFile) (at : plain.State)
    (next : Option plain.State) (serving : IsServing loans old files at next) where
  step : IsPinStep mid serving.outside serving.state pin
  step = took.step serving.outside serving.state serving.seen

  whole : Each (IsKeptWhole serving.outside.kept serving.outside.told) (state_files_of serving.state)
  whole = serving.seen.sound.stored.whole

  abbrev pages : SeriesPages
  pages = pages_told serving.outside.kept serving.outside.told (state_files_of serving.state) whole

  -- what is told of the files that the pin reads
  tells : TellsColumns name (files_of mid) serving.outside.kept serving.outside.told (state_files_of serving.state)
      whole step.seen.told pin.columns
  tells = tells_columns name (files_of mid) serving.outside.kept serving.outside.told (state_files_of serving.state) whole
      step.seen.told serving.outside.known serving.state.store step.shown.range
      (λ file among. among_left (serving.state.store.sequence ++ serving.state.store.unsequence) serving.state.outgoing file
      among) pin.columns step.shown.columns step.is.columns step.takes.columns took.held nodes

  pub tells_world : TellsWorld name pin at.world
  tells_world = record {
    pages = pages;
    true_are = tells.true_are;
    told_are = tells.told_are;
    told = serving.outside.told;
    points = tells.points;
    shown = step.shown;
    is = step.is;
    stands = step.world at.world serving.stands.world;
  }

module _ {J F S R P : Type 0} {means : disk.Ghosts J} {counts : counted.Ghosts J} (name : R → NamedFile)
    (old : Core J F S R P means counts) (pin : Pin F S R P) (device : List ℕ) (items : List Item) (range : Range)
    (fit : AreFit (map series_entry (memory_of (logged_of old)).series) device items)
    (is : IsPinFor name (files_of old) (memory_of (logged_of old)) device items range pin)
    (loans : List (Loan F S R P)) (files : List StoredFile) (at : plain.State) (next : Option plain.State)
    (serving : IsServing loans old files at next) where
  -- the pin has the map's reply
  pub map_pin : IsMapPin at.world device items range pin
  map_pin = record {
    rows_are = λ asks. rows_replied (map series_entry (memory_of (logged_of old)).series) at.world device
        (types_of serving.outside.told (memory_of (logged_of old)) serving.state.store at.world
        serving.seen.sound.memory serving.stands.world) items range fit asks
        ∙ ap (λ l. Lines (rows l))
        (sym (pin_columns name (files_of old) (memory_of (logged_of old)) device range at.world items pin is));
    values_are = λ asks. values_replied (map series_entry (memory_of (logged_of old)).series) at.world device
        (types_of serving.outside.told (memory_of (logged_of old)) serving.state.store at.world
        serving.seen.sound.memory serving.stands.world) items range fit asks
        ∙ ap Values (sym (pin_values name (files_of old) (memory_of (logged_of old)) device range at.world items pin is));
  }
