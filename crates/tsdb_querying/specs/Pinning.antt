-- What a pin is taken with, and what reading it tells.
use Rattle.std.specs.Prelude.{◌≡◌, ◌⊎◌, ℕ, List, Option, map, ⊤}
use Rattle.tsdb_base.specs.declared.answers.Answer.{Answer}
use Rattle.tsdb_base.specs.declared.answers.Answer.TheVariants as answer
use Rattle.tsdb_base.specs.declared.point.Range.{Range}
use Rattle.tsdb_memory.specs.LogState.{memory_of}
use Rattle.tsdb_memory.specs.StateOfMemory.{series_entry}
use Rattle.tsdb_memory.specs.Store.{MemoryState}
use Rattle.tsdb_model.specs.State as plain
use Rattle.tsdb_model.specs.World.{World}
use Rattle.tsdb_model.specs.declared.command.Item.{Item}
use Rattle.tsdb_model.specs.declared.reply.Reply.{Reply}
use Rattle.tsdb_model.specs.declared.reply.Reply.TheVariants.{Files, Lines, Plain, Values}
use Rattle.tsdb_outside.specs.Files.{NamedFile, StoredFile}
use Rattle.tsdb_outside.specs.declared.disk.Disk as disk
use Rattle.tsdb_outside.specs.declared.faults.Counted as counted
use Rattle.tsdb_pin.specs.Items.{AreFit, AreItemsRefused}
use Rattle.tsdb_pin.specs.Pins.{IsPinFor}
use Rattle.tsdb_pin.specs.StateOfPin.{IsPinOf}
use Rattle.tsdb_pin.specs.declared.pin.Pin.{Pin}
use Rattle.tsdb_pin.specs.declared.pin.PinFault.{PinFault}
use Rattle.tsdb_pins.specs.Reading.{AreColumnsOf, AreColumnsTold, AreColumnsTrue, HaveNodes, SeriesPages, TellPoints}
use Rattle.tsdb_pins.specs.Replies.{IsMapPin}
use Rattle.tsdb_querying.specs.Answers.{refusal_of}
use Rattle.tsdb_serving.specs.Core.{files_of, logged_of, store_of}
use Rattle.tsdb_serving.specs.CoreType.{Core}
use Rattle.tsdb_serving.specs.Flushing.{LendsOne}
use Rattle.tsdb_serving.specs.Serving.{IsServing}
use Rattle.tsdb_serving.specs.declared.loan.Loan.{Loan}
use Rattle.tsdb_serving.specs.declared.loan.Loan.TheVariants as loan
use Rattle.tsdb_state.specs.State.{PinState, ToldContents}
use Rattle.tsdb_state.specs.Steps.{PinStandsFor}

-- the answer is that of a fault for which the items are refused, by what is in memory
abbrev pub IsRefused : MemoryState → List ℕ → List Item → Answer → Type 0
IsRefused store device items answer = (fault : PinFault) × (answer ≡ refusal_of fault)
    × AreItemsRefused (map series_entry store.series) device items fault

-- a reply to a query that has read its pin: lines or values, or why a file could not be read
abbrev pub IsReadReply : Reply → Type 0
IsReadReply (Lines lines) = ⊤
IsReadReply (Values values) = ⊤
IsReadReply (Files listing) = ⊥
IsReadReply (Plain answer.Device) = ⊤
IsReadReply (Plain answer.Memory) = ⊤
IsReadReply (Plain other) = ⊥

-- this was read, or a file could not be
abbrev pub HasRead : Reply → Reply → Type 0
HasRead expected reply = (reply ≡ expected) ⊎ ((reply ≡ Plain answer.Device) ⊎ (reply ≡ Plain answer.Memory))

module _ {F S R P : Type 0} (name : R → NamedFile) where
  -- The pin stands for the world, and what is told of the files that it reads is so, whatever comes later.
  pub record TellsWorld (pin : Pin F S R P) (world : World) : Type 0 where
    pub pages : SeriesPages
    pub true_are : AreColumnsTrue name pages pin.columns
    pub told_are : AreColumnsTold name pages pin.columns
    pub told : ToldContents
    pub points : TellPoints name pages told pin.columns
    pub shown : PinState
    pub is : IsPinOf pin shown
    pub stands : PinStandsFor told shown world

module _ {J F S R P : Type 0} {means : disk.Ghosts J} {counts : counted.Ghosts J} (name : R → NamedFile) where
  -- A pin of the items was taken, with the sources that are there, and is out; of each state that the core was in it
  -- stands for the world, and has the map's reply to the query.
  pub record LendsPin (device : List ℕ) (items : List Item) (range : Range) (old new : Core J F S R P means counts)
      (pin : Pin F S R P)
      : Type 0 where
    pub fit : AreFit (map series_entry (memory_of (logged_of old)).series) device items
    pub is : IsPinFor name (files_of old) (memory_of (logged_of old)) device items range pin
    pub nodes : HaveNodes pin.columns
    pub of_store : AreColumnsOf name (store_of old) pin.columns
    pub turn : LendsOne name (loan.Pin pin) 0 old new
    pub tells : (loans : List (Loan F S R P)) (files : List StoredFile) (at : plain.State)
        (next : Option plain.State) → IsServing loans old files at next → TellsWorld name pin at.world
    pub replies : (loans : List (Loan F S R P)) (files : List StoredFile) (at : plain.State)
        (next : Option plain.State) → IsServing loans old files at next → IsMapPin at.world device items range pin
