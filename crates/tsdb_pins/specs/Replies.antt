-- What is answered to a select, by what its pin has, or by why there is none.
use Rattle.std.specs.Prelude.{◌≡◌, ℕ, List, true, false}
use Rattle.tsdb_base.specs.declared.answers.Answer.TheVariants as answer
use Rattle.tsdb_base.specs.declared.point.Range.{Range}
use Rattle.tsdb_model.specs.Apply.{ask_aggregates, reply_of}
use Rattle.tsdb_model.specs.Folds.{rows}
use Rattle.tsdb_model.specs.World.{World}
use Rattle.tsdb_model.specs.declared.command.Command.TheVariants.{Select}
use Rattle.tsdb_model.specs.declared.command.Item.{Item}
use Rattle.tsdb_model.specs.declared.reply.Reply.TheVariants.{Lines, Plain, Values}
use Rattle.tsdb_pins.specs.Worlds.{columns_in, values_in}
use Rattle.tsdb_pin.specs.declared.pin.Pin.{Pin}
use Rattle.tsdb_pin.specs.declared.pin.PinFault.{PinFault}
use Rattle.tsdb_pin.specs.declared.pin.PinFault.TheVariants.{NoPath, WrongType, Memory}

-- the map answers the select of these items as this fault says
abbrev pub IsMapFault : World → List ℕ → List Item → Range → PinFault → Type 0
IsMapFault world device items range NoPath = reply_of world (Select device items range) ≡ Plain answer.NoPath
IsMapFault world device items range WrongType =
    reply_of world (Select device items range) ≡ Plain answer.WrongType
IsMapFault world device items range Memory = Unit {0}

-- The map answers the select of these items with the rows of the pin, or with its values where aggregates are asked for.
pub record IsMapPin {F S R P : Type 0} (world : World) (device : List ℕ) (items : List Item) (range : Range)
    (pin : Pin F S R P)
    : Type 0 where
  pub rows_are : ask_aggregates items ≡ false
      → reply_of world (Select device items range) ≡ Lines (rows (columns_in world pin.range pin.columns))
  pub values_are : ask_aggregates items ≡ true
      → reply_of world (Select device items range) ≡ Values (values_in world pin.range pin.columns)
