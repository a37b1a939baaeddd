-- A query from its pin to the end.
use Rattle.std.proofs.Common.{◌≡◌, List, [], ◌∷◌, refl}
use Rattle.tsdb_base.specs.Lists.{IsWithOne}
use Rattle.tsdb_base.specs.declared.answers.Answer.{Answer}
use Rattle.tsdb_model.specs.declared.reply.Reply.TheVariants.{Plain}
use Rattle.tsdb_outside.specs.Files.{NamedFile, Store}
use Rattle.tsdb_outside.specs.declared.disk.Disk as disk
use Rattle.tsdb_outside.specs.declared.faults.Counted as counted
use Rattle.tsdb_pin.specs.declared.pin.Pin.{Pin}
use Rattle.tsdb_serving.proofs.Out.{first_one}
use Rattle.tsdb_serving.specs.CoreType.{Core}
use Rattle.tsdb_serving.specs.Loans.{KeepsAll, Lends, TakesBack}
use Rattle.tsdb_serving.specs.Out.{with_pin}
use Rattle.tsdb_serving.specs.Pins.{pin_rights}
use Rattle.tsdb_serving.specs.declared.loan.Loan.{Loan}
use Rattle.tsdb_serving.specs.declared.loan.Loan.TheVariants as loan

pub plain_is : (a b : Answer) → Plain a ≡ Plain b → a ≡ b
plain_is a b is = cc

-- the pin stands first of what is out
pub first_pin : {F S R P : Type 0} (pin : Pin F S R P) (loans : List (Loan F S R P))
    → IsWithOne (loan.Pin pin) loans (loan.Pin pin ∷ loans)
first_pin pin loans = record { before = []; behind = loans; with_it = refl; without = refl }

-- a pin that is taken and then given back leaves what was out
pub over_pin : {J F S R P : Type 0} {means : disk.Ghosts J} {counts : counted.Ghosts J} (name : R → NamedFile)
    (store : Store) (old mid new : Core J F S R P means counts) (pin : Pin F S R P)
    → Lends name store (loan.Pin pin) old mid → TakesBack name store (loan.Pin pin) mid new → KeepsAll store old new
over_pin name store old mid new pin lends back out kept = back out (with_pin name pin out)
    (record { flushes = refl; compactions = refl; lent = first_one (pin_rights name pin) out.lent }) (lends out kept)
