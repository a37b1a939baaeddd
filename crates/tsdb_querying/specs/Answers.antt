-- The answers of a query of which no pin was taken, and of one whose files could not be read.
use Rattle.tsdb_base.specs.declared.answers.Answer.{Answer}
use Rattle.tsdb_base.specs.declared.answers.Answer.TheVariants as answer
use Rattle.tsdb_outside.specs.declared.faults.StoreFault.{StoreFault}
use Rattle.tsdb_outside.specs.declared.faults.StoreFault.TheVariants.{Failed, Memory}
use Rattle.tsdb_pin.specs.declared.pin.PinFault.{PinFault}
use Rattle.tsdb_pin.specs.declared.pin.PinFault.TheVariants as fault

abbrev pub answer_to : StoreFault → Answer
answer_to Failed = answer.Device
answer_to Memory = answer.Memory

abbrev pub refusal_of : PinFault → Answer
refusal_of fault.NoPath = answer.NoPath
refusal_of fault.WrongType = answer.WrongType
refusal_of fault.Memory = answer.Memory
