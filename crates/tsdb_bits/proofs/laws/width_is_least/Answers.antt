use Rattle.tsdb_bits.specs.Packing.{binary_digits}
use Rattle.tsdb_bits.proofs.PackingLaws.{digits_of_number, digits_least}
use Rattle.tsdb_bits.proofs.laws.width_is_least.Goals as goal

pub returns-clause-below : goal.returns-clause-below
returns-clause-below c = λ n. (digits_of_number n).below

pub returns-clause-least : goal.returns-clause-least
returns-clause-least c = λ n k lt. digits_least n (binary_digits n) k (digits_of_number n) lt
