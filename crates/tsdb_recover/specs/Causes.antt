-- When an opening may be refused.
use Rattle.std.specs.Prelude.{◌≡◌, ℕ}
use Rattle.tsdb_recover.specs.declared.fault.OpenFault.{OpenFault}
use Rattle.tsdb_recover.specs.declared.fault.OpenFault.TheVariants.{Failed, Damaged, Memory}
use Rattle.tsdb_recover.specs.declared.fault.Part.TheVariants.{Log}

-- a fault that may be answered of a log that is damaged at this place: this place alone, or no place
abbrev pub AnswersDamage : ℕ → OpenFault → Type 0
AnswersDamage at Failed = Unit {0}
AnswersDamage at (Damaged part place) = (part ≡ Log) × (place ≡ at)
AnswersDamage at Memory = Unit {0}
