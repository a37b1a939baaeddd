-- How faults are printed.
use Rattle.std.specs.Prelude.{ℕ, List, codes}
use Rattle.tsdb_outside.specs.declared.faults.StoreFault.{StoreFault}
use Rattle.tsdb_outside.specs.declared.faults.StoreFault.TheVariants.{Failed, Memory}

-- the name of the fault
abbrev pub fault_text : StoreFault → List ℕ
fault_text Failed = codes "failed"
fault_text Memory = codes "memory"
