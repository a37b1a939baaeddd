-- What a write may do to a file that tells nothing.
use Rattle.std.proofs.Common.{ℕ, refl}
use Rattle.tsdb_outside.proofs.DiskLemmas.{Torn-same}
use Rattle.fs_outside.specs.FileState.{MayWriteFile, silent_file}

pub MayWriteFile-silent : (at n : ℕ) → MayWriteFile at n silent_file silent_file
MayWriteFile-silent at n = record { torn = refl; crash = λ within left may. (left, tt, Torn-same at n left) }
