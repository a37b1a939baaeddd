-- Where two lists with the same bytes are equal, a list that was found is the only one.
use Rattle.std.proofs.Common.{ℕ, List, sym, ◌∙◌}
use Rattle.tsdb_bits.specs.Lists.{IsSpelling, IsOnly, HasOneSpelling}

pub only_found : {A : Type 0} (spelling : List A → List ℕ) (IsValue : A → Type 0) (one : HasOneSpelling spelling IsValue) (bytes : List ℕ) (found : List A) → IsSpelling spelling IsValue bytes found → IsOnly spelling IsValue bytes found
only_found spelling IsValue one bytes found is values other = one values found other.list is.list (sym other.bytes_are ∙ is.bytes_are)
