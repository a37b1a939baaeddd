-- Files that are put have different numbers: those of one job, and those of calls one behind another.
use Rattle.std.proofs.Common.{◌≢◌, ℕ, List, [], ◌∷◌, ◌++◌, map, Option, None, Some, arith}
use Rattle.std.specs.List.{AllByRecursion as Each, flat_map}
use Rattle.tsdb_core.specs.Files.{NewFile, file_number, stored_of}
use Rattle.tsdb_core.specs.declared.engine.Core.{Core}
use Rattle.tsdb_base.proofs.Lists.{each_append, each_weaker}
use Rattle.tsdb_base.specs.Lists.{EachPair, if_some}
use Rattle.tsdb_outside.specs.Files.{StoredFile}
use Rattle.tsdb_outside.specs.declared.disk.Disk as disk
use Rattle.tsdb_outside.specs.declared.faults.Counted as counted
use Rattle.tsdb_serving.proofs.Jobs.{stored_number}
use Rattle.tsdb_serving.specs.Serving.{IsDrawn}

-- the files have different numbers
abbrev pub Differ : List StoredFile → Type 0
Differ files = EachPair (λ (a b : StoredFile). a.number ≢ b.number) files

-- files of different numbers are stored under these
pub stored_differ : (files : List NewFile) → EachPair (λ a b. file_number a ≢ file_number b) files
    → Differ (flat_map stored_of files)
stored_differ [] differ = tt
stored_differ (file ∷ files) differ = by file.token.name.bytes
    (stored_number (λ number. file_number file ≢ number) files differ.0) (stored_differ files differ.1)
  where
    by : (bytes : Option (List ℕ)) → Each (λ (other : StoredFile). file_number file ≢ other.number) (flat_map stored_of files)
        → Differ (flat_map stored_of files)
        → Differ (map (λ b. record { number = file_number file; bytes = b }) (if_some bytes) ++ flat_map stored_of files)
    by None apart rest = rest
    by (Some bytes) apart rest = (apart, rest)

-- files that are put behind others, of which none has the number of one of these
pub differ_on : (A B : ℕ → Type 0) → ((a b : ℕ) → A a → B b → a ≢ b) → (first second : List StoredFile)
    → Each (λ (file : StoredFile). A file.number) first → Each (λ (file : StoredFile). B file.number) second
    → Differ first → Differ second → Differ (first ++ second)
differ_on A B apart [] second ones others before behind = behind
differ_on A B apart (file ∷ first) second ones others before behind = (
  each_append (λ (other : StoredFile). file.number ≢ other.number) first second before.0
      (each_weaker (λ (other : StoredFile). B other.number) (λ (other : StoredFile). file.number ≢ other.number)
      (λ other has. apart file.number other.number ones.0 has) second others),
  differ_on A B apart first second ones.1 others before.1 behind,
)

module _ {J F S R P : Type 0} {means : disk.Ghosts J} {counts : counted.Ghosts J} where
  -- a number that was drawn later is another one
  pub drawn_apart : (old mid new : Core J F S R P means counts) (a b : ℕ) → IsDrawn old mid a → IsDrawn mid new b
      → a ≢ b
  drawn_apart old mid new a b first second same =
      let to = first.to in let from = second.from in omega (arith, to, from, same)
