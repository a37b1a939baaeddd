-- The spelling of a list by run-length encoding: the number of values, and then the runs of equal
-- neighbours, each as its length and its value. A value is written as a number, its code: a truth value
-- as 0 or 1, a signed number by zigzag.
use Rattle.std.specs.Prelude.{◌≡◌, ℕ, ◌+◌, ◌≤◌, Bool, true, false, List, [], ◌∷◌, ◌++◌, length, map, replicate, ◌==◌}
use Rattle.std.specs.Prelude.{if◌then◌else◌}
use Rattle.std.specs.List.{flat_map}
use Rattle.tsdb_bits.specs.Leb.{leb}

-- equal neighbours: how many, and what
pub record ValueRun : Type 0 where
  pub count : ℕ
  pub code : ℕ

-- one more value in front of runs: it joins the first one where that is its own
abbrev pub put_before : ℕ → List ValueRun → List ValueRun
put_before code [] = record { count = 1; code = code } ∷ []
put_before code (run ∷ runs) = if code == run.code then record { count = run.count + 1; code = code } ∷ runs
    else record { count = 1; code = code } ∷ run ∷ runs

-- the runs of a list, each as long as it can be
unfoldable pub maximal_runs : List ℕ → List ValueRun
maximal_runs [] = []
maximal_runs (code ∷ codes) = put_before code (maximal_runs codes)

-- the list that runs stand for
unfoldable pub expand_runs : List ValueRun → List ℕ
expand_runs [] = []
expand_runs (run ∷ runs) = replicate run.count run.code ++ expand_runs runs

-- a run's length and value
abbrev pub run_bytes : ValueRun → List ℕ
run_bytes run = leb run.count ++ leb run.code

-- the bytes of a list of codes
unfoldable pub codes_spelling : List ℕ → List ℕ
codes_spelling codes = leb (length codes) ++ flat_map run_bytes (maximal_runs codes)

-- the spelling of a list of values, where `code` gives the code of one
abbrev pub spelling : {A : Type 0} → (A → ℕ) → List A → List ℕ
spelling code values = codes_spelling (map code values)

-- the code of a truth value; that of a signed number is its zigzag
abbrev pub bool_code : Bool → ℕ
bool_code true = 1
bool_code false = 0

-- each run has a value, and neighbours differ
abbrev pub AreMaximalRuns : List ValueRun → Type 0
AreMaximalRuns [] = Unit {0}
AreMaximalRuns (run ∷ []) = 1 ≤ run.count
AreMaximalRuns (run ∷ next ∷ runs) = (1 ≤ run.count) × (run.code ≡ next.code → ⊥) × AreMaximalRuns (next ∷ runs)
