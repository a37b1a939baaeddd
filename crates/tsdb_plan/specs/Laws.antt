-- What a prefix of unsequence files meets, from what each of its files meets by itself.
use Rattle.std.specs.Prelude.{ℕ, ◌≤◌, min, max, List, [], ◌∷◌, length, fold, take}
use Rattle.std.specs.List.{AllZip}
use Rattle.tsdb_plan.specs.declared.entry.FileEntry.{FileEntry}
use Rattle.tsdb_plan.specs.declared.entry.CrossRun.{CrossRun}
use Rattle.tsdb_plan.specs.CrossPlan.{IsEligible, IsFirstOf, IsPastOf}

-- `first` of a prefix is the least of its files' own firsts
abbrev pub FirstsAreLeast : Type 0
FirstsAreLeast =
    (sequence prefix : List FileEntry) (firsts : List ℕ) →
    AllZip (λ file own. IsFirstOf (file ∷ []) sequence own) prefix firsts →
    IsFirstOf prefix sequence (fold min (length sequence) firsts)

-- one past the last file that a prefix meets is the greatest of its files' own
abbrev pub EndsAreGreatest : Type 0
EndsAreGreatest =
    (sequence prefix : List FileEntry) (pasts : List ℕ) →
    AllZip (λ file own. IsPastOf (file ∷ []) sequence own) prefix pasts →
    IsPastOf prefix sequence (fold max 0 pasts)

-- where a prefix is eligible, each shorter one is: so none is longer than one that does not fit
abbrev pub ShorterAreEligible : Type 0
ShorterAreEligible =
    (sequence unsequence : List FileEntry) (run : CrossRun) (prefix first past : ℕ) →
    IsEligible sequence unsequence run → 1 ≤ prefix → prefix ≤ run.prefix →
    IsFirstOf (take prefix unsequence) sequence first → IsPastOf (take prefix unsequence) sequence past →
    IsEligible sequence unsequence (record { prefix = prefix; first = first; end = max first past })
