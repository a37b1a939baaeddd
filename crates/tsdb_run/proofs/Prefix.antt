-- What is said of the bytes that were taken is said of all that was left: a script that is too long is bad already in
-- them.
use Rattle.std.proofs.Common.{◌≡◌, ◌⊎◌, inl, inr, ℕ, ◌<◌, ◌≤◌, List, [], ◌++◌, append-nil, length}
use Rattle.std.proofs.Common.{Option, None, Some, sym, ap, ◌∙◌, subst}
use Rattle.std.specs.Prelude.{IfSome}
use Rattle.std.specs.Io.KnownBytes.{Consumes, IsAtEnd}
use Rattle.std.proofs.lemmas.Bool.{cases_lt}
use Rattle.tsdb_run.specs.Input.{TakesScript}
use Rattle.tsdb_base.specs.Limits.{max_script_bytes}
use Rattle.tsdb_script.specs.Reading.{IsFirstBadLine, IsScript}
use Rattle.tsdb_script.specs.declared.numbered.Numbered.{Numbered}
use Rattle.tsdb_script.proofs.ReadingLemmas.{cut_bad, within_limits}

module _ (left new : Option (List ℕ)) (bytes : List ℕ) (taken : TakesScript left new bytes) where
  pub whole-script : (script : List Numbered) → IsScript bytes script → IsAtEnd new
  whole-script script is = taken.whole (within_limits bytes script is).short

  pub read-script : (script : List Numbered) → IsScript bytes script → IfSome left (λ all. IsScript all script)
  read-script script is = same left new taken.taken (whole-script script is) where
    same : (left new : Option (List ℕ)) → Consumes left new bytes → IsAtEnd new → IfSome left (λ all. IsScript all script)
    same None new consumes end = tt
    same (Some all) None consumes end = absurd consumes
    same (Some all) (Some rest) consumes end =
        subst (λ l. IsScript l script) (sym (consumes ∙ ap (λ r. bytes ++ r) end ∙ append-nil bytes)) is

  pub bad-line : (line kind : ℕ) → IsFirstBadLine bytes line kind → IfSome left (λ all. IsFirstBadLine all line kind)
  bad-line line kind is = at left new taken.taken taken.whole where
    at : (left new : Option (List ℕ)) → Consumes left new bytes → (length bytes ≤ max_script_bytes → IsAtEnd new)
        → IfSome left (λ all. IsFirstBadLine all line kind)
    at None new consumes whole = tt
    at (Some all) None consumes whole = absurd consumes
    at (Some all) (Some rest) consumes whole =
        subst (λ l. IsFirstBadLine l line kind) (sym consumes)
        (longer_or_same rest whole (cases_lt max_script_bytes (length bytes)))
      where
        longer_or_same : (rest : List ℕ) → (length bytes ≤ max_script_bytes → rest ≡ [])
            → (max_script_bytes < length bytes) ⊎ (length bytes ≤ max_script_bytes) → IsFirstBadLine (bytes ++ rest) line kind
        longer_or_same rest whole (inl long) = (cut_bad bytes rest line kind long).0 is
        longer_or_same rest whole (inr fits) =
            subst (λ l. IsFirstBadLine l line kind) (sym (ap (λ r. bytes ++ r) (whole fits) ∙ append-nil bytes)) is
