use Rattle.std.proofs.Common.{◌≡◌, ◌∙◌, ℕ, Err, ap, rules, subst, sym}
use Rattle.std.proofs.lemmas.Result.{err_from_is_err_and}
use Rattle.std.specs.Prelude.{IsErrAnd, Result}
use Rattle.std.specs.Result.{IsErrOf}
use Rattle.tsdb_log.specs.Places.{AreFieldsNearTheirEnd}
use Rattle.tsdb_recover.specs.declared.fault.OpenFault.TheVariants.{Damaged, Failed, Memory}
use Rattle.tsdb_recover.specs.declared.fault.Part.{Part}
use Rattle.tsdb_recover.specs.declared.fault.Part.TheVariants.{Log}
use Rattle.tsdb_recover.proofs.LogLemmas.{part_refused, torn_of, torn_refused}
use Rattle.tsdb_recover.proofs.log.read_on.Goals as goal

same_damage : (p q : Part) (m n : ℕ) → IsErrOf {T = Unit {0}} (Err (Damaged p m)) (Damaged q n) → (q ≡ p) × (n ≡ m)
same_damage p q m n same = let faults : Damaged p m ≡ Damaged q n = cc in (cc, cc)

pub returns-then-not-branch-clause-damaged : goal.returns-then-not-branch-clause-damaged
returns-then-not-branch-clause-damaged g c = λ part at is.
    let same = same_damage Log part c.gate.result at is in
    let none = c.in_ok-may_begin.ensures.none c.if-not-branch.true in
    (same.0, λ torn. part_refused c.args.reader.now c.part.result.now at torn c.part.ensures none (same.1 ∙ c.gate.ensures))

pub returns-in-Err-clause-damaged : goal.returns-in-Err-clause-damaged
returns-in-Err-clause-damaged g c = λ part at is.
    let answered : c.log_fault.result ≡ Damaged part at = cc in
    let torn = torn_of c.in-Err.fault part at (search rules) in (
      torn.0,
      λ begun. torn_refused c.args.reader.now at (λ journal place frames reading.
          c.in-Err.ensures.torn at (ap (λ x. Err x) torn.1) begun journal place frames reading),
    )

pub returns-in-Ok-clause-near : goal.returns-in-Ok-clause-near
returns-in-Ok-clause-near g c = subst AreFieldsNearTheirEnd c.part.ensures (c.in_ok-may_begin.ensures.near c.if-not-branch.false)

-- the fault that a `?` passed on is the part's
passed_on : {T E : Type 0} (result : Result T E) (inner error : E) → IsErrAnd result (λ fault. fault ≡ inner) → IsErrOf result error → inner ≡ error
passed_on result inner error passed is =
    let p = err_from_is_err_and result passed in
    let same = rw (p.1, p.2) at is in
    cc

memory_is_no_damage : {P : Type 0} (part : Part) (at : ℕ) → Memory ≡ Damaged part at → P
memory_is_no_damage part at is = absurd cc

memory_is_no_failure : {P : Type 0} → Memory ≡ Failed → P
memory_is_no_failure is = absurd cc

pub returns-in_err-may_begin-clause-damaged : goal.returns-in_err-may_begin-clause-damaged
returns-in_err-may_begin-clause-damaged g c = λ part at is.
    memory_is_no_damage part at (passed_on c.from_residual.result Memory (Damaged part at) c.from_residual.ensures.1 is)

pub returns-in_err-may_begin-clause-failed : goal.returns-in_err-may_begin-clause-failed
returns-in_err-may_begin-clause-failed g c = λ is.
    memory_is_no_failure (passed_on c.from_residual.result Memory Failed c.from_residual.ensures.1 is)
