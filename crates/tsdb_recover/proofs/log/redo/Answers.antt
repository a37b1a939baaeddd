use Rattle.std.proofs.Common.{◌≡◌, ◌∙◌, ℕ, Err, rules, subst}
use Rattle.std.specs.Result.{IsErrOf}
use Rattle.tsdb_log.specs.declared.record.LogRecord.{LogRecord}
use Rattle.tsdb_redo.specs.Redone.{IsWithoutReplay}
use Rattle.tsdb_recover.specs.declared.fault.OpenFault.TheVariants.{Damaged}
use Rattle.tsdb_recover.specs.declared.fault.Part.{Part}
use Rattle.tsdb_recover.specs.declared.fault.Part.TheVariants.{Log}
use Rattle.tsdb_recover.proofs.log.redo.Goals as goal

same_damage : (p q : Part) (m n : ℕ) → IsErrOf {T = Unit {0}} (Err (Damaged p m)) (Damaged q n) → (q ≡ p) × (n ≡ m)
same_damage p q m n same = let faults : Damaged p m ≡ Damaged q n = cc in (cc, cc)

pub returns-in-Err-NoReplay-clause-damaged : goal.returns-in-Err-NoReplay-clause-damaged
returns-in-Err-NoReplay-clause-damaged c = λ part at is.
    let same = same_damage Log part c.args.frame.now.at at is in (
      same.0,
      same.1,
      λ item good bytes. subst (λ (i : LogRecord). IsWithoutReplay c.args.opening.now i) (c.in-Ok.ensures.good item good (c.items.ensures ∙ bytes))
          (c.in-Err-NoReplay.ensures.no_replay (search rules)),
    )
