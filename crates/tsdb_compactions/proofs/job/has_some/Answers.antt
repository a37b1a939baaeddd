use Rattle.std.proofs.Common.{◌≡◌, ◌==◌, List, [], ◌∷◌, suc, not, ne_eqb, length, ap, arith, refl, ◌∙◌}
use Rattle.tsdb_base.specs.declared.ids.FileNumber.{FileNumber}
use Rattle.tsdb_base.specs.declared.ids.Space.TheVariants.{Sequence}
use Rattle.tsdb_compactions.specs.Jobs.{crosses}
use Rattle.tsdb_compactions.proofs.job.has_some.Goals as goal

by_length : (late : List FileNumber) → not (length late == 0) ≡ crosses Sequence late
by_length [] = refl
by_length (file ∷ files) = ap not (ne_eqb (suc (length files)) 0 (λ none. omega (arith, none)))

pub returns : goal.returns
returns c = ap not c.is_empty.ensures ∙ by_length c.args.late.now
