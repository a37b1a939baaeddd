use Rattle.std.proofs.Common.{◌-◌, vec_len}
use Rattle.enc_rle.proofs.Progress.{Progress}
use Rattle.enc_rle.proofs.decode.decode.Given as goal

abbrev pub invariant-runs : goal.invariant-runs
invariant-runs g l = Progress g.T.Coded.code_of g.T.Coded.is_value l.initial.rest l.rest l.count l.last l.values.items

abbrev pub decreases-runs : goal.decreases-runs
decreases-runs g l = l.count - vec_len l.values
