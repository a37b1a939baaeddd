use Rattle.std.proofs.Common.{arith}
use Rattle.std.proofs.lemmas.Int.{ints}
use Rattle.tsdb_script.proofs.conditions.bounds_of.Goals as goal

pub returns-in-Less-2-clause-times : goal.returns-in-Less-2-clause-times
returns-in-Less-2-clause-times c = λ time fits.
    let h = c.between.ensures.times time fits in
    rw c.in-Less-2.is ((λ e. let p = h.0 e in omega (arith, ints, p.0, p.1)), (λ is. h.1 (omega (arith, ints, fits, is), omega (arith, ints, fits, is))))

pub returns-in-LessEqual-clause-times : goal.returns-in-LessEqual-clause-times
returns-in-LessEqual-clause-times c = λ time fits.
    let h = c.between-in-LessEqual.ensures.times time fits in
    rw c.in-LessEqual.is ((λ e. let p = h.0 e in omega (arith, ints, p.0, p.1)), (λ is. h.1 (omega (arith, ints, fits, is), omega (arith, ints, fits, is))))

pub returns-in-Greater-2-clause-times : goal.returns-in-Greater-2-clause-times
returns-in-Greater-2-clause-times c = λ time fits.
    let h = c.between-in-Greater-2.ensures.times time fits in
    rw c.in-Greater-2.is ((λ e. let p = h.0 e in omega (arith, ints, p.0, p.1)), (λ is. h.1 (omega (arith, ints, fits, is), omega (arith, ints, fits, is))))

pub returns-in-GreaterEqual-clause-times : goal.returns-in-GreaterEqual-clause-times
returns-in-GreaterEqual-clause-times c = λ time fits.
    let h = c.between-in-GreaterEqual.ensures.times time fits in
    rw c.in-GreaterEqual.is ((λ e. let p = h.0 e in omega (arith, ints, p.0, p.1)), (λ is. h.1 (omega (arith, ints, fits, is), omega (arith, ints, fits, is))))

pub returns-in-Equal-clause-times : goal.returns-in-Equal-clause-times
returns-in-Equal-clause-times c = λ time fits.
    let h = c.between-in-Equal.ensures.times time fits in
    rw c.in-Equal.is ((λ e. let p = h.0 e in omega (arith, ints, p.0, p.1)), (λ is. h.1 (omega (arith, ints, is), omega (arith, ints, is))))
