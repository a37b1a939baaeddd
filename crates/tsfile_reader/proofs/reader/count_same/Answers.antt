use Rattle.std.proofs.Common.{◌≡◌, ℕ, sym, subst, ◌∙◌, arith}
use Rattle.std.proofs.lemmas.Bool.{false≢true}
use Rattle.tsfile_reader.proofs.Alike.{SameUpTo, alike_all, alike_to}
use Rattle.tsfile_reader.proofs.reader.count_same.Goals as goal

pub returns-then-not-is_same_entry : goal.returns-then-not-is_same_entry
returns-then-not-is_same_entry c =
    alike_to c.args.entries.now c.args.said.now c.loop-i.i c.index-entries-i.result c.index-said-i.result c.loop-i.invariant c.index-entries-i.is c.index-said-i.is
    (λ same. let held = c.is_same_entry.ensures.1 same in false≢true (sym c.if-not-is_same_entry.true ∙ held))

pub returns : goal.returns
returns c =
    let end = c.loop-i-test.false in
    let top = c.loop-i.auto.i-end in
    let same : c.loop-i.i ≡ c.min-most.result = omega (arith, end, top) in
    alike_all c.args.entries.now c.args.said.now c.min-most.result (subst (λ (n : ℕ). SameUpTo c.args.entries.now c.args.said.now n) same c.loop-i.invariant) c.min-most.ensures
