use Rattle.std.proofs.Common.{Vec, Global, rules}
use Rattle.std.proofs.lemmas.Result.{err_from_is_err_and}
use Rattle.tsdb_index.specs.declared.pointer.Pointer.{Pointer}
use Rattle.tsdb_index.proofs.Roots.{root_is}
use Rattle.tsfile_reader.specs.declared.ends.Root.{Root}
use Rattle.tsfile_reader.proofs.Outlines.{no_order, no_place, pointers_bad}
use Rattle.tsfile_reader.proofs.outline.root_in.Goals as goal

pub returns-in_err-pointers : goal.returns-in_err-pointers
returns-in_err-pointers c =
    let p = err_from_is_err_and c.from_residual.result c.from_residual.ensures.1 in
    let bad = pointers_bad c.args.at c.args.bytes.now (λ (ps : Vec Pointer Global). ps.items) (λ (root : Root). (root.place, root.pointers.items)) c.in_err-pointers.field-0.0 c.in_err-pointers.ensures in
    rw (p.1, p.2) bad

pub returns-in_default : goal.returns-in_default
returns-in_default c =
    let none = rw c.deref.ensures.value at c.in_default.ensures in
    no_place c.args.at c.args.bytes.now c.in_ok-pointers.pointers.items c.in_ok-pointers.ensures none

pub returns-then-not-are_root : goal.returns-then-not-are_root
returns-then-not-are_root c =
    let found = rw c.deref.ensures.value at c.in-Some.ensures in
    no_order c.args.at c.in-Some.place c.args.bytes.now c.in_ok-pointers.pointers.items c.in_ok-pointers.ensures found.0
    (λ are. let yes = c.are_root.ensures.1 (rw c.deref-2.ensures.value are) in search (rules, yes))

pub returns : goal.returns
returns c =
    let yes = rw c.deref-2.ensures.value at c.are_root.ensures.0 (search rules) in
    (c.in-Some.ensures.1, root_is c.in-Some.place c.args.at c.args.bytes.now c.in_ok-pointers.pointers.items c.in_ok-pointers.ensures yes)
