use Rattle.std.proofs.Common.{◌≡◌, ◌≤◌, ◌+◌, length, ap, sym, ◌∙◌}
use Rattle.std.specs.Prelude.{◌==◌}
use Rattle.std.proofs.lemmas.Result.{err_from_is_err_and}
use Rattle.tsdb_streams.proofs.Leaving.{leaves_fault, leaves_none, leaves_ok}
use Rattle.tsdb_streams.specs.Walking.{lanes_most}
use Rattle.tsdb_merge.proofs.ReadLemmas.{len_is, none_in, read_buffered, read_ended, read_refilled, some_in}
use Rattle.tsdb_streams.proofs.walking.next_of.Goals as goal

pub returns-then-not-is_empty-clause-read : goal.returns-then-not-is_empty-clause-read
returns-then-not-is_empty-clause-read g c = λ pages truth.
    let within : length c.args.buffer.now.items ≤ 1000 = c.requires.within in
    let empty : c.is_empty.result ≡ (length c.args.buffer.now.items == 0) = c.is_empty.ensures ∙ ap (λ n. n == 0) (len_is c.args.buffer.now) in
    read_buffered c.args.source c.args.buffer.now.items c.pop.new.buffer.items _ _ c.pop.result (some_in (length c.args.buffer.now.items) (sym empty ∙ c.if-not-is_empty.true)) within c.pop.ensures

pub returns-then-not-is_empty-clause-leaves : goal.returns-then-not-is_empty-clause-leaves
returns-then-not-is_empty-clause-leaves g c = leaves_none g.P.Right.ReadRight.file _ _ _ _ c.requires.of

pub returns-in_err-refill-clause-leaves : goal.returns-in_err-refill-clause-leaves
returns-in_err-refill-clause-leaves g c =
    let p = err_from_is_err_and c.from_residual.result c.from_residual.ensures.1 in
    rw (p.1, p.2) (leaves_fault g.P.Right.ReadRight.file _ _ _ _ _ _ c.in_err-refill.field-0.0 c.in_err-refill.ensures.leaves)

pub returns-then-not-branch-clause-read : goal.returns-then-not-branch-clause-read
returns-then-not-branch-clause-read g c = λ pages truth.
    let empty : c.is_empty.result ≡ (length c.args.buffer.now.items == 0) = c.is_empty.ensures ∙ ap (λ n. n == 0) (len_is c.args.buffer.now) in
    let most : length c.refill.new.buffer.items + lanes_most c.refill.new.list.items ≤ lanes_most c.args.list.now.items = c.in_ok-refill.ensures.most in
    read_ended c.args.source c.args.buffer.now.items c.refill.new.buffer.items _ _ _ _ c.in_ok-refill.field-0 (none_in c.args.buffer.now.items (sym empty ∙ c.if-not-is_empty.false)) c.if-not-branch.true
    (c.in_ok-refill.ensures.moved pages truth) c.in_ok-refill.ensures.filled most (c.in_ok-refill.ensures.others pages)

pub returns-then-not-branch-clause-leaves : goal.returns-then-not-branch-clause-leaves
returns-then-not-branch-clause-leaves g c = leaves_ok g.P.Right.ReadRight.file _ _ _ _ _ _ c.in_ok-refill.field-0 _ c.in_ok-refill.ensures.leaves

pub returns-clause-read : goal.returns-clause-read
returns-clause-read g c = λ pages truth.
    let empty : c.is_empty.result ≡ (length c.args.buffer.now.items == 0) = c.is_empty.ensures ∙ ap (λ n. n == 0) (len_is c.args.buffer.now) in
    let most : length c.refill.new.buffer.items + lanes_most c.refill.new.list.items ≤ lanes_most c.args.list.now.items = c.in_ok-refill.ensures.most in
    read_refilled c.args.source c.args.buffer.now.items c.refill.new.buffer.items c.pop-2.new.buffer.items _ _ _ _ c.in_ok-refill.field-0 c.pop-2.result (none_in c.args.buffer.now.items (sym empty ∙ c.if-not-is_empty.false)) c.if-not-branch.false
    (c.in_ok-refill.ensures.moved pages truth) c.in_ok-refill.ensures.filled most (c.in_ok-refill.ensures.others pages) c.pop-2.ensures

pub returns-clause-leaves : goal.returns-clause-leaves
returns-clause-leaves g c = leaves_ok g.P.Right.ReadRight.file _ _ _ _ _ _ c.in_ok-refill.field-0 _ c.in_ok-refill.ensures.leaves
