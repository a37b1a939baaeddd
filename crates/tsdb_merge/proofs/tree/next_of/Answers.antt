use Rattle.std.proofs.Common.{◌≡◌, ◌≤◌, ◌+◌, length, ap, sym, ◌∙◌}
use Rattle.std.specs.Prelude.{◌==◌}
use Rattle.tsdb_merge.proofs.ReadLemmas.{len_is, none_in, read_buffered, read_ended, read_refilled, some_in}
use Rattle.tsdb_merge.proofs.Pulls.{cause_ok, cause_none}
use Rattle.tsdb_merge.proofs.tree.next_of.Goals as goal

pub returns-then-not-is_empty-clause-read : goal.returns-then-not-is_empty-clause-read
returns-then-not-is_empty-clause-read g c =
    let within : length c.args.buffer.now.items ≤ 1000 = c.requires.within in
    let empty : c.is_empty.result ≡ (length c.args.buffer.now.items == 0) = c.is_empty.ensures ∙ ap (λ n. n == 0) (len_is c.args.buffer.now) in
    read_buffered c.args.source c.args.buffer.now.items c.pop.new.buffer.items _ _ c.pop.result (some_in (length c.args.buffer.now.items) (sym empty ∙ c.if-not-is_empty.true)) within c.pop.ensures

pub returns-then-not-is_empty-clause-cause : goal.returns-then-not-is_empty-clause-cause
returns-then-not-is_empty-clause-cause g c = cause_none _ _ _

pub returns-then-not-branch-clause-read : goal.returns-then-not-branch-clause-read
returns-then-not-branch-clause-read g c =
    let empty : c.is_empty.result ≡ (length c.args.buffer.now.items == 0) = c.is_empty.ensures ∙ ap (λ n. n == 0) (len_is c.args.buffer.now) in
    let most : length c.refill.new.buffer.items + g.Q.Supply.most c.refill.new.supply ≤ g.Q.Supply.most c.args.supply.now = c.in_ok-refill.ensures.most in
    read_ended c.args.source c.args.buffer.now.items c.refill.new.buffer.items _ _ _ _ c.in_ok-refill.field-0 (none_in c.args.buffer.now.items (sym empty ∙ c.if-not-is_empty.false)) c.if-not-branch.true
    c.in_ok-refill.ensures.moved c.in_ok-refill.ensures.filled most c.in_ok-refill.ensures.others

pub returns-then-not-branch-clause-cause : goal.returns-then-not-branch-clause-cause
returns-then-not-branch-clause-cause g c = cause_ok _ _ _ _ c.in_ok-refill.field-0 _ c.in_ok-refill.ensures.cause

pub returns-clause-read : goal.returns-clause-read
returns-clause-read g c =
    let empty : c.is_empty.result ≡ (length c.args.buffer.now.items == 0) = c.is_empty.ensures ∙ ap (λ n. n == 0) (len_is c.args.buffer.now) in
    let most : length c.refill.new.buffer.items + g.Q.Supply.most c.refill.new.supply ≤ g.Q.Supply.most c.args.supply.now = c.in_ok-refill.ensures.most in
    read_refilled c.args.source c.args.buffer.now.items c.refill.new.buffer.items c.pop-2.new.buffer.items _ _ _ _ c.in_ok-refill.field-0 c.pop-2.result (none_in c.args.buffer.now.items (sym empty ∙ c.if-not-is_empty.false)) c.if-not-branch.false
    c.in_ok-refill.ensures.moved c.in_ok-refill.ensures.filled most c.in_ok-refill.ensures.others c.pop-2.ensures

pub returns-clause-cause : goal.returns-clause-cause
returns-clause-cause g c = cause_ok _ _ _ _ c.in_ok-refill.field-0 _ c.in_ok-refill.ensures.cause
