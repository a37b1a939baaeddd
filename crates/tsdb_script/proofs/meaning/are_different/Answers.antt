use Rattle.std.proofs.Common.{List, true≢false, refl, sym, subst, ◌∙◌}
use Rattle.std.specs.List.{IsDistinct}
use Rattle.std.proofs.lemmas.Bool.{not-false, not-true}
use Rattle.std.proofs.lemmas.List.{take_all}
use Rattle.std.proofs.lemmas.Option.{slice_get_read}
use Rattle.tsdb_script.proofs.Names.{different, distinct_next, none_distinct, repeated, same, seen_next}
use Rattle.tsdb_script.proofs.meaning.are_different.Goals as goal

pub loop-name-init : goal.loop-name-init
loop-name-init c = record { seen = λ q. rw c.new-seen.ensures.empty refl; distinct = none_distinct }

pub returns-then-not-branch : goal.returns-then-not-branch
returns-then-not-branch c =
    let x = c.name-item.result in
    let i = c.loop-name.name-index in
    let names = c.args.names.now in
    let before = sym (c.loop-name.invariant.seen c.bytes.result) ∙ not-false _ (sym c.in_ok-insert.ensures.added ∙ c.if-not-branch.true) in (
      λ f. absurd (true≢false (sym f)),
      λ all. absurd (repeated names i x (slice_get_read _ _ i x refl c.loop-name-test.true c.name-item.is) (rw c.bytes.ensures.value at before) all),
    )

pub loop-name-preserved : goal.loop-name-preserved
loop-name-preserved c =
    let x = c.name-item.result in
    let i = c.loop-name.name-index in
    let names = c.args.names.now in
    let none = sym (c.loop-name.invariant.seen c.bytes.result) ∙ not-true _ (sym c.in_ok-insert.ensures.added ∙ c.if-not-branch.false) in
    record {
      seen = λ q. seen_next names i x q.now _ _ c.loop-name-test.true c.name-item.is (rw c.bytes.ensures.value at c.in_ok-insert.ensures.updates.0 q) (c.loop-name.invariant.seen q);
      distinct = distinct_next names i x c.loop-name-test.true c.name-item.is c.loop-name.invariant.distinct (rw c.bytes.ensures.value at none);
    }

pub returns : goal.returns
returns c = (λ t. different c.args.names.now (subst (λ (ns : List (List _)). IsDistinct same ns) (take_all c.loop-name.name-index c.args.names.now c.loop-name-test.false) c.loop-name.invariant.distinct), λ all. refl)
