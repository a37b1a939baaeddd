use Rattle.std.proofs.lemmas.Grind.{common_steps}
use Rattle.std.proofs.Common.{◌≡◌, ◌+◌, ◌-◌, ◌<◌, length, take, drop, sym, ap, ◌∙◌, subst, arith, length-drop, Some}
use Rattle.std.proofs.lemmas.List.{take_all}
use Rattle.tsdb_script.specs.Steps.{unescape}
use Rattle.tsdb_script.proofs.TextLemmas.{IsContentSoFar, content_none, content_ended, content_more_other, content_more_pair, some_left}
use Rattle.tsdb_script.proofs.lexer.split_at_quote.Goals as goal
use Rattle.tsdb_script.proofs.lexer.split_at_quote.Goals.{then-not-has, else-not-has+then-has}

pub loop-at-init : goal.loop-at-init
loop-at-init c = record { within = omega arith; few = omega arith; so_far = content_none c.args.quote c.args.bytes.now }

pub returns-else-has-clause-content : goal.returns-else-has-clause-content
returns-else-has-clause-content c =
    let bytes = c.args.bytes.now in
    let at = c.loop-at.at in
    let all : take (length bytes - (at + 1)) (drop (at + 1) bytes) ≡ drop (at + 1) bytes = take_all (length bytes - (at + 1)) (drop (at + 1) bytes) (omega (arith, length-drop (at + 1) bytes)) in
    ap (λ l. Some (unescape c.args.quote (take at bytes), l)) all
    ∙ (content_ended c.args.quote bytes at c.loop-at.length c.loop-at-test.true (sym c.has.ensures ∙ c.if-not-has.false) (sym c.has-else-not-has.ensures ∙ c.if-has.false) c.loop-at.invariant.so_far).0

pub returns-else-has-clause-length : goal.returns-else-has-clause-length
returns-else-has-clause-length c =
    (content_ended c.args.quote c.args.bytes.now c.loop-at.at c.loop-at.length c.loop-at-test.true (sym c.has.ensures ∙ c.if-not-has.false) (sym c.has-else-not-has.ensures ∙ c.if-has.false) c.loop-at.invariant.so_far).1

pub loop-at-preserved : goal.loop-at-preserved
loop-at-preserved c =
    let quote = c.args.quote in
    let bytes = c.args.bytes.now in
    let at = c.loop-at.at in
    let count = c.loop-at.length in
    elim c.if-not-has.branch [
      | then-not-has w ↦ record {
        within = omega arith;
        few = omega arith;
        so_far = subst (λ n. IsContentSoFar quote bytes n (count + 1)) (sym w.at-is)
            (content_more_other quote bytes at count c.loop-at-test.true (sym c.has.ensures ∙ w.if-not-has.true) c.loop-at.invariant.so_far);
      }
      | else-not-has+then-has w ↦ (
          let more : at + 1 < length bytes = some_left bytes (at + 1) _ (sym w.has-else-not-has.ensures ∙ w.if-has.true) in
          record {
            within = omega arith;
            few = omega arith;
            so_far = subst (λ n. IsContentSoFar quote bytes n (count + 1)) (sym w.at-is)
                (content_more_pair quote bytes at count c.loop-at-test.true (sym c.has.ensures ∙ w.if-not-has.false) (sym w.has-else-not-has.ensures ∙ w.if-has.true) more c.loop-at.invariant.so_far);
          })
    ]

pub returns-clause-content : goal.returns-clause-content
returns-clause-content c = grind (arith, common_steps)
