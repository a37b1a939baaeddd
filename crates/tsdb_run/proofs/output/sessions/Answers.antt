use Rattle.std.proofs.Common.{◌≡◌, ◌+◌, ◌∷◌, ◌++◌, [], ◌∙◌, add-one, ap, arith, sym, take}
use Rattle.std.proofs.Math.Seq.{take-length, take-suc}
use Rattle.tsdb_run.specs.Output.{distinct_sessions}
use Rattle.tsdb_run.specs.Steps.{with_session}
use Rattle.tsdb_run.proofs.TextLemmas.{sessions_of-push}
use Rattle.tsdb_run.proofs.output.sessions.Goals as goal

pub loop-numbered-preserved : goal.loop-numbered-preserved
loop-numbered-preserved c =
    let script = c.args.script.now in
    let at = c.loop-numbered.numbered-index in
    let numbered = c.numbered-item.result in
    let next : take (at + 1) script ≡ take at script ++ numbered ∷ [] =
    ap (λ n. take n script) (add-one at) ∙ take-suc script at numbered (omega arith) ∙ ap (λ x. take at script ++ x ∷ []) (sym c.numbered-item.is) in
    c.in_ok-add_session.ensures ∙ ap (λ l. with_session l numbered.session) c.loop-numbered.invariant
    ∙ sym (sessions_of-push (take at script) numbered) ∙ ap distinct_sessions (sym next)

pub returns : goal.returns
returns c =
    let script = c.args.script.now in
    let at = c.loop-numbered.numbered-index in
    let all : take at script ≡ script = ap (λ n. take n script) (omega arith) ∙ take-length script in
    c.loop-numbered.invariant ∙ ap distinct_sessions all
