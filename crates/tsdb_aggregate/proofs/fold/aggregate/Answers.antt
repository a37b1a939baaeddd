use Rattle.std.proofs.Common.{ap, ◌∙◌, sum_by, subst, arith}
use Rattle.std.specs.List.{zip}
use Rattle.std.specs.Prelude.{AllPairs}
use Rattle.std.proofs.lemmas.Result.{err_from_is_err_and}
use Rattle.tsdb_aggregate.specs.Pieces.{ArePiecesSound}
use Rattle.tsdb_aggregate.specs.Steps.{HasTally, ComesBefore, cost_of, held_parts}
use Rattle.tsdb_aggregate.proofs.EntryLemmas.{in_order}
use Rattle.tsdb_aggregate.proofs.GroupLemmas.{aggregate_of_all, cost_of_all, meet_entries, sound_entries}
use Rattle.tsdb_aggregate.proofs.SpendLemmas.{spends_at_most, spends_fault}
use Rattle.tsdb_aggregate.proofs.fold.aggregate.Goals as goal

pub returns-in_err-tally-clause-spends : goal.returns-in_err-tally-clause-spends
returns-in_err-tally-clause-spends g c =
    let held = (g.D.Loader.state c.args.loader.now).held in
    let p = err_from_is_err_and c.from_residual-in_err-tally.result c.from_residual-in_err-tally.ensures.1 in
    let cost = ap (λ es. sum_by cost_of (held_parts held es)) c.deref.ensures.value ∙ cost_of_all c.args.range.now (zip c.args.pieces.now held) held _ (c.in_ok-entries.ensures.all held c.requires.one_each) in
    rw (p.1, p.2) (spends_fault _ _ _ _ _ _ _ (omega (arith, cost)) c.in_err-tally.ensures.spends)

pub returns-in_err-answer-clause-spends : goal.returns-in_err-answer-clause-spends
returns-in_err-answer-clause-spends g c =
    let held = (g.D.Loader.state c.args.loader.now).held in
    let p = err_from_is_err_and c.from_residual-in_err-answer.result c.from_residual-in_err-answer.ensures.1 in
    let cost = ap (λ es. sum_by cost_of (held_parts held es)) c.deref.ensures.value ∙ cost_of_all c.args.range.now (zip c.args.pieces.now held) held _ (c.in_ok-entries.ensures.all held c.requires.one_each) in
    spends_at_most _ _ _ _ _ _ c.in_ok-tally.tally _ (omega (arith, cost)) (rw p.1 p.2) c.in_ok-tally.ensures.spends

pub returns-clause-found : goal.returns-clause-found
returns-clause-found g c = λ sound.
    let held = (g.D.Loader.state c.args.loader.now).held in
    let range = c.args.range.now in
    let parts = zip c.args.pieces.now held in
    let entries = c.in_ok-entries.entries.items in
    let perm = c.in_ok-entries.ensures.all held c.requires.one_each in
    let inside = sound_entries c.args.name range parts held entries perm sound in
    let order : AllPairs ComesBefore entries = in_order range held entries c.in_ok-entries.ensures.order inside.apart (meet_entries range parts held entries perm) in
    let found = subst (λ es. ArePiecesSound c.args.name range (held_parts held es) → AllPairs ComesBefore es → HasTally held range c.args.name es c.in_ok-tally.tally) c.deref.ensures.value c.in_ok-tally.ensures.found in
    aggregate_of_all range parts held entries c.in_ok-tally.tally c.args.name c.in_ok-answer.field-0 perm sound (found inside order) c.in_ok-answer.ensures

pub returns-clause-spends : goal.returns-clause-spends
returns-clause-spends g c =
    let held = (g.D.Loader.state c.args.loader.now).held in
    let cost = ap (λ es. sum_by cost_of (held_parts held es)) c.deref.ensures.value ∙ cost_of_all c.args.range.now (zip c.args.pieces.now held) held _ (c.in_ok-entries.ensures.all held c.requires.one_each) in
    spends_at_most _ _ _ _ _ _ c.in_ok-tally.tally _ (omega (arith, cost)) tt c.in_ok-tally.ensures.spends
