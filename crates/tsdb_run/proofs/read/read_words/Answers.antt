use Rattle.std.proofs.Common.{◌≡◌, ◌∷◌, rules, codes}
use Rattle.tsdb_run.proofs.ReadLemmas.{asked_found, asked_within, none_asked, words_follow}
use Rattle.tsdb_run.proofs.read.read_words.Goals as goal

pub returns-in_err-parts_of-clause-none : goal.returns-in_err-parts_of-clause-none
returns-in_err-parts_of-clause-none c =
    let words : c.args.words.now ≡ c.in_ok-first.first.now ∷ c.in_ok-first.behind.now = search rules in
    rw c.from_residual-in_err-parts_of.ensures
    (λ asked are. c.in_err-parts_of.ensures.none asked (words_follow c.args.words.now c.in_ok-first.behind.now c.in_ok-first.first.now asked words are).1)

pub returns-clause-none : goal.returns-clause-none
returns-clause-none c =
    none_asked c.args.words.now c.in_ok-first.behind.now c.in_ok-first.first.now c.in_ok-parts_of.field-0 (search rules) c.in_ok-parts_of.ensures.found
    c.asked.result c.asked.ensures.none

pub returns-clause-found : goal.returns-clause-found
returns-clause-found c =
    let run : c.in_ok-first.first.now ≡ codes "run" = search rules in
    asked_found c.args.words.now c.in_ok-first.behind.now c.in_ok-first.first.now c.in_ok-parts_of.field-0 (search rules) c.in_ok-parts_of.ensures.found
    run c.asked.result c.asked.ensures.found

pub returns-clause-limits : goal.returns-clause-limits
returns-clause-limits c =
    let run : c.in_ok-first.first.now ≡ codes "run" = search rules in
    asked_within c.args.words.now c.in_ok-first.behind.now c.in_ok-first.first.now c.in_ok-parts_of.field-0 (search rules) c.in_ok-parts_of.ensures.found
    run c.asked.result c.asked.ensures.found
