use Rattle.std.proofs.Common.{◌≡◌, ℕ, ◌<◌, ◌^◌, Bool, false, List, ◌++◌, refl, sym, ap, ◌∙◌, arith, rules, inl, inr, append_assoc}
use Rattle.std.proofs.lemmas.Grind.{common_steps}
use Rattle.std.proofs.lemmas.Result.{err_from_is_err_and}
use Rattle.tsdb_base.specs.Plain.{BeginsWithNone}
use Rattle.tsdb_bits.specs.Leb.{leb}
use Rattle.tsdb_bits.proofs.LebLaws.{leb_prefix_free}
use Rattle.enc_rle.specs.Spelling.{ValueRun, run_bytes}
use Rattle.enc_rle.specs.Steps.{MayFollowRun}
use Rattle.enc_rle.proofs.Runs.{first_run}
use Rattle.enc_rle.proofs.decode.next_run.Goals as goal

run_parts : (run : ValueRun) (bytes rest : List ℕ) → bytes ≡ run_bytes run ++ rest → bytes ≡ leb run.count ++ (leb run.code ++ rest)
run_parts run bytes rest e = e ∙ append_assoc (leb run.count) (leb run.code) rest

read_run : (count code : ℕ) (bytes middle behind : List ℕ) → bytes ≡ leb count ++ middle → middle ≡ leb code ++ behind → bytes ≡ leb count ++ (leb code ++ behind)
read_run count code bytes middle behind e f = e ∙ ap (λ (t : List ℕ). leb count ++ t) f

pub returns-in_err-count-clause-none : goal.returns-in_err-count-clause-none
returns-in_err-count-clause-none c =
    let q = err_from_is_err_and c.from_residual.result c.from_residual.ensures.1 in
    rw q.1 (λ run rest may e.
    c.in_err-count.ensures.none run.count (leb run.code ++ rest) (omega (arith, may.fits, c.ranges.room.fits)) (run_parts run c.args.bytes.now rest e))

pub returns-in_err-code-clause-none : goal.returns-in_err-code-clause-none
returns-in_err-code-clause-none c =
    let q = err_from_is_err_and c.from_residual-in_err-code.result c.from_residual-in_err-code.ensures.1 in
    rw q.1 (λ run rest may e.
    let k = leb_prefix_free c.in_ok-count.count run.count c.in_ok-count.rest.now (leb run.code ++ rest) (sym c.in_ok-count.ensures.found ∙ run_parts run c.args.bytes.now rest e) in
    c.in_err-code.ensures.none run.code rest may.small k.1)

pub returns-then-count-eq0-clause-none : goal.returns-then-count-eq0-clause-none
returns-then-count-eq0-clause-none c = λ run rest may e.
    let k = leb_prefix_free c.in_ok-count.count run.count c.in_ok-count.rest.now (leb run.code ++ rest) (sym c.in_ok-count.ensures.found ∙ run_parts run c.args.bytes.now rest e) in
    absurd (omega (arith, k.0, may.some, c.if-count-eq0.true))

pub returns-then-count-room-clause-none : goal.returns-then-count-room-clause-none
returns-then-count-room-clause-none c = λ run rest may e.
    let k = leb_prefix_free c.in_ok-count.count run.count c.in_ok-count.rest.now (leb run.code ++ rest) (sym c.in_ok-count.ensures.found ∙ run_parts run c.args.bytes.now rest e) in
    absurd (omega (arith, k.0, may.fits, c.if-count-room.true))

pub returns-then-code-last-clause-none : goal.returns-then-code-last-clause-none
returns-then-code-last-clause-none c = λ run rest may e.
    let k = leb_prefix_free c.in_ok-count.count run.count c.in_ok-count.rest.now (leb run.code ++ rest) (sym c.in_ok-count.ensures.found ∙ run_parts run c.args.bytes.now rest e) in
    let m = leb_prefix_free c.in_ok-code.code run.code c.in_ok-code.rest.now rest (sym c.in_ok-code.ensures.found ∙ k.1) in
    let not_first : c.args.is_first ≡ false = search rules in
    let repeats : c.in_ok-code.code ≡ c.args.last = search rules in
    may.differs not_first (sym m.0 ∙ repeats)

pub returns-clause-found : goal.returns-clause-found
returns-clause-found c = grind (arith, common_steps)

pub returns-clause-follows : goal.returns-clause-follows
returns-clause-follows c = search rules
