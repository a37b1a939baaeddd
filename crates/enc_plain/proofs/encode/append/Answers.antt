use Rattle.std.proofs.Common.{◌≡◌, ℕ, List, ◌++◌, length, take, rules, ap, ◌∙◌, append_assoc, arith}
use Rattle.std.proofs.lemmas.Grind.{common_steps}
use Rattle.std.specs.List.{flat_map}
use Rattle.std.proofs.Math.Seq.{take-append_seam}
use Rattle.tsdb_base.specs.Growth.{GrewByPrefix}
use Rattle.tsdb_bits.specs.Leb.{leb}
use Rattle.enc_plain.proofs.encode.append.Goals as goal

-- what was there stays in front
kept : (len : ℕ) (old first bytes middle new : List ℕ) → len ≡ length old → middle ≡ old ++ first → GrewByPrefix middle bytes new → take len new ≡ old
kept len old first bytes middle new l e grew =
    ap (λ (n : ℕ). take n new) l ∙ ap (take (length old)) (grew.grown ∙ ap (λ (t : List ℕ). t ++ grew.prefix) e ∙ append_assoc old first grew.prefix) ∙ take-append_seam old (first ++ grew.prefix)

pub returns-in_err-put_all-clause-kept : goal.returns-in_err-put_all-clause-kept
returns-in_err-put_all-clause-kept g c =
    kept _ c.args.into.now.items _ _ c.put_leb.new.into.items c.put_all.new.into.items (search rules) c.in_ok-put_leb.ensures.ok c.in_err-put_all.ensures.memory

pub returns-in_err-put_leb-clause-kept : goal.returns-in_err-put_leb-clause-kept
returns-in_err-put_leb-clause-kept g c = grind (arith, common_steps)

pub returns-clause-ok : goal.returns-clause-ok
returns-clause-ok g c =
    let values = flat_map g.T.PlainValue.spelling c.args.values.now in
    c.in_ok-put_all.ensures.ok ∙ ap (λ (t : List ℕ). t ++ values) c.in_ok-put_leb.ensures.ok ∙ append_assoc c.args.into.now.items (leb (length c.args.values.now)) values

pub returns-clause-kept : goal.returns-clause-kept
returns-clause-kept g c = grind (arith, common_steps)
