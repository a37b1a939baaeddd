use Rattle.std.proofs.Common.{◌≡◌, ℕ, suc, ◌+◌, ◌-◌, ◌<◌, ◌≤◌, List, [], ◌∷◌, ◌++◌, length, drop, get_or, replicate, rules, arith, ap, sym, ◌∙◌, refl, append_assoc}
use Rattle.std.specs.Prelude.{map}
use Rattle.std.specs.List.{flat_map}
use Rattle.std.proofs.lemmas.Grind.{common_steps}
use Rattle.std.proofs.lemmas.List.{drop_more, drop_all, append-nil, length-map, replicate_more}
use Rattle.tsdb_bits.specs.Leb.{leb}
use Rattle.enc_rle.specs.Spelling.{ValueRun, maximal_runs, run_bytes, codes_spelling, spelling}
use Rattle.enc_rle.proofs.Runs.{run_in_front, starts_otherwise, no_runs}
use Rattle.enc_rle.proofs.encode.append.Goals as goal
use Rattle.enc_rle.proofs.encode.append.Goals.{then-count-gt0+then-code-last+in_ok-put_run, else-count-gt0, else-count-gt0-via-then-count-gt0+else-code-last, else-count-gt0-via-else-count-gt0}

-- the bytes so far, and those of the run that is open and of the codes to come
abbrev all_bytes : List ℕ → ℕ → ℕ → List ℕ → List ℕ
all_bytes out count last codes = out ++ flat_map run_bytes (maximal_runs (replicate count last ++ codes))

-- an open run is written when another value comes
written : (out now : List ℕ) (count last v : ℕ) (rest : List ℕ) → 0 < count → (v ≡ last → ⊥) → now ≡ out ++ (leb count ++ leb last) → all_bytes now 1 v rest ≡ all_bytes out count last (v ∷ rest)
written out now count last v rest some ne n =
    let k : count ≡ suc (count - 1) = omega arith in
    let front : maximal_runs (replicate count last ++ v ∷ rest) ≡ record { count = count; code = last } ∷ maximal_runs (v ∷ rest) =
    ap (λ (t : ℕ). maximal_runs (replicate t last ++ v ∷ rest)) k
    ∙ run_in_front (count - 1) last (v ∷ rest) (starts_otherwise v last rest (λ e. ne (sym e)))
    ∙ ap (λ (t : ℕ). record { count = t; code = last } ∷ maximal_runs (v ∷ rest)) (sym k) in
    ap (λ (t : List ℕ). t ++ flat_map run_bytes (maximal_runs (v ∷ rest))) n
    ∙ append_assoc out (leb count ++ leb last) (flat_map run_bytes (maximal_runs (v ∷ rest)))
    ∙ ap (λ (t : List ValueRun). out ++ flat_map run_bytes t) (sym front)

-- the same value makes it longer
longer : (count v : ℕ) (rest : List ℕ) → replicate count v ++ v ∷ rest ≡ replicate (count + 1) v ++ rest
longer count v rest = sym (append_assoc (replicate count v) (v ∷ []) rest) ∙ ap (λ (t : List ℕ). t ++ rest) (replicate_more count v)

grown : (out : List ℕ) (count last v : ℕ) (rest : List ℕ) → v ≡ last → all_bytes out (count + 1) v rest ≡ all_bytes out count last (v ∷ rest)
grown out count last v rest e =
    ap (λ (t : List ℕ). out ++ flat_map run_bytes (maximal_runs t)) (sym (longer count v rest)) ∙ ap (λ (t : ℕ). all_bytes out count t (v ∷ rest)) e

-- the first value opens one
opened : (out : List ℕ) (count last v : ℕ) (rest : List ℕ) → count ≡ 0 → all_bytes out (count + 1) v rest ≡ all_bytes out count last (v ∷ rest)
opened out count last v rest z = rw z refl

-- the value that is next
here : {A : Type 0} (code : A → ℕ) (values : List A) (i : ℕ) (item : A) (v : ℕ) → i < length values → item ≡ get_or values i item → v ≡ code item → map code (drop i values) ≡ v ∷ map code (drop (i + 1) values)
here {A} code values i item v lt is e =
    ap (map code) (drop_more values i item lt ∙ ap (λ (t : A). t ∷ drop (i + 1) values) (sym is)) ∙ ap (λ (t : ℕ). t ∷ map code (drop (i + 1) values)) (sym e)

-- the count is written
begins : (out now : List ℕ) (n : ℕ) (codes : List ℕ) → now ≡ out ++ leb n → length codes ≡ n → now ++ flat_map run_bytes (maximal_runs codes) ≡ out ++ codes_spelling codes
unfolding codes_spelling
begins out now n codes e l =
    ap (λ (t : List ℕ). t ++ flat_map run_bytes (maximal_runs codes)) (e ∙ ap (λ (t : ℕ). out ++ leb t) (sym l)) ∙ append_assoc out (leb (length codes)) (flat_map run_bytes (maximal_runs codes))

-- as the branches join
same_state : (out out' : List ℕ) (count count' v : ℕ) (rest whole : List ℕ) → out' ≡ out → count' ≡ count → all_bytes out (count + 1) v rest ≡ whole → all_bytes out' (count' + 1) v rest ≡ whole
same_state out out' count count' v rest whole p q k = rw (p, q) k

pub loop-value-init : goal.loop-value-init
loop-value-init g c = record {
  few = omega arith;
  to_come = begins c.args.into.now.items c.put_leb.new.into.items (length c.args.values.now) (map g.T.Coded.code_of c.args.values.now) c.in_ok-put_leb.ensures.ok (length-map c.args.values.now g.T.Coded.code_of);
  longer = search (rules, common_steps);
  kept = search (rules, common_steps);
}

pub loop-value-preserved : goal.loop-value-preserved
loop-value-preserved g c =
    let code = g.T.Coded.code_of in
    let l = c.loop-value in
    let j = c.if-count-gt0 in
    let values = c.args.values.now in
    let i = l.value-index in
    let v = c.code-code.result in
    let rest = map code (drop (i + 1) values) in
    let whole = c.args.into.now.items ++ spelling code values in
    let next = here code values i c.value-item.result v c.loop-value-test.true c.value-item.is c.code-code.ensures in
    let so_far : all_bytes l.into.items l.count l.last (v ∷ rest) ≡ whole =
    ap (λ (t : List ℕ). all_bytes l.into.items l.count l.last t) (sym next) ∙ l.invariant.to_come in
    record {
      few = elim j.branch [ then-count-gt0+then-code-last+in_ok-put_run w ↦ omega arith | else-count-gt0 w ↦ omega arith ];
      to_come = elim j.branch [
        | then-count-gt0+then-code-last+in_ok-put_run w ↦
            same_state w.put_run.new.into.items j.into.items 0 j.count v rest whole (ap (λ (x : _). x.items) w.into-is) w.count-is
            (written l.into.items w.put_run.new.into.items l.count l.last v rest (omega arith) (search rules) w.in_ok-put_run.ensures.ok ∙ so_far)
        | else-count-gt0 w ↦
            same_state l.into.items j.into.items l.count j.count v rest whole (ap (λ (x : _). x.items) w.into-is) w.count-is
            (elim w.else-count-gt0.branch [
              | else-count-gt0-via-then-count-gt0+else-code-last b ↦ grown l.into.items l.count l.last v rest (search rules) ∙ so_far
              | else-count-gt0-via-else-count-gt0 b ↦ opened l.into.items l.count l.last v rest (omega arith) ∙ so_far
            ])
      ];
      longer = elim j.branch [ then-count-gt0+then-code-last+in_ok-put_run w ↦ grind (arith, common_steps) | else-count-gt0 w ↦ grind (arith, common_steps) ];
      kept = elim j.branch [ then-count-gt0+then-code-last+in_ok-put_run w ↦ grind (arith, common_steps) | else-count-gt0 w ↦ grind (arith, common_steps) ];
    }

finished : {A : Type 0} (code : A → ℕ) (out final whole : List ℕ) (count last : ℕ) (values : List A) (i : ℕ) → length values ≤ i → 0 < count → final ≡ out ++ (leb count ++ leb last) → all_bytes out count last (map code (drop i values)) ≡ whole → final ≡ whole
finished code out final whole count last values i done some n so_far =
    let k : count ≡ suc (count - 1) = omega arith in
    let front : maximal_runs (replicate count last ++ []) ≡ record { count = count; code = last } ∷ [] =
    ap (λ (t : ℕ). maximal_runs (replicate t last ++ [])) k
    ∙ run_in_front (count - 1) last [] (rw no_runs tt)
    ∙ rw no_runs (ap (λ (t : ℕ). record { count = t; code = last } ∷ []) (sym k)) in
    n ∙ ap (λ (t : List ℕ). out ++ t) (sym (append-nil (leb count ++ leb last)))
    ∙ ap (λ (t : List ValueRun). out ++ flat_map run_bytes t) (sym front)
    ∙ ap (λ (t : List ℕ). all_bytes out count last t) (sym (ap (map code) (drop_all i values done)))
    ∙ so_far

none_open : {A : Type 0} (code : A → ℕ) (out whole : List ℕ) (count last : ℕ) (values : List A) (i : ℕ) → length values ≤ i → count ≡ 0 → all_bytes out count last (map code (drop i values)) ≡ whole → out ≡ whole
none_open code out whole count last values i done z so_far =
    let front : maximal_runs (replicate count last ++ []) ≡ [] = ap (λ (t : ℕ). maximal_runs (replicate t last ++ [])) z ∙ no_runs in
    sym (append-nil out)
    ∙ ap (λ (t : List ValueRun). out ++ flat_map run_bytes t) (sym front)
    ∙ ap (λ (t : List ℕ). all_bytes out count last t) (sym (ap (map code) (drop_all i values done)))
    ∙ so_far

pub returns-in_ok-put_run-2-clause-ok : goal.returns-in_ok-put_run-2-clause-ok
returns-in_ok-put_run-2-clause-ok g c =
    let code = g.T.Coded.code_of in
    let l = c.loop-value in
    let values = c.args.values.now in
    finished code l.into.items c.put_run-then-count-gt0-2.new.into.items (c.args.into.now.items ++ spelling code values) l.count l.last values l.value-index (omega arith) (omega arith) c.in_ok-put_run-2.ensures.ok l.invariant.to_come

pub returns-else-count-gt0-2-clause-ok : goal.returns-else-count-gt0-2-clause-ok
returns-else-count-gt0-2-clause-ok g c =
    let code = g.T.Coded.code_of in
    let l = c.loop-value in
    let values = c.args.values.now in
    none_open code l.into.items (c.args.into.now.items ++ spelling code values) l.count l.last values l.value-index (omega arith) (omega arith) l.invariant.to_come

pub returns-in_err-put_leb-clause-kept : goal.returns-in_err-put_leb-clause-kept
returns-in_err-put_leb-clause-kept g c = grind (arith, common_steps)

pub returns-in_err-put_run-clause-kept : goal.returns-in_err-put_run-clause-kept
returns-in_err-put_run-clause-kept g c = grind (arith, common_steps)

pub returns-in_err-put_run-2-clause-kept : goal.returns-in_err-put_run-2-clause-kept
returns-in_err-put_run-2-clause-kept g c = grind (arith, common_steps)

pub returns-in_ok-put_run-2-clause-kept : goal.returns-in_ok-put_run-2-clause-kept
returns-in_ok-put_run-2-clause-kept g c = grind (arith, common_steps)
