use Rattle.std.proofs.Common.{◌≡◌, ℕ, List, Err, [], ◌++◌, length, ap, ◌∙◌, sym, rules, arith}
use Rattle.std.specs.List.{flat_map}
use Rattle.std.proofs.lemmas.List.{append-nil, nil_from_length}
use Rattle.std.proofs.lemmas.Result.{err_from_is_err_and}
use Rattle.tsdb_base.specs.declared.fault.DecodeFault.TheVariants.{Bad}
use Rattle.tsdb_bits.specs.Leb.{leb}
use Rattle.tsdb_bits.proofs.ListLaws.{only_found}
use Rattle.enc_plain.specs.Spelling.{spelling}
use Rattle.enc_plain.proofs.PlainLaws.{behind_count, nothing_behind, same_from_spelling}
use Rattle.enc_plain.proofs.decode.decode.Goals as goal

pub returns-in_err-count-clause-bad : goal.returns-in_err-count-clause-bad
returns-in_err-count-clause-bad g c = λ is_bad values is.
    c.in_err-count.ensures.none (length values) (flat_map g.T.PlainValue.spelling values) is.list.few is.bytes_are

pub returns-in_err-values-clause-bad : goal.returns-in_err-values-clause-bad
returns-in_err-values-clause-bad g c = λ is_bad values is.
    let p = err_from_is_err_and c.from_residual-in_err-values.result c.from_residual-in_err-values.ensures.1 in
    let passed_on = rw (p.1, p.2) at is_bad in
    let bad_there : c.in_err-values.field-0.0 ≡ Bad = cc in
    let front = behind_count g.T.PlainValue.spelling values c.in_ok-count.count c.args.bytes.now c.in_ok-count.rest.now c.in_ok-count.ensures.found is.bytes_are in
    c.in_err-values.ensures.bad (ap (λ x. Err x) bad_there) values [] (front.0, is.list.typed) front.1

pub returns-then-not-is_empty-clause-bad : goal.returns-then-not-is_empty-clause-bad
returns-then-not-is_empty-clause-bad g c = λ is_bad values is.
    let nothing = nothing_behind g.T.PlainValue.spelling g.T.PlainValue.is_value g.met.T.PlainValue.prefix_free c.in_ok-values.values.items values c.in_ok-count.count c.args.bytes.now
    c.in_ok-count.rest.now c.in_ok-values.rest.now c.in_ok-count.ensures.found c.in_ok-values.ensures.found c.in_ok-values.ensures.count c.in_ok-values.ensures.values is.list.typed is.bytes_are in
    let none = ap length nothing in
    search rules

-- the bytes are those of the values that were read
whole : {A : Type 0} (each : A → List ℕ) (bytes middle rest : List ℕ) (count : ℕ) (values : List A) → bytes ≡ leb count ++ middle → middle ≡ flat_map each values ++ rest → length values ≡ count → rest ≡ [] → bytes ≡ spelling each values
whole each bytes middle rest count values e f number none =
    e ∙ ap (λ (n : ℕ). leb n ++ middle) (sym number) ∙ ap (λ (t : List ℕ). leb (length values) ++ t) (f ∙ ap (λ (t : List ℕ). flat_map each values ++ t) none ∙ append-nil (flat_map each values))

pub returns-clause-found : goal.returns-clause-found
returns-clause-found g c =
    let none : length c.in_ok-values.rest.now ≡ 0 = search rules in
    record {
      list = record { few = omega (arith, c.in_ok-values.ensures.count, c.in_ok-count.ensures.few); typed = c.in_ok-values.ensures.values };
      bytes_are = whole g.T.PlainValue.spelling c.args.bytes.now c.in_ok-count.rest.now c.in_ok-values.rest.now c.in_ok-count.count c.in_ok-values.values.items c.in_ok-count.ensures.found c.in_ok-values.ensures.found
          c.in_ok-values.ensures.count (nil_from_length c.in_ok-values.rest.now none);
    }

pub returns-clause-only : goal.returns-clause-only
returns-clause-only g c =
    only_found (spelling g.T.PlainValue.spelling) g.T.PlainValue.is_value (same_from_spelling g.T.PlainValue.spelling g.T.PlainValue.is_value g.met.T.PlainValue.prefix_free)
    c.args.bytes.now c.in_ok-values.values.items (returns-clause-found g c)
