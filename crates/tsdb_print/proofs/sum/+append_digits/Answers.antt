use Rattle.std.proofs.Common.{◌≡◌, ◌+◌, ◌%◌, ◌/◌, [], ◌∷◌, ◌++◌, OnOk, sym, ap, ◌∙◌, subst, append_assoc, arith}
use Rattle.std.specs.Fmt.{decimal}
use Rattle.std.proofs.lemmas.Fmt.{decimal_digit, decimal_step_wide}
use Rattle.tsdb_print.proofs.sum.+append_digits.Goals as goal

pub returns-then-number-lt10 : goal.returns-then-number-lt10
returns-then-number-lt10 t c =
    subst (λ l. OnOk c.append_digit.result (c.append_digit.new.into.items ≡ c.args.into.now.items ++ l))
    (sym (decimal_digit c.args.number c.if-number-lt10.true)) c.append_digit.ensures

pub returns : goal.returns
returns t c =
    let n = c.args.number in
    let old = c.args.into.now.items in
    let last = (48 + n % 10) ∷ [] in
    let whole : c.append_digits.new.into.items ++ last ≡ old ++ decimal n =
    ap (λ l. l ++ last) c.in_ok-append_digits.ensures ∙ append_assoc old (decimal (n / 10)) last
    ∙ ap (λ l. old ++ l) (sym (decimal_step_wide n c.if-number-lt10.false (omega arith))) in
    subst (λ l. OnOk c.append_digit-2.result (c.append_digit-2.new.into.items ≡ l)) whole c.append_digit-2.ensures
