use Rattle.std.proofs.Common.{rules}
use Rattle.std.proofs.lemmas.Fmt.{parse-decimal}
use Rattle.fs_outside.proofs.file_name.number_in.Goals as goal

pub returns : goal.returns
returns c = λ n fits is.
    let read = parse-decimal 64 n c.args.digits.now c.parse.result fits fits is c.parse.ensures.value.0 in
    search (read, rules)
