use Rattle.std.proofs.Common.{◌≡◌, List, subst, sym, rules}
use Rattle.std.specs.List.{All}
use Rattle.std.proofs.lemmas.List.Elements.{All-push}
use Rattle.tsdb_bench.proofs.stored.fetch_all.Goals as goal

pub returns-in-Err-clause-tokens : goal.returns-in-Err-clause-tokens
returns-in-Err-clause-tokens g c =
    let Fits : g.row.F-Sealed.Denot → Type 0 = λ sealed. (g.F.Sealed.SealedFile.rights sealed ≡ 0)
    × ((g.F.Sealed.SealedFile.file sealed).store ≡ g.F.Files.store c.args.files.now) in
    let Are : List g.row.F-Sealed.Denot → Type 0 = λ tokens. All Fits tokens in
    subst Are (sym {A = List g.row.F-Sealed.Denot} c.in-Err.ensures.items) c.loop-number.invariant.0

pub loop-number-preserved : goal.loop-number-preserved
loop-number-preserved g c =
    let Fits : g.row.F-Sealed.Denot → Type 0 = λ sealed. (g.F.Sealed.SealedFile.rights sealed ≡ 0)
    × ((g.F.Sealed.SealedFile.file sealed).store ≡ g.F.Files.store c.args.files.now) in
    let Are : List g.row.F-Sealed.Denot → Type 0 = λ tokens. All Fits tokens in
    let one : Fits c.in-Some.sealed = search rules in
    let all = All-push Fits c.loop-number.tokens.items c.in-Some.sealed c.loop-number.invariant.0 one in
    (subst Are (sym {A = List g.row.F-Sealed.Denot} c.in_default-push.ensures.items) all, search rules)

pub returns-in_default-push-clause-tokens : goal.returns-in_default-push-clause-tokens
returns-in_default-push-clause-tokens g c =
    let Fits : g.row.F-Sealed.Denot → Type 0 = λ sealed. (g.F.Sealed.SealedFile.rights sealed ≡ 0)
    × ((g.F.Sealed.SealedFile.file sealed).store ≡ g.F.Files.store c.args.files.now) in
    let Are : List g.row.F-Sealed.Denot → Type 0 = λ tokens. All Fits tokens in
    let one : Fits c.in-Some.sealed = search rules in
    let all = All-push Fits c.loop-number.tokens.items c.in-Some.sealed c.loop-number.invariant.0 one in
    subst Are (sym {A = List g.row.F-Sealed.Denot} c.in_default-push.ensures.items) all
