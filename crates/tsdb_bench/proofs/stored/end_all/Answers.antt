use Rattle.std.proofs.Common.{◌≡◌, Some, ap, sym, ◌∙◌, rules}
use Rattle.std.proofs.lemmas.List.Elements.{All-pop}
use Rattle.tsdb_bench.proofs.stored.end_all.Goals as goal

pub remove-requires-clause-rights : goal.remove-requires-clause-rights
remove-requires-clause-rights g c =
    let Fits : g.row.F-Sealed.Denot → Type 0 = λ sealed. (g.F.Sealed.SealedFile.rights sealed ≡ 0)
    × ((g.F.Sealed.SealedFile.file sealed).store ≡ g.F.Files.store c.args.files.now) in
    let outs = All-pop Fits c.loop-sealed.tokens.items c.pop.new.self.items (Some c.in-Some.sealed) c.in-Some.ensures.items c.loop-sealed.invariant.0 in
    outs.1.0

pub remove-requires-clause-store : goal.remove-requires-clause-store
remove-requires-clause-store g c =
    let Fits : g.row.F-Sealed.Denot → Type 0 = λ sealed. (g.F.Sealed.SealedFile.rights sealed ≡ 0)
    × ((g.F.Sealed.SealedFile.file sealed).store ≡ g.F.Files.store c.args.files.now) in
    let outs = All-pop Fits c.loop-sealed.tokens.items c.pop.new.self.items (Some c.in-Some.sealed) c.in-Some.ensures.items c.loop-sealed.invariant.0 in
    outs.1.1 ∙ sym (c.loop-sealed.invariant.2 ∙ c.requires.store)

pub loop-sealed-preserved-then-is_removal : goal.loop-sealed-preserved-then-is_removal
loop-sealed-preserved-then-is_removal g c =
    let Fits : g.row.F-Sealed.Denot → Type 0 = λ sealed. (g.F.Sealed.SealedFile.rights sealed ≡ 0)
    × ((g.F.Sealed.SealedFile.file sealed).store ≡ g.F.Files.store c.args.files.now) in
    let outs = All-pop Fits c.loop-sealed.tokens.items c.pop.new.self.items (Some c.in-Some.sealed) c.in-Some.ensures.items c.loop-sealed.invariant.0 in
    (outs.0, search rules, search rules)

pub read_one-requires-clause-rights : goal.read_one-requires-clause-rights
read_one-requires-clause-rights g c κs within =
    let Fits : g.row.F-Sealed.Denot → Type 0 = λ sealed. (g.F.Sealed.SealedFile.rights sealed ≡ 0)
    × ((g.F.Sealed.SealedFile.file sealed).store ≡ g.F.Files.store c.args.files.now) in
    let outs = All-pop Fits c.loop-sealed.tokens.items c.pop.new.self.items (Some c.in-Some.sealed) c.in-Some.ensures.items c.loop-sealed.invariant.0 in
    outs.1.0

pub read_one-requires-clause-store : goal.read_one-requires-clause-store
read_one-requires-clause-store g c κs within =
    let Fits : g.row.F-Sealed.Denot → Type 0 = λ sealed. (g.F.Sealed.SealedFile.rights sealed ≡ 0)
    × ((g.F.Sealed.SealedFile.file sealed).store ≡ g.F.Files.store c.args.files.now) in
    let outs = All-pop Fits c.loop-sealed.tokens.items c.pop.new.self.items (Some c.in-Some.sealed) c.in-Some.ensures.items c.loop-sealed.invariant.0 in
    outs.1.1 ∙ sym (c.loop-sealed.invariant.2 ∙ c.requires.store)

pub keep-requires-clause-rights : goal.keep-requires-clause-rights
keep-requires-clause-rights g c = c.read_one.ensures.rights

pub keep-requires-clause-store : goal.keep-requires-clause-store
keep-requires-clause-store g c =
    let Fits : g.row.F-Sealed.Denot → Type 0 = λ sealed. (g.F.Sealed.SealedFile.rights sealed ≡ 0)
    × ((g.F.Sealed.SealedFile.file sealed).store ≡ g.F.Files.store c.args.files.now) in
    let outs = All-pop Fits c.loop-sealed.tokens.items c.pop.new.self.items (Some c.in-Some.sealed) c.in-Some.ensures.items c.loop-sealed.invariant.0 in
    ap (λ file. file.store) c.read_one.ensures.file ∙ outs.1.1 ∙ sym c.loop-sealed.invariant.1

pub loop-sealed-preserved : goal.loop-sealed-preserved
loop-sealed-preserved g c =
    let Fits : g.row.F-Sealed.Denot → Type 0 = λ sealed. (g.F.Sealed.SealedFile.rights sealed ≡ 0)
    × ((g.F.Sealed.SealedFile.file sealed).store ≡ g.F.Files.store c.args.files.now) in
    let outs = All-pop Fits c.loop-sealed.tokens.items c.pop.new.self.items (Some c.in-Some.sealed) c.in-Some.ensures.items c.loop-sealed.invariant.0 in
    (outs.0, search rules, search rules)
