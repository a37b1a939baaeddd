use Rattle.std.proofs.Common.{ap, sym, ◌∙◌}
use Rattle.std.specs.Option.{option_copied}
use Rattle.tsdb_map.proofs.WorldLemmas.{get-world, in_names, IsDotless-name}
use Rattle.tsdb_map.proofs.catalog.Catalog.get.Goals as goal

pub returns-in_err-get : goal.returns-in_err-get
returns-in_err-get c =
    ap option_copied c.from_residual.ensures
    ∙ sym (get-world c.self.inside.devices _ c.self.invariant c.self.view_is c.args.device.now c.args.name.now (IsDotless-name _ c.sound.ensures)
    ∙ ap (λ o. in_names o c.args.name.now) (sym c.get.ensures.value ∙ ap option_copied c.in_err-get.was))

pub returns : goal.returns
returns c =
    c.get-2.ensures.value
    ∙ sym (get-world c.self.inside.devices _ c.self.invariant c.self.view_is c.args.device.now c.args.name.now (IsDotless-name _ c.sound.ensures)
    ∙ ap (λ o. in_names o c.args.name.now) (sym c.get.ensures.value ∙ ap option_copied c.in_ok-get.was))
