use Rattle.std.proofs.Common.{◌≡◌, ap, sym, ◌∙◌, is_some, Some}
use Rattle.std.specs.FinMap.{get}
use Rattle.std.specs.Option.{option_copied_mut}
use Rattle.tsdb_model.specs.World.{cut}
use Rattle.tsdb_map.proofs.WorldLemmas.{change-there, dotless-same, get-world, in_names, IsDotless-name, kept-found, kept-set, nothing, world-set}
use Rattle.tsdb_path.specs.Nodes.{child_of}
use Rattle.tsdb_map.proofs.catalog.Catalog.cut.Goals as goal

pub returns-in_default : goal.returns-in_default
returns-in_default c =
    nothing _ c.requires
    (get-world c.self.inside.devices _ c.self.invariant c.self.view_is c.args.device.now c.args.name.now (IsDotless-name _ c.sound.ensures)
    ∙ ap (λ o. in_names o c.args.name.now) (sym c.get_mut.ensures.value ∙ ap option_copied_mut c.in_default.is))

pub invariant_of-self-in_default-get_mut : goal.invariant_of-self-in_default-get_mut
invariant_of-self-in_default-get_mut c =
    nothing _ c.requires
    (get-world c.self.inside.devices _ c.self.invariant c.self.view_is c.args.device.now c.args.name.now (IsDotless-name _ c.sound.ensures)
    ∙ ap (λ o. in_names o c.args.name.now) (sym c.get_mut.ensures.value ∙ ap option_copied_mut c.in-Some.is)
    ∙ (sym c.get_mut-2.ensures.value ∙ ap option_copied_mut c.in_default-get_mut.is))

pub returns-in_default-get_mut : goal.returns-in_default-get_mut
returns-in_default-get_mut c =
    nothing _ c.requires
    (get-world c.self.inside.devices _ c.self.invariant c.self.view_is c.args.device.now c.args.name.now (IsDotless-name _ c.sound.ensures)
    ∙ ap (λ o. in_names o c.args.name.now) (sym c.get_mut.ensures.value ∙ ap option_copied_mut c.in-Some.is)
    ∙ (sym c.get_mut-2.ensures.value ∙ ap option_copied_mut c.in_default-get_mut.is))

pub invariant_of-self-2 : goal.invariant_of-self-2
invariant_of-self-2 c =
    let found = sym c.get_mut.ensures.value ∙ ap option_copied_mut c.in-Some.is in
    let outer = c.get_mut.follows.holds (c.get_mut-2.follows.lender c.cut.new.self) in
    let inner = c.get_mut-2.follows.holds c.cut.new.self in
    kept-set c.self.inside.devices (c.get_mut.follows.lender (c.get_mut-2.follows.lender c.cut.new.self)) c.self.invariant c.args.device.now (c.get_mut-2.follows.lender c.cut.new.self) outer.0 outer.4
    (dotless-same c.in-Some.names.now (c.get_mut-2.follows.lender c.cut.new.self) (kept-found c.self.inside.devices c.self.invariant c.args.device.now c.in-Some.names.now found) inner.1)

pub returns : goal.returns
returns c =
    let world = c.args.self.now in
    let path = child_of c.args.device.now c.args.name.now in
    let dotless = IsDotless-name _ c.sound.ensures in
    let found = sym c.get_mut.ensures.value ∙ ap option_copied_mut c.in-Some.is in
    let series = sym c.get_mut-2.ensures.value ∙ ap option_copied_mut c.in-Some-get_mut.is in
    let there : get world path ≡ Some c.in-Some-get_mut.series.now =
    get-world c.self.inside.devices _ c.self.invariant c.self.view_is c.args.device.now c.args.name.now dotless ∙ ap (λ o. in_names o c.args.name.now) found ∙ series in
    let outer = c.get_mut.follows.holds (c.get_mut-2.follows.lender c.cut.new.self) in
    let inner = c.get_mut-2.follows.holds c.cut.new.self in
    world-set c.self.inside.devices (c.get_mut.follows.lender (c.get_mut-2.follows.lender c.cut.new.self)) world c.self.invariant c.self.view_is
    c.args.device.now c.args.name.now dotless c.in-Some.names.now (c.get_mut-2.follows.lender c.cut.new.self) c.cut.new.self found ((inner.3 (ap is_some series)).0) outer.0
    ∙ change-there world path (cut c.args.range.now) c.in-Some-get_mut.series.now c.cut.new.self there c.cut.ensures
