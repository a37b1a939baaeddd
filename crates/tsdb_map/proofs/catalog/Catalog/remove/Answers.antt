use Rattle.std.proofs.Common.{ℕ, List, ap, sym, ◌∙◌, cond, is_some, Some}
use Rattle.std.specs.Cmp.{eq_by_cmp_equiv}
use Rattle.std.specs.Cmp.Lexicographic.{nat_list_cmp_total}
use Rattle.std.specs.BTreeMap as tree
use Rattle.std.specs.BTreeMap.{BTreeMap}
use Rattle.std.specs.Option.{option_copied_mut}
use Rattle.tsdb_map.specs.Model.{world_of}
use Rattle.tsdb_map.proofs.WorldLemmas.{dotless-drop, get-world, in_names, IsDotless-name, kept-found, kept-set, Names, path_cmp, remove-absent, world-drop}
use Rattle.tsdb_path.specs.Nodes.{child_of}
use Rattle.tsdb_map.proofs.catalog.Catalog.remove.Goals as goal

pub returns-in_default : goal.returns-in_default
returns-in_default c =
    let none = get-world c.self.inside.devices _ c.self.invariant c.self.view_is c.args.device.now c.args.name.now (IsDotless-name _ c.sound.ensures)
    ∙ ap (λ o. in_names o c.args.name.now) (sym c.get_mut.ensures.value ∙ ap option_copied_mut c.in_default.is) in
    ap (λ (m : BTreeMap (List ℕ) Names). world_of m.entries) c.get_mut.follows.holds-at-none ∙ c.self.view_is
    ∙ sym (remove-absent c.args.self.now (child_of c.args.device.now c.args.name.now) none)

pub invariant_of-self-2 : goal.invariant_of-self-2
invariant_of-self-2 c =
    let found = sym c.get_mut.ensures.value ∙ ap option_copied_mut c.in-Some.is in
    let outer = c.get_mut.follows.holds c.remove.new.self in
    kept-set c.self.inside.devices (c.get_mut.follows.lender c.remove.new.self) c.self.invariant c.args.device.now c.remove.new.self outer.0 outer.4
    (dotless-drop c.in-Some.names.now c.remove.new.self c.args.name.now (kept-found c.self.inside.devices c.self.invariant c.args.device.now c.in-Some.names.now found) c.remove.ensures.entries)

pub returns : goal.returns
returns c =
    let dotless = IsDotless-name _ c.sound.ensures in
    let found = sym c.get_mut.ensures.value ∙ ap option_copied_mut c.in-Some.is in
    let outer = c.get_mut.follows.holds c.remove.new.self in
    let after = kept-set c.self.inside.devices (c.get_mut.follows.lender c.remove.new.self) c.self.invariant c.args.device.now c.remove.new.self outer.0 outer.4
    (dotless-drop c.in-Some.names.now c.remove.new.self c.args.name.now (kept-found c.self.inside.devices c.self.invariant c.args.device.now c.in-Some.names.now found) c.remove.ensures.entries) in
    world-drop c.self.inside.devices (c.get_mut.follows.lender c.remove.new.self) c.args.self.now c.self.invariant after c.self.view_is
    c.args.device.now c.args.name.now dotless c.in-Some.names.now c.remove.new.self found
    ((outer.3 (ap is_some found)).0 c.args.device.now
    ∙ ap (λ b. cond b (Some c.remove.new.self) (tree.get path_cmp c.self.inside.devices c.args.device.now)) ((eq_by_cmp_equiv nat_list_cmp_total).refl c.args.device.now))
    (c.remove.ensures.updates.0) outer.0
