use Rattle.std.proofs.Common.{ℕ, List, ap, sym, ◌∙◌, subst}
use Rattle.std.specs.BTreeMap as tree
use Rattle.std.specs.BTreeMap.{BTreeMap}
use Rattle.std.proofs.lemmas.Result.{err_from_is_err_and}
use Rattle.std.specs.FinMap.{insert}
use Rattle.std.specs.Map.{keys_of}
use Rattle.std.specs.Option.{option_copied_mut}
use Rattle.tsdb_map.specs.Model.{AreOrderedDevices, world_of}
use Rattle.tsdb_map.proofs.WorldLemmas.{dotless-empty, dotless-put, dotless-same, IsDotless-name, kept-found, kept-new, kept-set, Names, path_cmp, world-new, world-same, world-set}
use Rattle.tsdb_map.proofs.catalog.Catalog.create.Goals as goal
use Rattle.tsdb_path.specs.Nodes.{child_of}

pub invariant_of-self : goal.invariant_of-self
invariant_of-self c =
    let found = sym c.get_mut.ensures.value ∙ ap option_copied_mut c.in-Some.is in
    let outer = c.get_mut.follows.holds c.insert.new.self in
    kept-set c.self.inside.devices (c.get_mut.follows.lender c.insert.new.self) c.self.invariant c.args.device c.insert.new.self outer.0 outer.4
    (dotless-same c.in-Some.names.now c.insert.new.self (kept-found c.self.inside.devices c.self.invariant c.args.device c.in-Some.names.now found) (ap keys_of c.in_err-insert.ensures.err))

pub returns-in_err-insert-clause-memory : goal.returns-in_err-insert-clause-memory
returns-in_err-insert-clause-memory c =
    let p = err_from_is_err_and c.from_residual.result c.from_residual.ensures.1 in
    let found = sym c.get_mut.ensures.value ∙ ap option_copied_mut c.in-Some.is in
    let outer = c.get_mut.follows.holds c.insert.new.self in
    rw p.1 (world-same c.self.inside.devices (c.get_mut.follows.lender c.insert.new.self) c.args.self.now c.self.view_is c.args.device c.in-Some.names.now c.insert.new.self
    found c.in_err-insert.ensures.err outer.0)

pub invariant_of-self-in-Some : goal.invariant_of-self-in-Some
invariant_of-self-in-Some c =
    let found = sym c.get_mut.ensures.value ∙ ap option_copied_mut c.in-Some.is in
    let outer = c.get_mut.follows.holds c.insert.new.self in
    kept-set c.self.inside.devices (c.get_mut.follows.lender c.insert.new.self) c.self.invariant c.args.device c.insert.new.self outer.0 outer.4
    (dotless-put c.in-Some.names.now c.insert.new.self c.args.name c.new-series.result (IsDotless-name _ c.sound.ensures)
    (kept-found c.self.inside.devices c.self.invariant c.args.device c.in-Some.names.now found) c.in_ok-insert.ensures.entries)

pub returns-in-Some-clause-created : goal.returns-in-Some-clause-created
returns-in-Some-clause-created c =
    let found = sym c.get_mut.ensures.value ∙ ap option_copied_mut c.in-Some.is in
    let outer = c.get_mut.follows.holds c.insert.new.self in
    world-set c.self.inside.devices (c.get_mut.follows.lender c.insert.new.self) c.args.self.now c.self.invariant c.self.view_is
    c.args.device c.args.name (IsDotless-name _ c.sound.ensures) c.in-Some.names.now c.insert.new.self c.new-series.result found c.in_ok-insert.ensures.updates.0 outer.0
    ∙ ap (insert c.args.self.now (child_of c.args.device c.args.name)) c.new-series.ensures

pub invariant_of-self-2 : goal.invariant_of-self-2
invariant_of-self-2 c =
    let kept = subst AreOrderedDevices (sym c.get_mut.follows.holds-at-none) c.self.invariant in
    kept-new c.get_mut.follows.lender-at-none c.insert-3.new.self kept c.args.device c.insert-2.new.self c.in_ok-insert-3.ensures.entries c.in_ok-insert-3.ensures.ordered
    (dotless-put c.new-names.result c.insert-2.new.self c.args.name c.new-series.result (IsDotless-name _ c.sound.ensures)
    (dotless-empty c.new-names.result c.new-names.ensures.empty) c.in_ok-insert-2.ensures.entries)

pub returns-clause-created : goal.returns-clause-created
returns-clause-created c =
    let kept = subst AreOrderedDevices (sym c.get_mut.follows.holds-at-none) c.self.invariant in
    let same = c.get_mut.follows.holds-at-none in
    let absent = ap (λ (m : BTreeMap (List ℕ) Names). tree.get path_cmp m c.args.device) same ∙ sym c.get_mut.ensures.value ∙ ap option_copied_mut c.in_default.is in
    world-new c.get_mut.follows.lender-at-none c.insert-3.new.self c.args.self.now kept (ap (λ (m : BTreeMap (List ℕ) Names). world_of m.entries) same ∙ c.self.view_is)
    c.args.device c.args.name (IsDotless-name _ c.sound.ensures) c.new-names.result c.insert-2.new.self c.new-series.result c.new-names.ensures.empty absent
    c.in_ok-insert-2.ensures.updates.0 c.in_ok-insert-3.ensures.entries
    ∙ ap (insert c.args.self.now (child_of c.args.device c.args.name)) c.new-series.ensures
