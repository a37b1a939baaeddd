use Rattle.std.proofs.Common.{◌≡◌, ◌+◌, ◌-◌, ℕ, length, take, drop, ap, subst, sym, ◌∙◌}
use Rattle.tsdb_path.specs.Nodes.{IsPath, IsName, device_of, measurement_of, child_of}
use Rattle.tsdb_path.proofs.Parts.{IsName-measurement_of, child_of-device_of}
use Rattle.tsdb_path.proofs.Dots.{tail_is}
use Rattle.tsdb_path.proofs.path.Path.measurement.Goals as goal

pub returns-clause-name : goal.returns-clause-name
returns-clause-name c =
    let s : c.as_slice.result.now ≡ c.args.self.now = c.as_slice.ensures.value ∙ c.self.view_is in
    let d : c.deref.result.now ≡ c.args.self.now = c.deref.ensures.value ∙ c.self.view_is in
    let n : ℕ = c.last_dot-end.result + 1 in
    let e : take (length c.deref.result.now - n) (drop n c.deref.result.now) ≡ measurement_of c.args.self.now =
    tail_is c.deref.result.now n ∙ ap (drop n) (d ∙ sym s) ∙ c.last_dot-end.ensures.measurement ∙ ap measurement_of s in
    subst IsName (sym e) (IsName-measurement_of c.args.self.now (subst IsPath c.self.view_is c.self.invariant) c.requires)

pub returns-clause-again : goal.returns-clause-again
returns-clause-again c =
    let s : c.as_slice.result.now ≡ c.args.self.now = c.as_slice.ensures.value ∙ c.self.view_is in
    let d : c.deref.result.now ≡ c.args.self.now = c.deref.ensures.value ∙ c.self.view_is in
    let n : ℕ = c.last_dot-end.result + 1 in
    let e : take (length c.deref.result.now - n) (drop n c.deref.result.now) ≡ measurement_of c.args.self.now =
    tail_is c.deref.result.now n ∙ ap (drop n) (d ∙ sym s) ∙ c.last_dot-end.ensures.measurement ∙ ap measurement_of s in
    ap (child_of (device_of c.args.self.now)) e ∙ child_of-device_of c.args.self.now c.requires
