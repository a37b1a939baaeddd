use Rattle.std.proofs.Common.{◌≡◌, [], ◌++◌, refl, sym, ap, ◌∙◌, rules, arith}
use Rattle.std.specs.List.{flat_map}
use Rattle.std.proofs.lemmas.List.{append-nil, nil_from_length, take-append-drop}
use Rattle.tsdb_index.proofs.Leaves.{nothing_written, leaf_more}
use Rattle.tsdb_index.proofs.writing.write_leaves.Goals as goal

pub leaves-init : goal.leaves-init
leaves-init c = nothing_written c.args.place c.args.entries.now record { bytes = c.new.result; pointers = c.new-2.result; count = 0 } c.requires c.new.ensures.items c.new-2.ensures.items refl

pub leaves-preserved : goal.leaves-preserved
leaves-preserved c =
    let leaf = c.split_at.result.0.now in
    let behind = c.split_at.result.1.now in
    let cut : c.leaves.rest.now ≡ c.split_at.result.0.now ++ c.split_at.result.1.now =
    rw (c.split_at.ensures.front, c.split_at.ensures.back) (sym (take-append-drop c.min.result c.leaves.rest.now)) in
    leaf_more c.args.place c.args.entries.now c.leaves.rest.now leaf behind c.leaves.leaves c.append_leaf.new.into c.leaves.invariant cut
    (omega (arith, c.split_at.ensures.front_len, c.min.ensures))
    (λ follow. omega (arith, follow, c.split_at.ensures.front_len, c.split_at.ensures.back_len, c.min.ensures))
    c.in_ok-append_leaf.ensures.ok

pub returns : goal.returns
returns c =
    let written = c.leaves.invariant in
    let none : c.leaves.rest.now ≡ [] = nil_from_length c.leaves.rest.now (search rules) in
    let whole = flat_map (λ leaf. leaf) written.leaves in
    record {
      leaves = written.leaves;
      stand = record { sizes = written.sizes none; all = sym (append-nil whole) ∙ ap (λ rest. whole ++ rest) (sym none) ∙ written.split };
      bytes_are = written.bytes_are;
      pointers_are = written.pointers_are;
      number_is = written.number_is;
    }

pub append_leaf-requires-clause-few : goal.append_leaf-requires-clause-few
append_leaf-requires-clause-few c = omega (arith, c.split_at.ensures.front_len, c.min.ensures)
