-- The series of inputs in the order of their names, each once.
use Rattle.std.proofs.Common.{◌≡◌, ℕ, true, List, map, sym, ap, subst, ◌∙◌}
use Rattle.std.specs.List.{dedup}
use Rattle.std.specs.List.Sorted.{IsPermutation}
use Rattle.std.proofs.lemmas.List.Kept.{Any-dedup, Contains-from_dedup}
use Rattle.std.proofs.lemmas.List.Sorted.{Contains-permutation, IsPermutation-sym}
use Rattle.tsdb_tasks.specs.Series.{AreOfPaths, HavePaths, HasPathNames, input_names, input_path}
use Rattle.tsdb_tasks.specs.declared.series.InputSeries.{InputSeries}
use Rattle.tsdb_compactions.proofs.Members.{among, among_at, contained}
use Rattle.tsdb_path.proofs.Order.{names_same, same_equiv, same_names}
use Rattle.tsdb_path.specs.Order.{joined_names}
use Rattle.tsdb_base.proofs.Lists.{among_map, each_among, each_from_among}
use Rattle.tsdb_base.specs.Lists.{Among}
use Rattle.tsdb_memory.proofs.Frozen.{image_of}

-- two series with the same names have one path
one_path : (a b : InputSeries) → HasPathNames a → HasPathNames b → same_names input_names a b ≡ true → input_path a ≡ input_path b
one_path a b of_a of_b same =
    let alike = names_same input_names a b same in
    let device : a.names.0.now ≡ b.names.0.now = alike.0 in
    let measurement : a.names.1.now ≡ b.names.1.now = alike.1 in
    sym of_a.joined ∙ ap (λ (d : List ℕ). joined_names d a.names.1.now) device
    ∙ ap (λ (m : List ℕ). joined_names b.names.0.now m) measurement ∙ of_b.joined

pub kept : (paths : List (List ℕ)) (old sorted new : List InputSeries) → AreOfPaths paths old
    → IsPermutation old sorted → new ≡ dedup (same_names input_names) sorted → HavePaths paths new
kept paths old sorted new are moved is = record {
  same = λ path. (
    λ has.
        let image = image_of input_path new path has in
        subst (Among path) are.are (subst (λ (p : List ℕ). Among p (map input_path old)) image.is
        (among_map input_path old image.element (back image.element image.among))),
    λ has.
        let image = image_of input_path old path (subst (Among path) (sym are.are) has) in
        let stays = Any-dedup (same_equiv input_names) sorted image.element
        (Contains-permutation old sorted image.element moved (contained old image.element image.among)) in
        let there : Among stays.1 new = subst (Among stays.1) (sym is)
        (among_at (dedup (same_names input_names) sorted) stays.1 stays.0 stays.2 stays.3) in
        let same : input_path stays.1 ≡ path = sym (one_path image.element stays.1 (of image.element image.among)
        (of stays.1 (back stays.1 there)) stays.4) ∙ image.is in
        subst (λ (p : List ℕ). Among p (map input_path new)) same (among_map input_path new stays.1 there),
  );
  named = each_from_among HasPathNames new (λ one has. of one (back one has));
}
  where
    of : (one : InputSeries) → Among one old → HasPathNames one
    of one has = each_among HasPathNames old one are.named has

    back : (one : InputSeries) → Among one new → Among one old
    back one has = among old one (Contains-permutation sorted old one (IsPermutation-sym old sorted moved)
        (Contains-from_dedup (same_names input_names) sorted one (contained (dedup (same_names input_names) sorted) one
        (subst (Among one) is has))))
