-- The series in the order of their names, each once: none is lost.
use Rattle.std.proofs.Common.{◌≡◌, ℕ, ◌≤◌, true, List, map, sym, ap, subst, ◌∙◌, arith}
use Rattle.std.specs.Prelude.{All}
use Rattle.std.specs.List.{dedup}
use Rattle.std.specs.List.Sorted.{IsPermutation}
use Rattle.std.proofs.lemmas.List.Kept.{Any-dedup, Contains-from_dedup}
use Rattle.std.proofs.lemmas.List.Sorted.{Contains-permutation, IsPermutation-sym}
use Rattle.tsdb_base.specs.declared.ids.SeriesId.{SeriesId}
use Rattle.tsdb_flush.proofs.Members.{among, among_at, contained}
use Rattle.tsdb_flush.specs.TakingSteps.{AreSeriesOf, HasNumbers, IsSeriesOf, pair_names, schema_in}
use Rattle.tsdb_flush.specs.Taking.{HasPairPoint}
use Rattle.tsdb_flush.specs.declared.series.PairSeries.{PairSeries}
use Rattle.tsdb_base.proofs.Lists.{among_map, each_among, each_from_among}
use Rattle.tsdb_base.specs.Lists.{Among}
use Rattle.tsdb_model.specs.declared.command.Schema.{Schema}
use Rattle.tsdb_memory.proofs.Frozen.{image_of}
use Rattle.tsdb_memory.proofs.Numbers.{some_same}
use Rattle.tsdb_memory.proofs.Raises.{all_at}
use Rattle.tsdb_memory.specs.Model.{IsFormed}
use Rattle.tsdb_memory.specs.StateOfMemory.{number_of}
use Rattle.tsdb_memtable.specs.Pairs.{Pair}
use Rattle.tsdb_path.proofs.Parts.{child_of-device_of}
use Rattle.tsdb_path.proofs.Order.{names_same, same_equiv, same_names}
use Rattle.tsdb_path.specs.Nodes.{child_of, node_count}

module _ (all : List Schema) (pair : Pair) (formed : All IsFormed all) (once : HasNumbers all) where
  path_of : (one : PairSeries) → IsSeriesOf all pair one → child_of one.names.0.now one.names.1.now ≡ one.path.now
  path_of one of =
      let schema : IsFormed (schema_in one) = all_at IsFormed all one.id.0 (schema_in one) formed of.schema in
      let nodes : 2 ≤ node_count one.path.now = omega (arith, schema.suits.series) in
      ap (λ (n : List ℕ × List ℕ). child_of n.0 n.1) of.names ∙ child_of-device_of one.path.now nodes

  -- two series with the same names have one number
  one_id : (a b : PairSeries) → IsSeriesOf all pair a → IsSeriesOf all pair b → same_names pair_names a b ≡ true → a.id ≡ b.id
  one_id a b of_a of_b same =
      let alike = names_same pair_names a b same in
      let device : a.names.0.now ≡ b.names.0.now = alike.0 in
      let measurement : a.names.1.now ≡ b.names.1.now = alike.1 in
      let path : a.path.now ≡ b.path.now = sym (path_of a of_a) ∙ ap (λ (d : List ℕ). child_of d a.names.1.now) device ∙ ap (child_of b.names.0.now) measurement ∙ path_of b of_b in
      ap (λ n. record { 0 = n })
      (some_same a.id.0 b.id.0 (sym (once a.id.0 (schema_in a) of_a.schema) ∙ ap (λ (p : List ℕ). number_of all p) path ∙ once b.id.0 (schema_in b) of_b.schema))

  pub kept : (old sorted new : List PairSeries) → AreSeriesOf all pair old → IsPermutation old sorted → new ≡ dedup (same_names pair_names) sorted → AreSeriesOf all pair new
  kept old sorted new are moved is = record {
    each = each_from_among (IsSeriesOf all pair) new (λ one has. of one (back one has));
    numbers = record {
      filled = each_from_among (HasPairPoint pair) (map id_of new) (λ id has.
          let image = image_of id_of new id has in
          subst (HasPairPoint pair) image.is (each_among (HasPairPoint pair) (map id_of old) (id_of image.element) are.numbers.filled (among_map id_of old image.element (back image.element image.among))));
      whole = λ id has.
          let image = image_of id_of old id (are.numbers.whole id has) in
          let stays = Any-dedup (same_equiv pair_names) sorted image.element (Contains-permutation old sorted image.element moved (contained old image.element image.among)) in
          let there : Among stays.1 new = subst (Among stays.1) (sym is) (among_at (dedup (same_names pair_names) sorted) stays.1 stays.0 stays.2 stays.3) in
          let same : stays.1.id ≡ id = sym (one_id image.element stays.1 (of image.element image.among) (of stays.1 (back stays.1 there)) stays.4) ∙ image.is in
          subst (λ (i : SeriesId). Among i (map id_of new)) same (among_map id_of new stays.1 there);
    };
  }
    where
      id_of : PairSeries → SeriesId
      id_of one = one.id

      of : (one : PairSeries) → Among one old → IsSeriesOf all pair one
      of one has = each_among (IsSeriesOf all pair) old one are.each has

      back : (one : PairSeries) → Among one new → Among one old
      back one has =
          among old one (Contains-permutation sorted old one (IsPermutation-sym old sorted moved)
          (Contains-from_dedup (same_names pair_names) sorted one (contained (dedup (same_names pair_names) sorted) one (subst (Among one) is has))))
