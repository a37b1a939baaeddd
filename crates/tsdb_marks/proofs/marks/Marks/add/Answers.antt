use Rattle.std.proofs.Common.{◌<◌, List, take, length, ap, sym, subst, ◌∙◌, rules, arith}
use Rattle.std.specs.Prelude.{FitsSigned}
use Rattle.std.specs.Int.{w64}
use Rattle.std.specs.List.{All}
use Rattle.std.proofs.lemmas.List.{take-append-le}
use Rattle.std.proofs.lemmas.List.Elements.{All-push}
use Rattle.std.proofs.lemmas.List.Quantifiers.{all_pairs_push}
use Rattle.tsdb_marks.specs.declared.marks.Mark.{Mark}
use Rattle.tsdb_marks.specs.Model.{HasTimes, IsIndexOf}
use Rattle.tsdb_marks.specs.Lists.{Marks}
use Rattle.tsdb_marks.proofs.ModelLemmas.{floor_push}
use Rattle.tsdb_marks.proofs.marks.Marks.add.Goals as goal

pub invariant_of-self : goal.invariant_of-self
invariant_of-self c =
    let old = c.self.inside in
    let known = c.self.invariant in
    let mark = c.args.mark in
    let same = ap (λ (v : Marks). v.marks) c.self.view_is in
    let places = ap (λ (v : Marks). v.spare) c.self.view_is in
    let New : List Mark → Type 0 = λ marks. All (λ kept. kept.version.0 < mark.version.0) marks in
    let newer = subst New (sym same) c.requires.newer in
    let Exact : List Mark → Type 0 = λ marks. IsIndexOf marks old.floor old.index.series.entries in
    let from : FitsSigned w64 mark.from = search rules in
    let to : FitsSigned w64 mark.to = search rules in
    record {
      times = rw c.in-Ok.ensures.items (All-push HasTimes old.marks.items mark known.times (record { from = from; to = to }));
      rising = rw c.in-Ok.ensures.items (all_pairs_push (λ (a b : Mark). a.version.0 < b.version.0) old.marks.items mark known.rising newer);
      indexed = omega (arith, known.indexed, ap (λ (ms : List Mark). length ms) c.in-Ok.ensures.items);
      exact = subst Exact (sym (ap (take old.indexed) c.in-Ok.ensures.items ∙ take-append-le old.indexed old.marks.items _ known.indexed)) known.exact;
      newer = rw c.in-Ok.ensures.items (floor_push old.floor old.marks.items mark known.newer newer);
      places = omega (arith, c.in-Ok.ensures.len, c.in-Ok.ensures.capacity, known.places);
    }
