use Rattle.std.proofs.Common.{◌≡◌, ◌<◌, rules, true, false, List, Vec, Global, length, sym, ap, subst, ◌∙◌, arith}
use Rattle.std.proofs.lemmas.Bool.{true≢false}
use Rattle.tsdb_base.specs.declared.point.Point.{Point}
use Rattle.tsdb_fields.specs.declared.rest.Rest.{Rest}
use Rattle.tsfile_reader.specs.Page.{HasPage, LieIn}
use Rattle.tsdb_base.specs.Points.{IsRising}
use Rattle.tsfile_reader.proofs.OfTree.{page_outside, page_within}
use Rattle.tsfile_reader.proofs.PageBytes.{page_found, page_missing}
use Rattle.tsfile_reader.proofs.reader.read_points_at.Goals as goal

pub lie_in-requires-clause-some : goal.lie_in-requires-clause-some
lie_in-requires-clause-some g c = subst (λ (l : List Point). 0 < length l) (sym c.deref-in-Ok.ensures.value) c.in-Ok.ensures.parts.1.0.some

pub lie_in-requires-clause-rising : goal.lie_in-requires-clause-rising
lie_in-requires-clause-rising g c = subst IsRising (sym c.deref-in-Ok.ensures.value) c.in-Ok.ensures.parts.1.0.rising

pub returns-then-not-lie_in-clause-answers : goal.returns-then-not-lie_in-clause-answers
returns-then-not-lie_in-clause-answers g c =
    let o = (g.P.Right.ReadRight.file c.args.right.now).bytes in
    let p = c.in-Ok.ensures.parts in
    let stats = c.args.page.now.stats in
    let not : c.lie_in.result ≡ false = search rules in
    let apart : LieIn stats c.in-Ok.points.items → ⊥ = λ lie. true≢false (sym (c.lie_in.ensures.1 (subst (LieIn stats) (sym c.deref-in-Ok.ensures.value) lie)) ∙ not) in
    page_outside o c.args.entry.now c.args.page.now c.in-Ok.points.items
    (page_found o c.args.entry.now c.args.page.now c.in_ok-bytes.bytes.items c.in-Ok._behind.bytes.now c.in-Ok.points.items c.requires.suits c.in_ok-bytes.ensures.bytes (sym c.deref.ensures.value ∙ p.0.bytes) p.1) apart

pub returns-in-Ok-clause-answers : goal.returns-in-Ok-clause-answers
returns-in-Ok-clause-answers g c =
    let o = (g.P.Right.ReadRight.file c.args.right.now).bytes in
    let p = c.in-Ok.ensures.parts in
    let is : c.lie_in.result ≡ true = search rules in
    let lie = subst (LieIn c.args.page.now.stats) c.deref-in-Ok.ensures.value (c.lie_in.ensures.0 is) in
    page_within o c.args.entry.now c.args.page.now c.in-Ok.points.items
    (page_found o c.args.entry.now c.args.page.now c.in_ok-bytes.bytes.items c.in-Ok._behind.bytes.now c.in-Ok.points.items c.requires.suits c.in_ok-bytes.ensures.bytes (sym c.deref.ensures.value ∙ p.0.bytes) p.1) lie

pub returns-in-Ok-clause-points : goal.returns-in-Ok-clause-points
returns-in-Ok-clause-points g c = c.in-Ok.ensures.parts.1

pub returns-in-Ok-clause-within : goal.returns-in-Ok-clause-within
returns-in-Ok-clause-within g c =
    let is : c.lie_in.result ≡ true = search rules in
    subst (LieIn c.args.page.now.stats) c.deref-in-Ok.ensures.value (c.lie_in.ensures.0 is)

pub returns-clause-answers : goal.returns-clause-answers
returns-clause-answers g c =
    let o = (g.P.Right.ReadRight.file c.args.right.now).bytes in
    let v = c.in_ok-bytes.bytes in
    let rest : Rest = record {
      at = 0;
      bytes = c.deref.result;
      fits = let e = ap length c.deref.ensures.value in let a = v.ok.0 in let b = v.ok.1 in let s = v.small in omega (arith, e, a, b, s);
    } in
    page_missing (λ bytes (points : Vec Point Global). HasPage bytes c.args.entry.now c.args.page.now points.items) o c.args.entry.now c.args.page.now rest c.in_ok-bytes.bytes.items (λ (v : Vec Point Global). v.items) c.in-Err.fault c.of_part.result c.in_ok-bytes.ensures.bytes c.deref.ensures.value c.in-Err.ensures.parts c.of_part.ensures
