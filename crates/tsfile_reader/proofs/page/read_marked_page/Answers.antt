use Rattle.std.proofs.Common.{List, ℕ, Vec, Global, Bor, Err, ap}
use Rattle.std.proofs.lemmas.Result.{err_from_is_err_and}
use Rattle.tsdb_base.specs.declared.point.Point.{Point}
use Rattle.tsdb_fields.proofs.Parts.{part_fault}
use Rattle.tsdb_pages.specs.File.{page_bytes}
use Rattle.tsfile_reader.specs.Page.{AreGood}
use Rattle.tsfile_reader.specs.Steps.{IsBodySize, body_bytes}
use Rattle.tsfile_reader.proofs.Heads.{no_body, no_points}
use Rattle.tsfile_reader.proofs.page.read_marked_page.Goals as goal

pub returns-in_err-body : goal.returns-in_err-body
returns-in_err-body c = record {
  parts =
      let p = err_from_is_err_and c.from_residual.result c.from_residual.ensures.1 in
      let lacks = part_fault body_bytes IsBodySize (page_bytes c.args.encoding) (AreGood c.args.data_type) c.args.rest c.in-Some.fields (λ (b : Bor (List ℕ)). b.now) (λ (v : Vec Point Global). v.items) c.in_err-body.field-0.0
      (no_body c.args.data_type c.args.encoding c.args.rest.bytes.now c.in-Some.fields.bytes.now c.requires.suits c.in-Some.ensures.bytes)
      c.in_err-body.ensures.parts in
      rw (p.1, p.2) lacks;
}

pub returns-in-Err-Bad : goal.returns-in-Err-Bad
returns-in-Err-Bad c = record {
  parts =
      let b = c.in_ok-body in
      no_points c.args.data_type c.args.encoding c.args.rest.bytes.now c.in-Some.fields.bytes.now b.body.now b.behind.bytes.now c.requires.suits c.in-Some.ensures.bytes b.ensures.parts.0.bytes b.ensures.parts.1 (c.in-Err-Bad.ensures.bad (ap (λ x. Err x) c.in-Err-Bad.field-0-is));
}
