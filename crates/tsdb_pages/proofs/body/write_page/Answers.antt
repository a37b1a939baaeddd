use Rattle.std.proofs.Common.{arith}
use Rattle.std.proofs.lemmas.Grind.{common_steps}
use Rattle.std.proofs.Common.{◌≡◌, length, sym, ◌∙◌, rules}
use Rattle.tsdb_pages.proofs.Bodies.{length_fits}
use Rattle.tsdb_pages.proofs.body.write_page.Goals as goal

pub overflow_cast-len : goal.overflow_cast-len
overflow_cast-len c =
    let len : c.len.result ≡ length c.encode_i64_into.new.into.items = c.len.ensures ∙ c.encode_i64_into.new.into.ok.0 in
    let four : length c.in_ok-body.body.items ≡ 4 = sym c.in_ok-body.body.ok.0 ∙ c.in_ok-body.ensures.len in
    let small = length_fits c.len.result c.in_ok-times.times.items c.args.points.now c.in_ok-body.body.items c.encode_i64_into.new.into.items c.requires.points.few c.in_ok-times.ensures.same c.in_ok-times.ensures.fit
    (rw c.deref.ensures.value at c.in_ok-encode_i64_into.ensures.ok) four len in
    search (rules, small)

pub returns : goal.returns
returns c = grind (arith, common_steps)
