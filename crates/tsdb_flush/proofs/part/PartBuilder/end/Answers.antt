use Rattle.std.proofs.Common.{rules, ◌≡◌, ◌+◌, length, refl, sym, arith}
use Rattle.std.specs.Int.{w64}
use Rattle.std.proofs.lemmas.Int.{to_z-of_z}
use Rattle.tsdb_flush.proofs.PartsInMaking.{part_ended}
use Rattle.tsdb_flush.proofs.part.PartBuilder.end.Goals as goal

pub returns : goal.returns
returns c = record {
  ok = λ part points open_now count_is span.
      let schema = c.args.schema.now in
      let added : c.in-Some.total ≡ c.args.self.now.points + c.args.count = search rules in
      let counted : c.in-Some.total ≡ c.args.self.now.points + length points = omega (arith, added, count_is) in
      let spans = rw (to_z-of_z w64 c.args.from (search rules), to_z-of_z w64 c.args.to (search rules)) at c.in_ok-add_span.ensures.ok in
      part_ended part schema points _ _ c.args.self.now _ open_now span c.in_ok-device_of.ensures.device c.in_ok-device_of.ensures.measurement refl
      counted
      (spans points span part schema (sym c.in_ok-device_of.ensures.value) open_now.before open_now.hulls)
      (search rules);
}
