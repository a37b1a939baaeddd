use Rattle.std.proofs.Common.{of_z, refl, rules, sym, subst, to_z}
use Rattle.std.proofs.lemmas.Int.{to_z-of_z}
use Rattle.std.specs.Int.{w64}
use Rattle.std.specs.Prelude.{◌<◌}
use Rattle.tsdb_core.proofs.RowLemmas.{frozen_row, put_of, put_row, row_world}
use Rattle.tsdb_core.proofs.RowMoments.{row_leaves}
use Rattle.tsdb_memory.specs.LogState.{memory_of}
use Rattle.tsdb_base.specs.Limits.{end_of_numbers}
use Rattle.tsdb_core.proofs.engine.Core.put_row.Goals as goal

pub returns-in-Done-clause-row : goal.returns-in-Done-clause-row
returns-in-Done-clause-row g c =
    let old = c.args.self.now in
    let between = c.make_place.new.self in
    let put = put_of old between c.insert.new.self c.args.device.now c.args.row.now c.args.cells c.insert.result
    (c.in-Done.ensures.done refl) (c.in-Done.ensures.fits refl) c.in-Done.ensures.counts c.in-Done.ensures.limit
    c.in-Done.ensures.series c.in-Done.ensures.stamp c.requires.cells c.requires.stamp
    (to_z w64 (of_z w64 c.args.row.now.time)) (to_z-of_z w64 c.args.row.now.time (search rules))
    c.insert.ensures.command c.insert.ensures.memory in
    (put_row c.args.device.now c.args.row.now old (record between { logged = c.insert.new.self })
    (memory_of between.logged).stamp c.insert.result c.insert.ensures.answer
    (subst (λ n. n < end_of_numbers) (sym c.in-Done.ensures.stamp) c.requires.stamp) put).0

pub returns-in-Done-clause-world : goal.returns-in-Done-clause-world
returns-in-Done-clause-world g c =
    let old = c.args.self.now in
    let between = c.make_place.new.self in
    let put = put_of old between c.insert.new.self c.args.device.now c.args.row.now c.args.cells c.insert.result
    (c.in-Done.ensures.done refl) (c.in-Done.ensures.fits refl) c.in-Done.ensures.counts c.in-Done.ensures.limit
    c.in-Done.ensures.series c.in-Done.ensures.stamp c.requires.cells c.requires.stamp
    (to_z w64 (of_z w64 c.args.row.now.time)) (to_z-of_z w64 c.args.row.now.time (search rules))
    c.insert.ensures.command c.insert.ensures.memory in
    row_world old c.args.row.now c.in-Done.ensures.can c.args.device.now (record between { logged = c.insert.new.self })
    c.insert.result
    (put_row c.args.device.now c.args.row.now old (record between { logged = c.insert.new.self })
    (memory_of between.logged).stamp c.insert.result c.insert.ensures.answer
    (subst (λ n. n < end_of_numbers) (sym c.in-Done.ensures.stamp) c.requires.stamp) put).0

pub returns-in-Done-clause-moments : goal.returns-in-Done-clause-moments
returns-in-Done-clause-moments g c =
    let old = c.args.self.now in
    let between = c.make_place.new.self in
    let put = put_of old between c.insert.new.self c.args.device.now c.args.row.now c.args.cells c.insert.result
    (c.in-Done.ensures.done refl) (c.in-Done.ensures.fits refl) c.in-Done.ensures.counts c.in-Done.ensures.limit
    c.in-Done.ensures.series c.in-Done.ensures.stamp c.requires.cells c.requires.stamp
    (to_z w64 (of_z w64 c.args.row.now.time)) (to_z-of_z w64 c.args.row.now.time (search rules))
    c.insert.ensures.command c.insert.ensures.memory in
    row_leaves c.args.device.now c.args.row.now old c.in-Done.ensures.can (record between { logged = c.insert.new.self })
    c.insert.result
    (put_row c.args.device.now c.args.row.now old (record between { logged = c.insert.new.self })
    (memory_of between.logged).stamp c.insert.result c.insert.ensures.answer
    (subst (λ n. n < end_of_numbers) (sym c.in-Done.ensures.stamp) c.requires.stamp) put).0

pub returns-in_default : goal.returns-in_default
returns-in_default g c =
    let row = frozen_row c.args.device.now c.args.row.now c.args.self.now c.make_place.new.self c.make_place.result
    c.make_place.ensures.answer c.in_default.not-Done (c.make_place.ensures.failed c.in_default.not-Done) in
    record {
      row = row;
      tried = c.make_place.ensures.answer;
      moments = row_leaves c.args.device.now c.args.row.now c.args.self.now c.make_place.ensures.can
          c.make_place.new.self c.make_place.result row;
      world = row_world c.args.self.now c.args.row.now c.make_place.ensures.can c.args.device.now c.make_place.new.self
          c.make_place.result row;
    }
