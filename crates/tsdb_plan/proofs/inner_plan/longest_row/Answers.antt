use Rattle.std.proofs.Common.{◌≡◌, ◌≤◌, false, length, take, rules, ⊎_elim, subst, arith}
use Rattle.std.proofs.lemmas.List.Elements.{All-more}
use Rattle.tsdb_plan.specs.InnerPlan.{IsInnerRow}
use Rattle.tsdb_base.specs.Limits.{max_plan_bytes}
use Rattle.tsdb_plan.proofs.Rows.{row_so_far, stops_at_claimed, stops_at_bytes, stops_at_ten, bytes_more}
use Rattle.tsdb_plan.proofs.inner_plan.longest_row.Goals as goal

pub loop-count-preserved : goal.loop-count-preserved
loop-count-preserved c =
    let files = c.args.files.now in
    let count = c.loop-count.count in
    let file = c.index-files-count.result in
    record {
      free = All-more (λ f. f.claimed ≡ false) files count file (omega arith) c.loop-count.invariant.free (search rules);
      few = omega arith;
      room = omega (arith, bytes_more files count file (omega arith) c.index-files-count.is);
    }

pub returns-then-file : goal.returns-then-file
returns-then-file c =
    let files = c.args.files.now in
    let count = c.loop-count.count in
    let inv = c.loop-count.invariant in
    let file = c.index-files-count.result in
    record {
      within = omega arith;
      row = row_so_far files count c.loop-count.room (omega arith) inv.free inv.few inv.room;
      longest = λ n within row. ⊎_elim
          (λ claimed. stops_at_claimed files count n file (omega arith) c.index-files-count.is claimed within row.free)
          (λ ten. stops_at_ten files count n ten.1 within row.few)
          c.then-file.either;
    }

pub returns-in_default : goal.returns-in_default
returns-in_default c =
    let files = c.args.files.now in
    let count = c.loop-count.count in
    let inv = c.loop-count.invariant in
    let file = c.index-files-count.result in
    let full : file.size ≤ c.loop-count.room → ⊥ = c.in_default.ensures in
    record {
      within = omega arith;
      row = row_so_far files count c.loop-count.room (omega arith) inv.free inv.few inv.room;
      longest = λ n within row. stops_at_bytes files count n c.loop-count.room max_plan_bytes file (omega arith) c.index-files-count.is inv.room (omega arith) row.fits;
    }

pub returns : goal.returns
returns c =
    let files = c.args.files.now in
    let count = c.loop-count.count in
    let inv = c.loop-count.invariant in
    let all : count ≡ length files = omega arith in
    let row : IsInnerRow (take count files) = row_so_far files count c.loop-count.room (omega arith) inv.free inv.few inv.room in
    record {
      within = omega arith;
      row = subst (λ n. IsInnerRow (take n files)) all row;
      longest = λ n within row. within;
    }
