use Rattle.std.proofs.Common.{◌≡◌, ◌-◌, ◌/◌, ℕ, length, ap, arith}
use Rattle.std.specs.Prelude.{min}
use Rattle.tsfile_reader.proofs.Alike.{ends_alike}
use Rattle.tsfile_reader.proofs.reader.wrong_leaf.Goals as goal
use Rattle.tsfile_reader.proofs.reader.wrong_leaf.Goals.{else-same-entries-via-then-same-entries+else-same-said, else-same-entries-via-else-same-entries}

pub returns-else-same-entries : goal.returns-else-same-entries
returns-else-same-entries c =
    let es = c.args.entries.now in
    let ss = c.args.said.now in
    let alike = c.count_same-same.ensures in
    let n = c.count_same-same.result in
    let m = c.min.ensures in
    let s = c.saturating_sub.ensures in
    let number : c.min.result ≡ min c.count_same-same.result (length c.args.entries.now - 1) = omega (arith, m, s) in (
      (λ same.
          let ends = ends_alike es ss n alike same in
          let end_e = ends.0 in
          let end_s = ends.1 in
          elim c.else-same-entries.branch [
            | else-same-entries-via-then-same-entries+else-same-said w ↦ (let f = w.if-same-said.false in grind (arith, f, end_s))
            | else-same-entries-via-else-same-entries w ↦ (let f = w.if-same-entries.false in grind (arith, f, end_e))
          ]),
      n,
      alike,
      ap (λ (k : ℕ). k / 256) number,
    )
