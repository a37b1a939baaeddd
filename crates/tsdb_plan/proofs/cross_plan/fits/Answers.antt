use Rattle.std.proofs.Common.{◌≡◌, ◌+◌, ◌≤◌, take, refl, ap, arith}
use Rattle.std.proofs.lemmas.Bool.{false≢true}
use Rattle.std.proofs.lemmas.List.{take_all}
use Rattle.std.proofs.lemmas.List.Sums.{sum_by-take-le}
use Rattle.tsdb_plan.specs.declared.entry.FileEntry.{FileEntry}
use Rattle.tsdb_plan.specs.Files.{total_bytes}
use Rattle.tsdb_plan.proofs.Rows.{bytes_more}
use Rattle.tsdb_plan.proofs.cross_plan.fits.Goals as goal

pub loop-file-preserved : goal.loop-file-preserved
loop-file-preserved c = omega (arith, bytes_more c.args.files.now c.loop-file.file-index c.file-item.result (omega arith) c.file-item.is, c.loop-file.invariant, c.in-Some.ensures)

pub returns-in_default : goal.returns-in_default
returns-in_default c =
    let files = c.args.files.now in
    let more = bytes_more files c.loop-file.file-index c.file-item.result (omega arith) c.file-item.is in
    let whole = sum_by-take-le (λ (f : FileEntry). f.size) files (c.loop-file.file-index + 1) in
    let full : c.file-item.result.size ≤ c.loop-file.left → ⊥ = c.in_default.ensures in
    (λ e. absurd (false≢true e), λ fits. absurd (omega (arith, more, whole, c.loop-file.invariant)))

pub returns : goal.returns
returns c =
    let files = c.args.files.now in
    let all : take c.loop-file.file-index files ≡ files = take_all c.loop-file.file-index files (omega arith) in
    let sum = ap total_bytes all in
    (λ _. omega (arith, sum, c.loop-file.invariant), λ _. refl)
