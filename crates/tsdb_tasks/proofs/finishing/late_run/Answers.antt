use Rattle.std.proofs.Common.{ℕ, List, ◌≤◌, sym, subst}
use Rattle.tsdb_tasks.proofs.Given.{once_late}
use Rattle.tsdb_fileset.specs.Files.{entry_numbers}
use Rattle.tsdb_base.specs.Lists.{count}
use Rattle.tsdb_plan.specs.declared.entry.FileEntry.{FileEntry}
use Rattle.tsdb_tasks.proofs.finishing.late_run.Goals as goal

pub run_of-requires-clause-once : goal.run_of-requires-clause-once
run_of-requires-clause-once g c =
    let Once : List FileEntry → Type 0 = λ entries. (number : ℕ) → count number (entry_numbers entries) ≤ 1 in
    subst Once (sym c.entries.ensures.entries) (once_late c.args.files.now c.entries.ensures.kept)
