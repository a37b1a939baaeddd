use Rattle.tsdb_recover.proofs.Recovered.{each_answered, file_damage, if_err, if_ok, is_next, is_recovered}
use Rattle.tsdb_recover.proofs.Recovered.{log_answered}
use Rattle.tsdb_recover.proofs.Recovered.{damage_keeps, no_stray, none_gone, none_lost, strays_gone}
use Rattle.tsdb_recover.proofs.opening.recover.Goals as goal
use Rattle.std.proofs.Common.{ap, refl, ◌∙◌}
use Rattle.tsdb_frames.specs.Frames.{is_in_doubt}

pub open_files-requires-clause-some : goal.open_files-requires-clause-some
open_files-requires-clause-some g c κs within =
    let read = c.in-Ok.ensures.read in
    (read.items, read.recorded, record { shown = read.shown; replayed = read.replayed })

pub returns-in-Ok-clause-seen : goal.returns-in-Ok-clause-seen
returns-in-Ok-clause-seen g c =
    let read = c.in-Ok.ensures.read in
    let state = g.J.Disk.state c.args.journal in
    let rest = g.F.Files.at_rest c.args.files.now in
    if_ok c.open_files.result _ _ (λ core opens.
    is_recovered c.in-Ok.opening read.items read.recorded read.good read.replayed read.shown core c.in-Ok.log
    (g.F.Files.at_rest c.open_files.new.files) state rest state.seen refl read.records read.acknowledged opens)
    c.open_files.ensures.opened

pub returns-in-Ok-clause-next : goal.returns-in-Ok-clause-next
returns-in-Ok-clause-next g c =
    let read = c.in-Ok.ensures.read in
    if_ok c.open_files.result _ _ (λ core opens.
    is_next c.in-Ok.opening read.items read.recorded read.good read.replayed read.shown core c.in-Ok.log
    (g.F.Files.at_rest c.open_files.new.files) (g.F.Files.at_rest c.args.files.now)
    (g.J.Disk.state c.args.journal).seen read.records opens) c.open_files.ensures.opened

pub returns-in-Ok-clause-strays : goal.returns-in-Ok-clause-strays
returns-in-Ok-clause-strays g c =
    let read = c.in-Ok.ensures.read in
    if_ok c.open_files.result _ _ (λ core opens.
    no_stray c.in-Ok.opening read.items read.recorded read.good read.replayed read.shown core c.in-Ok.log
    (g.F.Files.at_rest c.open_files.new.files) (g.F.Files.at_rest c.args.files.now) opens) c.open_files.ensures.opened

pub returns-in-Ok-clause-damaged : goal.returns-in-Ok-clause-damaged
returns-in-Ok-clause-damaged g c =
    let read = c.in-Ok.ensures.read in
    if_err c.open_files.result _ _ (λ refused damages.
    file_damage c.in-Ok.opening read.items read.recorded read.good read.replayed read.shown
    (g.F.Files.at_rest c.args.files.now) (g.J.Disk.state c.args.journal).seen refused.fault read.records damages)
    c.open_files.ensures.damaged

pub returns-in-Ok-clause-each : goal.returns-in-Ok-clause-each
returns-in-Ok-clause-each g c =
    let read = c.in-Ok.ensures.read in
    each_answered c.in-Ok.opening read.items read.recorded read.good read.replayed read.shown c.in-Ok.log
    (g.F.Files.at_rest c.open_files.new.files) c.open_files.result (g.F.Files.at_rest c.args.files.now)
    (g.J.Disk.state c.args.journal).seen read.records c.open_files.ensures.opened c.open_files.ensures.damaged

pub returns-in-Err-clause-each : goal.returns-in-Err-clause-each
returns-in-Err-clause-each g c =
    log_answered (g.F.Files.at_rest c.args.files.now) (g.J.Disk.state c.args.journal).seen c.in-Err.refused.fault
    c.in-Err.ensures.damaged c.in-Err.ensures.each

pub returns-in-Ok-clause-left : goal.returns-in-Ok-clause-left
returns-in-Ok-clause-left g c =
    let read = c.in-Ok.ensures.read in
    if_err c.open_files.result _ _ (λ refused left.
    strays_gone c.in-Ok.opening read.items read.recorded read.good read.replayed read.shown
    (g.F.Files.at_rest c.args.files.now) (g.F.Files.at_rest c.open_files.new.files) (g.J.Disk.state c.args.journal).seen
    read.records left) c.open_files.ensures.left

pub returns-in-Err-clause-left : goal.returns-in-Err-clause-left
returns-in-Err-clause-left g c =
    none_gone (g.F.Files.at_rest c.args.files.now) (g.J.Disk.state c.args.journal).seen

pub returns-in-Ok-clause-no_doubt : goal.returns-in-Ok-clause-no_doubt
returns-in-Ok-clause-no_doubt g c = if_ok c.open_files.result _ _ (λ core same.
    ap (λ log. is_in_doubt log) same ∙ c.in-Ok.ensures.read.no_doubt) c.open_files.ensures.log

pub returns-in-Ok-clause-damaged_keeps : goal.returns-in-Ok-clause-damaged_keeps
returns-in-Ok-clause-damaged_keeps g c =
    let read = c.in-Ok.ensures.read in
    if_err c.open_files.result _ _ (λ refused keeps.
    damage_keeps c.in-Ok.opening read.items read.recorded read.good read.replayed read.shown
    (g.F.Files.at_rest c.args.files.now) (g.F.Files.at_rest c.open_files.new.files) refused.fault keeps)
    c.open_files.ensures.damaged_keeps

pub returns-in-Err-clause-damaged_keeps : goal.returns-in-Err-clause-damaged_keeps
returns-in-Err-clause-damaged_keeps g c = none_lost (g.F.Files.at_rest c.args.files.now) c.in-Err.refused.fault
