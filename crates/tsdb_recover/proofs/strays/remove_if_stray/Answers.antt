use Rattle.tsdb_recover.specs.Adopting.{adopting_files}
use Rattle.tsdb_fileset.specs.Files.{kept_file}
use Rattle.tsdb_recover.proofs.FileLemmas.{in_some, match_some}
use Rattle.tsdb_recover.proofs.Gone.{less_in, match_none, missing_in, not_kept, taken_in}
use Rattle.tsdb_recover.proofs.strays.remove_if_stray.Goals as goal
use Rattle.std.proofs.Common.{◌∷◌, []}

pub returns-in-Ok-clause-gone : goal.returns-in-Ok-clause-gone
returns-in-Ok-clause-gone g c =
    let sealed = c.in-Ok-Some.sealed in
    let some = c.in-Ok-Some.field-0-is in
    let files = adopting_files c.args.adopting.now in
    let number = c.args.number.now.0 in
    taken_in number files (g.F.Sealed.SealedFile.file sealed) (g.F.Files.at_rest c.args.files.now)
    (g.F.Files.at_rest c.fetch.new.self) (in_some c.in-Ok-Some.field-0 sealed _ some c.in-Ok-Some.ensures.number).0
    (not_kept (kept_file number files) c.if-is_kept.ensures.kept)
    (match_some c.in-Ok-Some.field-0 sealed _ _ some c.in-Ok-Some.ensures.none)

pub returns-in-Err-clause-others : goal.returns-in-Err-clause-others
returns-in-Err-clause-others g c =
    let sealed = c.in-Ok-Some.sealed in
    let some = c.in-Ok-Some.field-0-is in
    let files = adopting_files c.args.adopting.now in
    let number = c.args.number.now.0 in
    less_in (number ∷ []) files (g.F.Files.at_rest c.args.files.now) (g.F.Files.at_rest c.fetch.new.self)
    (taken_in number files (g.F.Sealed.SealedFile.file sealed) (g.F.Files.at_rest c.args.files.now)
    (g.F.Files.at_rest c.fetch.new.self) (in_some c.in-Ok-Some.field-0 sealed _ some c.in-Ok-Some.ensures.number).0
    (not_kept (kept_file number files) c.if-is_kept.ensures.kept)
    (match_some c.in-Ok-Some.field-0 sealed _ _ some c.in-Ok-Some.ensures.none))

pub returns-in-Ok-None-clause-gone : goal.returns-in-Ok-None-clause-gone
returns-in-Ok-None-clause-gone g c =
    missing_in c.args.number.now.0 (adopting_files c.args.adopting.now) (g.F.Files.at_rest c.args.files.now)
    (g.F.Files.at_rest c.fetch.new.self)
    (match_none c.in-Ok-None.field-0 _ _ c.in-Ok-None.field-0-is c.in-Ok-None.ensures.none)
    (c.in-Ok-None.ensures.same c.in-Ok-None.field-0-is)
