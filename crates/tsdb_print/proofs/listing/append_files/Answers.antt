use Rattle.std.proofs.Common.{arith}
use Rattle.std.proofs.lemmas.Grind.{common_steps}
use Rattle.std.proofs.Common.{◌∷◌, [], ◌++◌, ◌∙◌, ap, take_all}
use Rattle.std.specs.List.{flat_map}
use Rattle.tsdb_print.specs.Text.{files_text}
use Rattle.tsdb_print.proofs.Pieces.{files_by_file}
use Rattle.tsdb_print.proofs.listing.append_files.Goals as goal

pub returns : goal.returns
returns c =
    let space = c.args.space in
    let files = c.args.files.now in
    c.loop-file.invariant
    ∙ ap (λ l. c.args.into.now.items ++ flat_map (λ file. files_text space (file ∷ [])) l) (take_all c.loop-file.file-index files c.loop-file-test.false)
    ∙ ap (λ l. c.args.into.now.items ++ l) (files_by_file space files)

pub loop-file-preserved : goal.loop-file-preserved
loop-file-preserved c = grind (arith, common_steps)
