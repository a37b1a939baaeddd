use Rattle.std.proofs.Common.{◌≡◌, ◌∷◌, [], ◌++◌, take}
use Rattle.std.specs.List.{flat_map}
use Rattle.tsdb_print.specs.Text.{files_text}
use Rattle.tsdb_print.proofs.listing.append_files.Given as goal

abbrev pub invariant-loop-file : goal.invariant-loop-file
invariant-loop-file l = l.into.items ≡ l.fn.into.items ++ flat_map (λ file. files_text l.space (file ∷ [])) (take l.file-index l.files)
