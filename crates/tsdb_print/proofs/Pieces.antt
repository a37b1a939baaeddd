-- A text that is appended piece by piece.
use Rattle.std.proofs.Common.{◌≡◌, ℕ, List, [], ◌∷◌, ◌++◌, true, false, cond, refl, ap, ◌∙◌, append_assoc, append-nil}
use Rattle.std.specs.List.{flat_map}
use Rattle.tsdb_base.specs.declared.ids.Space.{Space}
use Rattle.tsdb_model.specs.declared.reply.FileLine.{FileLine}
use Rattle.tsdb_print.specs.Alike.{files_in_space}
use Rattle.tsdb_print.specs.Text.{file_text, files_text, line, same_space}

-- one more piece at the end of what was appended so far
pub one_more : (old so_far piece before after : List ℕ) → before ≡ old ++ so_far → after ≡ before ++ piece → after ≡ old ++ (so_far ++ piece)
one_more old so_far piece before after e f = f ∙ ap (λ l. l ++ piece) e ∙ append_assoc old so_far piece

-- two more pieces
pub two_more : (old so_far words digits before after : List ℕ) → before ≡ old ++ so_far → after ≡ before ++ words ++ digits
    → after ≡ old ++ (so_far ++ words ++ digits)
two_more old so_far words digits before after e f =
    one_more old (so_far ++ words) digits (before ++ words) after (one_more old so_far words before (before ++ words) e refl) f

-- the lines of files
abbrev pub file_lines : List FileLine → List ℕ
file_lines files = flat_map (λ file. line (file_text file)) files

-- the lines of the files of a space, file by file
pub files_by_file : (space : Space) (files : List FileLine)
    → flat_map (λ file. files_text space (file ∷ [])) files ≡ files_text space files
files_by_file space [] = refl
files_by_file space (file ∷ files) =
    ap (λ l. files_text space (file ∷ []) ++ l) (files_by_file space files)
    ∙ elim (same_space file.space space) as
    (λ b. file_lines (cond b (file ∷ []) []) ++ file_lines (files_in_space space files) ≡ file_lines (cond b (file ∷ files_in_space space files) (files_in_space space files)))
    [ true ↦ ap (λ l. l ++ file_lines (files_in_space space files)) (append-nil (line (file_text file))) | false ↦ refl ]
