-- Fields written one behind another are the bytes of the record.
use Rattle.std.proofs.Common.{◌≡◌, ℕ, ◌+◌, ◌<◌, List, [], ◌∷◌, ◌++◌, length, get_or, take, ap, sym, ◌∙◌, append_assoc}
use Rattle.std.specs.List.{flat_map}
use Rattle.std.proofs.lemmas.Grind.{flat_map-append}
use Rattle.std.proofs.lemmas.List.{append-nil, take_more}
use Rattle.tsdb_base.specs.declared.ids.FileNumber.{FileNumber}
use Rattle.tsdb_base.specs.declared.ids.Space.{Space}
use Rattle.tsdb_base.specs.declared.ids.Stamp.{Stamp}
use Rattle.tsdb_log.specs.declared.record.LogRecord.TheVariants.{Replaced}
use Rattle.tsdb_log.specs.Spelling.{joined_fields, files_fields, output_fields, spelling}
use Rattle.tsdb_log.specs.RowLaws.{bytes_append}

pub replaced_spelling : (born : Stamp) (space : Space) (place : ℕ) (output : FileNumber) (sequence unsequence : List FileNumber)
    → spelling (Replaced born space place output sequence unsequence) ≡ (6 ∷ []) ++ (joined_fields (output_fields born space place output) ++ (joined_fields (files_fields sequence) ++ joined_fields (files_fields unsequence)))
replaced_spelling born space place output sequence unsequence =
    let row = output_fields born space place output in
    ap (λ (l : List ℕ). 6 ∷ l) (bytes_append row (files_fields sequence ++ files_fields unsequence)
    ∙ ap (λ (l : List ℕ). joined_fields row ++ l) (bytes_append (files_fields sequence) (files_fields unsequence)))

-- one row more was written
pub row_more : {A : Type 0} (row : A → List (List ℕ)) (xs : List A) (i : ℕ) (a : A) (old middle new : List ℕ) → i < length xs → a ≡ get_or xs i a → middle ≡ old ++ joined_fields (flat_map row (take i xs))
    → new ≡ middle ++ joined_fields (row a) → new ≡ old ++ joined_fields (flat_map row (take (i + 1) xs))
row_more {A} row xs i a old middle new lt is before behind =
    let longer = take_more xs i a lt ∙ ap (λ (x : A). take i xs ++ x ∷ []) (sym is) in
    let rows = ap (λ (l : List A). flat_map row l) longer ∙ flat_map-append row (take i xs) (a ∷ []) ∙ ap (λ (l : List (List ℕ)). flat_map row (take i xs) ++ l) (append-nil (row a)) in
    let bytes = ap (λ (l : List (List ℕ)). joined_fields l) rows ∙ bytes_append (flat_map row (take i xs)) (row a) in
    behind ∙ ap (λ (l : List ℕ). l ++ joined_fields (row a)) before ∙ append_assoc old (joined_fields (flat_map row (take i xs))) (joined_fields (row a)) ∙ ap (λ (l : List ℕ). old ++ l) (sym bytes)
