-- The tokens go on to tell what is kept.
use Rattle.std.proofs.Common.{◌≡◌, ◌≢◌, ℕ, ◌==◌, Bool, true, false, List, Option, Some, None, refl, sym, ap, subst, ◌∙◌}
use Rattle.std.specs.Cmp.{unsigned_Decides}
use Rattle.std.specs.Option.{option_map}
use Rattle.std.specs.Prelude.{IfSome}
use Rattle.std.proofs.lemmas.Bool.{false≢true}
use Rattle.tsdb_tasks.specs.Files.{NewFile}
use Rattle.tsdb_tasks.specs.States.{TellsOutput}
use Rattle.tsdb_fileset.specs.StateOfFiles.{TellTheirBytes}
use Rattle.tsdb_state.specs.StoredEngine.{kept_bytes}
use Rattle.tsdb_fileset.specs.Files.{KeptFiles, kept_file}
use Rattle.tsdb_fileset.specs.Places.{KeptFile}
use Rattle.tsdb_outside.specs.Files.{StoredFile}

-- the token tells the bytes that are kept under the number
abbrev Tells : List StoredFile → ℕ → KeptFile → Type 0
Tells kept n file = (file.name.number ≡ n) × (file.name.bytes ≡ kept_bytes kept n)

same_name : (P : KeptFile → Type 0) (f : KeptFile → KeptFile) → ((file : KeptFile) → P file → P (f file))
    → (o : Option KeptFile) → IfSome o P → IfSome (option_map f o) P
same_name P f step None tells = tt
same_name P f step (Some file) tells = step file tells

weaker : (P Q : KeptFile → Type 0) → ((file : KeptFile) → P file → Q file) → (o : Option KeptFile) → IfSome o P
    → IfSome o Q
weaker P Q step None tells = tt
weaker P Q step (Some file) tells = step file tells

pub tell_on : (kept : List StoredFile) (old new : KeptFiles) (f : ℕ → KeptFile → KeptFile)
    → ((n : ℕ) (file : KeptFile) → (f n file).name ≡ file.name)
    → ((n : ℕ) → kept_file n new ≡ option_map (f n) (kept_file n old)) → TellTheirBytes old kept
    → TellTheirBytes new kept
tell_on kept old new f names found tells n = subst (λ o. IfSome o (Tells kept n)) (sym (found n))
    (same_name (Tells kept n) (f n) (λ file said. (
      ap (λ x. x.number) (names n file) ∙ said.0,
      ap (λ x. x.bytes) (names n file) ∙ said.1,
    )) (kept_file n old) (tells n))

token_tells : (kept : List StoredFile) (n : ℕ) (file : Option NewFile)
    → IfSome file (λ one. (one.token.name.number ≡ n) × (one.token.name.bytes ≡ kept_bytes kept n))
    → IfSome (option_map (λ (one : NewFile). one.token) file) (Tells kept n)
token_tells kept n None tells = tt
token_tells kept n (Some one) tells = tells

pub tell_with : (kept told : List StoredFile) (old new : KeptFiles) (number : ℕ) (file : Option NewFile)
    (f : ℕ → KeptFile → KeptFile) → ((n : ℕ) (file : KeptFile) → (f n file).name ≡ file.name)
    → TellsOutput number file kept told → kept_file number new ≡ option_map (λ (one : NewFile). one.token) file
    → ((n : ℕ) → number ≢ n → kept_file n new ≡ option_map (f n) (kept_file n old)) → TellTheirBytes old kept
    → TellTheirBytes new told
tell_with kept told old new number file f names output here found tells n = by (number == n) refl
  where
    by : (b : Bool) → (number == n) ≡ b → IfSome (kept_file n new) (Tells told n)
    by true e =
        let same : number ≡ n = (unsigned_Decides number n).0 e in
        subst (λ m. IfSome (kept_file m new) (Tells told m)) same
        (subst (λ o. IfSome o (Tells told number)) (sym here) (token_tells told number file output.here))
    by false e =
        let apart : number ≢ n = λ same. false≢true (sym e ∙ (unsigned_Decides number n).1 same) in
        subst (λ o. IfSome o (Tells told n)) (sym (found n apart))
        (same_name (Tells told n) (f n) (λ file said. (
          ap (λ x. x.number) (names n file) ∙ said.0,
          ap (λ x. x.bytes) (names n file) ∙ said.1,
        )) (kept_file n old)
        (weaker (Tells kept n) (Tells told n) (λ file said. (said.0, said.1 ∙ sym (output.others n apart)))
        (kept_file n old) (tells n)))
