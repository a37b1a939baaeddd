-- What was read of a file that was taken out, and what is at rest once its token is back.
use Rattle.std.proofs.Common.{◌≡◌, ◌∙◌, ℕ, ◌+◌, ◌^◌, ◌<◌, true, List, [], ◌∷◌, ◌++◌, length, Option, None, Some}
use Rattle.std.proofs.Common.{IfSome, inl, inr, refl, sym, ap, subst, arith, length-append, rules}
use Rattle.std.specs.Prelude.{Contains, Err, MatchOption, Ok, OnErr, Result, is_some}
use Rattle.std.proofs.lemmas.List.Elements.{Contains-append_right}
use Rattle.tsdb_outside.specs.Disk.{WhereTold}
use Rattle.tsdb_outside.specs.Files.{NamedFile, PutsBack, StoredFile, TakesOut, stored_file_numbers}
use Rattle.tsdb_recover.specs.Files.{AreAtRestAgain, IsDamagedAmong}
use Rattle.tsfile_reader.specs.Blame.{IsBlamed, IsNoFile}

-- what a token tells is what its file has
told_bytes : (bytes : Option (List ℕ)) (is : List ℕ) → true ≡ is_some bytes → IfSome bytes (λ told. told ≡ is) → bytes ≡ Some is
told_bytes None is some same = absurd cc
told_bytes (Some told) is some same = ap Some same

same_file : (number : ℕ) (bytes : List ℕ) (file : StoredFile) → number ≡ file.number → bytes ≡ file.bytes
    → record { number = number; bytes = bytes } ≡ file
same_file number bytes file numbers all =
    let made : ℕ → List ℕ → StoredFile = λ n l. record { number = n; bytes = l } in
    let same : made number bytes ≡ made file.number file.bytes = cc in same

-- a file that is not there
pub missing : (stored : Option (List StoredFile)) (number : ℕ) → IfSome stored (λ files. ¬ Contains (stored_file_numbers files) number)
    → IfSome stored (λ files. IsDamagedAmong files number 0)
missing None number none = tt
missing (Some files) number none = inl (none, refl)

module _ (name : NamedFile) (number : ℕ) (is : name.number ≡ number) where
  -- a file of which the check found the first bad part
  pub bad : (old now : Option (List StoredFile)) (at : ℕ) → WhereTold (TakesOut name) old now → is_some old ≡ is_some name.bytes
      → IfSome name.bytes IsNoFile → IfSome name.bytes (λ bytes. IsBlamed bytes at) → IfSome old (λ files. IsDamagedAmong files number at)
  bad None now at taken tells none blamed = tt
  bad (Some files) None at taken tells none blamed = absurd taken
  bad (Some files) (Some rest) at taken tells none blamed =
      let told = told_bytes name.bytes taken.file.bytes tells taken.names.bytes_are in
      inr (record {
        file = taken.file;
        there = subst (λ l. Contains l taken.file) (sym taken.old_is)
            (Contains-append_right taken.before (taken.file ∷ taken.after) taken.file (first taken.file taken.after));
        number_is = sym taken.names.number_is ∙ is;
        none = subst (λ o. IfSome o IsNoFile) told none;
        blamed = subst (λ o. IfSome o (λ bytes. IsBlamed bytes at)) told blamed;
      })
    where
      first : (file : StoredFile) (files : List StoredFile) → Contains (file ∷ files) file
      first file files = search rules

-- the token is back
pub put_back : (name : NamedFile) (old now new : Option (List StoredFile)) → WhereTold (TakesOut name) old now
    → WhereTold (PutsBack name) now new → is_some old ≡ is_some name.bytes → WhereTold AreAtRestAgain old new
put_back name None now new taken back tells =
    subst (λ o. WhereTold (PutsBack name) o new → new ≡ None) (sym taken) (λ none. none) back
put_back name (Some files) None new taken back tells = absurd taken
put_back name (Some files) (Some rest) None taken back tells = absurd back
put_back name (Some files) (Some rest) (Some news) taken back tells =
    let told = told_bytes name.bytes taken.file.bytes tells taken.names.bytes_are in
    let put = subst (λ o. IfSome o (λ bytes. length rest + 1 < 2 ^ 63 → news ≡ rest ++ record { number = name.number; bytes = bytes } ∷ [])) told back in
    inr (record {
      before = taken.before;
      file = taken.file;
      after = taken.after;
      old_is = taken.old_is;
      new_is = λ few.
          put (omega (
            arith,
            few,
            ap length taken.old_is,
            ap length taken.new_is,
            length-append taken.before (taken.file ∷ taken.after),
            length-append taken.before taken.after,
          ))
          ∙ ap (λ l. l ++ record { number = name.number; bytes = taken.file.bytes } ∷ []) taken.new_is
          ∙ ap (λ file. (taken.before ++ taken.after) ++ file ∷ [])
          (same_file name.number taken.file.bytes taken.file taken.names.number_is refl);
    })

-- what holds after an error leads to what else holds then
pub on_error : {T E : Type 0} (result : Result T E) (P Q : Type 0) → (P → Q) → OnErr result P → OnErr result Q
on_error (Ok value) P Q step holds = tt
on_error (Err fault) P Q step holds = step holds

-- what always holds does so after an error
pub always_on_err : {T E P : Type 0} (result : Result T E) → P → OnErr result P
always_on_err (Ok value) holds = tt
always_on_err (Err fault) holds = holds

-- what holds of an option holds of what is in it
pub in_some : {S : Type 0} (found : Option S) (x : S) (P : S → Type 0) → found ≡ Some x → IfSome found P → P x
in_some None x P is holds = absurd cc
in_some (Some y) x P is holds = let same : y ≡ x = cc in subst P same holds

pub match_some : {S : Type 0} (found : Option S) (x : S) (N : Type 0) (P : S → Type 0) → found ≡ Some x → MatchOption found N P → P x
match_some None x N P is holds = absurd cc
match_some (Some y) x N P is holds = let same : y ≡ x = cc in subst P same holds
