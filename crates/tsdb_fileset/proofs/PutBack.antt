-- Tokens that are given back one after another.
use Rattle.std.proofs.Common.{◌≡◌, ℕ, ◌+◌, ◌^◌, ◌<◌, List, [], ◌∷◌, ◌++◌, length, Option}
use Rattle.std.proofs.Common.{Some, None, refl, sym, ap, subst}
use Rattle.std.proofs.Common.{IfSome, ◌∙◌, arith}
use Rattle.std.proofs.lemmas.List.{append-nil, append_assoc}
use Rattle.tsdb_fileset.specs.Closing.{ArePutBack, IsGivenBack, names_at}
use Rattle.tsdb_fileset.specs.Places.{KeptFile, Places}
use Rattle.tsdb_outside.specs.Disk.{WhereTold}
use Rattle.tsdb_outside.specs.Files.{NamedFile, PutsBack, StoredFile}

-- what is at rest once these tokens are given back as well
abbrev pub IsAtRestAfter : List NamedFile → Option (List StoredFile) → Option (List StoredFile) → Type 0
IsAtRestAfter names old new = WhereTold (ArePutBack names) old new

none_put_back : (files : List StoredFile) → ArePutBack [] files files
none_put_back files [] named few = sym (append-nil files)
none_put_back files (other ∷ more) named few = absurd named

pub none_at_rest : (old : Option (List StoredFile)) → IsAtRestAfter [] old old
none_at_rest None = refl
none_at_rest (Some files) = none_put_back files

one_more_back : (name : NamedFile) (names : List NamedFile) (old now new : List StoredFile) → PutsBack name old now
    → ArePutBack names now new → ArePutBack (name ∷ names) old new
one_more_back name names old now new first rest [] named few = absurd named
one_more_back name names old now new first rest (file ∷ files) named few =
    let Put : Option (List ℕ) → Type 0 = λ told. IfSome told
    (λ bytes. length old + 1 < 2 ^ 63 → now ≡ old ++ record { number = name.number; bytes = bytes } ∷ []) in
    let put = subst Put named.0.bytes first (omega (arith, few)) in
    let one : now ≡ old ++ file ∷ [] =
    put ∙ ap (λ number. old ++ record { number = number; bytes = file.bytes } ∷ []) named.0.number in
    let bound = ap length one ∙ pushed old file in
    rest files named.1 (omega (arith, few, bound)) ∙ ap (λ l. l ++ files) one ∙ append_assoc old (file ∷ []) files
  where
    pushed : (xs : List StoredFile) (x : StoredFile) → length (xs ++ x ∷ []) ≡ length xs + 1
    pushed [] x = refl
    pushed (y ∷ xs) x = let rest = pushed xs x in omega (arith, rest)

one_more_at_rest : (name : NamedFile) (names : List NamedFile) (old now new : Option (List StoredFile))
    → WhereTold (PutsBack name) old now → IsAtRestAfter names now new → IsAtRestAfter (name ∷ names) old new
one_more_at_rest name names None now new first rest = subst (λ at. IsAtRestAfter names at new) first rest
one_more_at_rest name names (Some old) None new first rest = absurd first
one_more_at_rest name names (Some old) (Some now) None first rest = rest
one_more_at_rest name names (Some old) (Some now) (Some new) first rest =
    one_more_back name names old now new first rest

-- the token at the next place, where there is one
pub next_at_rest : (number : ℕ) (place : Option KeptFile) (places : Places) (old now new : Option (List StoredFile))
    → IsGivenBack place old now → IsAtRestAfter (names_at places) now new
    → IsAtRestAfter (names_at ((number, place) ∷ places)) old new
next_at_rest number None places old now new first rest = subst (λ at. IsAtRestAfter (names_at places) at new) first rest
next_at_rest number (Some file) places old now new first rest =
    one_more_at_rest file.name (names_at places) old now new first rest
