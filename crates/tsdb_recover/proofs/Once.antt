-- A store is damaged in one part at one place at most.
use Rattle.std.proofs.Common.{◌≡◌, ◌∙◌, ℕ, List, [], ◌∷◌, ◌++◌, length, Option, None, Some, refl, sym, ap, subst, arith}
use Rattle.std.specs.List.{AllByRecursion as Each}
use Rattle.tsdb_state.specs.StoredEngine.{kept_bytes}
use Rattle.tsdb_base.proofs.Lists.{each_middle}
use Rattle.tsdb_outside.specs.Files.{StoredFile}
use Rattle.tsdb_recover.proofs.Rest.{found_each, none_is_some}
use Rattle.tsdb_recover.specs.Damage.{IsBadAt, IsDamagedFile, IsTreeFile}
use Rattle.tsdb_outside.specs.Limits.{FitsSlot}
use Rattle.tsdb_recover.specs.Taking.{HaveLengths}
use Rattle.tsdb_state.specs.Stores.{BytesByNumber}
use Rattle.tsdb_state.specs.State.{File, StoreState}
use Rattle.tsfile_reader.proofs.Blames.{one_blame}

some_is : (a b : List ℕ) → Some a ≡ Some b → a ≡ b
some_is a b same = cc

-- a file that is that of a tree is not bad
not_both : (files : BytesByNumber) (file : File) (at : ℕ) → IsTreeFile files file → IsBadAt (files file.number) at → ⊥
not_both files file at whole bad = by (files file.number) refl bad
  where
    by : (found : Option (List ℕ)) → files file.number ≡ found → IsBadAt found at → ⊥
    by None is bad = none_is_some whole.bytes (sym is ∙ whole.there)
    by (Some bytes) is bad =
        let same = some_is whole.bytes bytes (sym whole.there ∙ is) in
        (subst (λ l. IsBadAt (Some l) at) (sym same) bad).0 whole.tree whole.is_tree whole.is_made whole.is_file

-- where all listed files are those of trees, none is bad
pub none_damaged : (files : BytesByNumber) (store : StoreState) (number at : ℕ)
    → Each (IsTreeFile files) (store.sequence ++ store.unsequence) → IsDamagedFile files store number at → ⊥
none_damaged files store number at all damaged =
    not_both files damaged.file at
    (each_middle (IsTreeFile files) damaged.before damaged.file damaged.after
    (subst (Each (IsTreeFile files)) damaged.split all))
    (subst (λ n. IsBadAt (files n) at) (sym damaged.is) damaged.bad)

-- the first that is not as the others before it is one
first_is_one : (P : File → Type 0) (xs : List File) (x : File) (ys : List File) (bs : List File) (b : File)
    (cs : List File) → xs ++ x ∷ ys ≡ bs ++ b ∷ cs → Each P xs → (P x → ⊥) → Each P bs → (P b → ⊥) → x ≡ b
first_is_one P [] x ys [] b cs same before not also nor = heads x ys b cs same
  where
    heads : (x : File) (ys : List File) (b : File) (cs : List File) → x ∷ ys ≡ b ∷ cs → x ≡ b
    heads x ys b cs same = cc
first_is_one P [] x ys (c ∷ bs) b cs same before not also nor = absurd (not (subst P (sym (heads x ys c
    (bs ++ b ∷ cs) same)) also.0))
  where
    heads : (x : File) (ys : List File) (b : File) (cs : List File) → x ∷ ys ≡ b ∷ cs → x ≡ b
    heads x ys b cs same = cc
first_is_one P (a ∷ xs) x ys [] b cs same before not also nor = absurd (nor (subst P (heads a
    (xs ++ x ∷ ys) b cs same) before.0))
  where
    heads : (x : File) (ys : List File) (b : File) (cs : List File) → x ∷ ys ≡ b ∷ cs → x ≡ b
    heads x ys b cs same = cc
first_is_one P (a ∷ xs) x ys (c ∷ bs) b cs same before not also nor =
    first_is_one P xs x ys bs b cs (tails a (xs ++ x ∷ ys) c (bs ++ b ∷ cs) same) before.1 not also.1 nor
  where
    tails : (x : File) (ys : List File) (b : File) (cs : List File) → x ∷ ys ≡ b ∷ cs → ys ≡ cs
    tails x ys b cs same = cc

one_place : (stored : List StoredFile) (n at by : ℕ) → HaveLengths stored → IsBadAt (kept_bytes stored n) at
    → IsBadAt (kept_bytes stored n) by → at ≡ by
one_place stored n at other are bad also = by (kept_bytes stored n) refl bad also
  where
    by : (found : Option (List ℕ)) → kept_bytes stored n ≡ found → IsBadAt found at → IsBadAt found other → at ≡ other
    by None is bad also = bad ∙ sym also
    by (Some bytes) is bad also =
        one_blame bytes at other (omega (arith, (found_each (λ (file : StoredFile). FitsSlot (length file.bytes)) stored n bytes are is))) bad.1 also.1

pub one_damage : (stored : List StoredFile) (store : StoreState) (n at m place : ℕ) → HaveLengths stored
    → IsDamagedFile (kept_bytes stored) store n at → IsDamagedFile (kept_bytes stored) store m place
    → (n ≡ m) × (at ≡ place)
one_damage stored store n at m place are one two =
    let files = kept_bytes stored in
    let same = first_is_one (IsTreeFile files) one.before one.file one.after two.before two.file two.after
    (sym one.split ∙ two.split) one.whole
    (λ tree. not_both files one.file at tree (subst (λ n. IsBadAt (files n) at) (sym one.is) one.bad)) two.whole
    (λ tree. not_both files two.file place tree (subst (λ n. IsBadAt (files n) place) (sym two.is) two.bad)) in
    let number : n ≡ m = sym one.is ∙ ap (λ (file : File). file.number) same ∙ two.is in
    (number, one_place stored m at place are (subst (λ k. IsBadAt (files k) at) number one.bad) two.bad)
