-- The first files of a list, and the one behind them.
use Rattle.std.proofs.Common.{◌≡◌, List, [], ◌∷◌, ◌++◌, length, map, Option, None, Some, refl, sym, ap, ◌∙◌, subst, append_assoc, append-nil}
use Rattle.std.specs.Prelude.{slice_get}
use Rattle.std.proofs.lemmas.List.{length-map, map-append}
use Rattle.tsdb_recover.specs.Adopting.{AreFirst, wanted_of}
use Rattle.tsdb_base.specs.declared.ids.Space.{Space}
use Rattle.tsdb_base.specs.declared.ids.Space.TheVariants.{Sequence, Unsequence}
use Rattle.tsdb_fileset.specs.StateOfFiles.{listed}
use Rattle.tsdb_plan.specs.declared.entry.FileEntry.{FileEntry}
use Rattle.tsdb_state.specs.State.{File}

-- of the two, the one of the space
abbrev pub of_space : Space → Option File → Option File → Option File
of_space Sequence first late = first
of_space Unsequence first late = late

some_is : (a b : Space × File) → Some a ≡ Some b → a ≡ b
some_is a b same = cc

-- the wanted file is the first of its list that is not kept
pub wanted_is : (first late : Option File) (space : Space) (file : File) → wanted_of first late ≡ Some (space, file)
    → of_space space first late ≡ Some file
wanted_is (Some x) late space file is =
    let pair = some_is (Sequence, x) (space, file) is in
    subst (λ s. of_space s (Some x) late ≡ Some file) (ap (λ (p : Space × File). p.0) pair)
    (ap Some (ap (λ (p : Space × File). p.1) pair))
wanted_is None None space file is = absurd cc
wanted_is None (Some x) space file is =
    let pair = some_is (Unsequence, x) (space, file) is in
    subst (λ s. of_space s None (Some x) ≡ Some file) (ap (λ (p : Space × File). p.0) pair)
    (ap Some (ap (λ (p : Space × File). p.1) pair))

-- where no file is wanted, no list has one
pub none_wanted : (first late : Option File) → wanted_of first late ≡ None → (first ≡ None) × (late ≡ None)
none_wanted (Some x) late is = absurd cc
none_wanted None (Some x) is = absurd cc
none_wanted None None is = (refl, refl)

-- what stands behind the first ones
pub record Behind (file : File) (others : List File) : Type 0 where
  pub more : List File
  pub is : others ≡ file ∷ more

begins : (x file : File) (others : List File) → Some x ≡ Some file → Behind file (x ∷ others)
begins x file others same = record { more = others; is = let one : x ≡ file = cc in ap (λ f. f ∷ others) one }

behind_is : (xs others : List File) (file : File) → slice_get (xs ++ others) (length xs) ≡ Some file → Behind file others
behind_is [] [] file is = absurd cc
behind_is [] (x ∷ others) file is = begins x file others is
behind_is (x ∷ xs) others file is = behind_is xs others file is

-- the file behind the first ones, as the next of the list
pub next_behind : (entries : List FileEntry) (list : List File) (file : File) (first : AreFirst (map listed entries) list)
    → slice_get list (length entries) ≡ Some file → Behind file first.others
next_behind entries list file first is = behind_is (map listed entries) first.others file
    (subst (λ n. slice_get (map listed entries ++ first.others) n ≡ Some file)
    (sym (length-map {B = File} entries listed)) (subst (λ l. slice_get l (length entries) ≡ Some file) first.is is))

pub first_more : (entries : List FileEntry) (entry : FileEntry) (list : List File) (file : File)
    → AreFirst (map listed entries) list → slice_get list (length entries) ≡ Some file → listed entry ≡ file
    → AreFirst (map listed (entries ++ entry ∷ [])) list
first_more entries entry list file first is same =
    let next = next_behind entries list file first is in
    record {
      others = next.more;
      is = first.is ∙ ap (λ l. map listed entries ++ l) next.is ∙ ap (λ f. map listed entries ++ f ∷ next.more) (sym same)
          ∙ sym (append_assoc (map listed entries) (listed entry ∷ []) next.more)
          ∙ ap (λ l. l ++ next.more) (sym (map-append listed entries (entry ∷ [])));
    }

none_behind : (xs others : List File) → slice_get (xs ++ others) (length xs) ≡ None → others ≡ []
none_behind [] [] is = refl
none_behind [] (x ∷ others) is = absurd cc
none_behind (x ∷ xs) others is = none_behind xs others is

-- where no file stands behind the first ones, they are all
pub first_all : (entries : List FileEntry) (list : List File) → AreFirst (map listed entries) list
    → slice_get list (length entries) ≡ None → map listed entries ≡ list
first_all entries list first none =
    let no_others = none_behind (map listed entries) first.others
    (subst (λ n. slice_get (map listed entries ++ first.others) n ≡ None)
    (sym (length-map {B = File} entries listed)) (subst (λ l. slice_get l (length entries) ≡ None) first.is none)) in
    sym (first.is ∙ ap (λ l. map listed entries ++ l) no_others ∙ append-nil (map listed entries))
