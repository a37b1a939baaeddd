-- The wanted file is taken up: what is kept, at rest, whole and described then.
use Rattle.std.proofs.Common.{◌≡◌, ◌∙◌, ℕ, ◌+◌, List, [], ◌∷◌, ◌++◌, length, Option, None, Some, IfSome}
use Rattle.std.proofs.Common.{sym, ap, subst, arith, length-append}
use Rattle.std.specs.Prelude.{is_some}
use Rattle.tsdb_recover.proofs.Adopted.{wanted_listed}
use Rattle.tsdb_recover.specs.Adopting.{AreDescribed, IsAdopted, IsReadOf}
use Rattle.tsdb_base.specs.declared.ids.Space.{Space}
use Rattle.tsdb_base.specs.declared.ids.Space.TheVariants.{Sequence, Unsequence}
use Rattle.tsdb_fileset.specs.StateOfFiles.{TellTheirBytes, listed}
use Rattle.tsdb_state.specs.StoredEngine.{IsKeptWhole, kept_bytes}
use Rattle.tsdb_index.specs.declared.index.FileMeta.{FileMeta}
use Rattle.tsdb_fileset.specs.Files.{Appends, KeptFiles, kept_file}
use Rattle.tsdb_fileset.specs.Places.{KeptFile}
use Rattle.tsdb_base.proofs.Lists.{each_among}
use Rattle.tsdb_outside.specs.Disk.{WhereTold}
use Rattle.tsdb_outside.specs.Files.{NamedFile, StoredFile, TakesOut}
use Rattle.tsdb_pages.specs.File.{IsFile}
use Rattle.tsdb_pages.specs.Trees.{IsMade, IsTree}
use Rattle.tsdb_pages.specs.declared.tree.Tree.{Tree}
use Rattle.tsdb_plan.specs.declared.entry.FileEntry.{FileEntry}
use Rattle.tsdb_recover.proofs.AtRest.{more_kept, tells_stored, was_stored}
use Rattle.tsdb_recover.proofs.Trees.{next_is, tree_with}
use Rattle.tsdb_recover.specs.Taking.{AreTakenUp, IsNextFile, IsRest, IsTakingUp, kept_count}
use Rattle.tsdb_state.specs.State.{File, StoreState, ToldContents}
use Rattle.tsdb_state.specs.StoreOrder.{StoreInOrder}
use Rattle.tsfile_reader.specs.Blame.{IsMetaOfTree}
use Rattle.tsfile_reader.specs.Meta.{IsMetaOf}

listed_is : (entry : FileEntry) (file : File) → entry.number.0 ≡ file.number → entry.born.0 ≡ file.born
    → listed entry ≡ file
listed_is entry file number born = λ i. record { number = number i; born = born i }

one_longer : (entries new : List FileEntry) (entry : FileEntry) → new ≡ entries ++ entry ∷ []
    → length new ≡ length entries + 1
one_longer entries new entry is = omega (arith, ap length is, length-append entries (entry ∷ []))

counted_more : (space : Space) (entry : FileEntry) (old new : KeptFiles) → Appends space entry old new
    → kept_count new ≡ kept_count old + 1
counted_more Sequence entry old new list =
    omega (arith, one_longer old.sequence new.sequence entry list.0, ap length list.1)
counted_more Unsequence entry old new list =
    omega (arith, ap length list.0, one_longer old.unsequence new.unsequence entry list.1)

-- one file more is kept
pub one_more : (name : NamedFile) (meta : FileMeta) (store : StoreState) (old new : KeptFiles)
    → IsAdopted name meta store old new → kept_count new ≡ kept_count old + 1
one_more name meta store old new adopted = counted_more adopted.space adopted.entry old new adopted.taken.list

module _ (stored : List StoredFile) (number : ℕ) (name : NamedFile) (meta : FileMeta) (store : StoreState)
    (old new : KeptFiles) (is : name.number ≡ number) (next : IsNextFile number old store)
    (adopted : IsAdopted name meta store old new) where
  -- the file of the list has the number of the token
  file_is : adopted.file.number ≡ name.number
  file_is = next_is number old store (adopted.space, adopted.file) adopted.wanted next ∙ sym is

  entry_is : adopted.entry.number.0 ≡ name.number
  entry_is = adopted.kept.number ∙ file_is

  abbrev token : KeptFile
  token = record { name = name; series = adopted.series; rights = 0 }

  module _ (rest now : List StoredFile) (taken : TakesOut name rest now) (tells : is_some
      (Some rest) ≡ is_some name.bytes)
      (up : IsRest stored old rest) where
    bytes_are : name.bytes ≡ kept_bytes stored name.number
    bytes_are = tells_stored stored name rest now old taken up tells

    -- what was read of it is of the points that are told of it
    read_is : (told : ToldContents) → IfSome name.bytes (λ bytes. (tree : Tree) → IsTree tree → IsMade tree → IsFile tree bytes
        → IsMetaOf tree bytes meta) → IsKeptWhole stored told adopted.file → IsReadOf meta (told name.number)
    read_is told says whole =
        let same = bytes_are ∙ ap (kept_bytes stored) (sym file_is) ∙ whole.there in
        let read = subst (λ o. IfSome o (λ bytes. (tree : Tree) → IsTree tree → IsMade tree → IsFile tree bytes
        → IsMetaOf tree bytes meta)) same says in
        subst (λ n. IsReadOf meta (told n)) file_is (record {
          bytes = whole.bytes;
          whole = record {
            tree = whole.tree;
            is = whole.is_tree;
            made = whole.is_made;
            file = whole.is_file;
            says = read whole.tree whole.is_tree whole.is_made whole.is_file;
          };
          content_is = whole.content;
        })

    taken_up : IfSome name.bytes (λ bytes. IsMetaOfTree bytes meta)
        → IfSome name.bytes (λ bytes. (tree : Tree) → IsTree tree → IsMade tree → IsFile tree bytes
        → IsMetaOf tree bytes meta)
        → ((kept : List StoredFile) → TellTheirBytes old kept → name.bytes ≡ kept_bytes kept name.number
        → TellTheirBytes new kept)
        → ((told : ToldContents) → StoreInOrder told store → IsReadOf meta (told name.number) → AreDescribed told old
        → AreDescribed told new)
        → AreTakenUp stored store old → IsTakingUp stored store new (Some now)
    taken_up whole says tell describe kept =
        let there = was_stored stored name rest now old taken up in
        let tree = subst (λ told. IfSome told (λ bytes. IsMetaOfTree bytes meta)) (bytes_are ∙ there) whole in
        let trees = tree_with stored store adopted.space adopted.file adopted.entry old new adopted.taken.list
        adopted.wanted (listed_is adopted.entry adopted.file adopted.kept.number adopted.kept.born) (record {
          bytes = taken.file.bytes;
          tree = tree.tree;
          there = ap (kept_bytes stored) file_is ∙ there;
          is_tree = tree.is;
          is_made = tree.made;
          is_file = tree.file;
        }) kept.whole kept.order in
        record {
          taken = record {
            told = tell stored kept.told bytes_are;
            whole = trees.0;
            order = trees.1;
            described = λ told order all.
                describe told order (read_is told says (each_among (IsKeptWhole stored told)
                (store.sequence ++ store.unsequence) adopted.file all
                (wanted_listed old store adopted.space adopted.file adopted.wanted)))
                (kept.described told order all);
          };
          others = more_kept stored name rest now old taken up new token
              (subst (λ n. kept_file n new ≡ Some token) entry_is adopted.taken.here)
              (λ n differ. adopted.taken.others n (λ same. differ (sym entry_is ∙ same)));
        }

  -- the same where it is told
  pub takes_up : (rest now : Option (List StoredFile)) → WhereTold (TakesOut name) rest now
      → is_some rest ≡ is_some name.bytes → IfSome name.bytes (λ bytes. IsMetaOfTree bytes meta)
      → IfSome name.bytes (λ bytes. (tree : Tree) → IsTree tree → IsMade tree → IsFile tree bytes
      → IsMetaOf tree bytes meta)
      → ((kept : List StoredFile) → TellTheirBytes old kept → name.bytes ≡ kept_bytes kept name.number
      → TellTheirBytes new kept)
      → ((told : ToldContents) → StoreInOrder told store → IsReadOf meta (told name.number) → AreDescribed told old
      → AreDescribed told new)
      → IsTakingUp stored store old rest → IsTakingUp stored store new now
  takes_up None now taken tells whole says tell describe up = absurd up.others
  takes_up (Some rest) None taken tells whole says tell describe up = absurd taken
  takes_up (Some rest) (Some now) taken tells whole says tell describe up =
      taken_up rest now taken tells up.others whole says tell describe up.taken
