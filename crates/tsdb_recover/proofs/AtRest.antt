-- A stored file more is kept, or goes back.
use Rattle.std.proofs.Common.{◌≡◌, ◌≢◌, ◌⊎◌, ◌∙◌, ℕ, true, List, [], ◌∷◌, ◌++◌, length, map, Option, None, Some, IfSome}
use Rattle.std.proofs.Common.{inl, inr, refl, sym, ap, subst}
use Rattle.std.specs.Prelude.{is_some, slice_get}
use Rattle.std.specs.List.{AllByRecursion as Each}
use Rattle.tsdb_recover.proofs.Counting.{differ}
use Rattle.tsdb_recover.specs.Adopting.{AreDescribed, Describe, next_in}
use Rattle.tsdb_recover.specs.Steps.{KeepsFileLists}
use Rattle.tsdb_base.specs.declared.ids.Space.TheVariants.{Sequence}
use Rattle.tsdb_fileset.specs.StateOfFiles.{entry_of, listed}
use Rattle.tsdb_state.specs.StoredEngine.{kept_bytes}
use Rattle.tsdb_fileset.specs.Files.{KeptFiles, kept_file}
use Rattle.tsdb_fileset.specs.Places.{KeptFile}
use Rattle.tsdb_base.proofs.Lists.{each_weaker}
use Rattle.tsdb_outside.specs.Disk.{WhereTold}
use Rattle.tsdb_outside.specs.Files.{NamedFile, StoredFile, TakesOut}
use Rattle.tsdb_plan.specs.declared.entry.FileEntry.{FileEntry}
use Rattle.tsdb_recover.specs.Files.{AreAtRestAgain}
use Rattle.tsdb_recover.proofs.Rest.{found_again, found_there, none_is_some, not_left, others_left, still_stored}
use Rattle.tsdb_recover.proofs.Rest.{stored_again}
use Rattle.tsdb_recover.specs.Damage.{IsTreeFile}
use Rattle.tsdb_recover.specs.Taking.{AreTakenUp, IsRest, IsRestIn, IsTakingUp, rests_of}
use Rattle.tsdb_recover.proofs.Stored.{few_stored}
use Rattle.tsdb_recover.specs.StoredFiles.{AreStored}
use Rattle.tsdb_state.proofs.Counting.{is_or_not}
use Rattle.tsdb_state.specs.Jobs.{Describes}
use Rattle.tsdb_state.specs.State.{StoreState, ToldContents}

told_bytes : (bytes : Option (List ℕ)) (is : List ℕ) → true ≡ is_some bytes → IfSome bytes (λ told. told ≡ is)
    → bytes ≡ Some is
told_bytes None is some same = absurd cc
told_bytes (Some told) is some same = ap Some same

-- ---- a file that was taken out of those at rest

module _ (stored : List StoredFile) (name : NamedFile) (old rest : List StoredFile) (files : KeptFiles)
    (taken : TakesOut name old rest) (up : IsRest stored files old) where
  parted : AreStored (taken.before ++ taken.file ∷ taken.after)
  parted = subst AreStored taken.old_is up.are_stored

  number_is : name.number ≡ taken.file.number
  number_is = taken.names.number_is

  there : kept_bytes old name.number ≡ Some taken.file.bytes
  there = ap (λ l. kept_bytes l name.number) taken.old_is
      ∙ ap (kept_bytes (taken.before ++ taken.file ∷ taken.after)) number_is
      ∙ found_there taken.before taken.file taken.after parted

  -- it was not kept, and the store has it with these bytes
  pub was_free : kept_file name.number files ≡ None
  was_free = by (kept_file name.number files) refl
    where
      by : (found : Option KeptFile) → kept_file name.number files ≡ found → found ≡ None
      by None is = refl
      by (Some file) is = absurd (none_is_some taken.file.bytes
          (ap (λ found. rests_of found (kept_bytes stored name.number)) (sym is) ∙ sym (up.each name.number) ∙ there))

  pub was_stored : kept_bytes stored name.number ≡ Some taken.file.bytes
  was_stored = ap (λ found. rests_of found (kept_bytes stored name.number)) (sym was_free)
      ∙ sym (up.each name.number) ∙ there

  pub tells_stored : is_some (Some old) ≡ is_some name.bytes → name.bytes ≡ kept_bytes stored name.number
  tells_stored tells = told_bytes name.bytes taken.file.bytes tells taken.names.bytes_are ∙ sym was_stored

  pub gone : kept_bytes rest name.number ≡ None
  gone = ap (λ l. kept_bytes l name.number) taken.new_is
      ∙ ap (kept_bytes (taken.before ++ taken.after)) number_is
      ∙ not_left taken.before taken.file taken.after parted

  pub stay : (n : ℕ) → name.number ≢ n → kept_bytes rest n ≡ kept_bytes old n
  stay n differ = ap (λ l. kept_bytes l n) taken.new_is
      ∙ others_left taken.before taken.file taken.after parted n (λ same. differ (number_is ∙ same))
      ∙ ap (λ l. kept_bytes l n) (sym taken.old_is)

  -- it is kept now
  pub more_kept : (new : KeptFiles) (file : KeptFile) → kept_file name.number new ≡ Some file
      → ((n : ℕ) → name.number ≢ n → kept_file n new ≡ kept_file n files) → IsRest stored new rest
  more_kept new file here others = record {
    are_stored = subst AreStored (sym taken.new_is) (still_stored taken.before taken.file taken.after parted);
    each = λ n. is_or_not name.number n
        (λ same. subst (λ m. kept_bytes rest m ≡ rests_of (kept_file m new) (kept_bytes stored m)) same
        (gone ∙ ap (λ found. rests_of found (kept_bytes stored name.number)) (sym here)))
        (λ other. stay n (differ name.number n other) ∙ up.each n
        ∙ ap (λ found. rests_of found (kept_bytes stored n)) (sym (others n (differ name.number n other))));
  }

-- ---- and that goes back

-- the same files are at rest once more
again_at_rest : (stored : List StoredFile) (files : KeptFiles) (old new : List StoredFile) → AreAtRestAgain old new
    → IsRest stored files old → IsRest stored files new
again_at_rest stored files old new (inl same) up = subst (IsRest stored files) (sym same) up
again_at_rest stored files old new (inr put) up =
    let parted = subst AreStored put.old_is up.are_stored in
    let is = put.new_is (few_stored old up.are_stored) in
    record {
      are_stored = subst AreStored (sym is) (stored_again put.before put.file put.after parted);
      each = λ n. ap (λ l. kept_bytes l n) is ∙ found_again put.before put.file put.after parted n
          ∙ ap (λ l. kept_bytes l n) (sym put.old_is) ∙ up.each n;
    }

again_in : (stored : List StoredFile) (files : KeptFiles) (old new : Option (List StoredFile))
    → WhereTold AreAtRestAgain old new → IsRestIn stored files old → IsRestIn stored files new
again_in stored files None new again up = absurd up
again_in stored files (Some old) None again up = absurd again
again_in stored files (Some old) (Some new) again up = again_at_rest stored files old new again up

-- where no file comes or goes
described_same : (told : ToldContents) (old new : KeptFiles) → KeepsFileLists old new → AreDescribed told old
    → AreDescribed told new
described_same told old new keeps says = record {
  sequence = subst (Describe told new) (sym keeps.lists.sequence) (same old.sequence says.sequence);
  unsequence = subst (Describe told new) (sym keeps.lists.unsequence) (same old.unsequence says.unsequence);
}
  where
    same : (entries : List FileEntry) → Describe told old entries → Describe told new entries
    same entries are = each_weaker
        (λ entry. IfSome (kept_file entry.number.0 old) (λ file. Describes (entry_of entry file.series)
        (told entry.number.0)))
        (λ entry. IfSome (kept_file entry.number.0 new) (λ file. Describes (entry_of entry file.series)
        (told entry.number.0)))
        (λ entry is. subst (λ found. IfSome found
        (λ (file : KeptFile). Describes (entry_of entry file.series) (told entry.number.0)))
        (sym (keeps.places.files entry.number.0)) is) entries are

rest_same : (stored : List StoredFile) (rest : Option (List StoredFile)) (old new : KeptFiles) → KeepsFileLists old new
    → IsRestIn stored old rest → IsRestIn stored new rest
rest_same stored None old new keeps up = absurd up
rest_same stored (Some rest) old new keeps up = record {
  are_stored = up.are_stored;
  each = λ n. up.each n ∙ ap (λ found. rests_of found (kept_bytes stored n)) (sym (keeps.places.files n));
}

taken_same : (stored : List StoredFile) (store : StoreState) (old new : KeptFiles) → KeepsFileLists old new
    → AreTakenUp stored store old → AreTakenUp stored store new
taken_same stored store old new keeps taken = record {
  told = λ n. subst (λ found. IfSome found (λ (file : KeptFile). (file.name.number ≡ n)
      × (file.name.bytes ≡ kept_bytes stored n))) (sym (keeps.places.files n)) (taken.told n);
  whole = subst (λ l. Each (IsTreeFile (kept_bytes stored)) (map listed l ++ map listed new.unsequence))
      (sym keeps.lists.sequence)
      (subst (λ l. Each (IsTreeFile (kept_bytes stored)) (map listed old.sequence ++ map listed l))
      (sym keeps.lists.unsequence) taken.whole);
  order = subst (λ l. (next_in Sequence new store ≡ None) ⊎ (l ≡ [])) (sym keeps.lists.unsequence)
      (subst (λ l. (slice_get store.sequence (length l) ≡ None) ⊎ (old.unsequence ≡ [])) (sym keeps.lists.sequence)
      taken.order);
  described = λ told order kept. described_same told old new keeps (taken.described told order kept);
}

-- the same files are kept and at rest
pub same_files : (stored : List StoredFile) (store : StoreState) (files : KeptFiles) (old new : Option
    (List StoredFile))
    → WhereTold AreAtRestAgain old new → IsTakingUp stored store files old → IsTakingUp stored store files new
same_files stored store files old new again up = record {
  taken = up.taken;
  others = again_in stored files old new
      again up.others;
}

pub no_more : (stored : List StoredFile) (store : StoreState) (old new : KeptFiles) (rest now : Option
    (List StoredFile))
    → KeepsFileLists old new → WhereTold AreAtRestAgain rest now → IsTakingUp stored store old rest
    → IsTakingUp stored store new now
no_more stored store old new rest now keeps again up = record {
  taken = taken_same stored store old new keeps up.taken;
  others = rest_same stored now old new keeps (again_in stored old rest now again up.others);
}
