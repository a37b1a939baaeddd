-- What stands for a state with whatever files hold some.
use Rattle.std.proofs.Common.{◌≡◌, ◌≢◌, ◌⊎◌, ◌∙◌, ℕ, Bool, true, false, cond, List, [], ◌∷◌, ◌++◌, Option, None, Some}
use Rattle.std.proofs.Common.{inl, inr, refl, sym, ap, subst}
use Rattle.std.proofs.lemmas.Bool.{eqb-true, eq-eqb, false≢true}
use Rattle.std.proofs.lemmas.Option.{same_Some}
use Rattle.std.specs.Prelude.{nat_eq}
use Rattle.std.specs.List.{find}
use Rattle.tsdb_history.proofs.Prefixes.{after_wider, no_prefix, prefix_wider}
use Rattle.tsdb_history.specs.Prefixes.{StandsAfter, StandsAfterPrefix}
use Rattle.tsdb_state.proofs.ImageLemmas.Kept.{found_bytes, found_with_more, has_number, holds_found}
use Rattle.tsdb_state.specs.StoredEngine.{kept_bytes}
use Rattle.tsdb_model.specs.History.{Entry}
use Rattle.tsdb_model.specs.State as plain
use Rattle.tsdb_outside.specs.Disk.{Image}
use Rattle.tsdb_outside.specs.Files.{StoredFile}
use Rattle.tsdb_recover.proofs.Rest.{holds_itself}
use Rattle.tsdb_recover.specs.StoredFiles.{AreStored}
use Rattle.tsdb_state.proofs.ReplayLemmas.Stores.{stands_with_more}
use Rattle.tsdb_state.specs.Stores as replay
use Rattle.tsdb_state.specs.Stores.{BytesByNumber, HoldsKept}
use Rattle.tsdb_run.specs.Store.{SlotsStandFor}

-- ---- files that hold themselves

-- two lists of bytes are the same, or not
same_or_not : (xs ys : List ℕ) → (xs ≡ ys) ⊎ (xs ≢ ys)
same_or_not [] [] = inl refl
same_or_not [] (y ∷ ys) = inr (λ same. cc)
same_or_not (x ∷ xs) [] = inr (λ same. cc)
same_or_not (x ∷ xs) (y ∷ ys) = by (nat_eq x y) refl (same_or_not xs ys)
  where
    other : (x y : ℕ) → nat_eq x y ≡ false → x ≢ y
    other x y not same = false≢true (sym not ∙ eq-eqb x y same)

    by : (b : Bool) → nat_eq x y ≡ b → (xs ≡ ys) ⊎ (xs ≢ ys) → (x ∷ xs ≡ y ∷ ys) ⊎ (x ∷ xs ≢ y ∷ ys)
    by true here (inl rest) = inl (ap (λ n. n ∷ xs) (eqb-true x y here) ∙ ap (λ l. y ∷ l) rest)
    by true here (inr rest) = inr (λ same. rest cc)
    by false here rest = inr (λ same. other x y here cc)

found_or_not : (found : Option (List ℕ)) (bytes : List ℕ) → (found ≡ Some bytes) ⊎ (found ≢ Some bytes)
found_or_not None bytes = inr (λ same. cc)
found_or_not (Some other) bytes = by (same_or_not other bytes)
  where
    by : (other ≡ bytes) ⊎ (other ≢ bytes) → (Some other ≡ Some bytes) ⊎ (Some other ≢ Some bytes)
    by (inl same) = inl (ap Some same)
    by (inr not) = inr (λ same. not (same_Some other bytes same))

held_or_not : (files : BytesByNumber) (kept : List StoredFile) → HoldsKept kept files ⊎ (¬ HoldsKept kept files)
held_or_not files [] = inl tt
held_or_not files (file ∷ kept) = by (found_or_not (files file.number) file.bytes) (held_or_not files kept)
  where
    by : (files file.number ≡ Some file.bytes) ⊎ (files file.number ≢ Some file.bytes)
        → HoldsKept kept files ⊎ (¬ HoldsKept kept files)
        → HoldsKept (file ∷ kept) files ⊎ (¬ HoldsKept (file ∷ kept) files)
    by (inl here) (inl rest) = inl (here, rest)
    by (inl here) (inr not) = inr (λ holds. not holds.1)
    by (inr not) rest = inr (λ holds. not holds.0)

-- one more file before those that are looked up, which all are held at once
holds_behind : (file : StoredFile) (others files : List StoredFile) (there : BytesByNumber) → there file.number ≡ Some file.bytes
    → HoldsKept files there → HoldsKept files (kept_bytes others) → HoldsKept files (kept_bytes (file ∷ others))
holds_behind file others [] there here holds is = tt
holds_behind file others (other ∷ files) there here holds is = (
  by (nat_eq file.number other.number) refl,
  holds_behind file others files there here holds.1 is.1,
)
  where
    by : (b : Bool) → nat_eq file.number other.number ≡ b
        → found_bytes (cond b (Some file) (find (has_number other.number) others)) ≡ Some other.bytes
    by true same = sym (subst (λ n. there n ≡ Some file.bytes) (eqb-true file.number other.number same) here) ∙ holds.0
    by false apart = is.0

first_found : (file : StoredFile) (others : List StoredFile) (b : Bool) → nat_eq file.number file.number ≡ b
    → found_bytes (cond b (Some file) (find (has_number file.number) others)) ≡ Some file.bytes
first_found file others true same = refl
first_found file others false apart = absurd (false≢true (sym apart ∙ eq-eqb file.number file.number refl))

-- files that are held at once are held by what they are
held_at_once : (files : List StoredFile) (there : BytesByNumber) → HoldsKept files there → HoldsKept files (kept_bytes files)
held_at_once [] there holds = tt
held_at_once (file ∷ files) there holds = (
  first_found file files (nat_eq file.number file.number) refl,
  holds_behind file files files there holds.0 holds.1 (held_at_once files there holds.1),
)

-- ---- what stands with them

-- with their own bytes, and so with whatever files hold them
pub stands_with : (files : List StoredFile) (image : Image) (at : plain.State)
    → replay.StoreStandsFor (kept_bytes files) image.a at → SlotsStandFor files image at
stands_with files image at stands kept holds = stands_with_more (kept_bytes files) kept image.a at
    (λ number bytes found. holds_found files kept holds number bytes found) stands

-- with some files, and so with more
pub stands_with_put : (files put : List StoredFile) (image : Image) (at : plain.State)
    → replay.StoreStandsFor (kept_bytes files) image.a at → SlotsStandFor (files ++ put) image at
stands_with_put files put image at stands kept holds = stands_with_more (kept_bytes files) kept image.a at
    (λ number bytes found. holds_found (files ++ put) kept holds number bytes
    (found_with_more files put number bytes found)) stands

-- One prefix stands with whatever files hold these.
pub one_prefix : (files : List StoredFile) (image : Image) (start : plain.State) (entries : List Entry)
    → ((kept : BytesByNumber) → HoldsKept files kept → StandsAfterPrefix (replay.StoreStandsFor kept image.a) start entries)
    → StandsAfterPrefix (SlotsStandFor files image) start entries
one_prefix files image start entries each = by (held_or_not (kept_bytes files) files)
  where
    by : HoldsKept files (kept_bytes files) ⊎ (¬ HoldsKept files (kept_bytes files))
        → StandsAfterPrefix (SlotsStandFor files image) start entries
    by (inl held) = prefix_wider (replay.StoreStandsFor (kept_bytes files) image.a) (SlotsStandFor files image)
        (stands_with files image) start entries (each (kept_bytes files) held)
    by (inr not) = no_prefix (SlotsStandFor files image) start entries
        (λ kept holds. absurd (not (held_at_once files kept holds)))

-- So do stored files.
pub all_stand : (files : List StoredFile) (image : Image) (after : plain.State) (entries : List Entry) → AreStored files
    → ((kept : BytesByNumber) → HoldsKept files kept → StandsAfter (replay.StoreStandsFor kept image.a) after entries)
    → StandsAfter (SlotsStandFor files image) after entries
all_stand files image after entries stored each =
    after_wider (replay.StoreStandsFor (kept_bytes files) image.a) (SlotsStandFor files image) (stands_with files image) after
    entries (each (kept_bytes files) (holds_itself files stored.differ))
