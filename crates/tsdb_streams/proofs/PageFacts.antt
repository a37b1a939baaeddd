-- The pages of a file of which a caller tells.
use Rattle.std.proofs.Common.{◌≡◌, ◌⊎◌, inl, inr, ℕ, ◌<◌, ◌≤◌, true, List, length, Err, refl, sym, ap, subst, ◌∙◌, get_or, arith}
use Rattle.std.specs.Prelude.{Option, None, Some, IfSome, is_some, slice_get}
use Rattle.std.proofs.lemmas.Option.{slice_get_cases}
use Rattle.tsdb_base.specs.declared.point.Point.{Point}
use Rattle.tsdb_streams.specs.Files.{FilePages, HasEntryPages, IsTold}
use Rattle.tsdb_index.specs.declared.index.IndexEntry.{IndexEntry}
use Rattle.tsdb_index.specs.declared.index.PageEntry.{PageEntry}
use Rattle.tsdb_outside.specs.Files.{NamedFile}
use Rattle.tsfile_reader.specs.Answers.{IfDamaged, IsNotDamaged}
use Rattle.tsfile_reader.specs.Page.{HasNoPage, HasPage, SaysOfPage}
use Rattle.tsfile_reader.specs.declared.fault.ReadFault.{ReadFault}
use Rattle.tsfile_reader.specs.declared.fault.ReadFault.TheVariants.{Failed, Damaged, Memory}

-- an element that is there
pub there : {A : Type 0} (xs : List A) (k : ℕ) → k < length xs → (x : A) × (slice_get xs k ≡ Some x)
there xs k low = pick (slice_get_cases xs k).1
  where
    pick : ((x : _) × (k < length xs) × (slice_get xs k ≡ Some x) × (get_or xs k x ≡ x)) ⊎ ((length xs ≤ k) × (slice_get xs k ≡ None)) → (x : _) × (slice_get xs k ≡ Some x)
    pick (inl found) = (found.0, found.2)
    pick (inr past) = absurd (let high = past.0 in omega (arith, low, high))

pub at_some : {A : Type 0} (o : Option A) (x : A) (P : A → Type 0) → o ≡ Some x → IfSome o P → P x
at_some o x P e h = subst (λ o. IfSome o P) e h

pub some_same : {A : Type 0} (o : Option A) (x y : A) → o ≡ Some x → o ≡ Some y → x ≡ y
some_same o x y e f =
    let both : Some x ≡ Some y = sym e ∙ f in
    cc

bytes_of : (o : Option (List ℕ)) → is_some o ≡ true → (bytes : List ℕ) × (o ≡ Some bytes)
bytes_of None e = absurd cc
bytes_of (Some bytes) e = (bytes, refl)

-- what is read of a page are the points that a caller tells
pub told_points : (told : Option (List (List Point))) (entry : IndexEntry) (name : NamedFile) (number : ℕ) (points : List Point) → number < length entry.pages
    → ((list : List (List Point)) → told ≡ Some list → HasEntryPages entry name list) → IfSome name.bytes (λ bytes. (said : PageEntry) → SaysOfPage entry number said → HasPage bytes entry said points)
    → IfSome told (λ list. slice_get list number ≡ Some points)
told_points None entry name number points low truth found = tt
told_points (Some list) entry name number points low truth found =
    let h = truth list refl in
    let count = h.1 in
    let here = there list number (omega (arith, low, count)) in
    let said = there entry.pages number low in
    let bytes = bytes_of name.bytes h.0 in
    let read = at_some name.bytes bytes.0 (λ bytes. (said : PageEntry) → SaysOfPage entry number said → HasPage bytes entry said points) bytes.1 found said.0 said.1 in
    let same = ((h.2 number said.0 here.0 said.1 here.1).1 bytes.0 bytes.1).0 points read in
    here.1 ∙ ap Some (sym same)

-- a page of which a caller tells is not damaged
pub undamaged : (T : Type 0) (pages : FilePages) (entry : IndexEntry) (name : NamedFile) (number : ℕ) (fault : ReadFault) → number < length entry.pages
    → ((list : List (List Point)) → pages name.number ≡ Some list → HasEntryPages entry name list)
    → IfDamaged {T = T} (Err fault) (λ at. IfSome name.bytes (λ bytes. (said : PageEntry) → SaysOfPage entry number said → HasNoPage bytes entry said))
    → IsTold pages name → (bytes : List ℕ) → name.bytes ≡ Some bytes → IsNotDamaged {T = T} (Err fault)
undamaged T pages entry name number Failed low truth bad told bytes e = tt
undamaged T pages entry name number Memory low truth bad told bytes e = tt
undamaged T pages entry name number (Damaged at) low truth bad told bytes e =
    let list = told bytes e in
    let h = truth list.0 list.1 in
    let count = h.1 in
    let here = there list.0 number (omega (arith, low, count)) in
    let said = there entry.pages number low in
    ((h.2 number said.0 here.0 said.1 here.1).1 bytes e).1 (at_some name.bytes bytes (λ bytes. (said : PageEntry) → SaysOfPage entry number said → HasNoPage bytes entry said) e bad said.0 said.1)
