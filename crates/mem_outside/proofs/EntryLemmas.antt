-- One entry taken out of a list, and the numbers of a list.
use Rattle.std.proofs.Common.{◌≡◌, ℕ, zero, suc, ◌+◌, ◌-◌, ◌^◌, ◌<◌, List, [], ◌∷◌, ◌++◌, length, take, drop, map, ◌⊎◌, inl, inr, ⊎_elim, refl, sym, ap, ◌∙◌, subst, arith}
use Rattle.std.specs.Prelude.{◌≢◌, None, Contains, MatchOption, slice_index_or, Result, Ok, Err, IsOk, is_ok, if◌then◌else◌}
use Rattle.std.specs.declared.option.Option.{Option}
use Rattle.std.proofs.lemmas.Bool.{false≢true}
use Rattle.std.proofs.lemmas.List.{drop-drop, length-take-le, length-drop}
use Rattle.tsdb_outside.specs.Files.{stored_file_numbers}
use Rattle.mem_outside.specs.declared.entry.StoredEntry.{StoredEntry}
use Rattle.mem_outside.specs.Entry.{entry_file, entry_files, removed, TakesFileNode}
use Rattle.mem_outside.specs.Files.{AddsFailed}

Contains-head : {X : Type 0} (x : X) (xs : List X) → Contains (x ∷ xs) x
Contains-head x xs = (0, omega arith, refl)

Contains-tail : {X : Type 0} (x y : X) (xs : List X) → Contains xs y → Contains (x ∷ xs) y
Contains-tail x y xs (k, l, e) = (suc k, omega arith, e)

Contains-nil : {X : Type 0} (y : X) → Contains [] y → ⊥
Contains-nil y (k, l, e) = omega arith

Contains-cases : {X : Type 0} (x y : X) (xs : List X) → Contains (x ∷ xs) y → (x ≡ y) ⊎ Contains xs y
Contains-cases x y xs (zero, l, e) = inl e
Contains-cases x y xs (suc k, l, e) = inr (k, omega arith, e)

Contains-of_map : {X Y : Type 0} (f : X → Y) (xs : List X) (y : Y) → Contains (map f xs) y → (x : X) × Contains xs x × (f x ≡ y)
Contains-of_map f [] y h = absurd (Contains-nil y h)
Contains-of_map f (x ∷ xs) y h = ⊎_elim
    (λ here. (x, Contains-head x xs, here))
    (λ there. let rest = Contains-of_map f xs y there in (rest.0, Contains-tail x rest.0 xs rest.1, rest.2))
    (Contains-cases (f x) y (map f xs) h)

-- the numbers of the files are those of the entries
pub same_numbers : (xs : List StoredEntry) → stored_file_numbers (entry_files xs) ≡ map (λ (entry : StoredEntry). entry.number) xs
same_numbers [] = refl
same_numbers (x ∷ xs) = ap (λ (l : List ℕ). x.number ∷ l) (same_numbers xs)

pub none_there : (xs : List StoredEntry) (number : ℕ)
    → ((k : ℕ) (d : StoredEntry) → k < length xs → (slice_index_or xs k d).number ≢ number)
    → Contains (stored_file_numbers (entry_files xs)) number → ⊥
none_there xs number apart h =
    let found = Contains-of_map (λ (entry : StoredEntry). entry.number) xs number (subst (λ (l : List ℕ). Contains l number) (same_numbers xs) h) in
    let at : Contains xs found.0 = found.1 in
    let same : (slice_index_or xs at.0 found.0).number ≡ number = ap (λ (entry : StoredEntry). entry.number) at.2 ∙ found.2 in
    apart at.0 found.0 at.1 same

-- the list around one place
pub record Around (at : ℕ) (xs : List StoredEntry) : Type 0 where
  pub entry : StoredEntry
  pub node : take 1 (drop at xs) ≡ entry ∷ []
  pub whole : xs ≡ take at xs ++ entry ∷ drop (at + 1) xs
  pub there : slice_index_or xs at entry ≡ entry

around : (at : ℕ) (xs : List StoredEntry) → at < length xs → Around at xs
around at [] l = let no : ⊥ = omega arith in absurd no
around zero (x ∷ xs) l = record { entry = x; node = refl; whole = refl; there = refl }
around (suc at) (x ∷ xs) l =
    let rest : Around at xs = around at xs (omega arith) in
    let next : suc at + 1 ≡ suc (at + 1) = omega arith in
    let whole : x ∷ xs ≡ x ∷ (take at xs ++ rest.entry ∷ drop (at + 1) xs) = ap (λ (l : List StoredEntry). x ∷ l) rest.whole in
    record {
      entry = rest.entry;
      node = rest.node;
      whole = subst (λ (n : ℕ). x ∷ xs ≡ take (suc at) (x ∷ xs) ++ rest.entry ∷ drop n (x ∷ xs)) (sym next) whole;
      there = rest.there;
    }

pub takes_node : (at number : ℕ) (xs node new : List StoredEntry) → at < length xs
    → ((d : StoredEntry) → (slice_index_or xs at d).number ≡ number)
    → node ≡ take 1 (drop at xs) → new ≡ take at xs ++ drop (at + 1) xs → TakesFileNode number node xs new
takes_node at number xs node new l is node_is new_is =
    let a : Around at xs = around at xs l in
    record {
      before = take at xs;
      entry = a.entry;
      after = drop (at + 1) xs;
      node_is = node_is ∙ a.node;
      number_is = ap (λ (entry : StoredEntry). entry.number) (sym a.there) ∙ is a.entry;
      old_is = a.whole;
      new_is = new_is;
    }

joins : {X T E : Type 0} (r : Result T E) (new a b : List X) → IsOk r → new ≡ (if is_ok r then a ++ b else a) → new ≡ a ++ b
joins (Ok x) new a b ok is = is
joins (Err e) new a b ok is = absurd (false≢true ok)

pub taken_out : {T E : Type 0} (at : ℕ) (xs head node rest new : List StoredEntry) (r : Result T E)
    → at < length xs → length xs < 2 ^ 63 → head ≡ take at xs → node ≡ drop at xs → rest ≡ drop 1 node
    → (length head + length rest < 2 ^ 63 → IsOk r) → new ≡ (if is_ok r then head ++ rest else head)
    → new ≡ take at xs ++ drop (at + 1) xs
taken_out at xs head node rest new r l fits head_is node_is rest_is succeeds is =
    let rest_at : rest ≡ drop (at + 1) xs = rest_is ∙ ap (λ (l : List StoredEntry). drop 1 l) node_is ∙ drop-drop 1 at xs in
    let left : length head ≡ at = ap length head_is ∙ length-take-le at xs (omega arith) in
    let right : length rest ≡ length xs - (at + 1) = ap length rest_at ∙ length-drop (at + 1) xs in
    let short : length head + length rest < 2 ^ 63 = omega arith in
    joins r new head rest (succeeds short) is ∙ ap (λ (l : List StoredEntry). l ++ rest) head_is ∙ ap (λ (l : List StoredEntry). take at xs ++ l) rest_at

-- what holds where nothing is found, where nothing was found
pub none_found : {X P : Type 0} (Q : X → Type 0) (found : Option X) → found ≡ None → MatchOption found P Q → P
none_found {X} {P} Q found is holds = subst (λ (o : Option X). MatchOption o P Q) is holds

-- the node of a file whose put failed is put behind those that were removed
pub adds_failed : (number : ℕ) (bytes : List ℕ) (at : ℕ) (old gone new node : List StoredEntry) (entry : StoredEntry)
    → gone ≡ old → node ≡ entry ∷ [] → (length gone + length node < 2 ^ 63 → new ≡ gone ++ map (removed at) node)
    → entry_file entry ≡ record { number = number; bytes = bytes } → entry.put_at ≡ at → AddsFailed number bytes at old new
adds_failed number bytes at old gone new node entry same one adds file put = λ short.
    let fits : length gone + length node < 2 ^ 63 = omega (arith, ap length same, ap length one, short) in (
      removed at entry,
      adds fits ∙ ap (λ (l : List StoredEntry). l ++ map (removed at) node) same ∙ ap (λ (l : List StoredEntry). old ++ map (removed at) l) one,
      file,
      put,
      refl,
    )
