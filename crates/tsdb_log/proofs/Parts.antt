-- What reading and writing a part says, put together from its parts.
use Rattle.std.proofs.Common.{◌≡◌, ℕ, ◌+◌, ◌<◌, ◌≤◌, List, ◌++◌, length, get_or, take, drop, refl, sym, ap, subst, ◌∙◌, take-append-drop, arith}
use Rattle.std.specs.Prelude.{Result, Ok, Err, OnErr, OnOk}
use Rattle.std.specs.List.{flat_map}
use Rattle.std.proofs.lemmas.Grind.{flat_map-append}
use Rattle.std.proofs.lemmas.List.{length-append}
use Rattle.tsdb_base.specs.Fields.{number64}
use Rattle.tsdb_base.specs.FieldLaws.{number64-prefix_free}
use Rattle.tsdb_base.specs.Plain.{AreValues}
use Rattle.tsdb_fields.specs.declared.fault.FieldFault.{FieldFault}
use Rattle.tsdb_fields.specs.declared.rest.Rest.{Rest}
use Rattle.tsdb_fields.specs.Reading.{TakesBytes, Reads}
use Rattle.tsdb_fields.proofs.Appending.{both_written}
use Rattle.tsdb_fields.proofs.Taken.{takes_both}
use Rattle.tsdb_log.specs.PartLaws.{counted_as, counted_row, IsCountedRow}
use Rattle.tsdb_log.specs.Rows.{field, IsNumber64}
use Rattle.tsdb_log.specs.Snapshots.{counted_fields, AreCounted}
use Rattle.tsdb_log.specs.Spelling.{joined_fields}
use Rattle.tsdb_log.specs.Steps.{FailsToRead, ReadsFields}
use Rattle.tsdb_log.specs.RowLaws.{bytes_append, bytes_length}
use Rattle.tsdb_log.specs.ListLaws.{copies, values_of_list}
use Rattle.tsdb_log.proofs.Wholes.{row_more}
use Rattle.tsdb_log.proofs.Faults.{field_fails, first_fails, behind_field, fails_as, one}

-- ---- reading

-- a field by itself is a row
pub reads_one : {A B : Type 0} (spelling : A → List ℕ) (IsA : A → Type 0) (old : Rest) (view : B → A)
    (result : Result (B × Rest) FieldFault) (some : A) → IsA some → Reads spelling IsA old view result
    → ReadsFields (field spelling) IsA old view result
reads_one spelling IsA old view (Ok r) some is reads = (one old r.1 (spelling (view r.0)) reads.0, reads.1)
reads_one spelling IsA old view (Err fault) some is reads = field_fails spelling IsA old view fault some is reads

-- two rows were taken one behind the other
pub takes_pair : (first second : List (List ℕ)) (old middle new : Rest) → TakesBytes old (joined_fields first) middle
    → TakesBytes middle (joined_fields second) new → TakesBytes old (joined_fields (first ++ second)) new
takes_pair first second old middle new taken more =
    subst (λ (l : List ℕ). TakesBytes old l new) (sym (bytes_append first second))
    (takes_both old middle new (joined_fields first) (joined_fields second) taken more)

-- the number of parts does not stand there
pub counted_count : {A : Type 0} (row : A → List (List ℕ)) (Is : A → Type 0) (some : A) → Is some → (old : Rest) (fault : FieldFault)
    → Reads number64 IsNumber64 old (λ (v : ℕ). v) (Err fault) → FailsToRead (counted_fields row) (AreCounted Is) old.at old.bytes.now fault
counted_count row Is some is old fault reads =
    fails_as (counted_row row) (IsCountedRow Is) (counted_fields row) (AreCounted Is) old.at old.bytes.now fault (counted_as row Is)
    (first_fails (field number64) (flat_map row) IsNumber64 (AreValues Is) old.at old.bytes.now fault
    (λ n few. let list = copies Is some is n in (list.0, values_of_list Is n list.0 list.1))
    (field_fails number64 IsNumber64 old (λ (v : ℕ). v) fault 0 (omega arith) reads))

-- a part is missing behind their number
pub counted_parts : {A : Type 0} (row : A → List (List ℕ)) (Is : A → Type 0) (n : ℕ) (old middle : Rest) (fault : FieldFault) → IsNumber64 n
    → TakesBytes old (number64 n) middle → FailsToRead (flat_map row) (AreValues Is n) middle.at middle.bytes.now fault
    → FailsToRead (counted_fields row) (AreCounted Is) old.at old.bytes.now fault
counted_parts row Is n old middle fault few takes fails =
    fails_as (counted_row row) (IsCountedRow Is) (counted_fields row) (AreCounted Is) old.at old.bytes.now fault (counted_as row Is)
    (behind_field number64 (flat_map row) IsNumber64 (AreValues Is) number64-prefix_free n old middle fault few takes fails)

-- parts were taken behind their number
pub takes_counted : {A : Type 0} (row : A → List (List ℕ)) (n : ℕ) (xs : List A) (old middle new : Rest) → length xs ≡ n
    → TakesBytes old (number64 n) middle → TakesBytes middle (joined_fields (flat_map row xs)) new → TakesBytes old (joined_fields (counted_fields row xs)) new
takes_counted row n xs old middle new count taken more =
    let number = subst (λ (k : ℕ). TakesBytes old (number64 k) middle) (sym count) taken in
    takes_both old middle new (number64 (length xs)) (joined_fields (flat_map row xs)) number more

-- ---- writing

-- the bytes of some parts are not more than those of all
pub some_bytes : {A : Type 0} (row : A → List (List ℕ)) (xs : List A) (i : ℕ)
    → length (joined_fields (flat_map row (take i xs))) ≤ length (joined_fields (flat_map row xs))
some_bytes {A} row xs i =
    let parted = ap (λ (l : List A). flat_map row l) (sym (take-append-drop i xs)) ∙ flat_map-append row (take i xs) (drop i xs) in
    omega (
      arith,
      ap (λ (l : List (List ℕ)). length (joined_fields l)) parted,
      bytes_length (flat_map row (take i xs)) (flat_map row (drop i xs)),
    )

-- what always holds also holds where there is an error
pub always_on_err : {T E P : Type 0} (result : Result T E) → P → OnErr result P
always_on_err (Ok value) holds = tt
always_on_err (Err error) holds = holds

-- there was no room for one of many
pub no_room_part : {A : Type 0} (row : A → List (List ℕ)) (xs : List A) (i : ℕ) (a : A) (capacity wider : ℕ) (old middle : List ℕ) → i < length xs
    → a ≡ get_or xs i a → capacity ≤ wider → middle ≡ old ++ joined_fields (flat_map row (take i xs)) → wider < length middle + length (joined_fields (row a))
    → capacity < length old + length (joined_fields (flat_map row xs))
no_room_part row xs i a capacity wider old middle lt is grows begun full =
    let next = row_more row xs i a old middle (middle ++ joined_fields (row a)) lt is begun refl in
    omega (
      arith,
      grows,
      full,
      some_bytes row xs (i + 1),
      ap length next,
      length-append middle (joined_fields (row a)),
      length-append old (joined_fields (flat_map row (take (i + 1) xs))),
    )

-- one row was written and then another
pub writes_pair : {T E : Type 0} (result : Result T E) (first second : List (List ℕ)) (old middle new : List ℕ) → middle ≡ old ++ joined_fields first
    → OnOk result (new ≡ middle ++ joined_fields second) → OnOk result (new ≡ old ++ joined_fields (first ++ second))
writes_pair result first second old middle new begun more =
    subst (λ (l : List ℕ). OnOk result (new ≡ old ++ l)) (sym (bytes_append first second))
    (both_written result old (joined_fields first) (joined_fields second) middle new begun more)

-- there was no room for the first of two rows
pub no_room_first : {T E : Type 0} (result : Result T E) (first second : List (List ℕ)) (old : List ℕ) (capacity : ℕ)
    → capacity < length old + length (joined_fields first)
    → OnErr result (capacity < length old + length (joined_fields (first ++ second)))
no_room_first result first second old capacity full = always_on_err result (omega (arith, full, bytes_length first second))

-- one row was written, and there was no room for another
pub no_room_behind : {T E : Type 0} (result : Result T E) (first second : List (List ℕ)) (old middle : List ℕ) (capacity wider : ℕ)
    → middle ≡ old ++ joined_fields first → capacity ≤ wider
    → OnErr result (wider < length middle + length (joined_fields second))
    → OnErr result (capacity < length old + length (joined_fields (first ++ second)))
no_room_behind (Ok value) first second old middle capacity wider begun grows full = tt
no_room_behind (Err error) first second old middle capacity wider begun grows full =
    omega (arith, full, grows, ap length begun, length-append old (joined_fields first), bytes_length first second)
