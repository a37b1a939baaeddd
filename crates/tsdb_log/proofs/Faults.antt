-- A fault that reading a part gave is that of the whole.
use Rattle.std.proofs.Common.{◌≡◌, ℕ, suc, ◌+◌, List, [], ◌∷◌, ◌++◌, length, Ok, Err, refl, sym, ap, subst, ◌∙◌, inl, inr, arith}
use Rattle.std.specs.Prelude.{Result}
use Rattle.std.specs.List.{flat_map}
use Rattle.std.proofs.lemmas.List.Elements.{recursion_from_All}
use Rattle.std.proofs.lemmas.List.{append-nil}
use Rattle.tsdb_base.specs.Plain.{AreValues}
use Rattle.tsdb_base.proofs.PlainLists.{IsPrefixFree}
use Rattle.tsdb_fields.specs.declared.fault.FieldFault.{FieldFault}
use Rattle.tsdb_fields.specs.declared.fault.FieldFault.TheVariants.{Bad, Memory}
use Rattle.tsdb_fields.specs.declared.rest.Rest.{Rest}
use Rattle.tsdb_fields.specs.Reading.{IsBadBehind, Lacks, Reads, ReadsOr, TakesBytes}
use Rattle.tsdb_log.specs.declared.record.LogRecord.{LogRecord}
use Rattle.tsdb_log.specs.Spelling.{joined_fields, fields, spelling, IsRecord}
use Rattle.tsdb_log.specs.Steps.{BeginsWithRecord, IsMissingField, FailsToRead, ReadsFields}
use Rattle.tsdb_log.specs.Rows.{both, field, AreBoth, IsRowForm}
use Rattle.tsdb_log.specs.RowLaws.{bytes_append, alone, one_field, row_of_field, no_first, no_second}
use Rattle.tsdb_log.specs.ListLaws.{AreList, no_more_rows}
use Rattle.tsdb_log.specs.ViewLaws.{IsWrittenAs, IsOfKind, behind_kind, missing_as, no_record, values_as}

no_field : {A : Type 0} (spelling : A → List ℕ) (IsA : A → Type 0) (old : Rest) (at : ℕ) (some : A) → IsA some → Lacks spelling IsA old at → IsMissingField (field spelling) IsA old.at old.bytes.now at
no_field {A} spelling IsA old at some is lacks = record {
  none = λ a behind is_a e. lacks.none a behind is_a (e ∙ alone (spelling a) behind);
  count = 0;
  place = let place = lacks.place in omega arith;
  furthest = record {
    reached = record { whole = some; is = is; first = []; more = field spelling some; rest = old.bytes.now; begins = refl; splits = refl; place = refl };
    none_beyond = λ j r. elim (one_field (spelling r.whole) r.first r.more r.begins) [
      | inl none ↦ let size = ap (λ (l : List (List ℕ)). length (joined_fields l)) none in let place = r.place in omega arith
      | inr one ↦ absurd (lacks.none r.whole r.rest r.is (r.splits ∙ ap (λ (l : List (List ℕ)). joined_fields l ++ r.rest) one ∙ alone (spelling r.whole) r.rest))
    ];
  };
}

pub field_fails : {A B : Type 0} (spelling : A → List ℕ) (IsA : A → Type 0) (old : Rest) (view : B → A) (fault : FieldFault) (some : A) → IsA some
    → Reads spelling IsA old view (Err fault) → FailsToRead (field spelling) IsA old.at old.bytes.now fault
field_fails spelling IsA old view (Bad at) some is reads = no_field spelling IsA old at some is reads
field_fails spelling IsA old view Memory some is reads = tt

pub first_fails : {A B : Type 0} (first : A → List (List ℕ)) (second : B → List (List ℕ)) (IsFirst : A → Type 0) (IsSecond : A → B → Type 0) (start : ℕ) (bytes : List ℕ) (fault : FieldFault)
    → ((a : A) → IsFirst a → (b : B) × IsSecond a b) → FailsToRead first IsFirst start bytes fault → FailsToRead (both first second) (AreBoth IsFirst IsSecond) start bytes fault
first_fails first second IsFirst IsSecond start bytes (Bad at) some fails = no_first first second IsFirst IsSecond start bytes at some fails
first_fails first second IsFirst IsSecond start bytes Memory some fails = tt

pub second_fails : {A B : Type 0} (first : A → List (List ℕ)) (second : B → List (List ℕ)) (IsFirst : A → Type 0) (IsSecond : A → B → Type 0) (row : IsRowForm first IsFirst)
    (a : A) (old new : Rest) (fault : FieldFault) → IsFirst a → TakesBytes old (joined_fields (first a)) new
    → FailsToRead second (IsSecond a) new.at new.bytes.now fault → FailsToRead (both first second) (AreBoth IsFirst IsSecond) old.at old.bytes.now fault
second_fails first second IsFirst IsSecond row a old new (Bad at) is takes fails =
    no_second first second IsFirst IsSecond row a old.at new.at old.bytes.now new.bytes.now at is takes.bytes takes.place fails
second_fails first second IsFirst IsSecond row a old new Memory is takes fails = tt

-- the bytes of one field
pub one : (old new : Rest) (s : List ℕ) → TakesBytes old s new → TakesBytes old (joined_fields (s ∷ [])) new
one old new s takes = record {
  bytes = takes.bytes ∙ sym (alone s new.bytes.now);
  place = let size = ap length (append-nil s) in let place = takes.place in omega arith;
}

pub behind_field : {A B : Type 0} (spelling : A → List ℕ) (second : B → List (List ℕ)) (IsFirst : A → Type 0) (IsSecond : A → B → Type 0) (free : IsPrefixFree spelling IsFirst)
    (a : A) (old new : Rest) (fault : FieldFault) → IsFirst a → TakesBytes old (spelling a) new
    → FailsToRead second (IsSecond a) new.at new.bytes.now fault → FailsToRead (both (field spelling) second) (AreBoth IsFirst IsSecond) old.at old.bytes.now fault
behind_field spelling second IsFirst IsSecond free a old new fault is takes fails =
    second_fails (field spelling) second IsFirst IsSecond (row_of_field spelling IsFirst free) a old new fault is (one old new (spelling a) takes) fails

pub fails_as : {A R : Type 0} (row : A → List (List ℕ)) (IsA : A → Type 0) (whole : R → List (List ℕ)) (IsR : R → Type 0) (start : ℕ) (bytes : List ℕ) (fault : FieldFault)
    → IsWrittenAs row IsA whole IsR → FailsToRead row IsA start bytes fault → FailsToRead whole IsR start bytes fault
fails_as row IsA whole IsR start bytes (Bad at) as_row fails = missing_as row IsA whole IsR start bytes at as_row fails
fails_as row IsA whole IsR start bytes Memory as_row fails = tt

pub record_fails : {A : Type 0} (kind : ℕ) (row : A → List (List ℕ)) (IsA : A → Type 0) (bytes : List ℕ) (fault : FieldFault)
    → IsWrittenAs (behind_kind kind row) IsA fields (IsOfKind kind) → FailsToRead row IsA 1 bytes fault → FailsToRead fields IsRecord 0 (kind ∷ bytes) fault
record_fails kind row IsA bytes (Bad at) as_row fails = no_record kind row IsA bytes at as_row fails
record_fails kind row IsA bytes Memory as_row fails = tt

pub kind_fails : {A : Type 0} (kind : ℕ) (row : A → List (List ℕ)) (IsA : A → Type 0) (rest : Rest) (fault : FieldFault) → rest.at ≡ 1
    → IsWrittenAs (behind_kind kind row) IsA fields (IsOfKind kind) → FailsToRead row IsA rest.at rest.bytes.now fault → FailsToRead fields IsRecord 0 (kind ∷ rest.bytes.now) fault
kind_fails kind row IsA rest (Bad at) first as_row fails = no_record kind row IsA rest.bytes.now at as_row (subst (λ (n : ℕ). IsMissingField row IsA n rest.bytes.now at) first fails)
kind_fails kind row IsA rest Memory first as_row fails = tt

-- the bytes of many rows
bytes_of : {A : Type 0} (row : A → List (List ℕ)) (xs : List A) → flat_map (λ a. joined_fields (row a)) xs ≡ joined_fields (flat_map row xs)
bytes_of row [] = refl
bytes_of row (x ∷ xs) = ap (λ (l : List ℕ). joined_fields (row x) ++ l) (bytes_of row xs) ∙ sym (bytes_append (row x) (flat_map row xs))

-- a row is read as a field
pub reads_row : {A B : Type 0} (row : A → List (List ℕ)) (Is : A → Type 0) (old : Rest) (view : B → A) (result : Result (B × Rest) FieldFault)
    → ReadsFields row Is old view result → ReadsOr (λ a. joined_fields (row a)) Is (IsMissingField row Is) old view result
reads_row row Is old view (Ok r) reads = reads
reads_row row Is old view (Err (Bad at)) reads = reads
reads_row row Is old view (Err Memory) reads = reads

-- rows that are read as fields, one behind another, are a row
pub reads_rows : {A B : Type 0} (row : A → List (List ℕ)) (Is : A → Type 0) (rows : IsRowForm row Is) (n : ℕ) (old : Rest) (view : B → List A) (result : Result (B × Rest) FieldFault)
    → ReadsOr (flat_map (λ a. joined_fields (row a))) (AreValues Is n) (IsBadBehind (λ a. joined_fields (row a)) Is (IsMissingField row Is) n) old view result
    → ReadsFields (flat_map row) (AreValues Is n) old view result
reads_rows row Is rows n old view (Ok r) reads = (subst (λ (l : List ℕ). TakesBytes old l r.1) (bytes_of row (view r.0)) reads.0, reads.1)
reads_rows row Is rows n old view (Err (Bad at)) bad =
    let bytes = bytes_of row bad.fields in
    missing_as (flat_map row) (AreList Is n) (flat_map row) (AreValues Is n) old.at old.bytes.now at (values_as row Is n)
    (no_more_rows row Is rows bad.fields n old.at bad.next old.bytes.now bad.behind at (recursion_from_All Is bad.fields bad.good) bad.few
    (bad.splits ∙ ap (λ (l : List ℕ). l ++ bad.behind) bytes) (bad.place ∙ ap (λ (l : List ℕ). old.at + length l) bytes) bad.bad)
reads_rows row Is rows n old view (Err Memory) bad = tt

-- a record was taken behind its first byte
pub takes_record : (kind : ℕ) (item : LogRecord) (row : List ℕ) (old new : Rest) → IsRecord item → spelling item ≡ kind ∷ row → old.at ≡ 1 → TakesBytes old row new → BeginsWithRecord (kind ∷ old.bytes.now) item new
takes_record kind item row old new is same first takes = record {
  is = is;
  splits = ap (λ (l : List ℕ). kind ∷ l) takes.bytes ∙ ap (λ (l : List ℕ). l ++ new.bytes.now) (sym same);
  place = let size : length (spelling item) ≡ suc (length row) = ap length same in let place = takes.place in omega arith;
}
