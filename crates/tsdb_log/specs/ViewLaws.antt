-- Records that are same_fields as rows of fields are.
use Rattle.std.proofs.Common.{◌≡◌, ℕ, ◌+◌, ◌≤◌, List, [], ◌∷◌, ◌++◌, length, refl, sym, ap, subst, ◌∙◌, arith}
use Rattle.std.proofs.lemmas.List.{length-append}
use Rattle.std.specs.List.{flat_map}
use Rattle.tsdb_base.specs.Plain.{AreValues}
use Rattle.tsdb_log.specs.Rows.{IsRowForm}
use Rattle.tsdb_log.specs.declared.record.LogRecord.{LogRecord}
use Rattle.tsdb_log.specs.declared.record.LogRecord.TheVariants.{Create, Insert, Delete, Freeze, Flushed, Replaced, Snapshot}
use Rattle.tsdb_log.specs.Places.{ReachesField}
use Rattle.tsdb_log.specs.Spelling.{joined_fields, fields, spelling, IsRecord}
use Rattle.tsdb_log.specs.Steps.{IsMissingField}
use Rattle.tsdb_log.specs.ListLaws.{AreList, list_of_values, values_of_list}

-- one is made of the other, and same_fields as it is
pub record IsWrittenAs {A R : Type 0} (row : A → List (List ℕ)) (IsA : A → Type 0) (whole : R → List (List ℕ)) (IsR : R → Type 0) : Type 0 where
  pub make : A → R
  pub view : (r : R) → IsR r → (a : A) × IsA a × (r ≡ make a)
  pub back : (a : A) → IsA a → IsR (make a) × (whole (make a) ≡ row a)

-- its fields are those of the other
same_fields : {A R : Type 0} (row : A → List (List ℕ)) (IsA : A → Type 0) (whole : R → List (List ℕ)) (IsR : R → Type 0) (as_row : IsWrittenAs row IsA whole IsR) (r : R) (is : IsR r)
    → whole r ≡ row (as_row.view r is).0
same_fields {A} {R} row IsA whole IsR as_row r is =
    let v = as_row.view r is in
    ap (λ (x : R). whole x) v.2 ∙ (as_row.back v.0 v.1).1

reaches_as : {A R : Type 0} (row : A → List (List ℕ)) (IsA : A → Type 0) (whole : R → List (List ℕ)) (IsR : R → Type 0) (bytes : List ℕ) (j : ℕ)
    → IsWrittenAs row IsA whole IsR → ReachesField whole IsR bytes j → ReachesField row IsA bytes j
reaches_as row IsA whole IsR bytes j as_row r =
    let v = as_row.view r.whole r.is in
    record {
      whole = v.0;
      is = v.1;
      first = r.first;
      more = r.more;
      rest = r.rest;
      begins = sym (same_fields row IsA whole IsR as_row r.whole r.is) ∙ r.begins;
      splits = r.splits;
      place = r.place;
    }

pub missing_as : {A R : Type 0} (row : A → List (List ℕ)) (IsA : A → Type 0) (whole : R → List (List ℕ)) (IsR : R → Type 0) (start : ℕ) (bytes : List ℕ) (at : ℕ)
    → IsWrittenAs row IsA whole IsR → IsMissingField row IsA start bytes at → IsMissingField whole IsR start bytes at
missing_as row IsA whole IsR start bytes at as_row m = record {
  none = λ r behind is e.
      let v = as_row.view r is in
      m.none v.0 behind v.1 (e ∙ ap (λ (l : List (List ℕ)). joined_fields l ++ behind) (same_fields row IsA whole IsR as_row r is));
  count = m.count;
  place = m.place;
  furthest = record {
    reached =
        let r = m.furthest.reached in
        let b = as_row.back r.whole r.is in
        record { whole = as_row.make r.whole; is = b.0; first = r.first; more = r.more; rest = r.rest; begins = b.1 ∙ r.begins; splits = r.splits; place = r.place };
    none_beyond = λ j r. m.furthest.none_beyond j (reaches_as row IsA whole IsR bytes j as_row r);
  };
}

-- and so its row is one
pub row_as : {A R : Type 0} (row : A → List (List ℕ)) (IsA : A → Type 0) (whole : R → List (List ℕ)) (IsR : R → Type 0) → IsWrittenAs row IsA whole IsR → IsRowForm row IsA → IsRowForm whole IsR
row_as {A} {R} row IsA whole IsR as_row rows = record {
  free = λ r s x y is_r is_s e.
      let v = as_row.view r is_r in
      let w = as_row.view s is_s in
      let bytes = ap (λ (l : List (List ℕ)). joined_fields l ++ x) (same_fields row IsA whole IsR as_row r is_r) in
      let bytes2 = ap (λ (l : List (List ℕ)). joined_fields l ++ y) (same_fields row IsA whole IsR as_row s is_s) in
      let same = rows.free v.0 w.0 x y v.1 w.1 (sym bytes ∙ e ∙ bytes2) in
      (v.2 ∙ ap (λ (a : A). as_row.make a) same.0 ∙ sym w.2, same.1);
  full = λ r behind j is p.
      let v = as_row.view r is in
      let fields-are = same_fields row IsA whole IsR as_row r is in
      let there = subst (λ (l : List (List ℕ)). ReachesField row IsA (joined_fields l
      ++ behind) j) fields-are (reaches_as row IsA whole IsR (joined_fields (whole r) ++ behind) j as_row p) in
      let le = rows.full v.0 behind j v.1 there in
      let size = ap (λ (l : List (List ℕ)). length (joined_fields l)) fields-are in
      omega arith;
}

-- the first byte of a record
abbrev pub record_kind : LogRecord → ℕ
record_kind (Create path data_type encoding) = 1
record_kind (Insert time cells) = 2
record_kind (Delete path range) = 3
record_kind Freeze = 4
record_kind (Flushed sequence unsequence) = 5
record_kind (Replaced born space place output sequence unsequence) = 6
record_kind (Snapshot snapshot) = 7

abbrev pub IsOfKind : ℕ → LogRecord → Type 0
IsOfKind kind item = IsRecord item × (record_kind item ≡ kind)

-- a record's fields are its first byte and more
pub kind_first : (item : LogRecord) → (more : List (List ℕ)) × (fields item ≡ (record_kind item ∷ []) ∷ more)
kind_first (Create path data_type encoding) = (_, refl)
kind_first (Insert time cells) = (_, refl)
kind_first (Delete path range) = (_, refl)
kind_first Freeze = (_, refl)
kind_first (Flushed sequence unsequence) = (_, refl)
kind_first (Replaced born space place output sequence unsequence) = (_, refl)
kind_first (Snapshot snapshot) = (_, refl)

pub kind_range : (item : LogRecord) → (1 ≤ record_kind item) × (record_kind item ≤ 7)
kind_range (Create path data_type encoding) = (omega arith, omega arith)
kind_range (Insert time cells) = (omega arith, omega arith)
kind_range (Delete path range) = (omega arith, omega arith)
kind_range Freeze = (omega arith, omega arith)
kind_range (Flushed sequence unsequence) = (omega arith, omega arith)
kind_range (Replaced born space place output sequence unsequence) = (omega arith, omega arith)
kind_range (Snapshot snapshot) = (omega arith, omega arith)

-- behind its kind a record is same_fields as the row is
abbrev pub behind_kind : {A : Type 0} → ℕ → (A → List (List ℕ)) → A → List (List ℕ)
behind_kind kind row a = (kind ∷ []) ∷ row a

-- what hinders a row behind a first byte hinders all records
pub no_record : {A : Type 0} (kind : ℕ) (row : A → List (List ℕ)) (IsA : A → Type 0) (bytes : List ℕ) (at : ℕ)
    → IsWrittenAs (behind_kind kind row) IsA fields (IsOfKind kind) → IsMissingField row IsA 1 bytes at
    → IsMissingField fields IsRecord 0 (kind ∷ bytes) at
no_record {A} kind row IsA bytes at as_row m = record {
  none = λ item behind is e.
      let first = kind_first item in
      let bytes-begin = e ∙ ap (λ (l : List (List ℕ)). joined_fields l ++ behind) first.1 in
      let same : record_kind item ≡ kind = cc in
      let v = as_row.view item (is, same) in
      let bytes_are = e ∙ ap (λ (l : List (List ℕ)). joined_fields l ++ behind) (same_fields (behind_kind kind row) IsA fields (IsOfKind kind) as_row item (is, same)) in
      let rest : bytes ≡ joined_fields (row v.0) ++ behind = cc in
      m.none v.0 behind v.1 rest;
  count = 1 + m.count;
  place = let place = m.place in omega arith;
  furthest = record {
    reached =
        let r = m.furthest.reached in
        let b = as_row.back r.whole r.is in
        record {
          whole = as_row.make r.whole;
          is = b.0.0;
          first = (kind ∷ []) ∷ r.first;
          more = r.more;
          rest = r.rest;
          begins = b.1 ∙ ap (λ (l : List (List ℕ)). (kind ∷ []) ∷ l) r.begins;
          splits = ap (λ (l : List ℕ). kind ∷ l) r.splits;
          place = let place = r.place in omega arith;
        };
    none_beyond = λ j r. far j r.whole r.first r.more r.rest r.is r.begins r.splits r.place;
  };
} where
  far : (j : ℕ) (item : LogRecord) (first more : List (List ℕ)) (rest : List ℕ) → IsRecord item → fields item ≡ first ++ more → kind ∷ bytes ≡ joined_fields first ++ rest → j ≡ length (joined_fields first) → j ≤ 1 + m.count
  far j item [] more rest is begins splits place = omega arith
  far j item (f ∷ fs) more rest is begins splits place =
      let head = kind_first item in
      let both = sym head.1 ∙ begins in
      let byte : record_kind item ∷ [] ≡ f = cc in
      let bytes-begin = splits ∙ ap (λ (l : List ℕ). (l ++ joined_fields fs) ++ rest) (sym byte) in
      let same : record_kind item ≡ kind = cc in
      let v = as_row.view item (is, same) in
      let rows = sym (same_fields (behind_kind kind row) IsA fields (IsOfKind kind) as_row item (is, same)) ∙ begins in
      let behind : row v.0 ≡ fs ++ more = cc in
      let left : bytes ≡ joined_fields fs ++ rest = cc in
      let there : ReachesField row IsA bytes (length (joined_fields fs)) =
      record { whole = v.0; is = v.1; first = fs; more = more; rest = rest; begins = behind; splits = left; place = refl } in
      let le = m.furthest.none_beyond (length (joined_fields fs)) there in
      let size : 1 ≡ length f = ap length byte in
      let total : length (f ++ joined_fields fs) ≡ length f + length (joined_fields fs) = length-append f (joined_fields fs) in
      omega arith

-- behind a first byte a row is one
pub row_of_kind : {A : Type 0} (kind : ℕ) (row : A → List (List ℕ)) (IsA : A → Type 0) → IsWrittenAs (behind_kind kind row) IsA fields (IsOfKind kind) → IsRowForm row IsA → IsRowForm fields (IsOfKind kind)
row_of_kind {A} kind row IsA as_row rows = row_as (behind_kind kind row) IsA fields (IsOfKind kind) as_row (record {
  free = λ a b x y is_a is_b e.
      let rest : joined_fields (row a) ++ x ≡ joined_fields (row b) ++ y = cc in
      rows.free a b x y is_a is_b rest;
  full = λ a behind j is r. far j a behind r.whole r.first r.more r.rest is r.is r.begins r.splits r.place;
}) where
  far : (j : ℕ) (a : A) (behind : List ℕ) (whole : A) (first more : List (List ℕ)) (rest : List ℕ) → IsA a → IsA whole → (kind ∷ []) ∷ row whole ≡ first ++ more
      → kind ∷ (joined_fields (row a) ++ behind) ≡ joined_fields first ++ rest → j ≡ length (joined_fields first) → j ≤ length (joined_fields ((kind ∷ []) ∷ row a))
  far j a behind whole [] more rest is is_whole begins splits place = omega arith
  far j a behind whole (f ∷ fs) more rest is is_whole begins splits place =
      let byte : kind ∷ [] ≡ f = cc in
      let others : row whole ≡ fs ++ more = cc in
      let bytes = splits ∙ ap (λ (l : List ℕ). (l ++ joined_fields fs) ++ rest) (sym byte) in
      let left : joined_fields (row a) ++ behind ≡ joined_fields fs ++ rest = cc in
      let le = rows.full a behind (length (joined_fields fs)) is (record { whole = whole; is = is_whole; first = fs; more = more; rest = rest; begins = others; splits = left; place = refl }) in
      let size : 1 ≡ length f = ap length byte in
      let total : length (f ++ joined_fields fs) ≡ length f + length (joined_fields fs) = length-append f (joined_fields fs) in
      omega arith

-- records whose bytes begin alike are of one kind
pub kind_same : (a b : LogRecord) (x y : List ℕ) → spelling a ++ x ≡ spelling b ++ y → record_kind a ≡ record_kind b
kind_same a b x y e =
    let first = kind_first a in
    let other = kind_first b in
    let bytes = sym (ap (λ (l : List (List ℕ)). joined_fields l ++ x) first.1) ∙ e ∙ ap (λ (l : List (List ℕ)). joined_fields l ++ y) other.1 in
    cc

-- so many rows, by recursion and as contracts have them
pub values_as : {A : Type 0} (row : A → List (List ℕ)) (Is : A → Type 0) (n : ℕ) → IsWrittenAs (flat_map row) (AreList Is n) (flat_map row) (AreValues Is n)
values_as row Is n = record {
  make = λ xs. xs;
  view = λ xs are. (xs, list_of_values Is n xs are, refl);
  back = λ xs are. (values_of_list Is n xs are, refl);
}
