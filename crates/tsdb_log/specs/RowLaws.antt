-- Rows of fields: how far bytes are those of one, put together from its parts.
use Rattle.std.proofs.Common.{◌≡◌, ℕ, ◌+◌, ◌≤◌, ◌⊎◌, List, [], ◌∷◌, ◌++◌, length, refl, sym, ap, subst, ◌∙◌, append_assoc, inl, inr, arith}
use Rattle.std.proofs.lemmas.Grind.{flat_map-append}
use Rattle.std.proofs.lemmas.List.{append-nil, length-append}
use Rattle.tsdb_base.proofs.PlainLists.{IsPrefixFree}
use Rattle.tsdb_log.specs.Places.{ReachesField}
use Rattle.tsdb_log.specs.Spelling.{joined_fields}
use Rattle.tsdb_log.specs.Rows.{both, field, AreBoth, IsRowForm}
use Rattle.tsdb_log.specs.Steps.{IsMissingField}

pub bytes_append : (xs ys : List (List ℕ)) → joined_fields (xs ++ ys) ≡ joined_fields xs ++ joined_fields ys
bytes_append xs ys = flat_map-append (λ (f : List ℕ). f) xs ys

-- the bytes of two rows and what follows them
pub regroup : (xs ys : List (List ℕ)) (behind : List ℕ) → joined_fields (xs ++ ys) ++ behind ≡ joined_fields xs ++ (joined_fields ys ++ behind)
regroup xs ys behind = ap (λ (l : List ℕ). l ++ behind) (bytes_append xs ys) ∙ append_assoc (joined_fields xs) (joined_fields ys) behind

pub bytes_length : (xs ys : List (List ℕ)) → length (joined_fields (xs ++ ys)) ≡ length (joined_fields xs) + length (joined_fields ys)
bytes_length xs ys = ap length (bytes_append xs ys) ∙ length-append (joined_fields xs) (joined_fields ys)

-- the first fields of two rows end in the first row or behind it
seam : (xs ys first more : List (List ℕ)) → xs ++ ys ≡ first ++ more
    → ((m : List (List ℕ)) × (xs ≡ first ++ m)) ⊎ ((m : List (List ℕ)) × (first ≡ xs ++ m) × (ys ≡ m ++ more))
seam xs ys [] more e = inl (xs, refl)
seam [] ys (f ∷ fs) more e = inr (f ∷ fs, refl, e)
seam (x ∷ xs) ys (f ∷ fs) more e =
    let head : x ≡ f = cc in
    let tail : xs ++ ys ≡ fs ++ more = cc in
    elim (seam xs ys fs more tail) [
      | inl p ↦ let same = p.1 in inl (p.0, cc)
      | inr p ↦ let same = p.1 in inr (p.0, cc, p.2)
    ]

pub one_field : (s : List ℕ) (first more : List (List ℕ)) → s ∷ [] ≡ first ++ more → (first ≡ []) ⊎ (first ≡ s ∷ [])
one_field s [] more e = inl refl
one_field s (f ∷ []) more e = inr cc
one_field s (f ∷ g ∷ fs) more e = absurd cc

pub alone : (s behind : List ℕ) → joined_fields (s ∷ []) ++ behind ≡ s ++ behind
alone s behind = ap (λ (l : List ℕ). l ++ behind) (append-nil s)

pub row_of_field : {A : Type 0} (spelling : A → List ℕ) (IsA : A → Type 0) → IsPrefixFree spelling IsA → IsRowForm (field spelling) IsA
row_of_field {A} spelling IsA free = record {
  free = λ a b x y is_a is_b e. free a b x y is_a is_b (sym (alone (spelling a) x) ∙ e ∙ alone (spelling b) y);
  full = λ a behind j is r. elim (one_field (spelling r.whole) r.first r.more r.begins) [
    | inl none ↦ let size = ap (λ (l : List (List ℕ)). length (joined_fields l)) none in let place = r.place in omega arith
    | inr one ↦
        let bytes = ap (λ (l : List (List ℕ)). joined_fields l ++ r.rest) one in
        let same = free a r.whole behind r.rest is r.is (sym (alone (spelling a) behind) ∙ r.splits ∙ bytes ∙ alone (spelling r.whole) r.rest) in
        let size = ap (λ (l : List (List ℕ)). length (joined_fields l)) one in
        let size2 = ap (λ (b : A). length (joined_fields (spelling b ∷ []))) same.0 in
        let place = r.place in
        omega arith
  ];
}

-- behind a first row the places are those of the second
within : {A B : Type 0} (first : A → List (List ℕ)) (second : B → List (List ℕ)) (IsFirst : A → Type 0) (IsSecond : A → B → Type 0) (row : IsRowForm first IsFirst)
    (a : A) (behind : List ℕ) (k : ℕ) → IsFirst a → ((j : ℕ) → ReachesField second (IsSecond a) behind j → j ≤ k)
    → (j : ℕ) → ReachesField (both first second) (AreBoth IsFirst IsSecond) (joined_fields (first a) ++ behind) j
    → j ≤ length (joined_fields (first a)) + k
within {A} {B} first second IsFirst IsSecond row a behind k is beyond j r =
    elim (seam (first r.whole.0) (second r.whole.1) r.first r.more r.begins) [
      | inl p ↦
          let there : ReachesField first IsFirst (joined_fields (first a) ++ behind) j =
          record { whole = r.whole.0; is = r.is.0; first = r.first; more = p.0; rest = r.rest; begins = p.1; splits = r.splits; place = r.place } in
          let le = row.full a behind j is there in
          omega arith
      | inr p ↦
          let bytes = r.splits ∙ ap (λ (l : List (List ℕ)). joined_fields l ++ r.rest) p.1 ∙ regroup (first r.whole.0) p.0 r.rest in
          let same = row.free a r.whole.0 behind (joined_fields p.0 ++ r.rest) is r.is.0 bytes in
          let there : ReachesField second (IsSecond a) behind (length (joined_fields p.0)) = record {
            whole = r.whole.1;
            is = subst (λ (x : A). IsSecond x r.whole.1) (sym same.0) r.is.1;
            first = p.0;
            more = r.more;
            rest = r.rest;
            begins = p.2;
            splits = same.1;
            place = refl;
          } in
          let le = beyond (length (joined_fields p.0)) there in
          let size = ap (λ (l : List (List ℕ)). length (joined_fields l)) p.1 ∙ bytes_length (first r.whole.0) p.0 in
          let size2 = ap (λ (x : A). length (joined_fields (first x))) same.0 in
          let place = r.place in
          omega arith
    ]

pub row_of_both : {A B : Type 0} (first : A → List (List ℕ)) (second : B → List (List ℕ)) (IsFirst : A → Type 0) (IsSecond : A → B → Type 0)
    → IsRowForm first IsFirst → ((a : A) → IsFirst a → IsRowForm second (IsSecond a)) → IsRowForm (both first second) (AreBoth IsFirst IsSecond)
row_of_both {A} {B} first second IsFirst IsSecond row rows = record {
  free = λ p q x y is_p is_q e.
      let heads = row.free p.0 q.0 (joined_fields (second p.1) ++ x) (joined_fields (second q.1) ++ y) is_p.0 is_q.0
      (sym (regroup (first p.0) (second p.1) x) ∙ e ∙ regroup (first q.0) (second q.1) y) in
      let tails = (rows p.0 is_p.0).free p.1 q.1 x y is_p.1 (subst (λ (a : A). IsSecond a q.1) (sym heads.0) is_q.1) heads.1 in
      let pair : A → B → A × B = λ a b. (a, b) in
      let same_first : p.0 ≡ q.0 = heads.0 in
      let same_second : p.1 ≡ q.1 = tails.0 in
      let same : pair p.0 p.1 ≡ pair q.0 q.1 = cc in
      (same, tails.1);
  full = λ p behind j is r.
      let bytes = regroup (first p.0) (second p.1) behind in
      let there : ReachesField (both first second) (AreBoth IsFirst IsSecond)
      (joined_fields (first p.0) ++ (joined_fields (second p.1) ++ behind)) j = record {
        whole = r.whole;
        is = r.is;
        first = r.first;
        more = r.more;
        rest = r.rest;
        begins = r.begins;
        splits = sym bytes ∙ r.splits;
        place = r.place;
      } in
      let le = within first second IsFirst IsSecond row p.0 (joined_fields (second p.1) ++ behind) (length (joined_fields (second p.1))) is.0
      (λ k s. (rows p.0 is.0).full p.1 behind k is.1 s) j there in
      let size = bytes_length (first p.0) (second p.1) in
      omega arith;
}

-- the first of two rows is missing
pub no_first : {A B : Type 0} (first : A → List (List ℕ)) (second : B → List (List ℕ)) (IsFirst : A → Type 0) (IsSecond : A → B → Type 0) (start : ℕ) (bytes : List ℕ) (at : ℕ)
    → ((a : A) → IsFirst a → (b : B) × IsSecond a b) → IsMissingField first IsFirst start bytes at
    → IsMissingField (both first second) (AreBoth IsFirst IsSecond) start bytes at
no_first {A} {B} first second IsFirst IsSecond start bytes at some m = record {
  none = λ p behind is e. m.none p.0 (joined_fields (second p.1) ++ behind) is.0 (e ∙ regroup (first p.0) (second p.1) behind);
  count = m.count;
  place = m.place;
  furthest = record {
    reached =
        let r = m.furthest.reached in
        let b = some r.whole r.is in
        record {
          whole = (r.whole, b.0);
          is = (r.is, b.1);
          first = r.first;
          more = r.more ++ second b.0;
          rest = r.rest;
          begins = ap (λ (l : List (List ℕ)). l ++ second b.0) r.begins ∙ append_assoc r.first r.more (second b.0);
          splits = r.splits;
          place = r.place;
        };
    none_beyond = λ j r. elim (seam (first r.whole.0) (second r.whole.1) r.first r.more r.begins) [
      | inl p ↦ m.furthest.none_beyond j (record { whole = r.whole.0; is = r.is.0; first = r.first; more = p.0; rest = r.rest; begins = p.1; splits = r.splits; place = r.place })
      | inr p ↦
          absurd (m.none r.whole.0 (joined_fields p.0 ++ r.rest) r.is.0 (r.splits ∙ ap (λ (l : List (List ℕ)). joined_fields l ++ r.rest) p.1 ∙ regroup (first r.whole.0) p.0 r.rest))
    ];
  };
}

-- the first of two rows stands there, and the second is missing
pub no_second : {A B : Type 0} (first : A → List (List ℕ)) (second : B → List (List ℕ)) (IsFirst : A → Type 0) (IsSecond : A → B → Type 0) (row : IsRowForm first IsFirst)
    (a : A) (start middle : ℕ) (bytes behind : List ℕ) (at : ℕ) → IsFirst a → bytes ≡ joined_fields (first a) ++ behind → middle ≡ start + length (joined_fields (first a))
    → IsMissingField second (IsSecond a) middle behind at → IsMissingField (both first second)
    (AreBoth IsFirst IsSecond) start bytes at
no_second {A} {B} first second IsFirst IsSecond row a start middle bytes behind at is found there m = record {
  none = λ p rest is_p e.
      let same = row.free a p.0 behind (joined_fields (second p.1) ++ rest) is is_p.0 (sym found ∙ e ∙ regroup (first p.0) (second p.1) rest) in
      m.none p.1 rest (subst (λ (x : A). IsSecond x p.1) (sym same.0) is_p.1) same.1;
  count = length (joined_fields (first a)) + m.count;
  place = let place = m.place in omega arith;
  furthest = record {
    reached =
        let r = m.furthest.reached in
        record {
          whole = (a, r.whole);
          is = (is, r.is);
          first = first a ++ r.first;
          more = r.more;
          rest = r.rest;
          begins = ap (λ (l : List (List ℕ)). first a ++ l) r.begins ∙ sym (append_assoc (first a) r.first r.more);
          splits = found ∙ ap (λ (l : List ℕ). joined_fields (first a) ++ l) r.splits ∙ sym (regroup (first a) r.first r.rest);
          place = ap (λ (n : ℕ). length (joined_fields (first a)) + n) r.place ∙ sym (bytes_length (first a) r.first);
        };
    none_beyond = λ j r. within first second IsFirst IsSecond row a behind m.count is (λ k s. m.furthest.none_beyond k s) j
        (record { whole = r.whole; is = r.is; first = r.first; more = r.more; rest = r.rest; begins = r.begins; splits = sym found ∙ r.splits; place = r.place });
  };
}
