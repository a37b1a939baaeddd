-- Fields that follow one another: where one of them is missing, the whole is.
use Rattle.std.proofs.Common.{◌≡◌, ℕ, ◌<◌, List, [], ◌∷◌, ◌++◌, length, Err, sym, ap, subst, ◌∙◌, append_assoc, arith}
use Rattle.std.specs.Prelude.{ℤ, Bool, Option}
use Rattle.std.specs.List.{flat_map}
use Rattle.std.proofs.lemmas.List.{append-nil}
use Rattle.tsdb_base.specs.declared.point.Stats.{Stats}
use Rattle.tsdb_base.specs.declared.value.DataType.{DataType}
use Rattle.tsdb_base.specs.declared.value.Value.{Value}
use Rattle.tsdb_base.specs.FieldLaws.{pair_field-prefix_free}
use Rattle.tsdb_base.specs.Fields.{pair_field, IsPair}
use Rattle.tsdb_base.specs.Plain.{AreValues, BeginsWithNone, plain_text, IsText}
use Rattle.tsdb_base.specs.PlainLaws.{plain_text-prefix_free}
use Rattle.tsdb_base.proofs.PlainLists.{IsPrefixFree, same_values}
use Rattle.tsdb_fields.specs.Nodes.{IsName, IsPath}
use Rattle.tsdb_fields.specs.declared.fault.FieldFault.{FieldFault}
use Rattle.tsdb_fields.specs.declared.fault.FieldFault.TheVariants.{Bad, Memory}
use Rattle.tsdb_fields.specs.declared.rest.Rest.{Rest}
use Rattle.tsdb_fields.specs.Reading.{ReadsParts}
use Rattle.tsdb_fields.specs.Statistics.{stats_field, IsStatsOf}
use Rattle.tsdb_index.specs.Faults.{ReadsWhole}
use Rattle.tsdb_index.specs.Steps.{IsCountedList}
use Rattle.tsdb_fields.proofs.Parts.{times, AreTimes, ends, AreEnds, numbers, AreNumbers, times-prefix_free, ends-prefix_free, numbers-prefix_free}

-- ---- no field's bytes begin those of another

abbrev made : ℕ × (ℤ × ℤ) → Value × Value → (Option Value × Option Value) × Option ℤ → Stats
made a b c = record { count = a.0; start = a.1.0; end = a.1.1; first = b.0; last = b.1; least = c.0.0; greatest = c.0.1; sum = c.1 }

pub stats_field-prefix_free : (s : Bool) (t : DataType) → IsPrefixFree stats_field (IsStatsOf s t)
stats_field-prefix_free s t a b x y is_a is_b e =
    let same = pair_field-prefix_free times (pair_field ends numbers) AreTimes (IsPair (AreEnds t) (AreNumbers s t)) times-prefix_free
    (pair_field-prefix_free ends numbers (AreEnds t) (AreNumbers s t) (ends-prefix_free t) (numbers-prefix_free s t))
    ((a.count, (a.start, a.end)), ((a.first, a.last), ((a.least, a.greatest), a.sum))) ((b.count, (b.start, b.end)), ((b.first, b.last), ((b.least, b.greatest), b.sum))) x y
    ((is_a.count, (is_a.start, is_a.end)), ((is_a.first, is_a.last), ((is_a.least, is_a.greatest), is_a.sum)))
    ((is_b.count, (is_b.start, is_b.end)), ((is_b.first, is_b.last), ((is_b.least, is_b.greatest), is_b.sum))) e in
    (ap (λ parts. made parts.0 parts.1.0 parts.1.1) same.0, same.1)

short_path : (path : List ℕ) → IsPath path → IsText path
short_path path is = omega (arith, is.1.short)

short_name : (name : List ℕ) → IsName name → IsText name
short_name name is = omega (arith, is.short)

pub path-prefix_free : IsPrefixFree plain_text IsPath
path-prefix_free a b x y is_a is_b e = plain_text-prefix_free a b x y (short_path a is_a) (short_path b is_b) e

pub name-prefix_free : IsPrefixFree plain_text IsName
name-prefix_free a b x y is_a is_b e = plain_text-prefix_free a b x y (short_name a is_a) (short_name b is_b) e

-- ---- a whole, whose bytes are those of a part and then its tail

-- the part is missing
pub none_here : {W A : Type 0} (whole : W → List ℕ) (IsWhole : W → Type 0) (f : A → List ℕ) (IsPart : A → Type 0) (part : W → A) (tail : W → List ℕ) (split : (w : W) → whole w ≡ f (part w) ++ tail w)
    (good : (w : W) → IsWhole w → IsPart (part w)) (bytes : List ℕ) → BeginsWithNone f IsPart bytes → BeginsWithNone whole IsWhole bytes
none_here whole IsWhole f IsPart part tail split good bytes none = λ w behind is e.
    none (part w) (tail w ++ behind) (good w is) (e ∙ ap (λ (l : List ℕ). l ++ behind) (split w) ∙ append_assoc (f (part w)) (tail w) behind)

-- the part is there, and behind it no tail of a whole with this part
pub none_behind : {W A : Type 0} (whole : W → List ℕ) (IsWhole : W → Type 0) (f : A → List ℕ) (IsPart : A → Type 0) (part : W → A) (tail : W → List ℕ) (split : (w : W) → whole w ≡ f (part w) ++ tail w)
    (good : (w : W) → IsWhole w → IsPart (part w)) (free : IsPrefixFree f IsPart) (a : A) (bytes rest : List ℕ) → IsPart a → bytes ≡ f a ++ rest → BeginsWithNone tail (λ w. IsWhole w × (part w ≡ a)) rest → BeginsWithNone whole IsWhole bytes
none_behind whole IsWhole f IsPart part tail split good free a bytes rest is_a found none = λ w behind is e.
    let same = free a (part w) rest (tail w ++ behind) is_a (good w is) (sym found ∙ e ∙ ap (λ (l : List ℕ). l ++ behind) (split w) ∙ append_assoc (f (part w)) (tail w) behind) in
    none w behind (is, sym same.0) same.1

-- ---- a mark, the number of the items, and the items

-- a fault of a part is one of the whole
pub whole_fault : {A B C D : Type 0} (part : A → List ℕ) (IsPart : A → Type 0) (IsIt : B → Type 0) (middle : Rest) (view : C → A) (view_whole : D → B) (fault : FieldFault)
    → (BeginsWithNone part IsPart middle.bytes.now → (it : B) → IsIt it → ⊥) → ReadsParts part IsPart middle view (Err fault) → ReadsWhole IsIt view_whole (Err fault)
whole_fault part IsPart IsIt middle view view_whole (Bad at) none reads = none reads
whole_fault part IsPart IsIt middle view view_whole Memory none reads = tt

tail_same : (n : ℕ) (xs ys : List ℕ) → n ∷ xs ≡ n ∷ ys → xs ≡ ys
tail_same n xs ys same = cc

pub no_mark : {A : Type 0} (mark : ℕ) (number : ℕ → List ℕ) (limit : ℕ) (f : A → List ℕ) (IsItem : A → Type 0) (bytes : List ℕ) → ((rest : List ℕ) → bytes ≡ mark ∷ rest → ⊥)
    → (items : List A) → IsCountedList mark number limit f IsItem bytes items → ⊥
no_mark mark number limit f IsItem bytes none items is = none (number (length items) ++ flat_map f items) is.bytes_are

fields_of : {A : Type 0} (mark : ℕ) (number : ℕ → List ℕ) (limit : ℕ) (f : A → List ℕ) (IsItem : A → Type 0) (bytes fields : List ℕ) (items : List A) → bytes ≡ mark ∷ fields → IsCountedList mark number limit f IsItem bytes items → fields ≡ number (length items) ++ flat_map f items
fields_of mark number limit f IsItem bytes fields items found is = tail_same mark fields (number (length items) ++ flat_map f items) (sym found ∙ is.bytes_are)

pub no_count : {A : Type 0} (mark : ℕ) (number : ℕ → List ℕ) (limit : ℕ) (f : A → List ℕ) (IsItem : A → Type 0) (bytes fields : List ℕ) → bytes ≡ mark ∷ fields → BeginsWithNone number (λ n. n < limit) fields
    → (items : List A) → IsCountedList mark number limit f IsItem bytes items → ⊥
no_count mark number limit f IsItem bytes fields found none items is = none (length items) (flat_map f items) is.few (fields_of mark number limit f IsItem bytes fields items found is)

-- the number is there: items with these bytes are so many, and their bytes are the rest
count_is : {A : Type 0} (mark : ℕ) (number : ℕ → List ℕ) (limit : ℕ) (f : A → List ℕ) (IsItem : A → Type 0) (free : IsPrefixFree number (λ n. n < limit)) (bytes fields rest : List ℕ) (n : ℕ) (items : List A) → bytes ≡ mark ∷ fields → fields ≡ number n ++ rest → n < limit
    → IsCountedList mark number limit f IsItem bytes items → (n ≡ length items) × (rest ≡ flat_map f items)
count_is mark number limit f IsItem free bytes fields rest n items found counted small is =
    free n (length items) rest (flat_map f items) small is.few (sym counted ∙ fields_of mark number limit f IsItem bytes fields items found is)

pub no_items : {A : Type 0} (mark : ℕ) (number : ℕ → List ℕ) (limit : ℕ) (f : A → List ℕ) (IsItem : A → Type 0) (free : IsPrefixFree number (λ n. n < limit)) (bytes fields rest : List ℕ) (n : ℕ) → bytes ≡ mark ∷ fields → fields ≡ number n ++ rest → n < limit
    → BeginsWithNone (flat_map f) (AreValues IsItem n) rest → (items : List A) → IsCountedList mark number limit f IsItem bytes items → ⊥
no_items mark number limit f IsItem free bytes fields rest n found counted small none items is =
    let same = count_is mark number limit f IsItem free bytes fields rest n items found counted small is in
    none items [] (sym same.0, is.good) (same.1 ∙ sym (append-nil (flat_map f items)))

pub more_behind : {A : Type 0} (mark : ℕ) (number : ℕ → List ℕ) (limit : ℕ) (f : A → List ℕ) (IsItem : A → Type 0) (free : IsPrefixFree number (λ n. n < limit)) (free_items : IsPrefixFree f IsItem) (bytes fields rest behind : List ℕ) (n : ℕ) (found_items : List A)
    → bytes ≡ mark ∷ fields → fields ≡ number n ++ rest → n < limit → rest ≡ flat_map f found_items ++ behind → AreValues IsItem n found_items → (behind ≡ [] → ⊥) → (items : List A) → IsCountedList mark number limit f IsItem bytes items → ⊥
more_behind mark number limit f IsItem free free_items bytes fields rest behind n found_items found counted small split are some items is =
    let same = count_is mark number limit f IsItem free bytes fields rest n items found counted small is in
    some (same_values f IsItem free_items found_items items behind [] (are.0 ∙ same.0) are.1 is.good (sym split ∙ same.1 ∙ sym (append-nil (flat_map f items)))).1

pub is_counted : {A : Type 0} (mark : ℕ) (number : ℕ → List ℕ) (limit : ℕ) (f : A → List ℕ) (IsItem : A → Type 0) (bytes fields rest behind : List ℕ) (n : ℕ) (items : List A)
    → bytes ≡ mark ∷ fields → fields ≡ number n ++ rest → n < limit → rest ≡ flat_map f items ++ behind → AreValues IsItem n items → behind ≡ [] → IsCountedList mark number limit f IsItem bytes items
is_counted mark number limit f IsItem bytes fields rest behind n items found number-is small split are none = record {
  few = subst (λ k. k < limit) (sym are.0) small;
  good = are.1;
  bytes_are =
      let whole : rest ≡ flat_map f items = split ∙ ap (λ (l : List ℕ). flat_map f items ++ l) none ∙ append-nil (flat_map f items) in
      found ∙ ap (λ (l : List ℕ). mark ∷ l) (number-is ∙ ap (λ (k : ℕ). number k ++ rest) (sym are.0) ∙ ap (λ (l : List ℕ). number (length items) ++ l) whole);
}
