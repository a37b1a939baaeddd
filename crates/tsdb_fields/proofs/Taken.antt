-- Fields that were taken off a rest, one behind another.
use Rattle.std.proofs.Common.{◌≡◌, ℕ, ◌+◌, ◌<◌, List, [], ◌∷◌, ◌++◌, length, Err, refl, sym, ap, ◌∙◌, append_assoc, arith}
use Rattle.std.specs.List.{flat_map}
use Rattle.std.proofs.lemmas.Grind.{flat_map-append}
use Rattle.std.proofs.lemmas.List.{append-nil, length-append}
use Rattle.std.proofs.lemmas.List.Elements.{All-push}
use Rattle.tsdb_base.specs.Plain.{AreValues}
use Rattle.tsdb_base.proofs.PlainLists.{IsPrefixFree, no_more}
use Rattle.tsdb_fields.specs.declared.fault.FieldFault.{FieldFault}
use Rattle.tsdb_fields.specs.declared.fault.FieldFault.TheVariants.{Bad, Memory}
use Rattle.tsdb_fields.specs.declared.rest.Rest.{Rest}
use Rattle.tsdb_fields.specs.Reading.{IsBadBehind, LacksPart, ReadsOr, ReadsParts, TakesBytes}

-- one part and another behind it are taken
pub takes_both : (old middle new : Rest) (first second : List ℕ) → TakesBytes old first middle → TakesBytes middle second new → TakesBytes old (first ++ second) new
takes_both old middle new first second a b = record {
  bytes = a.bytes ∙ ap (λ (l : List ℕ). first ++ l) b.bytes ∙ sym (append_assoc first second new.bytes.now);
  place = let n = length-append first second in omega (arith, a.place, b.place, n);
}

pub takes_same : (old new : Rest) (text other : List ℕ) → text ≡ other → TakesBytes old text new → TakesBytes old other new
takes_same old new text other same t = record {
  bytes = t.bytes ∙ ap (λ (l : List ℕ). l ++ new.bytes.now) same;
  place = t.place ∙ ap (λ (l : List ℕ). old.at + length l) same;
}

-- so many fields are taken
pub record AreTaken {A : Type 0} (spelling : A → List ℕ) (IsField : A → Type 0) (count : ℕ) (old : Rest) (fields : List A) (left : Rest) : Type 0 where
  pub takes : TakesBytes old (flat_map spelling fields) left
  pub are : AreValues IsField count fields

pub none_taken : {A : Type 0} (spelling : A → List ℕ) (IsField : A → Type 0) (old : Rest) (fields : List A) → fields ≡ [] → AreTaken spelling IsField 0 old fields old
none_taken spelling IsField old [] none = record { takes = record { bytes = refl; place = omega arith }; are = (refl, λ k d lt. absurd (omega arith)) }
none_taken spelling IsField old (x ∷ xs) none = absurd cc

pub one_taken : {A : Type 0} (spelling : A → List ℕ) (IsField : A → Type 0) (count : ℕ) (old middle new : Rest) (fields more : List A) (field : A) → more ≡ fields ++ field ∷ []
    → AreTaken spelling IsField count old fields middle → TakesBytes middle (spelling field) new → IsField field → AreTaken spelling IsField (count + 1) old more new
one_taken spelling IsField count old middle new fields more field is so_far takes good =
    let all : flat_map spelling fields ++ spelling field ≡ flat_map spelling more =
    ap (λ (l : List ℕ). flat_map spelling fields ++ l) (sym (append-nil (spelling field))) ∙ sym (flat_map-append spelling fields (field ∷ [])) ∙ ap (flat_map spelling) (sym is) in
    let size = ap length is ∙ length-append fields (field ∷ []) in
    let so_many = so_far.are.0 in
    record {
      takes = takes_same old new (flat_map spelling fields ++ spelling field) (flat_map spelling more) all (takes_both old middle new (flat_map spelling fields) (spelling field) so_far.takes takes);
      are = (omega (arith, size, so_many), rw is (All-push IsField fields field so_far.are.1 good));
    }

-- behind fewer fields there is none, or memory ran out
pub one_bad : {A B C : Type 0} (spelling : A → List ℕ) (IsField : A → Type 0) (IsBad : ℕ → List ℕ → ℕ → Type 0) (so_many count : ℕ) (old middle : Rest) (fields : List A) (view : C → A) (view_all : B → List A) (fault : FieldFault)
    → so_many < count → AreTaken spelling IsField so_many old fields middle → ReadsOr spelling IsField IsBad middle view (Err fault)
    → ReadsOr (flat_map spelling) (AreValues IsField count) (IsBadBehind spelling IsField IsBad count) old view_all (Err fault)
one_bad spelling IsField IsBad so_many count old middle fields view view_all (Bad at) few so_far bad = record {
  fields = fields;
  good = so_far.are.1;
  few = let size = so_far.are.0 in omega (arith, few, size);
  next = middle.at;
  behind = middle.bytes.now;
  place = so_far.takes.place;
  splits = so_far.takes.bytes;
  bad = bad;
}
one_bad spelling IsField IsBad so_many count old middle fields view view_all Memory few so_far bad = tt

-- where no field begins another, and none stands behind fewer, there are not so many
pub no_fields : {A B : Type 0} (spelling : A → List ℕ) (IsField : A → Type 0) (free : IsPrefixFree spelling IsField) (count : ℕ) (old : Rest) (view : B → List A) (fault : FieldFault)
    → ReadsOr (flat_map spelling) (AreValues IsField count) (IsBadBehind spelling IsField (LacksPart spelling IsField) count) old view (Err fault)
    → ReadsParts (flat_map spelling) (AreValues IsField count) old view (Err fault)
no_fields spelling IsField free count old view (Bad at) stops = λ values behind are e.
    let few = stops.few in
    no_more spelling IsField free stops.fields values stops.behind behind (omega (arith, few, are.0)) stops.good are.1 (sym stops.splits ∙ e) stops.bad
no_fields spelling IsField free count old view Memory stops = tt
