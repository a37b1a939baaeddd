use Rattle.std.proofs.Common.{◌≡◌, ℕ, ◌+◌, ◌-◌, ◌<◌, ◌≤◌, ◌^◌, List, [], ◌∷◌, ◌++◌, length, to_z, of_z, ℤ, All, FitsSigned, Err, rules, arith, ap, sym, subst, ◌∙◌, refl}
use Rattle.std.proofs.Common.{Vec}
use Rattle.std.specs.Global.{Global}
use Rattle.std.specs.Int.{w64}
use Rattle.std.proofs.lemmas.Int.{to_z-of_z}
use Rattle.tsdb_base.specs.declared.fault.DecodeFault.{DecodeFault}
use Rattle.tsdb_base.specs.declared.fault.DecodeFault.TheVariants as fault
use Rattle.std.proofs.lemmas.Result.{err_from_is_err_and, IfOk-weaker}
use Rattle.std.proofs.lemmas.List.{nil_from_length}
use Rattle.std.proofs.lemmas.List.Elements.{All-nil, All-head, All-tail}
use Rattle.tsdb_base.specs.Limits.{max_values}
use Rattle.tsdb_base.specs.Plain.{BeginsWithNone}
use Rattle.tsdb_bits.specs.Leb.{leb}
use Rattle.tsdb_bits.specs.Zigzag.{zigzag, unzigzag}
use Rattle.tsdb_bits.proofs.ZigzagLaws.{unzigzag-zigzag}
use Rattle.tsdb_bits.specs.Lists.{IsListOf, IsSpelling}
use Rattle.enc_ts2diff.specs.Spelling.{differences, block, values_content, spelling}
use Rattle.enc_ts2diff.specs.Steps.{Finds, FindsBlock, Continues, Restores, offsets_above}
use Rattle.enc_ts2diff.proofs.Numbers.{zigzag-lt, differences_fit, length-differences}
use Rattle.enc_ts2diff.proofs.Canonical.{length-restored, spells, spells_none}
use Rattle.enc_ts2diff.proofs.Parts.{spelling_parts, content_parts, list_continues}
use Rattle.enc_ts2diff.proofs.decode.list_in.Goals as goal

-- a list that is spelled so has a count
no_count : (values : List ℤ) (bytes : List ℕ) → IsListOf (FitsSigned w64) values → spelling values ≡ bytes → BeginsWithNone leb (λ count. count ≤ max_values) bytes → ⊥
unfolding spelling
no_count values bytes p e none = none (length values) (values_content values) p.few (sym e)

no_first : (values : List ℤ) (bytes rest : List ℕ) (count : ℕ) → (count ≡ 0 → ⊥) → IsListOf (FitsSigned w64) values → spelling values ≡ bytes → bytes ≡ leb count ++ rest
    → BeginsWithNone leb (λ number. number < 2 ^ 64) rest → ⊥
unfolding values_content
no_first [] bytes rest count some p e f none = some (sym (spelling_parts [] bytes rest count e f).0)
no_first (x ∷ xs) bytes rest count some p e f none =
    none (zigzag x) (block (differences x xs)) (zigzag-lt x (All-head (FitsSigned w64) x xs p.typed)) (sym (spelling_parts (x ∷ xs) bytes rest count e f).1)

none_at_all : (values : List ℤ) (bytes rest : List ℕ) (count : ℕ) → count ≡ 0 → spelling values ≡ bytes → bytes ≡ leb count ++ rest → [] ≡ values
none_at_all values bytes rest count z e f =
    let k = spelling_parts values bytes rest count e f in
    sym (nil_from_length values (k.0 ∙ z))

-- a list with a first value
record Parts (values : List ℤ) (count first : ℕ) (rest : List ℕ) : Type 0 where
  head : ℤ
  tail : List ℤ
  whole : head ∷ tail ≡ values
  head-is : unzigzag first ≡ head
  size : length (differences head tail) ≡ count - 1
  block-is : block (differences head tail) ≡ rest
  fits : All (FitsSigned w64) tail

parts : (values : List ℤ) (bytes rest more : List ℕ) (count first : ℕ) → (count ≡ 0 → ⊥) → IsListOf (FitsSigned w64) values → spelling values ≡ bytes → bytes ≡ leb count ++ rest → rest ≡ leb first ++ more → Parts values count first more
parts [] bytes rest more count first some p e f g = absurd (some (sym (spelling_parts [] bytes rest count e f).0))
parts (x ∷ xs) bytes rest more count first some p e f g =
    let k = spelling_parts (x ∷ xs) bytes rest count e f in
    let t = content_parts x xs rest more first k.1 g in
    record {
      head = x;
      tail = xs;
      whole = refl;
      head-is = ap unzigzag (sym t.0) ∙ unzigzag-zigzag x;
      size = omega (arith, k.0, length-differences x xs);
      block-is = t.1;
      fits = All-tail (FitsSigned w64) x xs p.typed;
    }

pub returns-in_err-count-clause-finds : goal.returns-in_err-count-clause-finds
returns-in_err-count-clause-finds c = λ values p e. absurd (no_count values c.args.bytes.now p e c.in_err-count.ensures.none)

-- nothing stands behind a count of 0
nothing_behind : (values : List ℤ) (bytes rest : List ℕ) (count : ℕ) → count ≡ 0 → spelling values ≡ bytes → bytes ≡ leb count ++ rest → [] ≡ rest
unfolding values_content
nothing_behind values bytes rest count z e f =
    let k = spelling_parts values bytes rest count e f in
    let none : values ≡ [] = nil_from_length values (k.0 ∙ z) in
    sym (ap values_content none) ∙ k.1

pub returns-then-not-is_empty-clause-finds : goal.returns-then-not-is_empty-clause-finds
returns-then-not-is_empty-clause-finds c = λ values p e.
    let none = ap length (nothing_behind values c.args.bytes.now c.in_ok-count.rest.now c.in_ok-count.count c.if-count-eq0.true e c.in_ok-count.ensures.found) in
    absurd (search rules)

pub returns-then-count-eq0-clause-found : goal.returns-then-count-eq0-clause-found
returns-then-count-eq0-clause-found c =
    let none : length c.in_ok-count.rest.now ≡ 0 = search rules in
    let items : c.new.result.items ≡ [] = c.new.ensures.items in
    record {
      list = record { few = rw items (omega arith); typed = rw items (All-nil (FitsSigned w64)) };
      bytes_are = spells_none c.args.bytes.now c.in_ok-count.rest.now c.new.result.items (c.in_ok-count.ensures.found ∙ ap (λ (n : ℕ). leb n ++ c.in_ok-count.rest.now) c.if-count-eq0.true) (nil_from_length c.in_ok-count.rest.now none) items;
    }

pub returns-then-count-eq0-clause-finds : goal.returns-then-count-eq0-clause-finds
returns-then-count-eq0-clause-finds c = λ values p e.
    c.new.ensures.items ∙ none_at_all values c.args.bytes.now c.in_ok-count.rest.now c.in_ok-count.count c.if-count-eq0.true e c.in_ok-count.ensures.found

pub returns-in_err-first-clause-finds : goal.returns-in_err-first-clause-finds
returns-in_err-first-clause-finds c = λ values p e.
    absurd (no_first values c.args.bytes.now c.in_ok-count.rest.now c.in_ok-count.count c.if-count-eq0.false p e c.in_ok-count.ensures.found c.in_err-first.ensures.none)

-- a fault of a part is the fault of the whole
handed_on : {X : Type 0} (view : X → List ℤ) (e : DecodeFault) (steps values : List ℤ) → FindsBlock (Err e) steps → Finds view (Err e) values
handed_on view fault.Bad steps values f = absurd f
handed_on view fault.Memory steps values f = tt

pub returns-in_err-base-clause-finds : goal.returns-in_err-base-clause-finds
returns-in_err-base-clause-finds c = λ values p e.
    let k = parts values c.args.bytes.now c.in_ok-count.rest.now c.in_ok-first.rest.now c.in_ok-count.count c.in_ok-first.first c.if-count-eq0.false p e c.in_ok-count.ensures.found c.in_ok-first.ensures.found in
    let f = c.in_err-base.ensures.finds (differences k.head k.tail) k.size (differences_fit k.head k.tail) k.block-is in
    let q = err_from_is_err_and c.from_residual-in_err-base.result c.from_residual-in_err-base.ensures.1 in
    rw (q.1, q.2) (handed_on {X = Vec ℤ Global} (λ found. found.items) c.in_err-base.field-0.0 (differences k.head k.tail) values f)

passed : (base first base' first' : ℤ) (above lent : List ℕ) (values : List ℤ) → base' ≡ base → first' ≡ first → lent ≡ above → Continues base first above values → Continues base' first' lent values
passed base first base' first' above lent values b f l k = rw (b, f, l) k

pub returns-clause-finds : goal.returns-clause-finds
returns-clause-finds c = λ values p e.
    let k = parts values c.args.bytes.now c.in_ok-count.rest.now c.in_ok-first.rest.now c.in_ok-count.count c.in_ok-first.first c.if-count-eq0.false p e c.in_ok-count.ensures.found c.in_ok-first.ensures.found in
    let b = c.in_ok-base.ensures.finds (differences k.head k.tail) k.size (differences_fit k.head k.tail) k.block-is in
    let base = to_z w64 (of_z w64 c.in_ok-base.base) in
    let first = to_z w64 (of_z w64 c.unzigzag-first.result) in
    let base-is : base ≡ c.in_ok-base.base = to_z-of_z w64 c.in_ok-base.base c.in_ok-base.ensures.fits in
    let first-is : first ≡ k.head = to_z-of_z w64 c.unzigzag-first.result (search rules) ∙ c.unzigzag-first.ensures ∙ k.head-is in
    let f = c.restore.ensures.finds k.tail (passed c.in_ok-base.base k.head base first c.in_ok-base.above.items c.deref.result.now k.tail base-is first-is c.deref.ensures.value
    (list_continues k.head k.tail c.in_ok-base.base c.in_ok-base.above.items k.fits b)) in
    subst (λ (t : List ℤ). Finds (λ found. found.items) c.restore.result t) (ap (λ (t : ℤ). t ∷ k.tail) first-is ∙ k.whole) f

pub returns-clause-found : goal.returns-clause-found
returns-clause-found c =
    let base = to_z w64 (of_z w64 c.in_ok-base.base) in
    let first = to_z w64 (of_z w64 c.unzigzag-first.result) in
    let base-is : base ≡ c.in_ok-base.base = to_z-of_z w64 c.in_ok-base.base c.in_ok-base.ensures.fits in
    let first-is : first ≡ unzigzag c.in_ok-first.first = to_z-of_z w64 c.unzigzag-first.result (search rules) ∙ c.unzigzag-first.ensures in
    let above-is : c.deref.result.now ≡ c.in_ok-base.above.items = c.deref.ensures.value in
    let few : c.in_ok-count.count ≤ 1000 = c.in_ok-count.ensures.few in
    let number : length c.deref.result.now + 1 ≡ c.in_ok-count.count = omega (arith, ap length above-is, c.in_ok-base.ensures.size, c.if-count-eq0.false) in
    IfOk-weaker c.restore.result (λ values. (last : ℤ) × Restores base first last c.deref.result.now values.items) (λ values. IsSpelling spelling (FitsSigned w64) c.args.bytes.now values.items)
    (λ values is.
    let size = length-restored base first is.0 c.deref.result.now values.items is.1 ∙ number in
    record {
      list = record { few = omega (arith, size, few); typed = is.1.fits };
      bytes_are = spells c.args.bytes.now c.in_ok-count.rest.now c.in_ok-first.rest.now c.in_ok-count.count c.in_ok-first.first base first is.0 c.deref.result.now values.items
          c.in_ok-count.ensures.found c.in_ok-first.ensures.found first-is
          (c.in_ok-base.ensures.found ∙ ap (λ (t : ℤ). block (offsets_above t c.in_ok-base.above.items)) (sym base-is) ∙ ap (λ (t : List ℕ). block (offsets_above base t)) (sym above-is)) is.1 size;
    })
    c.restore.ensures.found
