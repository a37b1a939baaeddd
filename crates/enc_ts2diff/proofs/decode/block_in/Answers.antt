use Rattle.std.proofs.Common.{◌≡◌, ℕ, ◌<◌, ◌≤◌, ◌^◌, ◌-◌, List, [], ◌∷◌, ◌++◌, length, get_or, take, drop, to_z, of_z, ℤ, ◌-ℤ◌, All, FitsSigned, Err, true, rules, arith, ap, sym, subst, ◌∙◌, refl}
use Rattle.std.specs.Int.{w64}
use Rattle.std.specs.Int.RustNames.{unsigned_abs}
use Rattle.std.proofs.lemmas.Int.{to_z-of_z}
use Rattle.std.proofs.lemmas.List.{length-map, nil_from_length, take_rest, drop_more}
use Rattle.std.proofs.lemmas.Result.{err_from_is_err_and}
use Rattle.tsdb_base.specs.Plain.{BeginsWithNone}
use Rattle.tsdb_bits.specs.Leb.{leb}
use Rattle.tsdb_bits.specs.Zigzag.{zigzag, unzigzag}
use Rattle.tsdb_bits.specs.Faults.{IsPacking}
use Rattle.tsdb_bits.proofs.ZigzagLaws.{unzigzag-zigzag}
use Rattle.tsdb_base.specs.declared.fault.DecodeFault.{DecodeFault}
use Rattle.tsdb_base.specs.declared.fault.DecodeFault.TheVariants as fault
use Rattle.enc_ts2diff.specs.Spelling.{least, offsets, offset_width, at_width, block}
use Rattle.enc_ts2diff.specs.Steps.{IsBlockOf, FindsBlock, AreOffsets}
use Rattle.enc_ts2diff.proofs.Numbers.{zigzag-lt, least_of_fits}
use Rattle.enc_ts2diff.proofs.Canonical.{are_offsets, block_back}
use Rattle.enc_ts2diff.proofs.Parts.{block_parts, numbers_packed, digits_within_64, same_packing}
use Rattle.enc_ts2diff.proofs.decode.block_in.Goals as goal

-- no block begins with no number
no_number : (steps : List ℤ) (bytes : List ℕ) → (length steps ≡ 0 → ⊥) → All (FitsSigned w64) steps → block steps ≡ bytes
    → BeginsWithNone leb (λ value. value < 2 ^ 64) bytes → ⊥
unfolding block
no_number [] bytes some h e none = some refl
no_number (d ∷ ds) bytes some h e none =
    none (zigzag (least d ds)) (at_width (offsets (least d ds) (d ∷ ds))) (zigzag-lt (least d ds) (least_of_fits d ds h)) (sym e)

-- behind the least difference stands the width
record Behind (steps : List ℤ) (base count : ℕ) (digits : ℕ) (pack_bytes : List ℕ) : Type 0 where
  within : digits ≤ 64
  numbers : List ℕ
  packing : IsPacking digits count pack_bytes numbers
  block : IsBlockOf (unzigzag base) numbers steps
  offsets : AreOffsets numbers digits

behind : (steps : List ℤ) (bytes : List ℕ) (base count digits : ℕ) (pack_bytes : List ℕ) → (count ≡ 0 → ⊥) → length steps ≡ count → All (FitsSigned w64) steps → block steps ≡ bytes
    → bytes ≡ leb base ++ digits ∷ pack_bytes → Behind steps base count digits pack_bytes
behind [] bytes base count digits pack_bytes some l h e f = absurd (some (sym l))
behind (d ∷ ds) bytes base count digits pack_bytes some l h e f =
    let p = block_parts d ds bytes (digits ∷ pack_bytes) base e f in
    let m = least d ds in
    let os = offsets m (d ∷ ds) in
    let n : length os ≡ count = length-map (d ∷ ds) (λ t. unsigned_abs (t -ℤ m)) ∙ l in
    let b : unzigzag base ≡ m = ap unzigzag (sym p.0) ∙ unzigzag-zigzag m in
    record {
      within = digits_within_64 d ds digits pack_bytes h p.1;
      numbers = os;
      packing = subst (λ (t : ℕ). IsPacking digits t pack_bytes os) n (numbers_packed os digits pack_bytes p.1);
      block = (b, ap (λ (t : ℤ). offsets t (d ∷ ds)) (sym b));
      offsets = let w : offset_width os ≡ digits = let q = p.1 in cc in are_offsets d ds digits w;
    }

-- nothing stands behind it
no_width : (steps : List ℤ) (bytes rest : List ℕ) (base count : ℕ) → (count ≡ 0 → ⊥) → length steps ≡ count → block steps ≡ bytes → bytes ≡ leb base ++ rest → rest ≡ [] → ⊥
no_width [] bytes rest base count some l e f z = some (sym l)
no_width (d ∷ ds) bytes rest base count some l e f z = let p = block_parts d ds bytes rest base e f in let q = p.1 in cc

pub returns-in_err-base-clause-finds : goal.returns-in_err-base-clause-finds
returns-in_err-base-clause-finds c = λ steps l h e. absurd (no_number steps c.args.bytes.now (λ z. c.if-count-eq0.false (sym l ∙ z)) h e c.in_err-base.ensures.none)

pub returns-in_default-clause-finds : goal.returns-in_default-clause-finds
returns-in_default-clause-finds c = λ steps l h e.
    no_width steps c.args.bytes.now c.in_ok-base.rest.now c.in_ok-base.base c.args.count c.if-count-eq0.false l e c.in_ok-base.ensures.found (nil_from_length c.in_ok-base.rest.now (omega arith))

-- a width and what stands behind it
parted : (bytes rest : List ℕ) (base : ℕ) → bytes ≡ leb base ++ rest → 1 ≤ length rest → bytes ≡ leb base ++ get_or rest 0 0 ∷ take (length rest - 1) (drop 1 rest)
parted bytes rest base e some =
    let more : take (length rest - 1) (drop 1 rest) ≡ drop 1 rest = take_rest rest 1 in
    let here : rest ≡ get_or rest 0 0 ∷ drop 1 rest = drop_more rest 0 0 some in
    e ∙ ap (λ (t : List ℕ). leb base ++ t) (here ∙ ap (λ (t : List ℕ). get_or rest 0 0 ∷ t) (sym more))

pub returns-then-digits-gt64-clause-finds : goal.returns-then-digits-gt64-clause-finds
returns-then-digits-gt64-clause-finds c = λ steps l h e.
    let rest = c.in_ok-base.rest.now in
    let b = behind steps c.args.bytes.now c.in_ok-base.base c.args.count (get_or rest 0 0) (take (length rest - 1) (drop 1 rest)) c.if-count-eq0.false l h e (parted c.args.bytes.now rest c.in_ok-base.base c.in_ok-base.ensures.found c.in-len1-up.len_at_least) in
    absurd (omega (arith, b.within))

-- nothing stands where no difference is
no_differences : (steps : List ℤ) (bytes : List ℕ) → length steps ≡ 0 → block steps ≡ bytes → [] ≡ bytes
unfolding block
no_differences [] bytes l e = e
no_differences (d ∷ ds) bytes l e = absurd (omega arith)

pub returns-then-not-is_empty-clause-finds : goal.returns-then-not-is_empty-clause-finds
returns-then-not-is_empty-clause-finds c = λ steps l h e.
    let none = ap length (no_differences steps c.args.bytes.now (l ∙ c.if-count-eq0.true) e) in
    absurd (search rules)

pub returns-then-count-eq0-clause-found : goal.returns-then-count-eq0-clause-found
unfolding block
returns-then-count-eq0-clause-found c =
    let none : length c.args.bytes.now ≡ 0 = search rules in
    rw c.new.ensures.items (nil_from_length c.args.bytes.now none)

finds_unless : (r : DecodeFault) (steps : List ℤ) → (r ≡ fault.Bad → ⊥) → FindsBlock (Err r) steps
finds_unless fault.Bad steps h = h refl
finds_unless fault.Memory steps h = tt

pub returns-in_err-above-clause-finds : goal.returns-in_err-above-clause-finds
returns-in_err-above-clause-finds c = λ steps l h e.
    let rest = c.in_ok-base.rest.now in
    let b = behind steps c.args.bytes.now c.in_ok-base.base c.args.count (get_or rest 0 0) (take (length rest - 1) (drop 1 rest)) c.if-count-eq0.false l h e (parted c.args.bytes.now rest c.in_ok-base.base c.in_ok-base.ensures.found c.in-len1-up.len_at_least) in
    let q = err_from_is_err_and c.from_residual-in_err-above.result c.from_residual-in_err-above.ensures.1 in
    rw (q.1, q.2) (finds_unless c.in_err-above.field-0.0 steps (λ bad. c.in_err-above.ensures.bad (ap (λ x. Err x) bad) b.numbers b.packing))

pub returns-then-not-are_offsets-clause-finds : goal.returns-then-not-are_offsets-clause-finds
returns-then-not-are_offsets-clause-finds c = λ steps l h e.
    let rest = c.in_ok-base.rest.now in
    let b = behind steps c.args.bytes.now c.in_ok-base.base c.args.count (get_or rest 0 0) (take (length rest - 1) (drop 1 rest)) c.if-count-eq0.false l h e (parted c.args.bytes.now rest c.in_ok-base.base c.in_ok-base.ensures.found c.in-len1-up.len_at_least) in
    let same : b.numbers ≡ c.in_ok-above.above.items = same_packing (get_or rest 0 0) c.args.count (take (length rest - 1) (drop 1 rest)) b.numbers c.in_ok-above.above.items b.packing c.in_ok-above.ensures.found in
    let are : AreOffsets c.deref.result.now (get_or rest 0 0) = subst (λ (t : List ℕ). AreOffsets t (get_or rest 0 0)) (same ∙ sym c.deref.ensures.value) b.offsets in
    let yes = c.are_offsets.ensures.1 are in
    absurd (search rules)

pub returns-clause-finds : goal.returns-clause-finds
returns-clause-finds c = λ steps l h e.
    let rest = c.in_ok-base.rest.now in
    let b = behind steps c.args.bytes.now c.in_ok-base.base c.args.count (get_or rest 0 0) (take (length rest - 1) (drop 1 rest)) c.if-count-eq0.false l h e (parted c.args.bytes.now rest c.in_ok-base.base c.in_ok-base.ensures.found c.in-len1-up.len_at_least) in
    let same : b.numbers ≡ c.in_ok-above.above.items = same_packing (get_or rest 0 0) c.args.count (take (length rest - 1) (drop 1 rest)) b.numbers c.in_ok-above.above.items b.packing c.in_ok-above.ensures.found in
    let base : to_z w64 (of_z w64 c.unzigzag.result) ≡ unzigzag c.in_ok-base.base = to_z-of_z w64 c.unzigzag.result (search rules) ∙ c.unzigzag.ensures in
    rw base (subst (λ (t : List ℕ). IsBlockOf (unzigzag c.in_ok-base.base) t steps) same b.block)

pub returns-clause-found : goal.returns-clause-found
returns-clause-found c =
    let rest = c.in_ok-base.rest.now in
    let digits = get_or rest 0 0 in
    let pack_bytes = take (length rest - 1) (drop 1 rest) in
    let yes : c.are_offsets.result ≡ true = search rules in
    let are : AreOffsets c.in_ok-above.above.items digits = subst (λ (t : List ℕ). AreOffsets t digits) c.deref.ensures.value (c.are_offsets.ensures.0 yes) in
    let base : to_z w64 (of_z w64 c.unzigzag.result) ≡ unzigzag c.in_ok-base.base = to_z-of_z w64 c.unzigzag.result (search rules) ∙ c.unzigzag.ensures in
    rw base (parted c.args.bytes.now rest c.in_ok-base.base c.in_ok-base.ensures.found c.in-len1-up.len_at_least ∙ block_back c.in_ok-base.base c.in_ok-above.above.items digits c.args.count pack_bytes are c.in_ok-above.ensures.found)
