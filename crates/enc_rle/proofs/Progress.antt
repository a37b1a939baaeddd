-- Reading runs one after the other.
use Rattle.std.proofs.Common.{◌≡◌, ℕ, zero, suc, ◌+◌, ◌-◌, ◌^◌, ◌<◌, ◌≤◌, Bool, true, false, ◌==◌, inl, inr, List, [], ◌∷◌, ◌++◌, length, get_or, replicate, refl, sym, ap, subst, ◌∙◌, arith, append_assoc, All}
use Rattle.std.specs.Prelude.{map}
use Rattle.std.proofs.lemmas.Bool.{cases_eq, eq-eqb, ne_eqb}
use Rattle.tsdb_base.specs.Limits.{max_values}
use Rattle.tsdb_base.specs.Plain.{BeginsWithNone}
use Rattle.std.specs.List.{flat_map}
use Rattle.std.proofs.lemmas.List.{append-nil, length-append, length-map, length-replicate, map-append, get_or-append-add, get_or-replicate, get_or_append_left}
use Rattle.std.proofs.lemmas.List.Concat.{flat_map-append}
use Rattle.std.proofs.lemmas.List.Elements.{All-nil, All-cons, All-head, All-tail, All-append}
use Rattle.tsdb_bits.specs.Leb.{leb}
use Rattle.tsdb_bits.specs.Lists.{IsListOf, IsSpelling}
use Rattle.enc_rle.specs.Spelling.{ValueRun, maximal_runs, expand_runs, run_bytes, codes_spelling, spelling, AreMaximalRuns}
use Rattle.enc_rle.specs.Steps.{MayFollowRun}
use Rattle.enc_rle.proofs.Runs.{expand_runs-runs_of, joined-runs_of, runs_of-expand_runs, joined_count, run_bytes-some, first_run, spelling_parts}

-- the last of the runs, where there is one, has this code
abbrev pub EndsIn : ℕ → List ValueRun → Type 0
EndsIn last [] = Unit {0}
EndsIn last (run ∷ []) = run.code ≡ last
EndsIn last (run ∷ next ∷ runs) = EndsIn last (next ∷ runs)

abbrev NotEmpty : List ValueRun → Type 0
NotEmpty [] = ⊥
NotEmpty (run ∷ runs) = Unit {0}

joined_more : (runs : List ValueRun) (run : ValueRun) (last : ℕ) → AreMaximalRuns runs → EndsIn last runs → 1 ≤ run.count → (NotEmpty runs → run.code ≡ last → ⊥) → AreMaximalRuns (runs ++ run ∷ [])
joined_more [] run last j e some differs = some
joined_more (r ∷ []) run last j e some differs = (j, (λ same. differs tt (sym same ∙ e)), some)
joined_more (r ∷ next ∷ runs) run last j e some differs = (j.0, j.1, joined_more (next ∷ runs) run last j.2 e some (λ _. differs tt))

ends_more : (runs : List ValueRun) (run : ValueRun) → EndsIn run.code (runs ++ run ∷ [])
ends_more [] run = refl
ends_more (r ∷ []) run = refl
ends_more (r ∷ next ∷ runs) run = ends_more (next ∷ runs) run

-- the run that follows others has a value, and not their last one
follows : (runs more : List ValueRun) (run : ValueRun) (last : ℕ) → AreMaximalRuns (runs ++ run ∷ more) → EndsIn last runs → (1 ≤ run.count) × (NotEmpty runs → run.code ≡ last → ⊥)
follows [] more run last j e = (joined_count run more j, λ none. absurd none)
follows (r ∷ []) more run last j e = (joined_count run more j.2, λ _ same. j.1 (e ∙ sym same))
follows (r ∷ next ∷ runs) more run last j e =
    let k = follows (next ∷ runs) more run last j.2 e in
    (k.0, λ _. k.1 tt)

expand_runs-append : (runs more : List ValueRun) → expand_runs (runs ++ more) ≡ expand_runs runs ++ expand_runs more
unfolding expand_runs
expand_runs-append [] more = refl
expand_runs-append (run ∷ runs) more = ap (λ (t : List ℕ). replicate run.count run.code ++ t) (expand_runs-append runs more) ∙ sym (append_assoc (replicate run.count run.code) (expand_runs runs) (expand_runs more))

expand_runs-one : (run : ValueRun) (more : List ValueRun) → expand_runs (run ∷ more) ≡ replicate run.count run.code ++ expand_runs more
unfolding expand_runs
expand_runs-one run more = refl

expand_runs-none : expand_runs [] ≡ []
unfolding expand_runs
expand_runs-none = refl

some_values : (runs : List ValueRun) → AreMaximalRuns runs → NotEmpty runs → 0 < length (expand_runs runs)
unfolding expand_runs
some_values [] j h = absurd h
some_values (run ∷ runs) j h = omega (arith, joined_count run runs j, length-append (replicate run.count run.code) (expand_runs runs), length-replicate run.count run.code)

map-replicate : {A : Type 0} (code : A → ℕ) (n : ℕ) (value : A) → map code (replicate n value) ≡ replicate n (code value)
map-replicate code zero value = refl
map-replicate code (suc n) value = ap (λ (t : List ℕ). code value ∷ t) (map-replicate code n value)

all_equal : {A : Type 0} (IsValue : A → Type 0) (n : ℕ) (value : A) → IsValue value → All IsValue (replicate n value)
all_equal IsValue zero value is = All-nil IsValue
all_equal IsValue (suc n) value is = All-cons IsValue value (replicate n value) is (all_equal IsValue n value is)

-- what was read: the values are those of some runs, whose bytes stand in front of the rest
pub record Progress {A : Type 0} (code : A → ℕ) (IsValue : A → Type 0) (start rest : List ℕ) (count last : ℕ) (values : List A) : Type 0 where
  pub runs : List ValueRun
  pub neighbours : AreMaximalRuns runs
  pub ends : EndsIn last runs
  pub whole : map code values ≡ expand_runs runs
  pub read : start ≡ flat_map run_bytes runs ++ rest
  pub few : length values ≤ count
  pub typed : All IsValue values

pub no_progress : {A : Type 0} (code : A → ℕ) (IsValue : A → Type 0) (start : List ℕ) (count : ℕ) (values : List A) → values ≡ [] → Progress code IsValue start start count 0 values
no_progress code IsValue start count values none = record {
  runs = [];
  neighbours = tt;
  ends = tt;
  whole = ap (map code) none ∙ sym expand_runs-none;
  read = refl;
  few = rw none (omega arith);
  typed = rw none (All-nil IsValue);
}

pub one_run_more : {A : Type 0} (code : A → ℕ) (IsValue : A → Type 0) (start rest behind : List ℕ) (count last room : ℕ) (is_first : Bool) (run : ValueRun) (values now : List A) (value : A) → Progress code IsValue start rest count last values
    → (0 < length values → is_first ≡ false) → room ≡ count - length values → rest ≡ run_bytes run ++ behind → MayFollowRun room is_first last run
    → run.code ≡ code value → IsValue value → now ≡ values ++ replicate run.count value → Progress code IsValue start behind count run.code now
one_run_more code IsValue start rest behind count last room is_first run values now value p first r e may c is n =
    let number : length values ≡ length (expand_runs p.runs) = sym (length-map values code) ∙ ap length p.whole in
    let differs : NotEmpty p.runs → run.code ≡ last → ⊥ = λ some. may.differs (first (omega (arith, some_values p.runs p.neighbours some))) in
    record {
      runs = p.runs ++ run ∷ [];
      neighbours = joined_more p.runs run last p.neighbours p.ends may.some differs;
      ends = ends_more p.runs run;
      whole = ap (map code) n ∙ map-append code values (replicate run.count value)
          ∙ ap (λ (t : List ℕ). t ++ map code (replicate run.count value)) p.whole
          ∙ ap (λ (t : List ℕ). expand_runs p.runs ++ t) (map-replicate code run.count value ∙ ap (replicate run.count) (sym c))
          ∙ ap (λ (t : List ℕ). expand_runs p.runs ++ t) (sym (expand_runs-one run [] ∙ ap (λ (t : List ℕ). replicate run.count run.code ++ t) expand_runs-none ∙ append-nil (replicate run.count run.code)))
          ∙ sym (expand_runs-append p.runs (run ∷ []));
      read = p.read ∙ ap (λ (t : List ℕ). flat_map run_bytes p.runs ++ t) e ∙ sym (append_assoc (flat_map run_bytes p.runs) (run_bytes run) behind)
          ∙ ap (λ (t : List ℕ). (flat_map run_bytes p.runs ++ t) ++ behind) (sym (append-nil (run_bytes run)))
          ∙ ap (λ (t : List ℕ). t ++ behind) (sym (flat_map-append run_bytes p.runs (run ∷ [])));
      few = omega (arith, ap length n, length-append values (replicate run.count value), length-replicate run.count value, may.fits, p.few);
      typed = rw n (All-append IsValue values (replicate run.count value) p.typed (all_equal IsValue run.count value is));
    }

-- the list that was read has the bytes
pub all_read : {A : Type 0} (code : A → ℕ) (IsValue : A → Type 0) (bytes start rest : List ℕ) (count last : ℕ) (values : List A) → Progress code IsValue start rest count last values
    → bytes ≡ leb count ++ start → rest ≡ [] → count ≤ length values → count ≤ 1000 → IsSpelling (spelling code) IsValue bytes values
unfolding codes_spelling
all_read code IsValue bytes start rest count last values p e z done few =
    let number : count ≡ length (map code values) = omega (arith, p.few, length-map values code) in
    let runs : maximal_runs (map code values) ≡ p.runs = ap maximal_runs p.whole ∙ runs_of-expand_runs p.runs p.neighbours in
    record {
      list = record { few = omega (arith, p.few); typed = p.typed };
      bytes_are = e ∙ ap (λ (n : ℕ). leb n ++ start) number
          ∙ ap (λ (t : List ℕ). leb (length (map code values)) ++ t) (p.read ∙ ap (λ (t : List ℕ). flat_map run_bytes p.runs ++ t) z ∙ append-nil (flat_map run_bytes p.runs) ∙ ap (flat_map run_bytes) (sym runs));
    }

-- ---- a list that has the bytes

-- the bytes of runs that begin with those of other runs are of these and of more
behind_runs : (runs all : List ValueRun) (rest : List ℕ) → flat_map run_bytes all ≡ flat_map run_bytes runs ++ rest → (more : List ValueRun) × (all ≡ runs ++ more) × (rest ≡ flat_map run_bytes more)
behind_runs [] all rest e = (all, refl, sym e)
behind_runs (run ∷ runs) [] rest e = absurd (run_bytes-some run (flat_map run_bytes runs ++ rest) (e ∙ append_assoc (run_bytes run) (flat_map run_bytes runs) rest))
behind_runs (run ∷ runs) (next ∷ all) rest e =
    let whole = e ∙ append_assoc (run_bytes run) (flat_map run_bytes runs) rest ∙ append_assoc (leb run.count) (leb run.code) (flat_map run_bytes runs ++ rest) in
    let k = first_run next (flat_map run_bytes all) (run_bytes next ++ flat_map run_bytes all) (flat_map run_bytes runs ++ rest) run.count run.code refl whole in
    let b = behind_runs runs all rest k.2 in
    let same : next ≡ run = ap (λ (n : ℕ). record { count = n; code = next.code }) k.0 ∙ ap (λ (n : ℕ). record { count = run.count; code = n }) k.1 in
    (b.0, ap (λ (t : List ValueRun). next ∷ t) b.1 ∙ ap (λ (r : ValueRun). r ∷ runs ++ b.0) same, b.2)

-- some value of the type has the code
abbrev pub HasValue : {A : Type 0} → (A → ℕ) → (A → Type 0) → ℕ → Type 0
HasValue {A} code IsValue number = (value : A) × IsValue value × (number ≡ code value)

have_values : {A : Type 0} (code : A → ℕ) (IsValue : A → Type 0) (xs : List A) → All IsValue xs → All (HasValue code IsValue) (map code xs)
have_values code IsValue [] h = All-nil (HasValue code IsValue)
have_values code IsValue (x ∷ xs) h =
    All-cons (HasValue code IsValue) (code x) (map code xs) (x, All-head IsValue x xs h, refl) (have_values code IsValue xs (All-tail IsValue x xs h))

-- where values are still to come, a run follows
pub record Next {A : Type 0} (code : A → ℕ) (IsValue : A → Type 0) (room last : ℕ) (is_first : Bool) (rest : List ℕ) : Type 0 where
  pub run : ValueRun
  pub behind : List ℕ
  pub rest-is : rest ≡ run_bytes run ++ behind
  pub may : MayFollowRun room is_first last run
  pub value : HasValue code IsValue run.code

-- of a list that has the bytes: its runs are those that were read, and more
record Whole {A : Type 0} (code : A → ℕ) (runs : List ValueRun) (rest : List ℕ) (count : ℕ) (values : List A) : Type 0 where
  more : List ValueRun
  neighbours : AreMaximalRuns (runs ++ more)
  codes-are : map code values ≡ expand_runs runs ++ expand_runs more
  rest-is : rest ≡ flat_map run_bytes more
  number : length (map code values) ≡ count

whole : {A : Type 0} (code : A → ℕ) (IsValue : A → Type 0) (bytes start rest : List ℕ) (count last : ℕ) (values found : List A) (p : Progress code IsValue start rest count last values)
    → bytes ≡ leb count ++ start → IsSpelling (spelling code) IsValue bytes found → Whole code p.runs rest count found
whole code IsValue bytes start rest count last values found p e is =
    let codes = map code found in
    let parts = spelling_parts codes bytes start count (sym is.bytes_are) e in
    let b = behind_runs p.runs (maximal_runs codes) rest (sym parts.1 ∙ p.read) in
    record {
      more = b.0;
      neighbours = subst AreMaximalRuns b.1 (joined-runs_of codes);
      codes-are = sym (expand_runs-runs_of codes) ∙ ap expand_runs b.1 ∙ expand_runs-append p.runs b.0;
      rest-is = b.2;
      number = parts.0;
    }

pub next_run_of : {A : Type 0} (code : A → ℕ) (IsValue : A → Type 0) (small : (a : A) → IsValue a → code a < 2 ^ 64) (bytes start rest : List ℕ) (count last room : ℕ) (is_first : Bool) (values found : List A)
    → Progress code IsValue start rest count last values → bytes ≡ leb count ++ start → IsSpelling (spelling code) IsValue bytes found → length values < count
    → (is_first ≡ false → 0 < length values) → room ≡ count - length values → Next code IsValue room last is_first rest
next_run_of code IsValue small bytes start rest count last room is_first values found p e is less first r =
    let w = whole code IsValue bytes start rest count last values found p e is in
    let number : length values ≡ length (expand_runs p.runs) = sym (length-map values code) ∙ ap length p.whole in
    go w.more w.neighbours w.codes-are w.rest-is w.number number
  where
    not_empty : (runs : List ValueRun) → 0 < length (expand_runs runs) → NotEmpty runs
    not_empty [] lt = absurd (omega (arith, ap length expand_runs-none))
    not_empty (r ∷ rs) lt = tt

    go : (more : List ValueRun) → AreMaximalRuns (p.runs ++ more) → map code found ≡ expand_runs p.runs ++ expand_runs more → rest ≡ flat_map run_bytes more → length (map code found) ≡ count → length values ≡ length (expand_runs p.runs) → Next code IsValue room last is_first rest
    go [] j c b n number = absurd (omega (arith, ap length c, length-append (expand_runs p.runs) (expand_runs []), ap length expand_runs-none))
    go (run ∷ more) j c b n number =
        let k = follows p.runs more run last j p.ends in
        let codes = map code found in
        let sizes : length codes ≡ length (expand_runs p.runs) + (run.count + length (expand_runs more)) =
        ap length c ∙ length-append (expand_runs p.runs) (expand_runs (run ∷ more)) ∙ ap (λ (t : List ℕ). length (expand_runs p.runs) + length t) (expand_runs-one run more)
        ∙ ap (λ (t : ℕ). length (expand_runs p.runs) + t) (length-append (replicate run.count run.code) (expand_runs more) ∙ ap (λ (t : ℕ). t + length (expand_runs more)) (length-replicate run.count run.code)) in
        let within : length (expand_runs p.runs) + 0 < length codes = omega (arith, k.0) in
        let at : get_or codes (length (expand_runs p.runs) + 0) 0 ≡ run.code =
        ap (λ (t : List ℕ). get_or t (length (expand_runs p.runs) + 0) 0) (c ∙ ap (λ (t : List ℕ). expand_runs p.runs ++ t) (expand_runs-one run more))
        ∙ get_or-append-add (expand_runs p.runs) (replicate run.count run.code ++ expand_runs more) 0 0
        ∙ get_or_append_left (replicate run.count run.code) (expand_runs more) 0 0 (omega (arith, length-replicate run.count run.code, k.0))
        ∙ get_or-replicate run.count 0 run.code 0 (omega (arith, k.0)) in
        let has : HasValue code IsValue run.code = subst (HasValue code IsValue) at (have_values code IsValue found is.list.typed (length (expand_runs p.runs) + 0) 0 within) in
        record {
          run = run;
          behind = flat_map run_bytes more;
          rest-is = b;
          may = record {
            some = k.0;
            fits = omega (arith, sizes);
            small = rw has.2 (small has.0 has.1);
            differs = λ not_first. k.1 (not_empty p.runs (omega (arith, first not_first)));
          };
          value = has;
        }

-- and where none is, nothing follows
pub nothing_left : {A : Type 0} (code : A → ℕ) (IsValue : A → Type 0) (bytes start rest : List ℕ) (count last : ℕ) (values found : List A) → Progress code IsValue start rest count last values
    → bytes ≡ leb count ++ start → IsSpelling (spelling code) IsValue bytes found → count ≤ length values → rest ≡ []
nothing_left code IsValue bytes start rest count last values found p e is done =
    let w = whole code IsValue bytes start rest count last values found p e is in
    let number : length values ≡ length (expand_runs p.runs) = sym (length-map values code) ∙ ap length p.whole in
    go w.more w.neighbours w.codes-are w.rest-is w.number number
  where
    go : (more : List ValueRun) → AreMaximalRuns (p.runs ++ more) → map code found ≡ expand_runs p.runs ++ expand_runs more → rest ≡ flat_map run_bytes more → length (map code found) ≡ count → length values ≡ length (expand_runs p.runs) → rest ≡ []
    go [] j c b n number = b
    go (run ∷ more) j c b n number =
        let k = follows p.runs more run last j p.ends in
        absurd (omega (arith, k.0, ap length c, length-append (expand_runs p.runs) (expand_runs (run ∷ more)), ap length (expand_runs-one run more), length-append (replicate run.count run.code) (expand_runs more), length-replicate run.count run.code))

-- a list that has the bytes has a count
pub no_count : {A : Type 0} (code : A → ℕ) (IsValue : A → Type 0) (bytes : List ℕ) (found : List A) → IsSpelling (spelling code) IsValue bytes found → BeginsWithNone leb (λ count. count ≤ max_values) bytes → ⊥
unfolding codes_spelling
no_count code IsValue bytes found is none =
    none (length (map code found)) (flat_map run_bytes (maximal_runs (map code found))) (omega (arith, length-map found code, is.list.few)) is.bytes_are

-- the flag for the first run
pub first_or_not : (is_first : Bool) (len number : ℕ) → is_first ≡ (len == 0) → number ≡ len → (0 < number → is_first ≡ false) × (is_first ≡ false → 0 < number)
first_or_not is_first len number e same = (
  (λ some. e ∙ ne_eqb len 0 (λ z. omega arith)),
  (λ no. elim (cases_eq len 0) [
    | inl z ↦ absurd (let yes : (len == 0) ≡ true = eq-eqb len 0 z in cc)
    | inr ne ↦ omega arith
  ]),
)
