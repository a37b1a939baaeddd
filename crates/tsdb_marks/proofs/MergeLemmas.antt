-- Each step of a merge keeps what holds of it.
use Rattle.std.proofs.Common.{◌≡◌, ℕ, suc, ◌+◌, ◌-◌, ◌<◌, ◌≤◌, ◌⊎◌, inl, inr, ⊎_elim, max, min, cond, List, [], ◌∷◌, ◌++◌, length, take, get_or, Option, None, Some, refl, sym, ap, ◌∙◌, subst, arith, take-suc}
use Rattle.std.specs.Prelude.{nat_le, slice_get}
use Rattle.std.specs.Option.{option_map}
use Rattle.std.proofs.lemmas.Bool.{cases_lt, le-leb, lt-leb}
use Rattle.std.proofs.lemmas.Option.{slice_get_within, get_or_from_slice_get, slice_get_cases}
use Rattle.std.proofs.lemmas.List.{take_all}
use Rattle.std.proofs.lemmas.List.Elements.{All-push, All-weaker, All-get_or}
use Rattle.std.proofs.lemmas.List.Quantifiers.{all_pairs_push}
use Rattle.tsdb_marks.specs.declared.run.Cursor.{Cursor}
use Rattle.tsdb_marks.specs.declared.run.Step.{Step}
use Rattle.tsdb_marks.specs.Cursors.{next_start, IsFrom, IsCursorRead, GoesTo, read_at}
use Rattle.tsdb_marks.specs.Merging.{lesser_moment, IsMerged}
use Rattle.tsdb_marks.specs.Steps.{version_at, AreStepsRising, newest_of}
use Rattle.tsdb_marks.proofs.StepLemmas.{at_snoc}

-- no step begins until the moment
pub goes_nowhere : (c : Cursor) (bound moment : ℕ) → IsCursorRead c bound → bound ≤ moment → IsFrom (moment + 1) (next_start c) → GoesTo c c moment
goes_nowhere c bound moment read le next = record {
  steps = refl;
  read = record { rising = read.rising; read = read.read; ahead = next; version = λ m h. read.version m (omega arith) };
  at = λ m. ⊎_elim (λ (lt : m < moment). rw (lt-leb moment m lt) refl) (λ (ge : moment ≤ m). rw (le-leb moment m ge) (read.version m (omega arith))) (cases_lt m moment);
  further = omega arith;
  reaches = λ (is : next_start c ≡ Some moment). absurd (let P : Option ℕ → Type 0 = λ o. IsFrom (moment + 1) o in let no : moment + 1 ≤ moment = subst P is next in omega (arith, no));
}

-- the next step begins at it
pub goes_on : (c : Cursor) (s : Step) (bound moment : ℕ) → IsCursorRead c bound → bound ≤ moment → IsFrom moment (next_start c) → slice_get c.steps.now c.read ≡ Some s → s.start ≤ moment
    → GoesTo c (record { steps = c.steps; read = c.read + 1; version = s.version }) moment
goes_on c s bound moment read le next is begins =
    let steps = c.steps.now in
    let within : c.read < length steps = slice_get_within steps c.read s is in
    let same : get_or steps c.read s ≡ s = get_or_from_slice_get steps c.read s s is in
    let starts : s.start ≡ moment = let P : Option Step → Type 0 = λ o. IsFrom moment (option_map (λ (s : Step). s.start) o) in let low : moment ≤ s.start = subst P is next in omega (arith, low, begins) in
    let more : take (c.read + 1) steps ≡ take c.read steps ++ s ∷ [] = ap (λ n. take n steps) (let e : c.read + 1 ≡ suc c.read = omega arith in e) ∙ take-suc steps c.read s within ∙ ap (λ x. take c.read steps ++ x ∷ []) same in
    let at : (m : ℕ) → version_at (take (c.read + 1) steps) m ≡ cond (nat_le moment m) s.version (read_at c m) = λ m.
    ap (λ (xs : List Step). version_at xs m) more ∙ at_snoc (take c.read steps) s m ∙ ap (λ n. cond (nat_le n m) s.version (read_at c m)) starts
    in
    let behind : (o : Option Step) → slice_get steps (c.read + 1) ≡ o → IsFrom (moment + 1) (option_map (λ (s : Step). s.start) o) = λ o. elim o as (λ o. slice_get steps (c.read + 1) ≡ o → IsFrom (moment + 1) (option_map (λ (s : Step). s.start) o)) [
      | None ↦ λ e. tt
      | Some t ↦ λ e.
          let far : c.read + 1 < length steps = slice_get_within steps (c.read + 1) t e in
          let lt : (get_or steps c.read s).start < (get_or steps (c.read + 1) s).start = read.rising c.read (c.read + 1) s (omega arith) far in
          let here : (get_or steps c.read s).start ≡ moment = ap (λ (x : Step). x.start) same ∙ starts in
          let there : (get_or steps (c.read + 1) s).start ≡ t.start = ap (λ (x : Step). x.start) (get_or_from_slice_get steps (c.read + 1) t s e) in
          omega (arith, lt, here, there)
    ]
    in
    record {
      steps = refl;
      read = record {
        rising = read.rising;
        read = omega (arith, within);
        ahead = behind (slice_get steps (c.read + 1)) refl;
        version = λ m h. at m ∙ rw (le-leb moment m (omega (arith, h))) refl;
      };
      at = at;
      further = omega arith;
      reaches = λ is. omega arith;
    }

-- the start of a merge

pub nothing_read : (c : Cursor) → AreStepsRising c.steps.now → c.read ≡ 0 → c.version ≡ 0 → IsCursorRead c 0
nothing_read c rising none zero =
    let from_none : (o : Option ℕ) → IsFrom 0 o = λ o. elim o as (λ o. IsFrom 0 o) [ None ↦ tt | Some n ↦ omega arith ] in
    record {
      rising = rising;
      read = omega (arith, none);
      ahead = from_none (next_start c);
      version = λ m h. ap (λ n. version_at (take n c.steps.now) m) none ∙ sym zero;
    }

-- the least start

lesser-first : (a b : Option ℕ) (m : ℕ) → lesser_moment a b ≡ Some m → IsFrom m a × IsFrom m b
lesser-first None None m e = (tt, tt)
lesser-first None (Some y) m e = let same : y ≡ m = cc e in (tt, omega (arith, same))
lesser-first (Some x) None m e = let same : x ≡ m = cc e in (omega (arith, same), tt)
lesser-first (Some x) (Some y) m e = let same : min x y ≡ m = cc e in (omega (arith, same), omega (arith, same))

pub lesser-low : (a b : Option ℕ) (m : ℕ) → lesser_moment a b ≡ Some m → IsFrom m a
lesser-low a b m e = (lesser-first a b m e).0

pub lesser-high : (a b : Option ℕ) (m : ℕ) → lesser_moment a b ≡ Some m → IsFrom m b
lesser-high a b m e = (lesser-first a b m e).1

pub lesser-bound : (a b : Option ℕ) (m bound : ℕ) → lesser_moment a b ≡ Some m → IsFrom bound a → IsFrom bound b → bound ≤ m
lesser-bound None None m bound e f g = absurd (let no : None ≡ Some m = e in cc no)
lesser-bound None (Some y) m bound e f g = let same : y ≡ m = cc e in omega (arith, same, g)
lesser-bound (Some x) None m bound e f g = let same : x ≡ m = cc e in omega (arith, same, f)
lesser-bound (Some x) (Some y) m bound e f g = let same : min x y ≡ m = cc e in omega (arith, same, f, g)

pub lesser-one : (a b : Option ℕ) (m : ℕ) → lesser_moment a b ≡ Some m → (a ≡ Some m) ⊎ (b ≡ Some m)
lesser-one None b m e = inr e
lesser-one (Some x) None m e = inl e
lesser-one (Some x) (Some y) m e = let same : min x y ≡ m = cc e in
    ⊎_elim (λ (lt : x < y). inl (ap Some (let e : x ≡ m = omega (arith, same, lt) in e))) (λ (ge : y ≤ x). inr (ap Some (let e : y ≡ m = omega (arith, same, ge) in e))) (cases_lt x y)

pub lesser-none : (a b : Option ℕ) → lesser_moment a b ≡ None → (a ≡ None) × (b ≡ None)
lesser-none None b e = (refl, e)
lesser-none (Some x) None e = absurd (cc e)
lesser-none (Some x) (Some y) e = absurd (cc e)

-- a step of the merge

at_cond : (t m v old : ℕ) (P : ℕ → Type 0) → (t ≤ m → P v) → (m < t → P old) → P (cond (nat_le t m) v old)
at_cond t m v old P here before = ⊎_elim (λ (lt : m < t). rw (lt-leb t m lt) (before lt)) (λ (ge : t ≤ m). rw (le-leb t m ge) (here ge)) (cases_lt m t)

both_cond : (t m v a b old x y : ℕ) → v ≡ max a b → old ≡ max x y → cond (nat_le t m) v old ≡ max (cond (nat_le t m) a x) (cond (nat_le t m) b y)
both_cond t m v a b old x y e f = ⊎_elim (λ (lt : m < t). rw (lt-leb t m lt) f) (λ (ge : t ≤ m). rw (le-leb t m ge) e) (cases_lt m t)

newest-push : (xs : List Step) (s : Step) → newest_of (xs ++ s ∷ []) ≡ max (newest_of xs) s.version
newest-push [] s = omega arith
newest-push (x ∷ xs) s = let others = newest-push xs s in omega (arith, others)

module _ {a b : Cursor} {steps : List Step} {version newest moment : ℕ} where
  pub reached : (was : IsMerged a b steps version newest) → lesser_moment (next_start a) (next_start b) ≡ Some moment → was.bound ≤ moment
  reached was is = lesser-bound (next_start a) (next_start b) moment was.bound is was.first_read.ahead was.second_read.ahead

module _ {a b a1 b1 : Cursor} {steps : List Step} {version newest moment : ℕ} where
  -- where the greater version is the last one
  pub merged_same : IsMerged a b steps version newest → lesser_moment (next_start a) (next_start b) ≡ Some moment → GoesTo a a1 moment → GoesTo b b1 moment → max a1.version b1.version ≡ version
      → IsMerged a1 b1 steps version newest
  merged_same was is one two same = let le : was.bound ≤ moment = reached was is in record {
    bound = moment + 1;
    first_read = one.read;
    second_read = two.read;
    rising = was.rising;
    below = All-weaker (λ (s : Step). s.start < was.bound) (λ (s : Step). s.start < moment + 1) (λ s lt. omega (arith, lt, le)) steps was.below;
    newest_is = was.newest_is;
    last = sym same;
    both = λ m.
        let keeps : moment ≤ m → version_at steps m ≡ version = λ ge.
        was.both m ∙ rw (was.first_read.version m (omega (arith, le, ge)), was.second_read.version m (omega (arith, le, ge))) (sym was.last)
        in
        let shown : version_at steps m ≡ cond (nat_le moment m) version (version_at steps m) = at_cond moment m version (version_at steps m) (λ n. version_at steps m ≡ n) keeps (λ lt. refl) in
        shown ∙ both_cond moment m version a1.version b1.version (version_at steps m) (read_at a m) (read_at b m) (sym same) (was.both m) ∙ rw (one.at m, two.at m) refl;
  }

  -- where it is another, with one more step
  pub merged_more : IsMerged a b steps version newest → lesser_moment (next_start a) (next_start b) ≡ Some moment → GoesTo a a1 moment → GoesTo b b1 moment
      → (greater top : ℕ) → greater ≡ max a1.version b1.version → top ≡ max newest greater
      → IsMerged a1 b1 (steps ++ record { start = moment; version = greater } ∷ []) greater top
  merged_more was is one two greater top same high =
      let le : was.bound ≤ moment = reached was is in
      let step : Step = record { start = moment; version = greater } in
      record {
        bound = moment + 1;
        first_read = one.read;
        second_read = two.read;
        rising = all_pairs_push (λ (a b : Step). a.start < b.start) steps step was.rising (λ k d lt. let less = All-get_or (λ (s : Step). s.start < was.bound) steps k d lt was.below in omega (arith, less, le));
        below = All-push (λ s. s.start < moment + 1) steps step (All-weaker (λ (s : Step). s.start < was.bound) (λ (s : Step). s.start < moment + 1) (λ s lt. omega (arith, lt, le)) steps was.below) (omega arith);
        newest_is = let more = newest-push steps step in omega (arith, high, was.newest_is, more);
        last = same;
        both = λ m. at_snoc steps step m ∙ both_cond moment m greater a1.version b1.version (version_at steps m) (read_at a m) (read_at b m) same (was.both m) ∙ rw (one.at m, two.at m) refl;
      }

  -- one of the two went on
  pub merge_falls : IsMerged a b steps version newest → lesser_moment (next_start a) (next_start b) ≡ Some moment → GoesTo a a1 moment → GoesTo b b1 moment
      → length a1.steps.now - a1.read + (length b1.steps.now - b1.read) < length a.steps.now - a.read + (length b.steps.now - b.read)
  merge_falls was is one two =
      let e = ap (λ (xs : List Step). length xs) one.steps in
      let f = ap (λ (xs : List Step). length xs) two.steps in
      let u = one.read.read in
      let v = two.read.read in
      let g = one.further in
      let h = two.further in
      ⊎_elim (λ (i : next_start a ≡ Some moment). let r = one.reaches i in omega (arith, e, f, u, v, g, h, r)) (λ (i : next_start b ≡ Some moment). let r = two.reaches i in omega (arith, e, f, u, v, g, h, r))
      (lesser-one (next_start a) (next_start b) moment is)

-- all was read
read_whole : (c : Cursor) (bound : ℕ) → IsCursorRead c bound → next_start c ≡ None → take c.read c.steps.now ≡ c.steps.now
read_whole c bound read none =
    let Q : Option Step → Type 0 = λ o. option_map (λ (s : Step). s.start) o ≡ None in
    take_all c.read c.steps.now (⊎_elim (λ some. absurd (let no = subst Q some.2 none in cc no)) (λ past. past.0) (slice_get_cases c.steps.now c.read).1)

pub merged_whole : {a b : Cursor} {steps : List Step} {version newest : ℕ} → IsMerged a b steps version newest → lesser_moment (next_start a) (next_start b) ≡ None
    → (m : ℕ) → version_at steps m ≡ max (version_at a.steps.now m) (version_at b.steps.now m)
merged_whole {a} {b} {steps} {version} {newest} was is = λ m.
    let none = lesser-none (next_start a) (next_start b) is in
    was.both m ∙ ap (λ (xs : List Step). max (version_at xs m) (read_at b m)) (read_whole a was.bound was.first_read none.0) ∙ ap (λ (xs : List Step). max (version_at a.steps.now m) (version_at xs m)) (read_whole b was.bound was.second_read none.1)
