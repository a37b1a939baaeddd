-- A shorter prefix meets fewer sequence files, so it fits where a longer one does.
use Rattle.std.proofs.Common.{◌≡◌, ℕ, ◌+◌, ◌-◌, ◌<◌, ◌≤◌, max, List, [], ◌∷◌, ◌++◌, length, take, drop, get_or, ⊎_elim, refl, sym, ap, ◌∙◌, subst, arith}
use Rattle.std.proofs.Math.Seq.{take-add}
use Rattle.std.proofs.lemmas.Bool.{cases_lt}
use Rattle.std.proofs.lemmas.List.{get_or-take, length-take-le, take-append-drop, take-take}
use Rattle.std.proofs.lemmas.List.Sums.{sum_by-append}
use Rattle.tsdb_plan.specs.declared.entry.CrossRun.{CrossRun}
use Rattle.tsdb_plan.specs.declared.entry.FileEntry.{FileEntry}
use Rattle.tsdb_plan.specs.CrossPlan.{IsFirstOf, IsPastOf, IsEligible, HasTimeFromStart, HasTimeUpToEnd}
use Rattle.tsdb_plan.specs.Files.{total_bytes}
use Rattle.tsdb_base.specs.Limits.{max_plan_bytes}
use Rattle.tsdb_plan.specs.Places.{IsFirstPlace, IsPastLast}
use Rattle.tsdb_plan.proofs.Hulls.{start_left, end_left}
use Rattle.tsdb_plan.proofs.Rows.{bytes_of-take-le}

-- what holds of fewer begins later and ends earlier
first_falls : {X : Type 0} (P Q : X → Type 0) → ((x : X) → P x → Q x) → (xs : List X) (d : X) (i k : ℕ) → IsFirstPlace P xs i → IsFirstPlace Q xs k → k ≤ i
first_falls P Q more xs d i k h m =
    ⊎_elim
    (λ (l : i < k). let w = m.within in absurd (m.none_before i d (omega arith) l (more (get_or xs i d) (h.there (omega (arith, l, w)) d))))
    (λ (l : k ≤ i). l)
    (cases_lt i k)

past_rises : {X : Type 0} (P Q : X → Type 0) → ((x : X) → P x → Q x) → (xs : List X) (d : X) (i k : ℕ) → IsPastLast P xs i → IsPastLast Q xs k → i ≤ k
past_rises P Q more xs d i k h m =
    ⊎_elim
    (λ (l : k < i). let w = h.within in absurd (m.none_behind (i - 1) d (omega (arith, l)) (omega (arith, l, w)) (more (get_or xs (i - 1) d) (h.there (omega (arith, l)) d))))
    (λ (l : i ≤ k). l)
    (cases_lt k i)

-- a longer prefix is a shorter one and more
longer_is : (files : List FileEntry) (n m : ℕ) → n ≤ m → take n files ++ drop n (take m files) ≡ take m files
longer_is files n m l = ap (λ xs. xs ++ drop n (take m files)) (sym (take-take n m files l)) ∙ take-append-drop n (take m files)

-- the bytes of a part of the list, as those of two prefixes
span_bytes : (files : List FileEntry) (from to : ℕ) → from ≤ to → total_bytes (take from files) + total_bytes (take (to - from) (drop from files)) ≡ total_bytes (take to files)
span_bytes files from to l =
    let e : from + (to - from) ≡ to = omega (arith, l) in
    sym (sum_by-append (λ (f : FileEntry). f.size) (take from files) (take (to - from) (drop from files)))
    ∙ ap total_bytes (sym (take-add from (to - from) files))
    ∙ ap (λ n. total_bytes (take n files)) e

module _ (sequence unsequence : List FileEntry) (d : FileEntry) (run : CrossRun) (n first past : ℕ) (eligible : IsEligible sequence unsequence run) (some : 1 ≤ n) (short : n ≤ run.prefix)
    (f : IsFirstOf (take n unsequence) sequence first) (p : IsPastOf (take n unsequence) sequence past) where
  whole : take n unsequence ++ drop n (take run.prefix unsequence) ≡ take run.prefix unsequence
  whole = longer_is unsequence n run.prefix short

  later : run.first ≤ first
  later = first_falls (HasTimeFromStart (take n unsequence)) (HasTimeFromStart (take run.prefix unsequence))
      (λ x h. subst (λ files. HasTimeFromStart files x) whole (start_left (take n unsequence) (drop n (take run.prefix unsequence)) x h)) sequence d first run.first f eligible.first

  earlier : past ≤ eligible.end.0
  earlier = past_rises (HasTimeUpToEnd (take n unsequence)) (HasTimeUpToEnd (take run.prefix unsequence))
      (λ x h. subst (λ files. HasTimeUpToEnd files x) whole (end_left (take n unsequence) (drop n (take run.prefix unsequence)) x h)) sequence d past eligible.end.0 p eligible.end.1

  -- the sequence files that it meets have no more bytes
  span : total_bytes (take (max first past - first) (drop first sequence)) ≤ total_bytes (take (run.end - run.first) (drop run.first sequence))
  span =
      let last = eligible.end.2 in
      let a = later in
      let b = earlier in
      ⊎_elim
      (λ (l : first < past).
      let top : max first past ≡ past = omega (arith, l) in
      let mine = span_bytes sequence first past (omega (arith, l)) in
      let own = span_bytes sequence run.first run.end (omega (arith, last)) in
      let low = bytes_of-take-le sequence run.first first a in
      let high = bytes_of-take-le sequence past run.end (omega (arith, last, b)) in
      subst (λ m. total_bytes (take (m - first) (drop first sequence)) ≤ total_bytes (take (run.end - run.first) (drop run.first sequence))) (sym top) (omega (arith, mine, own, low, high)))
      (λ (l : past ≤ first).
      let none : max first past - first ≡ 0 = omega (arith, l) in
      subst (λ m. total_bytes (take m (drop first sequence)) ≤ total_bytes (take (run.end - run.first) (drop run.first sequence))) (sym none) (omega arith))
      (cases_lt first past)

  pub shorter_is_eligible : IsEligible sequence unsequence (record { prefix = n; first = first; end = max first past })
  shorter_is_eligible =
      let w = eligible.within in
      record {
        some = some;
        within = omega (arith, short, w);
        free = λ k e l.
            let short_long : length (take n unsequence) ≡ n = length-take-le n unsequence (omega (arith, short, w)) in
            let long : length (take run.prefix unsequence) ≡ run.prefix = length-take-le run.prefix unsequence w in
            let below : k < n = omega (arith, l, short_long) in
            let same : get_or (take run.prefix unsequence) k e ≡ get_or (take n unsequence) k e = get_or-take run.prefix unsequence k e (omega (arith, below, short)) ∙ sym (get_or-take n unsequence k e below) in
            ap (λ (x : FileEntry). x.claimed) (sym same) ∙ eligible.free k e (omega (arith, below, short, long));
        first = f;
        end = (past, p, refl);
        fits = let a = bytes_of-take-le unsequence n run.prefix short in let b = span in let fits = eligible.fits in omega (arith, a, b, fits);
      }

-- where a prefix does not fit, no eligible one is longer
pub ends_at_span : (sequence unsequence : List FileEntry) (d : FileEntry) (place first past end room : ℕ) → room + total_bytes (take (place + 1) unsequence) ≡ max_plan_bytes → IsFirstOf (take (place + 1) unsequence) sequence first → IsPastOf (take (place + 1) unsequence) sequence past
    → end ≡ max first past → (total_bytes (take (end - first) (drop first sequence)) ≤ room → ⊥) → (other : CrossRun) → IsEligible sequence unsequence other → other.prefix ≤ place
ends_at_span sequence unsequence d place first past end room sum f p e big other eligible =
    ⊎_elim
    (λ (l : place < other.prefix).
    let own = shorter_is_eligible sequence unsequence d other (place + 1) first past eligible (omega arith) (omega (arith, l)) f p in
    let fits = own.fits in
    let small : total_bytes (take (max first past - first) (drop first sequence)) ≤ room = omega (arith, fits, sum) in
    absurd (big (subst (λ m. total_bytes (take (m - first) (drop first sequence)) ≤ room) (sym e) small)))
    (λ (l : other.prefix ≤ place). l)
    (cases_lt place other.prefix)

-- the law
pub shorter_fit : (sequence unsequence : List FileEntry) (run : CrossRun) (n first past : ℕ) → IsEligible sequence unsequence run → 1 ≤ n → n ≤ run.prefix
    → IsFirstOf (take n unsequence) sequence first → IsPastOf (take n unsequence) sequence past → IsEligible sequence unsequence (record { prefix = n; first = first; end = max first past })
shorter_fit sequence [] run n first past eligible some short f p = absurd (let a = eligible.some in let b = eligible.within in omega (arith, a, b))
shorter_fit sequence (d ∷ files) run n first past eligible some short f p = shorter_is_eligible sequence (d ∷ files) d run n first past eligible some short f p
