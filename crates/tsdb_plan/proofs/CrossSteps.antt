-- One unsequence file more: what the longer prefix meets, and the best plan that it gives.
use Rattle.std.proofs.Common.{◌≡◌, ℕ, ◌+◌, ◌-◌, ◌<◌, ◌≤◌, min, max, List, [], ◌∷◌, ◌++◌, Option, Some, None, length, take, drop, get_or, inl, inr, ⊎_elim, sym, ap, ◌∙◌, subst, true, append-nil, append_assoc, arith}
use Rattle.std.specs.Prelude.{IfSome, IfNone, fold}
use Rattle.std.specs.List.{AllZip}
use Rattle.std.proofs.lemmas.List.{take_more}
use Rattle.tsdb_plan.specs.declared.entry.CrossRun.{CrossRun}
use Rattle.tsdb_plan.specs.declared.entry.FileEntry.{FileEntry}
use Rattle.tsdb_plan.specs.declared.entry.Hull.{Hull}
use Rattle.tsdb_plan.specs.CrossPlan.{IsFirstOf, IsPastOf, IsEligible, IsCrossPlan, HasNoCrossPlan, HasTimeFromStart, HasTimeUpToEnd}
use Rattle.tsdb_plan.specs.Files.{AreFree, total_bytes}
use Rattle.tsdb_base.specs.Limits.{max_plan_bytes}
use Rattle.tsdb_plan.specs.Places.{IsFirstPlace, IsPastLast}
use Rattle.tsdb_plan.specs.Steps.{Reaches, IsBestUpTo}
use Rattle.tsdb_plan.proofs.Hulls.{start_either, start_left, start_right, start_of_one, start_of_none, end_either, end_left, end_right, end_of_one, end_of_none}
use Rattle.tsdb_plan.proofs.PlaceLemmas.{IsFirstPlace-further, IsFirstPlace-none, IsFirstPlace-either, IsPastLast-further, IsPastLast-none, IsPastLast-either}
use Rattle.tsdb_plan.proofs.Rows.{stops_at_claimed, stops_at_bytes}

-- a prefix of one file more
one_more : (files : List FileEntry) (place : ℕ) (file : FileEntry) → place < length files → file ≡ get_or files place file → take (place + 1) files ≡ take place files ++ file ∷ []
one_more files place file l e = take_more files place file l ∙ ap (λ f. take place files ++ f ∷ []) (sym e)

-- where the longer prefix begins and ends, from a look before and behind where the shorter one does
pub first_more : (sequence unsequence before : List FileEntry) (place first k : ℕ) (file : FileEntry) (hulls : List Hull) → place < length unsequence → file ≡ get_or unsequence place file → hulls ≡ file.hulls → before ≡ take first sequence → IsFirstOf (take place unsequence) sequence first → IsFirstPlace (λ s. Reaches s.hulls hulls) before k → IsFirstOf (take (place + 1) unsequence) sequence k
first_more sequence unsequence before place first k file hulls l e eh eb h m =
    let prefix = take place unsequence in
    let same : IsFirstPlace (λ s. Reaches s.hulls file.hulls) before k = subst (λ x. IsFirstPlace (λ s. Reaches s.hulls x) before k) eh m in
    let part : IsFirstPlace (λ s. Reaches s.hulls file.hulls) (take first sequence) k = subst (λ xs. IsFirstPlace (λ s. Reaches s.hulls file.hulls) xs k) eb same in
    let longer : IsFirstOf (prefix ++ file ∷ []) sequence k =
    IsFirstPlace-further (HasTimeFromStart prefix) (λ s. Reaches s.hulls file.hulls) (HasTimeFromStart (prefix ++ file ∷ []))
    (λ x r. ⊎_elim (λ a. inl a) (λ b. inr ((start_of_one file x).0 b)) (start_either prefix (file ∷ []) x r))
    (λ x p. start_left prefix (file ∷ []) x p)
    (λ x q. start_right prefix (file ∷ []) x ((start_of_one file x).1 q))
    sequence first k h part in
    subst (λ p. IsFirstOf p sequence k) (sym (one_more unsequence place file l e)) longer

pub past_more : (sequence unsequence behind : List FileEntry) (place past k : ℕ) (file : FileEntry) (hulls : List Hull) → place < length unsequence → file ≡ get_or unsequence place file → hulls ≡ file.hulls → behind ≡ drop past sequence → IsPastOf (take place unsequence) sequence past → IsPastLast (λ s. Reaches hulls s.hulls) behind k → IsPastOf (take (place + 1) unsequence) sequence (past + k)
past_more sequence unsequence behind place past k file hulls l e eh eb h m =
    let prefix = take place unsequence in
    let same : IsPastLast (λ s. Reaches file.hulls s.hulls) behind k = subst (λ x. IsPastLast (λ s. Reaches x s.hulls) behind k) eh m in
    let part : IsPastLast (λ s. Reaches file.hulls s.hulls) (drop past sequence) k = subst (λ xs. IsPastLast (λ s. Reaches file.hulls s.hulls) xs k) eb same in
    let longer : IsPastOf (prefix ++ file ∷ []) sequence (past + k) =
    IsPastLast-further (HasTimeUpToEnd prefix) (λ s. Reaches file.hulls s.hulls) (HasTimeUpToEnd (prefix ++ file ∷ []))
    (λ x r. ⊎_elim (λ a. inl a) (λ b. inr ((end_of_one file x).0 b)) (end_either prefix (file ∷ []) x r))
    (λ x p. end_left prefix (file ∷ []) x p)
    (λ x q. end_right prefix (file ∷ []) x ((end_of_one file x).1 q))
    sequence past k h part in
    subst (λ p. IsPastOf p sequence (past + k)) (sym (one_more unsequence place file l e)) longer

-- no file meets nothing
pub first_of_none : (sequence : List FileEntry) → IsFirstOf [] sequence (length sequence)
first_of_none sequence = IsFirstPlace-none (HasTimeFromStart []) start_of_none sequence

pub past_of_none : (sequence : List FileEntry) → IsPastOf [] sequence 0
past_of_none sequence = IsPastLast-none (HasTimeUpToEnd []) end_of_none sequence

-- the laws
pub firsts : (sequence prefix : List FileEntry) (own : List ℕ) → AllZip (λ file n. IsFirstOf (file ∷ []) sequence n) prefix own → IsFirstOf prefix sequence (fold min (length sequence) own)
firsts sequence prefix own h = from sequence [] prefix own (length sequence) (first_of_none sequence) h
  where
    from : (sequence done rest : List FileEntry) (own : List ℕ) (first : ℕ) → IsFirstOf done sequence first → AllZip (λ file n. IsFirstOf (file ∷ []) sequence n) rest own → IsFirstOf (done ++ rest) sequence (fold min first own)
    from sequence done [] [] first h g = subst (λ p. IsFirstOf p sequence first) (sym (append-nil done)) h
    from sequence done [] (n ∷ ns) first h g = absurd g
    from sequence done (file ∷ files) [] first h g = absurd g
    from sequence done (file ∷ files) (n ∷ ns) first h g =
        let longer : IsFirstOf (done ++ file ∷ []) sequence (min first n) =
        IsFirstPlace-either (HasTimeFromStart done) (HasTimeFromStart (file ∷ [])) (HasTimeFromStart (done ++ file ∷ []))
        (λ x r. start_either done (file ∷ []) x r) (λ x p. start_left done (file ∷ []) x p) (λ x q. start_right done (file ∷ []) x q) sequence first n h g.0 in
        subst (λ p. IsFirstOf p sequence (fold min (min first n) ns)) (append_assoc done (file ∷ []) files) (from sequence (done ++ file ∷ []) files ns (min first n) longer g.1)

pub pasts : (sequence prefix : List FileEntry) (own : List ℕ) → AllZip (λ file n. IsPastOf (file ∷ []) sequence n) prefix own → IsPastOf prefix sequence (fold max 0 own)
pasts sequence prefix own h = from sequence [] prefix own 0 (past_of_none sequence) h
  where
    from : (sequence done rest : List FileEntry) (own : List ℕ) (past : ℕ) → IsPastOf done sequence past → AllZip (λ file n. IsPastOf (file ∷ []) sequence n) rest own → IsPastOf (done ++ rest) sequence (fold max past own)
    from sequence done [] [] past h g = subst (λ p. IsPastOf p sequence past) (sym (append-nil done)) h
    from sequence done [] (n ∷ ns) past h g = absurd g
    from sequence done (file ∷ files) [] past h g = absurd g
    from sequence done (file ∷ files) (n ∷ ns) past h g =
        let longer : IsPastOf (done ++ file ∷ []) sequence (max past n) =
        IsPastLast-either (HasTimeUpToEnd done) (HasTimeUpToEnd (file ∷ [])) (HasTimeUpToEnd (done ++ file ∷ []))
        (λ x r. end_either done (file ∷ []) x r) (λ x p. end_left done (file ∷ []) x p) (λ x q. end_right done (file ∷ []) x q) sequence past n h g.0 in
        subst (λ p. IsPastOf p sequence (fold max (max past n) ns)) (append_assoc done (file ∷ []) files) (from sequence (done ++ file ∷ []) files ns (max past n) longer g.1)

-- the best plan of one file more
pub best_more : (sequence unsequence : List FileEntry) (place first past end room : ℕ) → place < length unsequence → AreFree (take (place + 1) unsequence) → room + total_bytes (take (place + 1) unsequence) ≡ max_plan_bytes → IsFirstOf (take (place + 1) unsequence) sequence first → IsPastOf (take (place + 1) unsequence) sequence past → end ≡ max first past → total_bytes (take (end - first) (drop first sequence)) ≤ room → IsBestUpTo sequence unsequence (place + 1) (Some (record { prefix = place + 1; first = first; end = end }))
best_more sequence unsequence place first past end room l free sum f p e fits =
    (record { some = omega arith; within = omega arith; free = free; first = f; end = (past, p, e); fits = omega arith }, λ other eligible short. short)

-- where no eligible run has a longer prefix, the best so far is the best
pub best_is_plan : (sequence unsequence : List FileEntry) (count : ℕ) (plan : Option CrossRun) → IsBestUpTo sequence unsequence count plan → ((other : CrossRun) → IsEligible sequence unsequence other → other.prefix ≤ count) → IfSome plan (IsCrossPlan sequence unsequence) × IfNone plan (HasNoCrossPlan sequence unsequence)
best_is_plan sequence unsequence count None best all = (tt, λ run eligible. best run eligible (all run eligible))
best_is_plan sequence unsequence count (Some run) best all = (record { eligible = best.0; longest = λ other eligible. best.1 other eligible (all other eligible) }, tt)

-- no eligible run goes on over a claimed file, nor over one that alone passes the limit
pub ends_at_claimed : (sequence unsequence : List FileEntry) (place : ℕ) (file : FileEntry) → place < length unsequence → file ≡ get_or unsequence place file → file.claimed ≡ true → (other : CrossRun) → IsEligible sequence unsequence other → other.prefix ≤ place
ends_at_claimed sequence unsequence place file l e claimed other h = stops_at_claimed unsequence place other.prefix file l e claimed h.within h.free

pub ends_at_bytes : (sequence unsequence : List FileEntry) (place room : ℕ) (file : FileEntry) → place < length unsequence → file ≡ get_or unsequence place file → room + total_bytes (take place unsequence) ≡ max_plan_bytes → room < file.size → (other : CrossRun) → IsEligible sequence unsequence other → other.prefix ≤ place
ends_at_bytes sequence unsequence place room file l e sum big other h = stops_at_bytes unsequence place other.prefix room max_plan_bytes file l e sum big (omega (arith, h.fits))
