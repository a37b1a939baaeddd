-- What the index tells of the marks, and how they change together.
use Rattle.std.proofs.Common.{◌≡◌, ◌≢◌, ℕ, zero, suc, ◌+◌, ◌-◌, ◌^◌, ◌<◌, ◌≤◌, ◌⊎◌, ◌↔◌, inl, inr, ⊎_elim, max, min, Bool, true, false, cond, not, List, [], ◌∷◌, ◌++◌, length, take, drop, get_or, append-nil, length-drop, length-append, take-suc, refl, sym, ap, ◌∙◌, subst, arith}
use Rattle.std.specs.Prelude.{ℤ, pos, negsuc, ◌≤ℤ◌, ◌<ℤ◌, FitsSigned, nat_eq, nat_lt}
use Rattle.std.specs.Int.{w64}
use Rattle.std.specs.Cmp.Lexicographic.{pointwise, bytes_decides}
use Rattle.std.specs.List.{All, AllPairs, filter}
use Rattle.std.proofs.lemmas.List.{take-append-drop, take_all}
use Rattle.std.proofs.lemmas.Int.{ints, by_lt_z}
use Rattle.std.proofs.lemmas.Bool.{cases_lt, lt-ltb, le-ltb, le-leb, lt-leb, cases_Bool, false≢true, true_from_ne_false}
use Rattle.std.proofs.lemmas.List.Elements.{All-head, All-tail, All-cons, All-nil, All-filter, All-take, All-weaker, All-push, All-get_or, All-from_get_or, filter-append}
use Rattle.tsdb_base.specs.declared.point.Range.{Range}
use Rattle.tsdb_marks.specs.declared.marks.Mark.{Mark}
use Rattle.tsdb_marks.specs.Index.{Entries, at}
use Rattle.tsdb_marks.specs.Moments.{moment}
use Rattle.tsdb_marks.specs.Survival.{Covers, Survives, Meets}
use Rattle.tsdb_marks.specs.Lists.{is_newer_than}
use Rattle.tsdb_marks.specs.Series.{SeriesMarks, AddsMark, DropsOld, version_over}
use Rattle.tsdb_marks.specs.Steps.{IsMet, IsUnmet, newest_at}
use Rattle.tsdb_marks.specs.Model.{SomeOver, IsCovered, IsUncovered, HasTimes, IsIndexOf, is_mark_of, versions_of}

-- moments and times are in the same order

pub moment-le : (a b : ℤ) → a ≤ℤ b → moment a ≤ moment b
moment-le (pos a) (pos b) h = omega (arith, ints)
moment-le (pos a) (negsuc b) h = omega (arith, ints)
moment-le (negsuc a) (pos b) h = omega (arith, ints)
moment-le (negsuc a) (negsuc b) h = omega (arith, ints)

pub le-moment : (a b : ℤ) → FitsSigned w64 b → moment a ≤ moment b → a ≤ℤ b
le-moment (pos a) (pos b) f h = omega (arith, ints)
le-moment (pos a) (negsuc b) f h = omega (arith, ints)
le-moment (negsuc a) (pos b) f h = omega (arith, ints)
le-moment (negsuc a) (negsuc b) f h = omega (arith, ints)

-- marks over a moment

abbrev pub IsOver : Mark → List ℕ → ℕ → ℕ → Type 0
IsOver mark series m b = (mark.path ≡ series) × (moment mark.from ≤ m) × (m ≤ moment mark.to) × (b < mark.version.0)

pub over-left : (xs ys : List Mark) (p : List ℕ) (m b : ℕ) → SomeOver xs p m b → SomeOver (xs ++ ys) p m b
over-left [] ys p m b h = absurd h
over-left (x ∷ xs) ys p m b h = ⊎_elim (λ one. inl one) (λ others. inr (over-left xs ys p m b others)) h

pub over-right : (xs ys : List Mark) (p : List ℕ) (m b : ℕ) → SomeOver ys p m b → SomeOver (xs ++ ys) p m b
over-right [] ys p m b h = h
over-right (x ∷ xs) ys p m b h = inr (over-right xs ys p m b h)

pub over-cases : (xs ys : List Mark) (p : List ℕ) (m b : ℕ) → SomeOver (xs ++ ys) p m b → SomeOver xs p m b ⊎ SomeOver ys p m b
over-cases [] ys p m b h = inr h
over-cases (x ∷ xs) ys p m b h = ⊎_elim (λ one. inl (inl one)) (λ others. ⊎_elim (λ l. inl (inr l)) (λ r. inr r) (over-cases xs ys p m b others)) h

pub over-below : (xs : List Mark) (w : ℕ) (p : List ℕ) (m b : ℕ) → All (λ mark. mark.version.0 < w) xs → SomeOver xs p m b → b < w
over-below [] w p m b all h = absurd h
over-below (x ∷ xs) w p m b all h =
    let P : Mark → Type 0 = λ mark. mark.version.0 < w in
    let first = All-head P x xs all in
    ⊎_elim (λ (one : IsOver x p m b). omega (arith, one.3, first)) (λ others. over-below xs w p m b (All-tail P x xs all) others) h

pub over-filter : (v : ℕ) (xs : List Mark) (p : List ℕ) (m b : ℕ) → SomeOver xs p m (max b v) ↔ SomeOver (filter (is_newer_than v) xs) p m b
over-filter v [] p m b = (λ h. h, λ h. h)
over-filter v (x ∷ xs) p m b =
    let P : List Mark → Type 0 = λ ys. SomeOver ys p m b in
    let others = over-filter v xs p m b in
    ⊎_elim (λ (lt : v < x.version.0).
    let e : x ∷ filter (is_newer_than v) xs ≡ filter (is_newer_than v) (x ∷ xs) = rw (lt-ltb v x.version.0 lt) refl in (
      λ h. subst P e (⊎_elim (λ (one : IsOver x p m (max b v)). inl (one.0, one.1, one.2, omega (arith, one.3))) (λ o. inr (others.0 o)) h),
      λ h. ⊎_elim (λ (one : IsOver x p m b). inl (one.0, one.1, one.2, omega (arith, one.3))) (λ o. inr (others.1 o)) (subst P (sym e) h),
    ))
    (λ (le : x.version.0 ≤ v).
    let e : filter (is_newer_than v) xs ≡ filter (is_newer_than v) (x ∷ xs) = rw (le-ltb v x.version.0 le) refl in (
      λ h. subst P e (⊎_elim (λ (one : IsOver x p m (max b v)). absurd (omega (arith, one.3))) (λ o. others.0 o) h),
      λ h. inr (others.1 (subst P (sym e) h)),
    ))
    (cases_lt v x.version.0)

-- the index after a change

over_then : (from to v m b : ℕ) → b < version_over from to v m → (from ≤ m) × (m ≤ to) × (b < v)
over_then from to v m b h =
    let P : ℕ → Type 0 = λ n. b < n in
    ⊎_elim (λ (lt : m < from). absurd (let none : b < 0 = subst P (let e : version_over from to v m ≡ 0 = rw (lt-leb from m lt) refl in e) h in omega (arith, none)))
    (λ (ge : from ≤ m). ⊎_elim (λ (lt : to < m). absurd (let none : b < 0 = subst P (let e : version_over from to v m ≡ 0 = rw (le-leb from m ge, lt-leb m to lt) refl in e) h in omega (arith, none)))
    (λ (le : m ≤ to). (ge, le, subst P (let e : version_over from to v m ≡ v = rw (le-leb from m ge, le-leb m to le) refl in e) h)) (cases_lt to m)) (cases_lt m from)

then_over : (from to v m b : ℕ) → from ≤ m → m ≤ to → b < v → b < version_over from to v m
then_over from to v m b ge le lt = rw (le-leb from m ge, le-leb m to le) lt

pub versions-append : (xs ys : List Mark) → versions_of (xs ++ ys) ≡ versions_of xs ++ versions_of ys
versions-append [] ys = refl
versions-append (x ∷ xs) ys = ap (λ (vs : List ℕ). x.version.0 ∷ vs) (versions-append xs ys)

pub exact_added : (marks : List Mark) (mark : Mark) (floor : ℕ) (old new : Entries) → IsIndexOf marks floor old
    → AddsMark (at old mark.path) (at new mark.path) (moment mark.from) (moment mark.to) mark.version.0
    → ((other : List ℕ) → mark.path ≢ other → at new other ≡ at old other) → IsIndexOf (marks ++ mark ∷ []) floor new
exact_added marks mark floor old new exact adds others =
    let v = mark.version.0 in
    let same_over : (m b : ℕ) → m < 2 ^ 64 → floor ≤ b → (b < newest_at (at new mark.path).runs m) ↔ SomeOver (marks ++ mark ∷ []) mark.path m b = λ m b fits low.
    let was = exact.over mark.path m b fits low in
    let now = adds.moments m fits in (
      λ h. ⊎_elim (λ (lt : b < newest_at (at old mark.path).runs m). over-left marks (mark ∷ []) mark.path m b (was.0 lt))
          (λ (ge : newest_at (at old mark.path).runs m ≤ b). let o = over_then (moment mark.from) (moment mark.to) v m b (omega (arith, h, now, ge)) in over-right marks (mark ∷ []) mark.path m b (inl (refl, o.0, o.1, o.2)))
          (cases_lt b (newest_at (at old mark.path).runs m)),
      λ h. ⊎_elim (λ (o : SomeOver marks mark.path m b). let lt = was.1 o in omega (arith, lt, now))
          (λ r. ⊎_elim (λ (one : IsOver mark mark.path m b). let lt = then_over (moment mark.from) (moment mark.to) v m b one.1 one.2 one.3 in omega (arith, lt, now)) (λ e. absurd e) r)
          (over-cases marks (mark ∷ []) mark.path m b h),
    )
    in
    let same_versions : (at new mark.path).versions ≡ versions_of (filter (is_mark_of mark.path) (marks ++ mark ∷ [])) =
    adds.versions ∙ ap (λ (vs : List ℕ). vs ++ v ∷ []) (exact.versions mark.path)
    ∙ sym (ap versions_of (filter-append (is_mark_of mark.path) marks (mark ∷ [])) ∙ versions-append (filter (is_mark_of mark.path) marks) (filter (is_mark_of mark.path) (mark ∷ []))
    ∙ ap (λ b. versions_of (filter (is_mark_of mark.path) marks) ++ versions_of (cond b (mark ∷ []) [])) ((bytes_decides mark.path mark.path).1 refl))
    in
    let decides : (p : List ℕ) → (mark.path ≡ p) ⊎ (mark.path ≢ p) = λ p.
    ⊎_elim (λ (q : pointwise nat_eq mark.path p ≡ true). inl ((bytes_decides mark.path p).0 q)) (λ (q : pointwise nat_eq mark.path p ≡ false). inr (λ e. false≢true (sym q ∙ (bytes_decides mark.path p).1 e))) (cases_Bool (pointwise nat_eq mark.path p))
    in
    record {
      over = λ p m b fits low. ⊎_elim (λ (e : mark.path ≡ p). let P : List ℕ → Type 0 = λ q. (b < newest_at (at new q).runs m) ↔ SomeOver (marks ++ mark ∷ []) q m b in subst P e (same_over m b fits low))
          (λ (ne : mark.path ≢ p).
          let was = exact.over p m b fits low in
          let P : SeriesMarks → Type 0 = λ s. b < newest_at s.runs m in (
            λ h. over-left marks (mark ∷ []) p m b (was.0 (subst P (others p ne) h)),
            λ h. subst P (sym (others p ne)) (⊎_elim (λ (o : SomeOver marks p m b). was.1 o) (λ r. ⊎_elim (λ (one : IsOver mark p m b). absurd (ne one.0)) (λ e. absurd e) r) (over-cases marks (mark ∷ []) p m b h)),
          )) (decides p);
      versions = λ p. ⊎_elim (λ (e : mark.path ≡ p). let P : List ℕ → Type 0 = λ q. (at new q).versions ≡ versions_of (filter (is_mark_of q) (marks ++ mark ∷ [])) in subst P e same_versions)
          (λ (ne : mark.path ≢ p).
          let no : is_mark_of p mark ≡ false = ⊎_elim (λ (q : is_mark_of p mark ≡ true). absurd (ne (sym ((bytes_decides p mark.path).0 q)))) (λ q. q) (cases_Bool (is_mark_of p mark)) in
          ap (λ (s : SeriesMarks). s.versions) (others p ne) ∙ exact.versions p
          ∙ sym (ap versions_of (filter-append (is_mark_of p) marks (mark ∷ []) ∙ ap (λ b. filter (is_mark_of p) marks ++ cond b (mark ∷ []) []) no ∙ append-nil (filter (is_mark_of p) marks)))) (decides p);
    }

filter-versions : (p : List ℕ) (v : ℕ) (xs : List Mark) → filter (nat_lt v) (versions_of (filter (is_mark_of p) xs)) ≡ versions_of (filter (is_mark_of p) (filter (is_newer_than v) xs))
filter-versions p v [] = refl
filter-versions p v (x ∷ xs) =
    let others = filter-versions p v xs in
    let here : (b : Bool) → is_mark_of p x ≡ b → filter (nat_lt v) (versions_of (cond b (x ∷ filter (is_mark_of p) xs) (filter (is_mark_of p) xs))) ≡ versions_of (filter (is_mark_of p) (filter (is_newer_than v) (x ∷ xs))) =
    λ b. elim b as (λ b. is_mark_of p x ≡ b → filter (nat_lt v) (versions_of (cond b (x ∷ filter (is_mark_of p) xs) (filter (is_mark_of p) xs))) ≡ versions_of (filter (is_mark_of p) (filter (is_newer_than v) (x ∷ xs)))) [
      | true ↦ λ q. ⊎_elim (λ (lt : v < x.version.0). rw (lt-ltb v x.version.0 lt) (rw q (ap (λ (vs : List ℕ). x.version.0 ∷ vs) others))) (λ (ge : x.version.0 ≤ v). rw (le-ltb v x.version.0 ge) others) (cases_lt v x.version.0)
      | false ↦ λ q. ⊎_elim (λ (lt : v < x.version.0). rw (lt-ltb v x.version.0 lt) (rw q others)) (λ (ge : x.version.0 ≤ v). rw (le-ltb v x.version.0 ge) others) (cases_lt v x.version.0)
    ]
    in
    here (is_mark_of p x) refl

pub exact_dropped : (v floor high : ℕ) (marks : List Mark) (old new : Entries) → high ≡ max floor v → IsIndexOf marks floor old
    → ((path : List ℕ) → DropsOld (at old path) (at new path) v) → IsIndexOf (filter (is_newer_than v) marks) high new
exact_dropped v floor high marks old new is exact drops = record {
  over = λ p m b fits low.
      let moments = (drops p).moments m b (omega (arith, is, low)) in
      let was = exact.over p m b fits (omega (arith, is, low)) in
      let P : ℕ → Type 0 = λ n. SomeOver marks p m n in
      let top : b ≡ max b v = omega (arith, is, low) in
      let kept = over-filter v marks p m b in
      (λ h. kept.0 (subst P top (was.0 (moments.0 h))), λ h. moments.1 (was.1 (subst P (sym top) (kept.1 h))));
  versions = λ p. (drops p).versions ∙ ap (filter (nat_lt v)) (exact.versions p) ∙ filter-versions p v marks;
}

-- the marks that are indexed, after the old ones went

all-newer : (version : ℕ) (marks : List Mark) → All (λ mark. version < mark.version.0) marks → filter (is_newer_than version) marks ≡ marks
all-newer version [] all = refl
all-newer version (x ∷ xs) all =
    let P : Mark → Type 0 = λ mark. version < mark.version.0 in
    rw (lt-ltb version x.version.0 (All-head P x xs all)) (ap (λ kept. x ∷ kept) (all-newer version xs (All-tail P x xs all)))

head-newer : (version : ℕ) (x : Mark) (xs : List Mark) → AllPairs (λ (a b : Mark). a.version.0 < b.version.0) (x ∷ xs) → version < x.version.0 → All (λ mark. version < mark.version.0) (x ∷ xs)
head-newer version x xs rising lt =
    let P : Mark → Type 0 = λ mark. version < mark.version.0 in
    All-cons P x xs lt (All-from_get_or P xs x (λ i within. let later = rising 0 (suc i) x (omega arith) (omega arith) in omega (arith, lt, later)))

length-kept : (p : Mark → Bool) (xs : List Mark) → length (filter p xs) ≤ length xs
length-kept p [] = omega arith
length-kept p (x ∷ xs) = let others = length-kept p xs in elim (p x) as (λ b. length (cond b (x ∷ filter p xs) (filter p xs)) ≤ suc (length xs)) [ true ↦ omega (arith, others) | false ↦ omega (arith, others) ]

pub kept_few : (v : ℕ) (xs : List Mark) → length (filter (is_newer_than v) xs) ≤ length xs
kept_few v xs = length-kept (is_newer_than v) xs

pub prefix_kept : (v i n : ℕ) (marks : List Mark) → AllPairs (λ (a b : Mark). a.version.0 < b.version.0) marks → n ≡ i - (length marks - length (filter (is_newer_than v) marks))
    → take n (filter (is_newer_than v) marks) ≡ filter (is_newer_than v) (take i marks)
prefix_kept v i n [] rising is = by n i where
  by : (n i : ℕ) → take n [] ≡ filter (is_newer_than v) (take i [])
  by zero zero = refl
  by zero (suc i) = refl
  by (suc n) zero = refl
  by (suc n) (suc i) = refl
prefix_kept v zero n (x ∷ marks) rising is = ap (λ n. take n (filter (is_newer_than v) (x ∷ marks))) (let e : n ≡ 0 = omega (arith, is) in e)
prefix_kept v (suc i) n (x ∷ marks) rising is =
    let P : Mark → Type 0 = λ mark. v < mark.version.0 in
    ⊎_elim (λ (lt : v < x.version.0).
    let all = head-newer v x marks rising lt in
    let whole = all-newer v (x ∷ marks) all in
    let len = ap (λ (ms : List Mark). length ms) whole in
    let e : n ≡ suc i = omega (arith, is, len) in
    ap (λ n. take n (filter (is_newer_than v) (x ∷ marks))) e ∙ ap (take (suc i)) whole ∙ sym (all-newer v (take (suc i) (x ∷ marks)) (All-take P (suc i) (x ∷ marks) all)))
    (λ (ge : x.version.0 ≤ v).
    let rest : AllPairs (λ (a b : Mark). a.version.0 < b.version.0) marks = λ j k d lt within. rising (suc j) (suc k) d (omega (arith, lt)) (omega (arith, within)) in
    let gone : filter (is_newer_than v) (x ∷ marks) ≡ filter (is_newer_than v) marks = rw (le-ltb v x.version.0 ge) refl in
    let len = ap (λ (ms : List Mark). length ms) gone in
    let short = length-kept (is_newer_than v) marks in
    let e : n ≡ i - (length marks - length (filter (is_newer_than v) marks)) = omega (arith, is, len, short) in
    ap (take n) gone ∙ prefix_kept v i n marks rest e ∙ sym (rw (le-ltb v x.version.0 ge) refl))
    (cases_lt v x.version.0)

pub floor_kept : (floor v high : ℕ) (marks : List Mark) → high ≡ max floor v → ((floor ≡ 0) ⊎ ((0 < length marks) × All (λ mark. floor < mark.version.0) marks)) → 0 < length (filter (is_newer_than v) marks)
    → (high ≡ 0) ⊎ ((0 < length (filter (is_newer_than v) marks)) × All (λ mark. high < mark.version.0) (filter (is_newer_than v) marks))
floor_kept floor v high marks is newer some =
    let kept = filter (is_newer_than v) marks in
    let Old : Mark → Type 0 = λ mark. v < mark.version.0 in
    let above : All Old kept = newer-all v marks in
    inr (
      some,
      ⊎_elim (λ (z : floor ≡ 0). All-weaker Old (λ mark. high < mark.version.0) (λ m lt. omega (arith, lt, is, z)) kept above)
          (λ r. both_newer kept above (All-filter (is_newer_than v) (λ mark. floor < mark.version.0) marks r.1)) newer,
    )
  where
    newer-all : (v : ℕ) (xs : List Mark) → All (λ mark. v < mark.version.0) (filter (is_newer_than v) xs)
    newer-all v [] = All-nil (λ (mark : Mark). v < mark.version.0)
    newer-all v (x ∷ xs) =
        let P : Mark → Type 0 = λ mark. v < mark.version.0 in
        ⊎_elim (λ (lt : v < x.version.0). rw (lt-ltb v x.version.0 lt) (All-cons P x (filter (is_newer_than v) xs) lt (newer-all v xs))) (λ (ge : x.version.0 ≤ v). rw (le-ltb v x.version.0 ge) (newer-all v xs)) (cases_lt v x.version.0)

    both_newer : (xs : List Mark) → All (λ mark. v < mark.version.0) xs → All (λ mark. floor < mark.version.0) xs → All (λ mark. high < mark.version.0) xs
    both_newer xs a b = λ k d lt. let c = a k d lt in let e = b k d lt in omega (arith, is, c, e)

pub floor_push : (floor : ℕ) (marks : List Mark) (mark : Mark) → ((floor ≡ 0) ⊎ ((0 < length marks) × All (λ mark. floor < mark.version.0) marks)) → All (λ kept. kept.version.0 < mark.version.0) marks
    → (floor ≡ 0) ⊎ ((0 < length (marks ++ mark ∷ [])) × All (λ mark. floor < mark.version.0) (marks ++ mark ∷ []))
floor_push floor marks mark newer above = ⊎_elim (λ z. inl z) (λ r.
    let first = All-get_or (λ (m : Mark). floor < m.version.0) marks 0 mark r.0 r.1 in
    let last = All-get_or (λ (m : Mark). m.version.0 < mark.version.0) marks 0 mark r.0 above in
    inr (omega (arith, length-append marks (mark ∷ [])), All-push (λ m. floor < m.version.0) marks mark r.1 (omega (arith, first, last)))) newer

pub rest_is : (i : ℕ) (marks : List Mark) → take (length marks - i) (drop i marks) ≡ drop i marks
rest_is i marks = take_all (length marks - i) (drop i marks) (omega (arith, length-drop i marks))

-- what is covered

over-weaker : (xs : List Mark) (p : List ℕ) (m b c : ℕ) → b ≤ c → SomeOver xs p m c → SomeOver xs p m b
over-weaker [] p m b c le h = h
over-weaker (x ∷ xs) p m b c le h = ⊎_elim (λ (one : IsOver x p m c). inl (one.0, one.1, one.2, omega (arith, one.3, le))) (λ o. inr (over-weaker xs p m b c le o)) h

over-raise : (floor : ℕ) (xs : List Mark) (p : List ℕ) (m b : ℕ) → All (λ mark. floor < mark.version.0) xs → SomeOver xs p m b → SomeOver xs p m (max b floor)
over-raise floor [] p m b all h = h
over-raise floor (x ∷ xs) p m b all h =
    let P : Mark → Type 0 = λ mark. floor < mark.version.0 in
    let first = All-head P x xs all in
    ⊎_elim (λ (one : IsOver x p m b). inl (one.0, one.1, one.2, omega (arith, one.3, first))) (λ o. inr (over-raise floor xs p m b (All-tail P x xs all) o)) h

module _ (marks : List Mark) (i floor : ℕ) (entries : Entries) (p : List ℕ) (low high b c : ℕ) (exact : IsIndexOf (take i marks) floor entries) (fits : high < 2 ^ 64) (raised : c ≡ max b floor) where
  pub covered_index : IsMet (newest_at (at entries p).runs) low high c → IsCovered marks p low high b
  covered_index met =
      let m = met.moment in
      let P : List Mark → Type 0 = λ ms. SomeOver ms p m b in
      let to = met.to in
      let over = (exact.over p m c (omega (arith, to, fits)) (omega (arith, raised))).0 met.newer in
      record { moment = m; from = met.from; to = met.to; over = subst P (take-append-drop i marks) (over-left (take i marks) (drop i marks) p m b (over-weaker (take i marks) p m b c (omega (arith, raised)) over)) }

  pub covered_behind : IsCovered (drop i marks) p low high b → IsCovered marks p low high b
  covered_behind covered =
      let m = covered.moment in
      let P : List Mark → Type 0 = λ ms. SomeOver ms p m b in
      record { moment = m; from = covered.from; to = covered.to; over = subst P (take-append-drop i marks) (over-right (take i marks) (drop i marks) p m b covered.over) }

  pub uncovered_both : ((floor ≡ 0) ⊎ ((0 < length marks) × All (λ mark. floor < mark.version.0) marks)) → IsUnmet (newest_at (at entries p).runs) low high c → IsUncovered (drop i marks) p low high b → IsUncovered marks p low high b
  uncovered_both newer unmet behind = λ m from to over.
      let P : List Mark → Type 0 = λ ms. SomeOver ms p m b in
      let N : ℕ → Type 0 = λ n. SomeOver (take i marks) p m n in
      let Newer : Mark → Type 0 = λ mark. floor < mark.version.0 in
      ⊎_elim (λ (front : SomeOver (take i marks) p m b).
      let high_front : SomeOver (take i marks) p m c = ⊎_elim (λ (z : floor ≡ 0). subst N (let e : b ≡ c = omega (arith, raised, z) in e) front) (λ r. subst N (sym raised) (over-raise floor (take i marks) p m b (All-take Newer i marks r.1) front)) newer in
      let lt = (exact.over p m c (omega (arith, to, fits)) (omega (arith, raised))).1 high_front in
      let le = unmet m from to in
      omega (arith, lt, le))
      (λ back. behind m from to back)
      (over-cases (take i marks) (drop i marks) p m b (subst P (sym (take-append-drop i marks)) over))

-- survival

pub survives-unless : (marks : List Mark) (p : List ℕ) (time : ℤ) (b : ℕ) → (SomeOver marks p (moment time) b → ⊥) → Survives marks p time b
survives-unless [] p time b none = All-nil (λ mark. ¬ Covers mark p time b)
survives-unless (x ∷ xs) p time b none =
    All-cons (λ mark. ¬ Covers mark p time b) x xs
    (λ c. none (inl (c.path, moment-le x.from time c.from, moment-le time x.to c.to, c.newer)))
    (survives-unless xs p time b (λ o. none (inr o)))

pub survives-not : (marks : List Mark) (p : List ℕ) (time : ℤ) (b : ℕ) → All HasTimes marks → FitsSigned w64 time → Survives marks p time b → SomeOver marks p (moment time) b → ⊥
survives-not [] p time b times fits all h = h
survives-not (x ∷ xs) p time b times fits all h =
    let C : Mark → Type 0 = λ mark. ¬ Covers mark p time b in
    let t = All-head HasTimes x xs times in
    ⊎_elim (λ (one : IsOver x p (moment time) b). All-head C x xs all (record { path = one.0; from = le-moment x.from time fits one.1; to = le-moment time x.to t.to one.2; newer = one.3 }))
    (λ o. survives-not xs p time b (All-tail HasTimes x xs times) fits (All-tail C x xs all) o) h

-- a mark over a moment of the range is over a time of the range
record IsTimeOver (marks : List Mark) (p : List ℕ) (range : Range) (b : ℕ) : Type 0 where
  pub time : ℤ
  pub from : range.from ≤ℤ time
  pub to : time ≤ℤ range.to
  pub over : SomeOver marks p (moment time) b

time-over : (marks : List Mark) (p : List ℕ) (range : Range) (m b : ℕ) → FitsSigned w64 range.from → FitsSigned w64 range.to → moment range.from ≤ m → m ≤ moment range.to → SomeOver marks p m b → IsTimeOver marks p range b
time-over [] p range m b ff ft f t h = absurd h
time-over (x ∷ xs) p range m b ff ft f t h =
    ⊎_elim (λ (one : IsOver x p m b).
    by_lt_z range.from x.from
    (λ (lt : range.from <ℤ x.from). record { time = x.from; from = omega (arith, ints); to = le-moment x.from range.to ft (omega (arith, one.1)); over = inl (one.0, omega arith, omega (arith, one.1, one.2), one.3) })
    (λ (le : x.from ≤ℤ range.from). record { time = range.from; from = omega (arith, ints); to = le-moment range.from range.to ft (omega arith); over = inl (one.0, moment-le x.from range.from le, omega (arith, one.2), one.3) }))
    (λ o. let r = time-over xs p range m b ff ft f t o in record { time = r.time; from = r.from; to = r.to; over = inr r.over }) h

-- where the first mark is newer, all are, and none is dropped

pub none-old : (version : ℕ) (marks : List Mark) (x : Mark) → AllPairs (λ (a b : Mark). a.version.0 < b.version.0) marks → 0 < length marks → x ≡ get_or marks 0 x → version < x.version.0
    → filter (is_newer_than version) marks ≡ marks
none-old version [] x rising some first newer = refl
none-old version (y ∷ ys) x rising some first newer =
    let P : Mark → Type 0 = λ mark. version < mark.version.0 in
    let lt : version < y.version.0 = subst P first newer in
    all-newer version (y ∷ ys) (All-cons P y ys lt (All-from_get_or P ys y (λ i within. let later = rising 0 (suc i) y (omega arith) (omega arith) in omega (arith, lt, later))))

pub no-mark : (version : ℕ) (marks : List Mark) → length marks ≡ 0 → filter (is_newer_than version) marks ≡ marks
no-mark version [] none = refl
no-mark version (x ∷ xs) none = absurd (omega (arith, none))

-- the answers

pub survives_is : (marks : List Mark) (p : List ℕ) (time : ℤ) (b at : ℕ) (covers : Bool) → All HasTimes marks → FitsSigned w64 time → at ≡ moment time
    → (covers ≡ true → IsCovered marks p at at b) → (covers ≡ false → IsUncovered marks p at at b) → (not covers ≡ true) ↔ Survives marks p time b
survives_is marks p time b at true times fits is covered uncovered =
    let r = covered refl in
    let P : ℕ → Type 0 = λ n. SomeOver marks p n b in
    let here : r.moment ≡ moment time = let from = r.from in let to = r.to in omega (arith, from, to, is) in
    (λ h. absurd (false≢true h), λ all. absurd (survives-not marks p time b times fits all (subst P here r.over)))
survives_is marks p time b at false times fits is covered uncovered =
    (λ h. survives-unless marks p time b (λ o. uncovered refl (moment time) (omega (arith, is)) (omega (arith, is)) o), λ all. refl)

pub meets_is : (marks : List Mark) (p : List ℕ) (range : Range) (b f t : ℕ) (covers : Bool) → All HasTimes marks → FitsSigned w64 range.from → FitsSigned w64 range.to
    → f ≡ moment range.from → t ≡ moment range.to → (covers ≡ true → IsCovered marks p f t b) → (covers ≡ false → IsUncovered marks p f t b) → (covers ≡ true) ↔ Meets marks p range b
meets_is marks p range b f t covers times ff ft ef et covered uncovered = (
  λ h.
      let r = covered h in
      let s = time-over marks p range r.moment b ff ft (let from = r.from in omega (arith, from, ef)) (let to = r.to in omega (arith, to, et)) r.over in
      let fits : FitsSigned w64 s.time = let f = s.from in let g = s.to in omega (arith, ints) in
      record { time = s.time; from = s.from; to = s.to; covered = λ all. survives-not marks p s.time b times fits all s.over },
  λ meets. true_from_ne_false covers (λ q. meets.covered (survives-unless marks p meets.time b (λ over.
      uncovered q (moment meets.time) (let low = moment-le range.from meets.time meets.from in omega (arith, low, ef)) (let high = moment-le meets.time range.to meets.to in omega (arith, high, et)) over))),
)

-- a look at each mark

pub covered_mark : (marks : List Mark) (i : ℕ) (mark : Mark) (p : List ℕ) (low high b : ℕ) → i < length marks → mark ≡ get_or marks i mark → mark.path ≡ p → max (moment mark.from) low ≤ min (moment mark.to) high → b < mark.version.0
    → IsCovered marks p low high b
covered_mark marks i mark p low high b lt is path le newer = record { moment = max (moment mark.from) low; from = omega arith; to = omega (arith, le); over = some marks i lt is }
  where
    some : (marks : List Mark) (i : ℕ) → i < length marks → mark ≡ get_or marks i mark → SomeOver marks p (max (moment mark.from) low) b
    some [] i lt is = absurd (omega (arith, lt))
    some (x ∷ marks) zero lt is = let P : Mark → Type 0 = λ x. IsOver x p (max (moment mark.from) low) b in inl (subst P is (path, omega arith, omega (arith, le), newer))
    some (x ∷ marks) (suc i) lt is = inr (some marks i (omega (arith, lt)) is)

pub uncovered_push : (marks : List Mark) (i : ℕ) (mark : Mark) (p : List ℕ) (low high b : ℕ) → i < length marks → mark ≡ get_or marks i mark
    → ((m : ℕ) → low ≤ m → m ≤ high → IsOver mark p m b → ⊥) → IsUncovered (take i marks) p low high b → IsUncovered (take (i + 1) marks) p low high b
uncovered_push marks i mark p low high b lt is one before = λ m from to over.
    let more : take (i + 1) marks ≡ take i marks ++ mark ∷ [] = ap (λ n. take n marks) (let e : i + 1 ≡ suc i = omega arith in e) ∙ take-suc marks i mark lt ∙ ap (λ x. take i marks ++ x ∷ []) (sym is) in
    let P : List Mark → Type 0 = λ ms. SomeOver ms p m b in
    ⊎_elim (λ front. before m from to front) (λ r. ⊎_elim (λ here. one m from to here) (λ e. e) r) (over-cases (take i marks) (mark ∷ []) p m b (subst P more over))
