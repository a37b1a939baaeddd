-- What a read of the next point leaves: of one source, and of a tree.
use Rattle.std.proofs.Common.{◌≡◌, ℕ, zero, suc, ◌+◌, ◌≤◌, Bool, true, false, List, [], ◌∷◌, ◌++◌, length, refl, sym, ap, ◌∙◌, subst, arith, rules}
use Rattle.std.specs.Prelude.{◌≢◌, ◌==◌, Option, Some, None, reverse, vec_len}
use Rattle.std.specs.declared.alloc.Global.{Global}
use Rattle.std.specs.declared.vec.Vec.{Vec}
use Rattle.std.proofs.lemmas.Bool.{false≢true}
use Rattle.std.proofs.lemmas.List.{reverse-append, length-append, length-reverse}
use Rattle.tsdb_base.specs.declared.point.Point.{Point}
use Rattle.tsdb_merge.specs.Steps.{IsNextOf, IsPopped, IsPointRead, behind, told_with}
use Rattle.tsdb_merge.specs.Supplies.{IsFilled, KeepsOthers, Moves, left_at}
use Rattle.tsdb_merge.specs.declared.head.Head.{Head}
use Rattle.tsdb_merge.specs.declared.head.Head.TheVariants.{Unread, End, Next}
use Rattle.tsdb_merge.proofs.Pulls.{merge_two-nil}

abbrev Lists : Type 0
Lists = List (Option (List Point))

-- where the other list has ended, the first point of this one is taken
pub low_alone : (low low_now high next : Head) → low ≢ Unread → low_now ≡ Unread → high ≡ End → next ≡ low → IsNextOf low high low_now high next
low_alone Unread low_now high next ready a b c = absurd (ready refl)
low_alone End low_now high next ready a b c = rw (a, b, c) (record { points = λ xs ys. refl; ready = search rules; held = omega arith; held_low = omega arith; held_high = omega arith })
low_alone (Next x) low_now high next ready a b c = rw (a, b, c) (record {
  points = λ xs ys. ap (λ zs. x ∷ zs) (sym (merge_two-nil xs));
  ready = search rules;
  held = omega arith;
  held_low = omega arith;
  held_high = omega arith;
})

-- ---- one source

none_some : {A : Type 0} (a : A) → None ≡ Some a → ⊥
none_some a e = search rules

some_is : {A : Type 0} (a b : A) → Some a ≡ Some b → a ≡ b
some_is a b e = cc

moved : (before after : Option (List Point)) (start buffer : List Point) → start ≡ [] → Moves before true (reverse buffer) after
    → (points : List Point) → behind start before ≡ Some points → behind buffer after ≡ Some points
moved None after start buffer e m points h = absurd (none_some points h)
moved (Some before) None start buffer e m points h = absurd m
moved (Some before) (Some after) start buffer e m points h =
    let same : before ≡ points = some_is before points (subst (λ s. behind s (Some before) ≡ Some points) e h) in
    ap (λ s. Some s) (sym m ∙ same)

-- the last point of a buffer, and the rest of it
popped : (buffer rest : List Point) (p : Point) → buffer ≡ rest ++ p ∷ [] → reverse buffer ≡ p ∷ reverse rest
popped buffer rest p e = ap reverse e ∙ reverse-append rest (p ∷ [])

behind_popped : (buffer rest : List Point) (p : Point) (left : Option (List Point)) (points : List Point) → buffer ≡ rest ++ p ∷ [] → behind buffer left ≡ Some points → told_with (Next p) (behind rest left) ≡ Some points
behind_popped buffer rest p None points e h = absurd (none_some points h)
behind_popped buffer rest p (Some left) points e h = ap (λ s. Some (s ++ left)) (sym (popped buffer rest p e)) ∙ h

read_popped : (source : ℕ) (start buffer after : List Point) (lists lists_now : Lists) (most most_now : ℕ) (head : Head)
    → ((points : List Point) → behind start (left_at lists source) ≡ Some points → behind buffer (left_at lists_now source) ≡ Some points)
    → length buffer + most_now ≤ length start + most → KeepsOthers source lists lists_now → 1 ≤ length buffer → length buffer ≤ 1000 → IsPopped buffer after head → IsPointRead source start lists most head after lists_now most_now
read_popped source start buffer after lists lists_now most most_now Unread kept fewer others some top p = absurd p
read_popped source start buffer after lists lists_now most most_now End kept fewer others some top p = absurd (let none : length buffer ≡ 0 = ap length p.0 in omega (arith, none, some))
read_popped source start buffer after lists lists_now most most_now (Next x) kept fewer others some top p =
    let long : length buffer ≡ length after + 1 = ap length p ∙ length-append after (x ∷ []) in
    record {
      left = λ points h. behind_popped buffer after x (left_at lists_now source) points p (kept points h);
      ready = search rules;
      within = omega (arith, long, top);
      fewer = omega (arith, long, fewer);
      others = others;
    }

others_same : (source : ℕ) (lists : Lists) → KeepsOthers source lists lists
others_same source lists = record { sources = refl; others = λ other apart. refl }

-- from a buffer that has a point
pub read_buffered : (source : ℕ) (start after : List Point) (lists : Lists) (most : ℕ) (head : Head) → 1 ≤ length start → length start ≤ 1000 → IsPopped start after head → IsPointRead source start lists most head after lists most
read_buffered source start after lists most head some top p = read_popped source start start after lists lists most most head (λ points h. h) (omega arith) (others_same source lists) some top p

-- from a buffer that was filled
pub read_refilled : (source : ℕ) (start buffer after : List Point) (lists lists_now : Lists) (most most_now : ℕ) (more : Bool) (head : Head) → start ≡ [] → more ≡ true → Moves (left_at lists source) more (reverse buffer) (left_at lists_now source) → IsFilled more (reverse buffer)
    → length buffer + most_now ≤ most → KeepsOthers source lists lists_now → IsPopped buffer after head → IsPointRead source start lists most head after lists_now most_now
read_refilled source start buffer after lists lists_now most most_now more head none true_is m filled fewer others p =
    let ok : IsFilled true (reverse buffer) = subst (λ b. IsFilled b (reverse buffer)) true_is filled in
    let move : Moves (left_at lists source) true (reverse buffer) (left_at lists_now source) = subst (λ b. Moves (left_at lists source) b (reverse buffer) (left_at lists_now source)) true_is m in
    let long : length (reverse buffer) ≡ length buffer = length-reverse buffer in
    let some = ok.0 in
    let top = ok.1 in
    let start_long : length start ≡ 0 = ap length none in
    read_popped source start buffer after lists lists_now most most_now head (moved (left_at lists source) (left_at lists_now source) start buffer none move) (omega (arith, start_long, fewer)) others (omega (arith, long, some)) (omega (arith, long, top)) p

ended : (before after : Option (List Point)) (start buffer points : List Point) → start ≡ [] → Moves before false (reverse buffer) after → behind start before ≡ Some points → told_with End (behind buffer after) ≡ Some points
ended None after start buffer points e m h = absurd (none_some points h)
ended (Some before) None start buffer points e m h = absurd m
ended (Some before) (Some after) start buffer points e m h =
    let same : before ≡ points = some_is before points (subst (λ s. behind s (Some before) ≡ Some points) e h) in
    ap (λ s. Some s) (sym m.0 ∙ same)

-- the source has ended
pub read_ended : (source : ℕ) (start buffer : List Point) (lists lists_now : Lists) (most most_now : ℕ) (more : Bool) → start ≡ [] → more ≡ false → Moves (left_at lists source) more (reverse buffer) (left_at lists_now source) → IsFilled more (reverse buffer)
    → length buffer + most_now ≤ most → KeepsOthers source lists lists_now → IsPointRead source start lists most End buffer lists_now most_now
read_ended source start buffer lists lists_now most most_now more none false_is m filled fewer others =
    let ok : reverse buffer ≡ [] = subst (λ b. IsFilled b (reverse buffer)) false_is filled in
    let move : Moves (left_at lists source) false (reverse buffer) (left_at lists_now source) = subst (λ b. Moves (left_at lists source) b (reverse buffer) (left_at lists_now source)) false_is m in
    let long : length (reverse buffer) ≡ length buffer = length-reverse buffer in
    let no_length : length (reverse buffer) ≡ 0 = ap length ok in
    record {
      left = λ points h. ended (left_at lists source) (left_at lists_now source) start buffer points none move h;
      ready = search rules;
      within = omega (arith, long, no_length);
      fewer = omega (arith, fewer);
      others = others;
    }

-- ---- whether a buffer is empty

pub some_in : (n : ℕ) → (n == 0) ≡ false → 1 ≤ n
some_in zero e = absurd (false≢true (sym e))
some_in (suc n) e = omega arith

not_zero : (n : ℕ) → (suc n == 0) ≡ true → ⊥
not_zero n e = grind (arith)

pub none_in : (points : List Point) → (length points == 0) ≡ true → points ≡ []
none_in [] e = refl
none_in (x ∷ xs) e = absurd (not_zero (length xs) e)

pub len_is : (buffer : Vec Point Global) → vec_len buffer ≡ length buffer.items
len_is buffer = omega arith
