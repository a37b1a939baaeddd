-- Sources that are lists by themselves: one point is taken from one of them.
use Rattle.std.proofs.Common.{◌≡◌, ℕ, zero, suc, ◌+◌, ◌<◌, ◌≤◌, Bool, List, [], ◌∷◌, length, get_or, set, map, Result, Ok, Err, inl, inr, refl, sym, ap, ◌∙◌, subst, sum_by, arith, rules}
use Rattle.std.specs.Prelude.{Option, Some, None, All, IfErr, IfSome, vec_len}
use Rattle.std.specs.Option.{option_to_list}
use Rattle.std.specs.declared.alloc.Global.{Global}
use Rattle.std.specs.declared.vec.Vec.{Vec}
use Rattle.std.proofs.lemmas.List.{get_or-map, get_or-set_other, get_or-set_same, length-map, length-set, map-set}
use Rattle.std.proofs.lemmas.List.Elements.{All-cons, All-nil}
use Rattle.std.proofs.lemmas.List.Sums.{sum_by-set}
use Rattle.tsdb_base.specs.declared.point.Point.{Point}
use Rattle.tsdb_base.specs.Causes.{Rose}
use Rattle.tsdb_merge.specs.Causes.{HasPullCause, HasRisen, HasSomeCause, NoneFell, SomeHasRisen, SomeRose}
use Rattle.tsdb_merge.specs.Steps.{IsPointPut}
use Rattle.tsdb_merge.specs.Supplies.{IsFilled, KeepsOthers, Moves, left_at}
use Rattle.tsdb_base.specs.Points.{IsRising}
use Rattle.tsdb_merge.specs.Winners.{TakesTold}
use Rattle.tsdb_merge.specs.declared.points.PullFault.{PullFault}
use Rattle.tsdb_merge.specs.declared.points.PullFault.TheVariants.{Failed, Damaged, Memory}
use Rattle.tsdb_merge.proofs.Pulls.{none_fell}

moves_one : (before after : Option (List Point)) (point : Option Point) (more : Bool) (points : List Point) → TakesTold before point after → IsPointPut point more points → Moves before more points after
moves_one None after point more points takes put = tt
moves_one (Some before) None point more points takes put = absurd takes
moves_one (Some before) (Some after) None more points takes put = rw put.0 takes
moves_one (Some before) (Some after) (Some point) more points takes put = rw (put.0, put.1) takes

pub filled_one : (point : Option Point) (more : Bool) (points : List Point) → IsPointPut point more points → IsFilled more points
filled_one None more points put = rw (put.0, put.1) refl
filled_one (Some point) more points put = rw (put.0, put.1) (omega arith, omega arith)

one_point : (point : Option Point) (more : Bool) (points : List Point) → IsPointPut point more points → length points ≡ length (option_to_list point)
one_point None more points put = ap length put.1
one_point (Some point) more points put = ap length put.1

module _ {P : Type 0} (sources : List P) (k : ℕ) (before after : P) (l : k < length sources) (is : before ≡ get_or sources k before) where
  pub moved_one : (left : P → Option (List Point)) (point : Option Point) (more : Bool) (points : List Point) → TakesTold (left before) point (left after) → IsPointPut point more points
      → Moves (left_at (map left sources) k) more points (left_at (map left (set sources k after)) k)
  moved_one left point more points takes put =
      let old : left_at (map left sources) k ≡ left before = get_or-map left sources k before None l ∙ ap left (sym is) in
      let same : get_or (set sources k after) k before ≡ after = get_or-set_same sources k after before l in
      let new : left_at (map left (set sources k after)) k ≡ left after = get_or-map left (set sources k after) k before None (omega (arith, l, length-set sources k after)) ∙ ap left same in
      rw (old, new) (moves_one (left before) (left after) point more points takes put)

  pub others_of : (left : P → Option (List Point)) → KeepsOthers k (map left sources) (map left (set sources k after))
  others_of left = record {
    sources = length-map (set sources k after) left ∙ length-set sources k after ∙ sym (length-map sources left);
    others = λ other apart. ap (λ xs. get_or xs other None) (map-set left sources k after) ∙ get_or-set_other (map left sources) k other (left after) None apart;
  }

  pub most_one : (most : P → ℕ) (point : Option Point) (more : Bool) (points : List Point) → length (option_to_list point) + most after ≤ most before → IsPointPut point more points
      → length points + sum_by most (set sources k after) ≤ sum_by most sources
  most_one most point more points fewer put =
      let sum = sum_by-set most sources k after before l in
      let old : most (get_or sources k before) ≡ most before = ap most (sym is) in
      omega (arith, sum, old, fewer, one_point point more points put)

-- ---- counts

fell_at : (ns : List ℕ) (k m d : ℕ) → get_or ns k d ≤ m → NoneFell ns (set ns k m)
fell_at [] k m d l = tt
fell_at (n ∷ ns) zero m d l = (l, none_fell ns)
fell_at (n ∷ ns) (suc k) m d l = (omega arith, fell_at ns k m d l)

rose_at : (ns : List ℕ) (k m d : ℕ) → k < length ns → Rose (get_or ns k d) m → SomeRose ns (set ns k m)
rose_at [] k m d below rose = absurd (omega (arith, below))
rose_at (n ∷ ns) zero m d below rose = inl rose
rose_at (n ∷ ns) (suc k) m d below rose = inr (rose_at ns k m d (omega (arith, below)) rose)

risen_at : (fault : PullFault) (fs ds : List ℕ) (k f d : ℕ) → k < length fs → k < length ds → HasRisen fault (get_or fs k 0) f (get_or ds k 0) d → SomeHasRisen fault fs (set fs k f) ds (set ds k d)
risen_at Failed fs ds k f d lf ld rose = rose_at fs k f 0 lf rose
risen_at (Damaged at) fs ds k f d lf ld rose = rose_at ds k d 0 ld rose
risen_at Memory fs ds k f d lf ld rose = tt

cause_at : {S T : Type 0} (fs ds : List ℕ) (k f d : ℕ) (result : Result S PullFault) (other : Result T PullFault) → k < length fs → k < length ds → HasPullCause (get_or fs k 0) f (get_or ds k 0) d result
    → IfErr other (λ fault. HasRisen fault (get_or fs k 0) f (get_or ds k 0) d) → HasSomeCause fs (set fs k f) ds (set ds k d) other
cause_at fs ds k f d result (Ok x) lf ld cause has = record { failures_later = fell_at fs k f 0 cause.failures_later; damages_later = fell_at ds k d 0 cause.damages_later; fault = tt }
cause_at fs ds k f d result (Err fault) lf ld cause has = record { failures_later = fell_at fs k f 0 cause.failures_later; damages_later = fell_at ds k d 0 cause.damages_later; fault = risen_at fault fs ds k f d lf ld has }

pub cause_of_one : {P S T : Type 0} (failures damages : P → ℕ) (sources : List P) (k : ℕ) (before after : P) (result : Result S PullFault) (other : Result T PullFault) → k < length sources → before ≡ get_or sources k before
    → HasPullCause (failures before) (failures after) (damages before) (damages after) result → IfErr other (λ fault. HasRisen fault (failures before) (failures after) (damages before) (damages after))
    → HasSomeCause (map failures sources) (map failures (set sources k after)) (map damages sources) (map damages (set sources k after)) other
cause_of_one {P} failures damages sources k before after result other l is cause has =
    let f : get_or (map failures sources) k 0 ≡ failures before = get_or-map failures sources k before 0 l ∙ ap failures (sym is) in
    let d : get_or (map damages sources) k 0 ≡ damages before = get_or-map damages sources k before 0 l ∙ ap damages (sym is) in
    let lf : k < length (map failures sources) = omega (arith, l, length-map sources failures) in
    let ld : k < length (map damages sources) = omega (arith, l, length-map sources damages) in
    rw (map-set failures sources k after, map-set damages sources k after)
    (cause_at (map failures sources) (map damages sources) k (failures after) (damages after) result other lf ld (rw (f, d) cause) (rw (f, d) has))

pub memory_fault : (fault : PullFault) (f g d e : ℕ) → fault ≡ Memory → HasRisen fault f g d e
memory_fault fault f g d e is = rw is tt

-- ---- lists that are told

none_some : {A : Type 0} (x : A) (xs : List A) → [] ≡ x ∷ xs → ⊥
none_some x xs e = search rules

rising_of : (left : Option (List Point)) (points : List Point) → left ≡ Some points → IfSome left IsRising → IsRising points
rising_of left points e rising = subst (λ l. IfSome l IsRising) e rising

pub lists_rising : {P : Type 0} (left : P → Option (List Point)) (sources : List P) (lists : List (List Point)) → ((p : P) → IfSome (left p) IsRising) → map left sources ≡ map Some lists → All IsRising lists × (length lists ≡ length sources)
lists_rising left [] [] each told = (All-nil IsRising, refl)
lists_rising left [] (points ∷ lists) each told = absurd (none_some (Some points) (map Some lists) told)
lists_rising left (source ∷ sources) [] each told = absurd (none_some (left source) (map left sources) (sym told))
lists_rising left (source ∷ sources) (points ∷ lists) each told =
    let first : left source ≡ Some points = cc in
    let rest : map left sources ≡ map Some lists = cc in
    let later = lists_rising left sources lists each rest in
    (All-cons IsRising points lists (rising_of (left source) points first (each source)) later.0, ap suc later.1)

pub count_is : {P : Type 0} (sources : Vec P Global) → vec_len sources ≡ length sources.items
count_is sources = omega arith
