-- The hulls of a part with one series more.
use Rattle.std.proofs.Common.{◌≡◌, ◌≢◌, Bool, true, false, ℕ, suc, ℤ, ◌+◌, ◌<◌, List, [], ◌∷◌, ◌++◌, length, get_or, zero, ◌-◌, drop, set, ◌≤◌, inl, inr, ⊎_elim, refl, sym, ap, ◌∙◌, subst, arith}
use Rattle.std.specs.Int.{int_max, int_min}
use Rattle.std.specs.Prelude.{int_lt, OnOk, Result, Ok, Err}
use Rattle.std.proofs.lemmas.Bool.{cases_cond, cases_lt, false≢true}
use Rattle.std.proofs.lemmas.Int.{clamps, ints}
use Rattle.std.specs.Prelude.{IsTrue, ◌⊎◌, ◌<ℤ◌, ◌≤ℤ◌, AllPairs, Contains}
use Rattle.std.specs.List.{AllByRecursion as Each}
use Rattle.std.specs.Cmp.Lexicographic.{slice_cmp}
use Rattle.std.specs.Ordering.{nat_cmp}
use Rattle.std.specs.declared.cmp.Ordering.TheVariants.{Less}
use Rattle.std.proofs.lemmas.Cmp.{nat_list_cmp_total}
use Rattle.std.proofs.lemmas.List.Elements.{All-from_recursion, recursion_from_All}
use Rattle.std.proofs.lemmas.List.{get_or_append_left, get_or_default, get_or_push, length-append}
use Rattle.tsdb_base.specs.Points.{IsRising}
use Rattle.tsdb_base.specs.declared.point.Point.{Point}
use Rattle.tsdb_flush.specs.Hulls.{EndsIn, IsWidened}
use Rattle.tsdb_flush.specs.MakingSteps.{AddsTimes, AreFrom, ComeBefore, filled_with}
use Rattle.tsdb_path.specs.Order.{AreNamesBefore}
use Rattle.tsdb_flush.specs.BuiltFile.{AreHullsOf, HasHullOver, HasFilledTime}
use Rattle.tsdb_flush.specs.Parts.{Filled, schema_names}
use Rattle.tsdb_base.proofs.Lists.{among_left, among_right, each_among, each_append, each_from_among, each_left, each_right, each_weaker}
use Rattle.tsdb_base.specs.Lists.{Among}
use Rattle.tsdb_model.specs.declared.command.Schema.{Schema}
use Rattle.tsfile_writer.proofs.Order.{pairs_across, pairs_push}
use Rattle.tsdb_path.specs.Nodes.{device_of}
use Rattle.tsdb_plan.specs.declared.entry.Hull.{Hull}

-- the device comes first in the order of bytes
abbrev pub IsLess : List ℕ → List ℕ → Type 0
IsLess a b = slice_cmp nat_cmp a b ≡ Less

pub among_cases : {X : Type 0} (xs ys : List X) (x : X) → Among x (xs ++ ys) → Among x xs ⊎ Among x ys
among_cases [] ys x there = inr there
among_cases (y ∷ xs) ys x (inl is) = inl (inl is)
among_cases (y ∷ xs) ys x (inr there) = ⊎_elim (λ a. inl (inr a)) (λ b. inr b) (among_cases xs ys x there)

pub among_last : {X : Type 0} (xs : List X) (x : X) → Among x (xs ++ x ∷ [])
among_last xs x = among_right xs (x ∷ []) x (inl refl)

contained : {X : Type 0} (xs : List X) (x : X) → Among x xs → Contains xs x
contained [] x there = absurd there
contained (y ∷ xs) x (inl is) = (0, omega arith, is)
contained (y ∷ xs) x (inr there) = behind y xs x (contained xs x there)
  where
    behind : {X : Type 0} (y : X) (xs : List X) (x : X) → Contains xs x → Contains (y ∷ xs) x
    behind y xs x (k, lt, at) = (suc k, omega (arith, lt), at)

pairs_front : {X : Type 0} (R : X → X → Type 0) (xs ys : List X) → AllPairs R (xs ++ ys) → AllPairs R xs
pairs_front R xs ys pairs i j d lt within =
    let n : length (xs ++ ys) ≡ length xs + length ys = length-append xs ys in
    let step = pairs i j d lt (omega (arith, within, n)) in
    subst (λ b. R (get_or xs i d) b) (get_or_append_left xs ys d j within) (subst (λ a. R a (get_or (xs ++ ys) j d)) (get_or_append_left xs ys d i (omega (arith, lt, within))) step)

-- more series have the times that some of them have, and more hulls are over the times that some are over
time_more : (part : List Filled) (filled : Filled) (device : List ℕ) (time : ℤ) → HasFilledTime part device time → HasFilledTime (part ++ filled ∷ []) device time
time_more part filled device time has = record {
  filled = has.filled;
  among = among_left part (filled ∷ []) has.filled has.among;
  of_device = has.of_device;
  point = has.point;
  in_series = has.in_series;
  at = has.at;
}

new_time : (part : List Filled) (schema : Schema) (points : List Point) (device : List ℕ) (time : ℤ) (point : Point) → device_of schema.path ≡ device → Among point points → point.time ≡ time
    → HasFilledTime (part ++ filled_with schema points ∷ []) device time
new_time part schema points device time point of there at = record {
  filled = filled_with schema points;
  among = among_last part (filled_with schema points);
  of_device = of;
  point = point;
  in_series = there;
  at = at;
}

over_more : (hulls more : List Hull) (device : List ℕ) (time : ℤ) → HasHullOver hulls device time → HasHullOver (hulls ++ more) device time
over_more hulls more device time has = record {
  hull = has.hull;
  among = among_left hulls more has.hull has.among;
  of_device = has.of_device;
  from = has.from;
  to = has.to;
}

-- a hull's device comes before that of the series, where it is not the same
device_before : (part : List Filled) (schema : Schema) (hull : Hull) (device : List ℕ) → device_of schema.path ≡ device → ComeBefore part schema → HasFilledTime part hull.device hull.from
    → (IsLess hull.device device) ⊎ (hull.device ≡ device)
device_before part schema hull device of before has = ways (each_among (λ f. AreNamesBefore (schema_names f.schema) (schema_names schema)) part has.filled before has.among)
  where
    ways : AreNamesBefore (schema_names has.filled.schema) (schema_names schema) → (IsLess hull.device device) ⊎ (hull.device ≡ device)
    ways (inl less) = inl (subst (λ (a : List ℕ). IsLess a device) has.of_device (subst (λ (b : List ℕ). IsLess (device_of has.filled.schema.path) b) of less))
    ways (inr same) = inr (sym has.of_device ∙ same.0 ∙ of)

-- each hull is of a device before this one, where the last hull is not of it
pub all_before : (part : List Filled) (schema : Schema) (front : List Hull) (last : Hull) (device : List ℕ) → device_of schema.path ≡ device → ComeBefore part schema
    → AreHullsOf part (front ++ last ∷ []) → last.device ≢ device → Each (λ hull. IsLess hull.device device) (front ++ last ∷ [])
all_before part schema front last device of before are other = each_append (λ hull. IsLess hull.device device) front (last ∷ []) (each_from_among (λ hull. IsLess hull.device device) front earlier) (last_less, tt)
  where
    last_less : IsLess last.device device
    last_less = ⊎_elim (λ less. less) (λ same. absurd (other same)) (device_before part schema last device of before (each_right (λ hull. HasFilledTime part hull.device hull.from × HasFilledTime part hull.device hull.to) front (last ∷ []) are.tight).0.0)

    earlier : (hull : Hull) → Among hull front → IsLess hull.device device
    earlier hull there = nat_list_cmp_total.trans hull.device last.device device
        (pairs_across (λ (a b : Hull). IsLess a.device b.device) front (last ∷ []) hull last are.rising (contained front hull there) (0, omega arith, refl)) last_less

-- a series of a device of its own has a hull of its own
pub hull_added : (part : List Filled) (schema : Schema) (points : List Point) (hulls : List Hull) (device : List ℕ) (from to : ℤ) → device_of schema.path ≡ device → AreHullsOf part hulls → AreFrom points from to
    → Each (λ hull. IsLess hull.device device) hulls → AreHullsOf (part ++ filled_with schema points ∷ []) (hulls ++ record { device = device; from = from; to = to } ∷ [])
hull_added part schema points hulls device from to of are span before =
    let filled = filled_with schema points in
    let hull : Hull = record { device = device; from = from; to = to } in
    record {
      rising = pairs_push (λ (a b : Hull). IsLess a.device b.device) hulls hull are.rising (All-from_recursion (λ (h : Hull). IsLess h.device device) hulls before);
      over = each_append (λ f. Each (λ (p : Point). HasHullOver (hulls ++ hull ∷ []) (device_of f.schema.path) p.time) f.points) part (filled ∷ [])
          (each_weaker (λ f. Each (λ (p : Point). HasHullOver hulls (device_of f.schema.path) p.time) f.points) (λ f. Each (λ (p : Point). HasHullOver (hulls ++ hull ∷ []) (device_of f.schema.path) p.time) f.points)
          (λ f all. each_weaker (λ (p : Point). HasHullOver hulls (device_of f.schema.path) p.time) (λ (p : Point). HasHullOver (hulls ++ hull ∷ []) (device_of f.schema.path) p.time) (λ p. over_more hulls (hull ∷ []) (device_of f.schema.path) p.time) f.points all)
          part are.over) (
            each_weaker (λ (p : Point). (from ≤ℤ p.time) × (p.time ≤ℤ to)) (λ (p : Point). HasHullOver (hulls ++ hull ∷ []) (device_of schema.path) p.time)
                (λ p within. record { hull = hull; among = among_last hulls hull; of_device = sym of; from = within.0; to = within.1 }) points span.between,
            tt,
          );
      tight = each_append (λ (h : Hull). HasFilledTime (part ++ filled ∷ []) h.device h.from × HasFilledTime (part ++ filled ∷ []) h.device h.to) hulls (hull ∷ [])
          (each_weaker (λ (h : Hull). HasFilledTime part h.device h.from × HasFilledTime part h.device h.to) (λ (h : Hull). HasFilledTime (part ++ filled ∷ []) h.device h.from × HasFilledTime (part ++ filled ∷ []) h.device h.to)
          (λ h has. (time_more part filled h.device h.from has.0, time_more part filled h.device h.to has.1)) hulls are.tight)
          ((new_time part schema points device from span.first of span.has_first span.at_first, new_time part schema points device to span.last of span.has_last span.at_last), tt);
    }

-- what was over a time is over it once the last hull is widened
over_widened : (front : List Hull) (old new : Hull) (from to : ℤ) (device : List ℕ) (time : ℤ) → IsWidened old from to new → HasHullOver (front ++ old ∷ []) device time → HasHullOver (front ++ new ∷ []) device time
over_widened front old new from to device time wide has = ways (among_cases front (old ∷ []) has.hull has.among)
  where
    at_last : old ≡ has.hull → HasHullOver (front ++ new ∷ []) device time
    at_last is = record {
      hull = new;
      among = among_last front new;
      of_device = wide.device ∙ ap (λ (h : Hull). h.device) is ∙ has.of_device;
      from = omega (arith, ints, wide.from_old, subst (λ (h : Hull). h.from ≤ℤ time) (sym is) has.from);
      to = omega (arith, ints, wide.to_old, subst (λ (h : Hull). time ≤ℤ h.to) (sym is) has.to);
    }

    ways : Among has.hull front ⊎ Among has.hull (old ∷ []) → HasHullOver (front ++ new ∷ []) device time
    ways (inl there) = record { hull = has.hull; among = among_left front (new ∷ []) has.hull there; of_device = has.of_device; from = has.from; to = has.to }
    ways (inr (inl is)) = at_last is
    ways (inr (inr none)) = absurd none

-- a series of the last hull's device widens it
pub hull_widened : (part : List Filled) (schema : Schema) (points : List Point) (front : List Hull) (old new : Hull) (from to : ℤ) → device_of schema.path ≡ old.device → AreHullsOf part (front ++ old ∷ []) → AreFrom points from to
    → IsWidened old from to new → AreHullsOf (part ++ filled_with schema points ∷ []) (front ++ new ∷ [])
hull_widened part schema points front old new from to of are span wide =
    let filled = filled_with schema points in
    record {
      rising = pairs_push (λ (a b : Hull). IsLess a.device b.device) front new (pairs_front (λ (a b : Hull). IsLess a.device b.device) front (old ∷ []) are.rising)
          (All-from_recursion (λ (h : Hull). IsLess h.device new.device) front (each_from_among (λ (h : Hull). IsLess h.device new.device) front
          (λ h there. subst (λ (d : List ℕ). IsLess h.device d) (sym wide.device) (pairs_across (λ (a b : Hull). IsLess a.device b.device) front (old ∷ []) h old are.rising (contained front h there) (0, omega arith, refl)))));
      over = each_append (λ f. Each (λ (p : Point). HasHullOver (front ++ new ∷ []) (device_of f.schema.path) p.time) f.points) part (filled ∷ [])
          (each_weaker (λ f. Each (λ (p : Point). HasHullOver (front ++ old ∷ []) (device_of f.schema.path) p.time) f.points) (λ f. Each (λ (p : Point). HasHullOver (front ++ new ∷ []) (device_of f.schema.path) p.time) f.points)
          (λ f all. each_weaker (λ (p : Point). HasHullOver (front ++ old ∷ []) (device_of f.schema.path) p.time) (λ (p : Point). HasHullOver (front ++ new ∷ []) (device_of f.schema.path) p.time) (λ p. over_widened front old new from to (device_of f.schema.path) p.time wide) f.points all)
          part are.over) (
            each_weaker (λ (p : Point). (from ≤ℤ p.time) × (p.time ≤ℤ to)) (λ (p : Point). HasHullOver (front ++ new ∷ []) (device_of schema.path) p.time)
                (λ p within. record { hull = new; among = among_last front new; of_device = wide.device ∙ sym of; from = omega (arith, ints, wide.from_new, within.0); to = omega (arith, ints, wide.to_new, within.1) }) points span.between,
            tt,
          );
      tight = each_append (λ (h : Hull). HasFilledTime (part ++ filled ∷ []) h.device h.from × HasFilledTime (part ++ filled ∷ []) h.device h.to) front (new ∷ [])
          (each_weaker (λ (h : Hull). HasFilledTime part h.device h.from × HasFilledTime part h.device h.to) (λ (h : Hull). HasFilledTime (part ++ filled ∷ []) h.device h.from × HasFilledTime (part ++ filled ∷ []) h.device h.to)
          (λ h has. (time_more part filled h.device h.from has.0, time_more part filled h.device h.to has.1)) front (each_left (λ (h : Hull). HasFilledTime part h.device h.from × HasFilledTime part h.device h.to) front (old ∷ []) are.tight))
          ((begins wide.begins, ends wide.ends), tt);
    }
  where
    last : HasFilledTime part old.device old.from × HasFilledTime part old.device old.to
    last = (each_right (λ (h : Hull). HasFilledTime part h.device h.from × HasFilledTime part h.device h.to) front (old ∷ []) are.tight).0

    whole : List Filled
    whole = part ++ filled_with schema points ∷ []

    begins : (new.from ≡ old.from) ⊎ (new.from ≡ from) → HasFilledTime whole new.device new.from
    begins (inl is) = subst (λ (t : ℤ). HasFilledTime whole new.device t) (sym is) (subst (λ (d : List ℕ). HasFilledTime whole d old.from) (sym wide.device) (time_more part (filled_with schema points) old.device old.from last.0))
    begins (inr is) = subst (λ (t : ℤ). HasFilledTime whole new.device t) (sym is) (new_time part schema points new.device from span.first (of ∙ sym wide.device) span.has_first span.at_first)

    ends : (new.to ≡ old.to) ⊎ (new.to ≡ to) → HasFilledTime whole new.device new.to
    ends (inl is) = subst (λ (t : ℤ). HasFilledTime whole new.device t) (sym is) (subst (λ (d : List ℕ). HasFilledTime whole d old.to) (sym wide.device) (time_more part (filled_with schema points) old.device old.to last.1))
    ends (inr is) = subst (λ (t : ℤ). HasFilledTime whole new.device t) (sym is) (new_time part schema points new.device to span.last (of ∙ sym wide.device) span.has_last span.at_last)

-- the least of two times, and the greatest
pub widened : (hull : Hull) (from to new_from new_to : ℤ) → new_from ≡ int_min hull.from from → new_to ≡ int_max hull.to to → IsWidened hull from to (record { device = hull.device; from = new_from; to = new_to })
widened hull from to new_from new_to least greatest = record {
  device = refl;
  begins = ⊎_elim (λ (is : int_min hull.from from ≡ from). inr (least ∙ is)) (λ (is : int_min hull.from from ≡ hull.from). inl (least ∙ is)) (cases_cond (int_lt from hull.from) from hull.from _ refl);
  ends = ⊎_elim (λ (is : int_max hull.to to ≡ hull.to). inl (greatest ∙ is)) (λ (is : int_max hull.to to ≡ to). inr (greatest ∙ is)) (cases_cond (int_lt to hull.to) hull.to to _ refl);
  from_old = rw (least) (omega (arith, ints, clamps));
  from_new = rw (least) (omega (arith, ints, clamps));
  to_old = rw (greatest) (omega (arith, ints, clamps));
  to_new = rw (greatest) (omega (arith, ints, clamps));
}

-- ---- the last hull of a list, and the first and the last point

-- a list without elements, or with a last one
pub split_last : {X : Type 0} (xs : List X) → (xs ≡ []) ⊎ ((front : List X) × (last : X) × (xs ≡ front ++ last ∷ []))
split_last [] = inl refl
split_last (x ∷ xs) = inr (behind x xs (split_last xs))
  where
    behind : {X : Type 0} (x : X) (xs : List X) → (xs ≡ []) ⊎ ((front : List X) × (last : X) × (xs ≡ front ++ last ∷ [])) → (front : List X) × (last : X) × (x ∷ xs ≡ front ++ last ∷ [])
    behind x xs (inl none) = ([], x, ap (λ (l : List _). x ∷ l) none)
    behind x xs (inr (front, last, is)) = (x ∷ front, last, ap (λ (l : List _). x ∷ l) is)

-- two ways to split the last element off are one
last_is : {X : Type 0} (front other : List X) (last end : X) → front ++ last ∷ [] ≡ other ++ end ∷ [] → last ≡ end
last_is [] [] last end same = grind arith
last_is [] (y ∷ other) last end same = absurd (grind (arith, length-append other (end ∷ [])))
last_is (x ∷ front) [] last end same = absurd (grind (arith, length-append front (last ∷ [])))
last_is (x ∷ front) (y ∷ other) last end same = last_is front other last end (ap (drop 1) same)

pub ends_by : (hulls : List Hull) (last : Hull) (device : List ℕ) (r : Bool) → 0 < length hulls → get_or hulls (length hulls - 1) last ≡ last → (IsTrue r → last.device ≡ device) × (last.device ≡ device → IsTrue r) → EndsIn hulls device r
ends_by hulls last device r some at says = ways (split_last hulls) r says
  where
    at_end : (front : List Hull) (end : Hull) → hulls ≡ front ++ end ∷ [] → end ≡ last
    at_end front end is = sym (get_or_push front end last (length front) refl) ∙ ap (λ (l : List Hull). get_or l (length front) last) (sym is) ∙ ap (λ (n : ℕ). get_or hulls n last) (omega (arith, ap length is, length-append front (end ∷ []))) ∙ at

    ways : (hulls ≡ []) ⊎ ((front : List Hull) × (end : Hull) × (hulls ≡ front ++ end ∷ [])) → (r : Bool) → (IsTrue r → last.device ≡ device) × (last.device ≡ device → IsTrue r) → EndsIn hulls device r
    ways (inl none) r is = absurd (omega (arith, some, ap length none))
    ways (inr (front, end, is)) true says = (front, end, is, ap (λ (h : Hull). h.device) (at_end front end is) ∙ says.0 refl)
    ways (inr split) false says = λ front end is same. false≢true (says.1 (ap (λ (h : Hull). h.device) (sym (at_end front end is)) ∙ same))

-- the last element of a list with another in its place
set_at_end : {X : Type 0} (front : List X) (last y : X) → set (front ++ last ∷ []) (length front) y ≡ front ++ y ∷ []
set_at_end [] last y = refl
set_at_end (x ∷ front) last y = ap (λ (l : List _). x ∷ l) (set_at_end front last y)

pub set_last : {X : Type 0} (front : List X) (last y : X) (n : ℕ) → n + 1 ≡ length (front ++ last ∷ []) → set (front ++ last ∷ []) n y ≡ front ++ y ∷ []
set_last front last y n at =
    let same : n ≡ length front = omega (arith, at, length-append front (last ∷ [])) in
    ap (λ (m : ℕ). set (front ++ last ∷ []) m y) same ∙ set_at_end front last y

zero_at : (k : ℕ) → k < 1 → k ≡ 0
zero_at k less = omega (arith, less)

among_at : {X : Type 0} (xs : List X) (k : ℕ) (x : X) → k < length xs → get_or xs k x ≡ x → Among x xs
among_at [] k x lt at = absurd (omega (arith, lt))
among_at (y ∷ xs) zero x lt at = inl at
among_at (y ∷ xs) (suc k) x lt at = inr (among_at xs k x (omega (arith, lt)) at)

pub from_ends : (points : List Point) (first last : Point) → IsRising points → 0 < length points → get_or points 0 first ≡ first → get_or points (length points - 1) last ≡ last → AreFrom points first.time last.time
from_ends points first last rising some at_first at_last = record {
  between = recursion_from_All (λ (p : Point). (first.time ≤ℤ p.time) × (p.time ≤ℤ last.time)) points (λ k d lt. (lower k d lt, upper k d lt));
  first = first;
  has_first = among_at points 0 first some at_first;
  at_first = refl;
  last = last;
  has_last = among_at points (length points - 1) last (omega (arith, some)) at_last;
  at_last = refl;
}
  where
    lower : (k : ℕ) (d : Point) → k < length points → first.time ≤ℤ (get_or points k d).time
    lower k d lt = ⊎_elim
        (λ (zero_is : k < 1). subst (λ (p : Point). first.time ≤ℤ p.time) (sym (ap (λ (n : ℕ). get_or points n d) (zero_at k zero_is) ∙ get_or_default points 0 d first some ∙ at_first)) (omega (arith, ints)))
        (λ (more : 1 ≤ k). let step = rising 0 k d (omega (arith, more)) lt in
        let less : first.time <ℤ (get_or points k d).time = subst (λ (p : Point). p.time <ℤ (get_or points k d).time) (get_or_default points 0 d first some ∙ at_first) step in omega (arith, ints, less))
        (cases_lt k 1)

    upper : (k : ℕ) (d : Point) → k < length points → (get_or points k d).time ≤ℤ last.time
    upper k d lt = ⊎_elim
        (λ (before : k < length points - 1). let step = rising k (length points - 1) d before (omega (arith, some)) in
        let less : (get_or points k d).time <ℤ last.time = subst (λ (p : Point). (get_or points k d).time <ℤ p.time) (get_or_default points (length points - 1) d last (omega (arith, some)) ∙ at_last) step in omega (arith, ints, less))
        (λ (end : length points - 1 ≤ k). let same : k ≡ length points - 1 = omega (arith, end, lt) in
        subst (λ (p : Point). p.time ≤ℤ last.time) (sym (ap (λ (n : ℕ). get_or points n d) same ∙ get_or_default points (length points - 1) d last (omega (arith, some)) ∙ at_last)) (omega (arith, ints)))
        (cases_lt k (length points - 1))

pub from_places : (points : List Point) (d e : Point) → IsRising points → 0 < length points → AreFrom points (get_or points 0 d).time (get_or points (length points - 1) e).time
from_places points d e rising some = from_ends points (get_or points 0 d) (get_or points (length points - 1) e) rising some
    (get_or_default points 0 (get_or points 0 d) d some) (get_or_default points (length points - 1) (get_or points (length points - 1) e) e (omega (arith, some)))

pub some_by_last : {X : Type 0} (xs front : List X) (last : X) → xs ≡ front ++ last ∷ [] → 0 < length xs
some_by_last xs front last is = omega (arith, ap length is, length-append front (last ∷ []))

-- what a step leaves, where no last hull is of the device, and where one is
pub added_at_end : (hulls : List Hull) (points : List Point) (device : List ℕ) (from to : ℤ) → EndsIn hulls device false → AreFrom points from to → AddsTimes device points hulls (hulls ++ record { device = device; from = from; to = to } ∷ [])
added_at_end hulls points device from to none span = λ part schema of before are. hull_added part schema points hulls device from to of are span (each part schema of before are (split_last hulls))
  where
    each : (part : List Filled) (schema : Schema) → device_of schema.path ≡ device → ComeBefore part schema → AreHullsOf part hulls → (hulls ≡ []) ⊎ ((front : List Hull) × (last : Hull) × (hulls ≡ front ++ last ∷ [])) → Each (λ hull. IsLess hull.device device) hulls
    each part schema of before are (inl empty) = subst (Each (λ hull. IsLess hull.device device)) (sym empty) tt
    each part schema of before are (inr (front, last, is)) = subst (Each (λ hull. IsLess hull.device device)) (sym is) (all_before part schema front last device of before (subst (AreHullsOf part) is are) (none front last is))

pub widened_at_end : (hulls : List Hull) (points : List Point) (device : List ℕ) (from to : ℤ) (old new : Hull) (n : ℕ) → EndsIn hulls device true → AreFrom points from to → n + 1 ≡ length hulls → get_or hulls n old ≡ old → IsWidened old from to new
    → AddsTimes device points hulls (set hulls n new)
widened_at_end hulls points device from to old new n (front, last, is, at_device) span at_n at_old wide = λ part schema of before are.
    subst (AreHullsOf (part ++ filled_with schema points ∷ [])) (sym (ap (λ (l : List Hull). set l n new) is ∙ set_last front last new n (at_n ∙ ap length is)))
    (hull_widened part schema points front last new from to (of ∙ sym at_device) (subst (AreHullsOf part) is are) span (subst (λ (h : Hull). IsWidened h from to new) (sym same) wide))
  where
    same : last ≡ old
    same = sym (get_or_push front last old (length front) refl) ∙ ap (λ (m : ℕ). get_or (front ++ last ∷ []) m old) (omega (arith, at_n, ap length is, length-append front (last ∷ []))) ∙ ap (λ (l : List Hull). get_or l n old) (sym is) ∙ at_old

-- what a call does for all points of a span, it does for these
pub times_of_span : {T E : Type 0} (result : Result T E) (device : List ℕ) (points : List Point) (from to : ℤ) (old new : List Hull) → OnOk result ((points : List Point) → AreFrom points from to → AddsTimes device points old new) → AreFrom points from to
    → OnOk result (AddsTimes device points old new)
times_of_span (Ok x) device points from to old new all span = all points span
times_of_span (Err e) device points from to old new all span = tt
