-- Counts of two trees together, and points read ahead.
use Rattle.std.proofs.Common.{◌≡◌, ℕ, List, [], ◌∷◌, ◌++◌, Result, Ok, Err, inl, inr, refl, ◌≤◌, arith}
use Rattle.tsdb_base.specs.declared.point.Point.{Point}
use Rattle.tsdb_merge.specs.declared.points.PullFault.{PullFault}
use Rattle.tsdb_merge.specs.declared.points.PullFault.TheVariants.{Failed, Damaged, Memory}
use Rattle.tsdb_base.specs.Causes.{Rose}
use Rattle.tsdb_merge.specs.Causes.{SomeRose, NoneFell, SomeHasRisen}
use Rattle.tsdb_merge.specs.Causes.{HasSomeCause}
use Rattle.tsdb_merge.specs.Steps.{merge_two}

pub none_fell : (ns : List ℕ) → NoneFell ns ns
none_fell [] = tt
none_fell (n ∷ ns) = (omega arith, none_fell ns)

pub none_fell_both : (ar bs cs ds : List ℕ) → NoneFell ar bs → NoneFell cs ds → NoneFell (ar ++ cs) (bs ++ ds)
none_fell_both [] [] cs ds h k = k
none_fell_both [] (b ∷ bs) cs ds h k = absurd h
none_fell_both (a ∷ ar) [] cs ds h k = absurd h
none_fell_both (a ∷ ar) (b ∷ bs) cs ds h k = (h.0, none_fell_both ar bs cs ds h.1 k)

pub none_fell_then : (ar bs cs : List ℕ) → NoneFell ar bs → NoneFell bs cs → NoneFell ar cs
none_fell_then [] [] [] h k = tt
none_fell_then [] [] (c ∷ cs) h k = absurd k
none_fell_then [] (b ∷ bs) cs h k = absurd h
none_fell_then (a ∷ ar) [] cs h k = absurd h
none_fell_then (a ∷ ar) (b ∷ bs) [] h k = absurd k
none_fell_then (a ∷ ar) (b ∷ bs) (c ∷ cs) h k = (let l = h.0 in let m = k.0 in omega (arith, l, m), none_fell_then ar bs cs h.1 k.1)

rose_later : (a b c : ℕ) → a ≤ b → Rose b c → Rose a c
rose_later a b c l r = omega (arith, l, r)

some_rose_later : (ar bs cs : List ℕ) → NoneFell ar bs → SomeRose bs cs → SomeRose ar cs
some_rose_later [] [] cs h r = r
some_rose_later [] (b ∷ bs) cs h r = absurd h
some_rose_later (a ∷ ar) [] cs h r = absurd h
some_rose_later (a ∷ ar) (b ∷ bs) [] h r = absurd r
some_rose_later (a ∷ ar) (b ∷ bs) (c ∷ cs) h (inl r) = inl (rose_later a b c h.0 r)
some_rose_later (a ∷ ar) (b ∷ bs) (c ∷ cs) h (inr r) = inr (some_rose_later ar bs cs h.1 r)

has_risen_later : (fault : PullFault) (f g h d e k : List ℕ) → NoneFell f g → NoneFell d e → SomeHasRisen fault g h e k → SomeHasRisen fault f h d k
has_risen_later Failed f g h d e k fine good rose = some_rose_later f g h fine rose
has_risen_later (Damaged at) f g h d e k fine good rose = some_rose_later d e k good rose
has_risen_later Memory f g h d e k fine good rose = tt

-- a call that met no fault, and then one that may have
pub cause_then : {S T : Type 0} (f g h d e k : List ℕ) (x : S) (result : Result T PullFault) → HasSomeCause {T = S} f g d e (Ok x) → HasSomeCause {T = T} g h e k result → HasSomeCause {T = T} f h d k result
cause_then f g h d e k x (Ok y) one two = record {
  failures_later = none_fell_then f g h one.failures_later two.failures_later;
  damages_later = none_fell_then d e k one.damages_later two.damages_later;
  fault = tt;
}
cause_then f g h d e k x (Err fault) one two = record {
  failures_later = none_fell_then f g h one.failures_later two.failures_later;
  damages_later = none_fell_then d e k one.damages_later two.damages_later;
  fault = has_risen_later fault f g h d e k one.failures_later one.damages_later two.fault;
}

pub cause_none : {T : Type 0} (f d : List ℕ) (x : T) → HasSomeCause {T = T} f f d d (Ok x)
cause_none f d x = record { failures_later = none_fell f; damages_later = none_fell d; fault = tt }

-- the same faults, whatever else a call returns
pub cause_ok : {S T : Type 0} (f g d e : List ℕ) (x : S) (y : T) → HasSomeCause {T = S} f g d e (Ok x) → HasSomeCause {T = T} f g d e (Ok y)
cause_ok f g d e x y h = record { failures_later = h.failures_later; damages_later = h.damages_later; fault = tt }

-- nothing comes behind the end of the other list
pub merge_two-nil : (xs : List Point) → merge_two xs [] ≡ xs
merge_two-nil [] = refl
merge_two-nil (x ∷ xs) = refl
