-- Marks under several tests of versions.
use Rattle.std.proofs.Common.{◌≡◌, ℕ, ◌≤◌, Bool, true, false, cond, List, [], ◌∷◌, ◌++◌, refl, sym, ap, ◌∙◌, arith}
use Rattle.std.specs.Prelude.{◌&&◌, ◌||◌, not, nat_lt, None}
use Rattle.std.specs.List.{AllByRecursion as Each, filter}
use Rattle.std.proofs.lemmas.Bool.{false≢true}
use Rattle.std.proofs.lemmas.Bool.Decides.{nat_tests}
use Rattle.tsdb_base.proofs.Lists.{each_all, each_weaker}
use Rattle.tsdb_state.specs.Layers.{Layer, survivor}
use Rattle.tsdb_state.specs.Marks.{is_clear, is_over, survives}
use Rattle.tsdb_state.specs.Places.{PointPlace}
use Rattle.tsdb_marks.specs.declared.marks.Mark.{Mark}

-- a test that holds wherever another does adds nothing to it
pub absorbed : (a b : Bool) → (b ≡ true → a ≡ true) → (a && b) ≡ b
absorbed true b follows = refl
absorbed false true follows = absurd (false≢true (follows refl))
absorbed false false follows = refl

pub second_true : (a b : Bool) → (a && b) ≡ true → b ≡ true
second_true true b e = e
second_true false b e = absurd (false≢true e)

-- tests that agree at the versions of the marks
pub clear_same : (test other : ℕ → Bool) (marks : List Mark) (place : PointPlace)
    → Each (λ mark. test mark.version.0 ≡ other mark.version.0) marks
    → is_clear test marks place ≡ is_clear other marks place
clear_same test other [] place same = refl
clear_same test other (mark ∷ marks) place same =
    let rest = clear_same test other marks place same.1 in
    λ i. not (is_over mark place && same.0 i) && rest i

pub clear_alike : (test other : ℕ → Bool) (marks : List Mark) (place : PointPlace) → ((version : ℕ)
    → test version ≡ other version)
    → is_clear test marks place ≡ is_clear other marks place
clear_alike test other marks place same =
    clear_same test other marks place (each_all _ (λ mark. same mark.version.0) marks)

-- the marks that a filter drops count no longer
pub clear_filter : (test kept : ℕ → Bool) (marks : List Mark) (place : PointPlace)
    → is_clear test (filter (λ mark. kept mark.version.0) marks) place
    ≡ is_clear (λ version. kept version && test version) marks place
clear_filter test kept [] place = refl
clear_filter test kept (mark ∷ marks) place = by (kept mark.version.0) (filter (λ mark. kept mark.version.0) marks)
    (is_clear (λ version. kept version && test version) marks place) (clear_filter test kept marks place)
  where
    none : (a : Bool) → not (a && false) ≡ true
    none true = refl
    none false = refl

    by : (b : Bool) (dropped : List Mark) (rest : Bool) → is_clear test dropped place ≡ rest
        → is_clear test (cond b (mark ∷ dropped) dropped) place
        ≡ (not (is_over mark place && (b && test mark.version.0)) && rest)
    by true dropped rest e = ap (λ r. not (is_over mark place && test mark.version.0) && r) e
    by false dropped rest e = e ∙ ap (λ b. b && rest) (sym (none (is_over mark place)))

-- to be clear under either test is to be clear under both
pub clear_either : (test other : ℕ → Bool) (marks : List Mark) (place : PointPlace)
    → is_clear (λ version. test version || other version) marks place
    ≡ (is_clear test marks place && is_clear other marks place)
clear_either test other [] place = refl
clear_either test other (mark ∷ marks) place =
    ap (λ r. not (is_over mark place && (test mark.version.0 || other mark.version.0)) && r)
    (clear_either test other marks place)
    ∙ by (is_over mark place) (test mark.version.0) (other mark.version.0) (is_clear test marks place)
    (is_clear other marks place)
  where
    by : (o a b r s : Bool) → (not (o && (a || b)) && (r && s)) ≡ ((not (o && a) && r) && (not (o && b) && s))
    by false a b r s = refl
    by true true b r s = refl
    by true false true true s = refl
    by true false true false s = refl
    by true false false r s = refl

pub clear_append : (test : ℕ → Bool) (marks others : List Mark) (place : PointPlace)
    → is_clear test (marks ++ others) place ≡ (is_clear test marks place && is_clear test others place)
clear_append test [] others place = refl
clear_append test (mark ∷ marks) others place =
    ap (λ r. not (is_over mark place && test mark.version.0) && r) (clear_append test marks others place)
    ∙ by (not (is_over mark place && test mark.version.0)) (is_clear test marks place) (is_clear test others place)
  where
    by : (a b c : Bool) → (a && (b && c)) ≡ ((a && b) && c)
    by true b c = refl
    by false b c = refl

-- a mark whose version fails the test does not count
pub clear_none : (test : ℕ → Bool) (marks : List Mark) (place : PointPlace)
    → Each (λ mark. test mark.version.0 ≡ false) marks
    → is_clear test marks place ≡ true
clear_none test [] place fail = refl
clear_none test (mark ∷ marks) place fail =
    (λ i. not (is_over mark place && fail.0 i) && clear_none test marks place fail.1 i)
    ∙ by (is_over mark place)
  where
    by : (a : Bool) → (not (a && false) && true) ≡ true
    by true = refl
    by false = refl

-- what is as new as all marks survives
pub newest_survives : (marks : List Mark) (place : PointPlace) (born : ℕ) → Each (λ mark. mark.version.0 ≤ born) marks
    → survives marks place born ≡ true
newest_survives marks place born old = clear_none _ _ _ (each_weaker _ _ (λ mark h. low mark.version.0 born h) _ old)
  where
    low : (a b : ℕ) → a ≤ b → nat_lt b a ≡ false
    low a b h = grind (arith, nat_tests)

-- the survivor is the layer's value where no mark is newer
pub newest_survivor : (marks : List Mark) (place : PointPlace) (layer : Layer)
    → Each (λ mark. mark.version.0 ≤ layer.born) marks
    → survivor marks place layer ≡ Rattle.std.specs.FinMap.get layer.content place
newest_survivor marks place layer old =
    ap (λ b. cond b (Rattle.std.specs.FinMap.get layer.content place) None) (newest_survives _ _ _ old)
