-- Whether a point survives, as a fact and as a test.
use Rattle.std.proofs.Common.{◌≡◌, ℕ, ℤ, Bool, true, false, List, [], ◌∷◌, refl, sym, ap, ◌∙◌, arith}
use Rattle.std.proofs.lemmas.Int.{ints}
use Rattle.std.specs.Prelude.{◌&&◌, ◌≤ℤ◌, ◌↔◌, IsTrue, int_le, nat_lt, not}
use Rattle.std.proofs.lemmas.Bool.{lt-ltb, ltb-true}
use Rattle.std.proofs.lemmas.List.Elements.{All-cons, All-head, All-nil, All-tail}
use Rattle.tsdb_base.specs.declared.point.Point.{Point}
use Rattle.tsdb_base.specs.declared.point.Range.{Range}
use Rattle.tsdb_streams.specs.KeptPoints.{is_kept}
use Rattle.tsdb_state.proofs.LayerLemmas.Places.{is_path_same, path_itself}
use Rattle.tsdb_state.specs.Marks.{is_over, survives}
use Rattle.tsdb_state.specs.Places.{is_path}
use Rattle.tsdb_model.specs.World.{is_in}
use Rattle.tsdb_marks.specs.Survival.{Covers, Survives}
use Rattle.tsdb_marks.specs.declared.marks.Mark.{Mark}
use Rattle.tsdb_streams.specs.Survivors.{place_at as at}

le_of : (a b : ℤ) → int_le a b ≡ true → a ≤ℤ b
le_of a b e = grind (arith, ints)

le_test : (a b : ℤ) → a ≤ℤ b → int_le a b ≡ true
le_test a b low = grind (arith, ints)

both : (a b : Bool) → (a && b) ≡ true → (a ≡ true) × (b ≡ true)
both true b e = (refl, e)
both false b e = absurd cc

-- the mark covers the point
covered : (mark : Mark) (path : List ℕ) (time : ℤ) (born : ℕ) → (is_over mark (at path time) && nat_lt born mark.version.0) ≡ true → Covers mark path time born
covered mark path time born e =
    let one = both (is_over mark (at path time)) (nat_lt born mark.version.0) e in
    let over = both (is_path mark.path path) (int_le mark.from time && int_le time mark.to) one.0 in
    let times = both (int_le mark.from time) (int_le time mark.to) over.1 in
    record {
      path = is_path_same mark.path path over.0;
      from = le_of mark.from time times.0;
      to = le_of time mark.to times.1;
      newer = ltb-true born mark.version.0 one.1;
    }

covers : (mark : Mark) (path : List ℕ) (time : ℤ) (born : ℕ) → Covers mark path time born → (is_over mark (at path time) && nat_lt born mark.version.0) ≡ true
covers mark path time born c =
    rw (ap (λ p. is_path mark.path p) (sym c.path) ∙ path_itself mark.path, le_test mark.from time c.from, le_test time mark.to c.to, lt-ltb born mark.version.0 c.newer) refl

-- the test says whether the point survives
pub survives_test : (marks : List Mark) (path : List ℕ) (time : ℤ) (born : ℕ) → (survives marks (at path time) born ≡ true) ↔ Survives marks path time born
survives_test [] path time born = (λ _. All-nil (λ mark. ¬ Covers mark path time born), λ _. refl)
survives_test (mark ∷ marks) path time born =
    let P : Mark → Type 0 = λ mark. ¬ Covers mark path time born in
    let rest = survives_test marks path time born in
    let here = is_over mark (at path time) && nat_lt born mark.version.0 in (
      λ e. let parts = both (not here) (survives marks (at path time) born) e in All-cons P mark marks (λ c. clash here (covers mark path time born c) parts.0) (rest.0 parts.1),
      λ all. joins here (survives marks (at path time) born) (λ yes_here. All-head P mark marks all (covered mark path time born yes_here)) (rest.1 (All-tail P mark marks all)),
    )
  where
    clash : (b : Bool) → b ≡ true → not b ≡ true → ⊥
    clash true e f = cc
    clash false e f = cc

    joins : (b c : Bool) → (b ≡ true → ⊥) → c ≡ true → (not b && c) ≡ true
    joins true c none e = absurd (none refl)
    joins false c none e = e

-- two tests of one fact are the same
pub same_tests : {F : Type 0} (a b : Bool) → (IsTrue a ↔ F) → (b ≡ true) ↔ F → a ≡ b
same_tests true true one two = refl
same_tests false false one two = refl
same_tests true false one two = absurd (let e = two.1 (one.0 refl) in cc)
same_tests false true one two = absurd (let e = one.1 (two.0 refl) in cc)

-- the point is in the range, and it survives as the test says
pub kept_inside : (path : List ℕ) (range : Range) (marks : List Mark) (born : ℕ) (point : Point) (time : ℤ) (inside test : Bool) → time ≡ point.time → inside ≡ is_in range time → inside ≡ true → (IsTrue test ↔ Survives marks path time born)
    → test ≡ is_kept path range marks born point
kept_inside path range marks born point time inside test same is yes_inside says =
    let e : is_in range time ≡ true = sym is ∙ yes_inside in
    let s = same_tests test _ says (survives_test marks path time born) in
    s ∙ sym (ap (λ b. b && survives marks (at path time) born) e) ∙ ap (λ t. is_in range t && survives marks (at path t) born) same
