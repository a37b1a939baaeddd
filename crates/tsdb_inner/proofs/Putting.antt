-- The points of a stream, put behind the first point of a series.
use Rattle.std.proofs.Common.{◌≡◌, ℕ, suc, ℤ, ◌+◌, ◌<◌, inl, inr, List, [], ◌∷◌, ◌++◌, length, get_or, Option, None, Some, refl}
use Rattle.std.proofs.Common.{sym, ap, subst, ◌∙◌, append_assoc, arith}
use Rattle.std.specs.Prelude.{◌<ℤ◌, ◌≤ℤ◌, AllPairs}
use Rattle.std.proofs.lemmas.Int.{ints}
use Rattle.std.proofs.lemmas.List.{append-nil, get_or_append_left, length-append}
use Rattle.std.proofs.lemmas.List.Elements.{All-from_recursion}
use Rattle.std.proofs.lemmas.List.Quantifiers.{all_pairs_push}
use Rattle.std.proofs.Math.Seq.{get_or-append_seam}
use Rattle.tsdb_base.specs.Values.{type_of}
use Rattle.tsdb_base.specs.declared.point.Point.{Point}
use Rattle.tsdb_flush.specs.Making.{IsSeriesOpen, IsPartInMaking, MayPut}
use Rattle.tsdb_flush.specs.MakingSteps.{AreFrom, filled_with}
use Rattle.tsdb_flush.specs.declared.part.PartBuilder.{PartBuilder}
use Rattle.tsdb_inner.specs.Copies.{AreOfType, AreToldPoints}
use Rattle.tsdb_inner.specs.Steps.{HasBegun, HaveBrokenOrder, MayFollowPoint, PutsSeries}
use Rattle.tsdb_flush.specs.Parts.{Filled}
use Rattle.tsdb_base.proofs.Lists.{among_left, among_right, each_append, each_middle, each_weaker}
use Rattle.tsdb_base.specs.Lists.{Among}
use Rattle.tsdb_model.specs.declared.command.Schema.{Schema}
use Rattle.tsdb_base.specs.Points.{IsRising}
use Rattle.tsdb_merge.specs.Winners.{TakesTold}

-- ---- what is taken of a stream

-- these points were taken, and what is left is told where all were
pub record Drains (first now : Option (List Point)) (points : List Point) : Type 0 where
  pub rest : (all : List Point) → first ≡ Some all → (left : List Point) × (now ≡ Some left) × (all ≡ points ++ left)

pub drains_none : (first : Option (List Point)) → Drains first first []
drains_none first = record { rest = λ all is. (all, is, refl) }

pub takes_one : (now next : Option (List Point)) (left : List Point) (point : Point) → now ≡ Some left
    → TakesTold now (Some point) next → (rest : List Point) × (next ≡ Some rest) × (left ≡ point ∷ rest)
takes_one None next left point is takes = absurd cc
takes_one (Some before) None left point is takes = absurd takes
takes_one (Some before) (Some rest) left point is takes = let same : before ≡ left = cc in (rest, refl, sym same ∙ takes)

takes_none : (now next : Option (List Point)) (left : List Point) → now ≡ Some left → TakesTold now None next → left ≡ []
takes_none None next left is takes = absurd cc
takes_none (Some before) None left is takes = absurd takes
takes_none (Some before) (Some rest) left is takes = let same : before ≡ left = cc in sym same ∙ takes.0

pub drains_more : (first now next : Option (List Point)) (points : List Point) (taken : Option Point) (point : Point)
    → taken ≡ Some point → Drains first now points → TakesTold now taken next → Drains first next (points ++ point ∷ [])
drains_more first now next points taken point some was takes = record {
  rest = λ all is.
      let old = was.rest all is in
      let new = takes_one now next old.0 point old.1 (subst (λ t. TakesTold now t next) some takes) in
      (new.0, new.1, old.2 ∙ ap (λ l. points ++ l) new.2 ∙ sym (append_assoc points (point ∷ []) new.0));
}

-- all points were taken
pub all_taken : (first now next : Option (List Point)) (points : List Point) (taken : Option Point) → taken ≡ None
    → Drains first now points → TakesTold now taken next → AreToldPoints first points
all_taken first now next points taken none was takes all is =
    let old = was.rest all is in
    let end = takes_none now next old.0 old.1 (subst (λ t. TakesTold now t next) none takes) in
    sym (old.2 ∙ ap (λ l. points ++ l) end ∙ append-nil points)

-- ---- points that rise

not_later : (a b : ℤ) → a ≡ b → a ≤ℤ b
not_later a b same = grind (arith, ints)

later_than : (a b c : ℤ) → a ≤ℤ b → b <ℤ c → a <ℤ c
later_than a b c before after = grind (arith, ints)

no_later : (a b c : ℤ) → a ≤ℤ b → b <ℤ c → a ≤ℤ c
no_later a b c before after = grind (arith, ints)

at_most : (a b c : ℤ) → a ≤ℤ b → b ≤ℤ c → a ≤ℤ c
at_most a b c before after = grind (arith, ints)

-- an element stands at a place
placed : {X : Type 0} (x : X) (xs : List X) → Among x xs → (k : ℕ) × (k < length xs) × ((d : X) → get_or xs k d ≡ x)
placed x [] among = absurd among
placed x (y ∷ ys) (inl is) = (0, omega arith, λ d. is)
placed x (y ∷ ys) (inr among) =
    let rest = placed x ys among in
    let lt = rest.1 in (suc rest.0, omega (arith, lt), λ d. rest.2 d)

-- of pairs around an element, one of those before it with this one
pair_at : {X : Type 0} (R : X → X → Type 0) (xs : List X) (y : X) (ys : List X) (x : X) → AllPairs R (xs ++ y ∷ ys)
    → Among x xs → R x y
pair_at R xs y ys x pairs among =
    let at = placed x xs among in
    let lt = at.1 in
    let long = length-append xs (y ∷ ys) in
    subst (λ z. R z y) (get_or_append_left xs (y ∷ ys) y at.0 lt ∙ at.2 y)
    (subst (R (get_or (xs ++ y ∷ ys) at.0 y)) (get_or-append_seam xs y ys y)
    (pairs at.0 (length xs) y lt (omega (arith, long))))

-- ---- the state of the loop

-- the series was given these points behind its first, up to the one at the time
pub record IsPutting (schema : Schema) (from to : ℤ) (count : ℕ) (old new : PartBuilder) (rest : List Point) : Type 0 where
  pub counted : length rest + 1 ≡ count
  pub is_open : (before : List Filled) (first : Point) → first.time ≡ from → IsSeriesOpen before schema (first ∷ []) old
      → IsSeriesOpen before schema (first ∷ rest) new
  pub spans : (first : Point) → first.time ≡ from → AreFrom (first ∷ rest) from to
  pub rising : (first : Point) → first.time ≡ from → IsRising (first ∷ rest)

pub none_rise : IsRising []
none_rise i j d before within = absurd (omega (arith, before, within))

one_rises : (point : Point) → IsRising (point ∷ [])
one_rises point i j d before within = absurd (omega (arith, before, within))

pub putting_none : (schema : Schema) (from : ℤ) (part : PartBuilder) → IsPutting schema from from 1 part part []
putting_none schema from part = record {
  counted = refl;
  is_open = λ before first at is. is;
  spans = λ first at. record {
    between = ((not_later from first.time (sym at), not_later first.time from at), tt);
    first = first;
    has_first = inl refl;
    at_first = at;
    last = first;
    has_last = inl refl;
    at_last = at;
  };
  rising = λ first at. one_rises first;
}

module _ (schema : Schema) (from to : ℤ) (count : ℕ) (old now : PartBuilder) (rest : List Point)
    (is : IsPutting schema from to count old now rest) where
  pub may_put : (begun_at : ℤ) → begun_at ≡ from → HasBegun schema begun_at old → (point : Point)
      → MayFollowPoint to schema point → MayPut point now
  may_put begun_at same begun point may = record {
    part = begun.before;
    schema = schema;
    points = begun.first ∷ rest;
    is = is.is_open begun.before begun.first (begun.at ∙ same) begun.is;
    may = record {
      typed = may.1;
      later = All-from_recursion (λ before. before.time <ℤ point.time) (begun.first ∷ rest)
          (each_weaker (λ (p : Point). (from ≤ℤ p.time) × (p.time ≤ℤ to)) (λ p. p.time <ℤ point.time)
          (λ p between. later_than p.time to point.time between.1 may.0) (begun.first ∷ rest)
          (is.spans begun.first (begun.at ∙ same)).between);
    };
  }

  pub putting_more : (new : PartBuilder) (point : Point) (next : ℤ) → next ≡ point.time → MayFollowPoint to schema point
      → ((part : List Filled) (schema : Schema) (points : List Point) → IsSeriesOpen part schema points now
      → IsSeriesOpen part schema (points ++ point ∷ []) new)
      → IsPutting schema from next (count + 1) old new (rest ++ point ∷ [])
  putting_more new point next at may put = record {
    counted = let old_count = is.counted in let long = length-append rest (point ∷ []) in omega (arith, old_count, long);
    is_open = λ before first begun was. put before schema (first ∷ rest) (is.is_open before first begun was);
    spans = λ first begun.
        let was = is.spans first begun in record {
          between = each_append (λ (p : Point). (from ≤ℤ p.time) × (p.time ≤ℤ next)) (first ∷ rest) (point ∷ [])
              (each_weaker (λ (p : Point). (from ≤ℤ p.time) × (p.time ≤ℤ to))
              (λ (p : Point). (from ≤ℤ p.time) × (p.time ≤ℤ next))
              (λ p between. (between.0, subst (λ t. p.time ≤ℤ t) (sym at) (no_later p.time to point.time between.1 may.0)))
              (first ∷ rest) was.between) (
                (
                  no_later from to point.time (at_most from first.time to was.between.0.0 was.between.0.1) may.0,
                  not_later point.time next (sym at),
                ),
                tt,
              );
          first = was.first;
          has_first = among_left (first ∷ rest) (point ∷ []) was.first was.has_first;
          at_first = was.at_first;
          last = point;
          has_last = among_right (first ∷ rest) (point ∷ []) point (inl refl);
          at_last = sym at;
        };
    rising = λ first begun. all_pairs_push (λ a b. a.time <ℤ b.time) (first ∷ rest) point (is.rising first begun)
        (λ k d below. later_than (get_or (first ∷ rest) k d).time to point.time
        (All-from_recursion (λ (p : Point). (from ≤ℤ p.time) × (p.time ≤ℤ to)) (first ∷ rest)
        (is.spans first begun).between k d below).1 may.0);
  }

  -- the series may be ended
  pub is_whole : (begun_at : ℤ) → begun_at ≡ from → HasBegun schema begun_at old → (part : List Filled)
      × (points : List Point) × IsSeriesOpen part schema points now × (length points ≡ count) × AreFrom points from to
  is_whole begun_at same begun =
      let counted = is.counted in (
        begun.before,
        begun.first ∷ rest,
        is.is_open begun.before begun.first (begun.at ∙ same) begun.is,
        omega (arith, counted),
        is.spans begun.first (begun.at ∙ same),
      )

  pub puts : (new : PartBuilder) (begun_at : ℤ) → begun_at ≡ from
      → ((part : List Filled) (points : List Point) → IsSeriesOpen part schema points now → length points ≡ count
      → AreFrom points from to → IsPartInMaking (part ++ filled_with schema points ∷ []) new)
      → PutsSeries schema begun_at rest old new
  puts new begun_at same end =
      let counted = is.counted in record {
        ok = λ before first at was. end before (first ∷ rest) (is.is_open before first (at ∙ same) was)
            (omega (arith, counted)) (is.spans first (at ∙ same));
        rising = λ first at. is.rising first (at ∙ same);
      }

  -- a point that may not follow breaks the order of the list
  pub broken : (begun_at : ℤ) → begun_at ≡ from → (point : Point) → (MayFollowPoint to schema point → ⊥)
      → (first_left left next : Option (List Point)) (taken : Option Point) → taken ≡ Some point
      → Drains first_left left rest → TakesTold left taken next → HaveBrokenOrder schema begun_at first_left
  broken begun_at same point not first_left left next taken some drains takes all first told at rising typed =
      let old = drains.rest all told in
      let new = takes_one left next old.0 point old.1 (subst (λ t. TakesTold left t next) some takes) in
      let split : all ≡ rest ++ point ∷ new.0 = old.2 ∙ ap (λ l. rest ++ l) new.2 in
      let span = is.spans first (at ∙ same) in
      let later = pair_at (λ (a b : Point). a.time <ℤ b.time) (first ∷ rest) point new.0 span.last
      (subst (λ l. IsRising (first ∷ l)) split rising) span.has_last in
      not (
        subst (λ t. t <ℤ point.time) span.at_last later,
        each_middle (λ (p : Point). type_of p.value ≡ schema.data_type) rest point new.0 (subst (AreOfType schema) split typed),
      )
