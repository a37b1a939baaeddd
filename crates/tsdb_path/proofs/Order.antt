-- The order of names, and items that are put into it, each name once.
use Rattle.std.proofs.Common.{◌≡◌, ℕ, Bool, true, false, List, [], ◌∷◌, refl, sym, ap, subst, ◌∙◌, inl, inr, arith}
use Rattle.std.specs.Prelude.{◌&&◌, nat_eq}
use Rattle.std.specs.Cmp.{IsEquivalence, IsTotalOrder}
use Rattle.std.specs.Cmp.Lexicographic.{pointwise, slice_cmp, texts_ties}
use Rattle.std.specs.FinMap.{IsAntisymmetric, nat_cmp-IsAntisymmetric, slice_cmp-IsAntisymmetric}
use Rattle.std.specs.List.{AllByRecursion as Each, dedup}
use Rattle.std.specs.List.Sorted.{IsSorted, IsStrictlySortedBy}
use Rattle.std.specs.Ordering.{eq_by_cmp, is_eq, nat_cmp, ordering_reverse, ordering_then}
use Rattle.std.specs.declared.cmp.Ordering.{Ordering}
use Rattle.std.specs.declared.cmp.Ordering.TheVariants.{Less, Equal, Greater}
use Rattle.std.proofs.lemmas.Cmp.{and_equiv, nat_list_cmp_total, nat_list_eq_equiv, on_equiv, on_total, then_total, tied_itself}
use Rattle.std.proofs.lemmas.List.Kept.{IsStrictlySortedBy-dedup}
use Rattle.tsdb_path.specs.Nodes.{IsName, child_of, device_of}
use Rattle.tsdb_path.specs.Order.{AreInNameOrder, AreNamesBefore, joined_names, names_cmp}

abbrev pub Names : Type 0
Names = List ℕ × List ℕ

-- two lists of bytes that are tied are one
pub same_list : IsAntisymmetric (slice_cmp nat_cmp)
same_list = slice_cmp-IsAntisymmetric nat_cmp-IsAntisymmetric

-- ---- names by their order

pub cmp_before : (a b : Names) → names_cmp a b ≡ Less → AreNamesBefore a b
cmp_before a b less = by_device (slice_cmp nat_cmp a.0 b.0) refl less
  where
    by_device : (o : Ordering) → slice_cmp nat_cmp a.0 b.0 ≡ o → ordering_then o (slice_cmp nat_cmp a.1 b.1) ≡ Less
        → AreNamesBefore a b
    by_device Less is h = inl is
    by_device Equal is h = inr (same_list a.0 b.0 is, h)
    by_device Greater is h = absurd cc

pub before_cmp : (a b : Names) → AreNamesBefore a b → names_cmp a b ≡ Less
before_cmp a b (inl less) = ap (λ (o : Ordering). ordering_then o (slice_cmp nat_cmp a.1 b.1)) less
before_cmp a b (inr less) =
    let tie : slice_cmp nat_cmp a.0 b.0 ≡ Equal = subst (λ (n : List ℕ). slice_cmp nat_cmp a.0 n ≡ Equal) less.0
    (tied_itself nat_list_cmp_total a.0) in
    ap (λ (o : Ordering). ordering_then o (slice_cmp nat_cmp a.1 b.1)) tie ∙ less.1

pub cmp_same : (a b : Names) → names_cmp a b ≡ Equal → a ≡ b
cmp_same a b equal = by_device (slice_cmp nat_cmp a.0 b.0) refl equal
  where
    pair : List ℕ → List ℕ → Names
    pair d m = (d, m)

    both : (d e m n : List ℕ) → d ≡ e → m ≡ n → pair d m ≡ pair e n
    both d e m n p q = ap (λ (x : List ℕ). pair x m) p ∙ ap (λ (x : List ℕ). pair e x) q

    by_device : (o : Ordering) → slice_cmp nat_cmp a.0 b.0 ≡ o → ordering_then o (slice_cmp nat_cmp a.1 b.1) ≡ Equal
        → a ≡ b
    by_device Less is h = absurd cc
    by_device Equal is h = both a.0 b.0 a.1 b.1 (same_list a.0 b.0 is) (same_list a.1 b.1 h)
    by_device Greater is h = absurd cc

pub same_cmp : (a : Names) → names_cmp a a ≡ Equal
same_cmp a = ap (λ (o : Ordering). ordering_then o (slice_cmp nat_cmp a.1 a.1)) (tied_itself nat_list_cmp_total a.0)
    ∙ tied_itself nat_list_cmp_total a.1

pub not_itself : (a : Names) → AreNamesBefore a a → ⊥
not_itself a less = let both : Less ≡ Equal = sym (before_cmp a a less) ∙ same_cmp a in absurd cc

-- names that come behind have these before them
pub behind_before : (a b : Names) → names_cmp a b ≡ Greater → AreNamesBefore b a
behind_before a b greater = by_device (slice_cmp nat_cmp a.0 b.0) refl greater
  where
    turned : (x y : List ℕ) → slice_cmp nat_cmp x y ≡ Greater → slice_cmp nat_cmp y x ≡ Less
    turned x y h = nat_list_cmp_total.antisymm y x ∙ ap ordering_reverse h

    by_device : (o : Ordering) → slice_cmp nat_cmp a.0 b.0 ≡ o → ordering_then o (slice_cmp nat_cmp a.1 b.1) ≡ Greater
        → AreNamesBefore b a
    by_device Less is h = absurd cc
    by_device Equal is h = inr (sym (same_list a.0 b.0 is), turned a.1 b.1 h)
    by_device Greater is h = inl (turned a.0 b.0 is)

pub before_trans : (a b c : Names) → AreNamesBefore a b → AreNamesBefore b c → AreNamesBefore a c
before_trans a b c (inl x) (inl y) = inl (nat_list_cmp_total.trans a.0 b.0 c.0 x y)
before_trans a b c (inl x) (inr y) = inl (subst (λ (n : List ℕ). slice_cmp nat_cmp a.0 n ≡ Less) y.0 x)
before_trans a b c (inr x) (inl y) = inl (subst (λ (n : List ℕ). slice_cmp nat_cmp n c.0 ≡ Less) (sym x.0) y)
before_trans a b c (inr x) (inr y) = inr (x.0 ∙ y.0, nat_list_cmp_total.trans a.1 b.1 c.1 x.1 y.1)

-- ---- the names of a path

pub joined_is : (path device name : List ℕ) → device ≡ device_of path → child_of (device_of path) name ≡ path
    → IsName name → joined_names device name ≡ path
joined_is path device [] is again good = let some = good.node.some in absurd (omega (arith, some))
joined_is path device (byte ∷ name) is again good = ap (λ (d : List ℕ). child_of d (byte ∷ name)) is ∙ again

-- ---- items that were sorted by their names, and of which each name was kept once

both_tied : (a b : Bool) (x y : Ordering) → a ≡ is_eq x → b ≡ is_eq y → (a && b) ≡ is_eq (ordering_then x y)
both_tied a b Less y ea eb = rw ea refl
both_tied a b Equal y ea eb = rw ea eb
both_tied a b Greater y ea eb = rw ea refl

both_true : (a b : Bool) → (a && b) ≡ true → (a ≡ true) × (b ≡ true)
both_true true b is = (refl, is)
both_true false b is = absurd cc

pub text_same : (xs ys : List ℕ) → pointwise nat_eq xs ys ≡ true → xs ≡ ys
text_same xs ys is = same_list xs ys (equal (slice_cmp nat_cmp xs ys) (sym (texts_ties xs ys) ∙ is))
  where
    equal : (o : Ordering) → is_eq o ≡ true → o ≡ Equal
    equal Less is = absurd cc
    equal Equal is = refl
    equal Greater is = absurd cc

module _ {A : Type 0} (names : A → Names) where
  -- how two items stand by their names, and whether these are the same
  abbrev pub by_names : A → A → Ordering
  by_names a b = names_cmp (names a) (names b)

  abbrev pub same_names : A → A → Bool
  same_names a b = pointwise nat_eq (names a).0 (names b).0 && pointwise nat_eq (names a).1 (names b).1

  names_total : IsTotalOrder by_names
  names_total = then_total (on_total (λ (a : A). (names a).0) nat_list_cmp_total)
      (on_total (λ (a : A). (names a).1) nat_list_cmp_total)

  pub same_equiv : IsEquivalence same_names
  same_equiv = and_equiv (on_equiv (λ (a : A). (names a).0) nat_list_eq_equiv)
      (on_equiv (λ (a : A). (names a).1) nat_list_eq_equiv)

  names_tie : (a b : A) → same_names a b ≡ eq_by_cmp by_names a b
  names_tie a b = both_tied _ _ (slice_cmp nat_cmp (names a).0 (names b).0) (slice_cmp nat_cmp (names a).1 (names b).1)
      (texts_ties (names a).0 (names b).0) (texts_ties (names a).1 (names b).1)

  tree_order : (items : List A) → IsStrictlySortedBy by_names items → AreInNameOrder names items
  unfolding IsStrictlySortedBy
  tree_order [] sorted = tt
  tree_order (one ∷ items) sorted = (later items sorted.0, tree_order items sorted.1)
    where
      later : (others : List A) → Each (λ other. by_names one other ≡ Less) others
          → Each (λ other. AreNamesBefore (names one) (names other)) others
      later [] less = tt
      later (other ∷ others) less = (cmp_before (names one) (names other) less.0, later others less.1)

  pub sorted_once : (items : List A) → IsSorted by_names items → AreInNameOrder names (dedup same_names items)
  sorted_once items sorted = tree_order (dedup same_names items) (IsStrictlySortedBy-dedup names_total names_tie items sorted)

  pub names_same : (a b : A) → same_names a b ≡ true → ((names a).0 ≡ (names b).0) × ((names a).1 ≡ (names b).1)
  names_same a b same =
      let parts = both_true (pointwise nat_eq (names a).0 (names b).0) (pointwise nat_eq (names a).1 (names b).1) same in
      (text_same (names a).0 (names b).0 parts.0, text_same (names a).1 (names b).1 parts.1)
