-- Parts that each begin with a mark, one behind another, and then bytes that begin with another mark.
use Rattle.std.proofs.Common.{◌≡◌, ℕ, List, [], ◌∷◌, ◌++◌, ◌⊎◌, inl, inr, refl, sym, ap, ◌∙◌, subst, append_assoc}
use Rattle.std.specs.List.{flat_map, AllByRecursion}

-- the bytes begin with this one
abbrev pub Begins : ℕ → List ℕ → Type 0
Begins mark bytes = (rest : List ℕ) × (bytes ≡ mark ∷ rest)

pub begins_append : (mark : ℕ) (front behind : List ℕ) → Begins mark front → Begins mark (front ++ behind)
begins_append mark front behind b = (b.0 ++ behind, ap (λ (l : List ℕ). l ++ behind) b.1)

pub other_mark : (a b : ℕ) (bytes : List ℕ) → (a ≡ b → ⊥) → Begins a bytes → Begins b bytes → ⊥
other_mark a b bytes different x y =
    let both : a ∷ x.0 ≡ b ∷ y.0 = sym x.1 ∙ y.1 in
    let same : a ≡ b = cc in
    different same

-- parts that begin with a mark can be told apart where what follows begins with it too, or ends them
pub record AreMarked {A : Type 0} (part : A → List ℕ) (IsPart : A → Type 0) (mark : ℕ) (Ends : List ℕ → Type 0) : Type 0 where
  pub begins : (a : A) → Begins mark (part a)
  pub ends : (s : List ℕ) → Ends s → Begins mark s → ⊥
  pub free : (a b : A) (x y : List ℕ) → IsPart a → IsPart b → (Begins mark x ⊎ Ends x) → (Begins mark y ⊎ Ends y) → part a ++ x ≡ part b ++ y → (a ≡ b) × (x ≡ y)

follows : {A : Type 0} (part : A → List ℕ) (IsPart : A → Type 0) (mark : ℕ) (Ends : List ℕ → Type 0) (m : AreMarked part IsPart mark Ends) (xs : List A) (s : List ℕ) → Ends s
    → Begins mark (flat_map part xs ++ s) ⊎ Ends (flat_map part xs ++ s)
follows part IsPart mark Ends m [] s ends = inr ends
follows part IsPart mark Ends m (x ∷ xs) s ends = inl (begins_append mark (part x ++ flat_map part xs) s (begins_append mark (part x) (flat_map part xs) (m.begins x)))

pub marked_same : {A : Type 0} (part : A → List ℕ) (IsPart : A → Type 0) (mark : ℕ) (Ends : List ℕ → Type 0) (m : AreMarked part IsPart mark Ends) (xs ys : List A) (s t : List ℕ)
    → AllByRecursion IsPart xs → AllByRecursion IsPart ys → Ends s → Ends t → flat_map part xs ++ s ≡ flat_map part ys ++ t → (xs ≡ ys) × (s ≡ t)
marked_same part IsPart mark Ends m [] [] s t is_x is_y end_s end_t e = (refl, e)
marked_same part IsPart mark Ends m [] (y ∷ ys) s t is_x is_y end_s end_t e =
    absurd (m.ends s end_s (subst (λ l. Begins mark l) (sym e) (begins_append mark (part y ++ flat_map part ys) t (begins_append mark (part y) (flat_map part ys) (m.begins y)))))
marked_same part IsPart mark Ends m (x ∷ xs) [] s t is_x is_y end_s end_t e =
    absurd (m.ends t end_t (subst (λ l. Begins mark l) e (begins_append mark (part x ++ flat_map part xs) s (begins_append mark (part x) (flat_map part xs) (m.begins x)))))
marked_same part IsPart mark Ends m (x ∷ xs) (y ∷ ys) s t is_x is_y end_s end_t e =
    let parted : part x ++ (flat_map part xs ++ s) ≡ part y ++ (flat_map part ys ++ t) = sym (append_assoc (part x) (flat_map part xs) s) ∙ e ∙ append_assoc (part y) (flat_map part ys) t in
    let first = m.free x y (flat_map part xs ++ s) (flat_map part ys ++ t) is_x.0 is_y.0 (follows part IsPart mark Ends m xs s end_s) (follows part IsPart mark Ends m ys t end_t) parted in
    let others = marked_same part IsPart mark Ends m xs ys s t is_x.1 is_y.1 end_s end_t first.1 in
    let head : x ≡ y = first.0 in
    let tail : xs ≡ ys = others.0 in
    (cc, others.1)
