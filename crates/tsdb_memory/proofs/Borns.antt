-- A purge by the least born is the purge by all borns.
use Rattle.std.proofs.Common.{◌≡◌, ℕ, ◌≤◌, inl, inr, Bool, true, false, cond, List, [], ◌∷◌, ◌++◌, map, Option}
use Rattle.std.proofs.Common.{Some, None, refl, sym, ap, subst, ◌∙◌, arith, nat_lt}
use Rattle.std.specs.Prelude.{◌||◌}
use Rattle.std.specs.List.{AllByRecursion as Each, AllZip, filter, list_any}
use Rattle.std.proofs.lemmas.Bool.Decides.{nat_tests}
use Rattle.std.proofs.lemmas.List.{append-nil, append_assoc}
use Rattle.tsdb_base.specs.declared.ids.Stamp.{Stamp}
use Rattle.tsdb_base.specs.Lists.{Among}
use Rattle.tsdb_state.specs.Marks.{is_any_older, purge}
use Rattle.tsdb_model.specs.declared.command.Schema.{Schema}
use Rattle.tsdb_marks.specs.Lists.{is_newer_than, purge_list}
use Rattle.tsdb_marks.specs.declared.marks.Mark.{Mark}
use Rattle.tsdb_memory.specs.Least.{IsLeastOf, least_with, lesser_born}
use Rattle.tsdb_memory.specs.StateOfMemory.{IsFrozenOf}
use Rattle.tsdb_memory.specs.Store as store
use Rattle.tsdb_state.specs.State.{FrozenContent}

all_newer : (least version : ℕ) (borns : List ℕ) → Each (λ born. least ≤ born) borns
    → nat_lt least version ≡ false → list_any (λ born. nat_lt born version) borns ≡ false
all_newer least version [] low e = refl
all_newer least version (b ∷ borns) low e =
    ap (λ t. t || list_any (λ born. nat_lt born version) borns) (at_least b low.0)
    ∙ all_newer least version borns low.1 e
  where
    at_least : (b : ℕ) → least ≤ b → nat_lt b version ≡ false
    at_least b h = grind (arith, nat_tests)

one_older : (least version : ℕ) (borns : List ℕ) → Among least borns
    → nat_lt least version ≡ true → list_any (λ born. nat_lt born version) borns ≡ true
one_older least version [] among e = absurd among
one_older least version (b ∷ borns) (inl is) e =
    ap (λ n. nat_lt n version || list_any (λ born. nat_lt born version) borns) is
    ∙ ap (λ t. t || list_any (λ born. nat_lt born version) borns) e
one_older least version (b ∷ borns) (inr among) e =
    ap (λ t. nat_lt b version || t) (one_older least version borns among e) ∙ either (nat_lt b version)
  where
    either : (t : Bool) → (t || true) ≡ true
    either true = refl
    either false = refl

pub filter_same : {X : Type 0} (p q : X → Bool) (xs : List X) → ((x : X) → p x ≡ q x) → filter p xs ≡ filter q xs
filter_same p q [] same = refl
filter_same p q (x ∷ xs) same = λ i. cond (same x i) (x ∷ filter_same p q xs same i) (filter_same p q xs same i)

none_stays : (marks : List Mark) → filter (is_any_older []) marks ≡ []
none_stays [] = refl
none_stays (mark ∷ marks) = none_stays marks

pub purge_least : (least : Option Stamp) (borns : List ℕ) (marks : List Mark) → IsLeastOf least borns
    → purge_list least marks ≡ purge borns marks
purge_least None borns marks is = subst (λ bs. [] ≡ purge bs marks) (sym is) (sym (none_stays marks))
purge_least (Some least) borns marks is =
    filter_same (is_newer_than least.0) (is_any_older borns) marks
    (λ mark. by mark.version.0 (nat_lt least.0 mark.version.0) refl)
  where
    by : (version : ℕ) (b : Bool) → nat_lt least.0 version ≡ b
        → nat_lt least.0 version ≡ list_any (λ born. nat_lt born version) borns
    by version true e = e ∙ sym (one_older least.0 version borns is.0 e)
    by version false e = e ∙ sym (all_newer least.0 version borns is.1 e)

-- the borns of the frozen pairs are those of the state
pub frozen_borns : (series : List Schema) (frozen : List store.FrozenPair) (shown : List FrozenContent)
    → AllZip (IsFrozenOf series) frozen shown → map (λ pair. pair.born) shown ≡ map (λ pair. pair.born) frozen
frozen_borns series [] [] is = refl
frozen_borns series [] (s ∷ shown) is = absurd is
frozen_borns series (f ∷ frozen) [] is = absurd is
frozen_borns series (f ∷ frozen) (s ∷ shown) is =
    let first = is.0.born in
    let rest = frozen_borns series frozen shown is.1 in
    λ i. first i ∷ rest i

-- the least of some borns and one more

itself : (n : ℕ) → n ≤ n
itself n = omega arith

lower : (a b : ℕ) (borns : List ℕ) → a ≤ b → Each (λ born. b ≤ born) borns → Each (λ born. a ≤ born) borns
lower a b [] h low = tt
lower a b (x ∷ borns) h low = (omega (arith, h, low.0), lower a b borns h low.1)

among_left : (n : ℕ) (xs ys : List ℕ) → Among n xs → Among n (xs ++ ys)
among_left n [] ys among = absurd among
among_left n (x ∷ xs) ys (inl is) = inl is
among_left n (x ∷ xs) ys (inr among) = inr (among_left n xs ys among)

among_last : (n : ℕ) (xs : List ℕ) → Among n (xs ++ n ∷ [])
among_last n [] = inl refl
among_last n (x ∷ xs) = inr (among_last n xs)

each_push : (P : ℕ → Type 0) (xs : List ℕ) (x : ℕ) → Each P xs → P x → Each P (xs ++ x ∷ [])
each_push P [] x all one = (one, tt)
each_push P (y ∷ xs) x all one = (all.0, each_push P xs x all.1 one)

pub least_push : (least : Option Stamp) (borns : List ℕ) (born : ℕ) → IsLeastOf least borns
    → IsLeastOf (Some (lesser_born least born)) (borns ++ born ∷ [])
least_push None borns born is =
    subst (λ bs. IsLeastOf (Some (record { 0 = born })) (bs ++ born ∷ [])) (sym is) (inl refl, (itself born, tt))
least_push (Some least) borns born is = by (nat_lt born least.0) refl
  where
    below : (a b : ℕ) → nat_lt a b ≡ true → a ≤ b
    below a b e = grind (arith, nat_tests)

    above : (a b : ℕ) → nat_lt a b ≡ false → b ≤ a
    above a b e = grind (arith, nat_tests)

    by : (b : Bool) → nat_lt born least.0 ≡ b
        → IsLeastOf (Some (cond b (record { 0 = born }) least)) (borns ++ born ∷ [])
    by true e = (
      among_last born borns,
      each_push (λ n. born ≤ n) borns born (lower born least.0 borns (below born least.0 e) is.1) (itself born),
    )
    by false e = (
      among_left least.0 borns (born ∷ []) is.0,
      each_push (λ n. least.0 ≤ n) borns born is.1 (above born least.0 e),
    )

-- the least of some borns and all of these
pub least_all : (least : Option Stamp) (borns more : List ℕ) → IsLeastOf least borns
    → IsLeastOf (least_with least more) (borns ++ more)
least_all least borns [] is = subst (IsLeastOf least) (sym (append-nil borns)) is
least_all least borns (born ∷ more) is =
    subst (IsLeastOf (least_with (Some (lesser_born least born)) more)) (append_assoc borns (born ∷ []) more)
    (least_all (Some (lesser_born least born)) (borns ++ born ∷ []) more (least_push least borns born is))
