-- The pages of a series in a tree: there is one list of them.
use Rattle.std.proofs.Common.{◌≡◌, ℕ, zero, suc, ◌<◌, Bool, true, false, List, [], ◌∷◌, length, map, get_or, inl, inr, ⊎_elim}
use Rattle.std.proofs.Common.{arith, refl, sym, subst, ap, ◌∙◌}
use Rattle.std.specs.Prelude.{◌⊎◌, AllPairs, Contains}
use Rattle.std.proofs.lemmas.Bool.{false≢true}
use Rattle.std.proofs.lemmas.List.Elements.{recursion_from_All}
use Rattle.tsdb_base.specs.declared.point.Point.{Point}
use Rattle.tsdb_streams.specs.Files.{ArePagesIn, IsSeriesChunk}
use Rattle.tsdb_path.proofs.Order.{not_itself}
use Rattle.tsdb_base.proofs.Lists.{each_among}
use Rattle.tsdb_state.proofs.LayerLemmas.Places.{is_path_same, path_itself}
use Rattle.tsdb_base.specs.Lists.{Among, EachPair}
use Rattle.tsdb_state.specs.Places.{is_path}
use Rattle.tsdb_pages.specs.Trees.{IsBefore, IsGroup, IsTree}
use Rattle.tsdb_pages.specs.declared.tree.Chunk.{Chunk}
use Rattle.tsdb_pages.specs.declared.tree.Group.{Group}
use Rattle.tsdb_pages.specs.declared.tree.Page.{Page}
use Rattle.tsdb_pages.specs.declared.tree.Tree.{Tree}

abbrev pub Names : Type 0
Names = List ℕ × List ℕ

-- ---- elements of a list

pub contains_of : {X : Type 0} (x : X) (xs : List X) → Among x xs → Contains xs x
contains_of x [] among = absurd among
contains_of x (y ∷ ys) (inl is) = (0, omega arith, is)
contains_of x (y ∷ ys) (inr among) =
    let rest = contains_of x ys among in let lt = rest.1 in (suc rest.0, omega (arith, lt), rest.2)

pub among_of : {X : Type 0} (x : X) (xs : List X) → Contains xs x → Among x xs
among_of {X = X} x xs found = by xs found.0 found.1 found.2
  where
    by : (xs : List X) (k : ℕ) → k < length xs → get_or xs k x ≡ x → Among x xs
    by [] k lt is = absurd (omega (arith, lt))
    by (y ∷ ys) zero lt is = inl is
    by (y ∷ ys) (suc k) lt is = inr (by ys k (omega (arith, lt)) is)

each_pair : {X : Type 0} (R : X → X → Type 0) (xs : List X) → AllPairs R xs → EachPair R xs
each_pair R [] pairs = tt
each_pair R (x ∷ xs) pairs = (
  recursion_from_All (R x) xs (λ k d within. pairs 0 (suc k) d (omega arith) (omega (arith, within))),
  each_pair R xs (λ i j d before within. pairs (suc i) (suc j) d (omega (arith, before)) (omega (arith, within))),
)

same_name : (a b : List ℕ) → (a ≡ b) ⊎ (a ≡ b → ⊥)
same_name a b = by (is_path a b) refl
  where
    by : (same : Bool) → is_path a b ≡ same → (a ≡ b) ⊎ (a ≡ b → ⊥)
    by true is = inl (is_path_same a b is)
    by false is = inr (λ e. false≢true (sym is ∙ subst (λ c. is_path a c ≡ true) e (path_itself a)))

-- of elements each of which is before those behind it one alone is neither before nor behind another
pub one_alone : {X : Type 0} (R : X → X → Type 0) (xs : List X) → EachPair R xs → (a b : X) → Among a xs → Among b xs
    → (R a b → ⊥) → (R b a → ⊥) → a ≡ b
one_alone R [] pairs a b in_a in_b before behind = absurd in_a
one_alone R (x ∷ xs) pairs a b (inl is_a) (inl is_b) before behind = sym is_a ∙ is_b
one_alone R (x ∷ xs) pairs a b (inl is_a) (inr in_b) before behind =
    absurd (before (subst (λ y. R y b) is_a (each_among (R x) xs b pairs.0 in_b)))
one_alone R (x ∷ xs) pairs a b (inr in_a) (inl is_b) before behind =
    absurd (behind (subst (λ y. R y a) is_b (each_among (R x) xs a pairs.0 in_a)))
one_alone R (x ∷ xs) pairs a b (inr in_a) (inr in_b) before behind = one_alone R xs pairs.1 a b in_a in_b before behind

not_before : (a b : List ℕ) → a ≡ b → IsBefore a b → ⊥
not_before a b same less = not_itself (b, []) (inl (subst (λ c. IsBefore c b) same less))

-- ---- the chunk of a series

-- a chunk of the series with these names
pub record At (groups : List Group) (names : Names) : Type 0 where
  pub group : Group
  pub chunk : Chunk
  pub in_tree : Among group groups
  pub in_group : Among chunk group.chunks
  pub device : group.device ≡ names.0
  pub measurement : chunk.measurement ≡ names.1

in_group : (name : List ℕ) (chunks : List Chunk)
    → ((chunk : Chunk) × Among chunk chunks × (chunk.measurement ≡ name))
    ⊎ ((chunk : Chunk) → Among chunk chunks → chunk.measurement ≡ name → ⊥)
in_group name [] = inr (λ chunk among is. among)
in_group name (chunk ∷ chunks) = ⊎_elim (λ is. inl (chunk, inl refl, is))
    (λ other. ⊎_elim (λ found. inl (found.0, inr found.1, found.2))
    (λ none. inr (λ c among is. ⊎_elim (λ first. other (ap (λ (d : Chunk). d.measurement) first ∙ is))
    (λ behind. none c behind is) among)) (in_group name chunks)) (same_name chunk.measurement name)

pub find_at : (names : Names) (groups : List Group) → At groups names ⊎ (At groups names → ⊥)
find_at names [] = inr (λ found. found.in_tree)
find_at names (group ∷ groups) = ⊎_elim
    (λ device. ⊎_elim (λ found. inl (record {
      group = group;
      chunk = found.0;
      in_tree = inl refl;
      in_group = found.1;
      device = device;
      measurement = found.2;
    })) (λ none. rest (find_at names groups) (λ found same. none found.chunk
    (subst (λ (g : Group). Among found.chunk g.chunks) (sym same) found.in_group) found.measurement))
    (in_group names.1 group.chunks))
    (λ other. rest (find_at names groups) (λ found same. other (ap (λ (g : Group). g.device) same ∙ found.device)))
    (same_name group.device names.0)
  where
    behind : At groups names → At (group ∷ groups) names
    behind found = record {
      group = found.group;
      chunk = found.chunk;
      in_tree = inr found.in_tree;
      in_group = found.in_group;
      device = found.device;
      measurement = found.measurement;
    }

    rest : At groups names ⊎ (At groups names → ⊥) → ((found : At (group ∷ groups) names) → group ≡ found.group → ⊥)
        → At (group ∷ groups) names ⊎ (At (group ∷ groups) names → ⊥)
    rest others not_first = ⊎_elim (λ found. inl (behind found))
        (λ none. inr (λ found. ⊎_elim (λ same. not_first found same) (λ among. none (record {
          group = found.group;
          chunk = found.chunk;
          in_tree = among;
          in_group = found.in_group;
          device = found.device;
          measurement = found.measurement;
        })) found.in_tree)) others

-- a tree has one chunk of a series at most
pub one_chunk : (tree : Tree) (names : Names) → IsTree tree → (a b : At tree.groups names) → a.chunk ≡ b.chunk
one_chunk tree names is a b =
    one_alone (λ (x y : Chunk). IsBefore x.measurement y.measurement) b.group.chunks
    (each_pair (λ (x y : Chunk). IsBefore x.measurement y.measurement) b.group.chunks good.rising) a.chunk b.chunk
    (subst (λ (g : Group). Among a.chunk g.chunks) same_group a.in_group) b.in_group
    (not_before a.chunk.measurement b.chunk.measurement (a.measurement ∙ sym b.measurement))
    (not_before b.chunk.measurement a.chunk.measurement (b.measurement ∙ sym a.measurement))
  where
    same_group : a.group ≡ b.group
    same_group = one_alone (λ (x y : Group). IsBefore x.device y.device) tree.groups
        (each_pair (λ (x y : Group). IsBefore x.device y.device) tree.groups is.rising) a.group b.group a.in_tree b.in_tree
        (not_before a.group.device b.group.device (a.device ∙ sym b.device))
        (not_before b.group.device a.group.device (b.device ∙ sym a.device))

    good : IsGroup b.group
    good = each_among IsGroup tree.groups b.group (recursion_from_All IsGroup tree.groups is.groups) b.in_tree

pub at_chunk : (tree : Tree) (names : Names) (chunk : Chunk) → IsSeriesChunk tree names chunk → At tree.groups names
at_chunk tree names chunk of = record {
  group = of.group;
  chunk = chunk;
  in_tree = among_of of.group tree.groups of.in_tree;
  in_group = among_of chunk of.group.chunks of.in_group;
  device = of.device;
  measurement = of.measurement;
}

pub chunk_at : (tree : Tree) (names : Names) (found : At tree.groups names) → IsSeriesChunk tree names found.chunk
chunk_at tree names found = record {
  group = found.group;
  in_tree = contains_of found.group tree.groups found.in_tree;
  in_group = contains_of found.chunk found.group.chunks found.in_group;
  device = found.device;
  measurement = found.measurement;
}

abbrev pub pages_of : Chunk → List (List Point)
pages_of chunk = map (λ (page : Page). page.points) chunk.pages

-- the points of each page of the series in the tree
pub record Listed (tree : Tree) (names : Names) : Type 0 where
  pub list : List (List Point)
  pub are : ArePagesIn tree names list
  pub from : ((found : At tree.groups names) × (list ≡ pages_of found.chunk)) ⊎ ((At tree.groups names → ⊥) × (list ≡ []))

pub listed_pages : (tree : Tree) (names : Names) → IsTree tree → Listed tree names
unfolding at_chunk
listed_pages tree names is = ⊎_elim
    (λ found. record {
      list = pages_of found.chunk;
      are = record {
        of_chunk = λ chunk of. ap pages_of (one_chunk tree names is found (at_chunk tree names chunk of));
        none = λ no. absurd (no found.chunk (chunk_at tree names found));
      };
      from = inl (found, refl);
    })
    (λ none. record {
      list = [];
      are = record { of_chunk = λ chunk of. absurd (none (at_chunk tree names chunk of)); none = λ no. refl };
      from = inr (none, refl);
    })
    (find_at names tree.groups)
