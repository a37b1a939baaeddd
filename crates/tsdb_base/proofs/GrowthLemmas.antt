-- Growing by a prefix.
use Rattle.std.proofs.Common.{◌≡◌, ℕ, ◌+◌, ◌<◌, List, ◌∷◌, ◌++◌, length, take, drop, get_or, sym, ap, subst, ◌∙◌, append_assoc}
use Rattle.std.specs.List.{flat_map}
use Rattle.std.proofs.lemmas.List.{take-append-drop, drop_more}
use Rattle.std.proofs.lemmas.List.Concat.{flat_map-append}
use Rattle.tsdb_base.specs.Growth.{GrewByPrefix}

-- the first part was appended, and a prefix of what follows it
pub grew_behind : (old first bytes middle new : List ℕ) → middle ≡ old ++ first → GrewByPrefix middle bytes new → GrewByPrefix old (first ++ bytes) new
grew_behind old first bytes middle new appended grew = record {
  prefix = first ++ grew.prefix;
  rest = grew.rest;
  splits = ap (λ (l : List ℕ). first ++ l) grew.splits ∙ sym (append_assoc first grew.prefix grew.rest);
  grown = grew.grown ∙ ap (λ (l : List ℕ). l ++ grew.prefix) appended ∙ append_assoc old first grew.prefix;
}

-- a prefix of the first part is a prefix of the whole
pub grew_within : (old bytes more new : List ℕ) → GrewByPrefix old bytes new → GrewByPrefix old (bytes ++ more) new
grew_within old bytes more new grew = record {
  prefix = grew.prefix;
  rest = grew.rest ++ more;
  splits = ap (λ (l : List ℕ). l ++ more) grew.splits ∙ append_assoc grew.prefix grew.rest more;
  grown = grew.grown;
}

-- a prefix of one value behind the values before it is a prefix of all of them
pub grew_at : {A : Type 0} (spelling : A → List ℕ) (values : List A) (i : ℕ) (value : A) (old middle new : List ℕ) → i < length values → value ≡ get_or values i value → middle ≡ old ++ flat_map spelling (take i values)
    → GrewByPrefix middle (spelling value) new → GrewByPrefix old (flat_map spelling values) new
grew_at {A} spelling values i value old middle new lt is so_far grew =
    let parted : values ≡ take i values ++ value ∷ drop (i + 1) values =
    sym (take-append-drop i values) ∙ ap (λ (l : List A). take i values ++ l) (drop_more values i value lt ∙ ap (λ (v : A). v ∷ drop (i + 1) values) (sym is)) in
    let whole : flat_map spelling values ≡ flat_map spelling (take i values) ++ (spelling value ++ flat_map spelling (drop (i + 1) values)) =
    ap (flat_map spelling) parted ∙ flat_map-append spelling (take i values) (value ∷ drop (i + 1) values) in
    let behind = grew_behind old (flat_map spelling (take i values)) (spelling value ++ flat_map spelling (drop (i + 1) values)) middle new so_far
    (grew_within middle (spelling value) (flat_map spelling (drop (i + 1) values)) new grew) in
    subst (λ (bytes : List ℕ). GrewByPrefix old bytes new) (sym whole) behind
