-- What a list contains, by its places and by recursion.
use Rattle.std.proofs.Common.{◌≡◌, ℕ, zero, suc, ◌<◌, List, [], ◌∷◌, length, get_or, inl, inr, arith}
use Rattle.std.specs.Prelude.{Contains}
use Rattle.tsdb_base.specs.Lists.{Among}

pub contained : {X : Type 0} (xs : List X) (x : X) → Among x xs → Contains xs x
contained [] x among = absurd among
contained (y ∷ xs) x (inl is) = (0, omega arith, is)
contained (y ∷ xs) x (inr among) =
    let rest = contained xs x among in
    (suc rest.0, omega (arith, rest.1), rest.2)

pub among_at : {X : Type 0} (xs : List X) (x : X) (k : ℕ) → k < length xs → get_or xs k x ≡ x → Among x xs
among_at [] x k within at = absurd (omega (arith, within))
among_at (y ∷ xs) x zero within at = inl at
among_at (y ∷ xs) x (suc k) within at = inr (among_at xs x k (omega (arith, within)) at)

pub among : {X : Type 0} (xs : List X) (x : X) → Contains xs x → Among x xs
among xs x has = among_at xs x has.0 has.1 has.2
