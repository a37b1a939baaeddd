-- Two lists with one spelling are equal, and what hinders a reading hinders every list.
use Rattle.std.proofs.Common.{◌≡◌, ℕ, ◌*◌, ◌^◌, ◌<◌, ◌≤◌, List, [], ◌∷◌, ◌++◌, length, sym, ap, ◌∙◌, arith}
use Rattle.std.specs.Prelude.{All}
use Rattle.std.specs.List.{flat_map, AllByRecursion}
use Rattle.std.proofs.lemmas.Nat.{mul-le}
use Rattle.std.proofs.Math.Nat.{mul-suc}
use Rattle.std.proofs.lemmas.List.Elements.{recursion_from_All}
use Rattle.std.proofs.lemmas.List.{append-nil, length-append}
use Rattle.tsdb_bits.specs.Leb.{leb}
use Rattle.tsdb_bits.proofs.LebLaws.{leb_prefix_free, length-leb}
use Rattle.tsdb_base.proofs.PlainLists.{IsPrefixFree, same_values}
use Rattle.tsdb_bits.specs.Lists.{HasOneSpelling, IsListOf}
use Rattle.enc_plain.specs.Spelling.{spelling}

pub same_from_spelling : {A : Type 0} (each : A → List ℕ) (IsValue : A → Type 0) (free : IsPrefixFree each IsValue) → HasOneSpelling (spelling each) IsValue
same_from_spelling each IsValue free xs ys is_x is_y e =
    let front = leb_prefix_free (length xs) (length ys) (flat_map each xs) (flat_map each ys) e in
    (same_values each IsValue free xs ys [] [] front.0 is_x.typed is_y.typed (ap (λ (bytes : List ℕ). bytes ++ []) front.1)).0

-- behind the count of a list stand its values
pub behind_count : {A : Type 0} (each : A → List ℕ) (values : List A) (count : ℕ) (bytes rest : List ℕ) → bytes ≡ leb count ++ rest → bytes ≡ spelling each values → (length values ≡ count) × (rest ≡ flat_map each values ++ [])
behind_count each values count bytes rest e has =
    let counted = leb_prefix_free count (length values) rest (flat_map each values) (sym e ∙ has) in
    (sym counted.0, counted.1 ∙ sym (append-nil (flat_map each values)))

-- a list of values with nothing behind it is all that they spell
pub nothing_behind : {A : Type 0} (each : A → List ℕ) (IsValue : A → Type 0) (free : IsPrefixFree each IsValue) (xs values : List A) (count : ℕ) (bytes middle rest : List ℕ) → bytes ≡ leb count ++ middle → middle ≡ flat_map each xs ++ rest → length xs ≡ count
    → All IsValue xs → All IsValue values → bytes ≡ spelling each values → rest ≡ []
nothing_behind each IsValue free xs values count bytes middle rest e parted counted is_x is_v has =
    let behind = behind_count each values count bytes middle e has in
    (same_values each IsValue free xs values rest [] (counted ∙ sym behind.0) is_x is_v (sym parted ∙ behind.1)).1

-- ---- the number of bytes

length-values : {A : Type 0} (each : A → List ℕ) (IsValue : A → Type 0) (most : ℕ) (short : (a : A) → IsValue a → length (each a) ≤ most) (xs : List A) → AllByRecursion IsValue xs → length (flat_map each xs) ≤ most * length xs
length-values each IsValue most short [] h = omega arith
length-values each IsValue most short (x ∷ xs) h =
    omega (arith, short x h.0, length-values each IsValue most short xs h.1, length-append (each x) (flat_map each xs), mul-suc most (length xs))

pub length-spelling : {A : Type 0} (each : A → List ℕ) (IsValue : A → Type 0) (most : ℕ) (short : (a : A) → IsValue a → length (each a) ≤ most) (xs : List A) → most ≤ 65537 → IsListOf IsValue xs → length (spelling each xs) < 2 ^ 30
length-spelling each IsValue most short xs le is =
    let all = length-values each IsValue most short xs (recursion_from_All IsValue xs is.typed) in
    let product = mul-le most (length xs) 65537 1000 le is.few in
    omega (arith, all, product, length-leb 9 (length xs) (omega (arith, is.few)), length-append (leb (length xs)) (flat_map each xs))
