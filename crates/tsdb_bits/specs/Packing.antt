-- Numbers packed at a width: bit b of number i is bit `i * width + b` of the stream, and bit k of the
-- stream is bit `k % 8` of byte `k / 8`. Zeros fill the last byte.
use Rattle.std.specs.Prelude.{◌≡◌, ◌<◌, All, slice_index, ℕ, suc, zero, ◌+◌, ◌*◌, ◌/◌, ◌%◌, ◌^◌, ◌≤◌, List, [], ◌∷◌}
use Rattle.std.specs.Prelude.{length, take}
use Rattle.std.specs.Int.{bit_at}

-- the stream of a list as one number: each item takes `width` bits, the first item the lowest ones
unfoldable pub from_digits : ℕ → List ℕ → ℕ
from_digits width [] = 0
from_digits width (value ∷ values) = value + 2 ^ width * from_digits width values

-- the number that bytes stand for, the lowest byte first
abbrev pub number_of_bytes : List ℕ → ℕ
number_of_bytes bytes = from_digits 8 bytes

-- the `count` lowest bytes of a number, the lowest first
unfoldable pub low_bytes : ℕ → ℕ → List ℕ
low_bytes zero number = []
low_bytes (suc count) number = number % 256 ∷ low_bytes count (number / 256)

-- how many bytes hold so many bits
abbrev pub bytes_for : ℕ → ℕ
bytes_for bits = (bits + 7) / 8

-- a list packed at a width
unfoldable pub pack_bytes : ℕ → List ℕ → List ℕ
pack_bytes width values = low_bytes (bytes_for (length values * width)) (from_digits width values)

-- a bit behind the first `bits` ones is set in the bytes that hold these
abbrev pub HasFillingBit : ℕ → List ℕ → Type 0
HasFillingBit bits bytes = 2 ^ bits ≤ number_of_bytes (take (bytes_for bits) bytes)

-- the binary digits of a number, where `turns` is at least their number
unfoldable pub digits_within : ℕ → ℕ → ℕ
digits_within zero number = 0
digits_within (suc turns) zero = 0
digits_within (suc turns) (suc number) = suc (digits_within turns (suc number / 2))

-- how many binary digits a number has: none for 0
unfoldable pub binary_digits : ℕ → ℕ
binary_digits number = digits_within number number

-- two lists of one length with one packing are equal
abbrev pub IsOneToOne : ℕ → Type 0
IsOneToOne width =
    (xs ys : List ℕ) → length xs ≡ length ys → All (λ x. x < 2 ^ width) xs → All (λ y. y < 2 ^ width) ys
    → pack_bytes width xs ≡ pack_bytes width ys → xs ≡ ys

-- bit k of the stream is a bit of byte `k / 8`, and a bit of value `k / width`
abbrev pub StandsInOrder : ℕ → List ℕ → Type 0
StandsInOrder width values =
    (k : ℕ) → All (λ value. value < 2 ^ width) values → k < length values * width
    → bit_at (slice_index (pack_bytes width values) (k / 8)) (k % 8)
    ≡ bit_at (slice_index values (k / width)) (k % width)
