-- The parts between dots, and the nodes that a path is made of.
use Rattle.std.proofs.Common.{◌≡◌, ◌≤◌, ◌<◌, ◌+◌, ◌-◌, ℕ, true, false, eqb, List, [], ◌∷◌, ◌++◌, length, take, get_or, zero, suc, length-append, append_assoc, refl, sym, ap, subst, ◌∙◌, arith}
use Rattle.std.specs.Prelude.{All, IsTrue, sum_by}
use Rattle.std.proofs.Math.Seq.{take-append_seam, get_or-append_seam}
use Rattle.std.proofs.lemmas.List.{take_more, take_all, length-take-le}
use Rattle.std.specs.List.{join_with_byte, onto_first}
use Rattle.std.proofs.lemmas.List.Splits.{slice_split_at, slice_split_none, length-slice_split, join_with_byte-slice_split, slice_split-cons_yes, slice_split-cons_no}
use Rattle.std.proofs.lemmas.List.Elements.{All-head, All-tail, All-nil, All-cons, All-append, All-push, All-take, All-get_or, All-weaker}
use Rattle.std.proofs.lemmas.List.Sums.{sum_by-cons}
use Rattle.tsdb_path.specs.Nodes.{dot, parts, node_count, device_of, measurement_of, child_of, is_node_byte, is_path_byte, IsNode, IsName, IsRooted, IsPathOf, IsPath}
use Rattle.tsdb_path.proofs.Bytes.{IsNode-dotless, is_path_byte-node}

-- there is a part
pub parts_some : (bytes : List ℕ) → 0 < length (parts bytes)
parts_some bytes = omega (arith, length-slice_split (λ b. eqb b dot) bytes)

onto_first-append : (x : ℕ) (prefix back : List (List ℕ)) → 0 < length prefix → onto_first x (prefix ++ back) ≡ onto_first x prefix ++ back
onto_first-append x [] back h = absurd (omega (arith, h))
onto_first-append x (part ∷ prefix) back h = refl

-- bytes without a dot behind a dot are the last part
pub parts-child : (device name : List ℕ) → All (λ b. eqb b dot ≡ false) name → parts (child_of device name) ≡ parts device ++ name ∷ []
parts-child [] name h = ap (λ l. [] ∷ l) (slice_split_none (λ b. eqb b dot) name h)
parts-child (x ∷ device) name h = elim (eqb x dot) as (λ t. eqb x dot ≡ t → parts (child_of (x ∷ device) name) ≡ parts (x ∷ device) ++ name ∷ []) [
  | true ↦ λ e. slice_split-cons_yes (λ b. eqb b dot) x (child_of device name) e ∙ ap (λ l. [] ∷ l) (parts-child device name h) ∙ sym (ap (λ l. l ++ name ∷ []) (slice_split-cons_yes (λ b. eqb b dot) x device e))
  | false ↦ λ e. slice_split-cons_no (λ b. eqb b dot) x (child_of device name) e ∙ ap (onto_first x) (parts-child device name h) ∙ onto_first-append x (parts device) (name ∷ []) (parts_some device) ∙ sym (ap (λ l. l ++ name ∷ []) (slice_split-cons_no (λ b. eqb b dot) x device e))
] refl

-- nodes that are joined by dots are the parts of what they make
pub parts-join : (nodes : List (List ℕ)) → 0 < length nodes → All IsNode nodes → parts (join_with_byte dot nodes) ≡ nodes
parts-join [] some good = absurd (omega (arith, some))
parts-join (x ∷ []) some good = slice_split_none (λ b. eqb b dot) x (IsNode-dotless x (All-head IsNode x [] good))
parts-join (x ∷ y ∷ nodes) some good =
    slice_split_at (λ b. eqb b dot) x dot (join_with_byte dot (y ∷ nodes)) (IsNode-dotless x (All-head IsNode x (y ∷ nodes) good)) refl
    ∙ ap (λ l. x ∷ l) (parts-join (y ∷ nodes) (omega arith) (All-tail IsNode x (y ∷ nodes) good))

-- a path that isn't rooted in a first node has none
rooted_some : (nodes : List (List ℕ)) → IsRooted nodes → 0 < length nodes
rooted_some [] h = absurd h
rooted_some (x ∷ nodes) h = omega arith

-- the list of nodes of a path is its parts, and so there is one list alone
pub parts_of_path : (nodes : List (List ℕ)) (bytes : List ℕ) → IsPathOf nodes bytes → parts bytes ≡ nodes
parts_of_path nodes bytes path = subst (λ l. parts l ≡ nodes) path.bytes_are (parts-join nodes (rooted_some nodes path.rooted) path.good)

-- a path, by its parts
pub record HasGoodParts (bytes : List ℕ) : Type 0 where
  pub rooted : IsRooted (parts bytes)
  pub good : All IsNode (parts bytes)
  pub few : length (parts bytes) ≤ 16
  pub short : length bytes ≤ 255

pub parts_from_path : (bytes : List ℕ) → IsPath bytes → HasGoodParts bytes
parts_from_path bytes path =
    let e : path.0 ≡ parts bytes = sym (parts_of_path path.0 bytes path.1) in
    record {
      rooted = subst IsRooted e path.1.rooted;
      good = subst (All IsNode) e path.1.good;
      few = subst (λ l. length l ≤ 16) e path.1.few;
      short = path.1.short;
    }

pub path_from_parts : (bytes : List ℕ) → HasGoodParts bytes → IsPath bytes
path_from_parts bytes h = (
  parts bytes,
  record {
    rooted = h.rooted;
    good = h.good;
    few = h.few;
    bytes_are = join_with_byte-slice_split dot bytes;
    short = h.short;
  },
)

-- the device and the measurement of what a name without a dot was put behind
pub device_of-child : (device name : List ℕ) → All (λ b. eqb b dot ≡ false) name → device_of (child_of device name) ≡ device
device_of-child device name h =
    let ps : List (List ℕ) = parts device in
    let n : length (ps ++ name ∷ []) - 1 ≡ length ps = omega (arith, length-append ps (name ∷ [])) in
    ap (λ l. join_with_byte dot (take (length l - 1) l)) (parts-child device name h)
    ∙ ap (λ k. join_with_byte dot (take k (ps ++ name ∷ []))) n
    ∙ ap (join_with_byte dot) (take-append_seam ps (name ∷ []))
    ∙ join_with_byte-slice_split dot device

pub measurement_of-child : (device name : List ℕ) → All (λ b. eqb b dot ≡ false) name → measurement_of (child_of device name) ≡ name
measurement_of-child device name h =
    let ps : List (List ℕ) = parts device in
    let n : length (ps ++ name ∷ []) - 1 ≡ length ps = omega (arith, length-append ps (name ∷ [])) in
    ap (λ l. get_or l (length l - 1) []) (parts-child device name h)
    ∙ ap (λ k. get_or (ps ++ name ∷ []) k []) n
    ∙ get_or-append_seam ps name [] []

pub node_count-child : (device name : List ℕ) → All (λ b. eqb b dot ≡ false) name → node_count (child_of device name) ≡ node_count device + 1
node_count-child device name h = ap length (parts-child device name h) ∙ length-append (parts device) (name ∷ [])

join-push : (prefix : List (List ℕ)) (name : List ℕ) → 0 < length prefix → join_with_byte dot (prefix ++ name ∷ []) ≡ child_of (join_with_byte dot prefix) name
join-push [] name some = absurd (omega (arith, some))
join-push (x ∷ []) name some = refl
join-push (x ∷ y ∷ prefix) name some =
    ap (λ l. x ++ dot ∷ l) (join-push (y ∷ prefix) name (omega arith)) ∙ sym (append_assoc x (dot ∷ join_with_byte dot (y ∷ prefix)) (dot ∷ name))

-- the parts are those of the device, and the measurement
parts_are : (bytes : List ℕ) → parts bytes ≡ take (node_count bytes - 1) (parts bytes) ++ measurement_of bytes ∷ []
parts_are bytes =
    let ps : List (List ℕ) = parts bytes in
    let some : 0 < length ps = parts_some bytes in
    let last : length ps - 1 < length ps = omega arith in
    let n : length ps ≡ length ps - 1 + 1 = omega arith in
    sym (take_all (length ps) ps (omega arith)) ∙ ap (λ k. take k ps) n ∙ take_more ps (length ps - 1) [] last

-- a path of two nodes or more is its device and its measurement, joined by a dot
pub child_of-device_of : (bytes : List ℕ) → 2 ≤ node_count bytes → child_of (device_of bytes) (measurement_of bytes) ≡ bytes
child_of-device_of bytes two =
    let ps : List (List ℕ) = parts bytes in
    let some : 0 < length (take (length ps - 1) ps) = omega (arith, length-take-le (length ps - 1) ps (omega arith), two) in
    sym (ap (join_with_byte dot) (parts_are bytes) ∙ join-push (take (length ps - 1) ps) (measurement_of bytes) some) ∙ join_with_byte-slice_split dot bytes

rooted-take : (nodes : List (List ℕ)) (n : ℕ) → 0 < n → IsRooted nodes → IsRooted (take n nodes)
rooted-take [] n some h = absurd h
rooted-take (x ∷ nodes) zero some h = absurd (omega (arith, some))
rooted-take (x ∷ nodes) (suc n) some h = h

-- the device of a path is a path
pub IsPath-device_of : (bytes : List ℕ) → IsPath bytes → 2 ≤ node_count bytes → IsPath (device_of bytes)
IsPath-device_of bytes path two =
    let ps : List (List ℕ) = parts bytes in
    let h : HasGoodParts bytes = parts_from_path bytes path in
    let e = child_of-device_of bytes two in (
      take (length ps - 1) ps,
      record {
        rooted = rooted-take ps (length ps - 1) (omega (arith, two)) h.rooted;
        good = All-take IsNode (length ps - 1) ps h.good;
        few = omega (arith, length-take-le (length ps - 1) ps (omega arith), h.few);
        bytes_are = refl;
        short = omega (arith, ap length e, length-append (device_of bytes) (dot ∷ measurement_of bytes), h.short);
      },
    )

-- the measurement of a path is a name
pub IsName-measurement_of : (bytes : List ℕ) → IsPath bytes → 2 ≤ node_count bytes → IsName (measurement_of bytes)
IsName-measurement_of bytes path two =
    let ps : List (List ℕ) = parts bytes in
    let h : HasGoodParts bytes = parts_from_path bytes path in
    let e = child_of-device_of bytes two in
    record {
      node = All-get_or IsNode ps (length ps - 1) [] (omega (arith, two)) h.good;
      short = omega (arith, ap length e, length-append (device_of bytes) (dot ∷ measurement_of bytes), h.short);
    }

pub rooted-append : (nodes others : List (List ℕ)) → IsRooted nodes → IsRooted (nodes ++ others)
rooted-append [] others h = absurd h
rooted-append (x ∷ nodes) others h = h

-- a path takes a node where there is room for it
pub IsPath-child : (device name : List ℕ) → IsPath device → IsNode name → node_count device < 16 → length (child_of device name) ≤ 255 → IsPath (child_of device name)
IsPath-child device name path node few short =
    let h : HasGoodParts device = parts_from_path device path in
    let e : parts (child_of device name) ≡ parts device ++ name ∷ [] = parts-child device name (IsNode-dotless name node) in
    path_from_parts (child_of device name) (record {
      rooted = subst IsRooted (sym e) (rooted-append (parts device) (name ∷ []) h.rooted);
      good = subst (All IsNode) (sym e) (All-push IsNode (parts device) name h.good node);
      few = omega (arith, ap length e, length-append (parts device) (name ∷ []), few);
      short = short;
    })

-- a byte of a path, as a fact
abbrev pub IsPathByte : ℕ → Type 0
IsPathByte b = IsTrue (is_path_byte b)

-- a node has bytes of paths alone
pub IsNode-bytes : (node : List ℕ) → IsNode node → All IsPathByte node
IsNode-bytes node h = All-weaker (λ b. IsTrue (is_node_byte b)) IsPathByte is_path_byte-node node h.letters

joined_bytes : (nodes : List (List ℕ)) → All IsNode nodes → All IsPathByte (join_with_byte dot nodes)
joined_bytes [] good = All-nil IsPathByte
joined_bytes (x ∷ []) good = IsNode-bytes x (All-head IsNode x [] good)
joined_bytes (x ∷ y ∷ nodes) good =
    All-append IsPathByte x (dot ∷ join_with_byte dot (y ∷ nodes))
    (IsNode-bytes x (All-head IsNode x (y ∷ nodes) good))
    (All-cons IsPathByte dot (join_with_byte dot (y ∷ nodes)) refl (joined_bytes (y ∷ nodes) (All-tail IsNode x (y ∷ nodes) good)))

-- a path has bytes of nodes and dots alone
pub IsPath-bytes : (bytes : List ℕ) → IsPath bytes → All (λ b. IsTrue (is_path_byte b)) bytes
IsPath-bytes bytes path = subst (All IsPathByte) path.1.bytes_are (joined_bytes path.0 path.1.good)

-- each part takes its bytes and a dot, but the last takes none
length-join : (nodes : List (List ℕ)) → 0 < length nodes → sum_by (λ part. length part + 1) nodes ≡ length (join_with_byte dot nodes) + 1
length-join [] some = absurd (omega (arith, some))
length-join (x ∷ []) some = omega (arith, sum_by-cons (λ part. length part + 1) x [])
length-join (x ∷ y ∷ nodes) some = omega (arith, sum_by-cons (λ part. length part + 1) x (y ∷ nodes), length-append x (dot ∷ join_with_byte dot (y ∷ nodes)), length-join (y ∷ nodes) (omega arith))

pub length_by_parts : (bytes : List ℕ) → sum_by (λ part. length part + 1) (parts bytes) ≡ length bytes + 1
length_by_parts bytes = length-join (parts bytes) (parts_some bytes) ∙ ap (λ l. length l + 1) (join_with_byte-slice_split dot bytes)

-- the device has one node less
pub node_count-device_of : (bytes : List ℕ) → IsPath bytes → 2 ≤ node_count bytes → node_count (device_of bytes) + 1 ≡ node_count bytes
node_count-device_of bytes path two =
    sym (node_count-child (device_of bytes) (measurement_of bytes) (IsNode-dotless (measurement_of bytes) (IsName-measurement_of bytes path two).node))
    ∙ ap node_count (child_of-device_of bytes two)
