-- Leaves that are read one by one: what is left of them makes the whole.
use Rattle.std.proofs.Common.{◌≡◌, ℕ, ◌-◌, ◌<◌, ◌≤◌, List, [], ◌∷◌, ◌++◌, length, take, drop, get_or, Err, inl, inr, refl, sym, ap, subst, ◌∙◌, append_assoc, length-drop, arith}
use Rattle.std.specs.List.{flat_map}
use Rattle.std.proofs.lemmas.List.{append-nil, nil_from_length, take_all}
use Rattle.tsdb_fields.specs.declared.fault.FieldFault.{FieldFault}
use Rattle.tsdb_fields.specs.declared.fault.FieldFault.TheVariants as field
use Rattle.tsdb_index.specs.declared.fault.IndexFault.{IndexFault}
use Rattle.tsdb_index.specs.declared.index.IndexEntry.{IndexEntry}
use Rattle.tsdb_index.specs.declared.pointer.Pointer.{Pointer}
use Rattle.tsdb_index.specs.Faults.{ReadsWhole, as_index_fault}
use Rattle.tsdb_index.specs.Parts.{AreLeavesAt, IsFirstBadLeaf, IsLeaf, leaf_end}
use Rattle.tsdb_index.specs.Steps.{AreSpread, ReadsLeaves}

-- what is left makes the whole, with the entries so far; and what is bad in it is bad in the whole
pub record AreLeft (version root : ℕ) (pointers : List Pointer) (bytes : List ℕ) (rest : List Pointer) (left : List ℕ) (entries : List IndexEntry) : Type 0 where
  pub spread : AreSpread root rest (length left)
  pub found : (leaves : List (List IndexEntry)) → AreLeavesAt version root rest left leaves
      → (all : List (List IndexEntry)) × AreLeavesAt version root pointers bytes all × (entries ++ flat_map (λ leaf. leaf) leaves ≡ flat_map (λ leaf. leaf) all)
  pub bad : (at : ℕ) → IsFirstBadLeaf version root rest left at → IsFirstBadLeaf version root pointers bytes at

pub left_start : (version root : ℕ) (pointers : List Pointer) (bytes : List ℕ) (entries : List IndexEntry) → entries ≡ [] → AreSpread root pointers (length bytes) → AreLeft version root pointers bytes pointers bytes entries
left_start version root pointers bytes entries none spread = record {
  spread = spread;
  found = λ leaves are. (leaves, are, ap (λ (l : List IndexEntry). l ++ flat_map (λ leaf. leaf) leaves) none);
  bad = λ at is. is;
}

-- a list by its first item and the others, as a slice pattern has them
pub rest_is : {A : Type 0} (xs : List A) (x : A) → 0 < length xs → x ≡ get_or xs 0 x → xs ≡ x ∷ take (length xs - 1) (drop 1 xs)
rest_is [] x some is = absurd (omega arith)
rest_is (y ∷ ys) x some is =
    let first : x ≡ y = is in
    let others : take (length (y ∷ ys) - 1) ys ≡ ys = take_all (length (y ∷ ys) - 1) ys (omega arith) in
    ap (λ (l : List _). y ∷ l) (sym others) ∙ ap (λ z. z ∷ take (length (y ∷ ys) - 1) ys) (sym first)

pub leaf_inside : (version root : ℕ) (pointers : List Pointer) (bytes : List ℕ) (rest behind : List Pointer) (pointer : Pointer) (left : List ℕ) (entries : List IndexEntry) (end : ℕ) → rest ≡ pointer ∷ behind → end ≡ leaf_end root behind
    → AreLeft version root pointers bytes rest left entries → end - pointer.place ≤ length left
leaf_inside version root pointers bytes rest behind pointer left entries end is at_end l =
    let s : AreSpread root (pointer ∷ behind) (length left) = subst (λ (ps : List Pointer). AreSpread root ps (length left)) is l.spread in
    let low = ends behind s in
    omega (arith, at_end, low)
  where
    ends : (ps : List Pointer) → AreSpread root (pointer ∷ ps) (length left) → leaf_end root ps - pointer.place ≤ length left
    ends [] s = let whole = s.0 in omega (arith, whole)
    ends (q ∷ qs) s = let whole = s.0 in let more = s.1 in let next = s.2.0 in omega (arith, whole, more, next)

pub next_left : (version root : ℕ) (pointers : List Pointer) (bytes : List ℕ) (rest behind : List Pointer) (pointer : Pointer) (left leaf others : List ℕ) (entries more new : List IndexEntry) (end : ℕ) → rest ≡ pointer ∷ behind → end ≡ leaf_end root behind
    → leaf ≡ take (end - pointer.place) left → others ≡ drop (end - pointer.place) left → IsLeaf version pointer behind leaf more → new ≡ entries ++ more → AreLeft version root pointers bytes rest left entries → AreLeft version root pointers bytes behind others new
next_left version root pointers bytes rest behind pointer left leaf others entries more new end is at_end leaf_is others_is good new_is l =
    let size : end - pointer.place ≡ leaf_end root behind - pointer.place = ap (λ (n : ℕ). n - pointer.place) at_end in
    let front : leaf ≡ take (leaf_end root behind - pointer.place) left = leaf_is ∙ ap (λ (n : ℕ). take n left) size in
    let back : others ≡ drop (leaf_end root behind - pointer.place) left = others_is ∙ ap (λ (n : ℕ). drop n left) size in
    let here : IsLeaf version pointer behind (take (leaf_end root behind - pointer.place) left) more = subst (λ (b : List ℕ). IsLeaf version pointer behind b more) front good in
    let s : AreSpread root (pointer ∷ behind) (length left) = subst (λ (ps : List Pointer). AreSpread root ps (length left)) is l.spread in
    record {
      spread = subst (λ (n : ℕ). AreSpread root behind n) (sym (ap length back ∙ length-drop (leaf_end root behind - pointer.place) left)) s.2;
      found = λ leaves are.
          let whole : AreLeavesAt version root rest left (more ∷ leaves) = subst (λ (ps : List Pointer). AreLeavesAt version root ps left (more ∷ leaves)) (sym is) (here, subst (λ (b : List ℕ). AreLeavesAt version root behind b leaves) back are) in
          let f = l.found (more ∷ leaves) whole in
          (f.0, f.1, ap (λ (es : List IndexEntry). es ++ flat_map (λ leaf. leaf) leaves) new_is ∙ append_assoc entries more (flat_map (λ leaf. leaf) leaves) ∙ f.2);
      bad = λ at first_bad.
          l.bad at (subst (λ (ps : List Pointer). IsFirstBadLeaf version root ps left at) (sym is) (inr ((more, here), subst (λ (b : List ℕ). IsFirstBadLeaf version root behind b at) back first_bad)));
    }

pub bad_leaf : (version : ℕ) {B C : Type 0} (root : ℕ) (pointers : List Pointer) (bytes : List ℕ) (rest behind : List Pointer) (pointer : Pointer) (left leaf : List ℕ) (entries : List IndexEntry) (end : ℕ) → rest ≡ pointer ∷ behind → end ≡ leaf_end root behind
    → leaf ≡ take (end - pointer.place) left → (view : B → List IndexEntry) (view_all : C → List IndexEntry) (fault : FieldFault) (answer : IndexFault) → ReadsWhole (IsLeaf version pointer behind leaf) view (Err fault) → answer ≡ as_index_fault pointer.place fault
    → AreLeft version root pointers bytes rest left entries → ReadsLeaves version root pointers bytes view_all (Err answer)
bad_leaf version root pointers bytes rest behind pointer left leaf entries end is at_end leaf_is view view_all (field.Bad at) answer none answer_is l =
    let front : leaf ≡ take (leaf_end root behind - pointer.place) left = leaf_is ∙ ap (λ (n : ℕ). take (n - pointer.place) left) at_end in
    let none_there : (es : List IndexEntry) → IsLeaf version pointer behind (take (leaf_end root behind - pointer.place) left) es → ⊥ = λ es is_leaf. none es (subst (λ (b : List ℕ). IsLeaf version pointer behind b es) (sym front) is_leaf) in
    rw answer_is (l.bad pointer.place (subst (λ (ps : List Pointer). IsFirstBadLeaf version root ps left pointer.place) (sym is) (inl (refl, none_there))))
bad_leaf version root pointers bytes rest behind pointer left leaf entries end is at_end leaf_is view view_all field.Memory answer none answer_is l = rw answer_is tt

pub left_done : (version root : ℕ) (pointers : List Pointer) (bytes : List ℕ) (rest : List Pointer) (left : List ℕ) (entries : List IndexEntry) → length rest < 1 → AreLeft version root pointers bytes rest left entries
    → (all : List (List IndexEntry)) × AreLeavesAt version root pointers bytes all × (entries ≡ flat_map (λ leaf. leaf) all)
left_done version root pointers bytes [] left entries none l =
    let empty : left ≡ [] = nil_from_length left l.spread in
    let f = l.found [] empty in
    (f.0, f.1, sym (append-nil entries) ∙ f.2)
left_done version root pointers bytes (p ∷ ps) left entries none l = absurd (omega arith)
