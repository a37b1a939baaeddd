-- The bytes of one page, and the page that they begin with.
use Rattle.std.proofs.Common.{◌≡◌, ◌⊎◌, inl, inr, ℕ, suc, zero, ◌+◌, ◌-◌, ◌<◌, ◌≤◌, ◌^◌, true, List, ◌∷◌, ◌++◌, length, take, drop, Ok, Err, refl, sym, ap, subst, ◌∙◌, append_assoc, arith}
use Rattle.std.specs.Prelude.{Option, None, Some, IfSome, IfOk, Result}
use Rattle.std.proofs.lemmas.List.{length-append, length-drop, take-append-drop}
use Rattle.std.proofs.Math.Seq.{take-append-add}
use Rattle.tsdb_base.specs.declared.point.Point.{Point}
use Rattle.tsdb_base.specs.Fields.{number32}
use Rattle.tsdb_base.specs.Plain.{BeginsWithNone}
use Rattle.tsdb_base.specs.Values.{is_suitable}
use Rattle.tsdb_fields.specs.declared.fault.FieldFault.{FieldFault}
use Rattle.tsdb_fields.specs.declared.fault.FieldFault.TheVariants as field
use Rattle.tsdb_fields.specs.declared.rest.Rest.{Rest}
use Rattle.tsdb_fields.specs.Reading.{ReadsParts}
use Rattle.tsdb_index.specs.declared.index.IndexEntry.{IndexEntry}
use Rattle.tsdb_index.specs.declared.index.PageEntry.{PageEntry}
use Rattle.tsdb_pages.specs.Pages.{body}
use Rattle.tsdb_pages.proofs.Bodies.{body_is_short}
use Rattle.tsfile_reader.specs.declared.fault.ReadFault.{ReadFault}
use Rattle.tsfile_reader.specs.Answers.{Answers, as_read_fault}
use Rattle.tsdb_pages.specs.File.{page_bytes}
use Rattle.tsfile_reader.specs.Page.{AreGood, BeginsWithPage, HasNoPage}
use Rattle.tsfile_reader.specs.Steps.{HasPageBytes, SaysSize, body_bytes}

-- what holds of what was returned
pub ok_map : {T E : Type 0} (A P : T → Type 0) (r : Result T E) → IfOk r A → ((x : T) → A x → P x) → IfOk r P
ok_map A P (Ok x) a f = f x a
ok_map A P (Err e) a f = tt

small_or_not : (n : ℕ) → (n < 5) ⊎ (5 ≤ n)
small_or_not zero = inl (omega arith)
small_or_not (suc zero) = inl (omega arith)
small_or_not (suc (suc zero)) = inl (omega arith)
small_or_not (suc (suc (suc zero))) = inl (omega arith)
small_or_not (suc (suc (suc (suc zero)))) = inl (omega arith)
small_or_not (suc (suc (suc (suc (suc n))))) = inr (omega arith)

-- what the first five bytes say
size_said : (b part : List ℕ) (place size first mark : ℕ) (body behind : List ℕ) → 5 ≤ first → part ≡ take first (drop place b) → SaysSize part size → length body < 2 ^ 32 → drop place b ≡ (mark ∷ body_bytes body) ++ behind → size ≡ 5 + length body
size_said b part place size first mark body behind enough is says short there =
    let m = first - 5 in
    let n : first ≡ suc (suc (suc (suc (suc (first - 5))))) = omega (arith, enough) in
    let apart : drop place b ≡ mark ∷ (number32 (length body) ++ (body ++ behind)) = there ∙ ap (λ (l : List ℕ). mark ∷ l) (append_assoc (number32 (length body)) body behind) in
    let front : take (suc (suc (suc (suc (suc (first - 5)))))) (mark ∷ (number32 (length body) ++ (body ++ behind))) ≡ mark ∷ (number32 (length body) ++ take (first - 5) (body ++ behind)) = refl in
    says mark (length body) (take m (body ++ behind)) short (is ∙ ap (λ (k : ℕ). take k (drop place b)) n ∙ ap (λ (l : List ℕ). take (suc (suc (suc (suc (suc (first - 5)))))) l) apart ∙ front)

-- how long what is left must be
room_of : (b : List ℕ) (place left mark : ℕ) (body behind : List ℕ) → place + left ≡ length b → drop place b ≡ (mark ∷ body_bytes body) ++ behind → left ≡ 5 + length body + length behind
room_of b place left mark body behind whole there =
    let n = length-drop place b in
    let m = ap length there in
    let k = length-append (mark ∷ body_bytes body) behind in
    let j = length-append (number32 (length body)) body in
    omega (arith, whole, n, m, k, j)

pub first_read : (o : Option (List ℕ)) (part : List ℕ) (place size first left : ℕ) → IfSome o (λ b. place + left ≡ length b) → (first < 5 → first ≡ left) → IfSome o (λ b. part ≡ take first (drop place b)) → SaysSize part size → (size ≤ first) ⊎ (left < size)
    → IfSome o (λ b. HasPageBytes b place part)
first_read None part place size first left whole head is says enough = tt
first_read (Some b) part place size first left whole head is says enough = record {
  size = first;
  part_is = is;
  whole = λ mark body behind short there.
      let room = room_of b place left mark body behind whole there in
      let by_size : 5 ≤ first → 5 + length body ≤ first = λ five.
      let said = size_said b part place size first mark body behind five is says short there in
      fits size first left (length body) (length behind) said room enough in
      by_case first (length body) (λ small. let same = head small in omega (arith, same, room)) by_size;
}
  where
    fits : (size first left n m : ℕ) → size ≡ 5 + n → left ≡ 5 + n + m → (size ≤ first) ⊎ (left < size) → 5 + n ≤ first
    fits size first left n m said room (inl low) = omega (arith, said, low)
    fits size first left n m said room (inr high) = absurd (omega (arith, said, room, high))

    by_case : (first n : ℕ) → (first < 5 → 5 + n ≤ first) → (5 ≤ first → 5 + n ≤ first) → 5 + n ≤ first
    by_case first n f g = pick (small_or_not first)
      where
        pick : (first < 5) ⊎ (5 ≤ first) → 5 + n ≤ first
        pick (inl small) = f small
        pick (inr five) = g five

pub second_read : (o : Option (List ℕ)) (part again : List ℕ) (place size first left : ℕ) → (first < 5 → first ≡ left) → IfSome o (λ b. part ≡ take first (drop place b)) → SaysSize part size → first < size → size ≤ left
    → IfSome o (λ b. again ≡ take size (drop place b)) → IfSome o (λ b. HasPageBytes b place again)
second_read None part again place size first left head is says more inside there = tt
second_read (Some b) part again place size first left head is says more inside again_is = record {
  size = size;
  part_is = again_is;
  whole = λ mark body behind short there.
      let five : 5 ≤ first = pick (small_or_not first) in
      let said = size_said b part place size first mark body behind five is says short there in
      omega (arith, said);
}
  where
    pick : (first < 5) ⊎ (5 ≤ first) → 5 ≤ first
    pick (inl small) = absurd (let same = head small in omega (arith, same, more, inside))
    pick (inr five) = five

-- the points that were read are those of the page
pub page_found : (o : Option (List ℕ)) (entry : IndexEntry) (page : PageEntry) (part behind : List ℕ) (points : List Point) → is_suitable entry.data_type entry.encoding ≡ true → IfSome o (λ b. HasPageBytes b page.place part)
    → part ≡ page_bytes entry.encoding points ++ behind → AreGood entry.data_type points → IfSome o (λ b. BeginsWithPage entry.data_type entry.encoding (drop page.place b) points)
page_found None entry page part behind points suits has is good = tt
page_found (Some b) entry page part behind points suits has is good = record {
  suits = suits;
  good = good;
  behind = behind ++ drop has.size (drop page.place b);
  split =
      let field = page_bytes entry.encoding points in
      sym (take-append-drop has.size (drop page.place b)) ∙ ap (λ (l : List ℕ). l ++ drop has.size (drop page.place b)) (sym has.part_is ∙ is) ∙ append_assoc field behind (drop has.size (drop page.place b));
}

-- where they begin with no page, none stands there
no_page_there : (b : List ℕ) (entry : IndexEntry) (page : PageEntry) (part : List ℕ) → HasPageBytes b page.place part → BeginsWithNone (page_bytes entry.encoding) (AreGood entry.data_type) part → HasNoPage b entry page
no_page_there b entry page part has none = λ points has_points.
    let there = has_points.stands in
    let t = entry.data_type in
    let e = entry.encoding in
    let inner = body e points in
    let field = page_bytes e points in
    let short = body_is_short t e there.suits points there.good.0 there.good.1 in
    let low = has.whole 80 inner there.behind short there.split in
    let len : length (page_bytes entry.encoding points) ≡ 5 + length (body entry.encoding points) = let j = length-append (number32 (length inner)) inner in omega (arith, j) in
    let m = has.size - length field in
    let n : has.size ≡ length (page_bytes entry.encoding points) + (has.size - length (page_bytes entry.encoding points)) = omega (arith, low, len) in
    none points (take m there.behind) there.good
    (has.part_is ∙ ap (λ (k : ℕ). take k (drop page.place b)) n ∙ ap (λ (l : List ℕ). take (length (page_bytes entry.encoding points) + (has.size - length (page_bytes entry.encoding points))) l) there.split ∙ take-append-add field there.behind m)

pub page_missing : {T B : Type 0} (Is : List ℕ → T → Type 0) (o : Option (List ℕ)) (entry : IndexEntry) (page : PageEntry) (rest : Rest) (part : List ℕ) (view : B → List Point) (fault : FieldFault) (answer : ReadFault)
    → IfSome o (λ b. HasPageBytes b page.place part) → rest.bytes.now ≡ part → ReadsParts (page_bytes entry.encoding) (AreGood entry.data_type) rest view (Err fault) → answer ≡ as_read_fault page.place fault
    → Answers Is (λ b at. (at ≡ page.place) × HasNoPage b entry page) o (Err answer)
page_missing Is None entry page rest part view (field.Bad at) answer has same none answer_is = rw answer_is tt
page_missing Is (Some b) entry page rest part view (field.Bad at) answer has same none answer_is =
    rw answer_is (refl, no_page_there b entry page part has (subst (λ (l : List ℕ). BeginsWithNone (page_bytes entry.encoding) (AreGood entry.data_type) l) same none))
page_missing Is o entry page rest part view field.Memory answer has same none answer_is = rw answer_is tt
