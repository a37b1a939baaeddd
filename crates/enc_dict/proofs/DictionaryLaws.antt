-- A dictionary with one text more, and what a known value says of a place.
use Rattle.std.proofs.Common.{◌≡◌, ℕ, ◌+◌, ◌<◌, ◌≤◌, ◌||◌, Bool, true, false, cond, List, [], ◌∷◌, ◌++◌, length, get_or, take, None, Some, Bor, refl, sym, ap, ◌∙◌, inl, inr, arith, one-add}
use Rattle.std.specs.Prelude.{map}
use Rattle.std.specs.BTreeMap.{BTreeMap, UpdatesBy, btree_map_len}
use Rattle.std.specs.Cmp.Lexicographic.{slice_cmp}
use Rattle.std.specs.List.{list_any}
use Rattle.std.specs.Ordering.{nat_cmp}
use Rattle.std.specs.Str.{bytes_eq}
use Rattle.std.proofs.lemmas.List.{get_or-map, get_or-take, length-take, length-map, length-append}
use Rattle.std.proofs.lemmas.List.Elements.{All-from_recursion}
use Rattle.std.proofs.lemmas.Map.Text.{btree_map_updates_str}
use Rattle.enc_dict.specs.Spelling.{first_uses, place_in}
use Rattle.enc_dict.specs.Steps.{place_among, IsDictionary, IsTextPlace, IsKnown, Enters}
use Rattle.enc_dict.proofs.FirstUses.{cases, same_text, text_itself, apart_back, all_used, place_before, place_last}

-- one test more at the end of a list
any_push : (p : List ℕ → Bool) (ks : List (List ℕ)) (t : List ℕ) → list_any p (ks ++ t ∷ []) ≡ list_any p ks || p t
any_push p [] t = elim (cases (p t)) [ inl passes ↦ rw passes refl | inr fails ↦ rw fails refl ]
any_push p (k ∷ ks) t = elim (cases (p k)) [ inl here ↦ rw here refl | inr away ↦ rw away (any_push p ks t) ]

-- the place of a text that is none of the texts is behind them
place_behind : (ks : List (List ℕ)) (t : List ℕ) → list_any (bytes_eq t) ks ≡ false → place_in ks t ≡ length ks
place_behind [] t absent = refl
place_behind (k ∷ ks) t absent = elim (cases (bytes_eq t k)) [
  | inl same ↦ let here = rw same at absent in absurd cc
  | inr apart ↦
      let later : list_any (bytes_eq t) ks ≡ false = rw apart at absent in
      rw (apart, one-add) (omega (arith, place_behind ks t later))
]

-- what a map has where a text was put in at the place behind the others
place_among_push : (ks : List (List ℕ)) (t u : List ℕ) → list_any (bytes_eq t) ks ≡ false → place_among (ks ++ t ∷ []) u ≡ cond (bytes_eq t u) (Some (length ks)) (place_among ks u)
place_among_push ks t u absent = elim (cases (bytes_eq t u)) [
  | inl same ↦
      let u_is : t ≡ u = same_text t u same in
      let last : place_in (ks ++ t ∷ []) t ≡ length ks = place_last ks t ∙ place_behind ks t absent in
      let here : list_any (bytes_eq t) (ks ++ t ∷ []) ≡ true = any_push (bytes_eq t) ks t ∙ rw (absent, text_itself t) refl in
      rw (same, sym u_is, here, last) refl
  | inr apart ↦
      let back : bytes_eq u t ≡ false = apart_back t u apart in
      elim (cases (list_any (bytes_eq u) ks)) [
        | inl among ↦
            let here : list_any (bytes_eq u) (ks ++ t ∷ []) ≡ true = any_push (bytes_eq u) ks t ∙ rw among refl in
            rw (apart, here, among, place_before ks t u among) refl
        | inr none ↦
            let away : list_any (bytes_eq u) (ks ++ t ∷ []) ≡ false = any_push (bytes_eq u) ks t ∙ rw (none, back) refl in
            rw (apart, away, none) refl
      ]
]

-- the map with a new text
pub enters_new : (texts : List (List ℕ)) (text : List ℕ) (place : ℕ) (old new : BTreeMap (Bor (List ℕ)) ℕ) → IsDictionary texts old → list_any (bytes_eq text) texts ≡ false → place ≡ btree_map_len old → btree_map_len new ≡ btree_map_len old + 1
    → UpdatesBy (λ x y. slice_cmp nat_cmp x.now y.now) (λ key. slice_cmp nat_cmp text key.now) old new (Some place) → Enters texts text place true new
enters_new texts text place old new is absent place_e size updates =
    let last : place ≡ length texts = place_e ∙ is.size in
    record {
      place_is = last ∙ sym (place_behind texts text absent);
      new_is = rw absent refl;
      dictionary_is = rw absent (record {
        size = size ∙ ap (λ (n : ℕ). n + 1) is.size ∙ sym (length-append texts (text ∷ []));
        places = λ u. btree_map_updates_str text old new (Some place) updates u ∙ ap (λ o. cond (bytes_eq text u) (Some place) o) (is.places u) ∙ ap (λ (n : ℕ). cond (bytes_eq text u) (Some n) (place_among texts u)) last
            ∙ sym (place_among_push texts text u absent);
      });
    }

-- the map with a text that was there, at its old place again
pub enters_again : (texts : List (List ℕ)) (text : List ℕ) (other place : ℕ) (old middle new : BTreeMap (Bor (List ℕ)) ℕ) → IsDictionary texts old → IsTextPlace texts text place → btree_map_len new ≡ btree_map_len old
    → UpdatesBy (λ x y. slice_cmp nat_cmp x.now y.now) (λ key. slice_cmp nat_cmp text key.now) old middle (Some other) → UpdatesBy (λ x y. slice_cmp nat_cmp x.now y.now) (λ key. slice_cmp nat_cmp text key.now) middle new (Some place)
    → Enters texts text place false new
enters_again texts text other place old middle new is at size away back = record {
  place_is = at.place_is;
  new_is = rw at.among refl;
  dictionary_is = rw at.among (record {
    size = size ∙ is.size;
    places = λ u.
        let last = btree_map_updates_str text middle new (Some place) back u in
        let first = btree_map_updates_str text old middle (Some other) away u in
        elim (cases (bytes_eq text u)) [
          | inl same ↦
              let u_is : text ≡ u = same_text text u same in
              let has : place_among texts u ≡ Some place = rw (sym u_is, at.among) (ap Some (sym at.place_is)) in
              let now = rw same at last in
              now ∙ sym has
          | inr apart ↦
              let now = rw apart at last in
              let before = rw apart at first in
              now ∙ before ∙ is.places u
        ];
  });
}

-- what the map has for a text is the text's place
pub some_place : (texts : List (List ℕ)) (text : List ℕ) (place : ℕ) → place_among texts text ≡ Some place → IsTextPlace texts text place
some_place texts text place e = elim (cases (list_any (bytes_eq text) texts)) [
  | inl among ↦
      let found : Some (place_in texts text) ≡ Some place = rw among at e in
      record { among = among; place_is = cc }
  | inr absent ↦ let none : None ≡ Some place = rw absent at e in absurd cc
]

pub place_missing : (texts : List (List ℕ)) (text : List ℕ) → place_among texts text ≡ None → list_any (bytes_eq text) texts ≡ false
place_missing texts text none = elim (cases (list_any (bytes_eq text) texts)) [
  | inl among ↦ let some : Some (place_in texts text) ≡ None = rw among at none in absurd cc
  | inr absent ↦ absent
]

-- a map without entries
pub empty_dictionary : (m : BTreeMap (Bor (List ℕ)) ℕ) → m.entries ≡ [] → btree_map_len m ≡ 0 → IsDictionary (first_uses []) m
unfolding first_uses
empty_dictionary m empty size = record { size = size; places = λ text. rw empty refl }

-- a value so far that is the text tells the text's place
pub known_is_place : (values : List (List ℕ)) (i : ℕ) (places : List ℕ) (text : List ℕ) (place : ℕ) → i ≤ length values → places ≡ map (place_in (first_uses (take i values))) (take i values) → IsKnown values places text place
    → IsTextPlace (first_uses (take i values)) text place
known_is_place values i places text place le are known =
    let xs = take i values in
    let among_xs : known.index < length xs = omega (arith, known.within, length-map xs (place_in (first_uses xs)), ap length are) in
    let before : known.index < i = omega (arith, among_xs, length-take i values) in
    let is : get_or xs known.index text ≡ text = get_or-take i values known.index text before ∙ known.value_is in
    let used = All-from_recursion (λ u. list_any (bytes_eq u) (first_uses xs) ≡ true) xs (all_used xs) known.index text among_xs in
    record {
      among = ap (λ u. list_any (bytes_eq u) (first_uses xs)) (sym is) ∙ used;
      place_is = known.place_is ∙ ap (λ ps. get_or ps known.index place) are ∙ get_or-map (place_in (first_uses xs)) xs known.index text place among_xs ∙ ap (place_in (first_uses xs)) is;
    }
