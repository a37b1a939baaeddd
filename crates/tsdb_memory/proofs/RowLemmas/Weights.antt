-- Sums over the values of a content: what a put does to them, and those of listed points.
use Rattle.std.proofs.Common.{◌≡◌, ◌≢◌, inl, ℕ, ◌+◌, ◌≤◌, Bool, true, false, cond, List, [], ◌∷◌, length}
use Rattle.std.proofs.Common.{Option, Some, None, refl, sym, ap, subst, ◌∙◌, arith}
use Rattle.std.specs.Prelude.{IsSome, sum_by}
use Rattle.std.specs.FinMap.{empty, entries, entries-insert, get, get-empty, get-entries, get-insert}
use Rattle.std.specs.FinMap.{get-remove, insert}
use Rattle.std.specs.FinMap.{len-empty, len-entries, put, remove}
use Rattle.std.specs.FinMap.Entries.{by_order, find}
use Rattle.std.specs.Ordering.{eq_by_cmp, is_eq}
use Rattle.std.specs.declared.cmp.Ordering.{Ordering}
use Rattle.std.specs.declared.cmp.Ordering.TheVariants.{Less, Equal, Greater}
use Rattle.std.proofs.lemmas.Bool.{false≢true}
use Rattle.std.proofs.lemmas.List.Sums.{sum_by-cons}
use Rattle.tsdb_base.specs.declared.value.Value.{Value}
use Rattle.tsdb_state.proofs.LayerLemmas.Places.{place_cmp_total, same_content}
use Rattle.tsdb_base.specs.Lists.{Among, EachPair}
use Rattle.tsdb_state.specs.Places.{Content, PointPlace, place_cmp}
use Rattle.tsdb_memory.proofs.Counts.{AreKeys, keys_left, left_at, none_of, put_back, removed_none}

no_key : (rows : List (PointPlace × Value)) → length rows ≡ 0 → rows ≡ []
no_key [] e = refl
no_key (row ∷ rows) e = absurd (omega (arith, e))

swap_sums : (a b s r : ℕ) → s ≡ b + r → a + s ≡ b + (a + r)
swap_sums a b s r e = omega (arith, e)

-- a put in the place of the old value
pub insert_again : (content : Content) (p : PointPlace) (v : Value)
    → insert content p v ≡ insert (remove content p) p v
insert_again content p v = same_content (insert content p v) (insert (remove content p) p v) (λ q.
    get-insert place_cmp_total content p v q
    ∙ sym (get-insert place_cmp_total (remove content p) p v q
    ∙ ap (cond (eq_by_cmp place_cmp q p) (Some v)) (get-remove place_cmp_total content p q)
    ∙ twice (eq_by_cmp place_cmp q p) (get content q)))
  where
    twice : (b : Bool) (o : Option Value) → cond b (Some v) (cond b None o) ≡ cond b (Some v) o
    twice true o = refl
    twice false o = refl

module _ (weight : Value → ℕ) where
  abbrev sum_of : List (PointPlace × Value) → ℕ
  sum_of rows = sum_by (λ (row : PointPlace × Value). weight row.1) rows

  -- the weights of all values of a content
  abbrev pub total : Content → ℕ
  total content = sum_of (entries content)

  pub total_empty : total empty ≡ 0
  total_empty = ap sum_of (no_key (entries empty) (sym (len-entries empty) ∙ len-empty place_cmp Value))

  put_adds : (rows : List (PointPlace × Value)) (p : PointPlace) (v : Value) → find place_cmp p rows ≡ None
      → sum_of (put place_cmp p v rows) ≡ weight v + sum_of rows
  put_adds [] p v none = omega arith
  put_adds (row ∷ rows) p v none = cases (place_cmp p row.0) (λ k. put_adds rows p v k) none
    where
      cases : (o : Ordering)
          → (find place_cmp p rows ≡ None → sum_of (put place_cmp p v rows) ≡ weight v + sum_of rows)
          → cond (is_eq o) (Some row.1) (find place_cmp p rows) ≡ None
          → sum_of (by_order o ((p, v) ∷ row ∷ rows) ((row.0, v) ∷ rows) (row ∷ put place_cmp p v rows))
          ≡ weight v + sum_of (row ∷ rows)
      cases Less rest e = sum_by-cons (λ (row : PointPlace × Value). weight row.1) (p, v) (row ∷ rows)
      cases Equal rest e = cc
      cases Greater rest e =
          sum_by-cons (λ (row : PointPlace × Value). weight row.1) row (put place_cmp p v rows)
          ∙ swap_sums (weight row.1) (weight v) (sum_of (put place_cmp p v rows)) (sum_of rows) (rest e)
          ∙ ap (λ n. weight v + n) (sym (sum_by-cons (λ (row : PointPlace × Value). weight row.1) row rows))

  pub insert_adds : (content : Content) (p : PointPlace) (v : Value) → get content p ≡ None
      → total (insert content p v) ≡ weight v + total content
  insert_adds content p v none =
      ap sum_of (entries-insert place_cmp_total content p v)
      ∙ put_adds (entries content) p v (sym (get-entries content p) ∙ none)

  pub total_split : (content : Content) (p : PointPlace) (v : Value) → get content p ≡ Some v
      → total content ≡ weight v + total (remove content p)
  total_split content p v at =
      ap total (put_back content p v at) ∙ insert_adds (remove content p) p v (removed_none content p)

  -- a value that is put adds its weight at most
  pub total_put : (content : Content) (p : PointPlace) (v : Value) → total (insert content p v) ≤ weight v + total content
  total_put content p v = by (get content p) refl
    where
      again : total (insert content p v) ≡ weight v + total (remove content p)
      again = ap total (insert_again content p v) ∙ insert_adds (remove content p) p v (removed_none content p)

      by : (o : Option Value) → get content p ≡ o → total (insert content p v) ≤ weight v + total content
      by None e = omega (arith, insert_adds content p v e)
      by (Some old) e = omega (arith, again, total_split content p old e)

  -- a content has the weights of its places
  pub total_of : (at : PointPlace → ℕ) (places : List PointPlace) (content : Content)
      → EachPair (λ (p q : PointPlace). p ≢ q) places → AreKeys places content
      → ((q : PointPlace) (v : Value) → get content q ≡ Some v → at q ≡ weight v)
      → total content ≡ sum_by at places
  total_of at [] content differ are is =
      ap total (same_content content empty
      (λ q. none_of (get content q) (λ some. nothing q ((are q).1 some)) ∙ sym (get-empty place_cmp q)))
      ∙ total_empty
    where
      nothing : (q : PointPlace) → Among q [] → ⊥
      nothing q among = absurd among
  total_of at (p ∷ places) content differ are is =
      by (get content p) refl
      (total_of at places (remove content p) differ.1 (keys_left p places content differ are)
      (λ q w there. is q w (left_at content p q w there)))
    where
      by : (o : Option Value) → get content p ≡ o → total (remove content p) ≡ sum_by at places
          → total content ≡ sum_by at (p ∷ places)
      by None e rest = absurd (false≢true (subst IsSome e ((are p).0 (inl refl))))
      by (Some v) e rest =
          total_split content p v e ∙ (λ i. sym (is p v e) i + rest i) ∙ sym (sum_by-cons at p places)
