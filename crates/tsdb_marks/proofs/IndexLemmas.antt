-- What a series has after an entry of the map is put in, changed or dropped.
use Rattle.std.proofs.Common.{◌≡◌, ◌≢◌, ℕ, Bool, true, false, cond, not, List, [], ◌∷◌, map, length, Option, None, Some, Ordering, refl, sym, ap, ◌∙◌, ◌==◌, arith}
use Rattle.std.specs.Prelude.{◌&&◌}
use Rattle.std.specs.List.{filter}
use Rattle.std.specs.List.Sorted.{IsStrictlySortedBy}
use Rattle.std.specs.Cmp.Lexicographic.{nat_list_cmp_total}
use Rattle.std.specs.Option.{option_map}
use Rattle.std.specs.Map.{keys_of}
use Rattle.std.proofs.lemmas.Bool.{ne_eqb}
use Rattle.std.proofs.lemmas.Cmp.{eq_by_cmp_equiv}
use Rattle.std.proofs.lemmas.Map.Entries.{lookup-filter-values, option_filter}
use Rattle.std.proofs.lemmas.Map.Keys.{IsDistinct-from_sorted}
use Rattle.std.proofs.lemmas.Map.Made.{lookup-map_values}
use Rattle.tsdb_marks.specs.declared.run.Step.{Step}
use Rattle.std.specs.Ordering.{is_eq, nat_cmp}
use Rattle.std.specs.Cmp.Lexicographic.{slice_cmp}
use Rattle.std.specs.Map.{lookup}
use Rattle.std.specs.Option.{unwrap_or}
use Rattle.std.specs.declared.cmp.Ordering.TheVariants.{Less, Equal, Greater}
use Rattle.std.proofs.lemmas.Bool.{false≢true}
use Rattle.std.proofs.lemmas.Map.Lookups.{exact_bytes}
use Rattle.tsdb_marks.specs.Index.{Entries, at, is_path}
use Rattle.tsdb_marks.specs.Series.{SeriesMarks, has_none, no_marks, without_old}

equal : (o : Ordering) → is_eq o ≡ true → o ≡ Equal
equal Less h = absurd (false≢true h)
equal Equal h = refl
equal Greater h = absurd (false≢true h)

pub one_path : (path other : List ℕ) → is_path path other ≡ true → path ≡ other
one_path path other h = exact_bytes path other (equal (slice_cmp nat_cmp path other) h)

-- where no other entry changes
pub at_other : (path other : List ℕ) (b : Bool) (old new : Option SeriesMarks) (s : SeriesMarks) → b ≡ is_path path other → path ≢ other → new ≡ cond b (Some s) old → unwrap_or new no_marks ≡ unwrap_or old no_marks
at_other path other true old new s q ne e = absurd (ne (one_path path other (sym q)))
at_other path other false old new s q ne e = ap (λ o. unwrap_or o no_marks) e

-- where the entry stays what it was
pub at_same : (path other : List ℕ) (b : Bool) (old new : Option SeriesMarks) (s : SeriesMarks) → b ≡ is_path path other → (path ≡ other → old ≡ Some s) → new ≡ cond b (Some s) old → unwrap_or new no_marks ≡ unwrap_or old no_marks
at_same path other true old new s q is e = ap (λ o. unwrap_or o no_marks) (e ∙ sym (is (one_path path other (sym q))))
at_same path other false old new s q is e = ap (λ o. unwrap_or o no_marks) e

-- after each series drops its old versions, and those without a mark are dropped

none_is : (versions : List ℕ) (runs : List (List Step)) → has_none (record { versions = versions; runs = runs }) ≡ true → no_marks ≡ record { versions = versions; runs = runs }
none_is [] [] h = refl
none_is [] (x ∷ runs) h = absurd (false≢true (sym (ne_eqb (length (x ∷ runs)) 0 (λ e. omega (arith, e))) ∙ h))
none_is (x ∷ versions) runs h = absurd (false≢true (sym (ap (λ b. b && (length runs == 0)) (ne_eqb (length (x ∷ versions)) 0 (λ e. omega (arith, e)))) ∙ h))

full-same : (v : ℕ) (o : Option SeriesMarks) → unwrap_or (option_filter (λ s. not (has_none s)) (option_map (without_old v) o)) no_marks ≡ without_old v (unwrap_or o no_marks)
full-same v None = refl
full-same v (Some s) =
    let w = without_old v s in
    let here : (b : Bool) → has_none w ≡ b → unwrap_or (cond (not b) (Some w) None) no_marks ≡ w = λ b. elim b as (λ b. has_none w ≡ b → unwrap_or (cond (not b) (Some w) None) no_marks ≡ w) [ true ↦ λ q. none_is w.versions w.runs q | false ↦ λ q. refl ] in
    here (has_none w) refl

pub dropped_at : (v : ℕ) (path : List ℕ) (es fs gs : Entries) → fs ≡ map (λ e. (e.0, without_old v e.1)) es → gs ≡ filter (λ e. not (has_none e.1)) fs → IsStrictlySortedBy (slice_cmp nat_cmp) (keys_of fs)
    → at gs path ≡ without_old v (at es path)
dropped_at v path es fs gs mapped full sorted =
    ap (λ xs. unwrap_or (lookup (is_path path) xs) no_marks) full
    ∙ ap (λ o. unwrap_or o no_marks) (lookup-filter-values (eq_by_cmp_equiv nat_list_cmp_total) (λ s. not (has_none s)) path fs (IsDistinct-from_sorted (slice_cmp nat_cmp) (keys_of fs) sorted))
    ∙ ap (λ xs. unwrap_or (option_filter (λ s. not (has_none s)) (lookup (is_path path) xs)) no_marks) mapped
    ∙ ap (λ o. unwrap_or (option_filter (λ s. not (has_none s)) o) no_marks) (lookup-map_values (without_old v) (is_path path) es)
    ∙ full-same v (lookup (is_path path) es)
