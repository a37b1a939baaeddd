-- The marks of the series of an input leave the same of its points as all marks.
use Rattle.std.proofs.Common.{◌≡◌, inl, inr, ℕ, Bool, true, false, cond, not, List, [], ◌∷◌, Option, Some, None}
use Rattle.std.proofs.Common.{refl, sym, ap, ◌∙◌}
use Rattle.std.specs.Prelude.{◌&&◌, ◌||◌, int_le, nat_eq, nat_lt}
use Rattle.std.specs.Cmp.Lexicographic.{pointwise}
use Rattle.std.specs.FinMap.{get}
use Rattle.std.specs.List.{filter, list_any}
use Rattle.std.proofs.lemmas.Bool.{eq-eqb, false≢true}
use Rattle.tsdb_base.specs.declared.value.Value.{Value}
use Rattle.tsdb_state.proofs.LayerLemmas.Places.{is_path_same}
use Rattle.tsdb_state.specs.Layers.{survivor}
use Rattle.tsdb_base.specs.Lists.{Among}
use Rattle.tsdb_state.specs.Marks.{is_over, survives}
use Rattle.tsdb_state.specs.Places.{Content, PointPlace, is_path}
use Rattle.tsdb_marks.specs.Lists.{is_of}
use Rattle.tsdb_marks.specs.declared.marks.Mark.{Mark}
use Rattle.tsdb_state.specs.Jobs.{Describes}
use Rattle.tsdb_state.specs.State.{KnownFile}

same_path : (path : List ℕ) → pointwise nat_eq path path ≡ true
same_path [] = refl
same_path (x ∷ path) = λ i. eq-eqb x x refl i && same_path path i

-- a mark of none of the series is not over a place of one of them
not_over : (paths : List (List ℕ)) (mark : Mark) (place : PointPlace) → Among place.path paths → is_of paths mark ≡ false
    → is_over mark place ≡ false
not_over paths mark place among none = by (is_path mark.path place.path) refl
  where
    any : (paths : List (List ℕ)) → Among place.path paths → mark.path ≡ place.path
        → list_any (λ p. pointwise nat_eq p mark.path) paths ≡ true
    any [] among same = absurd among
    any (p ∷ paths) (inl is) same = ap (λ (b : Bool). b || list_any (λ p. pointwise nat_eq p mark.path) paths)
        (ap (λ (q : List ℕ). pointwise nat_eq q mark.path) (is ∙ sym same) ∙ same_path mark.path)
    any (p ∷ paths) (inr among) same = either (pointwise nat_eq p mark.path) (any paths among same)
      where
        either : (b : Bool) → list_any (λ p. pointwise nat_eq p mark.path) paths ≡ true
            → (b || list_any (λ p. pointwise nat_eq p mark.path) paths) ≡ true
        either true h = refl
        either false h = h

    by : (b : Bool) → is_path mark.path place.path ≡ b
        → (is_path mark.path place.path && (int_le mark.from place.time && int_le place.time mark.to)) ≡ false
    by false e = ap (λ (b : Bool). b && (int_le mark.from place.time && int_le place.time mark.to)) e
    by true e = absurd (false≢true (sym none ∙ any paths among (is_path_same mark.path place.path e)))

survives_alike : (paths : List (List ℕ)) (place : PointPlace) (born : ℕ) → Among place.path paths → (marks : List Mark)
    → survives (filter (is_of paths) marks) place born ≡ survives marks place born
survives_alike paths place born among [] = refl
survives_alike paths place born among (mark ∷ marks) =
    by (is_of paths mark) refl (survives_alike paths place born among marks)
  where
    left : List Mark
    left = filter (is_of paths) marks

    by : (b : Bool) → is_of paths mark ≡ b → survives left place born ≡ survives marks place born
        → survives (cond (is_of paths mark) (mark ∷ left) left) place born
        ≡ (not (is_over mark place && nat_lt born mark.version.0) && survives marks place born)
    by true e rest = ap (λ (b : Bool). survives (cond b (mark ∷ left) left) place born) e
        ∙ ap (λ (b : Bool). not (is_over mark place && nat_lt born mark.version.0) && b) rest
    by false e rest = ap (λ (b : Bool). survives (cond b (mark ∷ left) left) place born) e ∙ rest
        ∙ sym (ap (λ (b : Bool). not (b && nat_lt born mark.version.0) && survives marks place born)
        (not_over paths mark place among e))

pub marks_suffice : (paths : List (List ℕ)) (marks : List Mark) (entry : KnownFile) (content : Content) (born : ℕ)
    → Describes entry content → ((path : List ℕ) → Among path entry.series → Among path paths) → (place : PointPlace)
    → survivor (filter (is_of paths) marks) place (record { born = born; content = content })
    ≡ survivor marks place (record { born = born; content = content })
marks_suffice paths marks entry content born describes all place = by (get content place) refl
  where
    none : (b : Bool) → ◌≡◌ {A = Option Value} (cond b None None) None
    none true = refl
    none false = refl

    by : (o : Option Value) → get content place ≡ o
        → ◌≡◌ {A = Option Value} (cond (survives (filter (is_of paths) marks) place born) (get content place) None)
        (cond (survives marks place born) (get content place) None)
    by None has = ap (λ (o : Option Value). cond (survives (filter (is_of paths) marks) place born) o None) has
        ∙ none (survives (filter (is_of paths) marks) place born) ∙ sym (none (survives marks place born))
        ∙ sym (ap (λ (o : Option Value). cond (survives marks place born) o None) has)
    by (Some value) has = ap (λ (b : Bool). cond b (get content place) None)
        (survives_alike paths place born (all place.path ((describes.series place.path).1 (place, value, refl, has)))
        marks)
