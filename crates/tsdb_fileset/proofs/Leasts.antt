-- The least born, once one more file is listed.
use Rattle.std.proofs.Common.{◌≡◌, ℕ, ◌≤◌, inl, inr, List, [], ◌∷◌, ◌++◌, map, Option, Some, sym, ap, subst, ◌∙◌}
use Rattle.std.specs.List.{AllByRecursion as Each}
use Rattle.std.proofs.lemmas.List.{append_assoc, map-append}
use Rattle.tsdb_base.specs.declared.ids.Space.{Space}
use Rattle.tsdb_base.specs.declared.ids.Space.TheVariants.{Sequence, Unsequence}
use Rattle.tsdb_base.specs.declared.ids.Stamp.{Stamp}
use Rattle.tsdb_fileset.specs.Files.{Appends, KeptFiles, listed_borns}
use Rattle.tsdb_base.specs.Lists.{Among}
use Rattle.tsdb_base.proofs.Lists.{each_append, each_left, each_right}
use Rattle.tsdb_flush.specs.Least.{IsLeastOf, lesser_born}
use Rattle.tsdb_flush.proofs.Borns.{least_push}
use Rattle.tsdb_plan.specs.declared.entry.FileEntry.{FileEntry}

among_moved : (n x : ℕ) (front back : List ℕ) → Among n ((front ++ back) ++ x ∷ [])
    → Among n ((front ++ x ∷ []) ++ back)
among_moved n x [] back among = last back among
  where
    last : (back : List ℕ) → Among n (back ++ x ∷ []) → Among n (x ∷ back)
    last [] among = among
    last (b ∷ back) (inl is) = inr (inl is)
    last (b ∷ back) (inr among) = first (last back among)
      where
        first : Among n (x ∷ back) → Among n (x ∷ b ∷ back)
        first (inl is) = inl is
        first (inr among) = inr (inr among)
among_moved n x (f ∷ front) back (inl is) = inl is
among_moved n x (f ∷ front) back (inr among) = inr (among_moved n x front back among)

each_moved : (P : ℕ → Type 0) (x : ℕ) (front back : List ℕ) → Each P ((front ++ back) ++ x ∷ [])
    → Each P ((front ++ x ∷ []) ++ back)
each_moved P x front back all =
    let both = each_left P (front ++ back) (x ∷ []) all in
    each_append P (front ++ x ∷ []) back
    (each_append P front (x ∷ []) (each_left P front back both) (each_right P (front ++ back) (x ∷ []) all))
    (each_right P front back both)

abbrev borns : List FileEntry → List ℕ
borns entries = map (λ entry. entry.born.0) entries

pub least_appended : (space : Space) (entry : FileEntry) (least : Option Stamp) (old new : KeptFiles)
    → Appends space entry old new → IsLeastOf least (listed_borns old)
    → IsLeastOf (Some (lesser_born least entry.born.0)) (listed_borns new)
least_appended Sequence entry least old new is was =
    let all = least_push least (listed_borns old) entry.born.0 was in
    let split = map-append (λ e. e.born.0) old.sequence old.unsequence in
    let now : listed_borns new ≡ (borns old.sequence ++ entry.born.0 ∷ []) ++ borns old.unsequence =
    ap (map (λ e. e.born.0)) (λ i. is.0 i ++ is.1 i)
    ∙ map-append (λ e. e.born.0) (old.sequence ++ entry ∷ []) old.unsequence
    ∙ ap (λ front. front ++ borns old.unsequence) (map-append (λ e. e.born.0) old.sequence (entry ∷ [])) in
    let l = lesser_born least entry.born.0 in
    let parts = subst (λ bs. IsLeastOf (Some l) (bs ++ entry.born.0 ∷ [])) split all in
    subst (IsLeastOf (Some l)) (sym now) (
      among_moved l.0 entry.born.0 (borns old.sequence) (borns old.unsequence) parts.0,
      each_moved (λ born. l.0 ≤ born) entry.born.0 (borns old.sequence) (borns old.unsequence) parts.1,
    )
least_appended Unsequence entry least old new is was =
    let now : listed_borns new ≡ listed_borns old ++ entry.born.0 ∷ [] =
    ap (map (λ e. e.born.0)) ((λ i. is.0 i ++ is.1 i) ∙ sym (append_assoc old.sequence old.unsequence (entry ∷ [])))
    ∙ map-append (λ e. e.born.0) (old.sequence ++ old.unsequence) (entry ∷ []) in
    subst (IsLeastOf (Some (lesser_born least entry.born.0))) (sym now)
    (least_push least (listed_borns old) entry.born.0 was)
