-- The least born of listed files, and the lists after a flush.
use Rattle.std.proofs.Common.{◌≡◌, inl, ⊎_elim, ℕ, ◌+◌, ◌<◌, ◌≤◌, List, [], ◌∷◌, ◌++◌, length}
use Rattle.std.proofs.Common.{drop, get_or, Option, Some, None, refl, sym, ap, subst, ◌∙◌, add-one}
use Rattle.std.proofs.Math.Seq.{drop-cons}
use Rattle.std.proofs.lemmas.List.{drop_all, map-append}
use Rattle.tsdb_base.specs.declared.ids.Stamp.{Stamp}
use Rattle.tsdb_base.specs.Lists.{Among}
use Rattle.tsdb_base.proofs.Lists.{among_left, among_right, each_among, each_from_among}
use Rattle.tsdb_memory.specs.Least.{IsLeastOf, least_with, lesser_born}
use Rattle.tsdb_memory.proofs.Borns.{least_all}
use Rattle.tsdb_memory.proofs.Counts.{among_either}
use Rattle.tsdb_redo.specs.Lists.{AreListsOf, borns_of_files, listed_files}
use Rattle.tsdb_redo.specs.declared.lists.FileLists.{FileLists}
use Rattle.tsdb_redo.specs.declared.lists.ListedFile.{ListedFile}
use Rattle.tsdb_state.specs.State.{File, StoreState}

-- the loop over files

pub at_next : (files : List ListedFile) (i : ℕ) (d : ListedFile) (least : Option Stamp) → i < length files
    → least_with least (borns_of_files (listed_files (drop i files)))
    ≡ least_with (Some (lesser_born least (get_or files i d).born.0)) (borns_of_files (listed_files (drop (i + 1) files)))
at_next files i d least below =
    ap (λ l. least_with least (borns_of_files (listed_files l)))
    (drop-cons files i d below ∙ ap (λ n. get_or files i d ∷ drop n files) (sym (add-one i)))

pub at_end : (files : List ListedFile) (i : ℕ) (least : Option Stamp) → length files ≤ i
    → least_with least (borns_of_files (listed_files (drop i files))) ≡ least
at_end files i least end = ap (λ l. least_with least (borns_of_files (listed_files l))) (drop_all i files end)

-- it is the least of numbers by what is among them
least_members : (least : Option Stamp) (a b : List ℕ) → ((n : ℕ) → Among n a → Among n b)
    → ((n : ℕ) → Among n b → Among n a) → IsLeastOf least a → IsLeastOf least b
least_members None a b to from none = by b from
  where
    by : (b : List ℕ) → ((n : ℕ) → Among n b → Among n a) → b ≡ []
    by [] from = refl
    by (x ∷ b) from = absurd (subst (Among x) none (from x (inl refl)))
least_members (Some least) a b to from is = (
  to least.0 is.0,
  each_from_among (λ born. least.0 ≤ born) b (λ n among. each_among (λ born. least.0 ≤ born) a n is.1 (from n among)),
)

-- four lists in another order
among_moved : (n : ℕ) (a b c d : List ℕ) → Among n (((a ++ b) ++ c) ++ d) → Among n ((a ++ c) ++ (b ++ d))
among_moved n a b c d among = ⊎_elim
    (λ abc. ⊎_elim
    (λ ab. ⊎_elim (λ in_a. among_left (a ++ c) (b ++ d) n (among_left a c n in_a))
    (λ in_b. among_right (a ++ c) (b ++ d) n (among_left b d n in_b)) (among_either a b n ab))
    (λ in_c. among_left (a ++ c) (b ++ d) n (among_right a c n in_c)) (among_either (a ++ b) c n abc))
    (λ in_d. among_right (a ++ c) (b ++ d) n (among_right b d n in_d))
    (among_either ((a ++ b) ++ c) d n among)

among_back : (n : ℕ) (a b c d : List ℕ) → Among n ((a ++ c) ++ (b ++ d)) → Among n (((a ++ b) ++ c) ++ d)
among_back n a b c d among = ⊎_elim
    (λ ac. ⊎_elim
    (λ in_a. among_left ((a ++ b) ++ c) d n (among_left (a ++ b) c n (among_left a b n in_a)))
    (λ in_c. among_left ((a ++ b) ++ c) d n (among_right (a ++ b) c n in_c)) (among_either a c n ac))
    (λ bd. ⊎_elim
    (λ in_b. among_left ((a ++ b) ++ c) d n (among_left (a ++ b) c n (among_right a b n in_b)))
    (λ in_d. among_right ((a ++ b) ++ c) d n in_d) (among_either b d n bd))
    (among_either (a ++ c) (b ++ d) n among)

borns_append : (xs ys : List File) → borns_of_files (xs ++ ys) ≡ borns_of_files xs ++ borns_of_files ys
borns_append xs ys = map-append (λ (file : File). file.born) xs ys

-- the least of two lists, and of what each has more
pub least_more : (least : Option Stamp) (s u more later : List File) → IsLeastOf least (borns_of_files (s ++ u))
    → IsLeastOf (least_with (least_with least (borns_of_files more)) (borns_of_files later))
    (borns_of_files ((s ++ more) ++ (u ++ later)))
least_more least s u more later is =
    let bs = borns_of_files s in
    let bu = borns_of_files u in
    let bm = borns_of_files more in
    let bl = borns_of_files later in
    subst (IsLeastOf (least_with (least_with least bm) bl))
    (sym (borns_append (s ++ more) (u ++ later)
    ∙ ap (λ l. l ++ borns_of_files (u ++ later)) (borns_append s more)
    ∙ ap (λ l. (bs ++ bm) ++ l) (borns_append u later)))
    (least_members (least_with (least_with least bm) bl) (((bs ++ bu) ++ bm) ++ bl) ((bs ++ bm) ++ (bu ++ bl))
    (λ n. among_moved n bs bu bm bl) (λ n. among_back n bs bu bm bl)
    (least_all (least_with least bm) ((bs ++ bu) ++ bm) bl
    (least_all least (bs ++ bu) bm (subst (IsLeastOf least) (borns_append s u) is))))

-- the least of two lists from nothing
pub least_of_lists : (s u : List File)
    → IsLeastOf (least_with (least_with None (borns_of_files s)) (borns_of_files u)) (borns_of_files (s ++ u))
least_of_lists s u = subst (IsLeastOf (least_with (least_with None (borns_of_files s)) (borns_of_files u))) (sym (borns_append s u))
    (least_all (least_with None (borns_of_files s)) (borns_of_files s) (borns_of_files u) (least_all None [] (borns_of_files s) refl))

-- the lists after a flush
pub lists_flushed : (old new : FileLists) (more later : List File) (state : StoreState)
    → listed_files new.sequence.items ≡ listed_files old.sequence.items ++ more
    → listed_files new.unsequence.items ≡ listed_files old.unsequence.items ++ later
    → new.least ≡ least_with (least_with old.least (borns_of_files more)) (borns_of_files later)
    → AreListsOf old state
    → AreListsOf new (record state { sequence = state.sequence ++ more; unsequence = state.unsequence ++ later })
lists_flushed old new more later state s u least are = record {
  sequence = s ∙ ap (λ l. l ++ more) are.sequence;
  unsequence = u ∙ ap (λ l. l ++ later) are.unsequence;
  least = subst (λ o. IsLeastOf o (borns_of_files ((state.sequence ++ more) ++ (state.unsequence ++ later)))) (sym least)
      (least_more old.least state.sequence state.unsequence more later are.least);
}
